-- The faults of a survey file, by problem and word; the number and the layer of each. Assumes nothing.
use Rattle.std.specs.Prelude.{ℕ, List, ◌++◌, codes, decimal}
use Rattle.survey.specs.Refusals.{number_of as refusal_number}
use Rattle.survey.specs.declared.refusal.Refusal.{Refusal}
use Rattle.words.specs.declared.fault.Fault.{Fault}
use Rattle.words.specs.declared.fault.Layer.{Layer}
use Rattle.words.specs.declared.fault.Layer.TheVariants.{Words, Grading, Survey}
use Rattle.words.specs.declared.fault.Problem.{Problem}
use Rattle.words.specs.declared.fault.Problem.TheVariants.{WrongLength, Misplaced, MalformedLabel, UnknownReading, WrongEnd, Refused, Other}

-- the number by which the rules name it
abbrev pub number_of : Problem → ℕ
number_of WrongLength = 20
number_of Misplaced = 21
number_of MalformedLabel = 22
number_of UnknownReading = 23
number_of WrongEnd = 24
number_of (Refused e) = refusal_number e
number_of (Other number layer) = number

-- the part of the software that finds it
abbrev pub layer_of : Problem → Layer
layer_of WrongLength = Words
layer_of Misplaced = Words
layer_of MalformedLabel = Words
layer_of UnknownReading = Grading
layer_of WrongEnd = Words
layer_of (Refused e) = Survey
layer_of (Other number layer) = layer

abbrev pub layer_name : Layer → List ℕ
layer_name Words = codes "words"
layer_name Grading = codes "grading"
layer_name Survey = codes "survey"

-- `refused N word W layer Y`
abbrev pub fault_words : Fault → List ℕ
fault_words f =
    codes "refused " ++ (decimal (number_of f.problem) ++ (codes " word " ++ (decimal f.word ++ (codes " layer " ++ layer_name (layer_of f.problem)))))

-- the length is no multiple of 4 from 4 to 32,768
abbrev pub wrong_length : Fault
wrong_length = record { word = 0; problem = WrongLength }

-- a word of this kind may not come here, or no word comes
abbrev pub misplaced : ℕ → Fault
misplaced w = record { word = w; problem = Misplaced }

-- the label at this label word is not well formed or not complete
abbrev pub malformed_label : ℕ → Fault
malformed_label w = record { word = w; problem = MalformedLabel }

-- the grading does not know this reading word
abbrev pub unknown_reading : ℕ → Fault
unknown_reading w = record { word = w; problem = UnknownReading }

-- the end word is not last, or has another count than the sites
abbrev pub wrong_end : ℕ → Fault
wrong_end w = record { word = w; problem = WrongEnd }

-- the survey refused the site at this site word
abbrev pub refused_site : Refusal → ℕ → Fault
refused_site e w = record { word = w; problem = Refused e }
