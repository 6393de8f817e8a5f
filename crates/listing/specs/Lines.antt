-- The lines of a listing. Assumes nothing.
use Rattle.std.specs.Prelude.{ℕ, ◌+◌, List, [], ◌∷◌, ◌++◌, Some, None, vec_items, codes, decimal, Option}
use Rattle.grading.specs.declared.assay.Reading.{Reading}
use Rattle.grading.specs.declared.assay.Reading.TheVariants.{Measured, Below, Missing}
use Rattle.listing.specs.Amounts.{amount_text}
use Rattle.words.specs.declared.contents.Contents.{Contents}
use Rattle.words.specs.declared.refusal.Refusal.{Refusal}
use Rattle.words.specs.declared.token.Site.{Site}
use Rattle.words.specs.declared.token.Token.{Token}
use Rattle.words.specs.Contents.{label_text}
use Rattle.words.specs.Refusal.{refusal_text as refusal_line}
use Rattle.words.specs.Token.{entry, sites_in}

abbrev pub label_line : List ℕ → List ℕ
label_line text = codes "label " ++ (text ++ codes "\n")

abbrev pub place_text : {R : Type 0} → Site R → List ℕ
place_text s = let place = s.site.place in decimal place.x ++ (codes " " ++ (decimal place.y ++ (codes " " ++ decimal place.z)))

-- the site's number, place and penalty, and its reading in words
abbrev pub site_line : {R : Type 0} → ℕ → Site R → List ℕ → List ℕ
site_line number s reading =
    codes "site " ++ (decimal number ++ (codes " " ++ (place_text s ++ (codes " penalty " ++ (decimal s.site.penalty ++ (codes " " ++ (reading ++ codes "\n")))))))

abbrev pub end_line : ℕ → List ℕ
end_line sites = codes "end " ++ (decimal sites ++ codes "\n")

abbrev pub reading_text : Reading → List ℕ
reading_text (Measured v) = codes "measured " ++ amount_text v
reading_text (Below v) = codes "below " ++ amount_text v
reading_text Missing = codes "missing"

-- the line of a token; the next site has this number
abbrev pub token_line : ℕ → Token Reading → List ℕ
token_line number (Token.Label w text) = label_line text.now
token_line number (Token.Site s) = site_line number s (reading_text s.reading)
token_line number (Token.End n) = end_line n

abbrev pub token_lines : ℕ → List (Token Reading) → List ℕ
token_lines number [] = []
token_lines number (t ∷ ts) = token_line number t ++ token_lines (number + sites_in (entry t)) ts

-- the refusal line, where the file is refused
abbrev pub refusal_text : Option Refusal → List ℕ
refusal_text None = []
refusal_text (Some r) = refusal_line r.fault (label_text r.label)

-- sites are numbered from 4
abbrev pub listing_text : Contents Reading → List ℕ
listing_text c = token_lines 4 (vec_items c.tokens) ++ refusal_text c.refusal
