-- Tests of a whole list.
use Rattle.std.specs.Prelude.{Bool, List}
use Rattle.std.specs.List.{list_all, list_any}

-- every element passes
abbrev pub all : {X : Type 0} → (X → Bool) → List X → Bool
all p xs = list_all p xs

-- some element passes
abbrev pub some : {X : Type 0} → (X → Bool) → List X → Bool
some p xs = list_any p xs
