-- The numbers of a survey's refusals, and what they say.
use Rattle.std.specs.Prelude.{ℕ, List, ◌++◌, codes, decimal}
use Rattle.survey.specs.declared.refusal.Refusal.{Refusal}
use Rattle.survey.specs.declared.refusal.Refusal.TheVariants.{PointTable, TetTable, NotWhole, OffGrid, Penalty, Reading, PointsFull, PlaceTaken, NoConflict, TetsFull, ShellOpen, Vanishes, Unowned}

abbrev pub number_of : Refusal → ℕ
number_of PointTable = 1
number_of TetTable = 2
number_of NotWhole = 3
number_of OffGrid = 4
number_of Penalty = 5
number_of Reading = 6
number_of PointsFull = 7
number_of PlaceTaken = 8
number_of NoConflict = 9
number_of TetsFull = 10
number_of ShellOpen = 11
number_of (Vanishes q) = 12
number_of Unowned = 13

abbrev pub message : Refusal → List ℕ
message PointTable = codes "not 5 to 1,024 point records with a reading each"
message TetTable = codes "not 1 to 16,384 tetrahedron records"
message NotWhole = codes "the tables are not whole"
message OffGrid = codes "a coordinate is not from 1 to 800"
message Penalty = codes "the penalty is above 1,000,000"
message Reading = codes "the grading does not admit the reading"
message PointsFull = codes "no point record is unused"
message PlaceTaken = codes "a site has this place already"
message NoConflict = codes "the site conflicts with no tetrahedron"
message TetsFull = codes "the tetrahedra and the shell faces do not fit the table"
message ShellOpen = codes "a shell edge does not lie in exactly two shell faces"
message (Vanishes q) = codes "point " ++ decimal q ++ codes " would belong to no tetrahedron"
message Unowned = codes "no tetrahedron owns the place"
