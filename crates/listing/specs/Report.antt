-- The lines of a listing. Assumes nothing. (docs/RULES.md, "Listings")
use Rattle.std.specs.Prelude.{ℕ, List, ◌++◌, codes, decimal, Some, None, Ok, Err, Option, Result, slice_index}
use Rattle.recipe.specs.Packing.{unpacked}
use Rattle.recipe.specs.Refusals.{refusal_text}
use Rattle.recipe.specs.declared.labels.Finding.{Finding}
use Rattle.recipe.specs.declared.labels.Label.{Label}
use Rattle.recipe.specs.declared.refusals.Refusal.{Refusal}

-- each line ends in a line feed
abbrev pub line : List ℕ → List ℕ
line bytes = bytes ++ codes "\n"

-- the line of a text that is refused
abbrev pub refused_text_line : Refusal → List ℕ
refused_text_line r = line (codes "text " ++ refusal_text r)

-- accepted, or the refusal
abbrev pub answer_text : Result (Unit {0}) Refusal → List ℕ
answer_text (Ok u) = codes "accepted"
answer_text (Err r) = refusal_text r

-- the line of a tell: both places, and the answer
abbrev pub tell_line : ℕ → ℕ → Result (Unit {0}) Refusal → List ℕ
tell_line p q r = line (codes "tell " ++ decimal p ++ codes " " ++ decimal q ++ codes " " ++ answer_text r)

-- the line of a last odd root
abbrev pub over_line : ℕ → List ℕ
over_line p = line (codes "over " ++ decimal p)

-- a leaf with its number, if it has one
abbrev pub leaf_text : Option ℕ → List ℕ
leaf_text None = codes "leaf"
leaf_text (Some number) = codes "leaf " ++ decimal number

-- a label as it is printed, but a name by its spelling in a list
abbrev pub spelled_label : List ℕ → Label → List ℕ
spelled_label names Label.Nil = codes "nil"
spelled_label names (Label.Leaf number) = leaf_text number
spelled_label names (Label.Name x) = codes "name " ++ unpacked (slice_index names x)
spelled_label names (Label.Local level) = codes "local " ++ decimal level
spelled_label names Label.Bind = codes "bind"
spelled_label names Label.Call = codes "call"

-- what was found: the label, or one of two words
abbrev pub found_text : List ℕ → Finding → List ℕ
found_text names (Finding.Label l) = spelled_label names l
found_text names Finding.Absent = codes "absent"
found_text names Finding.Open = codes "open"

-- what a look came to
abbrev pub look_text : List ℕ → Result Finding Refusal → List ℕ
look_text names (Ok f) = found_text names f
look_text names (Err r) = refusal_text r

-- the line of a hole: its spelling, and what the look at it came to
abbrev pub hole_line : List ℕ → ℕ → Result Finding Refusal → List ℕ
hole_line names hole r = line (unpacked hole ++ codes " " ++ look_text names r)
