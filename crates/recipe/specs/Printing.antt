-- How labels and findings are printed. Assumes nothing. (docs/RULES.md, "Labels")
use Rattle.std.specs.Prelude.{ℕ, List, ◌++◌, Some, None, codes, decimal}
use Rattle.recipe.specs.declared.labels.Finding.{Finding}
use Rattle.recipe.specs.declared.labels.Label.{Label}

-- the name of the form, and the number that the label carries
abbrev pub label_text : Label → List ℕ
label_text Label.Nil = codes "nil"
label_text (Label.Leaf None) = codes "leaf"
label_text (Label.Leaf (Some number)) = codes "leaf " ++ decimal number
label_text (Label.Name number) = codes "name " ++ decimal number
label_text (Label.Local level) = codes "local " ++ decimal level
label_text Label.Bind = codes "bind"
label_text Label.Call = codes "call"

-- the label, or one of two words
abbrev pub finding_text : Finding → List ℕ
finding_text (Finding.Label l) = label_text l
finding_text Finding.Absent = codes "absent"
finding_text Finding.Open = codes "open"
