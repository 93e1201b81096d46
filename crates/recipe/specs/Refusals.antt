-- The number of each refusal, what it carries, and how it is printed. Assumes nothing. (docs/RULES.md, "Refusals")
use Rattle.std.specs.Prelude.{ℕ, List, ◌++◌, Some, None, codes, decimal, Option}
use Rattle.recipe.specs.declared.refusals.Refusal.{Refusal}

-- 1 to 7 refuse a table or its memory, 11 to 18 a call on a sheet, 21 to 25 a text
abbrev pub number_of_refusal : Refusal → ℕ
number_of_refusal Refusal.TooLarge = 1
number_of_refusal (Refusal.UnknownKind place) = 2
number_of_refusal (Refusal.BadNumber place) = 3
number_of_refusal (Refusal.BadPart place) = 4
number_of_refusal (Refusal.HeldTwice place) = 5
number_of_refusal (Refusal.TooDeep place) = 6
number_of_refusal Refusal.MemoryTooShort = 7
number_of_refusal (Refusal.NoSuchPlace place) = 11
number_of_refusal (Refusal.UnequalDepths first second) = 12
number_of_refusal Refusal.TooManyTells = 13
number_of_refusal (Refusal.Clash place partner) = 14
number_of_refusal (Refusal.Cyclic place) = 15
number_of_refusal (Refusal.NamesDisagree place) = 16
number_of_refusal (Refusal.UnknownStep index) = 17
number_of_refusal (Refusal.HoleInside place) = 18
number_of_refusal (Refusal.UnknownWord offset) = 21
number_of_refusal (Refusal.Misplaced offset) = 22
number_of_refusal (Refusal.Unfinished offset) = 23
number_of_refusal (Refusal.NoRoom offset) = 24
number_of_refusal (Refusal.UnreadLeaf offset) = 25

-- one value, or two
abbrev pub carried_by : Refusal → ℕ × Option ℕ
carried_by Refusal.TooLarge = (0, None)
carried_by (Refusal.UnknownKind place) = (place, None)
carried_by (Refusal.BadNumber place) = (place, None)
carried_by (Refusal.BadPart place) = (place, None)
carried_by (Refusal.HeldTwice place) = (place, None)
carried_by (Refusal.TooDeep place) = (place, None)
carried_by Refusal.MemoryTooShort = (0, None)
carried_by (Refusal.NoSuchPlace place) = (place, None)
carried_by (Refusal.UnequalDepths first second) = (first, Some second)
carried_by Refusal.TooManyTells = (0, None)
carried_by (Refusal.Clash place partner) = (place, Some partner)
carried_by (Refusal.Cyclic place) = (place, None)
carried_by (Refusal.NamesDisagree place) = (place, None)
carried_by (Refusal.UnknownStep index) = (index, None)
carried_by (Refusal.HoleInside place) = (place, None)
carried_by (Refusal.UnknownWord offset) = (offset, None)
carried_by (Refusal.Misplaced offset) = (offset, None)
carried_by (Refusal.Unfinished offset) = (offset, None)
carried_by (Refusal.NoRoom offset) = (offset, None)
carried_by (Refusal.UnreadLeaf offset) = (offset, None)

-- one number in decimal, or two with a space between them
abbrev pub carried_text : ℕ × Option ℕ → List ℕ
carried_text (first, None) = decimal first
carried_text (first, Some second) = decimal first ++ codes " " ++ decimal second

-- the word refused, the number and what is carried
abbrev pub refusal_text : Refusal → List ℕ
refusal_text r = codes "refused " ++ decimal (number_of_refusal r) ++ codes " " ++ carried_text (carried_by r)
