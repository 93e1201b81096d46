-- Calls on a sheet as entries of a history. Assumes nothing. (docs/RULES.md, "Histories")
use Rattle.std.specs.Prelude.{List, [], ◌∷◌, ◌++◌, map, Some, None, Option}
use Rattle.std.specs.Option.{option_map}
use Rattle.recipe.specs.Histories.{Entry}
use Rattle.sheet.specs.declared.calls.Call.{Call}
use Rattle.sheet.specs.declared.calls.Calls.{Calls}
use Rattle.sheet.specs.declared.calls.Look.{Look}

-- a look with its answer
abbrev pub look_entry : Look → Entry
look_entry l = Entry.look l.place l.path.now l.answer

-- a call with its answer
abbrev pub entry_of : Call → Entry
entry_of (Call.Tell t) = Entry.tell t.first t.second t.answer
entry_of (Call.Look l) = look_entry l

-- a seal, and the looks after it; nothing where the sheet is not sealed
abbrev pub after_seal : Option (List Look) → List Entry
after_seal None = []
after_seal (Some looks) = Entry.seal ∷ map look_entry looks

-- all calls with their answers, in order
abbrev pub entries : Calls → List Entry
entries c = map entry_of c.calls.items ++ after_seal (option_map (λ looks. looks.items) c.sealed)
