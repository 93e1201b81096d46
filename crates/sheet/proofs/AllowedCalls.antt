-- Which lists of calls can be written down. Assumes nothing.
use Rattle.std.proofs.Common.{◌≡◌, ℕ, List, [], ◌∷◌, ◌++◌, map, Some, None, Ok, Option, ap, refl}
use Rattle.std.specs.Option.{option_map}
use Rattle.recipe.specs.Histories.{Allowed, OnlyLooks, Request, request}
use Rattle.recipe.specs.declared.labels.Finding.TheVariants.{Open}
use Rattle.sheet.specs.Calls.{after_seal, entry_of, look_entry}
use Rattle.sheet.specs.SheetLaws.{CallsAllowed}
use Rattle.sheet.specs.declared.calls.Call.{Call}
use Rattle.sheet.specs.declared.calls.Look.{Look}

-- looks are allowed after a seal
looks_allowed : (looks : List Look) → OnlyLooks (map request (map look_entry looks))
looks_allowed [] = tt
looks_allowed (l ∷ looks) = looks_allowed looks

sealed_allowed : (looks : Option (List Look)) → Allowed (map request (after_seal looks))
sealed_allowed None = tt
sealed_allowed (Some looks) = looks_allowed looks

calls_allowed : (calls : List Call) (looks : Option (List Look)) → Allowed (map request (map entry_of calls ++ after_seal looks))
calls_allowed [] looks = sealed_allowed looks
calls_allowed (Call.Tell t ∷ calls) looks = calls_allowed calls looks
calls_allowed (Call.Look l ∷ calls) looks = calls_allowed calls looks

-- a look at a place along a path, with any answer
look_at : ℕ → List ℕ → Look
look_at p path = record { place = p; path = record { ref_ptr = (0, 0); now = path }; answer = Ok Open }

looks_written : (calls : List Request) → OnlyLooks calls → (looks : List Look) × (map request (map look_entry looks) ≡ calls)
unfolding look_at
looks_written [] only = ([], refl)
looks_written (Request.tell p q ∷ calls) only = absurd only
looks_written (Request.look p path ∷ calls) only =
    let (looks, is) = looks_written calls only in
    (look_at p path ∷ looks, ap (λ rs. Request.look p path ∷ rs) is)
looks_written (Request.seal ∷ calls) only = absurd only

calls_written : (calls : List Request) → Allowed calls → (front : List Call) × (looks : Option (List Look)) × (map request (map entry_of front ++ after_seal looks) ≡ calls)
unfolding look_at
calls_written [] allowed = ([], None, refl)
calls_written (Request.tell p q ∷ calls) allowed =
    let (front, looks, is) = calls_written calls allowed in
    (Call.Tell (record { first = p; second = q; answer = Ok tt }) ∷ front, looks, ap (λ rs. Request.tell p q ∷ rs) is)
calls_written (Request.look p path ∷ calls) allowed =
    let (front, looks, is) = calls_written calls allowed in
    (Call.Look (look_at p path) ∷ front, looks, ap (λ rs. Request.look p path ∷ rs) is)
calls_written (Request.seal ∷ calls) allowed =
    let (looks, is) = looks_written calls allowed in
    ([], Some looks, ap (λ rs. Request.seal ∷ rs) is)

pub all_allowed : CallsAllowed
all_allowed = record { allowed = λ c. calls_allowed c.calls.items (option_map (λ looks. looks.items) c.sealed); written = calls_written }
