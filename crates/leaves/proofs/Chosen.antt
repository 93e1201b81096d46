-- A value that is there only where a test passes. Assumes nothing.
use Rattle.std.proofs.Common.{◌≡◌, ◌≢◌, Bool, true, false, cond, Some, None, Option, refl}
use Rattle.std.proofs.lemmas.Option.{cond_some, none-some}

pub none_not_some : {X : Type 0} (x : X) → None ≢ Some x
none_not_some x e = none-some x e

pub chosen : {X : Type 0} (b : Bool) (o : Option X) (x : X) → cond b o None ≡ Some x → (b ≡ true) × (o ≡ Some x)
chosen true o x e = (refl, e)
chosen false o x e = absurd (none_not_some x e)

pub chosen_some : {X : Type 0} (b : Bool) (y x : X) → cond b (Some y) None ≡ Some x → (b ≡ true) × (y ≡ x)
chosen_some b y x e = cond_some b y x e

pub none_unless : {X : Type 0} (b : Bool) (o : Option X) → (b ≢ true) → cond b o None ≡ None
none_unless true o never = absurd (never refl)
none_unless false o never = refl
