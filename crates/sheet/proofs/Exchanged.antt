-- What is said of parts of a list, of equal parts and of the parts joined. Assumes nothing.
use Rattle.std.proofs.Common.{◌≡◌, ℕ, ◌*◌, List, ◌++◌, length, subst, sym}
use lib.Seq.{drop_at, take_at}
use Rattle.recipe.specs.Fillings.{Pair}
use Rattle.recipe.specs.Tables.{Table}
use Rattle.nodes.specs.Entering.{Entered}
use Rattle.sheet.specs.Layout.{names_rows, places_rows}

-- what is said of three lists is said of equal ones
pub exchanged : {A : Type 0} (Says : A → A → A → Type 0) {a b c x y z : A} → a ≡ x → b ≡ y → c ≡ z → Says a b c → Says x y z
exchanged Says {a} {b} {c} {x} {y} {z} e f g said = subst (λ w. Says x y w) g (subst (λ w. Says x w c) f (subst (λ w. Says w b c) e said))

-- two forests are entered in as one list of words
pub entered_joined : {L : Type 0} {T : Table L} {m : ℕ} {told : List Pair} (size : ℕ) (rows names : List ℕ) → length rows ≡ 4 * size → Entered T m told rows names → Entered T m told (places_rows size (rows ++ names)) (names_rows size (rows ++ names))
entered_joined {T = T} {m = m} {told = told} size rows names long entered =
    subst (λ r. Entered T m told r (names_rows size (rows ++ names))) (sym (take_at rows names (4 * size) long)) (subst (λ r. Entered T m told rows r) (sym (drop_at rows names (4 * size) long)) entered)
