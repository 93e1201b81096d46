-- What a list of pairs comes to, from the causes that are found. Assumes nothing.
use Rattle.std.proofs.Common.{ℕ, List, Ok, Err, nat_eq}
use Rattle.recipe.specs.Common.{Least}
use Rattle.recipe.specs.Fillings.{Pair}
use Rattle.recipe.specs.Links.{Clash, ComesBack}
use Rattle.recipe.specs.Tables.{Table}
use Rattle.recipe.specs.Tells.{Decided, NoClash, NoCycle}
use Rattle.recipe.specs.declared.refusals.Refusal.{Refusal}
use Rattle.closure.specs.Causes.{Misnamed}
use Rattle.closure.specs.Decision.{HolesBelow, WellFormed}
use Rattle.closure.proofs.FillingExists.{decision_exact}
use Rattle.closure.proofs.Misnaming.{misnamed_never, named_filled, names_found}
use Rattle.nodes.proofs.LeafNumbers.{nat_sameness}

module _ {T : Table ℕ} {m : ℕ} {told : List Pair} (ready : WellFormed T m told) where
  pub clash_decides : (a b : ℕ) → Least (λ p. (q : ℕ) × Clash nat_eq T told p q) a × Least (Clash nat_eq T told a) b → Decided nat_eq T told (Err (Refusal.Clash a b))
  clash_decides a b both =
      Decided.clash (λ filling. ((decision_exact nat_sameness ready).0 filling).no_clash a b both.1.has) both.0 both.1

  pub cycle_decides : (a : ℕ) → NoClash nat_eq T told → Least (ComesBack T told) a → Decided nat_eq T told (Err (Refusal.Cyclic a))
  cycle_decides a apart back =
      Decided.cyclic (λ filling. ((decision_exact nat_sameness ready).0 filling).no_cycle a back.has) apart back

  pub names_decide : (a : ℕ) → HolesBelow T → NoClash nat_eq T told → NoCycle T told → Least (Misnamed T m told) a → Decided nat_eq T told (Err (Refusal.NamesDisagree a))
  names_decide a holes apart acyclic found =
      Decided.names (misnamed_never ready nat_sameness found.has) apart acyclic ((names_found nat_sameness ready holes apart acyclic a).1 found)

  pub none_decides : NoClash nat_eq T told → NoCycle T told → ((p : ℕ) → Misnamed T m told p → ⊥) → Decided nat_eq T told (Ok tt)
  none_decides apart acyclic none = Decided.accepted (named_filled ready nat_sameness apart acyclic none) apart acyclic
