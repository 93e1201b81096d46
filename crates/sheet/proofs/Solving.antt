-- A solved memory, cut into its parts and joined again with one told pair more. Assumes nothing.
use Rattle.std.proofs.Common.{◌≡◌, ℕ, ◌<◌, ◌≤◌, List, [], ◌∷◌, ◌++◌, length, drop, Ok, Err, Result, nat_eq, sym, ap, ◌∙◌, subst, arith}
use mathlib.Core.List.{append-nil}
use Rattle.recipe.specs.Fillings.{Pair, Satisfiable}
use Rattle.recipe.specs.Histories.{accepted_pair}
use Rattle.recipe.specs.Tables.{Table, depth}
use Rattle.recipe.specs.Tells.{Decided}
use Rattle.recipe.specs.declared.refusals.Refusal.{Refusal}
use Rattle.closure.specs.Decision.{WellFormed}
use Rattle.closure.proofs.OtherLeaves.{ready_more}
use Rattle.nodes.specs.Heights.{FewNames}
use Rattle.nodes.specs.Records.{written}
use Rattle.sheet.specs.Layout.{forests_length, forests_start, records, used}
use Rattle.sheet.specs.Solved.{HasTable, SlicesHold, Solved, written_table}
use Rattle.sheet.proofs.Told.{one_longer}
use Rattle.sheet.proofs.Whole.{Cut, memory_holds, past_is, records_is, slices_hold, table_is}

-- the parts of a memory that is cut three times
pub cut_of : {size m : ℕ} {ws f a b r rest others : List ℕ} → ws ≡ f ++ rest → rest ≡ a ++ others → others ≡ b ++ r → length f ≡ forests_start size → length a ≡ forests_length size m → length b ≡ forests_length size m → Cut size m ws f a b r
cut_of {f = f} {a = a} one two three front first second = record {
  joined = one ∙ ap (λ xs. f ++ xs) (two ∙ ap (λ xs. a ++ xs) three);
  front_long = front;
  first_long = first;
  second_long = second;
}

-- a list of pairs after an answer: well formed with the pair, it is well formed with the pair or without it
pub ready_after : {L : Type 0} {T : Table L} {m : ℕ} (told : List Pair) (p q : ℕ) (r : Result (Unit {0}) Refusal) → WellFormed T m told → WellFormed T m (told ++ ((p, q) ∷ [])) → WellFormed T m (told ++ accepted_pair p q r)
ready_after told p q (Ok u) before after = after
ready_after told p q (Err e) before after = rw (append-nil told) before

-- it is no longer than with the pair
pub few_after : (told : List Pair) (p q : ℕ) (r : Result (Unit {0}) Refusal) → length told < 512 → length (told ++ accepted_pair p q r) ≤ 512
few_after told p q (Ok u) few = omega (arith, one_longer told (p, q), few)
few_after told p q (Err e) few = rw (append-nil told) (omega (arith, few))

-- what is accepted has a filling
pub decided_filled : {T : Table ℕ} (told : List Pair) (p q : ℕ) (r : Result (Unit {0}) Refusal) → Satisfiable nat_eq T told → Decided nat_eq T (told ++ ((p, q) ∷ [])) r → Satisfiable nat_eq T (told ++ accepted_pair p q r)
decided_filled told p q (Ok u) filled (Decided.accepted satisfied apart acyclic) = satisfied
decided_filled told p q (Err e) filled decided = rw (append-nil told) filled

module _ {size m : ℕ} {ws f a b r : List ℕ} (parts : Cut size m ws f a b r) where
  pub slices_solved : {told : List Pair} → 0 < size → Solved size m told ws → SlicesHold size m told f a b
  slices_solved some solved = slices_hold parts solved.few_told (solved.words some)

  -- the table of the parts is well formed with one pair more
  pub slices_ready : {told : List Pair} (p q : ℕ) → p < size → q < size → depth (written_table size ws) p ≡ depth (written_table size ws) q → Solved size m told ws → WellFormed (written_table size f) m (told ++ ((p, q) ∷ []))
  slices_ready {told = told} p q first second depths solved =
      subst (λ T. WellFormed T m (told ++ ((p, q) ∷ []))) (table_is parts) (ready_more _ told p q solved.ready (first, second, depths))

  -- the answer for the parts is the answer for the memory
  pub decided_whole : {told : List Pair} (p q : ℕ) → p < size → q < size → depth (written_table size ws) p ≡ depth (written_table size ws) q → Solved size m told ws → (answer : Result (Unit {0}) Refusal) → (SlicesHold size m told f a b → WellFormed (written_table size f) m (told ++ ((p, q) ∷ [])) → Decided nat_eq (written_table size f) (told ++ ((p, q) ∷ [])) answer) → Decided nat_eq (written_table size ws) (told ++ ((p, q) ∷ [])) answer
  decided_whole {told = told} p q first second depths solved answer decided =
      subst (λ T. Decided nat_eq T (told ++ ((p, q) ∷ [])) answer) (sym (table_is parts))
      (decided (slices_solved (omega (arith, first)) solved) (slices_ready p q first second depths solved))

module _ {size m : ℕ} {ws f a b r vs g c d : List ℕ} (old : Cut size m ws f a b r) (new : Cut size m vs g c d r) (same : records size g ≡ records size f) where
  -- the records of the new memory are those of the old one
  pub records_again : records size vs ≡ records size ws
  records_again = records_is new ∙ same ∙ sym (records_is old)

  table_again : written_table size vs ≡ written_table size ws
  table_again = ap (written size) records_again

  -- and so are the words past those that are used
  pub past_again : drop (used size m) vs ≡ drop (used size m) ws
  past_again = past_is new ∙ sym (past_is old)

  -- where the parts hold the pairs after the answer, the memory is solved for them
  pub solved_again : (told : List Pair) (p q : ℕ) → p < size → q < size → depth (written_table size ws) p ≡ depth (written_table size ws) q → length told < 512 → (answer : Result (Unit {0}) Refusal) → Solved size m told ws → Decided nat_eq (written_table size ws) (told ++ ((p, q) ∷ [])) answer → SlicesHold size m (told ++ accepted_pair p q answer) g c d → Solved size m (told ++ accepted_pair p q answer) vs
  solved_again told p q first second depths few answer solved decided hold =
      let many = few_after told p q answer few in
      record {
        few_told = many;
        ready = subst (λ T. WellFormed T m (told ++ accepted_pair p q answer)) (sym table_again) (ready_after told p q answer solved.ready (ready_more _ told p q solved.ready (first, second, depths)));
        filled = subst (λ T. Satisfiable nat_eq T (told ++ accepted_pair p q answer)) (sym table_again) (decided_filled told p q answer solved.filled decided);
        words = λ some. memory_holds new many hold;
      }

-- the names of a table in the words are below 64
pub few_names : {size m : ℕ} {ws : List ℕ} → HasTable size m ws → FewNames (written_table size ws)
few_names table = record {
  names = λ p x e. omega (arith, table.ready.names p x e, table.few_names);
  binders = λ p a y i e. omega (arith, table.ready.binders p a y i e, table.few_names);
}
