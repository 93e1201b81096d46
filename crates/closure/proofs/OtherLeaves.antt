-- Answers depend on leaves by their sameness alone. Assumes nothing.
use Rattle.std.proofs.Common.{Err, Result, ◌≡◌, ℕ, ◌<◌, Bool, true, false, cond, ltb, ◌+◌, ◌⊎◌, List, [], ◌∷◌, ◌++◌, None, Ok, Option, Result, sym, refl, ap, ◌∙◌, inl, inr, arith}
use Rattle.std.proofs.lemmas.Bool.Decides.{nat_tests}
use Rattle.recipe.specs.Common.{In}
use Rattle.recipe.specs.Fillings.{Pair, Satisfiable, Unsatisfiable}
use Rattle.recipe.specs.Links.{Differ, Clash, kind_of}
use Rattle.recipe.specs.Looks.{Looks, look_fault}
use Rattle.recipe.specs.Numbering.{number_of}
use Rattle.recipe.specs.Sameness.{Sameness}
use Rattle.recipe.specs.Tables.{Form, Table, parts, depth}
use Rattle.recipe.specs.Tells.{Decided, FailsUpTo, Tells, NoClash, NoCycle, name_as_hole, names_as_holes, tell_fault}
use Rattle.recipe.specs.declared.labels.Finding.{Finding}
use Rattle.recipe.specs.declared.labels.Label.{Label}
use Rattle.recipe.specs.declared.refusals.Refusal.{Refusal}
use Rattle.closure.specs.Decision.{WellFormed}
use Rattle.closure.specs.OtherLeaves.{SameForm, LeavesDoNotMatter, SameTables}
use Rattle.closure.specs.Walks.{SeenAt, Walks, form_label}
use Rattle.closure.proofs.AlikeLeaves.{alikes_over}
use Rattle.closure.proofs.Forms.{only}
use Rattle.closure.proofs.Known.{least_over}
use Rattle.closure.proofs.FillingExists.{decision_exact}
use Rattle.closure.proofs.Misnaming.{misnamed_never, named_filled}
use Rattle.closure.proofs.NamesAsHoles.{as_hole, holes_well_formed, solid_as}
use Rattle.closure.proofs.SameParts.{SameParts, same_scope, part_over, well_formed_over, linked_over, back_over, joined_over, no_cycle_over, misnamed_over}
use Rattle.closure.proofs.WalksExact.{walks_exact}

-- the places of a tell that is not refused without matching are places of the table, at one depth
pub no_fault : {L : Type 0} (T : Table L) (pairs : List Pair) (p q : ℕ) → tell_fault T pairs p q ≡ None → (p < T.size) × (q < T.size) × (depth T p ≡ depth T q)
no_fault T pairs p q none = grind (arith, nat_tests)

last_or_in : {A : Type 0} (xs : List A) (x y : A) → In x (xs ++ (y ∷ [])) → (x ≡ y) ⊎ In x xs
last_or_in [] x y i = inl (only i)
last_or_in (z ∷ xs) x y (inl e) = inr (inl e)
last_or_in (z ∷ xs) x y (inr i) = elim (last_or_in xs x y i) [ inl e ↦ inl e | inr j ↦ inr (inr j) ]

-- with a pair of places of the table at one depth more, pairs can be matched still
pub ready_more : {L : Type 0} (T : Table L) {m : ℕ} (pairs : List Pair) (p q : ℕ) → WellFormed T m pairs → (p < T.size) × (q < T.size) × (depth T p ≡ depth T q) → WellFormed T m (pairs ++ ((p, q) ∷ []))
ready_more T pairs p q ready places =
    record {
      ordered = ready.ordered;
      past = ready.past;
      names = ready.names;
      binders = ready.binders;
      told = λ u v i. elim (last_or_in pairs (u, v) (p, q) i) [ inl e ↦ rw (ap (λ z. z.0) e, ap (λ z. z.1) e) places | inr j ↦ ready.told u v j ];
    }

-- a finding is right only where the look is not refused
look_faultless : {L : Type 0} {same : L → L → Bool} {T : Table L} {ls : List L} {pairs : List Pair} {p : ℕ} {path : List ℕ} {f : Finding} → Looks same T ls pairs p path (Ok f) → look_fault T p path ≡ None
look_faultless (Looks.label none all) = none
look_faultless (Looks.absent none all) = none
look_faultless (Looks.undecided none all) = none

-- a leaf in a table with names as holes was one before
leaf_before : {L : Type 0} {f : Form L} {l : L} (p q : ℕ) → name_as_hole p q f ≡ Form.leaf l → f ≡ Form.leaf l
leaf_before {f = f} p q e = solid_as (as_hole p q f) (rw e (λ n. omega arith)) ∙ e

-- two forms that differ in their leaves at most
module _ {L M : Type 0} where
  pub alike_back : {f : Form L} {g : Form M} → SameForm f g → SameForm g f
  alike_back SameForm.nils = SameForm.nils
  alike_back SameForm.leaves = SameForm.leaves
  alike_back SameForm.names = SameForm.names
  alike_back SameForm.holes = SameForm.holes
  alike_back SameForm.binds = SameForm.binds
  alike_back SameForm.calls = SameForm.calls

  alike_parts : {f : Form L} {g : Form M} → SameForm f g → parts f ≡ parts g
  alike_parts SameForm.nils = refl
  alike_parts a = refl

  pub alike_kind : {f : Form L} {g : Form M} → SameForm f g → kind_of f ≡ kind_of g
  alike_kind SameForm.nils = refl
  alike_kind a = refl

  alike_nil : {f : Form L} {g : Form M} → SameForm f g → f ≡ Form.nil → g ≡ Form.nil
  alike_nil SameForm.nils e = refl
  alike_nil a e = cc

  alike_name : {f : Form L} {g : Form M} {x : ℕ} → SameForm f g → f ≡ Form.name x → g ≡ Form.name x
  alike_name SameForm.names e = cc
  alike_name a e = cc

  alike_bind : {f : Form L} {g : Form M} {a c : ℕ} → SameForm f g → f ≡ Form.bind a c → g ≡ Form.bind a c
  alike_bind SameForm.binds e = cc
  alike_bind s e = cc

  pub alike_hole : {f : Form L} {g : Form M} {h : ℕ} → SameForm f g → f ≡ Form.hole h → g ≡ Form.hole h
  alike_hole SameForm.holes e = cc
  alike_hole a e = cc

  -- and so with names as holes
  hole_or_name : (b : Bool) (h x : ℕ) → SameForm {L = L} {M = M} (cond b (Form.hole h) (Form.name x)) (cond b (Form.hole h) (Form.name x))
  hole_or_name true h x = SameForm.holes
  hole_or_name false h x = SameForm.names

  alike_as_hole : {f : Form L} {g : Form M} (p q : ℕ) → SameForm f g → SameForm (name_as_hole p q f) (name_as_hole p q g)
  alike_as_hole p q (SameForm.names {x = x}) = hole_or_name (ltb p q) (512 + q) x
  alike_as_hole p q a = a

  -- their labels are the same where leaves have the same numbers
  alike_label : {f : Form L} {g : Form M} (number : L → Option ℕ) (count : M → Option ℕ) → ((l : L) (k : M) → f ≡ Form.leaf l → g ≡ Form.leaf k → number l ≡ count k) → SameForm f g → form_label number f ≡ form_label count g
  alike_label number count numbers SameForm.leaves = ap Label.Leaf (numbers _ _ refl refl)
  alike_label number count numbers a = refl

  -- and they differ from others as those do that are alike
  alike_differ : {same : L → L → Bool} {other : M → M → Bool} {f g : Form L} {u v : Form M} → SameForm f u → SameForm g v → ((l n : L) (k o : M) → f ≡ Form.leaf l → g ≡ Form.leaf n → u ≡ Form.leaf k → v ≡ Form.leaf o → same l n ≡ other k o) → Differ same f g → Differ other u v
  alike_differ a b leaves (Differ.kinds n m d) = Differ.kinds (rw (alike_kind a) at n) (rw (alike_kind b) at m) (rw (alike_kind a, alike_kind b) at d)
  alike_differ SameForm.leaves SameForm.leaves leaves (Differ.leaves n) = Differ.leaves (sym (leaves _ _ _ _ refl refl refl refl) ∙ n)

-- what is so on the one table is so on the other
module _ {L M : Type 0} {same : L → L → Bool} {other : M → M → Bool} {T : Table L} {U : Table M} {ls : List L} {ks : List M} (alike : SameTables same other T U ls ks) where
  turned : SameTables other same U T ks ls
  turned = record {
    size = sym alike.size;
    forms = λ p. alike_back (alike.forms p);
    leaves = λ p q k o l n d e f g. sym (alike.leaves p q l n k o f g d e);
    numbers = λ p k l d e. sym (alike.numbers p l k e d);
  }

  with_holes : (p : ℕ) → SameTables same other (names_as_holes p T) (names_as_holes p U) ls ks
  with_holes p = record {
    size = alike.size;
    forms = λ q. alike_as_hole p q (alike.forms q);
    leaves = λ q r l n k o d e f g. alike.leaves q r l n k o (leaf_before p q d) (leaf_before p r e) (leaf_before p q f) (leaf_before p r g);
    numbers = λ q l k d e. alike.numbers q l k (leaf_before p q d) (leaf_before p q e);
  }

  same_parts : SameParts T U
  same_parts = record { size = alike.size; at = λ p. alike_parts (alike.forms p); kinds = λ p y i. alike_kind (alike.forms p); binds = λ p a c. alike_bind (alike.forms p); holes = λ p q h d e. inr (h, alike_hole (alike.forms p) d, alike_hole (alike.forms q) e) }

  same_kind : (p : ℕ) → kind_of (T.form p) ≡ kind_of (U.form p)
  same_kind p = alike_kind (alike.forms p)

  name_over : {p x : ℕ} → T.form p ≡ Form.name x → U.form p ≡ Form.name x
  name_over {p = p} = alike_name (alike.forms p)

  pub ready_over : {m : ℕ} {pairs : List Pair} → WellFormed T m pairs → WellFormed U m pairs
  ready_over = well_formed_over same_parts (λ p. alike_nil (alike.forms p)) (λ p x. alike_name (alike_back (alike.forms p)))

  pub same_fault : (pairs : List Pair) (p q : ℕ) → tell_fault T pairs p q ≡ tell_fault U pairs p q
  same_fault pairs p q = rw (same_scope same_parts p, same_scope same_parts q, alike.size)

  clash_over : {pairs : List Pair} (p q : ℕ) → Clash same T pairs p q → Clash other U pairs p q
  clash_over p q c = record { linked = linked_over same_parts c.linked; differ = alike_differ (alike.forms p) (alike.forms q) (alike.leaves p q) c.differ }

  carries_over : {m : ℕ} {pairs : List Pair} {r p : ℕ} {f g : Finding} → SeenAt T m pairs r p f g → SeenAt U m pairs r p f g
  carries_over (SeenAt.name j) = SeenAt.name (joined_over same_parts j)
  carries_over (SeenAt.other n) = SeenAt.other n

-- and what speaks of all places goes over by the way back
module _ {L M : Type 0} {same : L → L → Bool} {other : M → M → Bool} {T : Table L} {U : Table M} {ls : List L} {ks : List M} (alike : SameTables same other T U ls ks) where
  there : SameParts T U
  there = same_parts alike

  back : SameParts U T
  back = same_parts (turned alike)

  acyclic_over : {pairs : List Pair} → NoCycle T pairs → NoCycle U pairs
  acyclic_over = no_cycle_over there back

  no_clash_over : {pairs : List Pair} → NoClash same T pairs → NoClash other U pairs
  no_clash_over none p q c = none p q (clash_over (turned alike) p q c)

  walks_over : {m : ℕ} {pairs : List Pair} {p : ℕ} {path : List ℕ} {f : Finding} → Walks T m pairs (number_of same ls) p path f → Walks U m pairs (number_of other ks) p path f
  walks_over (Walks.label {p = p} n) = rw (alike_label (number_of same ls) (number_of other ks) (alike.numbers p) (alike.forms p)) (Walks.label (rw (same_kind alike p) at n))
  walks_over (Walks.absent {p = p} n none) = Walks.absent (rw (same_kind alike p) at n) (λ y i. none y (part_over back p y i))
  walks_over (Walks.down {p = p} y i w) = Walks.down y (part_over there p y i) (walks_over w)
  walks_over (Walks.along {p = p} {r = r} e l n w c) =
      Walks.along (rw (same_kind alike p) at e) (linked_over there l) (rw (same_kind alike r) at n) (walks_over w) (carries_over alike c)
  walks_over (Walks.undecided holes) = Walks.undecided (λ q l. rw (same_kind alike q) at (holes q (linked_over back l)))

  module _ (laws : Sameness same) (others : Sameness other) {m : ℕ} {pairs : List Pair} (ready : WellFormed T m pairs) where
    filled_over : Satisfiable same T pairs → Satisfiable other U pairs
    filled_over filling =
        let found = (decision_exact laws ready).0 filling in
        named_filled (ready_over alike ready) others (no_clash_over found.no_clash) (acyclic_over found.no_cycle)
        (λ p w. misnamed_never ready laws (misnamed_over back there (λ q x h. name_over (turned alike)) w) filling)

    found_over : Satisfiable same T pairs → (p : ℕ) (path : List ℕ) (f : Finding) → Looks same T ls pairs p path (Ok f) → Looks other U ks pairs p path (Ok f)
    found_over filling p path f right =
        let none = look_faultless right in
        let walk = ((walks_exact same laws T ls m pairs p path ready filling none).right f).1 right in
        ((walks_exact other others U ks m pairs p path (ready_over alike ready) (filled_over filling) (rw (← alike.size) none)).right f).0 (walks_over walk)

    looks_over : Satisfiable same T pairs → (p : ℕ) (path : List ℕ) (r : Result Finding Refusal) → Looks same T ls pairs p path r → Looks other U ks pairs p path r
    looks_over filling p path (Ok f) right = found_over filling p path f right
    looks_over filling p path (Err e) (Looks.refused fault) = Looks.refused (rw (← alike.size) fault)

-- two tables with names as holes are two such tables again
module _ {L M : Type 0} {same : L → L → Bool} {other : M → M → Bool} (laws : Sameness same) (others : Sameness other) {T : Table L} {U : Table M} {ls : List L} {ks : List M} (alike : SameTables same other T U ls ks) {m : ℕ} {pairs : List Pair} (ready : WellFormed T m pairs) where
  fails_over : (p : ℕ) → FailsUpTo same T pairs p → FailsUpTo other U pairs p
  fails_over p fails = record {
    named = (fails.named.0, name_over alike fails.named.1);
    never = λ filling. fails.never (filled_over (turned (with_holes alike p)) others laws (holes_well_formed p (ready_over alike ready)) filling);
  }

-- so each answer to a tell goes over
module _ {L M : Type 0} {same : L → L → Bool} {other : M → M → Bool} (laws : Sameness same) (others : Sameness other) {T : Table L} {U : Table M} {ls : List L} {ks : List M} (alike : SameTables same other T U ls ks) {m : ℕ} where
  unfilled_over : {pairs : List Pair} → WellFormed T m pairs → Unsatisfiable same T pairs → Unsatisfiable other U pairs
  unfilled_over ready none filling = none (filled_over (turned alike) others laws (ready_over alike ready) filling)

  decided_over : {pairs : List Pair} {r : Result (Unit {0}) Refusal} → WellFormed T m pairs → Decided same T pairs r → Decided other U pairs r
  decided_over ready (Decided.accepted f n k) = Decided.accepted (filled_over alike laws others ready f) (no_clash_over alike n) (acyclic_over alike k)
  decided_over ready (Decided.clash {a = a} u c d) =
      Decided.clash (unfilled_over ready u)
      (least_over (λ p e. (e.0, clash_over alike p e.0 e.1)) (λ p e. (e.0, clash_over (turned alike) p e.0 e.1)) c)
      (least_over (clash_over alike a) (clash_over (turned alike) a) d)
  decided_over ready (Decided.cyclic u n c) =
      Decided.cyclic (unfilled_over ready u) (no_clash_over alike n) (least_over (λ p. back_over (there alike)) (λ p. back_over (back alike)) c)
  decided_over ready (Decided.names u n k c) =
      Decided.names (unfilled_over ready u) (no_clash_over alike n) (acyclic_over alike k)
      (least_over (fails_over laws others alike ready) (fails_over others laws (turned alike) (ready_over alike ready)) c)

  tells_over : {pairs : List Pair} {p q : ℕ} {r : Result (Unit {0}) Refusal} → WellFormed T m pairs → Tells same T pairs p q r → Tells other U pairs p q r
  tells_over {pairs = pairs} {p = p} {q = q} ready (Tells.refused e) = Tells.refused (sym (same_fault alike pairs p q) ∙ e)
  tells_over {pairs = pairs} {p = p} {q = q} ready (Tells.decided none d) =
      Tells.decided (sym (same_fault alike pairs p q) ∙ none) (decided_over (ready_more T pairs p q ready (no_fault T pairs p q none)) d)

pub leaves_do_not_matter_lem : {L M : Type 0} (same : L → L → Bool) (other : M → M → Bool) → Sameness same → Sameness other → LeavesDoNotMatter same other
leaves_do_not_matter_lem same other laws others T U ls ks m pairs ready alike =
    let other_way : SameTables other same U T ks ls = turned alike in
    let ready_back : WellFormed U m pairs = ready_over alike ready in
    let filled : Satisfiable same T pairs → Satisfiable other U pairs = filled_over alike laws others ready in
    record {
      filled = (filled, filled_over other_way others laws ready_back);
      tells = λ p q r. (tells_over laws others alike ready, tells_over others laws other_way ready_back);
      alikes = λ p q r. (alikes_over alike other_way (there alike) (back alike) p q r, alikes_over other_way alike (back alike) (there alike) p q r);
      looks = λ filling p path r. (looks_over alike laws others ready filling p path r, looks_over other_way others laws ready_back (filled filling) p path r);
    }
