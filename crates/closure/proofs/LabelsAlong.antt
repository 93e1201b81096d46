-- What is found at a path in a recipe, part by part, and how it turns between related recipes. Assumes nothing.
use Rattle.std.proofs.Common.{◌≡◌, ℕ, suc, Bool, true, false, cond, eqb, ◌≢◌, List, [], ◌∷◌, ◌++◌, length, length-append, Some, None, Option, sym, refl, ap, ◌∙◌, inl, inr, arith}
use Rattle.std.proofs.lemmas.Bool.{cases_eq, cond-true, cond-false, eq-eqb, ne_eqb, eqb-true}
use Rattle.std.proofs.lemmas.Bool.Decides.{nat_tests}
use Rattle.std.specs.Option.{option_map}
use Rattle.recipe.specs.Common.{In}
use Rattle.recipe.specs.Fillings.{Filling, layer}
use Rattle.recipe.specs.Labels.{part_at, name_label, label_of, at_part, label_below, label_at}
use Rattle.recipe.specs.Links.{kind_of}
use Rattle.recipe.specs.Recipes.{Recipe, Part, left, right, inside, recipe_parts}
use Rattle.recipe.specs.Scopes.{Scope, extended, inner}
use Rattle.recipe.specs.Tables.{Form}
use Rattle.recipe.specs.declared.labels.Finding.{Finding}
use Rattle.recipe.specs.declared.labels.Label.{Label}
use Rattle.closure.specs.Walks.{form_label, label_above, found_above}
use Rattle.closure.proofs.Forms.{Parts, only, text_parts}
use Rattle.closure.proofs.Known.{known_among}
use Rattle.closure.proofs.Relations.{Relation, Related, FreeAt, under, step_free}

-- a label, or none, as a look finds it
abbrev pub finding : Option Label → Finding
finding None = Finding.Absent
finding (Some l) = Finding.Label l

-- a free name, as a look finds it
abbrev pub named : ℕ → Finding
named x = Finding.Label (Label.Name x)

-- a finding and another: a name and a related name, and all else and itself
pub data Turned (R : Relation) : Finding → Finding → Type 0 where
  name : {x y : ℕ} → R x y → Turned R (named x) (named y)
  other : {f : Finding} → ((x : ℕ) → f ≢ named x) → Turned R f f

-- the part at a step, or none
part_none : {X : Type 0} (s : ℕ) (xs : List (Part X)) → ((y : Part X) → In y xs → y.step ≢ s) → part_at s xs ≡ None
part_none s [] none = refl
part_none s (x ∷ xs) none = cond-false _ _ _ (ne_eqb x.step s (none x (inl refl))) ∙ part_none s xs (λ y i. none y (inr i))

part_here : {X : Type 0} {xs : List (Part X)} (y : Part X) → Parts xs → In y xs → part_at y.step xs ≡ Some y
part_here y Parts.no_parts i = absurd i
part_here y Parts.one_part i = rw (only i) refl
part_here y Parts.two_parts (inl i) = rw i refl
part_here y Parts.two_parts (inr i) = rw (only i) refl

-- what is above the outermost binder: its own name is the local one of the level 0
label_own : (a x : ℕ) → x ≡ a → label_above a (Label.Name x) ≡ Label.Local 0
label_own a x e = cond-true _ _ _ (eq-eqb x a e)

label_beside : (a x : ℕ) → x ≢ a → label_above a (Label.Name x) ≡ Label.Name x
label_beside a x n = cond-false _ _ _ (ne_eqb x a n)

-- one binder more, inside of the others
label_inner : (b x : ℕ) (Φ : Scope) (test : Bool) (o : Option ℕ) → name_label (b ∷ Φ) x (cond test (Some 0) (option_map suc o)) ≡ cond test (Label.Local (length Φ)) (name_label Φ x o)
label_inner b x Φ true o = ap Label.Local (omega arith)
label_inner b x Φ false None = refl
label_inner b x Φ false (Some k) = ap Label.Local (omega arith)

label_outermost : (a x : ℕ) (test : Bool) → eqb a x ≡ test → cond test (Label.Local 0) (Label.Name x) ≡ label_above a (Label.Name x)
label_outermost a x true e = sym (label_own a x (sym (eqb-true a x e)))
label_outermost a x false e = sym (label_beside a x (grind (arith, nat_tests)))

label_pushed : (a : ℕ) (test : Bool) (n : ℕ) (l k : Label) → l ≡ label_above a k → cond test (Label.Local (suc n)) l ≡ label_above a (cond test (Label.Local n) k)
label_pushed a true n l k e = refl
label_pushed a false n l k e = e

longer : (a : ℕ) (Φ : Scope) → length (Φ ++ (a ∷ [])) ≡ suc (length Φ)
longer a Φ = omega (arith, length-append Φ (a ∷ []))

-- one binder more, outside of the others
name_outer : (a x : ℕ) (Φ : Scope) → name_label (Φ ++ (a ∷ [])) x (inner (Φ ++ (a ∷ [])) x) ≡ label_above a (name_label Φ x (inner Φ x))
unfolding inner
name_outer a x [] = label_inner a x [] (eqb a x) None ∙ label_outermost a x (eqb a x) refl
name_outer a x (b ∷ Φ) =
    rw (label_inner b x (Φ ++ (a ∷ [])) (eqb b x) (inner (Φ ++ (a ∷ [])) x), label_inner b x Φ (eqb b x) (inner Φ x), longer a Φ) (label_pushed a (eqb b x) (length Φ) _ _ (name_outer a x Φ))

-- a free name, seen from above a binder of another name
named_above : (o : Option ℕ) (x : ℕ) → o ≢ Some x → found_above o (named x) ≡ named x
named_above None x n = refl
named_above (Some a) x n = ap Finding.Label (label_beside a x (λ e. n (ap Some (sym e))))

pub above_named : (o : Option ℕ) (x : ℕ) (f : Finding) → found_above o f ≡ named x → (f ≡ named x) × (o ≢ Some x)
above_named None x f e = (e, λ d. cc)
above_named (Some a) x (Finding.Label (Label.Name y)) e =
    elim (cases_eq y a) [ inl h ↦ absurd (let own = label_own a y h in cc) | inr n ↦ (let beside = label_beside a y n in cc, λ d. let beside = label_beside a y n in n (cc)) ]
above_named (Some a) x f e = absurd (cc)

-- what is no free name is the same below any binder
unnamed_above : (R : Relation) (a b : ℕ) (f : Finding) → ((x : ℕ) → f ≢ named x) → Turned R (found_above (Some a) f) (found_above (Some b) f)
unnamed_above R a b (Finding.Label (Label.Name y)) n = absurd (n y refl)
unnamed_above R a b f n = Turned.other (λ x e. cc)

-- below two binders, names that turn into each other do so above them
turned_above : (R : Relation) (a b : ℕ) (f g : Finding) → Turned (under R a b) f g → Turned R (found_above (Some a) f) (found_above (Some b) g)
turned_above R a b f g (Turned.name {x = x} {y = y} (inl e)) =
    rw (label_own a x e.0, label_own b y e.1) (Turned.other {f = Finding.Label (Label.Local 0)} (λ z d. cc))
turned_above R a b f g (Turned.name {x = x} {y = y} (inr n)) = rw (label_beside a x n.0, label_beside b y n.1) (Turned.name n.2)
turned_above R a b f g (Turned.other {f = h} n) = unnamed_above R a b h n

module _ {L : Type 0} (number : L → Option ℕ) where
  -- what is found at a path from a recipe
  abbrev pub found_at : Recipe L → List ℕ → Finding
  found_at t path = finding (label_at number t path)

  label_outer : (a : ℕ) (Φ : Scope) (t : Recipe L) → label_of number (Φ ++ (a ∷ [])) t ≡ label_above a (label_of number Φ t)
  label_outer a Φ (Recipe.name x) = name_outer a x Φ
  label_outer a Φ t = refl

  -- what is found below binders, and one more outside of them
  part_outer : (find : Scope → Recipe L → Option Label) (a : ℕ) (Φ : Scope) (o : Option ℕ) (t : Recipe L) → ((Ψ : Scope) → finding (find (Ψ ++ (a ∷ [])) t) ≡ found_above (Some a) (finding (find Ψ t))) → finding (find (extended o (Φ ++ (a ∷ []))) t) ≡ found_above (Some a) (finding (find (extended o Φ) t))
  part_outer find a Φ None t each = each Φ
  part_outer find a Φ (Some b) t each = each (b ∷ Φ)

  at_outer : (find : Scope → Recipe L → Option Label) (a : ℕ) (Φ : Scope) (o : Option (Part (Recipe L))) → ((t : Recipe L) (Ψ : Scope) → finding (find (Ψ ++ (a ∷ [])) t) ≡ found_above (Some a) (finding (find Ψ t))) → finding (at_part find (Φ ++ (a ∷ [])) o) ≡ found_above (Some a) (finding (at_part find Φ o))
  at_outer find a Φ None each = refl
  at_outer find a Φ (Some y) each = part_outer find a Φ y.under y.at (each y.at)

  below_outer : (a : ℕ) (path : List ℕ) (Φ : Scope) (t : Recipe L) → finding (label_below number path (Φ ++ (a ∷ [])) t) ≡ found_above (Some a) (finding (label_below number path Φ t))
  unfolding label_below
  below_outer a [] Φ t = ap Finding.Label (label_outer a Φ t)
  below_outer a (s ∷ path) Φ t = at_outer (label_below number path) a Φ (part_at s (recipe_parts t)) (λ u Ψ. below_outer a path Ψ u)

  -- what is found at a step, from what is found in the part there
  found_under : (path : List ℕ) (o : Option ℕ) (t : Recipe L) → finding (label_below number path (extended o []) t) ≡ found_above o (found_at t path)
  found_under path None t = refl
  found_under path (Some a) t = below_outer a path [] t

  pub found_part : (t : Recipe L) (y : Part (Recipe L)) (path : List ℕ) → In y (recipe_parts t) → found_at t (y.step ∷ path) ≡ found_above y.under (found_at y.at path)
  unfolding label_below
  found_part t y path i = ap (λ o. finding (at_part (label_below number path) [] o)) (part_here y (text_parts t) i) ∙ found_under path y.under y.at

  pub found_none : (t : Recipe L) (s : ℕ) (path : List ℕ) → ((y : Part (Recipe L)) → In y (recipe_parts t) → y.step ≢ s) → found_at t (s ∷ path) ≡ Finding.Absent
  unfolding label_below
  found_none t s path none = ap (λ o. finding (at_part (label_below number path) [] o)) (part_none s (recipe_parts t) none)

  pub found_here : (t : Recipe L) → found_at t [] ≡ Finding.Label (label_of number [] t)
  unfolding label_below
  found_here t = refl

  -- a free name is found
  pub free_found : {t : Recipe L} {path : List ℕ} {x : ℕ} → FreeAt t path x → found_at t path ≡ named x
  unfolding inner
  free_found (FreeAt.here {x = x}) = found_here (Recipe.name x)
  free_found (FreeAt.left {t = t} {u = u} {path = path} f) = found_part (Recipe.call t u) (left t) path (inl refl) ∙ free_found f
  free_found (FreeAt.right {t = t} {u = u} {path = path} f) = found_part (Recipe.call t u) (right u) path (inr (inl refl)) ∙ free_found f
  free_found (FreeAt.inside {a = a} {x = x} {t = t} {path = path} n f) =
      found_part (Recipe.bind a t) (inside a t) path (inl refl) ∙ ap (found_above (Some a)) (free_found f) ∙ named_above (Some a) x (λ e. n (cc))

  -- and a name that is found is free there
  free_here : (t : Recipe L) (x : ℕ) → Finding.Label (label_of number [] t) ≡ named x → FreeAt t [] x
  unfolding inner
  free_here (Recipe.name y) x e = let one : y ≡ x = cc in rw one FreeAt.here
  free_here t x e = absurd (cc)

  free_at_step : (t : Recipe L) (s : ℕ) (path : List ℕ) (x : ℕ) (y : Part (Recipe L)) → In y (recipe_parts t) → y.step ≡ s → found_at t (s ∷ path) ≡ named x → (found_at y.at path ≡ named x → FreeAt y.at path x) → FreeAt t (s ∷ path) x
  free_at_step t s path x y i d e deeper =
      let there : found_above y.under (found_at y.at path) ≡ named x = sym (found_part t y path i) ∙ ap (λ k. found_at t (k ∷ path)) d ∙ e in
      let above = above_named y.under x (found_at y.at path) there in
      rw (← d) (step_free t y path x i above.1 (deeper above.0))

  pub found_free : (path : List ℕ) (t : Recipe L) (x : ℕ) → found_at t path ≡ named x → FreeAt t path x
  found_free [] t x e = free_here t x (sym (found_here t) ∙ e)
  found_free (s ∷ path) t x e =
      elim (known_among (recipe_parts t) (λ y. cases_eq y.step s)) [
        | inl at ↦ free_at_step t s path x at.0 at.1 at.2 e (found_free path at.0.at x)
        | inr none ↦ absurd (let nothing = found_none t s path (λ y i d. none (y, i, d)) in cc)
      ]

  module _ (same : L → L → Bool) (one_number : (l k : L) → same l k ≡ true → number l ≡ number k) where
    -- what is found in two related recipes at one path
    bind_turned : (R : Relation) (a b : ℕ) (t u : Recipe L) (path : List ℕ) (test : Bool) → Turned (under R a b) (found_at t path) (found_at u path) → Turned R (finding (at_part (label_below number path) [] (cond test (Some (inside a t)) None))) (finding (at_part (label_below number path) [] (cond test (Some (inside b u)) None)))
    bind_turned R a b t u path true deeper = rw (below_outer a path [] t, below_outer b path [] u) (turned_above R a b _ _ deeper)
    bind_turned R a b t u path false deeper = Turned.other (λ x e. cc)

    call_turned : (R : Relation) (t u v w : Recipe L) (path : List ℕ) (test also : Bool) → Turned R (found_at t path) (found_at v path) → Turned R (found_at u path) (found_at w path) → Turned R (finding (at_part (label_below number path) [] (cond test (Some (left t)) (cond also (Some (right u)) None)))) (finding (at_part (label_below number path) [] (cond test (Some (left v)) (cond also (Some (right w)) None))))
    call_turned R t u v w path true also one two = one
    call_turned R t u v w path false true one two = two
    call_turned R t u v w path false false one two = Turned.other (λ x e. cc)

    pub related_found : {R : Relation} {t u : Recipe L} → Related same R t u → (path : List ℕ) → Turned R (found_at t path) (found_at u path)
    unfolding label_below inner
    related_found Related.nils [] = Turned.other (λ x e. cc)
    related_found (Related.leaves {l = l} {m = k} e) [] = rw (one_number l k e) (Turned.other {f = Finding.Label (Label.Leaf (number k))} (λ x d. cc))
    related_found (Related.names r) [] = Turned.name r
    related_found (Related.binds {R = R} {a = a} {b = b} {t = t} {u = u} r) (s ∷ path) = bind_turned R a b t u path (eqb 2 s) (related_found r path)
    related_found (Related.calls {R = R} {t = t} {u = u} {v = v} {w = w} q r) (s ∷ path) = call_turned R t u v w path (eqb 0 s) (eqb 1 s) (related_found q path) (related_found r path)
    related_found r path = Turned.other (λ x e. cc)

  module _ (θ : Filling L) (part : ℕ → Recipe L) where
    -- the label of a place that is no hole is that of its filled text
    pub layer_label : (form : Form L) → kind_of form ≢ 3 → label_of number [] (layer θ part form) ≡ form_label number form
    unfolding inner
    layer_label (Form.hole h) n = absurd (n refl)
    layer_label form n = refl
