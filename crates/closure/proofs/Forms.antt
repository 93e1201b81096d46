-- Forms and their parts: one part at a step, what kind a form is of, and where holes and parts stand in a table. Assumes nothing.
use Rattle.std.proofs.Common.{◌≡◌, ℕ, ◌<◌, ◌≢◌, ◌⊎◌, List, [], ◌∷◌, Some, Option, cond, ◌==◌, sym, refl, ap, ◌∙◌, subst, inl, inr, arith}
use Rattle.std.proofs.lemmas.Bool.{cases_eq, cases_lt}
use Rattle.recipe.specs.Common.{In}
use Rattle.recipe.specs.Fillings.{Pair}
use Rattle.recipe.specs.Links.{kind_of}
use Rattle.recipe.specs.Recipes.{Recipe, Part, left, right, inside, recipe_parts}
use Rattle.recipe.specs.Tables.{Form, Table, parts}
use Rattle.recipe.proofs.Filled.{Rising}
use Rattle.closure.specs.Decision.{WellFormed}
use Rattle.closure.proofs.Known.{Known, known_same}

-- what lists of parts there are: no part, the inside of a bind, or the two parts of a call
pub data Parts {X : Type 0} : List (Part X) → Type 0 where
  no_parts : Parts []
  one_part : {a : ℕ} {x : X} → Parts (inside a x ∷ [])
  two_parts : {x y : X} → Parts (left x ∷ right y ∷ [])

-- what is in a list of one is that one
pub only : {A : Type 0} {x y : A} → In x (y ∷ []) → x ≡ y
only (inl e) = e
only (inr i) = absurd i

-- of forms and of recipes
pub form_parts : {L : Type 0} (f : Form L) → Parts (parts f)
form_parts (Form.bind a c) = Parts.one_part
form_parts (Form.call c d) = Parts.two_parts
form_parts f = Parts.no_parts

pub text_parts : {L : Type 0} (t : Recipe L) → Parts (recipe_parts t)
text_parts (Recipe.bind a t) = Parts.one_part
text_parts (Recipe.call t u) = Parts.two_parts
text_parts t = Parts.no_parts

module _ {X : Type 0} where
  -- there are parts at three steps, and one part at a step
  pub step_low : {xs : List (Part X)} (y : Part X) → Parts xs → In y xs → y.step < 3
  step_low y Parts.no_parts i = absurd i
  step_low y s i = grind arith

  pub one_at_step : {xs : List (Part X)} (y z : Part X) → Parts xs → In y xs → In z xs → y.step ≡ z.step → y ≡ z
  one_at_step y z Parts.no_parts i j e = absurd i
  one_at_step y z s i j e = grind arith

  -- of two parts at one step, both stand under binders or neither does
  pub both_under : {xs ys : List (Part X)} (y z : Part X) (a : ℕ) → Parts xs → Parts ys → In y xs → In z ys → y.step ≡ z.step → y.under ≡ Some a → (b : ℕ) × (z.under ≡ Some b)
  both_under y z a Parts.one_part (Parts.one_part {a = b}) i j e u = (b, ap (λ w. w.under) (only j))
  both_under y z a s t i j e u = absurd (grind arith)

module _ {L : Type 0} where
  -- a bind has its inside as a part, and a form with a part under a binder is a bind
  pub bind_inside : (f : Form L) (a c : ℕ) → f ≡ Form.bind a c → In (inside a c) (parts f)
  bind_inside f a c e = rw e (inl refl)

  pub bind_around : (f : Form L) (y : Part ℕ) (a : ℕ) → In y (parts f) → y.under ≡ Some a → f ≡ Form.bind a y.at
  bind_around (Form.bind b c) y a (inl e) u =
      let name : ◌≡◌ {A = Option ℕ} (Some b) (Some a) = ap (λ w. w.under) (sym e) ∙ u in
      let own : b ≡ a = cc in
      rw (e, own) refl
  bind_around (Form.bind b c) y a (inr i) u = absurd i
  bind_around (Form.call c d) y a i u = absurd (grind arith)
  bind_around f y a i u = absurd i

  -- a form with a part at a step has its kind by the step
  kind_by_step : (f : Form L) (x : Part ℕ) → In x (parts f) → kind_of f ≡ cond (x.step == 2) 4 5
  kind_by_step (Form.bind a c) x (inl e) = rw e refl
  kind_by_step (Form.bind a c) x (inr i) = absurd i
  kind_by_step (Form.call c d) x (inl e) = rw e refl
  kind_by_step (Form.call c d) x (inr (inl e)) = rw e refl
  kind_by_step (Form.call c d) x (inr (inr i)) = absurd i
  kind_by_step f x i = absurd i

  -- so two forms with parts at one step have one kind
  pub one_kind : (f g : Form L) (x y : Part ℕ) → In x (parts f) → In y (parts g) → x.step ≡ y.step → kind_of f ≡ kind_of g
  one_kind f g x y i j e = kind_by_step f x i ∙ ap (λ s. cond (s == 2) 4 5) e ∙ sym (kind_by_step g y j)

  -- a form of the kind of a hole is one
  pub hole_form : (f : Form L) → kind_of f ≡ 3 → (h : ℕ) × (f ≡ Form.hole h)
  hole_form (Form.hole h) e = (h, refl)
  hole_form f e = absurd (omega arith)

  pub hole_or_not : (f : Form L) → ((h : ℕ) × (f ≡ Form.hole h)) ⊎ (kind_of f ≢ 3)
  hole_or_not f = elim (cases_eq (kind_of f) 3) [ inl e ↦ inl (hole_form f e) | inr n ↦ inr n ]

  -- whether a form is a hole, a name or a leaf that has a property
  known_hole : {P : ℕ → Type 0} → ((h : ℕ) → Known (P h)) → (f : Form L) → Known ((h : ℕ) × (f ≡ Form.hole h) × P h)
  known_hole {P = P} each (Form.hole h) = known_same (λ p. (h, refl, p)) (λ w. let e : w.0 ≡ h = cc in subst P e w.2) (each h)
  known_hole each f = inr (λ w. cc)

  pub known_name : {P : ℕ → Type 0} → ((x : ℕ) → Known (P x)) → (f : Form L) → Known ((x : ℕ) × (f ≡ Form.name x) × P x)
  known_name {P = P} each (Form.name x) = known_same (λ p. (x, refl, p)) (λ w. let e : w.0 ≡ x = cc in subst P e w.2) (each x)
  known_name each f = inr (λ w. cc)

  pub known_leaf : {P : L → Type 0} → ((l : L) → Known (P l)) → (f : Form L) → Known ((l : L) × (f ≡ Form.leaf l) × P l)
  known_leaf {P = P} each (Form.leaf l) = known_same (λ p. (l, refl, p)) (λ w. let e : w.0 ≡ l = cc in subst P e w.2) (each l)
  known_leaf each f = inr (λ w. cc)

  -- whether a form is the hole of a number, and whether two forms are one hole
  pub known_hole_at : (h : ℕ) (f : Form L) → Known (f ≡ Form.hole h)
  known_hole_at h f = known_same (λ w. w.1 ∙ ap Form.hole w.2) (λ e. (h, e, refl)) (known_hole {P = λ k. k ≡ h} (λ k. cases_eq k h) f)

  pub known_one_hole : (f g : Form L) → Known ((h : ℕ) × (f ≡ Form.hole h) × (g ≡ Form.hole h))
  known_one_hole f g = known_hole {P = λ h. g ≡ Form.hole h} (λ h. known_hole_at h g) f

  -- whether a form is a bind of a name
  pub known_bind : (a : ℕ) (f : Form L) → Known ((c : ℕ) × (f ≡ Form.bind a c))
  known_bind a (Form.bind b c) = known_same (λ e. (c, ap (λ x. Form.bind x c) e)) (λ w. cc) (cases_eq b a)
  known_bind a f = inr (λ w. cc)

module _ {L : Type 0} {T : Table L} {m : ℕ} {pairs : List Pair} (ready : WellFormed T m pairs) where
  pub rising : Rising T
  rising = record { up = ready.ordered.rising; past = ready.past }

  -- what has a part, or is not nil, is a place of the table
  pub holder_inside : (p : ℕ) (y : Part ℕ) → In y (parts (T.form p)) → p < T.size
  holder_inside p y i = let r = ready.ordered.rising p y i in omega arith

  pub form_inside : (p : ℕ) → T.form p ≢ Form.nil → p < T.size
  form_inside p n = elim (cases_lt p T.size) [ inl l ↦ l | inr l ↦ absurd (n (ready.past p l)) ]

  -- so a bind is a place of the table, and its name is below m
  pub bind_low : (p a c : ℕ) → T.form p ≡ Form.bind a c → (p < T.size) × (a < m)
  bind_low p a c e =
      let i = bind_inside (T.form p) a c e in
      (holder_inside p (inside a c) i, ready.binders p a (inside a c) i refl)
