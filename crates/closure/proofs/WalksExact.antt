-- A walk finds exactly what the right answer to a look is. Assumes nothing.
use Rattle.std.proofs.Common.{◌≡◌, ℕ, zero, suc, ◌<◌, ◌≤◌, Bool, true, false, cond, leb, ltb, ◌≢◌, ◌⊎◌, ◌↔◌, List, [], ◌∷◌, Some, None, Ok, Option, sym, refl, ap, ◌∙◌, inl, inr, arith}
use Rattle.std.proofs.lemmas.Bool.{cases_eq, ltb-false}
use Rattle.std.specs.Option.{option_map}
use Rattle.recipe.specs.Common.{In}
use Rattle.recipe.specs.EqualityLaws.{Free}
use Rattle.recipe.specs.Fillings.{Filling, Pair, SatisfiesAll, filled}
use Rattle.recipe.specs.Labels.{label_of}
use Rattle.recipe.specs.Links.{Linked, kind_of}
use Rattle.recipe.specs.Looks.{AllHave, Looks, look_fault, unknown_step}
use Rattle.recipe.specs.Numbering.{number_of}
use Rattle.recipe.specs.Recipes.{Recipe, Part, left, right, inside, recipe_parts}
use Rattle.recipe.specs.Sameness.{Sameness}
use Rattle.recipe.specs.Tables.{Form, Table, parts}
use Rattle.recipe.specs.declared.labels.Finding.{Finding}
use Rattle.recipe.specs.declared.labels.Label.{Label}
use Rattle.recipe.specs.declared.refusals.Refusal.{Refusal}
use Rattle.recipe.proofs.Filled.{filled_layer}
use Rattle.recipe.proofs.Numbers.{one_number}
use Rattle.recipe.proofs.OneAnswer.{looks_once}
use Rattle.recipe.proofs.Shapes.{filled_part, filled_piece}
use Rattle.closure.specs.Closures.{Closure}
use Rattle.closure.specs.Decision.{Consistent, WellFormed}
use Rattle.closure.specs.Walks.{SeenAt, Walks, WalksExact, form_label, found_above}
use Rattle.closure.proofs.Building.{built, built_satisfies, built_open}
use Rattle.closure.proofs.Forms.{hole_form, rising}
use Rattle.closure.proofs.Kept.{filled_related, free_joined, free_nowhere}
use Rattle.closure.proofs.Known.{known_among}
use Rattle.closure.proofs.LabelsAlong.{Turned, above_named, finding, found_at, found_free, found_here, found_none, found_part, free_found, layer_label, named, related_found}
use Rattle.closure.proofs.Layers.{filled_form, layer_parts}
use Rattle.closure.proofs.LinksDecided.{solid_or_open}
use Rattle.closure.proofs.MatchedNames.{joined_low, matched}
use Rattle.closure.proofs.FillingExists.{decision_exact}
use Rattle.closure.proofs.Relations.{FreeAt, Relation, Closed}

-- a finding is a free name, or is none
named_or_not : (f : Finding) → ((x : ℕ) × (f ≡ named x)) ⊎ ((x : ℕ) → f ≢ named x)
named_or_not (Finding.Label (Label.Name y)) = inl (y, refl)
named_or_not f = inr (λ x e. cc)

-- what turns into no free name is the same
turned_same : {R : Relation} {f g : Finding} → Turned R f g → ((x : ℕ) → g ≢ named x) → f ≡ g
turned_same (Turned.name {y = y} r) n = absurd (n y refl)
turned_same (Turned.other n) m = refl

-- what no binder changes
abbrev Plain : Finding → Type 0
Plain f = (o : Option ℕ) → found_above o f ≡ f

unchanged : {f : Finding} → ((a : ℕ) → found_above (Some a) f ≡ f) → Plain f
unchanged each None = refl
unchanged each (Some a) = each a

plain_unnamed : (f : Finding) → Plain f → (x : ℕ) → f ≢ named x
plain_unnamed f same x e = (above_named (Some x) x f (same (Some x) ∙ e)).1 refl

-- what is open above is open in the part
above_open : (o : Option ℕ) (f : Finding) → found_above o f ≡ Finding.Open → f ≡ Finding.Open
above_open None f e = e
above_open (Some a) Finding.Open e = refl
above_open (Some a) f e = absurd (cc)

-- a finding tells the label, or that there is none
finding_once : (o r : Option Label) → finding o ≡ finding r → o ≡ r
finding_once None None e = refl
finding_once (Some l) (Some k) e = cc
finding_once o r e = cc

-- what is none was none before a function, and where it is no first answer the test fails
unmapped : {A B : Type 0} (f : A → B) (o : Option A) → option_map f o ≡ None → o ≡ None
unmapped f None e = refl
unmapped f (Some a) e = absurd cc

untested : {A : Type 0} (test : Bool) (a : A) (rest : Option A) → cond test (Some a) rest ≡ None → (test ≡ false) × (rest ≡ None)
untested true a rest e = absurd cc
untested false a rest e = (refl, e)

-- a path of known steps starts with one, and goes on with them
known_step : (s : ℕ) (path : List ℕ) → unknown_step (s ∷ path) ≡ None → (s ≤ 2) × (unknown_step path ≡ None)
known_step s path e = let (high, rest) = untested (ltb 2 s) 0 (option_map suc (unknown_step path)) e in (ltb-false 2 s high, unmapped suc (unknown_step path) rest)

name_form : {L : Type 0} (number : L → Option ℕ) (form : Form L) (x : ℕ) → kind_of form ≢ 3 → Finding.Label (form_label number form) ≡ named x → form ≡ Form.name x
name_form number (Form.name y) x n e = cc
name_form number (Form.hole h) x n e = absurd (n refl)
name_form number form x n e = absurd (cc)

-- a recipe with a part at a step
deep_at : {L : Type 0} → ℕ → Recipe L → Recipe L
deep_at zero t = Recipe.call t Recipe.nil
deep_at (suc zero) t = Recipe.call Recipe.nil t
deep_at (suc (suc s)) t = Recipe.bind 0 t

deep_part : {L : Type 0} (s : ℕ) (t : Recipe L) → s ≤ 2 → (y : Part (Recipe L)) × In y (recipe_parts (deep_at s t)) × (y.step ≡ s) × (y.at ≡ t)
unfolding deep_at
deep_part zero t low = (left t, inl refl, refl, refl)
deep_part (suc zero) t low = (right t, inr (inl refl), refl, refl)
deep_part (suc (suc s)) t low = (inside 0 t, inl refl, omega arith, refl)

deep_free : {L : Type 0} (s x : ℕ) (t : Recipe L) → Free x (deep_at s t) → Free x t
unfolding deep_at
deep_free zero x t (inl f) = f
deep_free zero x t (inr f) = absurd f
deep_free (suc zero) x t (inl f) = absurd f
deep_free (suc zero) x t (inr f) = f
deep_free (suc (suc s)) x t f = f.1

-- a closed recipe that has a path, with a call at its end
deep : {L : Type 0} → List ℕ → Recipe L
deep [] = Recipe.call Recipe.nil Recipe.nil
deep (s ∷ path) = deep_at s (deep path)

deep_closed : (L : Type 0) (path : List ℕ) → Closed {L = L} (deep path)
unfolding deep
deep_closed L [] x f = elim f [ inl a ↦ a | inr b ↦ b ]
deep_closed L (s ∷ path) x f = deep_closed L path x (deep_free s x (deep path) f)

module _ {L : Type 0} (number : L → Option ℕ) where
  deep_found : (path : List ℕ) → unknown_step path ≡ None → found_at number (deep path) path ≡ Finding.Label Label.Call
  unfolding deep
  deep_found [] e = found_here number (deep [])
  deep_found (s ∷ path) e =
      let (low, more) = known_step s path e in
      let (y, i, at, is) = deep_part s (deep path) low in
      ap (λ k. found_at number (deep (s ∷ path)) (k ∷ path)) (sym at) ∙ found_part number (deep (s ∷ path)) y path i ∙ ap (λ t. found_above y.under (found_at number t path)) is ∙ ap (found_above y.under) (deep_found path more) ∙ unchanged (λ a. refl) y.under

  -- nil has no such call
  nil_found : (path : List ℕ) → (f : Finding) × Plain f × (f ≢ Finding.Label Label.Call) × (found_at number Recipe.nil path ≡ f)
  nil_found [] = (Finding.Label Label.Nil, unchanged (λ a. refl), λ e. cc, found_here number Recipe.nil)
  nil_found (s ∷ path) = (Finding.Absent, unchanged (λ a. refl), λ e. cc, found_none number Recipe.nil s path (λ y i. absurd i))

module _ {L : Type 0} {same : L → L → Bool} (laws : Sameness same) {T : Table L} {m : ℕ} {pairs : List Pair} (ready : WellFormed T m pairs) (ls : List L) where
  abbrev pub number : L → Option ℕ
  number = number_of same ls

  abbrev pub Walk : ℕ → List ℕ → Finding → Type 0
  Walk = Walks T m pairs number

  -- the names that a walk finds are below m
  carried_low : {r p : ℕ} {f g : Finding} (x : ℕ) → SeenAt T m pairs r p f g → g ≡ named x → ((z : ℕ) → f ≡ named z → z < m) → x < m
  carried_low {r = r} {p = p} x (SeenAt.name {x = z} {y = y} j) e low =
      elim (joined_low ready (Closure.back j)) [ inl d ↦ low x (let one : z ≡ x = cc in cc) | inr h ↦ (let one : y ≡ x = cc in rw (← one) h) ]
  carried_low x (SeenAt.other n) e low = low x e

  pub walk_low : {p : ℕ} {path : List ℕ} {f : Finding} → Walk p path f → (x : ℕ) → f ≡ named x → x < m
  walk_low (Walks.label {p = p} n) x e = ready.names p x (name_form number (T.form p) x n e)
  walk_low (Walks.absent n none) x e = absurd (cc)
  walk_low (Walks.down {f = f} y i w) x e = walk_low w x (above_named y.under x f e).0
  walk_low (Walks.along k l n w c) x e = carried_low x c e (walk_low w)
  walk_low (Walks.undecided all) x e = absurd (cc)

  -- what is open is carried as open, and nothing else is
  carried_open : {r p : ℕ} {f g : Finding} → SeenAt T m pairs r p f g → (f ≡ Finding.Open) ↔ (g ≡ Finding.Open)
  carried_open (SeenAt.name j) = (λ e. absurd (cc), λ e. absurd (cc))
  carried_open (SeenAt.other n) = (λ e. e, λ e. e)

  module _ (θ : Filling L) where
    -- what is found in the filled text of a place
    abbrev shown : ℕ → List ℕ → Finding
    shown p path = found_at number (filled T θ p) path

    shown_label : (p : ℕ) → kind_of (T.form p) ≢ 3 → shown p [] ≡ Finding.Label (form_label number (T.form p))
    shown_label p n =
        found_here number (filled T θ p) ∙ ap (λ t. Finding.Label (label_of number [] t)) (filled_layer T θ (rising ready) p) ∙ ap Finding.Label (layer_label number θ (filled T θ) (T.form p) n)

    shown_absent : (p s : ℕ) (path : List ℕ) → kind_of (T.form p) ≢ 3 → ((y : Part ℕ) → In y (parts (T.form p)) → y.step ≢ s) → shown p (s ∷ path) ≡ Finding.Absent
    shown_absent p s path n none =
        found_none number (filled T θ p) s path (λ z i. let (y, j, e) = layer_parts θ (filled T θ) (T.form p) z n (rw (filled_layer T θ (rising ready) p) at i) in rw e (none y j))

    shown_part : (p : ℕ) (y : Part ℕ) (path : List ℕ) → In y (parts (T.form p)) → shown p (y.step ∷ path) ≡ found_above y.under (shown y.at path)
    shown_part p y path i = found_part number (filled T θ p) (filled_part (filled T θ) y) path (filled_piece T θ (rising ready) p y i)

    module _ (satisfied : SatisfiesAll same T θ pairs) where
      -- what is no free name is found at each linked place
      shown_linked : {p r : ℕ} {f : Finding} (path : List ℕ) → Linked T pairs p r → shown r path ≡ f → ((x : ℕ) → f ≢ named x) → shown p path ≡ f
      shown_linked path l e n =
          turned_same (related_found number same (one_number same laws ls) (filled_related laws ready θ satisfied l) path) (λ x d. n x (sym e ∙ d)) ∙ e

      -- a free name that is found is free in the text
      shown_free : (p x : ℕ) (path : List ℕ) → shown p path ≡ named x → FreeAt (filled T θ p) path x
      shown_free p x path e = found_free number path (filled T θ p) x e

      shown_carried : {p r : ℕ} {f g : Finding} (path : List ℕ) → Linked T pairs p r → SeenAt T m pairs r p f g → shown r path ≡ f → shown p path ≡ g
      shown_carried path l (SeenAt.name j) e = free_found number (free_joined laws ready θ satisfied j path (shown_free _ _ path e))
      shown_carried path l (SeenAt.other n) e = shown_linked path l e n

      -- what a walk finds stands there under each filling, if it is not open
      walk_shown : {p : ℕ} {path : List ℕ} {f : Finding} → Walk p path f → f ≢ Finding.Open → shown p path ≡ f
      walk_shown (Walks.label {p = p} n) o = shown_label p n
      walk_shown (Walks.absent {p = p} {s = s} {path = path} n none) o = shown_absent p s path n none
      walk_shown (Walks.down {p = p} {path = path} y i w) o =
          shown_part p y path i ∙ ap (found_above y.under) (walk_shown w (λ e. o (ap (found_above y.under) e ∙ unchanged (λ a. refl) y.under)))
      walk_shown (Walks.along {path = path} k l n w c) o = shown_carried path l c (walk_shown w (λ e. o ((carried_open c).0 e)))
      walk_shown (Walks.undecided all) o = absurd (o refl)

      -- what a walk finds at a place is something at each linked place
      pub carry : {p r : ℕ} {path : List ℕ} {f : Finding} → Linked T pairs p r → Walk r path f → (g : Finding) × SeenAt T m pairs r p f g
      carry {p = p} {r = r} {path = path} {f = f} l w = elim (named_or_not f) [ inl is ↦ by_name is.0 is.1 | inr n ↦ (f, SeenAt.other n) ]
        where
          by_name : (x : ℕ) → f ≡ named x → (g : Finding) × SeenAt T m pairs r p f g
          by_name x e =
              let both = matched ready (Linked.back l) in
              let free : FreeAt (filled T θ r) path x = shown_free r x path (walk_shown w (λ d. absurd (cc)) ∙ e) in
              elim (both.first x (walk_low w x e)) [
                | inl gone ↦ absurd (free_nowhere laws ready θ satisfied gone path free)
                | inr there ↦ (named there.0, rw e (SeenAt.name (both.joined x there.0 there.1)))
              ]

      -- a walk at a place that is no hole, or open, or as at a linked place that is no hole
      walk_at : (p : ℕ) (path : List ℕ) → ((r : ℕ) → kind_of (T.form r) ≢ 3 → (f : Finding) × Walk r path f) → (f : Finding) × Walk p path f
      walk_at p path each =
          elim (cases_eq (kind_of (T.form p)) 3) [
            | inl k ↦ elim (solid_or_open ready p) [
              | inl at ↦ let (f, w) = each at.0 at.1.has.1 in let (g, c) = carry at.1.has.0 w in (g, Walks.along k at.1.has.0 at.1.has.1 w c)
              | inr all ↦ (Finding.Open, Walks.undecided all)
            ]
            | inr n ↦ each p n
          ]

      walk_step : (s : ℕ) (path : List ℕ) (r : ℕ) → kind_of (T.form r) ≢ 3 → ((q : ℕ) → (f : Finding) × Walk q path f) → (f : Finding) × Walk r (s ∷ path) f
      walk_step s path r n each =
          elim (known_among (parts (T.form r)) (λ y. cases_eq y.step s)) [
            | inl at ↦ let (f, w) = each at.0.at in (found_above at.0.under f, rw (← at.2) (Walks.down at.0 at.1 w))
            | inr none ↦ (Finding.Absent, Walks.absent n (λ y i e. none (y, i, e)))
          ]

      walks : (path : List ℕ) (p : ℕ) → (f : Finding) × Walk p path f
      walks [] p = walk_at p [] (λ r n. (Finding.Label (form_label number (T.form r)), Walks.label n))
      walks (s ∷ path) p = walk_at p (s ∷ path) (λ r n. walk_step s path r n (walks path))

  module _ (closures : Consistent same T m pairs) where
    -- the filling with one closed recipe wherever a hole is left open
    abbrev made : (closed : Recipe L) → Closed closed → Filling L
    made closed shut = built laws ready closures closed shut

    made_satisfies : (closed : Recipe L) (shut : Closed closed) → SatisfiesAll same T (made closed shut) pairs
    made_satisfies closed shut = built_satisfies laws ready closures closed shut

    -- at the path stands what stands in that closed recipe at a rest of the path
    abbrev OpenAt : ℕ → List ℕ → Type 0
    OpenAt p path = (rest : List ℕ) × (unknown_step rest ≡ None) × ((closed : Recipe L) (shut : Closed closed) (f : Finding) → Plain f → found_at number closed rest ≡ f → shown (made closed shut) p path ≡ f)

    walk_open : {p : ℕ} {path : List ℕ} {f : Finding} → Walk p path f → f ≡ Finding.Open → unknown_step path ≡ None → OpenAt p path
    walk_open (Walks.label n) e k = absurd (cc)
    walk_open (Walks.absent n none) e k = absurd (cc)
    walk_open (Walks.down {p = p} {path = path} {f = f} y i w) e k =
        let (rest, more, each) = walk_open w (above_open y.under f e) (known_step y.step path k).1 in
        (rest, more, λ closed shut g plain is. shown_part (made closed shut) p y path i ∙ ap (found_above y.under) (each closed shut g plain is) ∙ plain y.under)
    walk_open (Walks.along {path = path} h l n w c) e k =
        let (rest, more, each) = walk_open w ((carried_open c).1 e) k in
        (rest, more, λ closed shut g plain is. shown_linked (made closed shut) (made_satisfies closed shut) path l (each closed shut g plain is) (plain_unnamed g plain))
    walk_open (Walks.undecided {p = p} {path = path} all) e k =
        let (h, at) = hole_form (T.form p) (all p Linked.itself) in (
          path,
          k,
          λ closed shut g plain is.
              ap (λ t. found_at number t path) (filled_form ready (made closed shut) at ∙ built_open laws ready closures closed shut p h at all) ∙ is,
        )

    -- so what is open differs between two fillings
    open_differs : (p : ℕ) (path : List ℕ) → OpenAt p path → (found : Option Label) → AllHave same T ls pairs p path found → ⊥
    open_differs p path (rest, more, each) found all =
        let (f, plain, other, is) = nil_found number rest in
        let stands : (closed : Recipe L) → Closed closed → (g : Finding) → Plain g → found_at number closed rest ≡ g → g ≡ finding found = λ closed shut g plain is. sym (each closed shut g plain is) ∙ ap finding (all (made closed shut) (made_satisfies closed shut)) in
        other (stands Recipe.nil (λ x f. f) f plain is ∙ sym (stands (deep rest) (deep_closed L rest) (Finding.Label Label.Call) (unchanged (λ a. refl)) (deep_found number rest more)))

    -- what a walk finds is the right answer to the look
    walk_right : (p : ℕ) (path : List ℕ) → look_fault T p path ≡ None → unknown_step path ≡ None → (f : Finding) → Walk p path f → Looks same T ls pairs p path (Ok f)
    walk_right p path fault k (Finding.Label l) w = Looks.label fault (λ θ satisfied. finding_once _ (Some l) (walk_shown θ satisfied w (λ e. cc)))
    walk_right p path fault k Finding.Absent w = Looks.absent fault (λ θ satisfied. finding_once _ None (walk_shown θ satisfied w (λ e. cc)))
    walk_right p path fault k Finding.Open w = Looks.undecided fault (open_differs p path (walk_open w refl k))

pub walks_exact : {L : Type 0} (same : L → L → Bool) → Sameness same → WalksExact same
walks_exact same laws T ls m pairs p path ready filling fault =
    let closures = (decision_exact laws ready).0 filling in
    let k = unmapped Refusal.UnknownStep (unknown_step path) (untested (leb T.size p) (Refusal.NoSuchPlace p) (option_map Refusal.UnknownStep (unknown_step path)) fault).1 in
    let (f, w) = walks laws ready ls filling.0 filling.1 path p in
    let right = walk_right laws ready ls closures p path fault k in
    record {
      finds = (f, w);
      right = λ g. (right g, λ look. let one : Ok g ≡ Ok f = looks_once same T ls pairs p path (Ok g) (Ok f) filling look (right f w) in let is : g ≡ f = cc in rw is w);
    }
