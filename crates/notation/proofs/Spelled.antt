-- Spelled tokens leave nothing to come, and whatever is to come can be completed. Assumes nothing.
use Rattle.std.proofs.Common.{◌≡◌, ℕ, List, [], ◌∷◌, ◌++◌, Some, None, Option, option_and_then, slice_index_or, drop, refl, ap, ap₂, sym, subst, ◌∙◌}
use Rattle.std.proofs.lemmas.Option.{none-some, same_Some}
use Rattle.tokens.specs.Tokens.{Token}
use Rattle.tokens.specs.declared.classes.Class.{Class}
use Rattle.notation.specs.Grammar.{Tree, Spells, SpellsAll, Begins}
use Rattle.notation.specs.Machine.{Awaited, step, recipe_step, head_step, opening_step, binder_step, close_step}
use Rattle.notation.proofs.Fronts.{to_come, to_come_append}

-- a step by a token of a known class
to_come_step : (K : List Awaited) (k : Token) (s : List Token) (c : Class) → k.class ≡ c → to_come K (k ∷ s) ≡ option_and_then (λ N. to_come N s) (step K c)
unfolding to_come
to_come_step K k s c e = ap (λ b. option_and_then (λ N. to_come N s) (step K b)) e

-- a list whose first item is a recipe is a call
head_read : {s r : List Token} {t : Tree} → Spells s t r → (K : List Awaited) → to_come (Awaited.head ∷ K) s ≡ to_come (Awaited.recipe ∷ Awaited.recipe ∷ Awaited.close ∷ K) s
head_read (Spells.nil {k = k} {r = r} e) K = to_come_step (Awaited.head ∷ K) k r Class.Nil e ∙ sym (to_come_step (Awaited.recipe ∷ Awaited.recipe ∷ Awaited.close ∷ K) k r Class.Nil e)
head_read (Spells.leaf {k = k} {r = r} w) K = to_come_step (Awaited.head ∷ K) k r Class.Leaf w.class ∙ sym (to_come_step (Awaited.recipe ∷ Awaited.recipe ∷ Awaited.close ∷ K) k r Class.Leaf w.class)
head_read (Spells.name {k = k} {r = r} w) K = to_come_step (Awaited.head ∷ K) k r Class.Name w.class ∙ sym (to_come_step (Awaited.recipe ∷ Awaited.recipe ∷ Awaited.close ∷ K) k r Class.Name w.class)
head_read (Spells.hole {k = k} {r = r} w) K = to_come_step (Awaited.head ∷ K) k r Class.Hole w.class ∙ sym (to_come_step (Awaited.recipe ∷ Awaited.recipe ∷ Awaited.close ∷ K) k r Class.Hole w.class)
head_read (Spells.bind {o = o} {l = l} {b = b} {k = k} {c = c} {s = s} a1 a2 a3 w a4 h a5) K = to_come_step (Awaited.head ∷ K) o (l ∷ b ∷ k ∷ c ∷ s) Class.Open a1 ∙ sym (to_come_step (Awaited.recipe ∷ Awaited.recipe ∷ Awaited.close ∷ K) o (l ∷ b ∷ k ∷ c ∷ s) Class.Open a1)
head_read (Spells.call {o = o} {s = s} a1 h g a2) K = to_come_step (Awaited.head ∷ K) o s Class.Open a1 ∙ sym (to_come_step (Awaited.recipe ∷ Awaited.recipe ∷ Awaited.close ∷ K) o s Class.Open a1)

-- a recipe that is to come is read off
pub recipe_read : {s r : List Token} {t : Tree} → Spells s t r → (K : List Awaited) → to_come (Awaited.recipe ∷ K) s ≡ to_come K r
recipe_read (Spells.nil {k = k} {r = r} e) K = to_come_step (Awaited.recipe ∷ K) k r Class.Nil e
recipe_read (Spells.leaf {k = k} {r = r} w) K = to_come_step (Awaited.recipe ∷ K) k r Class.Leaf w.class
recipe_read (Spells.name {k = k} {r = r} w) K = to_come_step (Awaited.recipe ∷ K) k r Class.Name w.class
recipe_read (Spells.hole {k = k} {r = r} w) K = to_come_step (Awaited.recipe ∷ K) k r Class.Hole w.class
recipe_read (Spells.bind {o = o} {l = l} {b = b} {k = k} {c = c} {e = e} {s = s} {r = r} a1 a2 a3 w a4 h a5) K =
    to_come_step (Awaited.recipe ∷ K) o (l ∷ b ∷ k ∷ c ∷ s) Class.Open a1
    ∙ to_come_step (Awaited.head ∷ K) l (b ∷ k ∷ c ∷ s) Class.Lambda a2
    ∙ to_come_step (Awaited.binder_open ∷ Awaited.binder_name ∷ Awaited.binder_close ∷ Awaited.recipe ∷ Awaited.close ∷ K) b (k ∷ c ∷ s) Class.Open a3
    ∙ to_come_step (Awaited.binder_name ∷ Awaited.binder_close ∷ Awaited.recipe ∷ Awaited.close ∷ K) k (c ∷ s) Class.Name w.class
    ∙ to_come_step (Awaited.binder_close ∷ Awaited.recipe ∷ Awaited.close ∷ K) c s Class.Close a4
    ∙ recipe_read h (Awaited.close ∷ K)
    ∙ to_come_step (Awaited.close ∷ K) e r Class.Close a5
recipe_read (Spells.call {o = o} {e = e} {s = s} {r = r} a1 h g a2) K =
    to_come_step (Awaited.recipe ∷ K) o s Class.Open a1
    ∙ head_read h K
    ∙ recipe_read h (Awaited.recipe ∷ Awaited.close ∷ K)
    ∙ recipe_read g (Awaited.close ∷ K)
    ∙ to_come_step (Awaited.close ∷ K) e r Class.Close a2

-- where nothing is to come, a recipe may begin
top_read : {s r : List Token} {t : Tree} → Spells s t r → to_come [] s ≡ to_come (Awaited.recipe ∷ []) s
unfolding to_come
top_read (Spells.nil e) = refl
top_read (Spells.leaf w) = refl
top_read (Spells.name w) = refl
top_read (Spells.hole w) = refl
top_read (Spells.bind a1 a2 a3 w a4 h a5) = refl
top_read (Spells.call a1 h g a2) = refl

-- recipes leave nothing to come
pub recipes_read : {s : List Token} {ts : List Tree} → SpellsAll s ts → to_come [] s ≡ Some []
unfolding to_come
recipes_read SpellsAll.none = refl
recipes_read (SpellsAll.more h hs) = top_read h ∙ recipe_read h [] ∙ recipes_read hs

-- the tokens are what is to come: after the parenthesis of a list, what is a recipe with the parenthesis before it
unfoldable Due : List Awaited → List Token → Type 0
Due [] s = (ts : List Tree) × SpellsAll s ts
Due (Awaited.recipe ∷ K) s = (t : Tree) × (r : List Token) × Spells s t r × Due K r
Due (Awaited.head ∷ K) s =
    (t : Tree) × (r : List Token) × ((o : Token) → o.class ≡ Class.Open → Spells (o ∷ s) t r) × Due K r
Due (Awaited.binder_open ∷ K) s = (k : Token) × (r : List Token) × (s ≡ k ∷ r) × (k.class ≡ Class.Open) × Due K r
Due (Awaited.binder_name ∷ K) s = (k : Token) × (r : List Token) × (s ≡ k ∷ r) × (k.class ≡ Class.Name) × Due K r
Due (Awaited.binder_close ∷ K) s = (k : Token) × (r : List Token) × (s ≡ k ∷ r) × (k.class ≡ Class.Close) × Due K r
Due (Awaited.close ∷ K) s = (k : Token) × (r : List Token) × (s ≡ k ∷ r) × (k.class ≡ Class.Close) × Due K r

-- the first token of a recipe that is to come
due_recipe : (K : List Awaited) (k : Token) (s : List Token) (c : Class) (N : List Awaited) → k.class ≡ c → recipe_step K c ≡ Some N → Due N s → Due (Awaited.recipe ∷ K) (k ∷ s)
unfolding Due
due_recipe K k s Class.Open N e h d =
    let (t, r, f, g) = subst (λ M. Due M s) (sym (same_Some (Awaited.head ∷ K) N h)) d in
    (t, r, f k e, g)
due_recipe K k s Class.Nil N e h d = (Tree.nil, s, Spells.nil e, subst (λ M. Due M s) (sym (same_Some K N h)) d)
due_recipe K k s Class.Name N e h d =
    (Tree.name k.bytes, s, Spells.name (record { class = e; bytes = refl }), subst (λ M. Due M s) (sym (same_Some K N h)) d)
due_recipe K k s Class.Hole N e h d =
    (Tree.hole k.bytes, s, Spells.hole (record { class = e; bytes = refl }), subst (λ M. Due M s) (sym (same_Some K N h)) d)
due_recipe K k s Class.Leaf N e h d =
    (Tree.leaf k.bytes, s, Spells.leaf (record { class = e; bytes = refl }), subst (λ M. Due M s) (sym (same_Some K N h)) d)
due_recipe K k s Class.Close N e h d = absurd (none-some N h)
due_recipe K k s Class.Lambda N e h d = absurd (none-some N h)
due_recipe K k s Class.Unknown N e h d = absurd (none-some N h)

-- two recipes and the end of a list
due_call : (K : List Awaited) (s : List Token) → Due (Awaited.recipe ∷ Awaited.recipe ∷ Awaited.close ∷ K) s → Due (Awaited.head ∷ K) s
unfolding Due
due_call K s (t, m, h, rest) =
    let (u, q, g, more) = rest in
    let (e, r, split, shut, d) = more in
    (Tree.call t u, r, λ o opens. Spells.call opens h (subst (λ x. Spells m u x) split g) shut, d)

-- a binder list, a recipe and the end of a list
due_bind : (K : List Awaited) (l : Token) (s : List Token) → l.class ≡ Class.Lambda → Due (Awaited.binder_open ∷ Awaited.binder_name ∷ Awaited.binder_close ∷ Awaited.recipe ∷ Awaited.close ∷ K) s → Due (Awaited.head ∷ K) (l ∷ s)
unfolding Due
due_bind K l s lambda (b, r1, e1, c1, d1) =
    let (k, r2, e2, c2, d2) = d1 in
    let (c, r3, e3, c3, d3) = d2 in
    let (t, r4, h, d4) = d3 in
    let (e, r5, e5, c5, d) = d4 in
    let split : s ≡ b ∷ k ∷ c ∷ r3 = e1 ∙ ap (λ x. b ∷ x) e2 ∙ ap (λ x. b ∷ k ∷ x) e3 in (
      Tree.bind k.bytes t,
      r5,
      λ o opens. subst (λ x. Spells (o ∷ l ∷ x) (Tree.bind k.bytes t) r5) (sym split) (Spells.bind opens lambda c1 (record { class = c2; bytes = refl }) c3 (subst (λ x. Spells r3 t x) e5 h) c5),
      d,
    )

-- the first token after the parenthesis of a list
due_head : (K : List Awaited) (k : Token) (s : List Token) (c : Class) (N : List Awaited) → k.class ≡ c → head_step K c ≡ Some N → Due N s → Due (Awaited.head ∷ K) (k ∷ s)
due_head K k s Class.Lambda N e h d =
    due_bind K k s e (subst (λ M. Due M s) (sym (same_Some (Awaited.binder_open ∷ Awaited.binder_name ∷ Awaited.binder_close ∷ Awaited.recipe ∷ Awaited.close ∷ K) N h)) d)
due_head K k s Class.Open N e h d = due_call K (k ∷ s) (due_recipe (Awaited.recipe ∷ Awaited.close ∷ K) k s Class.Open N e h d)
due_head K k s Class.Close N e h d = due_call K (k ∷ s) (due_recipe (Awaited.recipe ∷ Awaited.close ∷ K) k s Class.Close N e h d)
due_head K k s Class.Nil N e h d = due_call K (k ∷ s) (due_recipe (Awaited.recipe ∷ Awaited.close ∷ K) k s Class.Nil N e h d)
due_head K k s Class.Name N e h d = due_call K (k ∷ s) (due_recipe (Awaited.recipe ∷ Awaited.close ∷ K) k s Class.Name N e h d)
due_head K k s Class.Hole N e h d = due_call K (k ∷ s) (due_recipe (Awaited.recipe ∷ Awaited.close ∷ K) k s Class.Hole N e h d)
due_head K k s Class.Leaf N e h d = due_call K (k ∷ s) (due_recipe (Awaited.recipe ∷ Awaited.close ∷ K) k s Class.Leaf N e h d)
due_head K k s Class.Unknown N e h d = due_call K (k ∷ s) (due_recipe (Awaited.recipe ∷ Awaited.close ∷ K) k s Class.Unknown N e h d)

due_opening : (K : List Awaited) (k : Token) (s : List Token) (c : Class) (N : List Awaited) → k.class ≡ c → opening_step K c ≡ Some N → Due N s → Due (Awaited.binder_open ∷ K) (k ∷ s)
unfolding Due
due_opening K k s Class.Open N e h d = (k, s, refl, e, subst (λ M. Due M s) (sym (same_Some K N h)) d)
due_opening K k s Class.Close N e h d = absurd (none-some N h)
due_opening K k s Class.Nil N e h d = absurd (none-some N h)
due_opening K k s Class.Lambda N e h d = absurd (none-some N h)
due_opening K k s Class.Name N e h d = absurd (none-some N h)
due_opening K k s Class.Hole N e h d = absurd (none-some N h)
due_opening K k s Class.Leaf N e h d = absurd (none-some N h)
due_opening K k s Class.Unknown N e h d = absurd (none-some N h)

due_binder : (K : List Awaited) (k : Token) (s : List Token) (c : Class) (N : List Awaited) → k.class ≡ c → binder_step K c ≡ Some N → Due N s → Due (Awaited.binder_name ∷ K) (k ∷ s)
unfolding Due
due_binder K k s Class.Open N e h d = absurd (none-some N h)
due_binder K k s Class.Close N e h d = absurd (none-some N h)
due_binder K k s Class.Nil N e h d = absurd (none-some N h)
due_binder K k s Class.Lambda N e h d = absurd (none-some N h)
due_binder K k s Class.Name N e h d = (k, s, refl, e, subst (λ M. Due M s) (sym (same_Some K N h)) d)
due_binder K k s Class.Hole N e h d = absurd (none-some N h)
due_binder K k s Class.Leaf N e h d = absurd (none-some N h)
due_binder K k s Class.Unknown N e h d = absurd (none-some N h)

due_shut : (K : List Awaited) (k : Token) (s : List Token) (c : Class) (N : List Awaited) → k.class ≡ c → close_step K c ≡ Some N → Due N s → Due (Awaited.binder_close ∷ K) (k ∷ s)
unfolding Due
due_shut K k s Class.Open N e h d = absurd (none-some N h)
due_shut K k s Class.Close N e h d = (k, s, refl, e, subst (λ M. Due M s) (sym (same_Some K N h)) d)
due_shut K k s Class.Nil N e h d = absurd (none-some N h)
due_shut K k s Class.Lambda N e h d = absurd (none-some N h)
due_shut K k s Class.Name N e h d = absurd (none-some N h)
due_shut K k s Class.Hole N e h d = absurd (none-some N h)
due_shut K k s Class.Leaf N e h d = absurd (none-some N h)
due_shut K k s Class.Unknown N e h d = absurd (none-some N h)

due_close : (K : List Awaited) (k : Token) (s : List Token) (c : Class) (N : List Awaited) → k.class ≡ c → close_step K c ≡ Some N → Due N s → Due (Awaited.close ∷ K) (k ∷ s)
unfolding Due
due_close K k s Class.Open N e h d = absurd (none-some N h)
due_close K k s Class.Close N e h d = (k, s, refl, e, subst (λ M. Due M s) (sym (same_Some K N h)) d)
due_close K k s Class.Nil N e h d = absurd (none-some N h)
due_close K k s Class.Lambda N e h d = absurd (none-some N h)
due_close K k s Class.Name N e h d = absurd (none-some N h)
due_close K k s Class.Hole N e h d = absurd (none-some N h)
due_close K k s Class.Leaf N e h d = absurd (none-some N h)
due_close K k s Class.Unknown N e h d = absurd (none-some N h)

-- a first token
due_step : (K : List Awaited) (k : Token) (s : List Token) (N : List Awaited) → step K k.class ≡ Some N → Due N s → Due K (k ∷ s)
unfolding Due
due_step [] k s N h d =
    let (t, r, g, rest) = due_recipe [] k s k.class N refl h d in
    let (ts, gs) = rest in
    (t ∷ ts, SpellsAll.more g gs)
due_step (Awaited.recipe ∷ K) k s N h d = due_recipe K k s k.class N refl h d
due_step (Awaited.head ∷ K) k s N h d = due_head K k s k.class N refl h d
due_step (Awaited.binder_open ∷ K) k s N h d = due_opening K k s k.class N refl h d
due_step (Awaited.binder_name ∷ K) k s N h d = due_binder K k s k.class N refl h d
due_step (Awaited.binder_close ∷ K) k s N h d = due_shut K k s k.class N refl h d
due_step (Awaited.close ∷ K) k s N h d = due_close K k s k.class N refl h d

-- what an option leads on to
pub leads_on : {A B : Type 0} (o : Option A) (f : A → Option B) (b : B) → option_and_then f o ≡ Some b → (a : A) × (o ≡ Some a) × (f a ≡ Some b)
leads_on None f b h = absurd (none-some b h)
leads_on (Some a) f b h = (a, refl, h)

-- where nothing is left to come, the tokens are what was to come
due_of : (s : List Token) (K : List Awaited) → to_come K s ≡ Some [] → Due K s
unfolding to_come Due
due_of [] K h = subst (λ M. Due M []) (sym (same_Some K [] h)) ([], SpellsAll.none)
due_of (k ∷ s) K h =
    let (N, e, g) = leads_on (step K k.class) (λ N. to_come N s) [] h in
    due_step K k s N e (due_of s N g)

-- where nothing is left to come, the tokens are recipes
pub recipes_of : (s : List Token) → to_come [] s ≡ Some [] → (ts : List Tree) × SpellsAll s ts
unfolding Due
recipes_of s h = due_of s [] h

-- a token of a class
abbrev token : Class → Token
token c = record { start = 0; class = c; bytes = [] }

-- some tokens that are what is to come
unfoldable completion : List Awaited → List Token
completion [] = []
completion (Awaited.recipe ∷ K) = token Class.Nil ∷ completion K
completion (Awaited.head ∷ K) = token Class.Nil ∷ token Class.Nil ∷ token Class.Close ∷ completion K
completion (Awaited.binder_open ∷ K) = token Class.Open ∷ completion K
completion (Awaited.binder_name ∷ K) = token Class.Name ∷ completion K
completion (Awaited.binder_close ∷ K) = token Class.Close ∷ completion K
completion (Awaited.close ∷ K) = token Class.Close ∷ completion K

completed : (K : List Awaited) → to_come K (completion K) ≡ Some []
unfolding to_come completion
completed [] = refl
completed (Awaited.recipe ∷ K) = completed K
completed (Awaited.head ∷ K) = completed K
completed (Awaited.binder_open ∷ K) = completed K
completed (Awaited.binder_name ∷ K) = completed K
completed (Awaited.binder_close ∷ K) = completed K
completed (Awaited.close ∷ K) = completed K

-- tokens begin recipes exactly where none of them cannot stand where it does
pub begins_of : (u : List Token) (K : List Awaited) → to_come [] u ≡ Some K → Begins u
begins_of u K h =
    let (ts, spells) = recipes_of (u ++ completion K) (to_come_append [] u (completion K) ∙ ap (λ o. option_and_then (λ N. to_come N (completion K)) o) h ∙ completed K) in
    record { rest = completion K; trees = ts; spells = spells }

pub to_come_of : {u : List Token} → Begins u → (K : List Awaited) × (to_come [] u ≡ Some K)
to_come_of {u} b =
    let (K, e, g) = leads_on (to_come [] u) (λ N. to_come N b.rest) [] (sym (to_come_append [] u b.rest) ∙ recipes_read b.spells) in
    (K, e)

-- what a recipe is whose first token has this class: the token alone, or a list
data List_of (k : Token) (s : List Token) : Tree → List Token → Type 0 where
  bind : (l b n c e : Token) (t : Tree) (m r : List Token) → s ≡ l ∷ b ∷ n ∷ c ∷ m → l.class ≡ Class.Lambda → Spells m t (e ∷ r) → List_of k s (Tree.bind n.bytes t) r
  call : (e : Token) (t u : Tree) (m r : List Token) → Spells s t m → Spells m u (e ∷ r) → List_of k s (Tree.call t u) r

abbrev Shape : Class → Token → List Token → Tree → List Token → Type 0
Shape Class.Open k s t r = List_of k s t r
Shape Class.Nil k s t r = (t ≡ Tree.nil) × (r ≡ s)
Shape Class.Leaf k s t r = (t ≡ Tree.leaf k.bytes) × (r ≡ s)
Shape Class.Name k s t r = (t ≡ Tree.name k.bytes) × (r ≡ s)
Shape Class.Hole k s t r = (t ≡ Tree.hole k.bytes) × (r ≡ s)
Shape c k s t r = ⊥

shape_of : {k : Token} {s r : List Token} {t : Tree} → Spells (k ∷ s) t r → Shape k.class k s t r
shape_of {k} {s} (Spells.nil e) = subst (λ c. Shape c k s Tree.nil s) (sym e) (refl, refl)
shape_of {k} {s} (Spells.leaf {w = w} h) = subst (λ c. Shape c k s (Tree.leaf w) s) (sym h.class) (ap (λ x. Tree.leaf x) (sym h.bytes), refl)
shape_of {k} {s} (Spells.name {w = w} h) = subst (λ c. Shape c k s (Tree.name w) s) (sym h.class) (ap (λ x. Tree.name x) (sym h.bytes), refl)
shape_of {k} {s} (Spells.hole {w = w} h) = subst (λ c. Shape c k s (Tree.hole w) s) (sym h.class) (ap (λ x. Tree.hole x) (sym h.bytes), refl)
shape_of {k} {r = r} (Spells.bind {l = l} {b = b} {k = n} {c = c} {e = e} {w = w} {t = t} {s = m} a1 a2 a3 h a4 g a5) =
    subst (λ x. Shape x k (l ∷ b ∷ n ∷ c ∷ m) (Tree.bind w t) r) (sym a1) (subst (λ v. List_of k (l ∷ b ∷ n ∷ c ∷ m) (Tree.bind v t) r) h.bytes (List_of.bind l b n c e t m r refl a2 g))
shape_of {k} {s} {r} (Spells.call {e = e} {t = t} {u = u} {m = m} a1 h g a2) =
    subst (λ x. Shape x k s (Tree.call t u) r) (sym a1) (List_of.call e t u m r h g)

-- no recipe begins with lambda
no_lambda : {k : Token} {s r : List Token} {t : Tree} → k.class ≡ Class.Lambda → Spells (k ∷ s) t r → ⊥
no_lambda {k} {s} {r} {t} e h = subst (λ c. Shape c k s t r) e (shape_of h)

-- the parts of a list
first_of_list : {k j : Token} {s r : List Token} → k ∷ s ≡ j ∷ r → k ≡ j
first_of_list {k} h = ap (λ q. slice_index_or q 0 k) h

rest_of_list : {k j : Token} {s r : List Token} → k ∷ s ≡ j ∷ r → s ≡ r
rest_of_list h = ap (λ q. drop 1 q) h

-- a bind is a bind only, if its inside is one recipe only
bind_once : (o l b n c e : Token) (w : List ℕ) (t v : Tree) (m r p : List Token) → l.class ≡ Class.Lambda → n.bytes ≡ w → ((u : Tree) (q : List Token) → Spells m u q → (u ≡ t) × (q ≡ e ∷ r)) → List_of o (l ∷ b ∷ n ∷ c ∷ m) v p → (v ≡ Tree.bind w t) × (p ≡ r)
bind_once o l b n c e w t v m r p a h again (List_of.bind l2 b2 n2 c2 e2 t2 m2 r2 split i j) =
    let tail = rest_of_list (rest_of_list split) in
    let (x, y) = again t2 (e2 ∷ r2) (subst (λ z. Spells z t2 (e2 ∷ r2)) (sym (rest_of_list (rest_of_list tail))) j) in
    (ap₂ (λ a b. Tree.bind a b) (ap (λ z. z.bytes) (sym (first_of_list tail)) ∙ h) x, rest_of_list y)
bind_once o l b n c e w t v m r p a h again (List_of.call e2 t2 u2 m2 r2 i j) = absurd (no_lambda a i)

-- a call is a call only, if its parts are one recipe only
call_once : (o e : Token) (t u v : Tree) (s m r p : List Token) → Spells s t m → ((x : Tree) (q : List Token) → Spells s x q → (x ≡ t) × (q ≡ m)) → ((x : Tree) (q : List Token) → Spells m x q → (x ≡ u) × (q ≡ e ∷ r)) → List_of o s v p → (v ≡ Tree.call t u) × (p ≡ r)
call_once o e t u v s m r p h left right (List_of.bind l2 b2 n2 c2 e2 t2 m2 r2 split i j) =
    absurd (no_lambda i (subst (λ z. Spells z t m) split h))
call_once o e t u v s m r p h left right (List_of.call e2 t2 u2 m2 r2 i j) =
    let (x, y) = left t2 m2 i in
    let (z, w) = right u2 (e2 ∷ r2) (subst (λ v. Spells v u2 (e2 ∷ r2)) y j) in
    (ap₂ (λ a b. Tree.call a b) x z, rest_of_list w)

-- tokens are a recipe and a rest in one way only
pub recipe_once : {s r q : List Token} {t u : Tree} → Spells s t r → Spells s u q → (u ≡ t) × (q ≡ r)
recipe_once {q = q} {u = u} (Spells.nil {k = k} {r = r} e) g = subst (λ c. Shape c k r u q) e (shape_of g)
recipe_once {q = q} {u = u} (Spells.leaf {k = k} {w = w} {r = r} h) g =
    let (a, b) = subst (λ c. Shape c k r u q) h.class (shape_of g) in
    (a ∙ ap (λ x. Tree.leaf x) h.bytes, b)
recipe_once {q = q} {u = u} (Spells.name {k = k} {w = w} {r = r} h) g =
    let (a, b) = subst (λ c. Shape c k r u q) h.class (shape_of g) in
    (a ∙ ap (λ x. Tree.name x) h.bytes, b)
recipe_once {q = q} {u = u} (Spells.hole {k = k} {w = w} {r = r} h) g =
    let (a, b) = subst (λ c. Shape c k r u q) h.class (shape_of g) in
    (a ∙ ap (λ x. Tree.hole x) h.bytes, b)
recipe_once {r = r} {q = q} {u = v} (Spells.bind {o = o} {l = l} {b = b} {k = n} {c = c} {e = e} {w = w} {t = t} {s = m} a1 a2 a3 h a4 g a5) f =
    bind_once o l b n c e w t v m r q a2 h.bytes (λ x p i. recipe_once g i) (subst (λ x. Shape x o (l ∷ b ∷ n ∷ c ∷ m) v q) a1 (shape_of f))
recipe_once {r = r} {q = q} {u = v} (Spells.call {o = o} {e = e} {t = t} {u = u} {s = s} {m = m} a1 h g a2) f =
    call_once o e t u v s m r q h (λ x p i. recipe_once h i) (λ x p i. recipe_once g i) (subst (λ x. Shape x o s v q) a1 (shape_of f))

-- tokens are recipes in one way only
pub spelled_once : {s : List Token} {ts us : List Tree} → SpellsAll s ts → SpellsAll s us → ts ≡ us
spelled_once SpellsAll.none SpellsAll.none = refl
spelled_once SpellsAll.none (SpellsAll.more g gs) = elim g [ ]
spelled_once (SpellsAll.more h hs) SpellsAll.none = elim h [ ]
spelled_once (SpellsAll.more h hs) (SpellsAll.more {ts = us} g gs) =
    let (x, y) = recipe_once h g in
    ap₂ (λ a b. a ∷ b) (sym x) (spelled_once hs (subst (λ v. SpellsAll v us) y gs))
