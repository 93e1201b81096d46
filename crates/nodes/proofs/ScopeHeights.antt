-- Names of two scopes of one length are equal where their heights are, and the names too if these are 0. Assumes nothing.
use Rattle.std.proofs.Common.{◌≡◌, ℕ, suc, ◌<◌, ◌≤◌, ◌≢◌, ◌↔◌, [], ◌∷◌, length, get_or, replicate, nat_eq, true, refl, sym, ◌∙◌, subst, inl, inr, arith, eq-eqb}
use Rattle.std.proofs.lemmas.List.{get_or-replicate}
use Rattle.std.proofs.lemmas.Bool.{cases_eq, eqb-true, cond-true, cond-false, ne_eqb}
use Rattle.recipe.specs.Scopes.{NameEqual, Scope}
use Rattle.recipe.proofs.EqualScopes.{name_reflexive, name_step, name_without}
use Rattle.nodes.specs.Heights.{HasHeights, height}
use Rattle.nodes.specs.declared.heights.Heights.{Heights}

-- the height of the innermost name, and of another
height_here : (Φ : Scope) (a x : ℕ) → x ≡ a → height (a ∷ Φ) x ≡ suc (length Φ)
height_here Φ a x e = cond-true (nat_eq a x) _ _ (eq-eqb a x (sym e))

height_past : (Φ : Scope) (a x : ℕ) → x ≢ a → height (a ∷ Φ) x ≡ height Φ x
height_past Φ a x e = cond-false (nat_eq a x) _ _ (ne_eqb a x (λ h. e (sym h)))

-- no height is above the number of binders
height_low : (Φ : Scope) (x : ℕ) → height Φ x ≤ length Φ
height_low [] x = omega arith
height_low (a ∷ Φ) x = elim (cases_eq x a) [
  | inl e ↦ let l = height_here Φ a x e in omega arith
  | inr n ↦ let l = height_past Φ a x n in let low = height_low Φ x in omega arith
]

-- the heights of two names are one, and the names too if it is 0
abbrev pub OneHeight : Scope → ℕ → Scope → ℕ → Type 0
OneHeight Φ x Ψ y = (height Φ x ≡ height Ψ y) × (height Φ x ≡ 0 → x ≡ y)

pub one_height : (Φ Ψ : Scope) (x y : ℕ) → length Φ ≡ length Ψ → OneHeight Φ x Ψ y ↔ NameEqual Φ x Ψ y
one_height [] [] x y long = (λ o. subst (λ z. NameEqual [] x [] z) (o.1 refl) (name_reflexive [] x), λ e. (refl, λ z. name_without x y e))
one_height [] (b ∷ Ψ) x y long = absurd (omega arith)
one_height (a ∷ Φ) [] x y long = absurd (omega arith)
one_height (a ∷ Φ) (b ∷ Ψ) x y long =
    let step = name_step Φ Ψ a b x y in
    let first = height_low Φ x in
    let second = height_low Ψ y in
    let rest = one_height Φ Ψ x y (omega arith) in
    elim (cases_eq x a) [
      | inl e ↦
          let here = height_here Φ a x e in
          elim (cases_eq y b) [
            | inl f ↦ let there = height_here Ψ b y f in (λ o. step.1 (inl (e, f)), λ n. (omega arith, λ z. absurd (omega arith)))
            | inr m ↦
                let past = height_past Ψ b y m in
                (λ o. let same = o.0 in absurd (omega arith), λ n. elim (step.0 n) [ inl both ↦ absurd (m both.1) | inr none ↦ absurd (none.0 e) ])
          ]
      | inr n ↦
          let gone = height_past Φ a x n in
          elim (cases_eq y b) [
            | inl f ↦
                let there = height_here Ψ b y f in
                (λ o. let same = o.0 in absurd (omega arith), λ k. elim (step.0 k) [ inl both ↦ absurd (n both.0) | inr none ↦ absurd (none.1 f) ])
            | inr m ↦
                let past = height_past Ψ b y m in (
                  λ o. step.1 (inr (n, m, rest.0 (sym gone ∙ o.0 ∙ past, λ z. o.1 (gone ∙ z)))),
                  λ k. elim (step.0 k) [ inl both ↦ absurd (n both.0) | inr none ↦ let l = rest.1 none.2 in (gone ∙ l.0 ∙ sym past, λ z. l.1 (sym gone ∙ z)) ],
                )
          ]
    ]

-- what two heights say of the two names
module _ (Φ Ψ : Scope) (first second : Heights) (x y : ℕ) (here : x < 64) (there : y < 64) (one : HasHeights Φ first) (two : HasHeights Ψ second) (long : length Φ ≡ length Ψ) where
  abbrev u : ℕ
  u = get_or first.of x 0

  abbrev v : ℕ
  v = get_or second.of y 0

  heights_one : u ≡ v → height Φ x ≡ height Ψ y
  heights_one e = sym (one.of x here) ∙ e ∙ two.of y there

  pub names_bound : u ≡ v → u ≢ 0 → NameEqual Φ x Ψ y
  names_bound e n = (one_height Φ Ψ x y long).0 (heights_one e, λ z. absurd (n (one.of x here ∙ z)))

  pub names_free : u ≡ v → u ≡ 0 → (nat_eq x y ≡ true) ↔ NameEqual Φ x Ψ y
  names_free e z = (
    λ s. (one_height Φ Ψ x y long).0 (heights_one e, λ l. eqb-true x y s),
    λ n. eq-eqb x y (((one_height Φ Ψ x y long).1 n).1 (sym (one.of x here) ∙ z)),
  )

  pub names_apart : u ≢ v → NameEqual Φ x Ψ y → ⊥
  names_apart n e = n (one.of x here ∙ ((one_height Φ Ψ x y long).1 e).0 ∙ sym (two.of y there))

-- the heights in the scope without binders
pub heights_free : HasHeights [] (record { of = replicate 64 0; depth = 0 })
heights_free = record { depth = refl; of = λ x low. get_or-replicate 64 x 0 0 low }
