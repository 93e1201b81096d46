-- Joining each place of a hole with the lowest place of the hole. Assumes nothing.
use Rattle.std.proofs.Common.{◌≡◌, ℕ, ◌+◌, ◌*◌, ◌<◌, List, [], ◌∷◌, length, refl, sym, ap, ◌∙◌, inl, inr, arith}
use Rattle.std.proofs.lemmas.Bool.{cases_lt, cond_above}
use Rattle.recipe.specs.Common.{In, Least}
use Rattle.recipe.specs.Links.{Linked}
use Rattle.recipe.specs.Tables.{Form}
use Rattle.closure.specs.Closures.{Closure}
use Rattle.forest.specs.Exact.{Exact, Joined, OneMore}
use Rattle.nodes.specs.PlaceClasses.{PlacesJoined, place_parts}
use Rattle.nodes.specs.Records.{written, written_form}
use Rattle.nodes.proofs.FirstRows.{form_written}
use Rattle.nodes.proofs.PlacesLinked.{joined_more}

-- a place is the lowest of a hole
abbrev pub FirstOf : List ℕ → ℕ → ℕ → Type 0
FirstOf ws h = Least (λ q. written_form ws q ≡ Form.hole h)

-- the forest is exact for some pairs that are linked, and these join each place of a hole below p with the lowest of the hole
pub record HolesBelow (n : ℕ) (ws : List ℕ) (p : ℕ) (rows : List ℕ) : Type 0 where
  pub pairs : List (ℕ × ℕ)
  pub exact : Exact (place_parts (written n ws)) pairs rows
  pub linked : (u v : ℕ) → In (u, v) pairs → Linked (written n ws) [] u v
  pub first : (q h : ℕ) → q < p → written_form ws q ≡ Form.hole h → (r : ℕ) × FirstOf ws h r × Joined (place_parts (written n ws)) pairs r q

module _ (n : ℕ) (ws : List ℕ) (p : ℕ) (rows : List ℕ) (below : HolesBelow n ws p rows) where
  -- a place that is no hole
  pub holes_skip : ((h : ℕ) → written_form ws p ≡ Form.hole h → ⊥) → HolesBelow n ws (p + 1) rows
  holes_skip none = record {
    pairs = below.pairs;
    exact = below.exact;
    linked = below.linked;
    first = λ q h low e. elim (cases_lt q p) [
      | inl l ↦ below.first q h l e
      | inr past ↦ let is : q ≡ p = omega arith in absurd (none h (rw is at e))
    ];
  }

  -- a place of a hole, joined with the lowest
  pub holes_more : (new : List ℕ) (h r : ℕ) → p < n → written_form ws p ≡ Form.hole h → FirstOf ws h r → OneMore r p rows new → HolesBelow n ws (p + 1) new
  holes_more new h r low here least more =
      let le = least.lowest p here in
      let first : (written n ws).form r ≡ Form.hole h = form_written n ws r (omega arith) ∙ least.has in
      let second : (written n ws).form p ≡ Form.hole h = form_written n ws p low ∙ here in
      let link : Linked (written n ws) [] r p = Linked.one_hole first second in
      record {
        pairs = (r, p) ∷ below.pairs;
        exact = more (place_parts (written n ws)) below.pairs below.exact;
        linked = λ u v i. elim i [
          | inl e ↦ rw (ap (λ w. w.0) e, ap (λ w. w.1) e) link
          | inr j ↦ below.linked u v j
        ];
        first = λ q k lt e. elim (cases_lt q p) [
          | inl l ↦ let (s, low_s, joined) = below.first q k l e in (s, low_s, joined_more (written n ws) below.pairs (r, p) joined)
          | inr past ↦
              let is : q ≡ p = omega arith in
              let same : h ≡ k = let f = rw is at e in cc in
              (r, rw (← same) least, rw is (Closure.held (inl refl)))
        ];
      }

-- two lowest are one
least_once : {P : ℕ → Type 0} (a b : ℕ) → Least P a → Least P b → a ≡ b
least_once a b l m = let le = l.lowest b m.has in let ge = m.lowest a l.has in omega arith

module _ (n : ℕ) (ws : List ℕ) where
  -- a hole of the table is a written one
  hole_written : (p h : ℕ) → (written n ws).form p ≡ Form.hole h → (p < n) × (written_form ws p ≡ Form.hole h)
  hole_written p h e = elim (cases_lt p n) [
    | inl low ↦ (low, sym (form_written n ws p low) ∙ e)
    | inr past ↦ absurd (let f : Form.nil ≡ Form.hole h = cond_above p n _ _ _ past refl ∙ e in cc)
  ]

  -- at the end places of one hole are joined
  pub holes_joined : (rows : List ℕ) → length rows ≡ 4 * n → HolesBelow n ws n rows → PlacesJoined (written n ws) [] rows
  holes_joined rows long below = record {
    long = long;
    pairs = below.pairs;
    exact = below.exact;
    linked = below.linked;
    tells = λ p q i. absurd i;
    holes = λ p q h d e.
        let (low, here) = hole_written p h d in
        let (less, there) = hole_written q h e in
        let (r, first, one) = below.first p h low here in
        let (s, second, two) = below.first q h less there in
        let same = least_once r s first second in
        Closure.chain (Closure.back one) (rw (sym same) at two);
  }
