-- The lowest misnamed place, from a search of the roots of both forests. Assumes nothing.
use Rattle.std.proofs.Common.{◌≡◌, ◌≢◌, ℕ, ◌<◌, List, Some, None, Option, refl, sym, ap, ◌∙◌, inl, inr, arith}
use Rattle.std.proofs.lemmas.Bool.{cases_lt}
use Rattle.recipe.specs.Fillings.{Pair}
use Rattle.recipe.specs.Links.{Linked}
use Rattle.recipe.specs.Tables.{Form}
use Rattle.closure.specs.Causes.{Misnamed}
use Rattle.closure.specs.Closures.{Closure}
use Rattle.closure.specs.Decision.{SpoiledAmong, WellFormed}
use Rattle.closure.specs.Names.{Joined, Node}
use Rattle.closure.proofs.Forms.{form_inside}
use Rattle.closure.proofs.MatchedNames.{joined_low}
use Rattle.forest.specs.Rows.{climb, root}
use Rattle.nodes.specs.MisnamedRoots.{MisnamedRoot, NamesBelow, SpoiledRoot, name_of_form}
use Rattle.nodes.specs.Misnaming.{FindsMisnamed}
use Rattle.nodes.specs.NameClasses.{InTable, RootsJoin}
use Rattle.nodes.specs.PlaceClasses.{RootsLink}
use Rattle.nodes.specs.Records.{written, written_form}
use Rattle.nodes.specs.Searches.{LowestBelow}
use Rattle.nodes.proofs.ClashesFound.{form_there}

-- the root of nowhere is nowhere
nowhere_root : (ws : List ℕ) → root ws 0 ≡ 0
unfolding root climb
nowhere_root ws = refl

-- a form with a name is that name
name_form : (f : Form ℕ) (x : ℕ) → name_of_form f ≡ Some x → f ≡ Form.name x
name_form Form.nil x e = cc
name_form (Form.leaf l) x e = cc
name_form (Form.name y) x e = cc
name_form (Form.hole h) x e = cc
name_form (Form.bind a c) x e = cc
name_form (Form.call c d) x e = cc

module _ (n m : ℕ) (ws : List ℕ) where
  -- a name that the words write is one of the table
  name_there : (p x : ℕ) → p < n → name_of_form (written_form ws p) ≡ Some x → (written n ws).form p ≡ Form.name x
  name_there p x low e = form_there n ws p low ∙ name_form (written_form ws p) x e

  name_written : (p x : ℕ) → p < n → (written n ws).form p ≡ Form.name x → name_of_form (written_form ws p) ≡ Some x
  name_written p x low e = ap name_of_form (sym (form_there n ws p low) ∙ e)

  pub names_below : ((p x : ℕ) → (written n ws).form p ≡ Form.name x → x < m) → NamesBelow m ws n
  names_below named p x low e = named p x (name_there p x low e)

  module _ (rows names_rows : List ℕ) (told : List Pair) (formed : WellFormed (written n ws) m told) (roots : RootsLink (written n ws) told rows) (joins : RootsJoin (written n ws) m told names_rows) where
    -- a name place is in the table
    name_inside : (p x : ℕ) → (written n ws).form p ≡ Form.name x → p < n
    name_inside p x e = form_inside formed p (λ f. let bad : Form.name x ≡ Form.nil = sym e ∙ f in cc)

    name_in : (p x : ℕ) → (written n ws).form p ≡ Form.name x → InTable (written n ws) m (Node.name p x)
    name_in p x e = InTable.name (name_inside p x e) (formed.names p x e)

    -- a name that is joined with another is below m
    second_low : (p x y : ℕ) → y ≢ x → Joined (written n ws) m told (Node.name p y) (Node.name p x) → y < m
    second_low p x y other j = elim (joined_low formed j) [ inl e ↦ absurd (other cc) | inr low ↦ low ]

    -- a misnamed place is one by its roots
    at_root : (p x : ℕ) → (written n ws).form p ≡ Form.name x → SpoiledRoot names_rows rows ws m p x → (p < n) × MisnamedRoot names_rows rows ws m p
    at_root p x e s = let low = name_inside p x e in (low, record { name = x; named = name_written p x low e; spoiled = s })

    by_root : {p : ℕ} → Misnamed (written n ws) m told p → (p < n) × MisnamedRoot names_rows rows ws m p
    by_root (SpoiledAmong.gone {p = p} {x = x} e j) =
        at_root p x e (SpoiledRoot.gone ((joins (Node.name p x) Node.nowhere (name_in p x e) InTable.nowhere).1 j ∙ nowhere_root names_rows))
    by_root (SpoiledAmong.double {p = p} {x = x} {y = y} e other j) =
        let low = second_low p x y other (Closure.back j) in
        at_root p x e
        (SpoiledRoot.double (record {
          second = y;
          low = low;
          other = other;
          one_root = (joins (Node.name p y) (Node.name p x) (InTable.name (name_inside p x e) low) (name_in p x e)).1 (Closure.back j);
        }))
    by_root (SpoiledAmong.apart {p = p} {q = q} {x = x} {y = y} d e lower l free) =
        at_root p x d
        (SpoiledRoot.apart {q = q} lower (record {
          name = y;
          named = name_written q y (name_inside q y e) e;
          one_root = (roots q p (name_inside q y e) (name_inside p x d)).1 (Linked.back l);
          apart = λ r. free (Closure.back ((joins (Node.name q y) (Node.name p x) (name_in q y e) (name_in p x d)).0 r));
        }))

    -- and a place that is one by its roots is misnamed
    spoiled_by : (p x : ℕ) → (written n ws).form p ≡ Form.name x → SpoiledRoot names_rows rows ws m p x → Misnamed (written n ws) m told p
    spoiled_by p x e (SpoiledRoot.gone r) =
        SpoiledAmong.gone e ((joins (Node.name p x) Node.nowhere (name_in p x e) InTable.nowhere).0 (r ∙ sym (nowhere_root names_rows)))
    spoiled_by p x e (SpoiledRoot.double d) =
        SpoiledAmong.double e d.other
        (Closure.back ((joins (Node.name p d.second) (Node.name p x) (InTable.name (name_inside p x e) d.low) (name_in p x e)).0 d.one_root))
    spoiled_by p x e (SpoiledRoot.apart {q = q} lower a) =
        let low = name_inside p x e in
        let less : q < n = omega arith in
        let f = name_there q a.name less a.named in
        SpoiledAmong.apart e f lower (Linked.back ((roots q p less low).0 a.one_root))
        (λ j. a.apart ((joins (Node.name q a.name) (Node.name p x) (name_in q a.name f) (name_in p x e)).1 (Closure.back j)))

    misnamed_by : (p : ℕ) → p < n → MisnamedRoot names_rows rows ws m p → Misnamed (written n ws) m told p
    misnamed_by p low w = spoiled_by p w.name (name_there p w.name low w.named) w.spoiled

    pub misnamed_found : (r : Option ℕ) → LowestBelow n (MisnamedRoot names_rows rows ws m) r → FindsMisnamed (written n ws) m told r
    misnamed_found None none = λ p w. let (low, at) = by_root w in none p low at
    misnamed_found (Some p) (low, found, lower) = record {
      has = misnamed_by p low found;
      lowest = λ j w. elim (cases_lt j p) [ inl l ↦ absurd (lower j l (by_root w).1) | inr l ↦ l ];
    }
