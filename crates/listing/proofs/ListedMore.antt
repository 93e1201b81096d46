-- Calls and their lines, one after the other. Assumes nothing.
use Rattle.std.proofs.Common.{◌≡◌, ℕ, ◌+◌, List, [], ◌∷◌, ◌++◌, length, nat_eq, Result, sym, ap, ◌∙◌, subst, refl, arith, append_assoc, add-one}
use Rattle.std.proofs.lemmas.List.{append-nil}
use Rattle.recipe.specs.Histories.{Entry, Request, accepted_pair, accepted_pairs}
use Rattle.recipe.specs.declared.labels.Finding.{Finding}
use Rattle.recipe.specs.declared.places.Place.{Place}
use Rattle.recipe.specs.declared.refusals.Refusal.{Refusal}
use Rattle.sheet.specs.Playing.{RightEntries, RightOn, told_more}
use Rattle.sheet.specs.Sheet.{Sheet, numbers, table}
use Rattle.listing.specs.Lines.{Adds}
use Rattle.listing.specs.Listed.{HolesListed, TellsListed, hole_lines, hole_looks, hole_place, over_lines, pair_tells, tell_lines}
use Rattle.listing.specs.Report.{hole_line, over_line, tell_line}
use Rattle.listing.proofs.Adding.{adds_more, adds_none}

-- without holes there is nothing to look at
pub holes_none : (s : Sheet) (places : List Place) (names : List ℕ) (next : ℕ) (holes lines : List ℕ) → length holes ≡ 0 → HolesListed s places names next holes lines lines
unfolding hole_looks hole_lines
holes_none s places names next [] lines none = record { looked = []; asked = refl; right = tt; lines = adds_none lines }
holes_none s places names next (hole ∷ holes) lines none = absurd (omega arith)

-- one hole, and those after it
pub holes_more : (s : Sheet) (places : List Place) (names : List ℕ) (next hole : ℕ) (holes old mid new : List ℕ) (r : Result Finding Refusal) → RightOn s (Entry.look (hole_place places next) [] r) → Adds (hole_line names hole r) old mid → HolesListed s places names (next + 1) holes mid new → HolesListed s places names next (hole ∷ holes) old new
unfolding hole_looks hole_lines
holes_more s places names next hole holes old mid new r right line rest = record {
  looked = Entry.look (hole_place places next) [] r ∷ rest.looked;
  asked = ap (λ calls. Request.look (hole_place places next) [] ∷ calls) (rest.asked ∙ ap (λ n. hole_looks places n holes) (add-one next));
  right = (right, subst (λ told. RightEntries nat_eq (table s) (numbers s) told rest.looked) (sym (append-nil s.told)) rest.right);
  lines = adds_more line rest.lines;
}

-- no place is told
pub tells_none : (s : Sheet) (rs lines : List ℕ) → length rs ≡ 0 → TellsListed s rs s lines lines
unfolding pair_tells tell_lines over_lines
tells_none s [] lines none = record { told = []; asked = refl; right = tt; sheet = ap (λ told. record s { told = told }) (sym (append-nil s.told)); lines = adds_none lines }
tells_none s (p ∷ rs) lines none = absurd (omega arith)

-- one place is left over
pub tells_odd : (s : Sheet) (p : ℕ) (rs old new : List ℕ) → length rs ≡ 0 → Adds (over_line p) old new → TellsListed s (p ∷ rs) s old new
unfolding pair_tells tell_lines over_lines
tells_odd s p [] old new none line = record { told = []; asked = refl; right = tt; sheet = ap (λ told. record s { told = told }) (sym (append-nil s.told)); lines = line }
tells_odd s p (q ∷ rs) old new none line = absurd (omega arith)

-- two places are told, and those after them
pub tells_more : (s mid end : Sheet) (p q : ℕ) (rs old between new : List ℕ) (r : Result (Unit {0}) Refusal) → RightOn s (Entry.tell p q r) → mid ≡ record s { told = s.told ++ accepted_pair p q r } → Adds (tell_line p q r) old between → TellsListed mid rs end between new → TellsListed s (p ∷ q ∷ rs) end old new
unfolding pair_tells tell_lines over_lines
tells_more s mid end p q rs old between new r right is line rest =
    let pairs : s.told ++ accepted_pairs (Entry.tell p q r ∷ []) ≡ s.told ++ accepted_pair p q r = ap (λ ps. s.told ++ ps) (append-nil (accepted_pair p q r)) in
    record {
      told = Entry.tell p q r ∷ rest.told;
      asked = ap (λ calls. Request.tell p q ∷ calls) rest.asked;
      right = (right, subst (λ told. RightEntries nat_eq (table s) (numbers s) told rest.told) (sym pairs) (subst (λ t. RightEntries nat_eq (table t) (numbers t) t.told rest.told) is rest.right));
      sheet = rest.sheet ∙ ap (λ t. told_more t rest.told) is ∙ ap (λ told. record s { told = told }) (append_assoc s.told (accepted_pair p q r) (accepted_pairs rest.told));
      lines = subst (λ bytes. Adds bytes old new) (sym (append_assoc (tell_line p q r) (tell_lines rest.told) (over_lines rs))) (adds_more line rest.lines);
    }
