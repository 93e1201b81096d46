-- The calls of a listing, and the lines of their answers. Assumes nothing. (docs/RULES.md, "Listings")
use Rattle.std.specs.Prelude.{◌≡◌, ℕ, suc, Bool, ◌&&◌, ◌==◌, List, [], ◌∷◌, ◌++◌, length, map, position, unwrap_or}
use Rattle.recipe.specs.Histories.{Entry, Request, request}
use Rattle.recipe.specs.declared.places.Place.{Place}
use Rattle.sheet.specs.Playing.{AllRightOn, told_more}
use Rattle.sheet.specs.Sheet.{Sheet}
use Rattle.listing.specs.Lines.{Adds}
use Rattle.listing.specs.Report.{hole_line, over_line, tell_line}

-- tells of places in pairs: the first and the second, the third and the fourth, and so on
unfoldable pub pair_tells : List ℕ → List Request
pair_tells [] = []
pair_tells (p ∷ []) = []
pair_tells (p ∷ q ∷ rs) = Request.tell p q ∷ pair_tells rs

-- the lines of tells with their answers
unfoldable pub tell_lines : List Entry → List ℕ
tell_lines [] = []
tell_lines (Entry.tell p q r ∷ h) = tell_line p q r ++ tell_lines h
tell_lines (Entry.look p path r ∷ h) = tell_lines h
tell_lines (Entry.seal ∷ h) = tell_lines h

-- the line of a last odd place, or nothing
unfoldable pub over_lines : List ℕ → List ℕ
over_lines [] = []
over_lines (p ∷ []) = over_line p
over_lines (p ∷ q ∷ rs) = over_lines rs

-- a record of the hole h
abbrev pub is_hole : ℕ → Place → Bool
is_hole h x = x.kind == 3 && x.a == h

-- the first place of the hole h, or the number of places where there is none
abbrev pub hole_place : List Place → ℕ → ℕ
hole_place places h = unwrap_or (position (is_hole h) places) (length places)

-- looks at the first places of holes, from the hole h on, as many as there are spellings, each with the empty path
unfoldable pub hole_looks : List Place → ℕ → List ℕ → List Request
hole_looks places h [] = []
hole_looks places h (hole ∷ holes) = Request.look (hole_place places h) [] ∷ hole_looks places (suc h) holes

-- the lines of holes, by their spellings and the looks at them
unfoldable pub hole_lines : List ℕ → List ℕ → List Entry → List ℕ
hole_lines names [] h = []
hole_lines names (hole ∷ holes) [] = []
hole_lines names (hole ∷ holes) (Entry.tell p q r ∷ h) = hole_lines names holes h
hole_lines names (hole ∷ holes) (Entry.look p path r ∷ h) = hole_line names hole r ++ hole_lines names holes h
hole_lines names (hole ∷ holes) (Entry.seal ∷ h) = hole_lines names holes h

-- places are told in pairs, and the lines of that are added (only private functions cite this and the next)
pub record TellsListed (start : Sheet) (rs : List ℕ) (end : Sheet) (old new : List ℕ) : Type 0 where
  pub told : List Entry
  pub asked : map request told ≡ pair_tells rs
  pub right : AllRightOn start told
  pub sheet : end ≡ told_more start told
  pub lines : Adds (tell_lines told ++ over_lines rs) old new

-- holes are looked at, and the lines of that are added
pub record HolesListed (s : Sheet) (places : List Place) (names : List ℕ) (next : ℕ) (holes old new : List ℕ) : Type 0 where
  pub looked : List Entry
  pub asked : map request looked ≡ hole_looks places next holes
  pub right : AllRightOn s looked
  pub lines : Adds (hole_lines names holes looked) old new
