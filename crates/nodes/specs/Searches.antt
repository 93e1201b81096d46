-- What searches of places find, how the roots of a forest lead to each other, and what the marks of a search say of that. Only private functions cite it. Assumes nothing.
use Rattle.std.specs.Prelude.{◌≡◌, ◌≢◌, ◌⊎◌, ℕ, zero, suc, ◌+◌, ◌-◌, ◌<◌, ◌≤◌, List, Some, Option, MatchOption, slice_index}
use Rattle.forest.specs.Rows.{IsNode, remembered, root}

-- r is the lowest number below n with the property, and none only where none has it
abbrev pub LowestBelow : ℕ → (ℕ → Type 0) → Option ℕ → Type 0
LowestBelow n P r =
    MatchOption r ((k : ℕ) → k < n → P k → ⊥) (λ k. (k < n) × P k × ((j : ℕ) → j < k → P j → ⊥))

-- r remembers a part at a side, whose root is s
pub record Step (rows : List ℕ) (r s : ℕ) : Type 0 where
  pub side : ℕ
  pub part : ℕ
  pub low : side < 3
  pub has : remembered rows r side ≡ Some part
  pub to : root rows part ≡ s

-- one step or more lead from r to s
pub data Leads (rows : List ℕ) : ℕ → ℕ → Type 0 where
  one : {r s : ℕ} → Step rows r s → Leads rows r s
  more : {r s t : ℕ} → Step rows r s → Leads rows s t → Leads rows r t

-- a node leads to itself
abbrev pub SomeCycle : List ℕ → Type 0
SomeCycle rows = (x : ℕ) × IsNode rows x × Leads rows x x

-- the root of a place leads to itself
abbrev pub RootReturns : List ℕ → ℕ → Type 0
RootReturns rows p = Leads rows (root rows p) (root rows p)

-- a root is marked as done
abbrev pub Done : List ℕ → ℕ → Type 0
Done marks x = 2 ≤ slice_index marks x

-- each mark is as before, or a root that was not seen is done
abbrev pub SomeDone : List ℕ → List ℕ → Type 0
SomeDone old new = (x : ℕ) → (slice_index new x ≡ slice_index old x) ⊎ ((slice_index old x ≡ 0) × Done new x)

-- what is done leads only to what is done, and not to itself
pub record NoneReturns (rows marks : List ℕ) : Type 0 where
  pub closed : (x s : ℕ) → Done marks x → Step rows x s → Done marks s
  pub apart : (x : ℕ) → Done marks x → Leads rows x x → ⊥

-- n sides of r are passed: they lead to what is done
pub record Passed (rows : List ℕ) (r n : ℕ) (old new : List ℕ) : Type 0 where
  pub some : SomeDone old new
  pub none : NoneReturns rows new
  pub below : (s : ℕ) (e : Step rows r s) → e.side < n → Done new s

-- r is done, and what is done leads only to what is done, and not to itself
pub record AllPassed (rows : List ℕ) (r : ℕ) (old new : List ℕ) : Type 0 where
  pub some : SomeDone old new
  pub none : NoneReturns rows new
  pub here : Done new r

-- the roots of the n lowest nodes are done, and none is on the way
pub record Searched (rows : List ℕ) (n : ℕ) (marks : List ℕ) : Type 0 where
  pub none : NoneReturns rows marks
  pub still : (x : ℕ) → slice_index marks x ≢ 1
  pub roots : (k : ℕ) → k < n → Done marks (root rows k)

-- what is on the way leads to r
abbrev pub OnWay : List ℕ → List ℕ → ℕ → Type 0
OnWay rows marks r = (x : ℕ) → slice_index marks x ≡ 1 → Leads rows x r

-- what is done has only steps to what is seen, and none to the goal
abbrev pub Misses : List ℕ → ℕ → List ℕ → Type 0
Misses rows goal marks = (x s : ℕ) → Done marks x → Step rows x s → (0 < slice_index marks s) × (s ≢ goal)

-- n sides of r are passed: they lead to what is seen, and not to the goal
pub record SidesMiss (rows : List ℕ) (goal r n : ℕ) (old new : List ℕ) : Type 0 where
  pub some : SomeDone old new
  pub misses : Misses rows goal new
  pub below : (s : ℕ) (e : Step rows r s) → e.side < n → (0 < slice_index new s) × (s ≢ goal)

-- r is done, and what is done has only steps to what is seen, and none to the goal
pub record AllMiss (rows : List ℕ) (goal r : ℕ) (old new : List ℕ) : Type 0 where
  pub some : SomeDone old new
  pub misses : Misses rows goal new
  pub here : Done new r

-- how many of the n lowest marks are 0
unfoldable pub blanks : ℕ → List ℕ → ℕ
blanks zero marks = 0
blanks (suc n) marks = blanks n marks + (1 - slice_index marks n)
