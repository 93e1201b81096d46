-- The numbers of the names of binds below their binders, and which of them a pass over places has joined. Only private functions cite it. Assumes nothing.
use Rattle.std.specs.Prelude.{◌≡◌, ◌≢◌, ℕ, suc, ◌+◌, ◌*◌, ◌<◌, List, Some, None, Option, slice_index}
use Rattle.recipe.specs.Common.{In}
use Rattle.recipe.specs.Tables.{Form}
use Rattle.forest.specs.Exact.{Joined, Parts}
use Rattle.forest.specs.Rows.{root}
use Rattle.nodes.specs.NameSteps.{PairsMore}
use Rattle.nodes.specs.Records.{written_form}

-- the number of the name of a bind at its part, with m names for each place, or none for another form
abbrev pub bound_number : {L : Type 0} → ℕ → Form L → Option ℕ
bound_number m Form.nil = None
bound_number m (Form.leaf l) = None
bound_number m (Form.name x) = None
bound_number m (Form.hole h) = None
bound_number m (Form.bind a c) = Some (suc (c * m + a))
bound_number m (Form.call c d) = None

-- where the words of a place write a bind, its name is below m and its part below 512
abbrev pub BindFew : List ℕ → ℕ → ℕ → Type 0
BindFew ws m p = (a c : ℕ) → written_form ws p ≡ Form.bind a c → (a < m) × (c < 512)

-- two numbers are of the names of two binds below n whose places have one root
pub record BothBound (m : ℕ) (rows ws : List ℕ) (n u v : ℕ) : Type 0 where
  pub first : ℕ
  pub second : ℕ
  pub first_low : first < n
  pub second_low : second < n
  pub one_root : root rows first ≡ root rows second
  pub first_is : bound_number m (written_form ws first) ≡ Some u
  pub second_is : bound_number m (written_form ws second) ≡ Some v

-- the names of the binds below n are joined, each with that of the first bind of its root, whose number is the root's mark; a mark is 0 where there is none
pub record Tied (m : ℕ) (rows ws old : List ℕ) (n : ℕ) (marks now : List ℕ) : Type 0 where
  pub pairs : List (ℕ × ℕ)
  pub more : PairsMore pairs old now
  pub held : (u v : ℕ) → In (u, v) pairs → BothBound m rows ws n u v
  pub marked : (r : ℕ) → slice_index marks r ≢ 0 → (k : ℕ) × (k < n) × (root rows k ≡ r) × (bound_number m (written_form ws k) ≡ Some (slice_index marks r))
  pub done : (k u : ℕ) → k < n → bound_number m (written_form ws k) ≡ Some u → (slice_index marks (root rows k) ≢ 0) × ((sub : Parts) → Joined sub pairs (slice_index marks (root rows k)) u)
