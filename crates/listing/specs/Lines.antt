-- Lines that are added to others, in a buffer of 4,096 bytes. Only private functions cite it. Assumes nothing.
use Rattle.std.specs.Prelude.{◌≡◌, ℕ, List, ◌++◌, take}

-- the bytes are added, as far as 4,096 bytes go: so much of the new ones is as of the old ones and these
pub record Adds (bytes old new : List ℕ) : Type 0 where
  pub cut : take 4096 new ≡ take 4096 (old ++ bytes)
