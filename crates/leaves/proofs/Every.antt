-- Bytes that all pass a test, as far as one that fails. Assumes nothing.
use Rattle.std.proofs.Common.{◌≡◌, ℕ, ◌+◌, ◌<◌, Bool, true, false, ◌&&◌, List, length, get_or, drop, sym, ap, ◌∙◌}
use Rattle.std.proofs.lemmas.List.{at_drop_more}
use Rattle.std.proofs.lemmas.List.Sums.{AllPass-from_list_all}
use Rattle.std.specs.List.{list_all}

-- the byte at i passes: the bytes after it decide
pub every_more : (f : ℕ → Bool) (bs : List ℕ) (i : ℕ) → i < length bs → f (get_or bs i 0) ≡ true → list_all f (drop (i + 1) bs) ≡ list_all f (drop i bs)
every_more f bs i h passes = sym (at_drop_more (list_all f) bs i 0 h ∙ ap (λ b. b && list_all f (drop (i + 1) bs)) passes)

-- the byte at i fails
pub every_fails : (f : ℕ → Bool) (bs : List ℕ) (i : ℕ) → i < length bs → f (get_or bs i 0) ≡ false → list_all f (drop i bs) ≡ false
every_fails f bs i h fails = at_drop_more (list_all f) bs i 0 h ∙ ap (λ b. b && list_all f (drop (i + 1) bs)) fails

-- each byte passes
pub every_at : (f : ℕ → Bool) (bs : List ℕ) → list_all f bs ≡ true → (k : ℕ) → k < length bs → f (get_or bs k 0) ≡ true
every_at f bs e k h = AllPass-from_list_all f bs e k 0 h
