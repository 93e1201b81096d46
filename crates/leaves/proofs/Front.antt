-- A word as a slice pattern takes it apart: its first byte and the rest. Assumes nothing.
use Rattle.std.proofs.Common.{◌≡◌, ℕ, ◌-◌, ◌<◌, List, [], ◌∷◌, length, get_or, take, drop, sym, ap, arith}
use Rattle.std.proofs.lemmas.List.{take_rest}

pub front : (w : List ℕ) → 0 < length w → w ≡ get_or w 0 0 ∷ take (length w - 1) (drop 1 w)
front [] h = absurd (omega arith)
front (b ∷ bs) h = ap (λ l. b ∷ l) (sym (take_rest (b ∷ bs) 1))
