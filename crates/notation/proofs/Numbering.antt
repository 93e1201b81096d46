-- The number of a spelling in a list that is filled from the front on. Assumes nothing.
use Rattle.std.proofs.Common.{◌≡◌, ℕ, suc, ◌+◌, ◌-◌, ◌≤◌, ◌<◌, Bool, true, false, cond, List, [], ◌∷◌, ◌++◌, length, take, replicate, slice_set, refl, ap, ap₂, sym, subst, ◌∙◌, length-append, length-take, nat_eq, nat_lt, arith}
use Rattle.std.proofs.Math.Seq.{take-append_seam}
use Rattle.std.proofs.Math.ListN.{length-set}
use Rattle.std.proofs.lemmas.List.Sums.{prefix_len-le-length}
use Rattle.std.specs.List.{position_or_len}
use Rattle.recipe.specs.Packing.{Spelling, packed}
use Rattle.notation.specs.Fitting.{with_word}
use Rattle.notation.specs.Tables.{number, numbers_of, padded}
use Rattle.notation.specs.Reading.{room}
use Rattle.notation.specs.LentLists.{Listing, Numbered}
use Rattle.notation.specs.Threading.{overwritten}
use Rattle.notation.proofs.Listed.{listed_number, number_packed, spellings_with}
use Rattle.notation.proofs.Written.{overwritten_one, padded_more}

numbers_long : (ns : List (List ℕ)) → length (numbers_of ns) ≡ length ns
numbers_long [] = refl
numbers_long (w ∷ ns) = ap suc (numbers_long ns)

numbers_append : (ns : List (List ℕ)) (w : List ℕ) → numbers_of (ns ++ w ∷ []) ≡ numbers_of ns ++ packed w ∷ []
numbers_append [] w = refl
numbers_append (v ∷ ns) w = ap (λ q. packed v ∷ q) (numbers_append ns w)

-- an index in the first n entries, or their end
pub index_within : (i n : ℕ) (p : ℕ → Bool) (xs : List ℕ) → i ≡ position_or_len p (take n xs) → i ≤ n
index_within i n p xs e =
    let long : position_or_len p (take n xs) ≤ length (take n xs) = prefix_len-le-length _ (take n xs) in
    let few : length (take n xs) ≤ n = omega (arith, length-take n xs) in
    omega (arith, e, long, few)

lt_test : (a b : ℕ) → a < b → nat_lt a b ≡ true
lt_test a b h = grind arith

ge_test : (a b : ℕ) → b ≤ a → nat_lt a b ≡ false
ge_test a b h = grind arith

module _ (most : ℕ) (ns : List (List ℕ)) (w : List ℕ) (list : List ℕ) (count spelling : ℕ) (listing : Listing most ns list count) (s : Spelling w) (e : spelling ≡ packed w) where
  -- the entries so far
  front_numbers : take count list ≡ numbers_of ns
  front_numbers =
      ap₂ (λ n q. take n q) (listing.counted ∙ sym (numbers_long ns)) listing.written ∙ take-append_seam (numbers_of ns) (replicate (length list - length (numbers_of ns)) 0)

  number_at : position_or_len (λ n. nat_eq n spelling) (take count list) ≡ number ns w
  number_at = ap₂ (λ p q. position_or_len (λ n. nat_eq n p) q) e front_numbers ∙ number_packed ns w listing.spelled s

  number_within : number ns w ≤ length ns
  number_within = prefix_len-le-length _ ns

  module _ (i : ℕ) (at : i ≡ position_or_len (λ n. nat_eq n spelling) (take count list)) where
    number_is : i ≡ number ns w
    number_is = at ∙ number_at

    listed : (b : Bool) → nat_lt (number ns w) (length ns) ≡ b → with_word ns w ≡ cond b ns (ns ++ w ∷ [])
    listed b h = ap (λ c. cond c ns (ns ++ w ∷ [])) (listed_number ns w ∙ h)

    -- a spelling that is listed
    pub found : i < count → Numbered most (with_word ns w) (number ns w) list count i
    found h =
        let there = listed true (lt_test (number ns w) (length ns) (omega (arith, h, number_is, listing.counted))) in
        record { number_is = number_is; listing = subst (λ q. Listing most q list count) (sym there) listing }

    added : count ≤ i → with_word ns w ≡ ns ++ w ∷ []
    added h = listed false (ge_test (number ns w) (length ns) (omega (arith, h, number_is, listing.counted)))

    last : count ≤ i → i ≡ length ns
    last h = omega (arith, h, number_is, listing.counted, number_within)

    -- one for which there is no room
    pub full : count ≤ i → i ≡ room (length list) → most < length (with_word ns w)
    full h f = subst (λ q. most < length q) (sym (added h)) (subst (λ n. most < n) (sym (length-append ns (w ∷ []))) (omega (arith, last h, f, listing.most_is)))

    -- one that comes next
    pub next : count ≤ i → (i ≡ room (length list) → ⊥) → Numbered most (with_word ns w) (number ns w) (slice_set list i spelling) (count + 1) i
    next h f =
        let m : ℕ = room (length list) in
        let room_is : most ≡ m = listing.most_is in
        let below : i < m = omega (arith, h, f, last h, room_is, listing.few, listing.counted) in
        let inside : i < length list = omega arith in
        let long : length (slice_set list i spelling) ≡ length list = length-set list i spelling in
        let here : i ≡ length (numbers_of ns) = last h ∙ sym (numbers_long ns) in
        let more = added h in
        record {
          number_is = number_is;
          listing =
              record {
                counted = omega (arith, listing.counted, ap (λ q. length q) more, length-append ns (w ∷ []));
                written =
                    sym (overwritten_one i spelling list inside)
                    ∙ ap₂ (λ n x. overwritten n (x ∷ []) list) here e
                    ∙ ap (λ q. overwritten (length (numbers_of ns)) (packed w ∷ []) q) listing.written
                    ∙ padded_more (length list) 0 (numbers_of ns) (packed w ∷ []) (omega (arith, inside, here))
                    ∙ ap₂ (λ n q. padded n 0 q) (sym long) (sym (ap numbers_of more ∙ numbers_append ns w));
                spelled = spellings_with ns w listing.spelled s;
                most_is = room_is ∙ ap room (sym long);
                few = omega (arith, below, last h, listing.counted, room_is);
              };
        }
