-- What is listed of words, each with the number of its rate. Assumes nothing.
use Rattle.std.proofs.Common.{zero, suc, ◌<◌, length, sym, arith, append_assoc, codes, decimal, ◌≡◌, ◌≤◌, ℕ, ◌+◌, true, List, [], ◌∷◌, ◌++◌, count_by, get_or, is_some, Some, None, Option, refl, ap, ◌∙◌, ap₂, cond, eqb, add-one}
use Rattle.std.specs.List.{All, filter_map, enumerate_from, cons_option}
use Rattle.std.specs.Option.{option_to_list}
use Rattle.std.proofs.lemmas.List.{append-nil, get_or_default, get_or-append-add, length-append}
use Rattle.std.proofs.lemmas.List.Elements.{All-nil, All-cons, All-from_get_or, All-head, All-tail}
use Rattle.std.proofs.lemmas.Option.{none-some}
use Rattle.std.proofs.lemmas.List.Sums.{sum_by-cons}
use Rattle.recipe.specs.Numbering.{number_of}
use Rattle.recipe.proofs.Numbers.{number_lowest, listed}
use Rattle.leaves.specs.CrossProducts.{rate_sameness}
use Rattle.leaves.specs.RateReading.{rate_of}
use Rattle.leaves.specs.Rates.{same_rate}
use Rattle.leaves.specs.declared.rate.Rate.{Rate}
use Rattle.rate_report.specs.Entries.{numbers_of, own_numbers}
use Rattle.rate_report.specs.Report.{rates_of, number_in, is_own, firsts, verdict, line_with, line, lines}

-- the rates that are read
pub rates_read : (ws : List (List ℕ)) → filter_map rate_of ws ≡ rates_of ws
unfolding rates_of
rates_read [] = refl
rates_read (w ∷ ws) = added (rate_of w) (rates_read ws)
  where
    added : (o : Option Rate) {xs ys : List Rate} → xs ≡ ys → cons_option o xs ≡ option_to_list o ++ ys
    added None e = e
    added (Some x) e = ap (λ l. x ∷ l) e

-- the rate stands in the list
abbrev pub In : Rate → List Rate → Type 0
In x xs = (i : ℕ) × (i < length xs) × (get_or xs i x ≡ x)

in_later : (o : Option Rate) (xs : List Rate) (x : Rate) → In x xs → In x (option_to_list o ++ xs)
in_later o xs x at = (
  length (option_to_list o) + at.0,
  omega (arith, at.1, length-append (option_to_list o) xs),
  get_or-append-add (option_to_list o) xs at.0 x ∙ at.2,
)

in_first : (o : Option Rate) (xs : List Rate) (x : Rate) → o ≡ Some x → In x (option_to_list o ++ xs)
in_first None xs x e = absurd (none-some x e)
in_first (Some y) xs x e = (0, omega arith, cc)

-- the rate that a word spells is listed
pub spelled_listed : (ws : List (List ℕ)) (k : ℕ) (x : Rate) → k < length ws → rate_of (get_or ws k []) ≡ Some x → In x (rates_of ws)
unfolding rates_of
spelled_listed [] k x h e = absurd (omega arith)
spelled_listed (w ∷ ws) zero x h e = in_first (rate_of w) (rates_of ws) x e
spelled_listed (w ∷ ws) (suc k) x h e = in_later (rate_of w) (rates_of ws) x (spelled_listed ws k x (omega arith) e)

-- the line of one word more
pub lines_push : (rates : List Rate) (i : ℕ) (ws : List (List ℕ)) (w : List ℕ) → lines rates i (ws ++ w ∷ []) ≡ lines rates i ws ++ line rates (i + length ws) w
unfolding lines
lines_push rates i [] w = append-nil (line rates i w) ∙ ap (λ k. line rates k w) (omega arith)
lines_push rates i (v ∷ ws) w =
    ap (λ rest. line rates i v ++ rest) (lines_push rates (suc i) ws w) ∙ sym (append_assoc (line rates i v) (lines rates (suc i) ws) (line rates (suc i + length ws) w)) ∙ ap (λ k. (line rates i v ++ lines rates (suc i) ws) ++ line rates k w) (omega arith)

-- the number of one word more
pub numbers_push : (rates : List Rate) (ws : List (List ℕ)) (w : List ℕ) → numbers_of rates (ws ++ w ∷ []) ≡ numbers_of rates ws ++ option_to_list (number_in rates (rate_of w))
numbers_push rates [] w = one (number_in rates (rate_of w))
  where
    one : (o : Option ℕ) → cons_option o [] ≡ option_to_list o
    one None = refl
    one (Some n) = refl
numbers_push rates (v ∷ ws) w = more (number_in rates (rate_of v)) (numbers_of rates ws) (option_to_list (number_in rates (rate_of w))) (numbers_push rates ws w)
  where
    more : (o : Option ℕ) (ns ks : List ℕ) {ms : List ℕ} → ms ≡ ns ++ ks → cons_option o ms ≡ cons_option o ns ++ ks
    more None ns ks e = e
    more (Some n) ns ks e = ap (λ l. n ∷ l) e

-- one number more is counted where it is its own index
abbrev counted_from : ℕ → List ℕ → ℕ
counted_from i ns = count_by (λ p. eqb p.1 p.0) (enumerate_from i ns)

counted_more : (i n : ℕ) (ns : List ℕ) → counted_from i (n ∷ ns) ≡ cond (eqb n i) 1 0 + counted_from (i + 1) ns
counted_more i n ns = sum_by-cons (λ p. cond (eqb p.1 p.0) 1 0) (i, n) (enumerate_from (i + 1) ns)

counted_push : (i : ℕ) (ns : List ℕ) (o : Option ℕ) → counted_from i (ns ++ option_to_list o) ≡ counted_from i ns + cond (is_own (i + length ns) o) 1 0
counted_push i [] None = refl
counted_push i [] (Some n) = counted_more i n [] ∙ omega (arith, ap {B = ℕ} (λ k. cond (eqb n k) 1 0) (i_plus i))
  where
    i_plus : (i : ℕ) → i ≡ i + 0
    i_plus i = omega arith
counted_push i (m ∷ ns) o =
    let more = counted_push (i + 1) ns o in
    let at : i + 1 + length ns ≡ i + length (m ∷ ns) = omega arith in
    counted_more i m (ns ++ option_to_list o) ∙ omega (arith, more, counted_more i m ns, ap {B = ℕ} (λ k. cond (is_own k o) 1 0) at)

pub own_push : (ns : List ℕ) (o : Option ℕ) → own_numbers (ns ++ option_to_list o) ≡ own_numbers ns + cond (is_own (length ns) o) 1 0
own_push ns o = counted_push 0 ns o ∙ ap (λ k. own_numbers ns + cond (is_own k o) 1 0) (omega arith)

-- the numbers of words are those of their rates
pub numbers_listed : (rates : List Rate) (ws : List (List ℕ)) → numbers_of rates ws ≡ filter_map (number_of same_rate rates) (rates_of ws)
unfolding rates_of
numbers_listed rates [] = refl
numbers_listed rates (w ∷ ws) = ap (cons_option (number_in rates (rate_of w))) (numbers_listed rates ws) ∙ one (rate_of w) (rates_of ws)
  where
    one : (o : Option Rate) (xs : List Rate) → cons_option (number_in rates o) (filter_map (number_of same_rate rates) xs) ≡ filter_map (number_of same_rate rates) (option_to_list o ++ xs)
    one None xs = refl
    one (Some x) xs = refl

-- what is kept of the words ws, listed with their numbers among the rates: their lines, how many there are, how many of them have a number, and how many of these are their own indices; each word has a line, so that there are no more words than bytes
pub record Listed (rates : List Rate) (ws : List (List ℕ)) (out : List ℕ) (word_count number_count own_count : ℕ) : Type 0 where
  pub lines : out ≡ lines rates 0 ws
  pub words : word_count ≡ length ws
  pub numbers : number_count ≡ length (numbers_of rates ws)
  pub own : own_count ≡ own_numbers (numbers_of rates ws)
  pub short : word_count ≤ length out

pub listed_none : (rates : List Rate) → Listed rates [] [] 0 0 0
unfolding lines
listed_none rates = record { lines = refl; words = refl; numbers = refl; own = refl; short = omega arith }

-- one word more
pub listed_push : (rates : List Rate) (ws : List (List ℕ)) (out : List ℕ) (n k d : ℕ) → Listed rates ws out n k d → (w : List ℕ) (number : Option ℕ) → number ≡ number_in rates (rate_of w) → Listed rates (ws ++ w ∷ []) (out ++ line_with number n w) (n + 1) (k + length (option_to_list number)) (d + cond (is_own k number) 1 0)
listed_push rates ws out n k d l w number is =
    let front = decimal n ++ codes " " ++ w ++ verdict number in
    let ended : length (line_with number n w) ≡ length front + 1 = length-append front (codes "\n") in
    let numbers : numbers_of rates (ws ++ w ∷ []) ≡ numbers_of rates ws ++ option_to_list number = numbers_push rates ws w ∙ ap (λ o. numbers_of rates ws ++ option_to_list o) (sym is) in
    record {
      lines = ap₂ (λ o x. o ++ x) l.lines (ap₂ (λ m i. line_with m i w) is (omega (arith, l.words))) ∙ sym (lines_push rates 0 ws w);
      words = omega (arith, l.words, length-append ws (w ∷ []));
      numbers = omega (arith, l.numbers, length-append (numbers_of rates ws) (option_to_list number), ap length numbers);
      own = ap₂ (λ x i. x + cond (is_own i number) 1 0) l.own l.numbers ∙ sym (own_push (numbers_of rates ws) number) ∙ sym (ap own_numbers numbers);
      short = omega (arith, l.short, length-append out (line_with number n w), ended);
    }

-- the same of equal lists and numbers
pub listed_as : {rates : List Rate} {ws vs : List (List ℕ)} {out now : List ℕ} {n m k j d e : ℕ} → Listed rates ws out n k d → vs ≡ ws → now ≡ out → m ≡ n → j ≡ k → e ≡ d → Listed rates vs now m j e
listed_as l words lines n k d = rw (words, lines, n, k, d) l

-- the rate has a number in the list
abbrev pub Has : List Rate → Rate → Type 0
Has rates x = is_some (number_of same_rate rates x) ≡ true

-- where each rate has a number, the different ones are those whose number is their own index
pub firsts_numbered : (rates xs : List Rate) (i : ℕ) → All (Has rates) xs → count_by (λ p. eqb p.1 p.0) (enumerate_from i (filter_map (number_of same_rate rates) xs)) ≡ firsts rates i xs
unfolding firsts
firsts_numbered rates [] i all = refl
firsts_numbered rates (x ∷ xs) i all =
    let later = firsts_numbered rates xs (i + 1) (All-tail (Has rates) x xs all) ∙ ap (λ k. firsts rates k xs) (add-one i) in
    counted (number_of same_rate rates x) (filter_map (number_of same_rate rates) xs) (All-head (Has rates) x xs all) ∙ ap (λ n. cond (is_own i (number_of same_rate rates x)) 1 0 + n) later
  where
    counted : (o : Option ℕ) (ns : List ℕ) → is_some o ≡ true → count_by (λ p. eqb p.1 p.0) (enumerate_from i (cons_option o ns)) ≡ cond (is_own i o) 1 0 + count_by (λ p. eqb p.1 p.0) (enumerate_from (i + 1) ns)
    counted None ns e = cc
    counted (Some n) ns e = sum_by-cons (λ p. cond (eqb p.1 p.0) 1 0) (i, n) (enumerate_from (i + 1) ns)

-- each rate of a list has a number in it
pub all_numbered : (rates : List Rate) → All (Has rates) rates
all_numbered rates =
    All-from_get_or (Has rates) rates none (λ i h. let x = get_or rates i none in listed same_rate rate_sameness rates x (number_of same_rate rates x) (number_lowest same_rate rates x) i h (get_or_default rates i x none h))
  where
    none : Rate
    none = record { numerator = 0; denominator = 0 }

-- the word has a number exactly where it spells a rate
abbrev pub Spelled : List Rate → List ℕ → Type 0
Spelled rates w = is_some (number_in rates (rate_of w)) ≡ is_some (rate_of w)

pub words_numbered : (rates : List Rate) (ws : List (List ℕ)) → All (Has rates) (rates_of ws) → All (Spelled rates) ws
unfolding rates_of
words_numbered rates [] all = All-nil (Spelled rates)
words_numbered rates (w ∷ ws) all = let here = one (rate_of w) (rates_of ws) all in All-cons (Spelled rates) w ws here.0 (words_numbered rates ws here.1)
  where
    one : (o : Option Rate) (xs : List Rate) → All (Has rates) (option_to_list o ++ xs) → (is_some (number_in rates o) ≡ is_some o) × All (Has rates) xs
    one None xs all = (refl, all)
    one (Some x) xs all = (All-head (Has rates) x xs all, All-tail (Has rates) x xs all)
