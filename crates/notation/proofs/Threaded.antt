-- The table that is threaded through reading is the table of the recipes. Assumes nothing.
use Rattle.std.proofs.Common.{◌≡◌, ℕ, suc, ◌+◌, ◌<◌, List, [], ◌∷◌, ◌++◌, length, refl, ap, ap₂, sym, subst, ◌∙◌, append_assoc, append-nil, add_assoc, zero-add, length-append, arith}
use Rattle.notation.specs.Grammar.{Tree}
use Rattle.notation.specs.Fitting.{with_word, with_words}
use Rattle.notation.specs.Tables.{row, number, size, names, holes, leaves, rows_from, all_rows_from, of_each, names_of, holes_of, leaves_of, places_of}
use Rattle.notation.specs.Machine.{Used, unused, one_place, one_name}
use Rattle.notation.specs.Threading.{used_by, used_by_all, rows, all_rows}
use Rattle.notation.proofs.Listed.{with_words_append, with_words_grows, number_with, number_listed, number_stays}

-- what is used after a recipe, by its parts
pub places_used : (t : Tree) (used : Used) → (used_by used t).places ≡ used.places + size t
unfolding used_by size
places_used Tree.nil used = omega arith
places_used (Tree.leaf w) used = omega arith
places_used (Tree.name w) used = omega arith
places_used (Tree.hole w) used = omega arith
places_used (Tree.bind w t) used =
    let e = places_used t (one_name w (one_place used)) in
    e ∙ omega arith
places_used (Tree.call t u) used =
    let e = places_used t (one_place used) in
    let f = places_used u (used_by (one_place used) t) in
    f ∙ ap (λ n. n + size u) e ∙ omega arith

pub names_used : (t : Tree) (used : Used) → (used_by used t).names ≡ with_words used.names (names t)
unfolding used_by names with_words
names_used Tree.nil used = refl
names_used (Tree.leaf w) used = refl
names_used (Tree.name w) used = refl
names_used (Tree.hole w) used = refl
names_used (Tree.bind w t) used = names_used t (one_name w (one_place used))
names_used (Tree.call t u) used =
    names_used u (used_by (one_place used) t)
    ∙ ap (λ ns. with_words ns (names u)) (names_used t (one_place used))
    ∙ sym (with_words_append used.names (names t) (names u))

pub holes_used : (t : Tree) (used : Used) → (used_by used t).holes ≡ with_words used.holes (holes t)
unfolding used_by holes with_words
holes_used Tree.nil used = refl
holes_used (Tree.leaf w) used = refl
holes_used (Tree.name w) used = refl
holes_used (Tree.hole w) used = refl
holes_used (Tree.bind w t) used = holes_used t (one_name w (one_place used))
holes_used (Tree.call t u) used =
    holes_used u (used_by (one_place used) t)
    ∙ ap (λ ns. with_words ns (holes u)) (holes_used t (one_place used))
    ∙ sym (with_words_append used.holes (holes t) (holes u))

pub leaves_used : (t : Tree) (used : Used) → (used_by used t).leaves ≡ used.leaves + length (leaves t)
unfolding used_by leaves
leaves_used Tree.nil used = omega arith
leaves_used (Tree.leaf w) used = omega arith
leaves_used (Tree.name w) used = omega arith
leaves_used (Tree.hole w) used = omega arith
leaves_used (Tree.bind w t) used = leaves_used t (one_name w (one_place used))
leaves_used (Tree.call t u) used =
    let e = leaves_used t (one_place used) in
    let f = leaves_used u (used_by (one_place used) t) in
    f
    ∙ ap (λ n. n + length (leaves u)) e
    ∙ add_assoc used.leaves (length (leaves t)) (length (leaves u))
    ∙ ap (λ n. used.leaves + n) (sym (length-append (leaves t) (leaves u)))

-- a recipe has as many records as places
pub rows_long : (t : Tree) (used : Used) → length (rows used t) ≡ size t
unfolding rows size
rows_long Tree.nil used = refl
rows_long (Tree.leaf w) used = refl
rows_long (Tree.name w) used = refl
rows_long (Tree.hole w) used = refl
rows_long (Tree.bind w t) used = ap suc (rows_long t (one_name w (one_place used)))
rows_long (Tree.call t u) used =
    ap suc (length-append (rows (one_place used) t) (rows (used_by (one_place used) t) u) ∙ ap₂ (λ m n. m + n) (rows_long t (one_place used)) (rows_long u (used_by (one_place used) t)))

-- names and holes go on at their ends
names_grow : (t : Tree) (used : Used) → (more : List (List ℕ)) × ((used_by used t).names ≡ used.names ++ more)
names_grow t used =
    let (m, e) = with_words_grows used.names (names t) in
    (m, names_used t used ∙ e)

holes_grow : (t : Tree) (used : Used) → (more : List (List ℕ)) × ((used_by used t).holes ≡ used.holes ++ more)
holes_grow t used =
    let (m, e) = with_words_grows used.holes (holes t) in
    (m, holes_used t used ∙ e)

-- the number of a spelling is final
number_final : (ns : List (List ℕ)) (w : List ℕ) (more : List (List ℕ)) → number (with_word ns w ++ more) w ≡ number ns w
number_final ns w more =
    number_stays (with_word ns w) more w (subst (λ n. n < length (with_word ns w)) (sym (number_with ns w)) (number_listed ns w)) ∙ number_with ns w

-- a list that has gone on has the same before
gone_on : (now old m more : List (List ℕ)) → now ≡ old ++ m → now ++ more ≡ old ++ (m ++ more)
gone_on now old m more e = ap (λ q. q ++ more) e ∙ append_assoc old m more

-- the records as they are written are those by any lists that go on from the names and holes so far
pub rows_final : (t : Tree) (used : Used) (more_names more_holes : List (List ℕ)) → rows used t ≡ rows_from ((used_by used t).names ++ more_names) ((used_by used t).holes ++ more_holes) used.places used.leaves t
unfolding rows rows_from used_by
rows_final Tree.nil used mn mh = refl
rows_final (Tree.leaf w) used mn mh = refl
rows_final (Tree.name w) used mn mh = ap (λ n. row 2 n 0 ∷ []) (sym (number_final used.names w mn))
rows_final (Tree.hole w) used mn mh = ap (λ n. row 3 n 0 ∷ []) (sym (number_final used.holes w mh))
rows_final (Tree.bind w t) used mn mh =
    let inner : Used = one_name w (one_place used) in
    let (m, e) = names_grow t inner in
    ap₂
    (λ n q. row 4 n (suc used.places) ∷ q)
    (sym (ap (λ q. number q w) (gone_on ((used_by inner t).names) (with_word used.names w) m mn e) ∙ number_final used.names w (m ++ mn)))
    (rows_final t inner mn mh)
rows_final (Tree.call t u) used mn mh =
    let first : Used = one_place used in
    let second : Used = used_by first t in
    let last : Used = used_by second u in
    let (m, e) = names_grow u second in
    let (h, f) = holes_grow u second in
    let left = rows_final t first (m ++ mn) (h ++ mh) in
    let right = rows_final u second mn mh in
    ap₂
    (λ n q. row 5 (suc used.places) n ∷ q)
    (places_used t first)
    (ap₂
    (λ a b. a ++ b)
    (left ∙ ap₂ (λ a b. rows_from a b (suc used.places) used.leaves t) (sym (gone_on last.names second.names m mn e)) (sym (gone_on last.holes second.holes h mh f)))
    (right ∙ ap₂ (λ a b. rows_from (last.names ++ mn) (last.holes ++ mh) a b u) (places_used t first) (leaves_used t first))
    )

-- what is used after recipes
names_all : (ts : List Tree) (used : Used) → (used_by_all used ts).names ≡ with_words used.names (of_each names ts)
unfolding used_by_all of_each with_words
names_all [] used = refl
names_all (t ∷ ts) used =
    names_all ts (used_by used t) ∙ ap (λ ns. with_words ns (of_each names ts)) (names_used t used) ∙ sym (with_words_append used.names (names t) (of_each names ts))

holes_all : (ts : List Tree) (used : Used) → (used_by_all used ts).holes ≡ with_words used.holes (of_each holes ts)
unfolding used_by_all of_each with_words
holes_all [] used = refl
holes_all (t ∷ ts) used =
    holes_all ts (used_by used t) ∙ ap (λ ns. with_words ns (of_each holes ts)) (holes_used t used) ∙ sym (with_words_append used.holes (holes t) (of_each holes ts))

leaves_all : (ts : List Tree) (used : Used) → (used_by_all used ts).leaves ≡ used.leaves + length (of_each leaves ts)
unfolding used_by_all of_each
leaves_all [] used = omega arith
leaves_all (t ∷ ts) used =
    leaves_all ts (used_by used t)
    ∙ ap (λ n. n + length (of_each leaves ts)) (leaves_used t used)
    ∙ add_assoc used.leaves (length (leaves t)) (length (of_each leaves ts))
    ∙ ap (λ n. used.leaves + n) (sym (length-append (leaves t) (of_each leaves ts)))

places_all : (ts : List Tree) (used : Used) → (used_by_all used ts).places ≡ used.places + length (all_rows used ts)
unfolding used_by_all all_rows
places_all [] used = omega arith
places_all (t ∷ ts) used =
    places_all ts (used_by used t)
    ∙ ap (λ n. n + length (all_rows (used_by used t) ts)) (places_used t used ∙ ap (λ n. used.places + n) (sym (rows_long t used)))
    ∙ add_assoc used.places (length (rows used t)) (length (all_rows (used_by used t) ts))
    ∙ ap (λ n. used.places + n) (sym (length-append (rows used t) (all_rows (used_by used t) ts)))

pub all_rows_final : (ts : List Tree) (used : Used) (more_names more_holes : List (List ℕ)) → all_rows used ts ≡ all_rows_from ((used_by_all used ts).names ++ more_names) ((used_by_all used ts).holes ++ more_holes) used.places used.leaves ts
unfolding all_rows all_rows_from used_by_all
all_rows_final [] used mn mh = refl
all_rows_final (t ∷ ts) used mn mh =
    let second : Used = used_by used t in
    let last : Used = used_by_all second ts in
    let (m, e) = with_words_grows second.names (of_each names ts) in
    let (h, f) = with_words_grows second.holes (of_each holes ts) in
    let left = rows_final t used (m ++ mn) (h ++ mh) in
    let right = all_rows_final ts second mn mh in
    ap₂
    (λ a b. a ++ b)
    (left ∙ ap₂ (λ a b. rows_from a b used.places used.leaves t) (sym (gone_on last.names second.names m mn (names_all ts second ∙ e))) (sym (gone_on last.holes second.holes h mh (holes_all ts second ∙ f))))
    (right ∙ ap₂ (λ a b. all_rows_from (last.names ++ mn) (last.holes ++ mh) a b ts) (places_used t used) (leaves_used t used))

-- recipes one after the other
pub used_append : (ts us : List Tree) (used : Used) → used_by_all used (ts ++ us) ≡ used_by_all (used_by_all used ts) us
unfolding used_by_all
used_append [] us used = refl
used_append (t ∷ ts) us used = used_append ts us (used_by used t)

pub rows_append : (ts us : List Tree) (used : Used) → all_rows used (ts ++ us) ≡ all_rows used ts ++ all_rows (used_by_all used ts) us
unfolding all_rows used_by_all
rows_append [] us used = refl
rows_append (t ∷ ts) us used =
    ap (λ q. rows used t ++ q) (rows_append ts us (used_by used t))
    ∙ sym (append_assoc (rows used t) (all_rows (used_by used t) ts) (all_rows (used_by_all (used_by used t) ts) us))

-- of a whole text
pub names_read : (ts : List Tree) → (used_by_all unused ts).names ≡ names_of ts
names_read ts = names_all ts unused

pub holes_read : (ts : List Tree) → (used_by_all unused ts).holes ≡ holes_of ts
holes_read ts = holes_all ts unused

pub rows_read : (ts : List Tree) → all_rows unused ts ≡ places_of ts
rows_read ts =
    all_rows_final ts unused [] [] ∙ ap₂ (λ a b. all_rows_from a b 0 0 ts) (append-nil ((used_by_all unused ts).names) ∙ names_read ts) (append-nil ((used_by_all unused ts).holes) ∙ holes_read ts)

pub places_read : (ts : List Tree) → (used_by_all unused ts).places ≡ length (places_of ts)
places_read ts = places_all ts unused ∙ zero-add (length (all_rows unused ts)) ∙ ap (λ q. length q) (rows_read ts)

pub leaves_read : (ts : List Tree) → (used_by_all unused ts).leaves ≡ length (leaves_of ts)
leaves_read ts = leaves_all ts unused ∙ zero-add (length (leaves_of ts))
