use Rattle.std.proofs.Common.{◌≡◌, suc, ◌+◌, ◌≤◌, ◌∷◌, ◌∙◌, length, subst, Ok, Err, arith}
use Rattle.std.proofs.lemmas.Result.{err_from_is_err_and}
use Rattle.tokens.specs.Pieces.{token_of}
use Rattle.tokens.specs.declared.classes.Class.{Class}
use Rattle.notation.specs.Machine.{one_place, one_name}
use Rattle.notation.specs.Threading.{used_by}
use Rattle.notation.specs.Taking.{AllShort}
use Rattle.notation.proofs.Classes.{same_class, other_class}
use Rattle.notation.proofs.Turning.{stands_within}
use Rattle.notation.proofs.Shorts.{rest_short}
use Rattle.notation.proofs.Texts.{piece_of, unexpected_of, stops_of, binder_of, recipe_of}
use Rattle.notation.proofs.ListTurns.{list_deep, list_full, list_ends, bind_refused, bind_front, call_refused, call_front, last_ends, last_refused, last_taken, close_refused}
use Rattle.notation.proofs.ListRows.{bind_taken, call_taken}
use Rattle.notation.proofs.recipes.+recipes.Goals as goal

pub list-returns-then-depth-eq-DEEPEST-clause-taken : goal.list-returns-then-depth-eq-DEEPEST-clause-taken
list-returns-then-depth-eq-DEEPEST-clause-taken t c = λ most used deep stands short.
    let size = length c.args.words.now.text in
    let d = c.args.depth in
    let o = token_of c.args.words.now.text c.args.opening in
    list_deep most size d used o c.requires.class c.args.words.now.left c.if-depth-eq-DEEPEST.true

pub list-returns-in_err-place-clause-taken : goal.list-returns-in_err-place-clause-taken
list-returns-in_err-place-clause-taken t c = λ most used deep stands short.
    let size = length c.args.words.now.text in
    let d = c.args.depth in
    let o = token_of c.args.words.now.text c.args.opening in
    let p = err_from_is_err_and c.from_residual.result c.from_residual.ensures.1 in
    let full = c.in_err-place.ensures.taken most used stands in
    rw (p.1, p.2, full.1) (list_full most size d used o c.requires.class c.args.words.now.left full.0)

pub list-returns-in_err-head-clause-taken : goal.list-returns-in_err-head-clause-taken
list-returns-in_err-head-clause-taken t c = λ most used deep stands short.
    let size = length c.args.words.now.text in
    let d = c.args.depth in
    let o = token_of c.args.words.now.text c.args.opening in
    let p = err_from_is_err_and c.from_residual-in_err-head.result c.from_residual-in_err-head.ensures.1 in
    let tp = c.in_ok-place.ensures.taken most used stands in
    let deeper : d + 1 ≡ suc d = omega arith in
    let not_last = c.if-depth-eq-DEEPEST.false in
    let e_deep : d + 1 ≤ 128 = omega arith in
    let fits = stands_within most (d + 1) (one_place used) _ tp.stands e_deep in
    let h = c.in_err-head.ensures.taken in
    rw (p.1, p.2, h.1) (list_ends most size d used o c.requires.class (d + 1) deeper fits c.args.words.now.left h.0)

pub list-returns-in_err-name-clause-taken : goal.list-returns-in_err-name-clause-taken
list-returns-in_err-name-clause-taken t c = λ most used deep stands short.
    let size = length c.args.words.now.text in
    let d = c.args.depth in
    let o = token_of c.args.words.now.text c.args.opening in
    let p = err_from_is_err_and c.from_residual-in_err-name.result c.from_residual-in_err-name.ensures.1 in
    let tp = c.in_ok-place.ensures.taken most used stands in
    let deeper : d + 1 ≡ suc d = omega arith in
    let not_last = c.if-depth-eq-DEEPEST.false in
    let e_deep : d + 1 ≤ 128 = omega arith in
    let fits = stands_within most (d + 1) (one_place used) _ tp.stands e_deep in
    let h = c.in_ok-head.ensures.taken in
    let k = token_of c.args.words.now.text c.in_ok-head.head in
    let e1 = c.in_ok-head.ensures.text in
    let s0 = c.args.words.now.left in
    let s1 = c.next_piece.new.words.left in
    let short1 = rest_short h.left short.1 in
    let lambda = same_class c.in_ok-head.head.class Class.Lambda c.if-eq.ensures in
    let b = stops_of e1 (c.in_err-name.ensures.taken most (one_place used) (d + 1) e_deep tp.stands short1) in
    rw (p.1, p.2) (bind_refused most size d used o c.requires.class (d + 1) deeper fits k lambda s0 s1 h.left _ b)

pub list-returns-in_err-body-clause-taken : goal.list-returns-in_err-body-clause-taken
list-returns-in_err-body-clause-taken t c = λ most used deep stands short.
    let size = length c.args.words.now.text in
    let d = c.args.depth in
    let o = token_of c.args.words.now.text c.args.opening in
    let p = err_from_is_err_and c.from_residual-in_err-body.result c.from_residual-in_err-body.ensures.1 in
    let tp = c.in_ok-place.ensures.taken most used stands in
    let deeper : d + 1 ≡ suc d = omega arith in
    let not_last = c.if-depth-eq-DEEPEST.false in
    let e_deep : d + 1 ≤ 128 = omega arith in
    let fits = stands_within most (d + 1) (one_place used) _ tp.stands e_deep in
    let h = c.in_ok-head.ensures.taken in
    let k = token_of c.args.words.now.text c.in_ok-head.head in
    let e1 = c.in_ok-head.ensures.text in
    let s0 = c.args.words.now.left in
    let s1 = c.next_piece.new.words.left in
    let short1 = rest_short h.left short.1 in
    let lambda = same_class c.in_ok-head.head.class Class.Lambda c.if-eq.ensures in
    let B = binder_of e1 (c.in_ok-name.ensures.taken most (one_place used) (d + 1) e_deep tp.stands short1) in
    let e2 = c.in_ok-name.ensures.text ∙ e1 in
    let s2 = c.binder.new.words.left in
    let v = one_name B.name.bytes (one_place used) in
    let front = bind_front most size d used o c.requires.class (d + 1) deeper fits k lambda s0 s1 h.left v s2 B.turns in
    let g = c.in_err-body.ensures.taken in
    rw (p.1, p.2, g.1, e2) (last_ends most size d (d + 1) used v (o ∷ s0) s2 front g.0)

pub list-returns-in_err-inside-clause-taken : goal.list-returns-in_err-inside-clause-taken
list-returns-in_err-inside-clause-taken t c = λ most used deep stands short.
    let size = length c.args.words.now.text in
    let d = c.args.depth in
    let o = token_of c.args.words.now.text c.args.opening in
    let p = err_from_is_err_and c.from_residual-in_err-inside.result c.from_residual-in_err-inside.ensures.1 in
    let tp = c.in_ok-place.ensures.taken most used stands in
    let deeper : d + 1 ≡ suc d = omega arith in
    let not_last = c.if-depth-eq-DEEPEST.false in
    let e_deep : d + 1 ≤ 128 = omega arith in
    let fits = stands_within most (d + 1) (one_place used) _ tp.stands e_deep in
    let h = c.in_ok-head.ensures.taken in
    let k = token_of c.args.words.now.text c.in_ok-head.head in
    let e1 = c.in_ok-head.ensures.text in
    let s0 = c.args.words.now.left in
    let s1 = c.next_piece.new.words.left in
    let short1 = rest_short h.left short.1 in
    let lambda = same_class c.in_ok-head.head.class Class.Lambda c.if-eq.ensures in
    let B = binder_of e1 (c.in_ok-name.ensures.taken most (one_place used) (d + 1) e_deep tp.stands short1) in
    let e2 = c.in_ok-name.ensures.text ∙ e1 in
    let s2 = c.binder.new.words.left in
    let v = one_name B.name.bytes (one_place used) in
    let front = bind_front most size d used o c.requires.class (d + 1) deeper fits k lambda s0 s1 h.left v s2 B.turns in
    let g = piece_of e2 c.in_ok-body.ensures.taken in
    let e3 = c.in_ok-body.ensures.text ∙ e2 in
    let q = token_of c.args.words.now.text c.in_ok-body.body in
    let s3 = c.next_piece-then-eq.new.words.left in
    let short2 = subst AllShort g.left B.short in
    let r = recipe_of e3 (d + 1) c.in_ok-body.body s3 c.recipe.new.words.left c.binder.new.lists c.recipe.new.lists (Err _) c.in_err-inside.ensures.taken most v e_deep B.stands short2 in
    rw (p.1, p.2) (last_refused most size d (d + 1) used v (o ∷ s0) s2 front q s3 g.left _ r)

pub list-returns-in_err-expect-clause-taken : goal.list-returns-in_err-expect-clause-taken
list-returns-in_err-expect-clause-taken t c = λ most used deep stands short.
    let size = length c.args.words.now.text in
    let d = c.args.depth in
    let o = token_of c.args.words.now.text c.args.opening in
    let p = err_from_is_err_and c.from_residual-in_err-expect.result c.from_residual-in_err-expect.ensures.1 in
    let tp = c.in_ok-place.ensures.taken most used stands in
    let deeper : d + 1 ≡ suc d = omega arith in
    let not_last = c.if-depth-eq-DEEPEST.false in
    let e_deep : d + 1 ≤ 128 = omega arith in
    let fits = stands_within most (d + 1) (one_place used) _ tp.stands e_deep in
    let h = c.in_ok-head.ensures.taken in
    let k = token_of c.args.words.now.text c.in_ok-head.head in
    let e1 = c.in_ok-head.ensures.text in
    let s0 = c.args.words.now.left in
    let s1 = c.next_piece.new.words.left in
    let short1 = rest_short h.left short.1 in
    let lambda = same_class c.in_ok-head.head.class Class.Lambda c.if-eq.ensures in
    let B = binder_of e1 (c.in_ok-name.ensures.taken most (one_place used) (d + 1) e_deep tp.stands short1) in
    let e2 = c.in_ok-name.ensures.text ∙ e1 in
    let s2 = c.binder.new.words.left in
    let v = one_name B.name.bytes (one_place used) in
    let front = bind_front most size d used o c.requires.class (d + 1) deeper fits k lambda s0 s1 h.left v s2 B.turns in
    let g = piece_of e2 c.in_ok-body.ensures.taken in
    let e3 = c.in_ok-body.ensures.text ∙ e2 in
    let q = token_of c.args.words.now.text c.in_ok-body.body in
    let s3 = c.next_piece-then-eq.new.words.left in
    let short2 = subst AllShort g.left B.short in
    let s4 = c.recipe.new.words.left in
    let R = recipe_of e3 (d + 1) c.in_ok-body.body s3 s4 c.binder.new.lists c.recipe.new.lists (Ok c.in_ok-inside.inside) c.in_ok-inside.ensures.taken most v e_deep B.stands short2 in
    let e4 = c.in_ok-inside.ensures.text ∙ e3 in
    let w = used_by v R.tree in
    let last = last_taken most size d (d + 1) used v (o ∷ s0) s2 front q s3 g.left w s4 R.turns in
    rw (p.1, p.2) (close_refused most size d (d + 1) used w (o ∷ s0) s4 last _ (unexpected_of e4 c.in_err-expect.ensures.taken))

pub list-returns-then-eq-clause-taken : goal.list-returns-then-eq-clause-taken
list-returns-then-eq-clause-taken t c = λ most used deep stands short.
    let size = length c.args.words.now.text in
    let d = c.args.depth in
    let o = token_of c.args.words.now.text c.args.opening in
    let tp = c.in_ok-place.ensures.taken most used stands in
    let deeper : d + 1 ≡ suc d = omega arith in
    let not_last = c.if-depth-eq-DEEPEST.false in
    let e_deep : d + 1 ≤ 128 = omega arith in
    let fits = stands_within most (d + 1) (one_place used) _ tp.stands e_deep in
    let h = c.in_ok-head.ensures.taken in
    let k = token_of c.args.words.now.text c.in_ok-head.head in
    let e1 = c.in_ok-head.ensures.text in
    let s0 = c.args.words.now.left in
    let s1 = c.next_piece.new.words.left in
    let short1 = rest_short h.left short.1 in
    let lambda = same_class c.in_ok-head.head.class Class.Lambda c.if-eq.ensures in
    let B = binder_of e1 (c.in_ok-name.ensures.taken most (one_place used) (d + 1) e_deep tp.stands short1) in
    let e2 = c.in_ok-name.ensures.text ∙ e1 in
    let s2 = c.binder.new.words.left in
    let v = one_name B.name.bytes (one_place used) in
    let front = bind_front most size d used o c.requires.class (d + 1) deeper fits k lambda s0 s1 h.left v s2 B.turns in
    let g = piece_of e2 c.in_ok-body.ensures.taken in
    let e3 = c.in_ok-body.ensures.text ∙ e2 in
    let q = token_of c.args.words.now.text c.in_ok-body.body in
    let s3 = c.next_piece-then-eq.new.words.left in
    let short2 = subst AllShort g.left B.short in
    let s4 = c.recipe.new.words.left in
    let R = recipe_of e3 (d + 1) c.in_ok-body.body s3 s4 c.binder.new.lists c.recipe.new.lists (Ok c.in_ok-inside.inside) c.in_ok-inside.ensures.taken most v e_deep B.stands short2 in
    let e4 = c.in_ok-inside.ensures.text ∙ e3 in
    let w = used_by v R.tree in
    let last = last_taken most size d (d + 1) used v (o ∷ s0) s2 front q s3 g.left w s4 R.turns in
    let z = c.in_ok-expect.ensures.taken in
    bind_taken
    most
    size
    d
    (d + 1)
    used
    deep
    deeper
    fits
    o
    c.requires.class
    c.args.lists.now.places.now
    c.take_place.new.self.places.now
    tp.kept
    stands.place_room
    k
    q
    (token_of c.recipe.new.words.text c.in_ok-expect.field-0)
    s0
    s1
    s2
    s3
    s4
    c.expect.new.words.left
    c.in_ok-name.name
    c.in_ok-inside.inside
    c.in_ok-place.place
    c.record_of.result
    c.binder.new.lists
    c.recipe.new.lists
    c.write.new.self
    lambda
    h.left
    B
    g.left
    R
    z.class_is
    z.took.left
    tp.number_is
    c.record_of.ensures
    c.write.ensures.written
    (c.write.ensures.stands most w R.stands)

pub list-returns-in_err-left-clause-taken : goal.list-returns-in_err-left-clause-taken
list-returns-in_err-left-clause-taken t c = λ most used deep stands short.
    let size = length c.args.words.now.text in
    let d = c.args.depth in
    let o = token_of c.args.words.now.text c.args.opening in
    let p = err_from_is_err_and c.from_residual-in_err-left.result c.from_residual-in_err-left.ensures.1 in
    let tp = c.in_ok-place.ensures.taken most used stands in
    let deeper : d + 1 ≡ suc d = omega arith in
    let not_last = c.if-depth-eq-DEEPEST.false in
    let e_deep : d + 1 ≤ 128 = omega arith in
    let fits = stands_within most (d + 1) (one_place used) _ tp.stands e_deep in
    let h = c.in_ok-head.ensures.taken in
    let k = token_of c.args.words.now.text c.in_ok-head.head in
    let e1 = c.in_ok-head.ensures.text in
    let s0 = c.args.words.now.left in
    let s1 = c.next_piece.new.words.left in
    let short1 = rest_short h.left short.1 in
    let other = other_class c.in_ok-head.head.class Class.Lambda c.if-eq.ensures in
    let l = recipe_of e1 (d + 1) c.in_ok-head.head s1 c.recipe-2.new.words.left c.take_place.new.self c.recipe-2.new.lists (Err _) c.in_err-left.ensures.taken most (one_place used) e_deep tp.stands (subst AllShort h.left short.1) in
    rw (p.1, p.2) (call_refused most size d used o c.requires.class (d + 1) deeper fits k other s0 s1 h.left _ l)

pub list-returns-in_err-second-clause-taken : goal.list-returns-in_err-second-clause-taken
list-returns-in_err-second-clause-taken t c = λ most used deep stands short.
    let size = length c.args.words.now.text in
    let d = c.args.depth in
    let o = token_of c.args.words.now.text c.args.opening in
    let p = err_from_is_err_and c.from_residual-in_err-second.result c.from_residual-in_err-second.ensures.1 in
    let tp = c.in_ok-place.ensures.taken most used stands in
    let deeper : d + 1 ≡ suc d = omega arith in
    let not_last = c.if-depth-eq-DEEPEST.false in
    let e_deep : d + 1 ≤ 128 = omega arith in
    let fits = stands_within most (d + 1) (one_place used) _ tp.stands e_deep in
    let h = c.in_ok-head.ensures.taken in
    let k = token_of c.args.words.now.text c.in_ok-head.head in
    let e1 = c.in_ok-head.ensures.text in
    let s0 = c.args.words.now.left in
    let s1 = c.next_piece.new.words.left in
    let short1 = rest_short h.left short.1 in
    let other = other_class c.in_ok-head.head.class Class.Lambda c.if-eq.ensures in
    let s2 = c.recipe-2.new.words.left in
    let L = recipe_of e1 (d + 1) c.in_ok-head.head s1 s2 c.take_place.new.self c.recipe-2.new.lists (Ok c.in_ok-left.left) c.in_ok-left.ensures.taken most (one_place used) e_deep tp.stands (subst AllShort h.left short.1) in
    let e2 = c.in_ok-left.ensures.text ∙ e1 in
    let v = used_by (one_place used) L.tree in
    let front = call_front most size d used o c.requires.class (d + 1) deeper fits k other s0 s1 h.left v s2 L.turns in
    let g = c.in_err-second.ensures.taken in
    rw (p.1, p.2, g.1, e2) (last_ends most size d (d + 1) used v (o ∷ s0) s2 front g.0)

pub list-returns-in_err-right-clause-taken : goal.list-returns-in_err-right-clause-taken
list-returns-in_err-right-clause-taken t c = λ most used deep stands short.
    let size = length c.args.words.now.text in
    let d = c.args.depth in
    let o = token_of c.args.words.now.text c.args.opening in
    let p = err_from_is_err_and c.from_residual-in_err-right.result c.from_residual-in_err-right.ensures.1 in
    let tp = c.in_ok-place.ensures.taken most used stands in
    let deeper : d + 1 ≡ suc d = omega arith in
    let not_last = c.if-depth-eq-DEEPEST.false in
    let e_deep : d + 1 ≤ 128 = omega arith in
    let fits = stands_within most (d + 1) (one_place used) _ tp.stands e_deep in
    let h = c.in_ok-head.ensures.taken in
    let k = token_of c.args.words.now.text c.in_ok-head.head in
    let e1 = c.in_ok-head.ensures.text in
    let s0 = c.args.words.now.left in
    let s1 = c.next_piece.new.words.left in
    let short1 = rest_short h.left short.1 in
    let other = other_class c.in_ok-head.head.class Class.Lambda c.if-eq.ensures in
    let s2 = c.recipe-2.new.words.left in
    let L = recipe_of e1 (d + 1) c.in_ok-head.head s1 s2 c.take_place.new.self c.recipe-2.new.lists (Ok c.in_ok-left.left) c.in_ok-left.ensures.taken most (one_place used) e_deep tp.stands (subst AllShort h.left short.1) in
    let e2 = c.in_ok-left.ensures.text ∙ e1 in
    let v = used_by (one_place used) L.tree in
    let front = call_front most size d used o c.requires.class (d + 1) deeper fits k other s0 s1 h.left v s2 L.turns in
    let g = piece_of e2 c.in_ok-second.ensures.taken in
    let e3 = c.in_ok-second.ensures.text ∙ e2 in
    let q = token_of c.args.words.now.text c.in_ok-second.second in
    let s3 = c.next_piece-2.new.words.left in
    let short2 = subst AllShort g.left L.short in
    let r = recipe_of e3 (d + 1) c.in_ok-second.second s3 c.recipe-3.new.words.left c.recipe-2.new.lists c.recipe-3.new.lists (Err _) c.in_err-right.ensures.taken most v e_deep L.stands short2 in
    rw (p.1, p.2) (last_refused most size d (d + 1) used v (o ∷ s0) s2 front q s3 g.left _ r)

pub list-returns-in_err-expect-2-clause-taken : goal.list-returns-in_err-expect-2-clause-taken
list-returns-in_err-expect-2-clause-taken t c = λ most used deep stands short.
    let size = length c.args.words.now.text in
    let d = c.args.depth in
    let o = token_of c.args.words.now.text c.args.opening in
    let p = err_from_is_err_and c.from_residual-in_err-expect-2.result c.from_residual-in_err-expect-2.ensures.1 in
    let tp = c.in_ok-place.ensures.taken most used stands in
    let deeper : d + 1 ≡ suc d = omega arith in
    let not_last = c.if-depth-eq-DEEPEST.false in
    let e_deep : d + 1 ≤ 128 = omega arith in
    let fits = stands_within most (d + 1) (one_place used) _ tp.stands e_deep in
    let h = c.in_ok-head.ensures.taken in
    let k = token_of c.args.words.now.text c.in_ok-head.head in
    let e1 = c.in_ok-head.ensures.text in
    let s0 = c.args.words.now.left in
    let s1 = c.next_piece.new.words.left in
    let short1 = rest_short h.left short.1 in
    let other = other_class c.in_ok-head.head.class Class.Lambda c.if-eq.ensures in
    let s2 = c.recipe-2.new.words.left in
    let L = recipe_of e1 (d + 1) c.in_ok-head.head s1 s2 c.take_place.new.self c.recipe-2.new.lists (Ok c.in_ok-left.left) c.in_ok-left.ensures.taken most (one_place used) e_deep tp.stands (subst AllShort h.left short.1) in
    let e2 = c.in_ok-left.ensures.text ∙ e1 in
    let v = used_by (one_place used) L.tree in
    let front = call_front most size d used o c.requires.class (d + 1) deeper fits k other s0 s1 h.left v s2 L.turns in
    let g = piece_of e2 c.in_ok-second.ensures.taken in
    let e3 = c.in_ok-second.ensures.text ∙ e2 in
    let q = token_of c.args.words.now.text c.in_ok-second.second in
    let s3 = c.next_piece-2.new.words.left in
    let short2 = subst AllShort g.left L.short in
    let s4 = c.recipe-3.new.words.left in
    let R = recipe_of e3 (d + 1) c.in_ok-second.second s3 s4 c.recipe-2.new.lists c.recipe-3.new.lists (Ok c.in_ok-right.right) c.in_ok-right.ensures.taken most v e_deep L.stands short2 in
    let e4 = c.in_ok-right.ensures.text ∙ e3 in
    let w = used_by v R.tree in
    let last = last_taken most size d (d + 1) used v (o ∷ s0) s2 front q s3 g.left w s4 R.turns in
    rw (p.1, p.2) (close_refused most size d (d + 1) used w (o ∷ s0) s4 last _ (unexpected_of e4 c.in_err-expect-2.ensures.taken))

pub list-returns-clause-taken : goal.list-returns-clause-taken
list-returns-clause-taken t c = λ most used deep stands short.
    let size = length c.args.words.now.text in
    let d = c.args.depth in
    let o = token_of c.args.words.now.text c.args.opening in
    let tp = c.in_ok-place.ensures.taken most used stands in
    let deeper : d + 1 ≡ suc d = omega arith in
    let not_last = c.if-depth-eq-DEEPEST.false in
    let e_deep : d + 1 ≤ 128 = omega arith in
    let fits = stands_within most (d + 1) (one_place used) _ tp.stands e_deep in
    let h = c.in_ok-head.ensures.taken in
    let k = token_of c.args.words.now.text c.in_ok-head.head in
    let e1 = c.in_ok-head.ensures.text in
    let s0 = c.args.words.now.left in
    let s1 = c.next_piece.new.words.left in
    let short1 = rest_short h.left short.1 in
    let other = other_class c.in_ok-head.head.class Class.Lambda c.if-eq.ensures in
    let s2 = c.recipe-2.new.words.left in
    let L = recipe_of e1 (d + 1) c.in_ok-head.head s1 s2 c.take_place.new.self c.recipe-2.new.lists (Ok c.in_ok-left.left) c.in_ok-left.ensures.taken most (one_place used) e_deep tp.stands (subst AllShort h.left short.1) in
    let e2 = c.in_ok-left.ensures.text ∙ e1 in
    let v = used_by (one_place used) L.tree in
    let front = call_front most size d used o c.requires.class (d + 1) deeper fits k other s0 s1 h.left v s2 L.turns in
    let g = piece_of e2 c.in_ok-second.ensures.taken in
    let e3 = c.in_ok-second.ensures.text ∙ e2 in
    let q = token_of c.args.words.now.text c.in_ok-second.second in
    let s3 = c.next_piece-2.new.words.left in
    let short2 = subst AllShort g.left L.short in
    let s4 = c.recipe-3.new.words.left in
    let R = recipe_of e3 (d + 1) c.in_ok-second.second s3 s4 c.recipe-2.new.lists c.recipe-3.new.lists (Ok c.in_ok-right.right) c.in_ok-right.ensures.taken most v e_deep L.stands short2 in
    let e4 = c.in_ok-right.ensures.text ∙ e3 in
    let w = used_by v R.tree in
    let last = last_taken most size d (d + 1) used v (o ∷ s0) s2 front q s3 g.left w s4 R.turns in
    let z = c.in_ok-expect-2.ensures.taken in
    call_taken
    most
    size
    d
    (d + 1)
    used
    deep
    deeper
    fits
    o
    c.requires.class
    c.args.lists.now.places.now
    c.take_place.new.self.places.now
    tp.kept
    stands.place_room
    k
    q
    (token_of c.recipe-3.new.words.text c.in_ok-expect-2.field-0)
    s0
    s1
    s2
    s3
    s4
    c.expect-2.new.words.left
    c.in_ok-left.left
    c.in_ok-right.right
    c.in_ok-place.place
    c.record_of-2.result
    c.recipe-2.new.lists
    c.recipe-3.new.lists
    c.write-2.new.self
    other
    h.left
    L
    g.left
    R
    z.class_is
    z.took.left
    tp.number_is
    c.record_of-2.ensures
    c.write-2.ensures.written
    (c.write-2.ensures.stands most w R.stands)

pub recipe-returns-else-eq-clause-taken : goal.recipe-returns-else-eq-clause-taken
recipe-returns-else-eq-clause-taken t c = recipe_of c.text.ensures c.args.depth c.args.first c.args.words.now.left c.args.words.now.left c.args.lists.now c.atom.new.lists _ (c.atom.ensures.taken c.args.depth c.args.words.now.left)
