use Rattle.std.proofs.Common.{◌≡◌, ℕ, Bool, true, false, not, Some, None, Option, refl, sym, ◌∙◌, arith}
use Rattle.std.specs.Option.{is_some}
use Rattle.forest.specs.Rows.{IsNode}
use Rattle.forest.proofs.Linking.{links, taken_copied, taken_had, taken_none}
use Rattle.forest.proofs.joining.link.Goals as goal
use Rattle.forest.proofs.joining.link.Goals.{then-is_none, else-is_none}

pub loop-side-init : goal.loop-side-init
loop-side-init c = taken_none c.args.low c.args.high c.args.rows.now

-- what the test for none tells
none : (o : Option ℕ) (b : Bool) → is_some o ≡ not b → b ≡ true → o ≡ None
none None b tied holds = refl
none (Some d) b tied holds = absurd (let h : true ≡ false = tied ∙ rw holds refl in cc)

some : (o : Option ℕ) (b : Bool) → is_some o ≡ not b → b ≡ false → (d : ℕ) × (o ≡ Some d)
some None b tied fails = absurd (let h : false ≡ true = tied ∙ rw fails refl in cc)
some (Some d) b tied fails = (d, refl)

pub loop-side-preserved : goal.loop-side-preserved
loop-side-preserved c =
    let i = c.loop-side in
    elim c.if-is_none.branch [
      | then-is_none w ↦ let node : IsNode i.rows c.args.low = omega arith in
          rw w.rows-is
          (taken_copied c.args.low c.args.high i.side c.args.rows.now i.rows c.loop-side-test.true c.requires.lower node i.invariant
          (sym c.part_of.ensures ∙ none c.part_of.result c.is_none.result c.is_none.ensures w.if-is_none.true))
      | else-is_none w ↦ let (d, had) = some c.part_of.result c.is_none.result c.is_none.ensures w.if-is_none.false in
          rw w.rows-is (taken_had c.args.low c.args.high i.side d c.args.rows.now i.rows c.loop-side-test.true i.invariant (sym c.part_of.ensures ∙ had))
    ]

pub returns : goal.returns
returns c =
    links c.args.low c.args.high c.loop-side.side c.args.rows.now c.loop-side.rows c.requires.rows c.requires.node c.requires.lower c.requires.low_root
    c.requires.high_root c.loop-side.auto.rows c.loop-side-test.false c.loop-side.invariant
