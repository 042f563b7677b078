-- `route::asks::answer_each` meets its contract. The loop's invariant: the parts printed so far are the answers from the first line on.
-- Assumes nothing.
use mathlib.Core.Path.{refl}
use Prim.Native.Nat.{◌<◌}
use native.Mathlib.Omega.{arith}
use lib.ListN.{length}
use borrow.Author.Rules.{rules}
use Rattle.route.proofs.AsksCode.{none_yet, joined, line_most}
use Rattle.route.proofs.asks.answer_each.Goals as goal

pub loop-tables-init : goal.loop-tables-init
loop-tables-init g c = (none_yet _ _ _ _ _ c.none-printed.ensures.at c.none-printed.ensures.line, refl)

pub answer_some-printed-requires : goal.answer_some-printed-requires
answer_some-printed-requires g c =
    let inside : c.loop-tables.printed.at < length c.args.input.now =
    omega (arith, c.loop-tables-test.true, c.at.ensures)
    in (
      c.requires.0,
      inside,
      omega (arith, line_most _ _ _ _ _ c.loop-tables.invariant.0 inside, c.requires.0),
      omega (arith, c.loop-tables.invariant.1, c.requires.1),
    )

pub loop-tables-smaller : goal.loop-tables-smaller
loop-tables-smaller g c = omega (arith, c.answer_some-printed.ensures.0, c.loop-tables-test.true, c.at.ensures)

pub loop-tables-preserved : goal.loop-tables-preserved
loop-tables-preserved g c =
    let inv = c.loop-tables.invariant in
    (joined _ _ _ _ _ inv.0 c.answer_some-printed.ensures.1, search rules)

pub shape_of-out : goal.shape_of-out
shape_of-out g c = c.loop-tables.invariant.1

pub returns : goal.returns
returns g c =
    let far = c.loop-tables.invariant.0 in
    record { bytes = far.bytes; part = far.part; ends = omega (arith, c.loop-tables-test.false, c.at.ensures) }
