-- `search_layers::filling::fill_rows` meets its contract. The loop's invariant: the rows up to k are the network's layers, row `old` is older than row k,
-- and the words are still the lent ones.
-- Assumes nothing.
use mathlib.Core.Path.{◌≡◌, ◌∙◌}
use native.Mathlib.Omega.{arith}
use Rattle.units.specs.Limits.{most_nodes}
use Rattle.search_layers.proofs.FillCode.{held_laws, rows_begin, rows_next, rows_settled, rows_all, older_begin, older_next}
use Rattle.search_layers.proofs.filling.fill_rows.Goals as goal

pub loop-k-init : goal.loop-k-init
unfolding most_nodes
loop-k-init c =
    let net = c.args.net.now in
    let good = net.ask.good in (
      rows_begin _ _ good c.args.layers.now _ c.requires c.put.ensures.stored,
      older_begin _ _ good (held_laws net.service net.ask) c.args.layers.now _ _ (omega arith) (omega arith) c.requires c.put.ensures.stored,
      c.put.ensures.same_reference,
    )

pub returns-then-next_row-clause-filled : goal.returns-then-next_row-clause-filled
unfolding most_nodes
returns-then-next_row-clause-filled c =
    let next = c.next_row.ensures in
    rows_settled _ _ _ (omega (arith, c.loop-k-test.true)) (rows_next _ _ _ _ c.loop-k.invariant.0 next.row) (next.same c.if-next_row.true)

pub loop-k-preserved : goal.loop-k-preserved
unfolding most_nodes
loop-k-preserved c =
    let net = c.args.net.now in
    let inv = c.loop-k.invariant in
    let told = c.next_row.ensures in (
      rows_next _ _ _ _ inv.0 told.row,
      older_next _ _ (held_laws net.service net.ask) _ _ _ (omega (arith, c.loop-k-test.true)) told.row,
      told.same_reference ∙ inv.2,
    )

pub returns-clause-filled : goal.returns-clause-filled
unfolding most_nodes
returns-clause-filled c =
    let last : c.loop-k.k ≡ 63 = omega (arith, c.loop-k-test.false, c.loop-k.auto.k-end) in
    rw last at (rows_all _ _ _ (omega arith) last c.loop-k.invariant.0)
