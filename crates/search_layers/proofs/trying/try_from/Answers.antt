-- `search_layers::trying::try_from` meets its contract. The loop's invariant: the contacts from the node before row i are tried,
-- and the words are still the lent ones.
-- Assumes nothing.
use mathlib.Core.Path.{refl, sym, ◌∙◌, subst}
use native.Mathlib.Omega.{arith}
use Rattle.search_layers.specs.Words.{TimeGood}
use Rattle.search_layers.proofs.ListedCode.{row_named, seen_first, seen_ready, seen_next, next_later, seen_all}
use Rattle.search_layers.proofs.NetworkLaws.{node_below}
use Rattle.search_layers.proofs.RowLaws.{time_is, never_is}
use Rattle.search_layers.proofs.TriedCode.{tried_unreached}
use Rattle.search_layers.proofs.trying.try_from.Goals as goal

pub returns-in_default-clause-tried : goal.returns-in_default-clause-tried
returns-in_default-clause-tried c =
    let pre = c.requires in
    tried_unreached _ _ _ _ pre.0 (node_below _ pre.1) (never_is _ (sym c.in_default.is ∙ c.get.ensures.time))

pub loop-i-init : goal.loop-i-init
loop-i-init c = (seen_first c.args.net.now _ _ _ _ (node_below _ c.requires.1) c.first_from-i.ensures, refl)

pub try_contact-requires : goal.try_contact-requires
try_contact-requires c =
    let below = c.loop-i-test.true in
    let word = sym (time_is _ _ (sym c.in-Some.is ∙ c.get.ensures.time)) in (
      c.requires.0,
      row_named c.args.net.now _ below,
      seen_ready c.args.net.now _ _ _ _ _ _ below c.loop-i.invariant.0 word,
      subst TimeGood c.in-Some.is c.get.ensures.good,
    )

pub loop-i-smaller : goal.loop-i-smaller
loop-i-smaller c =
    let below = c.loop-i-test.true in
    omega (arith, below, next_later c.args.net.now _ _ below c.next_of-i.ensures)

pub loop-i-preserved : goal.loop-i-preserved
loop-i-preserved c =
    let inv = c.loop-i.invariant in
    let told = c.try_contact.ensures in
    (seen_next c.args.net.now _ _ c.loop-i-test.true c.next_of-i.ensures _ _ _ _ _ c.requires.0 inv.0 told.row, told.same_reference ∙ inv.1)

pub returns-clause-tried : goal.returns-clause-tried
returns-clause-tried c = seen_all c.args.net.now _ _ _ _ _ c.loop-i-test.false c.loop-i.invariant.0
