-- `search_choice::choice::lowest_leading` meets its contract.
-- Assumes nothing.
use mathlib.Core.Path.{sym, ◌∙◌}
use native.Mathlib.Omega.{arith}
use Rattle.service.proofs.HeldLaws.{held_named}
use Rattle.search_choice.proofs.ChoiceCode.{lowest_begins, lowest_goes, lowest_stops, lowest_ends}
use Rattle.search_layers.proofs.FillCode.{contacts_counted}
use Rattle.search_choice.proofs.choice.lowest_leading.Goals as goal

pub loop-i-init : goal.loop-i-init
loop-i-init c = lowest_begins _ _ _ _ _ 0 (contacts_counted c.args.service.now c.args.ask.asked)

pub is_leading-requires : goal.is_leading-requires
is_leading-requires c =
    (held_named c.args.service.now _ (omega arith) (omega (arith, c.loop-i-test.true)), c.requires.layers.0, c.requires.layers.1, c.requires.layers.2)

pub returns-then-is_leading : goal.returns-then-is_leading
returns-then-is_leading c =
    sym (c.loop-i.invariant ∙ lowest_stops _ _ _ _ _ _ c.loop-i-test.true (sym c.is_leading.ensures ∙ c.if-is_leading.true))

pub loop-i-preserved : goal.loop-i-preserved
loop-i-preserved c =
    c.loop-i.invariant ∙ lowest_goes _ _ _ _ _ _ c.loop-i-test.true (sym c.is_leading.ensures ∙ c.if-is_leading.false)

pub unreachable-requires : goal.unreachable-requires
unreachable-requires c =
    omega (arith, c.requires.one, c.loop-i.invariant ∙ lowest_ends _ _ _ _ _ _ c.loop-i-test.false)
