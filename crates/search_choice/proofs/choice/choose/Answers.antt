-- `search_choice::choice::choose` meets its contract. The loop's invariant: k contacts are still to be chosen before those that stand in the chain.
-- Assumes nothing.
use mathlib.Core.Path.{refl}
use native.Mathlib.Omega.{arith}
use Rattle.search_choice.specs.Model.{chain_of}
use Rattle.search_choice.proofs.ChooseCode.{working_begins, working_ends, lead_named, one_leads, found_leads, found_goes}
use Rattle.search_layers.proofs.FillCode.{held_laws}
use Rattle.search_layers.proofs.ReadCode.{Read, read_by}
use Rattle.search_choice.proofs.choice.choose.Goals as goal

pub loop-k-init : goal.loop-k-init
loop-k-init c =
    let pre = c.requires in
    (working_begins _ (held_laws c.args.service.now c.args.ask) _ _ _ _ pre.delivered.0 pre.fewest, c.args.ask.good.destination_node)

pub lowest_leading-no-requires-clause-one : goal.lowest_leading-no-requires-clause-one
lowest_leading-no-requires-clause-one c =
    one_leads _ _ (held_laws c.args.service.now c.args.ask) _ _ _ _ _ _ _ _ _ c.loop-k-test.true c.loop-k.invariant.0 c.requires.rows

pub back_over-limit-requires : goal.back_over-limit-requires
back_over-limit-requires c =
    let laws = held_laws c.args.service.now c.args.ask in
    let leads = found_leads _ _ laws _ _ _ _ _ _ _ _ _ _ c.loop-k-test.true c.loop-k.invariant.0 c.requires.rows c.lowest_leading-no.ensures in
    (lead_named _ _ _ _ _ _ leads, c.args.ask.good.size_most)

pub contact-requires : goal.contact-requires
contact-requires c =
    let laws = held_laws c.args.service.now c.args.ask in
    lead_named _ _ _ _ _ _ (found_leads _ _ laws _ _ _ _ _ _ _ _ _ _ c.loop-k-test.true c.loop-k.invariant.0 c.requires.rows c.lowest_leading-no.ensures)

pub loop-k-preserved : goal.loop-k-preserved
loop-k-preserved c =
    let pre = c.requires in
    let laws = held_laws c.args.service.now c.args.ask in
    let read : Read _ _ _ = read_by _ _ _ c.contact.ensures.is c.contact.ensures.good in (
      found_goes _ _ laws _ _ _ _ _ _ _ _ _ _ c.loop-k-test.true c.loop-k.invariant.0 pre.rows c.lowest_leading-no.ensures _ _ _ pre.room refl read
          c.back_over-limit.ensures,
      read.good.from_node,
    )

pub returns : goal.returns
unfolding chain_of
returns c =
    working_ends _ (held_laws c.args.service.now c.args.ask) _ _ _ _ _ _ _ _ (omega (arith, c.loop-k-test.false)) c.loop-k.invariant.0
