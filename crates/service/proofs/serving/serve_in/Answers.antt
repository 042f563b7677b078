-- `service::serving::serve_in` meets its contract. The loop's invariant: the words beside the rows so far say their light times and their volumes, and what is kept of the
-- walks along the lists holds.
-- Assumes nothing.
use Prim.Native.Nat.{◌<◌}
use native.Mathlib.Omega.{arith}
use lib.ListN.{length}
use Rattle.units.specs.Limits.{most_contacts}
use Rattle.plan.proofs.Lent.{contacts_counted}
use Rattle.plan.proofs.Verdicts.{true_holds}
use Rattle.service.proofs.ServingCode.{ranges_linkable, ranges_listed, kept_none, row_good, light_in_range, beside_more, beside_all}
use Rattle.service.proofs.serving.serve_in.Goals as goal

pub link-ordered-requires : goal.link-ordered-requires
link-ordered-requires c =
    let pre = c.requires in
    ranges_linkable _ _ _ _ c.args.plan.now.valid _ _ pre.0 pre.1

pub invariant_of-lists : goal.invariant_of-lists
invariant_of-lists c =
    let pre = c.requires in
    let linked = c.link-ordered.ensures in
    record {
      listed = ranges_listed _ _ _ _ c.args.plan.now.valid c.args.heads.now c.args.nexts.now pre.0 pre.1 _ _ linked.0 linked.1 linked.2;
      in_order = true_holds linked.3;
    }

pub loop-k-init : goal.loop-k-init
loop-k-init c =
    let pre = c.requires in
    (λ j h. absurd (omega arith), kept_none _ _ _ _ c.args.plan.now.valid c.args.heads.now c.args.nexts.now pre.0 pre.1 _ pre.2)

pub light_kept-light-requires : goal.light_kept-light-requires
light_kept-light-requires c = (row_good _ _ _ _ c.args.plan.now.valid _ c.loop-k-test.true _ c.read-c.ensures, c.loop-k.invariant.1)

pub word_of-requires : goal.word_of-requires
word_of-requires c = light_in_range _ _ _ _ c.args.plan.now.valid _ _ c.light_kept-light.ensures.0

pub bounds-lights-k : goal.bounds-lights-k
unfolding most_contacts
bounds-lights-k c = omega (arith, c.loop-k-test.true, contacts_counted _ _ _ _ c.args.plan.now.valid)

pub volume_of-requires : goal.volume_of-requires
volume_of-requires c = row_good _ _ _ _ c.args.plan.now.valid _ c.loop-k-test.true _ c.read-c.ensures

pub bounds-lefts-k : goal.bounds-lefts-k
unfolding most_contacts
bounds-lefts-k c = omega (arith, c.loop-k-test.true, contacts_counted _ _ _ _ c.args.plan.now.valid)

pub loop-k-preserved : goal.loop-k-preserved
unfolding most_contacts
loop-k-preserved c =
    let inv = c.loop-k.invariant in
    let told = c.light_kept-light.ensures in
    let few = contacts_counted _ _ _ _ c.args.plan.now.valid in
    let lights_room : c.loop-k.k < length c.loop-k.lights = omega (arith, c.loop-k-test.true, c.requires.3, c.loop-k.auto.lights) in
    let lefts_room : c.loop-k.k < length c.loop-k.lefts = omega (arith, c.loop-k-test.true, c.requires.4, c.loop-k.auto.lefts) in
    (beside_more _ _ _ _ _ _ _ lights_room lefts_room _ _ c.read-c.ensures told.0 c.word_of.ensures c.volume_of.ensures inv.0, told.1)

pub returns : goal.returns
returns c =
    (beside_all _ _ _ _ _ _ (λ j h. c.loop-k.invariant.0 j (omega (arith, c.loop-k-test.false))), c.loop-k.auto.lights, c.loop-k.auto.lefts)
