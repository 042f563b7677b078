-- `search_layers::trying::try_contact` meets its contract.
-- Assumes nothing.
use mathlib.Core.Path.{subst}
use Rattle.service.proofs.HeldLaws.{held_sound}
use Rattle.search_layers.specs.Words.{TimeGood}
use Rattle.search_layers.proofs.ArriveCode.{late_by}
use Rattle.search_layers.proofs.LayerCode.{tried_late, tried_earlier, tried_later, tried_unready}
use Rattle.search_layers.proofs.ReadCode.{read_by}
use Rattle.search_layers.proofs.trying.try_contact.Goals as goal

pub returns-then-is_late-clause-row : goal.returns-then-is_late-clause-row
returns-then-is_late-clause-row c =
    let pre = c.requires in
    let net = c.args.net.now in
    let read = read_by _ _ _ c.contact-pass.ensures.is c.contact-pass.ensures.good in
    tried_late _ _ _ _ _ _ pre.0 read _ _ pre.2 pre.3 c.word-there.ensures
    (late_by _ _ _ _ _ pre.1 pre.3 _ read (held_sound net.service) net.ask.good (c.is_late.ensures c.if-is_late.true))

pub returns-then-arrival-there-clause-row : goal.returns-then-arrival-there-clause-row
returns-then-arrival-there-clause-row c =
    let pre = c.requires in
    let read = read_by _ _ _ c.contact-pass.ensures.is c.contact-pass.ensures.good in
    tried_earlier _ _ _ _ _ _ pre.0 read _ _ pre.2 pre.3 c.word-there.ensures _ c.arrive.ensures.time _ c.in-Some.is (subst TimeGood c.in-Some.is c.arrive.ensures.good) _
    c.if-arrival-there.true c.put.ensures.stored

pub returns-else-arrival-there-clause-row : goal.returns-else-arrival-there-clause-row
returns-else-arrival-there-clause-row c =
    let pre = c.requires in
    let read = read_by _ _ _ c.contact-pass.ensures.is c.contact-pass.ensures.good in
    tried_later _ _ _ _ _ _ pre.0 read _ _ pre.2 pre.3 c.word-there.ensures _ c.arrive.ensures.time _ c.in-Some.is (subst TimeGood c.in-Some.is c.arrive.ensures.good)
    c.if-arrival-there.false

pub returns-in_default-clause-row : goal.returns-in_default-clause-row
returns-in_default-clause-row c =
    let pre = c.requires in
    let read = read_by _ _ _ c.contact-pass.ensures.is c.contact-pass.ensures.good in
    tried_unready _ _ _ _ _ _ pre.0 read _ _ pre.2 pre.3 c.word-there.ensures _ c.arrive.ensures.time c.in_default.is
