-- `cases::answering::light_in` is safe: the number is one of the plan's contacts.
-- Assumes nothing.
use Rattle.std.proofs.Common.{ap, length, arith}
use Rattle.units.specs.Limits.{most_contacts}
use Rattle.plan.proofs.Lent.{contacts_counted, length_contacts}
use Rattle.service.specs.Service.{Service, service_of}
use Rattle.cases.proofs.answering.light_in.Goals as goal

pub unbooked-service-requires : goal.unbooked-service-requires
unfolding most_contacts
unbooked-service-requires g c =
    let few = contacts_counted _ _ _ _ c.args.plan.now.valid in
    (few, few)

pub pass-requires : goal.pass-requires
unfolding service_of
pass-requires g c =
    let tables = c.args.plan.now.tables in
    let counted = length_contacts tables.contacts.now tables.contact_count tables.ranges.now tables.range_count in
    let same = ap (λ (s : Service). length s.contacts) c.unbooked-service.ensures in
    record { least = c.requires.0; most = omega (arith, c.requires.1, counted, same) }
