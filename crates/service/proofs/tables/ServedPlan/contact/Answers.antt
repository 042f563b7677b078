-- `service::tables::ServedPlan::contact` meets its contract.
-- Assumes nothing.
use mathlib.Core.Path.{sym, ◌∙◌, subst}
use native.Mathlib.Omega.{arith}
use Rattle.plan.specs.Plan.{GoodContact}
use Rattle.service.proofs.Bounded.{contact_good}
use Rattle.service.proofs.HeldLaws.{held_sound, held_contact, held_at_most}
use Rattle.service.proofs.tables.ServedPlan.contact.Goals as goal

pub contact_numbered-requires : goal.contact_numbered-requires
contact_numbered-requires c =
    omega (arith, c.requires.least, held_at_most _ _ c.requires, c.args.self.now.sound.contacts_lent)

pub returns-clause-is : goal.returns-clause-is
returns-clause-is c = c.contact_numbered.ensures ∙ sym (held_contact _ _ c.requires)

pub returns-clause-good : goal.returns-clause-good
returns-clause-good c =
    subst GoodContact (held_contact _ _ c.requires ∙ sym c.contact_numbered.ensures) (contact_good _ (held_sound c.args.self.now) _ c.requires)
