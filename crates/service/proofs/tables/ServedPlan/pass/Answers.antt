-- `service::tables::ServedPlan::pass` meets its contract.
-- Assumes nothing.
use mathlib.Core.Path.{sym, ◌∙◌, subst}
use native.Mathlib.Omega.{arith}
use Rattle.service.specs.Service.{LightGood}
use Rattle.service.proofs.Bounded.{light_good}
use Rattle.service.proofs.HeldLaws.{held_sound, held_light, held_left, held_at_most}
use Rattle.service.proofs.tables.ServedPlan.pass.Goals as goal

pub light_numbered-requires : goal.light_numbered-requires
light_numbered-requires c = omega (arith, c.requires.least, held_at_most _ _ c.requires, c.args.self.now.sound.lights_lent)

pub left_numbered-requires : goal.left_numbered-requires
left_numbered-requires c = omega (arith, c.requires.least, held_at_most _ _ c.requires, c.args.self.now.sound.lefts_lent)

pub invariant_of-result : goal.invariant_of-result
invariant_of-result c = record {
  contact_good = c.contact.ensures.good;
  light_good = subst LightGood (held_light _ _ c.requires ∙ sym c.light_numbered.ensures) (light_good _ (held_sound c.args.self.now) _ c.requires);
}

pub returns-clause-light : goal.returns-clause-light
returns-clause-light c = c.light_numbered.ensures ∙ sym (held_light _ _ c.requires)

pub returns-clause-left : goal.returns-clause-left
returns-clause-left c = c.left_numbered.ensures ∙ sym (held_left _ _ c.requires)
