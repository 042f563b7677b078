-- `timing::hop::back` meets its contract.
-- Assumes nothing.
use mathlib.Core.Path.{subst}
use native.Mathlib.Omega.{arith}
use Rattle.units.specs.Limits.{last_time, most_light}
use Rattle.service.specs.Service.{LightGood}
use Rattle.timing.proofs.Rounding.{sent_most}
use Rattle.timing.proofs.hop.back.Goals as goal

pub overflow_add-pass : goal.overflow_add-pass
unfolding last_time
overflow_add-pass c = omega (arith, c.args.pass.contact_good.ends)

pub overflow_add-send : goal.overflow_add-send
unfolding most_light
overflow_add-send c =
    let light = subst LightGood c.in-Some.is c.args.pass.light_good in
    omega (arith, light, sent_most c.args.size c.args.pass.contact.rate c.args.pass.contact_good.rate_least c.requires)
