-- `timing::hop::hop_over` meets its contract.
-- Assumes nothing.
use mathlib.Core.Path.{subst}
use native.Mathlib.Omega.{arith}
use Rattle.units.specs.Limits.{last_time, most_light}
use Rattle.service.specs.Service.{LightGood}
use Rattle.timing.proofs.Rounding.{sent_most}
use Rattle.timing.proofs.hop.hop_over.Goals as goal

pub overflow_add-result : goal.overflow_add-result
unfolding last_time most_light
overflow_add-result c =
    let good = c.args.pass.contact_good in
    let light = subst LightGood c.in_ok-light.was c.args.pass.light_good in
    omega (arith, good.starts, good.ends, light, c.requires.1, sent_most c.args.size c.args.pass.contact.rate good.rate_least c.requires.0)
