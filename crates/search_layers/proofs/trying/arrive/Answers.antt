-- `search_layers::trying::arrive` meets its contract.
-- Assumes nothing.
use mathlib.Core.Path.{refl, sym, ap, ◌∙◌}
use Rattle.service.proofs.HeldLaws.{held_sound}
use Rattle.timing.specs.Hop.{is_barred}
use Rattle.network.specs.Model.{behind}
use Rattle.search_layers.proofs.ArriveCode.{arrive_barred, arrive_over, arrive_good}
use Rattle.search_layers.proofs.trying.arrive.Goals as goal

pub returns-in_err-time-clause-time : goal.returns-in_err-time-clause-time
unfolding behind
returns-in_err-time-clause-time c = rw (c.from_residual.ensures, c.in_err-time.was) refl

pub returns-then-is_barred-clause-time : goal.returns-then-is_barred-clause-time
returns-then-is_barred-clause-time c =
    rw c.in_ok-time.was
    (arrive_barred _ _ _ _ c.requires.0 (ap (is_barred c.args.ask.asked) (sym c.contact.ensures.is) ∙ sym c.is_barred.ensures ∙ c.if-is_barred.true))

pub returns-clause-time : goal.returns-clause-time
returns-clause-time c =
    rw c.in_ok-time.was
    (arrive_over _ _ _ _ c.requires.0 _ c.over.ensures (ap (is_barred c.args.ask.asked) (sym c.contact.ensures.is) ∙ sym c.is_barred.ensures ∙ c.if-is_barred.false))

pub returns-clause-good : goal.returns-clause-good
returns-clause-good c = arrive_good _ _ _ _ c.requires.0 (held_sound c.args.service.now) _ c.over.ensures
