-- `calls::serving::serve_booked` meets its contract.
-- Assumes nothing.
use native.Mathlib.Omega.{arith}
use Rattle.units.specs.Limits.{most_contacts}
use Rattle.plan.proofs.Lent.{contacts_counted}
use Rattle.book.specs.Book.{used}
use Rattle.book.specs.Tables.{book_of}
use Rattle.service.specs.Held.{service_in}
use Rattle.service.proofs.ServiceLaws.{is_service}
use Rattle.service.proofs.SpendLaws.{spent_serves}
use Rattle.calls.proofs.serving.serve_booked.Goals as goal

pub serve-requires : goal.serve-requires
unfolding most_contacts
serve-requires c =
    let few = contacts_counted _ _ _ _ c.args.call.now.plan.valid in
    (omega (arith, few, c.fits-lights), omega (arith, few, c.fits-lefts))

pub spend-requires : goal.spend-requires
unfolding most_contacts
spend-requires c =
    let call = c.args.call.now in
    omega (arith, contacts_counted _ _ _ _ call.plan.valid, call.same_count, c.serve.auto.lefts, c.fits-lefts)

pub invariant_of-result : goal.invariant_of-result
unfolding most_contacts
invariant_of-result c =
    let call = c.args.call.now in
    let few = contacts_counted _ _ _ _ call.plan.valid in
    record {
      sound = is_service _ _ _ _ _ _ _ call.plan.valid (omega (arith, few, c.serve.auto.lights, c.fits-lights)) (omega (arith, few, c.spend.ensures.same_length, c.serve.auto.lefts, c.fits-lefts))
          (spent_serves _ _ _ _ _ _ (used (book_of call.book.places.now call.book.chains.now) call.class) c.serve.ensures.0
          (λ k h. c.spend.ensures.lefts k (omega (arith, h, few, c.serve.auto.lefts, c.fits-lefts))));
    }

pub returns : goal.returns
unfolding service_in most_contacts
returns c =
    let call = c.args.call.now in
    let few = contacts_counted _ _ _ _ call.plan.valid in
    spent_serves _ _ _ _ _ _ (used (book_of call.book.places.now call.book.chains.now) call.class) c.serve.ensures.0 (λ k h. c.spend.ensures.lefts k (omega (arith, h, few, c.serve.auto.lefts, c.fits-lefts)))
