-- `book::books::Book::spend` meets its contract. The loop's invariant: what the places so far take is taken.
-- Assumes nothing.
use Rattle.std.proofs.Common.{◌≡◌, ◌≤◌, length, sym, ◌∙◌, arith}
use Rattle.units.specs.Limits.{most_places, most_chain}
use Rattle.book.proofs.SpendCode.{places_none, places_more, places_all, place_open, place_closed, place_fits, place_read}
use Rattle.book.proofs.books.Book.spend.Goals.{then-mark-eq-OPEN+in-Some, then-mark-eq-OPEN+in_default, else-mark-eq-OPEN}
use Rattle.book.proofs.books.Book.spend.Goals as goal

pub loop-k-init : goal.loop-k-init
loop-k-init c = places_none _ _ _ _

pub spend-requires : goal.spend-requires
unfolding most_places
spend-requires c =
    let long : c.args.self.contact_count ≤ length c.loop-k.lefts = omega (arith, c.requires, c.loop-k.invariant.same_length) in
    rw c.in-Some.ensures.held
    (place_fits _ _ _ c.args.self.good _ c.loop-k-test.true _ long (sym c.mark.ensures ∙ c.if-mark-eq-OPEN.true))

pub loop-k-preserved : goal.loop-k-preserved
unfolding most_places most_chain
loop-k-preserved c =
    let more = places_more _ _ _ _ _ _ _ c.loop-k.invariant in
    elim c.if-mark-eq-OPEN.branch [
      | then-mark-eq-OPEN+in-Some w ↦
          more (place_open _ _ _ _ _ (sym c.mark.ensures ∙ w.if-mark-eq-OPEN.true) _ (rw (sym w.in-Some.ensures.held, w.lefts-is) w.spend.ensures))
      | then-mark-eq-OPEN+in_default w ↦
          absurd (place_read _ _ _ c.args.self.good _ c.loop-k-test.true (sym c.mark.ensures ∙ w.if-mark-eq-OPEN.true) w.in_default.ensures.few)
      | else-mark-eq-OPEN w ↦
          more (rw w.lefts-is (place_closed _ _ _ _ _ (λ e. w.if-mark-eq-OPEN.false (c.mark.ensures ∙ e))))
    ]

pub returns : goal.returns
unfolding most_places
returns c =
    let all : c.loop-k.k ≡ most_places = omega (arith, c.loop-k.auto.k-end, c.loop-k-test.false) in
    places_all _ _ _ _ _ _ all c.loop-k.invariant
