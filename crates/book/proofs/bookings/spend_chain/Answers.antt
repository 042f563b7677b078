-- `book::bookings::spend_chain` meets its contract.
-- Assumes nothing.
use Rattle.std.proofs.Common.{sym, ◌∙◌}
use Rattle.book.proofs.ChainCode.{chain_starts, chain_again, word_there, chain_more}
use Rattle.book.proofs.bookings.spend_chain.Goals.{then-not-is_among, else-not-is_among}
use Rattle.book.proofs.bookings.spend_chain.Goals as goal

pub loop-i-init : goal.loop-i-init
loop-i-init c = chain_starts _ _

pub spend_one-requires : goal.spend_one-requires
spend_one-requires c = rw c.from.ensures (word_there _ _ _ _ _ c.loop-i.invariant c.loop-i-test.true c.requires)

pub loop-i-preserved : goal.loop-i-preserved
loop-i-preserved c =
    elim c.if-not-is_among.branch [
      | then-not-is_among w ↦
          chain_more _ _ _ _ _ c.loop-i.invariant c.loop-i-test.true c.requires (sym c.is_among.ensures ∙ w.if-not-is_among.true) _ (w.lefts-is ∙ rw (sym w.from.ensures) w.spend_one.ensures)
      | else-not-is_among w ↦
          rw w.lefts-is (chain_again _ _ _ _ _ c.loop-i.invariant c.loop-i-test.true (sym c.is_among.ensures ∙ w.if-not-is_among.false))
    ]
