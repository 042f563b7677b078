-- `book_keeping::entering::enter` meets its contract.
-- Assumes nothing.
use Rattle.book_keeping.proofs.PlaceStores.{entered_part}
use Rattle.book_keeping.proofs.entering.enter.Goals as goal

pub returns : goal.returns
returns c = (entered_part _ _ c.requires.0 _ _ c.copy_from_slice.ensures.after, c.enter_chain.ensures)
