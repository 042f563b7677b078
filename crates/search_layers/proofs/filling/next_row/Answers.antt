-- `search_layers::filling::next_row` meets its contract.
-- Assumes nothing.
use Rattle.search_layers.proofs.FillCode.{copied_same, next_made, older_kept}
use Rattle.search_layers.proofs.filling.next_row.Goals as goal

pub try_all-requires-clause-older : goal.try_all-requires-clause-older
try_all-requires-clause-older c = older_kept _ _ _ _ _ c.copy_row.ensures.copied.kept c.requires.1

pub try_all-requires-clause-copied : goal.try_all-requires-clause-copied
try_all-requires-clause-copied c = copied_same _ _ _ c.copy_row.ensures.copied

pub returns-clause-row : goal.returns-clause-row
returns-clause-row c = next_made _ _ _ _ _ c.copy_row.ensures.copied c.try_all.ensures.row

pub returns-clause-same : goal.returns-clause-same
returns-clause-same c = λ e. rw (c.try_all.ensures.same e) (copied_same _ _ _ c.copy_row.ensures.copied)
