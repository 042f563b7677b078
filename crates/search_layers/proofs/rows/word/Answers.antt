-- `search_layers::rows::word` meets its contract.
-- Assumes nothing.
use mathlib.Core.Path.{sym, ap, ◌∙◌}
use lib.ListN.{get_or}
use Rattle.search_layers.proofs.NetworkLaws.{node_below}
use Rattle.search_layers.proofs.RowLaws.{get_d_row}
use Rattle.search_layers.proofs.rows.word.Goals as goal

pub returns : goal.returns
returns c = ap (λ i. get_or c.args.words.now i 0) c.place.ensures.0 ∙ sym (get_d_row _ _ _ _ (node_below _ c.requires.1))
