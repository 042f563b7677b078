-- `search_layers::filling::fill_rows` meets its contract. The loop's invariant: the rows up to k are the network's layers, row `old` is older than row k,
-- and the words are still the lent ones.
-- Assumes nothing.
use mathlib.Core.Path.{◌≡◌}
use Rattle.search_layers.specs.Held.{network_in}
use Rattle.search_layers.specs.Layered.{Older}
use Rattle.search_layers.proofs.FillCode.{RowsTo}
use Rattle.search_layers.proofs.filling.fill_rows.Given as goal

abbrev pub invariant-loop-k : goal.invariant-loop-k
invariant-loop-k l = RowsTo (network_in l.net) l.layers l.k × Older (network_in l.net) l.layers l.old l.k × (l.layers.words.ghost_name ≡ l.fn.layers.words.ghost_name)
