-- `search_layers::trying::try_from` meets its contract. The loop's invariant: the contacts from the node before row i are tried,
-- and the words are still the lent ones.
-- Assumes nothing.
use mathlib.Core.Path.{◌≡◌}
use Prim.Native.Nat.{◌-◌}
use Rattle.search_layers.proofs.ListedCode.{Seen}
use Rattle.search_layers.proofs.trying.try_from.Given as goal

abbrev pub invariant-loop-i : goal.invariant-loop-i
invariant-loop-i l = Seen l.net l.initial.layers l.layers l.k (l.fn.node.0 - 1) l.i × (l.layers.words.ghost_name ≡ l.initial.layers.words.ghost_name)

abbrev pub decreases-loop-i : goal.decreases-loop-i
decreases-loop-i l = l.net.service.contact_count - l.i
