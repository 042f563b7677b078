-- `search_layers::trying::try_all` meets its contract. The loop's invariant: the contacts from the nodes before `v` are tried, and if the words of none of them differed
-- the rows are as they were; the words are still the lent ones.
-- Assumes nothing.
use mathlib.Core.Bool.{true}
use mathlib.Core.Path.{◌≡◌}
use Prim.Native.Nat.{◌<◌}
use Rattle.search_layers.specs.Held.{network_in}
use Rattle.search_layers.specs.Layered.{Tried}
use Rattle.search_layers.proofs.trying.try_all.Given as goal

abbrev pub invariant-loop-v : goal.invariant-loop-v
invariant-loop-v l = Tried (network_in l.net) l.initial.layers l.layers l.k (λ c. (network_in l.net).from c < l.v)
    × (l.same ≡ true → l.layers.words.now ≡ l.initial.layers.words.now) × (l.layers.words.ghost_name ≡ l.initial.layers.words.ghost_name)
