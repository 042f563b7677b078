-- What the other crates cite of the network. Of chains:
--     chosen_best         where node v is reached, the chain chosen is the best
--     never_unreached     where the delivery is never, no chain reaches node v
--     best_unique         there is one best chain at the most
--     best_short          the best chain has fewer contacts than there are nodes
-- Of what the model computes:
--     reached, optimal    an entry of layer k is the earliest time over at most k contacts
--     length_layer        a layer has an entry for each node
--     settled             where a layer is the one before, so are all that follow
--     fewest_is           the fewest contacts: as many give the delivery, and fewer do not
--     fewest_length       the chain chosen has as many contacts
--     fewest_below        they are fewer than there are nodes
--     chosen_contacts     the chain chosen is made of contacts
-- Assumes nothing.
use mathlib.Core.Path.{◌≡◌}
use mathlib.Core.List.{List, reverse}
use Prim.Native.Nat.{ℕ, ◌≤◌, ◌<◌}
use native.Mathlib.Omega.{arith}
use lib.ListN.{length, get_or, length-reverse}
use Rattle.network.specs.Network.{at, never, NotLater, Network, IsContact, Laws}
use Rattle.network.specs.Best.{Reaches, Best}
use Rattle.network.specs.Model.{earliest, delivery, fewest, chosen}
use Rattle.network.proofs.Chains.{reaches→arrives, arrives→reaches, runs_contacts}
use Rattle.network.proofs.Layers.{earliest_arrives, arrives_earliest}
use Rattle.network.proofs.Loops.{cut_loops, direct_short, arrives_delivery}
use Rattle.network.proofs.Fewest.{fewest_first}
use Rattle.network.proofs.Chosen.{chosen_is_best}
pub use Rattle.network.proofs.Layers.{length_layer, settled}
pub use Rattle.network.proofs.Fewest.{fewest_is}
pub use Rattle.network.proofs.Chosen.{fewest_length}
pub use Rattle.network.proofs.Unique.{best_unique}

pub reached : (N : Network) (k v t : ℕ) → earliest N k v ≡ at t → (chain : List ℕ) × (length chain ≤ k) × Reaches N chain v t
reached N k v t e = let (cs, a, h) = earliest_arrives N k v t e in (reverse cs, rw length-reverse h, arrives→reaches a)

module _ (N : Network) (L : Laws N) where
  pub chosen_best : (v r : ℕ) → v < N.nodes → (v ≡ N.source → ⊥) → delivery N v ≡ at r → Best N v (chosen N v r) r
  chosen_best v r _ _ e = chosen_is_best N L v r e

  pub never_unreached : (v : ℕ) → v < N.nodes → delivery N v ≡ never → (chain : List ℕ) (s : ℕ) → Reaches N chain v s → ⊥
  never_unreached v _ e chain s run = go (rw e at (arrives_delivery N L (reaches→arrives run)))
    where
      go : NotLater never (at s) → ⊥
      go h = elim h [ ]

  pub best_short : (v r : ℕ) (chain : List ℕ) → Best N v chain r → length chain < N.nodes
  best_short v r chain b =
      let d = cut_loops N L (reaches→arrives b.reaches) in
      let short = direct_short N L d in
      let reach = arrives→reaches d.arrives in
      let early = b.none_earlier (reverse d.chain) d.time reach in
      let same : d.time ≡ r = omega arith in
      let few = b.none_shorter (reverse d.chain) (rw same at reach) in
      omega (arith, length-reverse d.chain)

  pub optimal : (k v s : ℕ) (chain : List ℕ) → length chain ≤ k → Reaches N chain v s → NotLater (earliest N k v) (at s)
  optimal k v s chain h run = arrives_earliest N L k (reaches→arrives run) (rw length-reverse h)

  pub fewest_below : (v : ℕ) → fewest N v < N.nodes
  fewest_below v = let f = fewest_first N v in omega (arith, L.source_node)

  pub chosen_contacts : (v r : ℕ) → delivery N v ≡ at r → (i : ℕ) → i < length (chosen N v r) → IsContact N (get_or (chosen N v r) i 0)
  chosen_contacts v r e = runs_contacts (chosen_is_best N L v r e).reaches
