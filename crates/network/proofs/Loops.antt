-- Loops can be cut out of a chain: it arrives no later without them, and needs fewer contacts than there are nodes.
--     cut_loops           a chain that visits no node twice arrives no later
--     direct_short        such a chain has fewer contacts than there are nodes
--     arrives_delivery    so no chain, of any length, arrives before the delivery
-- Assumes nothing.
use mathlib.Core.Path.{◌≡◌}
use mathlib.Core.List.Memᴰ
use mathlib.Core.List.{List, [], ◌∷◌, map, Memᴰ}
use mathlib.Core.Logic.{◌⊎◌, inl, inr, ⊎_elim, ◌≢◌}
use Prim.Native.Nat.{ℕ, ◌-◌, ◌≤◌, ◌<◌}
use native.Mathlib.Nat.{le_refl, le_trans}
use native.Mathlib.Omega.{arith}
use lib.ListN.{length, length-map}
use Rattle.network.specs.Network.{at, NotLater, both, Network, IsContact, Laws}
use Rattle.network.specs.Model.{delivery}
use Rattle.network.proofs.Whens.{not_later_trans, not_later_times, not_later_at}
use Rattle.network.proofs.Chains.{Arrives, starts, comes}
use Rattle.network.proofs.Layers.{arrives_earliest}
use Rattle.network.proofs.Distinct.{Each, none, more, Distinct, empty, apart, seen, distinct_length}

-- the nodes where a chain to v, its last contact first, has the file, from v back to the source
abbrev visited : Network → List ℕ → ℕ → List ℕ
visited N cs v = v ∷ map N.from cs

-- a chain to node v that visits no node twice and arrives at time r at the latest
pub record Direct (N : Network) (v r : ℕ) : Type 0 where
  pub chain : List ℕ
  pub time : ℕ
  pub arrives : Arrives N chain v time
  pub no_later : time ≤ r
  pub distinct : Distinct (visited N chain v)

no_later_than : {N : Network} {v s r : ℕ} → s ≤ r → Direct N v s → Direct N v r
no_later_than h d = record { chain = d.chain; time = d.time; arrives = d.arrives; no_later = le_trans d.no_later h; distinct = d.distinct }

-- a number that stands in a list is its first, or stands in the rest
first_or_later : {v u : ℕ} {xs : List ℕ} → Memᴰ v (u ∷ xs) → (v ≡ u) ⊎ Memᴰ v xs
first_or_later (Memᴰ.head e) = inl e
first_or_later (Memᴰ.tail m) = inr m

module _ (N : Network) (L : Laws N) where
  -- no file is ready behind a contact before it is ready before it
  step_after : {c t r : ℕ} → IsContact N c → N.step c t ≡ at r → t ≤ r
  step_after {c} {t} i e = not_later_times (rw e at (L.after c t i))

  whole : {cs : List ℕ} {u s v : ℕ} → Arrives N cs u s → Distinct (visited N cs u) → v ≡ u → Direct N v s
  whole {cs} {u} {s} a d e = record { chain = cs; time = s; arrives = rw e a; no_later = le_refl s; distinct = rw e d }

  -- a node that the chain visits is reached by its part up to there
  part_to : {cs : List ℕ} {u s v : ℕ} → Arrives N cs u s → Distinct (visited N cs u) → Memᴰ v (visited N cs u) → Direct N v s
  part_to starts d m = ⊎_elim (whole starts d) (λ k. absurd (Memᴰ.not-nil k)) (first_or_later m)
  part_to (comes i a step to) (apart n d) m =
      ⊎_elim (whole (comes i a step to) (apart n d)) (λ k. no_later_than (step_after i step) (part_to a d k)) (first_or_later m)

  pub cut_loops : {cs : List ℕ} {v r : ℕ} → Arrives N cs v r → Direct N v r
  cut_loops starts = record { chain = []; time = N.begin; arrives = starts; no_later = le_refl _; distinct = apart none empty }
  cut_loops {r = r} (comes {c = c} {t = t} {v = v} i a step to) = go (cut_loops a)
    where
      one_more : (d : Direct N (N.from c) t) → Each (λ y. v ≢ y) (visited N d.chain (N.from c)) → Direct N v r
      one_more d new =
          let (s, e, h) = not_later_at (rw step at (L.sooner c d.time t i d.no_later)) in
          record { chain = c ∷ d.chain; time = s; arrives = comes i d.arrives e to; no_later = h; distinct = apart new d.distinct }

      go : Direct N (N.from c) t → Direct N v r
      go d =
          ⊎_elim (λ m. no_later_than (le_trans d.no_later (step_after i step)) (part_to d.arrives d.distinct m)) (one_more d)
          (seen v (visited N d.chain (N.from c)))

  visited_nodes : {cs : List ℕ} {v r : ℕ} → Arrives N cs v r → Each (λ u. u < N.nodes) (visited N cs v)
  visited_nodes starts = more L.source_node none
  visited_nodes (comes {c = c} i a step to) = more (rw to at (L.to_node c i)) (visited_nodes a)

  pub direct_short : {v r : ℕ} (d : Direct N v r) → length d.chain < N.nodes
  direct_short d = rw length-map at (distinct_length N.nodes d.distinct (visited_nodes d.arrives))

  pub arrives_delivery : {cs : List ℕ} {v s : ℕ} → Arrives N cs v s → NotLater (delivery N v) (at s)
  unfolding delivery
  arrives_delivery a =
      let d = cut_loops a in
      let short = direct_short d in
      let few : length d.chain ≤ N.nodes - 1 = omega arith in
      not_later_trans (arrives_earliest N L (N.nodes - 1) d.arrives few) (both d.no_later)
