-- The layers: for each node the earliest time over at most k contacts.
--     length_layer            a layer has an entry for each node
--     settled                 where a layer is the one before, so are all that follow
--     earliest_arrives        an entry is the time at which some chain of at most k contacts arrives
--     arrives_earliest        no chain of at most k contacts arrives before the entry
-- Assumes nothing.
use mathlib.Core.Path.{◌≡◌, refl, sym, ap, ◌∙◌}
use mathlib.Core.List.{List, [], ◌∷◌}
use mathlib.Core.Logic.{◌⊎◌, inl, inr}
use Prim.Native.Nat.{ℕ, zero, suc, ◌≤◌, ◌<◌, zero-le, suc-le-suc}
use native.Mathlib.Nat.{le_of_suc-le-suc, not-suc-le-zero, le_step, eq-or-lt_of_le, le_refl}
use native.Mathlib.Omega.{arith}
use lib.ListN.{length, get_or, set, replicate, length-set, length-replicate}
use lib.Seq.{get_or-set_same}
use Rattle.network.specs.Network.{When, at, never, NotLater, both, last, Network, IsContact, Laws}
use Rattle.network.specs.Model.{behind, relaxed, layer, earliest}
use Rattle.network.proofs.Whens.{not_later_refl, not_later_trans}
use Rattle.network.proofs.Chains.{Arrives, starts, comes}
use Rattle.network.proofs.Relaxed.{get_d_set_either, Brought, length_relaxed, relaxed_not_later, relaxed_tried, relaxed_either}

get_d_never : (n v : ℕ) → get_or (replicate n never) v never ≡ never
get_d_never zero v = refl
get_d_never (suc n) zero = refl
get_d_never (suc n) (suc v) = get_d_never n v

-- what is behind a contact at a time was before it at a time
pub behind_at : (N : Network) (c : ℕ) (w : When) {r : ℕ} → behind N c w ≡ at r → (t : ℕ) × (w ≡ at t) × (N.step c t ≡ at r)
unfolding behind
behind_at N c (at t) e = (t, refl, e)
behind_at N c never {r} e = let z : ◌≡◌ {A = ℕ} 0 1 = cc in absurd (omega arith)

module _ (N : Network) where
  pub length_layer : (k : ℕ) → length (layer N k) ≡ N.nodes
  unfolding layer
  length_layer zero = length-set (replicate N.nodes never) _ _ ∙ length-replicate N.nodes never
  length_layer (suc k) = length_relaxed N (layer N k) N.contacts ∙ length_layer k

  pub settled : (k : ℕ) → layer N (suc k) ≡ layer N k → (j : ℕ) → k ≤ j → layer N j ≡ layer N k
  unfolding layer
  settled k e zero h = let z : zero ≡ k = omega arith in ap (layer N) z
  settled k e (suc j) h = go (eq-or-lt_of_le h) (λ q. settled k e j q)
    where
      go : (k ≡ suc j) ⊎ (k < suc j) → (k ≤ j → layer N j ≡ layer N k) → layer N (suc j) ≡ layer N k
      go (inl p) rec = ap (layer N) (sym p)
      go (inr q) rec = ap (λ (l : List When). relaxed N l N.contacts) (rec (le_of_suc-le-suc q)) ∙ e

  pub earliest_not_later : (k v : ℕ) → NotLater (earliest N (suc k) v) (earliest N k v)
  unfolding earliest
  earliest_not_later k v = relaxed_not_later N (layer N k) N.contacts v

  pub earliest_either : (k v : ℕ) → (earliest N (suc k) v ≡ earliest N k v) ⊎ Brought N (layer N k) v (earliest N (suc k) v)
  unfolding earliest
  earliest_either k v = relaxed_either N (layer N k) N.contacts v (le_refl _)

  -- over no contact the file is at the source from the beginning, and nowhere else
  pub earliest_none : (v : ℕ) {t : ℕ} → earliest N zero v ≡ at t → Arrives N [] v t
  unfolding earliest
  earliest_none v {t} e = go (get_d_set_either (replicate N.nodes never) N.source v (at N.begin) never)
    where
      w : When
      w = get_or (set (replicate N.nodes never) N.source (at N.begin)) v never

      go : (w ≡ get_or (replicate N.nodes never) v never) ⊎ ((N.source ≡ v) × (w ≡ at N.begin)) → Arrives N [] v t
      go (inl p) = let z : ◌≡◌ {A = ℕ} 0 1 = cc (e, p, get_d_never N.nodes v) in absurd (omega arith)
      go (inr p) = let b : N.begin ≡ t = cc in rw (← p.0, ← b) starts

  pub earliest_arrives : (k v t : ℕ) → earliest N k v ≡ at t → (cs : List ℕ) × Arrives N cs v t × (length cs ≤ k)
  unfolding earliest
  earliest_arrives zero v t e = ([], earliest_none v e, zero-le)
  earliest_arrives (suc k) v t e = go (earliest_either k v) (earliest_arrives k)
    where
      go : (earliest N (suc k) v ≡ earliest N k v) ⊎ Brought N (layer N k) v (earliest N (suc k) v)
          → ((u s : ℕ) → earliest N k u ≡ at s → (cs : List ℕ) × Arrives N cs u s × (length cs ≤ k))
          → (cs : List ℕ) × Arrives N cs v t × (length cs ≤ suc k)
      go (inl p) rec = let (cs, a, h) = rec v t (sym p ∙ e) in (cs, a, le_step h)
      go (inr b) rec =
          let (s, f, g) = behind_at N b.contact (get_or (layer N k) (N.from b.contact) never) (sym b.is ∙ e) in
          let (cs, a, h) = rec (N.from b.contact) s f in
          (b.contact ∷ cs, comes b.is_contact a g b.to, suc-le-suc h)

module _ (N : Network) (L : Laws N) where
  pub behind_sooner : (c : ℕ) → IsContact N c → {a b : When} → NotLater a b → NotLater (behind N c a) (behind N c b)
  unfolding behind
  behind_sooner c i (both h) = L.sooner c _ _ i h
  behind_sooner c i last = last

  -- nothing is ready behind a contact before it is ready before it
  pub behind_after : (c : ℕ) → IsContact N c → (w : When) → NotLater w (behind N c w)
  unfolding behind
  behind_after c i (at t) = L.after c t i
  behind_after c i never = last

  pub earliest_tried : (k c : ℕ) → IsContact N c → NotLater (earliest N (suc k) (N.to c)) (behind N c (earliest N k (N.from c)))
  unfolding earliest
  earliest_tried k c i = relaxed_tried N (layer N k) c N.contacts i.least i.most (rw length_layer (L.to_node c i))

  -- the file is at the source from the beginning
  earliest_source : (k : ℕ) → NotLater (earliest N k N.source) (at N.begin)
  unfolding earliest
  earliest_source zero =
      rw (get_or-set_same (replicate N.nodes never) N.source (at N.begin) never (rw length-replicate L.source_node))
      (not_later_refl _)
  earliest_source (suc k) = not_later_trans (earliest_not_later N k N.source) (earliest_source k)

  pub arrives_earliest : (k : ℕ) {cs : List ℕ} {v s : ℕ} → Arrives N cs v s → length cs ≤ k → NotLater (earliest N k v) (at s)
  unfolding behind
  arrives_earliest k starts h = earliest_source k
  arrives_earliest zero (comes i a step to) h = absurd (not-suc-le-zero h)
  arrives_earliest (suc k) (comes {c = c} i a step to) h =
      rw (← to, ← step) (not_later_trans (earliest_tried k c i) (behind_sooner c i (arrives_earliest k a (le_of_suc-le-suc h))))
