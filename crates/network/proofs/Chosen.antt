-- The chain that is chosen, worked back from the last contact, is the best.
--     fewest_due          the walk back begins where node v is due: reached below the limit over k contacts, and not over fewer
--     due_leads           there the lowest contact that leads is a contact
--     due_next            and the node that it leaves is due too, over one contact fewer, below the limit worked back
--     worked_arrives      the chain worked back arrives below the limit
--     worked_lowest       any other chain of as many contacts that arrives below the limit is not lower
--     fewest_length       the chain chosen has as many contacts as are the fewest
--     chosen_is_best      the chain chosen for the delivery is the best
-- Assumes nothing.
use mathlib.Core.Path.{◌≡◌, refl, sym, ap, ◌∙◌}
use mathlib.Core.List.{List, [], ◌∷◌, reverse, reverse_aux, reverse-reverse}
use mathlib.Core.Logic.{◌⊎◌, inl, inr}
use Prim.Native.Nat.{ℕ, zero, suc, ◌≤◌, ◌<◌, zero-le, suc-le-suc}
use native.Mathlib.Nat.{le_refl, le_of_eq, eq-or-lt_of_le, suc_inj, lt_of_not-le, suc-ne-zero}
use native.Mathlib.Decide.{dec_le}
use native.Mathlib.Omega.{arith}
use lib.ListN.{length, length-reverse}
use Rattle.network.specs.Network.{When, at, never, Within, within, Network, IsContact, Laws}
use Rattle.network.specs.Best.{LowerFirst, here, there, LowerBack, Reaches, Best}
use Rattle.network.specs.Model.{behind, layer, earliest, delivery, fewest, lowest, worked_back, chosen}
use Rattle.network.proofs.Whens.{not_later_times, not_later_within, within_at}
use Rattle.network.proofs.Chains.{Arrives, starts, comes, reaches→arrives, arrives→reaches}
use Rattle.network.proofs.Relaxed.{Brought}
use Rattle.network.proofs.Layers.{earliest_none, earliest_either, earliest_arrives, earliest_tried, arrives_earliest, behind_sooner}
use Rattle.network.proofs.Loops.{arrives_delivery}
use Rattle.network.proofs.Fewest.{fewest_first}
use Rattle.network.proofs.Lowest.{Leads, lowest_least, lowest_leads}

-- the contacts worked back, the last first
worked : Network → ℕ → ℕ → ℕ → List ℕ
worked N zero v limit = []
worked N (suc k) v limit = let c = lowest N (layer N k) v limit in c ∷ worked N k (N.from c) (N.back c limit)

worked_back_lem : (N : Network) (k v limit : ℕ) (rest : List ℕ) → worked_back N k v limit rest ≡ reverse_aux (worked N k v limit) rest
unfolding worked_back worked
worked_back_lem N zero v limit rest = refl
worked_back_lem N (suc k) v limit rest = worked_back_lem N k _ _ _

length_worked : (N : Network) (k v limit : ℕ) → length (worked N k v limit) ≡ k
unfolding worked
length_worked N zero v limit = refl
length_worked N (suc k) v limit = ap suc (length_worked N k _ _)

-- node v is reached below the limit over k contacts, and not over fewer
pub record Due (N : Network) (k v limit : ℕ) : Type 0 where
  pub in_time : Within (earliest N k v) limit
  pub not_before : (j : ℕ) → j < k → Within (earliest N j v) limit → ⊥

module _ (N : Network) (L : Laws N) where
  -- a time before a contact is below the limit worked back through it exactly where the time behind it is below the limit
  before_needed : (c : ℕ) → IsContact N c → (w : When) (limit : ℕ) → Within (behind N c w) limit → Within w (N.back c limit)
  unfolding behind
  before_needed c i (at t) limit h = within (L.back_needed c t limit i h)
  before_needed c i never limit h = elim h [ ]

  before_enough : (c : ℕ) → IsContact N c → {w : When} (limit : ℕ) → Within w (N.back c limit) → Within (behind N c w) limit
  unfolding behind
  before_enough c i limit (within {t = t} h) = L.back_enough c t limit i h

  pub due_leads : {k v limit : ℕ} → Due N (suc k) v limit → Leads N (layer N k) v limit (lowest N (layer N k) v limit)
  unfolding earliest
  due_leads {k} {v} {limit} d = go (earliest_either N k v)
    where
      go : (earliest N (suc k) v ≡ earliest N k v) ⊎ Brought N (layer N k) v (earliest N (suc k) v)
          → Leads N (layer N k) v limit (lowest N (layer N k) v limit)
      go (inl e) = absurd (d.not_before k (le_refl _) (rw e at d.in_time))
      go (inr b) = lowest_leads N (layer N k) v limit (record { is_contact = b.is_contact; to = b.to; in_time = rw b.is at d.in_time })

  pub due_next : {k v limit : ℕ} → Due N (suc k) v limit → let c = lowest N (layer N k) v limit in Due N k (N.from c) (N.back c limit)
  unfolding earliest
  due_next {k} {v} {limit} d =
      let l = due_leads d in
      let c = lowest N (layer N k) v limit in
      record {
        in_time = before_needed c l.is_contact (earliest N k (N.from c)) limit l.in_time;
        not_before = λ j h w. d.not_before (suc j) (suc-le-suc h)
            (rw l.to at (not_later_within (earliest_tried N L j c l.is_contact) (before_enough c l.is_contact limit w)));
      }

  worked_arrives : (k v limit : ℕ) → Due N k v limit → (t : ℕ) × Arrives N (worked N k v limit) v t × (t < limit)
  unfolding worked
  worked_arrives zero v limit d = let (t, e, h) = within_at d.in_time in (t, earliest_none N v e, h)
  worked_arrives (suc k) v limit d = go (worked_arrives k (N.from c) (N.back c limit) (due_next d))
    where
      c : ℕ
      c = lowest N (layer N k) v limit

      go : (t : ℕ) × Arrives N (worked N k (N.from c) (N.back c limit)) (N.from c) t × (t < N.back c limit)
          → (r : ℕ) × Arrives N (c ∷ worked N k (N.from c) (N.back c limit)) v r × (r < limit)
      go (t, a, h) =
          let l = due_leads d in
          let (r, e, b) = within_at (L.back_enough c t limit l.is_contact h) in
          (r, comes l.is_contact a e l.to, b)

  -- a chain that arrives below the limit: its last contact leads there
  last_leads : {k c v limit s t : ℕ} {cs : List ℕ} → IsContact N c → Arrives N cs (N.from c) t → N.step c t ≡ at s → N.to c ≡ v
      → length cs ≡ k → s < limit → Leads N (layer N k) v limit c
  unfolding earliest
  last_leads {k} {c} i a step to e h =
      record {
        is_contact = i;
        to = to;
        in_time = not_later_within (behind_sooner N L c i (arrives_earliest N L k a (omega arith))) (rw step (within h));
      }

  worked_lowest : (k v limit : ℕ) {s : ℕ} {other : List ℕ} → Arrives N other v s → s < limit → length other ≡ k
      → (worked N k v limit ≡ other) ⊎ LowerFirst (worked N k v limit) other
  unfolding worked
  worked_lowest zero v limit starts h e = inl refl
  worked_lowest zero v limit (comes i a step to) h e = absurd (suc-ne-zero _ e)
  worked_lowest (suc k) v limit starts h e = absurd (suc-ne-zero _ (sym e))
  worked_lowest (suc k) v limit (comes {c = d} {t = t} {cs = cs} i a step to) h e =
      go (eq-or-lt_of_le (lowest_least N (layer N k) v limit (last_leads i a step to (suc_inj e) h)))
      (worked_lowest k (N.from d) (N.back d limit) a (L.back_needed d t limit i (rw step (within h))) (suc_inj e))
    where
      c : ℕ
      c = lowest N (layer N k) v limit

      go : (c ≡ d) ⊎ (c < d)
          → (worked N k (N.from d) (N.back d limit) ≡ cs) ⊎ LowerFirst (worked N k (N.from d) (N.back d limit)) cs
          → (c ∷ worked N k (N.from c) (N.back c limit) ≡ d ∷ cs) ⊎ LowerFirst (c ∷ worked N k (N.from c) (N.back c limit)) (d ∷ cs)
      go (inl p) (inl q) = inl (rw p (ap (λ (ds : List ℕ). d ∷ ds) q))
      go (inl p) (inr q) = inr (rw p (there q))
      go (inr p) _ = inr (here p)

chosen_worked : (N : Network) (v r : ℕ) → chosen N v r ≡ reverse (worked N (fewest N v) v (suc r))
unfolding chosen
chosen_worked N v r = worked_back_lem N (fewest N v) v (suc r) []

pub fewest_length : (N : Network) (v r : ℕ) → length (chosen N v r) ≡ fewest N v
fewest_length N v r = rw (chosen_worked, length-reverse, length_worked)

module _ (N : Network) (L : Laws N) (v r : ℕ) (delivered : delivery N v ≡ at r) where
  none_before : {cs : List ℕ} {s : ℕ} → Arrives N cs v s → r ≤ s
  none_before a = not_later_times (rw delivered at (arrives_delivery N L a))

  pub fewest_due : Due N (fewest N v) v (suc r)
  fewest_due = record { in_time = rw ((fewest_first N v).is, delivered) (within (le_refl _)); not_before = fewer }
    where
      fewer : (j : ℕ) → j < fewest N v → Within (earliest N j v) (suc r) → ⊥
      fewer j h w =
          let (s, e, b) = within_at w in
          let (cs, a, few) = earliest_arrives N j v s e in
          let late = none_before a in
          let p : s ≡ r = omega arith in
          (fewest_first N v).none_before j zero-le h (e ∙ ap at p ∙ sym delivered)

  chosen_reaches : Reaches N (chosen N v r) v r
  chosen_reaches =
      let (t, a, h) = worked_arrives N L (fewest N v) v (suc r) fewest_due in
      let late = none_before a in
      let p : t ≡ r = omega arith in
      rw chosen_worked (rw p at (arrives→reaches a))

  chosen_shortest : (other : List ℕ) → Reaches N other v r → length (chosen N v r) ≤ length other
  chosen_shortest other run = rw fewest_length (elim (dec_le (fewest N v) (length other)) [ yes h ↦ h | no h ↦ absurd (fewer (lt_of_not-le h)) ])
    where
      fewer : length other < fewest N v → ⊥
      fewer h =
          fewest_due.not_before (length other) h
          (not_later_within (arrives_earliest N L (length other) (reaches→arrives run) (le_of_eq (length-reverse other))) (within (le_refl _)))

  chosen_lowest : (other : List ℕ) → Reaches N other v r → length other ≡ length (chosen N v r) → (chosen N v r ≡ other) ⊎ LowerBack (chosen N v r) other
  chosen_lowest other run e =
      go (worked_lowest N L (fewest N v) v (suc r) (reaches→arrives run) (le_refl _) (length-reverse other ∙ e ∙ fewest_length N v r))
    where
      ws : List ℕ
      ws = worked N (fewest N v) v (suc r)

      go : (ws ≡ reverse other) ⊎ LowerFirst ws (reverse other) → (chosen N v r ≡ other) ⊎ LowerBack (chosen N v r) other
      go (inl q) = inl (chosen_worked N v r ∙ ap reverse q ∙ reverse-reverse other)
      go (inr q) = inr (rw (chosen_worked N v r, reverse-reverse ws) q)

  pub chosen_is_best : Best N v (chosen N v r) r
  chosen_is_best =
      record {
        reaches = chosen_reaches;
        none_earlier = λ other s run. none_before (reaches→arrives run);
        none_shorter = chosen_shortest;
        lowest = chosen_lowest;
      }
