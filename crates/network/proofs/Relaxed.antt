-- One layer from the layer before: what the contacts tried one after the other leave at a node.
--     length_relaxed          trying contacts keeps the number of nodes
--     relax_not_later, relax_tried, relax_either      one contact tried: no entry grows later, that of its node is no later than what it brings,
--                             and an entry is the one before or what it brings
--     relaxed_not_later       no entry grows later
--     relaxed_tried           an entry is no later than what a contact tried brings
--     relaxed_either          an entry is the one before, or what some contact brings
--     relax_kept              a contact that brings nothing earlier leaves every entry
--     relaxed_again           where its first node is as it was in the layer before, a contact brings nothing earlier
-- Assumes nothing.
use mathlib.Core.Path.{◌≡◌, refl, ap, ◌∙◌, subst}
use mathlib.Core.List.{List, [], ◌∷◌}
use mathlib.Core.Logic.{◌⊎◌, inl, inr}
use Prim.Native.Nat.{ℕ, zero, suc, ◌≤◌, ◌<◌}
use native.Mathlib.Nat.{eq-or-lt_of_le, le_of_suc-le-suc, zero-lt-suc, le_of_lt}
use native.Mathlib.Omega.{arith}
use lib.ListN.{length, get_or, set, length-set}
use lib.Seq.{get_or-set_same, set-get_or}
use Rattle.network.specs.Network.{When, never, NotLater, Network, IsContact}
use Rattle.network.specs.Model.{earlier, behind, relax, relaxed}
use Rattle.network.proofs.Whens.{not_later_refl, not_later_trans, earlier_left, earlier_right, earlier_either, earlier_kept}

-- after `set` an entry is the one before, or is the one that was set
pub get_d_set_either : {A : Type 0} (l : List A) (i j : ℕ) (a d : A) → (get_or (set l i a) j d ≡ get_or l j d) ⊎ ((i ≡ j) × (get_or (set l i a) j d ≡ a))
get_d_set_either [] i j a d = inl refl
get_d_set_either (x ∷ xs) zero zero a d = inr (refl, refl)
get_d_set_either (x ∷ xs) zero (suc j) a d = inl refl
get_d_set_either (x ∷ xs) (suc i) zero a d = inl refl
get_d_set_either {A} (x ∷ xs) (suc i) (suc j) a d = go (get_d_set_either xs i j a d)
  where
    go : (get_or (set xs i a) j d ≡ get_or xs j d) ⊎ ((i ≡ j) × (get_or (set xs i a) j d ≡ a))
        → (get_or (set xs i a) j d ≡ get_or xs j d) ⊎ ((suc i ≡ suc j) × (get_or (set xs i a) j d ≡ a))
    go (inl e) = inl e
    go (inr p) = inr (ap suc p.0, p.1)

-- what contact c brings to the node that it reaches, from where `before` has its first node
abbrev pub brings : Network → List When → ℕ → When
brings N before c = behind N c (get_or before (N.from c) never)

-- the time w at node v is what some contact brings
pub record Brought (N : Network) (before : List When) (v : ℕ) (w : When) : Type 0 where
  pub contact : ℕ
  pub is_contact : IsContact N contact
  pub to : N.to contact ≡ v
  pub is : w ≡ brings N before contact

module _ (N : Network) (before : List When) where
  pub relax_not_later : (c : ℕ) (now : List When) (v : ℕ) → NotLater (get_or (relax N before c now) v never) (get_or now v never)
  unfolding relax
  relax_not_later c now v = go (get_d_set_either now (N.to c) v new never)
    where
      new : When
      new = earlier (get_or now (N.to c) never) (brings N before c)

      go : (get_or (set now (N.to c) new) v never ≡ get_or now v never) ⊎ ((N.to c ≡ v) × (get_or (set now (N.to c) new) v never ≡ new))
          → NotLater (get_or (set now (N.to c) new) v never) (get_or now v never)
      go (inl e) = rw e (not_later_refl _)
      go (inr p) = rw (p.1, ← p.0) (earlier_left _ _)

  pub relax_tried : (c : ℕ) (now : List When) → N.to c < length now → NotLater (get_or (relax N before c now) (N.to c) never) (brings N before c)
  unfolding relax
  relax_tried c now h = rw (get_or-set_same now (N.to c) _ never h) (earlier_right (get_or now (N.to c) never) (brings N before c))

  pub relax_either : (c : ℕ) (now : List When) (v : ℕ)
      → (get_or (relax N before c now) v never ≡ get_or now v never) ⊎ ((N.to c ≡ v) × (get_or (relax N before c now) v never ≡ brings N before c))
  unfolding relax
  relax_either c now v = go (get_d_set_either now (N.to c) v (earlier old new) never) (earlier_either old new)
    where
      old : When
      old = get_or now (N.to c) never

      new : When
      new = brings N before c

      entry : When
      entry = get_or (set now (N.to c) (earlier old new)) v never

      go : (entry ≡ get_or now v never) ⊎ ((N.to c ≡ v) × (entry ≡ earlier old new)) → (earlier old new ≡ old) ⊎ (earlier old new ≡ new)
          → (entry ≡ get_or now v never) ⊎ ((N.to c ≡ v) × (entry ≡ new))
      go (inl e) _ = inl e
      go (inr p) (inl e) = inl (p.1 ∙ e ∙ ap (λ (u : ℕ). get_or now u never) p.0)
      go (inr p) (inr e) = inr (p.0, p.1 ∙ e)

  pub length_relaxed : (n : ℕ) → length (relaxed N before n) ≡ length before
  unfolding relaxed
  length_relaxed zero = refl
  length_relaxed (suc n) = length-set (relaxed N before n) _ _ ∙ length_relaxed n

  pub relaxed_not_later : (n v : ℕ) → NotLater (get_or (relaxed N before n) v never) (get_or before v never)
  unfolding relaxed
  relaxed_not_later zero v = not_later_refl _
  relaxed_not_later (suc n) v = not_later_trans (relax_not_later (suc n) (relaxed N before n) v) (relaxed_not_later n v)

  pub relaxed_tried : (c n : ℕ) → 1 ≤ c → c ≤ n → N.to c < length before → NotLater (get_or (relaxed N before n) (N.to c) never) (brings N before c)
  unfolding relaxed
  relaxed_tried c zero one most h = absurd (omega arith)
  relaxed_tried c (suc n) one most h = go (eq-or-lt_of_le most) (λ q. relaxed_tried c n one q h)
    where
      go : (c ≡ suc n) ⊎ (c < suc n) → (c ≤ n → NotLater (get_or (relaxed N before n) (N.to c) never) (brings N before c))
          → NotLater (get_or (relax N before (suc n) (relaxed N before n)) (N.to c) never) (brings N before c)
      go (inl e) rec = rw (← e) (relax_tried c (relaxed N before n) (rw length_relaxed h))
      go (inr q) rec = not_later_trans (relax_not_later (suc n) (relaxed N before n) (N.to c)) (rec (le_of_suc-le-suc q))

  pub relaxed_either : (n v : ℕ) → n ≤ N.contacts
      → (get_or (relaxed N before n) v never ≡ get_or before v never) ⊎ Brought N before v (get_or (relaxed N before n) v never)
  unfolding relaxed
  relaxed_either zero v h = inl refl
  relaxed_either (suc n) v h = go (relax_either (suc n) (relaxed N before n) v) (relaxed_either n v (le_of_lt h))
    where
      entry : When
      entry = get_or (relax N before (suc n) (relaxed N before n)) v never

      go : (entry ≡ get_or (relaxed N before n) v never) ⊎ ((N.to (suc n) ≡ v) × (entry ≡ brings N before (suc n)))
          → (get_or (relaxed N before n) v never ≡ get_or before v never) ⊎ Brought N before v (get_or (relaxed N before n) v never)
          → (entry ≡ get_or before v never) ⊎ Brought N before v entry
      go (inl e) (inl f) = inl (e ∙ f)
      go (inl e) (inr b) = inr (rw e b)
      go (inr p) _ = inr (record { contact = suc n; is_contact = record { least = zero-lt-suc n; most = h }; to = p.0; is = p.1 })

  pub relax_kept : (c : ℕ) (now : List When) → NotLater (get_or now (N.to c) never) (brings N before c) → relax N before c now ≡ now
  unfolding relax
  relax_kept c now h = ap (set now (N.to c)) (earlier_kept h) ∙ set-get_or now (N.to c) never

  -- it was tried from there before
  pub relaxed_again : (c : ℕ) → IsContact N c → N.to c < length before
      → get_or before (N.from c) never ≡ get_or (relaxed N before N.contacts) (N.from c) never
      → NotLater (get_or (relaxed N before N.contacts) (N.to c) never) (brings N (relaxed N before N.contacts) c)
  relaxed_again c i h same =
      subst (λ (w : When). NotLater (get_or (relaxed N before N.contacts) (N.to c) never) (behind N c w)) same
      (relaxed_tried c N.contacts i.least i.most h)
