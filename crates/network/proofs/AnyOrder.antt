-- One layer from the layer before, by the contacts tried in any order, and by those alone that may bring something earlier.
--     NoEarlier        no entry is earlier than that of the layer after
--     relax_no_earlier     one contact more keeps it so
--     tried_all        a row no later than the layer before, and than what each contact brings, is then the layer after
-- Assumes nothing.
use mathlib.Core.List.{List}
use mathlib.Core.Logic.{◌⊎◌, inl, inr}
use mathlib.Core.Path.{◌≡◌, sym, ◌∙◌}
use Prim.Native.Nat.{ℕ, ◌<◌}
use native.Mathlib.Nat.{le_refl}
use lib.ListN.{length, get_or}
use lib.Seq.{ext_get_or}
use Rattle.network.specs.Network.{When, never, NotLater, Network, IsContact}
use Rattle.network.specs.Model.{relax, relaxed}
use Rattle.network.proofs.Relaxed.{brings, Brought, relax_either, length_relaxed, relaxed_tried, relaxed_either}
use Rattle.network.proofs.Whens.{not_later_antisym}

-- no entry of the row is earlier than that of the layer after `before`
abbrev pub NoEarlier : Network → List When → List When → Type 0
NoEarlier N before now = (v : ℕ) → NotLater (get_or (relaxed N before N.contacts) v never) (get_or now v never)

module _ (N : Network) (before : List When) where
  pub relax_no_earlier : (c : ℕ) (now : List When) → IsContact N c → N.to c < length before → NoEarlier N before now → NoEarlier N before (relax N before c now)
  relax_no_earlier c now i h so_far v = go (relax_either N before c now v)
    where
      go : (get_or (relax N before c now) v never ≡ get_or now v never) ⊎ ((N.to c ≡ v) × (get_or (relax N before c now) v never ≡ brings N before c))
          → NotLater (get_or (relaxed N before N.contacts) v never) (get_or (relax N before c now) v never)
      go (inl e) = rw e (so_far v)
      go (inr p) = rw (p.1, ← p.0) (relaxed_tried N before c N.contacts i.least i.most h)

  module _ (now : List When) (long : length now ≡ length before) (lower : (v : ℕ) → NotLater (get_or now v never) (get_or before v never))
      (tried : (c : ℕ) → IsContact N c → NotLater (get_or now (N.to c) never) (brings N before c)) where
    no_later : (v : ℕ) → NotLater (get_or now v never) (get_or (relaxed N before N.contacts) v never)
    no_later v = go (relaxed_either N before N.contacts v (le_refl N.contacts))
      where
        go : (get_or (relaxed N before N.contacts) v never ≡ get_or before v never) ⊎ Brought N before v (get_or (relaxed N before N.contacts) v never)
            → NotLater (get_or now v never) (get_or (relaxed N before N.contacts) v never)
        go (inl e) = rw e (lower v)
        go (inr b) = rw (b.is, ← b.to) (tried b.contact b.is_contact)

    pub tried_all : NoEarlier N before now → now ≡ relaxed N before N.contacts
    tried_all early =
        ext_get_or never now (relaxed N before N.contacts) (long ∙ sym (length_relaxed N before N.contacts))
        (λ v _. not_later_antisym (no_later v) (early v))
