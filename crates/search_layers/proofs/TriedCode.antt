-- What the code knows that tries the contacts of a layer, by the node that they are from.
--     from_below                            the node that a contact is from is one of the network's
--     tried_none, tried_then, tried_one     none tried, some and then others, and one
--     tried_unreached, tried_skipped        those of a node where the file never is, and of one that did not change, need not be tried
--     still_lower                           no entry of row k + 1 is later than that of row k, and so it stays
--     tried_more, tried_nodes               those of one node more; those of all nodes tried leave the layer after row k
-- Assumes nothing.
use mathlib.Core.List.{List, map}
use mathlib.Core.Logic.{◌⊎◌, inl, inr, ⊎_elim}
use mathlib.Core.Path.{◌≡◌, refl, sym, ap, ◌∙◌, subst}
use Prim.Native.Nat.{ℕ, suc, ◌+◌, ◌-◌, ◌≤◌, ◌<◌}
use native.Mathlib.Decide.{ℕ_discrete}
use native.Mathlib.Numerals.{add-one}
use native.Mathlib.Omega.{arith}
use lib.ListN.{length, get_or}
use Rattle.units.specs.Limits.{most_nodes}
use Rattle.network.specs.Model.{behind, relax, relaxed}
use Rattle.network.specs.Network.{When, never, NotLater, last, Network, IsContact}
use Rattle.network.proofs.AnyOrder.{relax_no_earlier, tried_all}
use Rattle.network.proofs.Relaxed.{relax_not_later, relax_tried, relaxed_not_later}
use Rattle.network.proofs.Whens.{not_later_refl, not_later_trans}
use Rattle.search_layers.specs.declared.contact_network.ContactNetwork.{ContactNetwork}
use Rattle.search_layers.specs.declared.rows.Layers.{Layers}
use Rattle.search_layers.specs.Held.{network_in}
use Rattle.search_layers.specs.Layered.{Layered, Tried, Older}
use Rattle.search_layers.specs.Words.{never_word, when_word, row_of, layer_of}
use Rattle.search_layers.proofs.FillCode.{inside, nodes_counted, held_laws}
use Rattle.search_layers.proofs.RowLaws.{when_never, length_layer_row, get_d_layer}

from_below : (n : ContactNetwork) (c : ℕ) → IsContact (network_in n) c → (network_in n).from c < most_nodes
from_below n c i = rw nodes_counted at ((held_laws n.service n.ask).from_node c i)

module _ (N : Network) (k : ℕ) where
  -- nothing is stored
  left : (layers : Layers) {D : ℕ → Type 0}
      → ((c : ℕ) → IsContact N c → D c → NotLater (get_or (layer_of layers.words.now (suc k)) (N.to c) never) (behind N c (get_or (layer_of layers.words.now k) (N.from c) never)))
      → Tried N layers layers k D
  left layers late = record {
    kept = λ j h. refl;
    lower = λ v. not_later_refl _;
    enough = λ h. h;
    done = late;
  }

  pub tried_none : (layers : Layers) {D : ℕ → Type 0} → ((c : ℕ) → IsContact N c → D c → ⊥) → Tried N layers layers k D
  tried_none layers none = left layers (λ c i d. absurd (none c i d))

  -- row k stays
  this_kept : (entry exit : Layers) {D : ℕ → Type 0} → Tried N entry exit k D → layer_of exit.words.now k ≡ layer_of entry.words.now k
  unfolding layer_of
  this_kept entry exit t = ap (map when_word) (t.kept k (λ e. absurd (omega arith)))

  pub tried_then : (entry layers exit : Layers) {D E F : ℕ → Type 0} → Tried N entry layers k D → Tried N layers exit k E
      → ((c : ℕ) → IsContact N c → F c → D c ⊎ E c) → Tried N entry exit k F
  tried_then entry layers exit t u both =
      let same = this_kept entry layers t in
      record {
        kept = λ j h. u.kept j h ∙ t.kept j h;
        lower = λ v. not_later_trans (u.lower v) (t.lower v);
        enough = λ h.
            subst
            (λ (l : List When). ((v : ℕ) → NotLater (get_or (relaxed N l N.contacts) v never) (get_or (layer_of layers.words.now (suc k)) v never))
            → (v : ℕ) → NotLater (get_or (relaxed N l N.contacts) v never) (get_or (layer_of exit.words.now (suc k)) v never))
            same
            u.enough
            (t.enough h);
        done = λ c i f.
            ⊎_elim
            (λ d. not_later_trans (u.lower (N.to c)) (t.done c i d))
            (λ e. subst (λ (l : List When). NotLater (get_or (layer_of exit.words.now (suc k)) (N.to c) never) (behind N c (get_or l (N.from c) never))) same (u.done c i e))
            (both c i f);
      }

  pub tried_one : (entry exit : Layers) (c : ℕ) → IsContact N c → N.to c < most_nodes → k + 1 < most_nodes
      → Layered entry exit k (relax N (layer_of entry.words.now k) c (layer_of entry.words.now (k + 1))) → Tried N entry exit k (λ d. d ≡ c)
  tried_one entry exit c i node room l =
      let is : layer_of exit.words.now (suc k) ≡ relax N (layer_of entry.words.now k) c (layer_of entry.words.now (suc k)) =
      l.is ∙ ap (λ (j : ℕ). relax N (layer_of entry.words.now k) c (layer_of entry.words.now j)) (add-one k) in
      let here : N.to c < length (layer_of entry.words.now k) = rw (length_layer_row entry.words.now k (inside entry k (omega arith))) node in
      let there : N.to c < length (layer_of entry.words.now (suc k)) = rw (length_layer_row entry.words.now (suc k) (inside entry (suc k) (omega arith))) node in
      record {
        kept = l.kept;
        lower = λ v. rw is (relax_not_later N (layer_of entry.words.now k) c (layer_of entry.words.now (suc k)) v);
        enough = λ h v. rw is (relax_no_earlier N (layer_of entry.words.now k) c (layer_of entry.words.now (suc k)) i here h v);
        done = λ d _ e. rw (e, is) (relax_tried N (layer_of entry.words.now k) c (layer_of entry.words.now (suc k)) there);
      }

  pub still_lower : (entry layers : Layers) {D : ℕ → Type 0} → layer_of entry.words.now (k + 1) ≡ layer_of entry.words.now k → Tried N entry layers k D
      → (v : ℕ) → NotLater (get_or (layer_of layers.words.now (k + 1)) v never) (get_or (layer_of layers.words.now k) v never)
  still_lower entry layers e t v =
      let same : layer_of entry.words.now (suc k) ≡ layer_of layers.words.now k = ap (layer_of entry.words.now) (sym (add-one k)) ∙ e ∙ sym (this_kept entry layers t) in
      rw (add-one k) (subst (λ (l : List When). NotLater (get_or (layer_of layers.words.now (suc k)) v never) (get_or l v never)) same (t.lower v))

  tried_layer : (entry exit : Layers) {D : ℕ → Type 0} → k + 1 < most_nodes
      → layer_of entry.words.now (k + 1) ≡ layer_of entry.words.now k → ((c : ℕ) → IsContact N c → D c) → Tried N entry exit k D
      → Layered entry exit k (relaxed N (layer_of entry.words.now k) N.contacts)
  tried_layer entry exit room e all t =
      let same : layer_of entry.words.now (suc k) ≡ layer_of entry.words.now k = ap (layer_of entry.words.now) (sym (add-one k)) ∙ e in
      let long : length (layer_of exit.words.now (suc k)) ≡ length (layer_of entry.words.now k) =
      length_layer_row exit.words.now (suc k) (inside exit (suc k) (omega arith)) ∙ sym (length_layer_row entry.words.now k (inside entry k (omega arith))) in
      record {
        kept = t.kept;
        is =
            tried_all N (layer_of entry.words.now k) (layer_of exit.words.now (suc k)) long
            (λ v. subst (λ (l : List When). NotLater (get_or (layer_of exit.words.now (suc k)) v never) (get_or l v never)) same (t.lower v))
            (λ c i. t.done c i (all c i))
            (t.enough (λ v. rw same (relaxed_not_later N (layer_of entry.words.now k) N.contacts v)));
      }

  -- the file is never at node v, and so nothing comes over the contacts from there
  pub tried_unreached : (layers : Layers) (v : ℕ) → k + 1 < most_nodes → v < most_nodes → get_or (row_of layers.words.now k) v 0 ≡ never_word
      → Tried N layers layers k (λ c. N.from c ≡ v)
  unfolding behind
  tried_unreached layers v room node e =
      left layers
      (λ c i from.
      let none : get_or (layer_of layers.words.now k) (N.from c) never ≡ never =
      ap (λ (u : ℕ). get_or (layer_of layers.words.now k) u never) from ∙ get_d_layer layers.words.now k v (inside layers k (omega arith)) node ∙ when_never _ e in
      rw none last)

  -- row `old` has node v as row k has it: its contacts were tried from there before
  pub tried_skipped : (layers : Layers) (old v : ℕ) → k + 1 < most_nodes → v < most_nodes → Older N layers old k
      → ((u : ℕ) → NotLater (get_or (layer_of layers.words.now (k + 1)) u never) (get_or (layer_of layers.words.now k) u never)) → (before ready : ℕ)
      → before ≡ get_or (row_of layers.words.now old) v 0 → ready ≡ get_or (row_of layers.words.now k) v 0 → before ≡ ready → Tried N layers layers k (λ c. N.from c ≡ v)
  tried_skipped layers old v room node older lower before ready eb er same =
      let entries : get_or (layer_of layers.words.now old) v never ≡ get_or (layer_of layers.words.now k) v never =
      get_d_layer layers.words.now old v (inside layers old older.inside) node ∙ ap when_word (sym eb ∙ same ∙ er)
      ∙ sym (get_d_layer layers.words.now k v (inside layers k (omega arith)) node) in
      left layers
      (λ c i e.
      let at_from : get_or (layer_of layers.words.now old) (N.from c) never ≡ get_or (layer_of layers.words.now k) (N.from c) never = rw e entries in
      let late = not_later_trans (lower (N.to c)) (older.tried c i at_from) in
      subst (λ (j : ℕ). NotLater (get_or (layer_of layers.words.now j) (N.to c) never) (behind N c (get_or (layer_of layers.words.now k) (N.from c) never))) (add-one k) late)

  -- the contacts from one node more, whose number is one more than its place
  pub tried_more : (entry layers exit : Layers) (v : ℕ) → Tried N entry layers k (λ c. N.from c < v) → Tried N layers exit k (λ c. N.from c ≡ v + 1 - 1)
      → Tried N entry exit k (λ c. N.from c < v + 1)
  tried_more entry layers exit v t u =
      tried_then entry layers exit t u (λ c here f. elim (ℕ_discrete (N.from c) v) [ yes e ↦ inr (omega arith) | no e ↦ inl (omega arith) ])

-- those of all nodes
pub tried_nodes : (n : ContactNetwork) (k : ℕ) (entry exit : Layers) (v : ℕ) → k + 1 < most_nodes → layer_of entry.words.now (k + 1) ≡ layer_of entry.words.now k
    → most_nodes ≤ v → Tried (network_in n) entry exit k (λ c. (network_in n).from c < v)
    → Layered entry exit k (relaxed (network_in n) (layer_of entry.words.now k) (network_in n).contacts)
tried_nodes n k entry exit v room same all t =
    tried_layer (network_in n) k entry exit room same (λ c i. omega (arith, from_below n c i)) t
