-- What the code that fills the layers knows of them.
--     tried_earlier, tried_later, tried_unready      one contact tried, where it reaches its node earlier, and where not
--     tried_late                      one that need not be tried: it brings nothing earlier
-- Assumes nothing.
use mathlib.Core.List.{List}
use mathlib.Core.Path.{◌≡◌, refl, sym, ap, ap₂, ◌∙◌, subst}
use Prim.Native.Nat.{ℕ, suc, ◌+◌, ◌-◌, ◌*◌, ◌≤◌, ◌<◌}
use native.Mathlib.Numerals.{add-one}
use native.Mathlib.Omega.{arith}
use lib.ListN.{get_or, set}
use Rattle.std.specs.Prelude.{Option, Some, None}
use Rattle.units.specs.declared.Ask.{Ask}
use Rattle.units.specs.declared.Millis.{Millis}
use Rattle.units.specs.Limits.{last_time, most_light, most_nodes}
use Rattle.plan.specs.declared.rows.Contact.{Contact}
use Rattle.service.specs.Service.{Service}
use Rattle.network.specs.Model.{behind, earlier, relax}
use Rattle.network.specs.Network.{at, never, NotLater, last, Network}
use Rattle.network.proofs.Relaxed.{relax_kept}
use Rattle.search_layers.specs.Bridge.{when_of, network_of}
use Rattle.search_layers.specs.declared.rows.Layers.{Layers}
use Rattle.search_layers.specs.Layered.{Layered}
use Rattle.search_layers.specs.Words.{never_word, when_word, row_of, layer_of}
use Rattle.search_layers.proofs.FillCode.{inside}
use Rattle.search_layers.proofs.NetworkLaws.{node_below}
use Rattle.search_layers.proofs.ReadCode.{Read, read_from, read_to}
use Rattle.search_layers.proofs.RowLaws.{when_lower, when_not_later, when_time, time_below, time_most, row_set_other, get_d_layer, layer_set, time_row}

-- a contact that brings nothing earlier leaves the layers
kept_late : (N : Network) (layers : Layers) (k c : ℕ)
    → NotLater (get_or (layer_of layers.words.now (k + 1)) (N.to c) never) (behind N c (get_or (layer_of layers.words.now k) (N.from c) never))
    → Layered layers layers k (relax N (layer_of layers.words.now k) c (layer_of layers.words.now (k + 1)))
kept_late N layers k c late = record {
  kept = λ j l. refl;
  is = ap (layer_of layers.words.now) (sym (add-one k)) ∙ sym (relax_kept N (layer_of layers.words.now k) c (layer_of layers.words.now (k + 1)) late);
}

module _ (p : Service) (ask : Ask) (layers : Layers) (k c : ℕ) (x : Contact) (room : k + 1 < most_nodes) (read : Read p c x) (ready there : ℕ)
    (er : ready ≡ get_or (row_of layers.words.now k) ((network_of p ask).from c) 0) (time : ready ≤ last_time + most_light)
    (eh : there ≡ get_or (row_of layers.words.now (k + 1)) (x.to.0 - 1) 0) where
  to_below : x.to.0 - 1 < most_nodes
  to_below = node_below x.to read.good.to_node

  -- a row's word of the node that the contact is from, and of the node that it is to
  ready_is : get_or (layer_of layers.words.now k) ((network_of p ask).from c) never ≡ at ready
  ready_is =
      let from_below : (network_of p ask).from c < most_nodes = rw (read_from p ask c x read) (node_below x.from read.good.from_node) in
      get_d_layer layers.words.now k ((network_of p ask).from c) (inside layers k (omega arith)) from_below ∙ ap when_word (sym er) ∙ when_time ready time

  there_is : get_or (layer_of layers.words.now (k + 1)) ((network_of p ask).to c) never ≡ when_word there
  there_is = rw (read_to p ask c x read, eh) (get_d_layer layers.words.now (k + 1) (x.to.0 - 1) (inside layers (k + 1) room) to_below)

  there_most : there ≤ never_word
  there_most = rw eh (time_most _ (time_row layers.words.now (k + 1) (x.to.0 - 1) layers.timed (inside layers (k + 1) room) to_below))

  pub tried_late : NotLater (when_word there) (behind (network_of p ask) c (at ready))
      → Layered layers layers k (relax (network_of p ask) (layer_of layers.words.now k) c (layer_of layers.words.now (k + 1)))
  tried_late late = kept_late (network_of p ask) layers k c (rw (there_is, ready_is) late)

  module _ (a : Option Millis) (comes : when_of a ≡ behind (network_of p ask) c (at ready)) where
    pub tried_unready : a ≡ None → Layered layers layers k (relax (network_of p ask) (layer_of layers.words.now k) c (layer_of layers.words.now (k + 1)))
    tried_unready e = tried_late (rw (sym comes ∙ ap when_of e) last)

    module _ (t : Millis) (et : a ≡ Some t) (bound : t.0 ≤ last_time + most_light) where
      arrival_is : when_word t.0 ≡ behind (network_of p ask) c (at ready)
      arrival_is = when_time t.0 bound ∙ sym (ap when_of et) ∙ comes

      pub tried_later : there ≤ t.0 → Layered layers layers k (relax (network_of p ask) (layer_of layers.words.now k) c (layer_of layers.words.now (k + 1)))
      tried_later h = tried_late (subst (NotLater (when_word there)) arrival_is (when_not_later there t.0 h (time_below t.0 bound)))

      -- what the model stores
      relax_is : t.0 < there → relax (network_of p ask) (layer_of layers.words.now k) c (layer_of layers.words.now (k + 1)) ≡ set (layer_of layers.words.now (k + 1)) (x.to.0 - 1) (when_word t.0)
      unfolding relax
      relax_is h =
          ap₂ (set (layer_of layers.words.now (k + 1))) (read_to p ask c x read)
          (ap₂ earlier there_is (ap (behind (network_of p ask) c) ready_is ∙ sym arrival_is) ∙ when_lower t.0 there h there_most)

      pub tried_earlier : (exit : Layers) → t.0 < there → exit.words.now ≡ set layers.words.now ((k + 1) * most_nodes + (x.to.0 - 1)) t.0
          → Layered layers exit k (relax (network_of p ask) (layer_of layers.words.now k) c (layer_of layers.words.now (k + 1)))
      tried_earlier exit h e = record {
        kept = λ j l. ap (λ (ws : List ℕ). row_of ws j) e ∙ row_set_other layers.words.now j (k + 1) (x.to.0 - 1) t.0 (λ q. l (q ∙ add-one k)) to_below;
        is =
            ap (λ (ws : List ℕ). layer_of ws (suc k)) e
            ∙ ap (layer_of (set layers.words.now ((k + 1) * most_nodes + (x.to.0 - 1)) t.0)) (sym (add-one k))
            ∙ layer_set layers.words.now (k + 1) (x.to.0 - 1) t.0 to_below ∙ sym (relax_is h);
      }
