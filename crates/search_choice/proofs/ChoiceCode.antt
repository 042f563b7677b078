-- What the code of the choice knows of the model.
--     leads_elsewhere, leads_by      whether a contact leads, by the tests in their order
--     lowest_begins, lowest_goes, lowest_stops, lowest_ends      the contacts still to be tried
-- Assumes nothing.
use mathlib.Core.Bool.{true, false}
use mathlib.Core.List.{List}
use mathlib.Core.Path.{◌≡◌, refl, sym, ap, ◌∙◌}
use Prim.Native.Nat.{ℕ, suc, ◌+◌, ◌-◌, ◌*◌, ◌≤◌, ◌<◌}
use native.Mathlib.Numerals.{add-one}
use native.Mathlib.Omega.{arith}
use borrow.Author.Tests.{eq-eqb, ne_eqb}
use lib.ListN.{get_or, length}
use Rattle.std.specs.Prelude.{Option, Some, None}
use Rattle.units.specs.declared.Millis.{Millis}
use Rattle.units.specs.Limits.{most_nodes, IsNode}
use Rattle.units.specs.declared.Ask.{Ask}
use Rattle.units.specs.declared.NodeNo.{NodeNo}
use Rattle.plan.specs.declared.rows.Contact.{Contact}
use Rattle.service.specs.Service.{Service}
use Rattle.walk.specs.Model.{is_before}
use Rattle.network.specs.Model.{behind, is_within, leads, lowest_from, lowest}
use Rattle.network.specs.Network.{When, never, Network}
use Rattle.search_layers.specs.Bridge.{when_of, network_of}
use Rattle.search_layers.specs.Words.{time_word, row_of, layer_of}
use Rattle.search_layers.proofs.NetworkLaws.{node_below}
use Rattle.search_layers.proofs.ReadCode.{Read, read_from, read_to}
use Rattle.search_layers.proofs.RowLaws.{time_when, get_d_layer}

-- a time is below a limit exactly where it is within it
within_time : (a : Option Millis) (limit : ℕ) → is_before a limit ≡ is_within (when_of a) limit
unfolding is_within
within_time (Some t) limit = refl
within_time None limit = refl

-- contact c was read as x, and is held against a node and a limit
module _ (p : Service) (ask : Ask) (words : List ℕ) (k : ℕ) (node : NodeNo) (limit c : ℕ) (x : Contact) (is-node : IsNode node) (read : Read p c x) where
  pub leads_elsewhere : (x.to.0 ≡ node.0 → ⊥) → false ≡ leads (network_of p ask) (layer_of words k) (node.0 - 1) limit c
  unfolding leads
  leads_elsewhere h =
      rw (read_to p ask c x read, ne_eqb (x.to.0 - 1) (node.0 - 1) (λ e. h (omega (arith, is-node.least, read.good.to_node.least))))

  pub leads_by : x.to.0 ≡ node.0 → (k + 1) * most_nodes ≤ length words → (ready a : Option Millis) → ready ≡ time_word (get_or (row_of words k) (x.from.0 - 1) 0)
      → when_of a ≡ behind (network_of p ask) c (when_of ready) → is_before a limit ≡ leads (network_of p ask) (layer_of words k) (node.0 - 1) limit c
  unfolding leads
  leads_by h room ready a er comes =
      let from_word : get_or (layer_of words k) (x.from.0 - 1) never ≡ when_of ready =
      get_d_layer words k (x.from.0 - 1) room (node_below x.from read.good.from_node) ∙ sym (time_when _) ∙ ap when_of (sym er) in
      rw (read_to p ask c x read, eq-eqb (x.to.0 - 1) (node.0 - 1) (ap (λ (n : ℕ). n - 1) h), read_from p ask c x read, from_word, ← comes) (within_time a limit)

module _ (N : Network) (before : List When) (v limit m tried : ℕ) where
  pub lowest_begins : N.contacts ≡ m → lowest N before v limit ≡ lowest_from N before v limit 1 (m - 0)
  unfolding lowest
  lowest_begins e = let z : m - 0 ≡ m = omega arith in rw (e, z)

  pub lowest_goes : tried < m → leads N before v limit (tried + 1) ≡ false
      → lowest_from N before v limit (tried + 1) (m - tried) ≡ lowest_from N before v limit (tried + 1 + 1) (m - (tried + 1))
  unfolding lowest_from
  lowest_goes h e =
      let more : m - tried ≡ suc (m - (tried + 1)) = omega arith in
      rw (more, e, add-one (tried + 1))

  pub lowest_stops : tried < m → leads N before v limit (tried + 1) ≡ true → lowest_from N before v limit (tried + 1) (m - tried) ≡ tried + 1
  unfolding lowest_from
  lowest_stops h e =
      let more : m - tried ≡ suc (m - (tried + 1)) = omega arith in
      rw (more, e)

  pub lowest_ends : m ≤ tried → lowest_from N before v limit (tried + 1) (m - tried) ≡ 0
  unfolding lowest_from
  lowest_ends h = let none : m - tried ≡ 0 = omega arith in rw none
