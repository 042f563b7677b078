-- What the steps of the work leave in the layers. A reader of the promises may skip it.
--     Layered, Filled          what one step leaves, and what all of them leave
--     Tried                    what trying some of the contacts leaves
--     Older                    an earlier row, by which a contact is known to have been tried before
-- Assumes nothing.
use Rattle.std.specs.Prelude.{List, ◌≡◌, ℕ, suc, ◌-◌, ◌≤◌, ◌<◌, get_or}
use Rattle.units.specs.Limits.{most_nodes}
use Rattle.network.specs.Model.{behind, relaxed, layer}
use Rattle.network.specs.Network.{When, never, NotLater, Network, IsContact}
use Rattle.search_layers.specs.declared.rows.Layers.{Layers}
use Rattle.search_layers.specs.Words.{row_of, layer_of}

-- what a step of the work leaves: every row but row k + 1 as it was; row k + 1 holds that layer
pub record Layered (entry exit : Layers) (k : ℕ) (next : List When) : Type 0 where
  pub kept : (j : ℕ) → (j ≡ suc k → ⊥) → row_of exit.words.now j ≡ row_of entry.words.now j
  pub is : layer_of exit.words.now (suc k) ≡ next

-- what trying some of the contacts leaves: every row but row k + 1 as it was; in row k + 1 no entry is later than it was, none is earlier than in the
-- layer after row k if none was, and for the contacts that are done none is later than what they bring
pub record Tried (N : Network) (entry exit : Layers) (k : ℕ) (Done : ℕ → Type 0) : Type 0 where
  pub kept : (j : ℕ) → (j ≡ suc k → ⊥) → row_of exit.words.now j ≡ row_of entry.words.now j
  pub lower : (v : ℕ) → NotLater (get_or (layer_of exit.words.now (suc k)) v never) (get_or (layer_of entry.words.now (suc k)) v never)
  pub enough : ((v : ℕ) → NotLater (get_or (relaxed N (layer_of entry.words.now k) N.contacts) v never) (get_or (layer_of entry.words.now (suc k)) v never))
      → (v : ℕ) → NotLater (get_or (relaxed N (layer_of entry.words.now k) N.contacts) v never) (get_or (layer_of exit.words.now (suc k)) v never)
  pub done : (c : ℕ) → IsContact N c → Done c
      → NotLater (get_or (layer_of exit.words.now (suc k)) (N.to c) never) (behind N c (get_or (layer_of entry.words.now k) (N.from c) never))

-- row `old` is not row k + 1, and where it has a contact's first node as row k has it, the contact brings nothing earlier than row k has
pub record Older (N : Network) (layers : Layers) (old k : ℕ) : Type 0 where
  pub inside : old < most_nodes
  pub apart : old ≡ suc k → ⊥
  pub tried : (c : ℕ) → IsContact N c → get_or (layer_of layers.words.now old) (N.from c) never ≡ get_or (layer_of layers.words.now k) (N.from c) never
      → NotLater (get_or (layer_of layers.words.now k) (N.to c) never) (behind N c (get_or (layer_of layers.words.now k) (N.from c) never))

-- the rows up to `last` are the network's layers, and every later layer is as that one
pub record Filled (N : Network) (layers : Layers) (last : ℕ) : Type 0 where
  pub most : last < most_nodes
  pub rows : (j : ℕ) → j ≤ last → layer_of layers.words.now j ≡ layer N j
  pub settled : layer N (most_nodes - 1) ≡ layer N last
