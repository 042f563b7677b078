-- The contacts by the node that they are from. A reader of the promises may skip it.
--     from_at            the key of a contact: the node that it is from, counted from 0
--     LinkableFrom      what is to hold before the contacts are linked by it
-- Assumes nothing.
use Rattle.std.specs.Prelude.{List, ◌≡◌, ℕ, ◌-◌, ◌*◌, ◌≤◌, ◌<◌, length}
use Rattle.units.specs.Limits.{most_nodes, IsNode}
use Rattle.plan.specs.Tables.{words, contact_at}
use Rattle.plan_lists.specs.Model.{most_rows}

unfoldable pub from_at : List ℕ → ℕ → ℕ
from_at contacts k = (contact_at contacts k).from.0 - 1

pub record LinkableFrom (contacts : List ℕ) (n : ℕ) (heads nexts : List ℕ) : Type 0 where
  pub few : n ≤ most_rows
  pub lent : n * words ≤ length contacts
  pub a_node_each : length heads ≡ most_nodes
  pub a_contact_each : n ≤ length nexts
  pub nodes : (k : ℕ) → k < n → IsNode (contact_at contacts k).from
