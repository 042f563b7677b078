-- The network's layers in lent words: one row of words a layer, one word a node. A reader of the promises may skip it.
--     never_word, when_word      never as a word, and what a word says
--     time_word, TimeGood        the time that a word says, or none, and that one is such a time
--     row_of, layer_of           row k of the words, and the layer that it holds
--     Listed                   the contacts in lists, by the node that they are from
--     LateBy                   the times alone show that a contact brings nothing
--     FirstRow                 the first row in which a node has a word
-- Assumes nothing.
use Rattle.std.specs.Prelude.{cond, Option, Some, None, List, map, ◌⊎◌, ◌≡◌, ℕ, ◌+◌, ◌*◌, ◌≤◌, ◌<◌, eqb, length, get_or, take, drop, replicate}
use Rattle.plan_lists.specs.Leaving.{from_at}
use Rattle.plan_lists.specs.Lists.{Linked}
use Rattle.units.specs.declared.Millis.{Millis}
use Rattle.units.specs.Limits.{last_time, most_light, most_nodes}
use Rattle.plan.specs.declared.rows.Contact.{Contact}
use Rattle.network.specs.Network.{When, at, never}

-- never, as a word: later than every time
unfoldable pub never_word : ℕ
never_word = 18_446_744_073_709_551_614

unfoldable pub when_word : ℕ → When
when_word w = cond (eqb w never_word) never (at w)

-- the time that a word says, or none
unfoldable pub time_word : ℕ → Option Millis
time_word w = cond (eqb w never_word) None (Some (record { 0 = w }))

-- a word that is never, or a time that a file can be ready at
abbrev pub TimeWord : ℕ → Type 0
TimeWord w = (w ≤ last_time + most_light) ⊎ (w ≡ never_word)

-- a time is one that a file can be ready at
abbrev pub TimeGood : Option Millis → Type 0
TimeGood (Some t) = t.0 ≤ last_time + most_light
TimeGood None = Unit {0}

unfoldable pub row_of : List ℕ → ℕ → List ℕ
row_of words k = take most_nodes (drop (k * most_nodes) words)

unfoldable pub layer_of : List ℕ → ℕ → List When
layer_of words k = map when_word (row_of words k)

-- the contacts in lists by the node that they are from: `heads` has the first one of each node, `nexts` for each contact the next one of its node
pub record Listed (contacts : List ℕ) (m : ℕ) (heads nexts : List ℕ) : Type 0 where
  pub linked : Linked (from_at contacts) m heads nexts
  pub a_node_each : length heads ≡ most_nodes
  pub a_contact_each : m ≤ length nexts

-- the words before any work: no node reached
unfoldable pub blank_words : List ℕ
blank_words = replicate (most_nodes * most_nodes) never_word

-- the times alone show that a contact brings nothing earlier than `there`, from `ready` on
abbrev pub LateBy : Contact → ℕ → ℕ → Type 0
LateBy x ready there = (there ≤ ready) ⊎ ((x.end.0 < ready) ⊎ (there ≤ x.start.0))

-- row r is the first, up to `last`, in which node v has that word
pub record FirstRow (words : List ℕ) (last v word r : ℕ) : Type 0 where
  pub most : r ≤ last
  pub has : get_or (row_of words r) v 0 ≡ word
  pub none_before : (j : ℕ) → j < r → get_or (row_of words j) v 0 ≡ word → ⊥
