-- Rows in lists by a key: the least row that has the key, and behind each row the least later one that has the same. A reader of the promises may
-- skip it.
--     LeastFrom          the least row with a key from a row on, or the number of rows where none has it
--     Linked             what two tables hold: the first row of each key, and the next row of each row
--     pair_slot, slot_at   the key of a row: the slot of its pair of nodes
--     Followed, InOrder  a row ends no later than the next one of its slot starts; each does
-- Assumes nothing.
use Rattle.std.specs.Prelude.{List, ◌≡◌, ℕ, suc, ◌+◌, ◌-◌, ◌*◌, ◌%◌, ◌≤◌, ◌<◌, length, get_or}
use Rattle.plan.specs.declared.rows.Span.{Span}
use Rattle.plan.specs.Tables.{span_at}

-- r is the least of the rows from .. n - 1 with key s, or n where none of them has it
pub record LeastFrom (key : ℕ → ℕ) (from n s r : ℕ) : Type 0 where
  pub no_earlier : from ≤ r
  pub no_later : r ≤ n
  pub least : (j : ℕ) → from ≤ j → j < r → key j ≡ s → ⊥
  pub has : r < n → key r ≡ s

-- the next row of each row
unfoldable pub Nexts : (ℕ → ℕ) → ℕ → List ℕ → Type 0
Nexts key n nexts = (i : ℕ) → i < n → LeastFrom key (suc i) n (key i) (get_or nexts i 0)

-- the first row of each key, and the next row of each row
pub record Linked (key : ℕ → ℕ) (n : ℕ) (heads nexts : List ℕ) : Type 0 where
  pub first : (s : ℕ) → s < length heads → LeastFrom key 0 n s (get_or heads s 0)
  pub next : Nexts key n nexts

-- the slot of a pair of nodes: pairs share slots
unfoldable pub pair_slot : Span → ℕ
pair_slot s = ((s.one.0 - 1) * 24 + (s.other.0 - 1)) % 512

unfoldable pub slot_at : List ℕ → ℕ → ℕ
unfolding pair_slot
slot_at table k = pair_slot (span_at table k)

unfoldable pub Followed : List ℕ → ℕ → List ℕ → ℕ → Type 0
Followed table n nexts i = get_or nexts i 0 < n → (span_at table i).end.0 ≤ (span_at table (get_or nexts i 0)).start.0

unfoldable pub InOrder : List ℕ → ℕ → List ℕ → Type 0
unfolding Followed
InOrder table n nexts = (i : ℕ) → i < n → Followed table n nexts i
