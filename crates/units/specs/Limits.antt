-- The limits of the request, 'Numbers used', each once. The constants of src/lib.rt have the same values.
-- Assumes nothing.
use Rattle.std.specs.Prelude.{ℕ, ◌≤◌}
use Rattle.units.specs.declared.NodeNo.{NodeNo}

-- times are whole milliseconds, 0 to this
unfoldable pub last_time : ℕ
last_time = 8_589_934_591

-- rates are 1 to this, in bytes a second
unfoldable pub most_rate : ℕ
most_rate = 1_000_000_000

-- light times are 0 to this, in milliseconds
unfoldable pub most_light : ℕ
most_light = 86_400_000

-- file sizes are 1 to this, in bytes
unfoldable pub most_size : ℕ
most_size = 1_000_000_000

-- nodes are numbered 1 to this
unfoldable pub most_nodes : ℕ
most_nodes = 64

-- a plan has at most so many contacts
unfoldable pub most_contacts : ℕ
most_contacts = 512

-- and at most so many ranges
unfoldable pub most_ranges : ℕ
most_ranges = 512

-- a best chain has at most so many contacts
unfoldable pub most_chain : ℕ
most_chain = 63

-- classes of bookings are numbered 1, the lowest, to this
unfoldable pub most_class : ℕ
most_class = 3

-- a book has so many places
unfoldable pub most_places : ℕ
most_places = 256

-- the consumption of a booking is 1 to this
unfoldable pub most_consumption : ℕ
most_consumption = 1_030_000_000

-- a plan text has at most so many bytes, and so has the input of asks
unfoldable pub most_text : ℕ
most_text = 65_536

-- the number of a node
pub record IsNode (n : NodeNo) : Type 0 where
  pub least : 1 ≤ n.0
  pub most : n.0 ≤ most_nodes
