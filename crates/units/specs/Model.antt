-- The test that the code makes, as a function that computes. A reader of the promises may skip it: `is_node_tells` of plan's proofs/Tests.antt joins
-- it to the statement of Limits.antt.
-- Assumes nothing.
use Rattle.std.specs.Prelude.{Bool, ◌&&◌, leb}
use Rattle.units.specs.declared.NodeNo.{NodeNo}
use Rattle.units.specs.declared.Ask.{Ask}
use Rattle.units.specs.Limits.{most_nodes, last_time, most_size}

abbrev pub is_node : NodeNo → Bool
is_node n = leb 1 n.0 && leb n.0 most_nodes

-- every value of the ask in its range
abbrev pub good_ask : Ask → Bool
good_ask ask =
    is_node ask.source && is_node ask.destination && leb ask.time.0 last_time && leb 1 ask.size && leb ask.size most_size
    && leb ask.deadline.0 last_time
