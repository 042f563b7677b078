-- What the test of an ask's values says.
--     good_ask_says, good_ask_passes      it passes exactly for a good ask
-- Assumes nothing.
use Rattle.std.proofs.Common.{◌≡◌, Bool, true, false, ◌&&◌, refl}
use Rattle.std.proofs.lemmas.Bool.{leb-true, le-leb}
use Rattle.units.specs.declared.Ask.{Ask}
use Rattle.units.specs.Asks.{GoodAsk}
use Rattle.units.specs.Limits.{last_time, most_size, most_nodes}
use Rattle.units.specs.Model.{good_ask}

-- the parts of a test that passes
both_pass : (a b : Bool) → a && b ≡ true → (a ≡ true) × (b ≡ true)
both_pass true b e = (refl, e)
both_pass false true e = (e, refl)
both_pass false false e = (e, e)

pub good_ask_says : (ask : Ask) → good_ask ask ≡ true → GoodAsk ask
good_ask_says ask e =
    let dead = both_pass _ _ e in
    let most = both_pass _ _ dead.0 in
    let least = both_pass _ _ most.0 in
    let time = both_pass _ _ least.0 in
    let nodes = both_pass _ _ time.0 in
    let source = both_pass _ _ nodes.0 in
    let destination = both_pass _ _ nodes.1 in
    record {
      source_node = record { least = leb-true 1 ask.source.0 source.0; most = leb-true ask.source.0 most_nodes source.1 };
      destination_node = record { least = leb-true 1 ask.destination.0 destination.0; most = leb-true ask.destination.0 most_nodes destination.1 };
      time_most = leb-true ask.time.0 last_time time.1;
      size_least = leb-true 1 ask.size least.1;
      size_most = leb-true ask.size most_size most.1;
      deadline_most = leb-true ask.deadline.0 last_time dead.1;
    }

pub good_ask_passes : (ask : Ask) → GoodAsk ask → good_ask ask ≡ true
good_ask_passes ask g =
    rw (
      le-leb 1 ask.source.0 g.source_node.least,
      le-leb ask.source.0 most_nodes g.source_node.most,
      le-leb 1 ask.destination.0 g.destination_node.least,
      le-leb ask.destination.0 most_nodes g.destination_node.most,
      le-leb ask.time.0 last_time g.time_most,
      le-leb 1 ask.size g.size_least,
      le-leb ask.size most_size g.size_most,
      le-leb ask.deadline.0 last_time g.deadline_most,
    ) refl
