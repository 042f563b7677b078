-- `search::finding::find_chain` meets its contract.
-- Assumes nothing.
use mathlib.Core.Path.{refl, sym, ◌∙◌, subst}
use Prim.Native.Nat.{◌≤◌, ◌<◌}
use native.Mathlib.Nat.{le_trans}
use native.Mathlib.Omega.{arith}
use Rattle.std.proofs.Common.{rules}
use Rattle.units.specs.Limits.{most_nodes}
use Rattle.plan.specs.Plan.{Each}
use Rattle.search_layers.specs.Words.{TimeWord, TimeGood}
use Rattle.search_layers.proofs.FillCode.{blank_is, blank_timed, inside}
use Rattle.search_layers.proofs.RowLaws.{time_is, never_is}
use Rattle.search.proofs.FindCode.{delivered_at, count_is, count_room, find_none, find_late, find_best}
use Rattle.search.proofs.finding.find_chain.Goals as goal

pub invariant_of-layers : goal.invariant_of-layers
unfolding most_nodes
invariant_of-layers c = record { full = refl; timed = subst (Each TimeWord) (sym blank_is) blank_timed }

pub fill-last-requires : goal.fill-last-requires
fill-last-requires c = blank_is

pub get-requires : goal.get-requires
get-requires c = (inside c.fill-last.new.layers _ (omega (arith, c.fill-last.ensures.filled.most)), c.args.ask.good.destination_node)

pub returns-in_default : goal.returns-in_default
returns-in_default c =
    let told = find_none _ _ c.args.ask.good c.fill-last.new.layers _ c.fill-last.ensures.filled _ refl c.args.chain.now (never_is _ (sym c.in_default.is ∙ c.get.ensures.time)) in
    record { found = told.0; chain = told.1 }

pub returns-then-le : goal.returns-then-le
returns-then-le c =
    let word = sym (time_is _ _ (sym c.in-Some.is ∙ c.get.ensures.time)) in
    let bound = subst TimeGood c.in-Some.is (c.get.ensures.good c.fill-last.new.layers.timed) in
    let late : c.args.ask.asked.deadline.0 ≤ c.in-Some.delivered.0 = search (rules, c.if-le.ensures) in
    let told = find_late _ _ c.args.ask.good c.fill-last.new.layers _ c.fill-last.ensures.filled _ word bound c.args.chain.now late in
    record { found = told.0; chain = told.1 }

pub first_row-count-requires : goal.first_row-count-requires
first_row-count-requires c =
    (inside c.fill-last.new.layers _ c.fill-last.ensures.filled.most, c.args.ask.good.destination_node, time_is _ _ (sym c.in-Some.is ∙ c.get.ensures.time))

pub choose-requires-clause-layers : goal.choose-requires-clause-layers
choose-requires-clause-layers c =
    let filled = c.fill-last.ensures.filled in
    (c.fill-last.new.layers.timed, inside c.fill-last.new.layers _ (omega (arith, c.first_row-count.ensures.most, filled.most)))

pub choose-requires-clause-room : goal.choose-requires-clause-room
choose-requires-clause-room c =
    let word = sym (time_is _ _ (sym c.in-Some.is ∙ c.get.ensures.time)) in
    let bound = subst TimeGood c.in-Some.is (c.get.ensures.good c.fill-last.new.layers.timed) in
    let first = c.first_row-count.ensures in
    le_trans (count_room _ _ c.args.ask.good c.fill-last.new.layers _ c.fill-last.ensures.filled _ word bound _ first) c.requires

pub choose-requires-clause-delivered : goal.choose-requires-clause-delivered
choose-requires-clause-delivered c =
    let word = sym (time_is _ _ (sym c.in-Some.is ∙ c.get.ensures.time)) in
    let bound = subst TimeGood c.in-Some.is (c.get.ensures.good c.fill-last.new.layers.timed) in
    (delivered_at _ _ c.args.ask.good c.fill-last.new.layers _ c.fill-last.ensures.filled _ word bound, bound)

pub choose-requires-clause-fewest : goal.choose-requires-clause-fewest
choose-requires-clause-fewest c =
    let word = sym (time_is _ _ (sym c.in-Some.is ∙ c.get.ensures.time)) in
    let bound = subst TimeGood c.in-Some.is (c.get.ensures.good c.fill-last.new.layers.timed) in
    count_is _ _ c.args.ask.good c.fill-last.new.layers _ c.fill-last.ensures.filled _ word bound _ c.first_row-count.ensures

pub returns : goal.returns
returns c =
    let word = sym (time_is _ _ (sym c.in-Some.is ∙ c.get.ensures.time)) in
    let bound = subst TimeGood c.in-Some.is (c.get.ensures.good c.fill-last.new.layers.timed) in
    let early : c.in-Some.delivered.0 < c.args.ask.asked.deadline.0 = search (rules, c.if-le.ensures) in
    let told = find_best _ _ c.args.ask.good c.fill-last.new.layers _ c.fill-last.ensures.filled _ word bound _ c.first_row-count.ensures _ _ early c.choose.ensures in
    record { found = told.0; chain = told.1 }
