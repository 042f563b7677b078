-- `route::asks::answer_some` meets its contract: the bytes printed are the answers of the lines gone through.
-- Assumes nothing.
use mathlib.Core.Path.{sym}
use lib.Seq.{length-take-le}
use Rattle.route.proofs.AsksCode.{used_within, part_from, further_from}
use Rattle.route.proofs.asks.answer_some.Goals as goal

pub slice_bounds-print_answers-end : goal.slice_bounds-print_answers-end
slice_bounds-print_answers-end g c =
    used_within c.args.printed c.answer_lines-reached.ensures c.at-at.ensures c.line-line.ensures c.requires.0 c.requires.2

pub slice_bounds-print_answers-end-2 : goal.slice_bounds-print_answers-end-2
slice_bounds-print_answers-end-2 g c = sym (length-take-le _ _ (slice_bounds-print_answers-end g c))

pub print_answers-requires : goal.print_answers-requires
print_answers-requires g c =
    part_from c.args.printed c.answer_lines-reached.ensures c.at-at.ensures c.line-line.ensures c.requires.0 c.requires.2

pub returns : goal.returns
returns g c =
    let printed = c.print_answers.ensures in
    further_from c.args.printed c.answer_lines-reached.ensures c.at-at.ensures c.line-line.ensures c.requires.0 c.requires.2
    c.print_answers.result c.requires.1 c.requires.3 printed.at printed.line
