-- `desk::through::answer_while_room` meets its contract. The loop's invariant: the bytes used are the answers of the lines up to the place reached.
-- Assumes nothing.
use native.Mathlib.Omega.{arith}
use lib.ListN.{drop, length-drop}
use Rattle.units.specs.Limits.{most_text}
use Rattle.desk_lines.proofs.LineLaws.{lines_few, line_inside}
use Rattle.desk_lines.proofs.TurnLaws.{so_far, far_number, far_lines, fits_now, inside_now, room_now, gets_less, goes_on}
use Rattle.desk.proofs.through.answer_while_room.Goals as goal

pub loop-at-init : goal.loop-at-init
loop-at-init c = so_far

pub overflow_sub-out : goal.overflow_sub-out
overflow_sub-out c = fits_now c.loop-at.invariant

pub slice_bounds-answer_into-end : goal.slice_bounds-answer_into-end
slice_bounds-answer_into-end c =
    let inside = inside_now c.loop-at.invariant _ c.loop-at-test.true in
    line_inside _ _ _ inside c.find-end.ensures

pub answer_into-used-requires : goal.answer_into-used-requires
answer_into-used-requires c =
    room_now c.loop-at.invariant c.loop-at-test.true

pub place_after-at-requires : goal.place_after-at-requires
place_after-at-requires c =
    let inside = inside_now c.loop-at.invariant _ c.loop-at-test.true in
    line_inside _ _ _ inside c.find-end.ensures

pub overflow_add-number : goal.overflow_add-number
unfolding most_text
overflow_add-number c =
    let inside = inside_now c.loop-at.invariant _ c.loop-at-test.true in
    let number = far_number c.loop-at.invariant inside in
    omega (arith, number, lines_few (drop c.args.from c.args.input.now), length-drop c.args.from c.args.input.now, c.requires.0, c.requires.1)

pub loop-at-smaller : goal.loop-at-smaller
loop-at-smaller c =
    let inside = inside_now c.loop-at.invariant _ c.loop-at-test.true in
    gets_less c.loop-at.invariant inside c.find-end.ensures c.place_after-at.ensures

pub loop-at-preserved : goal.loop-at-preserved
loop-at-preserved c =
    let far = c.loop-at.invariant in
    let test = c.loop-at-test.true in
    goes_on far (inside_now far _ test) c.find-end.ensures c.place_after-at.ensures (room_now far test) c.answer_into-used.ensures

pub returns : goal.returns
returns c = far_lines c.loop-at.invariant c.loop-at-test.false
