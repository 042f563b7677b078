-- `desk::answer::put_line` meets its contract.
-- Assumes nothing.
use Rattle.std.proofs.Common.{arith}
use Rattle.desk.proofs.AnswerCode.{put_word_room, put_first_room, put_rest_room, put_end_room, put_whole}
use Rattle.desk.proofs.answer.put_line.Goals as goal

pub put_bytes-fields-requires : goal.put_bytes-fields-requires
put_bytes-fields-requires c = omega (arith, put_word_room c.args.word.now c.args.first.now c.args.others.now c.args.out.now c.requires)

pub put_fields-next-requires : goal.put_fields-next-requires
put_fields-next-requires c = put_first_room _ _ _ _ c.requires _ _ c.put_bytes-fields.auto.out c.put_bytes-fields.ensures

pub put_fields-end-requires : goal.put_fields-end-requires
put_fields-end-requires c =
    put_rest_room _ _ _ _ c.requires _ _ c.put_bytes-fields.auto.out c.put_bytes-fields.ensures _ _ c.put_fields-next.auto.out
    c.put_fields-next.ensures

pub put_byte-requires : goal.put_byte-requires
put_byte-requires c =
    put_end_room _ _ _ _ c.requires _ _ c.put_bytes-fields.auto.out c.put_bytes-fields.ensures _ _ c.put_fields-next.auto.out
    c.put_fields-next.ensures _ _ c.put_fields-end.auto.out c.put_fields-end.ensures

pub returns : goal.returns
returns c =
    put_whole _ _ _ _ c.requires _ _ c.put_bytes-fields.auto.out c.put_bytes-fields.ensures _ _ c.put_fields-next.auto.out
    c.put_fields-next.ensures _ _ c.put_fields-end.auto.out c.put_fields-end.ensures _ _ c.put_byte.ensures
