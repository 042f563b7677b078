-- `text_write::put::put_line` meets its contract.
-- Assumes nothing.
use Rattle.text_write.proofs.PutCode.{line_word_room, line_fields_room, line_feed_room, line_whole}
use Rattle.text_write.proofs.put.put_line.Goals as goal

pub put_bytes-fields-requires : goal.put_bytes-fields-requires
put_bytes-fields-requires c = line_word_room _ _ _ c.args.row.now c.requires

pub put_fields-end-requires : goal.put_fields-end-requires
put_fields-end-requires c = line_fields_room _ _ _ _ c.requires _ _ c.put_bytes-fields.auto.out c.put_bytes-fields.ensures

pub put_byte-requires : goal.put_byte-requires
put_byte-requires c =
    line_feed_room _ _ _ _ c.requires _ _ c.put_bytes-fields.auto.out
    c.put_bytes-fields.ensures _ _ c.put_fields-end.auto.out c.put_fields-end.ensures

pub returns : goal.returns
returns c =
    line_whole _ _ _ _ c.requires _ _ c.put_bytes-fields.auto.out
    c.put_bytes-fields.ensures _ _ c.put_fields-end.auto.out
    c.put_fields-end.ensures _ _ c.put_byte.ensures
