-- `text_write::put::put_fields` meets its contract. The loop's invariant: the fields still to come, written behind, complete them all.
-- Assumes nothing.
use Rattle.std.proofs.Common.{drop}
use Rattle.text_write.specs.Model.{field_bytes}
use Rattle.text_write.proofs.PutCode.{Onward}
use Rattle.text_write.proofs.put.put_fields.Given as goal

abbrev pub invariant-loop-n : goal.invariant-loop-n
invariant-loop-n l = Onward l.initial.out l.at (field_bytes l.fields) l.out l.next (field_bytes (drop l.n-index l.fields))
