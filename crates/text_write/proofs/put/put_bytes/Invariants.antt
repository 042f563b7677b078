-- `text_write::put::put_bytes` meets its contract. The loop's invariant: the bytes still to come, written behind, complete them all.
-- Assumes nothing.
use Rattle.std.proofs.Common.{drop}
use Rattle.text_write.proofs.PutCode.{Onward}
use Rattle.text_write.proofs.put.put_bytes.Given as goal

abbrev pub invariant-loop-b : goal.invariant-loop-b
invariant-loop-b l = Onward l.initial.out l.at l.bytes l.out l.next (drop l.b-index l.bytes)
