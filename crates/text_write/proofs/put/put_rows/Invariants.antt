-- `text_write::put::put_rows` meets its contract. The loop's invariant: the lines from row k on, written behind, complete them all.
-- Assumes nothing.
use Rattle.std.proofs.Common.{◌-◌}
use Rattle.text_write.specs.Model.{row_bytes}
use Rattle.text_write.proofs.PutCode.{Onward}
use Rattle.text_write.proofs.put.put_rows.Given as goal

abbrev pub invariant-loop-k : goal.invariant-loop-k
invariant-loop-k l = Onward l.initial.out l.at (row_bytes l.word l.table 0 l.n) l.out l.next (row_bytes l.word l.table l.k (l.n - l.k))
