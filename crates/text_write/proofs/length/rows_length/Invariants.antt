-- `text_write::length::rows_length` meets its contract. The loop's invariant: the sum and the length of the lines still to come are the whole length.
-- Assumes nothing.
use Rattle.std.proofs.Common.{◌≡◌, ◌+◌, ◌-◌, ◌*◌, ◌≤◌, length}
use Rattle.text_write.specs.Model.{row_bytes}
use Rattle.text_write.proofs.length.rows_length.Given as goal

abbrev pub invariant-loop-k : goal.invariant-loop-k
invariant-loop-k l = (length (row_bytes l.word l.table 0 l.n) ≡ l.sum + length (row_bytes l.word l.table l.k (l.n - l.k))) × (l.sum ≤ l.k * 113)
