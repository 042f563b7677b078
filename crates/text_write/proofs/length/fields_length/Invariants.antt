-- `text_write::length::fields_length` meets its contract. The loop's invariant: the sum and the length of the fields still to come are the whole length.
-- Assumes nothing.
use Rattle.std.proofs.Common.{◌≡◌, ◌+◌, ◌*◌, ◌≤◌, length, drop}
use Rattle.text_write.specs.Model.{field_bytes}
use Rattle.text_write.proofs.length.fields_length.Given as goal

abbrev pub invariant-loop-n : goal.invariant-loop-n
invariant-loop-n l = (length (field_bytes l.fields) ≡ l.sum + length (field_bytes (drop l.n-index l.fields))) × (l.sum ≤ 21 * l.n-index)
