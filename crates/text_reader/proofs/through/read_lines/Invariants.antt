-- `text_reader::through::read_lines` meets its contract. The loop's invariant: the outcome of the lines that are left, after the rows so far, is that of
-- all; the counts are within the limits, and no line has fewer bytes than its line feed.
-- Assumes nothing.
use Rattle.std.proofs.Common.{◌≡◌, ◌+◌, ◌≤◌, length}
use Rattle.units.specs.Limits.{most_contacts, most_ranges}
use Rattle.plan.specs.Tables.{plan_of}
use Rattle.text.specs.Lines.{lines_of}
use Rattle.text.specs.Model.{read_lines, no_rows}
use Rattle.text_reader.specs.Places.{body_of}
use Rattle.text_reader.proofs.through.read_lines.Given as goal

abbrev pub invariant-loop-reader : goal.invariant-loop-reader
invariant-loop-reader l = record {
  contacts_fit : l.counts.contacts ≤ most_contacts;
  ranges_fit : l.counts.ranges ≤ most_ranges;
  counted : l.line + length l.reader ≤ length l.text;
  leads : read_lines l.line (plan_of l.contacts l.counts.contacts l.ranges l.counts.ranges) (lines_of l.reader) ≡ read_lines 2 no_rows (lines_of (body_of l.text));
}

abbrev pub decreases-loop-reader : goal.decreases-loop-reader
decreases-loop-reader l = length l.reader
