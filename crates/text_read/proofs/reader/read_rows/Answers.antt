-- `text_read::reader::read_rows` meets its contract.
-- Assumes nothing.
use Rattle.std.proofs.Common.{arith}
use Rattle.std.proofs.lemmas.Result.{err_from_is_err_and}
use Rattle.units.specs.Limits.{most_contacts, most_ranges}
use Rattle.text_read.proofs.CallCode.{gives_rows, copied_rows, copied_refused}
use Rattle.text_read.proofs.reader.read_rows.Goals as goal

pub read_lines-requires : goal.read_lines-requires
unfolding most_contacts most_ranges
read_lines-requires c = (omega arith, omega arith, c.requires.2)

pub returns-in_err-counts : goal.returns-in_err-counts
returns-in_err-counts c =
    let p = err_from_is_err_and c.from_residual.result c.from_residual.ensures.1 in
    rw (p.1, p.2) (copied_refused _ _ c.in_err-counts.ensures)

pub copy_words-requires : goal.copy_words-requires
unfolding most_contacts most_ranges
copy_words-requires c =
    let t = gives_rows c.in_ok-counts.ensures in
    (omega (arith, t.0, c.read_lines.auto.contacts), omega (arith, t.0, c.requires.0))

pub copy_words-requires-2 : goal.copy_words-requires-2
unfolding most_contacts most_ranges
copy_words-requires-2 c =
    let t = gives_rows c.in_ok-counts.ensures in
    (omega (arith, t.1, c.read_lines.auto.ranges), omega (arith, t.1, c.requires.1))

pub returns : goal.returns
unfolding most_contacts most_ranges
returns c =
    let t = gives_rows c.in_ok-counts.ensures in
    copied_rows _ _ c.in_ok-counts.ensures (omega (arith, t.0, c.read_lines.auto.contacts)) (omega (arith, t.1, c.read_lines.auto.ranges))
    (omega (arith, t.0, c.requires.0)) (omega (arith, t.1, c.requires.1)) _ _ c.copy_words.ensures c.copy_words-2.ensures
