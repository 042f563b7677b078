-- `text_read::reader::read` meets its contract.
-- Assumes nothing.
use Rattle.units.specs.Limits.{most_contacts, most_ranges, most_text}
use Rattle.text.specs.Calls.{few_contacts, few_ranges, refused}
use Rattle.text.specs.Reading.{too_long}
use Rattle.text.specs.Rows.{header}
use Rattle.text_read.proofs.CallCode.{header_told, header_there, headless_read, body_read}
use Rattle.text_read.proofs.reader.read.Goals as goal

pub returns-then-contacts : goal.returns-then-contacts
unfolding most_contacts most_ranges
returns-then-contacts c = few_contacts c.if-contacts.true

pub returns-then-ranges : goal.returns-then-ranges
unfolding most_contacts most_ranges
returns-then-ranges c = few_ranges c.if-ranges.true

pub returns-then-text-gt-MOST_TEXT : goal.returns-then-text-gt-MOST_TEXT
unfolding most_contacts most_ranges most_text
returns-then-text-gt-MOST_TEXT c = refused _ c.if-contacts.false c.if-ranges.false (too_long c.if-text-gt-MOST_TEXT.true)

pub returns-then-not-starts_with : goal.returns-then-not-starts_with
unfolding most_contacts most_ranges most_text header
returns-then-not-starts_with c =
    refused _ c.if-contacts.false c.if-ranges.false
    (headless_read _ c.if-text-gt-MOST_TEXT.false _ (header_told _ _ c.starts_with.ensures.value) c.if-not-starts_with.true)

pub read_rows-requires : goal.read_rows-requires
unfolding most_contacts most_ranges header
read_rows-requires c =
    (c.if-contacts.false, c.if-ranges.false, header_there _ _ (header_told _ _ c.starts_with.ensures.value) c.if-not-starts_with.false)

pub returns : goal.returns
unfolding most_contacts most_ranges most_text header
returns c =
    body_read _ c.if-text-gt-MOST_TEXT.false _ (header_told _ _ c.starts_with.ensures.value) c.if-not-starts_with.false _ _ _ _ _
    c.if-contacts.false c.if-ranges.false c.read_rows.ensures
