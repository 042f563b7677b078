-- No valid plan's text is long.
--     render_short      at most 46,087 bytes: the header's 7, 47 for each of 512 contacts, 43 for each of 512 ranges
--     render_fits       so it is no longer than a plan text may be
-- Assumes nothing.
use mathlib.Core.Path.{◌≡◌, refl}
use mathlib.Core.List.{List, [], ◌∷◌, map, Memᴰ}
use Prim.Native.Nat.{ℕ, ◌+◌, ◌*◌, ◌≤◌, zero-le}
use native.Mathlib.Nat.{le_trans, suc-mul}
use native.Mathlib.Omega.{arith}
use lib.ListN.{length, length-append}
use Rattle.units.specs.Limits.{last_time, most_rate, most_light, most_nodes, most_contacts, most_ranges, most_text}
use Rattle.plan.specs.declared.rows.Contact.{Contact}
use Rattle.plan.specs.declared.rows.Range.{Range}
use Rattle.plan.specs.Plan.{Plan, GoodContact, GoodRange, Valid}
use Rattle.text.specs.Digits.{decimal}
use Rattle.text.specs.Lines.{Line, glue_fields, glue_line, glue}
use Rattle.text.specs.Rows.{header, contact_word, range_word, line_of, contact_line, range_line, plan_lines, render}
use Rattle.text.proofs.Digits.{decimal_short}
use Rattle.text.proofs.Lines.{glue_append}
use Rattle.text.proofs.Members.{each_mem}

-- a line of five numbers has a tab before each, and its line feed
length_line : (word : List ℕ) (a b c d e : ℕ) → length (glue_line (line_of word (a ∷ b ∷ c ∷ d ∷ e ∷ [])))
    ≡ length word + (length (decimal a) + length (decimal b) + length (decimal c) + length (decimal d) + length (decimal e) + 6)
unfolding line_of glue_line glue_fields
length_line word a b c d e = simp length-append (omega arith)

contact_short : (c : Contact) → GoodContact c → length (glue_line (contact_line c)) ≤ 47
unfolding contact_line contact_word last_time most_rate most_nodes
contact_short c g =
    let start = decimal_short 9 c.start.0 (omega arith) in
    let end = decimal_short 9 c.end.0 (omega arith) in
    let from = decimal_short 1 c.from.0 (omega arith) in
    let to = decimal_short 1 c.to.0 (omega arith) in
    let rate = decimal_short 9 c.rate (omega arith) in
    rw length_line (omega arith)

range_short : (r : Range) → GoodRange r → length (glue_line (range_line r)) ≤ 43
unfolding range_line range_word last_time most_light most_nodes
range_short r g =
    let start = decimal_short 9 r.start.0 (omega arith) in
    let end = decimal_short 9 r.end.0 (omega arith) in
    let a = decimal_short 1 r.a.0 (omega arith) in
    let b = decimal_short 1 r.b.0 (omega arith) in
    let light = decimal_short 7 r.light.0 (omega arith) in
    rw length_line (omega arith)

lines_short : {A : Type 0} (line : A → Line) (most : ℕ) (rows : List A) → ((row : A) → Memᴰ row rows → length (glue_line (line row)) ≤ most)
    → length (glue (map line rows)) ≤ length rows * most
unfolding glue
lines_short line most [] short = zero-le
lines_short line most (row ∷ rows) short =
    let one = short row (Memᴰ.head refl) in
    let others = lines_short line most rows (λ x m. short x (Memᴰ.tail m)) in
    rw (length-append, suc-mul) (omega arith)

pub render_short : (p : Plan) → Valid p → length (render p) ≤ 46087
unfolding render header plan_lines most_contacts most_ranges
render_short p v =
    let contacts = lines_short contact_line 47 p.contacts (λ c m. contact_short c (each_mem GoodContact p.contacts v.contacts_good m)) in
    let ranges = lines_short range_line 43 p.ranges (λ r m. range_short r (each_mem GoodRange p.ranges v.ranges_good m)) in
    rw (glue_append (map contact_line p.contacts) (map range_line p.ranges), length-append) (omega arith)

pub render_fits : (p : Plan) → Valid p → length (render p) ≤ most_text
unfolding most_text
render_fits p v = le_trans (render_short p v) (omega arith)
