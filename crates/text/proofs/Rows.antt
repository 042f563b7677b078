-- The lines of rows, and rows of lines.
--     contact_shaped, range_shaped      the line of a row has the shape
--     contact_says, range_says          it says that row
--     contact_line_lem, range_line_lem          a line of good shape is the line of the row that it says
--     lines_plan                        the lines of a plan's text
--     plan_rest, plan_lines_injective    lines that begin with the lines of rows
-- Assumes nothing.
use mathlib.Core.Bool.{true, not, ◌&&◌}
use mathlib.Core.Path.{◌≡◌, refl, sym, ap, ap₂, ◌∙◌, subst}
use mathlib.Core.List.Memᴰ
use mathlib.Core.List.{List, [], ◌∷◌, ◌++◌, map, append-nil, head-eq_of_cons-eq, tail-eq_of_cons-eq, nil≢cons, Memᴰ}
use mathlib.Core.Logic.{⊎_elim}
use Prim.Native.Nat.{ℕ, ◌<◌}
use native.Mathlib.Nat.{not-suc-le-zero}
use native.Mathlib.Omega.{arith}
use lib.Dec.{eqb}
use lib.ListN.{length, get_or, length-map}
use Rattle.plan.specs.declared.rows.Contact.{Contact}
use Rattle.plan.specs.declared.rows.Range.{Range}
use Rattle.plan.specs.Model.{each}
use Rattle.plan.specs.Plan.{Plan}
use Rattle.plan.specs.Tables.{words, contact_at, range_at}
use Rattle.plan.proofs.Tests.{each_tells}
use Rattle.plan.proofs.Verdicts.{tells_eq, both, denied, true_holds}
use Rattle.text.specs.Digits.{Number, value, decimal}
use Rattle.text.specs.Lines.{Line, tab, line_feed, lines_of, glue}
use Rattle.text.specs.Rows.{contact_word, range_word, Shaped, contact_of, range_of, line_of, contact_line, range_line, plan_lines}
use Rattle.text.proofs.Digits.{value_decimal, decimal_number, decimal_value, decimal_digits}
use Rattle.text.proofs.Lines.{Plain, PlainLine, plain, lines_glued}
use Rattle.text.proofs.Members.{each_mem, mem_each}

-- ---- a word and numbers

values_decimals : (ns : List ℕ) → map value (map decimal ns) ≡ ns
values_decimals [] = refl
values_decimals (n ∷ ns) = ap₂ (λ (m : ℕ) (ms : List ℕ). m ∷ ms) (value_decimal n) (values_decimals ns)

decimals_values : (fs : List (List ℕ)) → ((f : List ℕ) → Memᴰ f fs → Number f) → map decimal (map value fs) ≡ fs
decimals_values [] numbers = refl
decimals_values (f ∷ fs) numbers =
    ap₂ (λ (g : List ℕ) (gs : List (List ℕ)). g ∷ gs) (decimal_value f (numbers f (Memᴰ.head refl)))
    (decimals_values fs (λ g m. numbers g (Memᴰ.tail m)))

line_shaped : (word ns : List ℕ) (count : ℕ) → length ns ≡ count → Shaped word count (line_of word ns)
unfolding line_of
line_shaped word ns count e = record { word_is = refl; counted = length-map ns decimal ∙ e; numbers = mem_each Number (map decimal ns) number; ended = refl }
  where
    number : (f : List ℕ) → Memᴰ f (map decimal ns) → Number f
    number f m = let n = Memᴰ.of_map decimal ns m in subst Number n.2 (decimal_number n.0)

line_plain : (word ns : List ℕ) → Plain word → PlainLine (line_of word ns)
unfolding line_of Plain
line_plain word ns w = plain w (λ f m. let n = Memᴰ.of_map decimal ns m in subst Plain n.2 (digits n.0))
  where
    digits : (n : ℕ) → Plain (decimal n)
    digits n b m = let d = decimal_digits n b m in (λ e. omega arith, λ e. omega arith)

shaped_line : (word : List ℕ) (count : ℕ) (l : Line) → Shaped word count l → line_of word (map value l.fields) ≡ l
unfolding line_of
shaped_line word count l s =
    let fields = decimals_values l.fields (λ f m. each_mem Number l.fields s.numbers m) in
    λ i. record { word = sym s.word_is i; fields = fields i; ended = sym s.ended i }

-- five numbers are those that stand in the five places
five_numbers : (ns : List ℕ) → length ns ≡ 5 → get_or ns 0 0 ∷ get_or ns 1 0 ∷ get_or ns 2 0 ∷ get_or ns 3 0 ∷ get_or ns 4 0 ∷ [] ≡ ns
five_numbers [] e = absurd (omega arith)
five_numbers (a ∷ []) e = absurd (omega arith)
five_numbers (a ∷ b ∷ []) e = absurd (omega arith)
five_numbers (a ∷ b ∷ c ∷ []) e = absurd (omega arith)
five_numbers (a ∷ b ∷ c ∷ d ∷ []) e = absurd (omega arith)
five_numbers (a ∷ b ∷ c ∷ d ∷ f ∷ []) e = refl
five_numbers (a ∷ b ∷ c ∷ d ∷ f ∷ g ∷ ns) e = absurd (omega arith)

shaped_count : (word : List ℕ) (count : ℕ) (l : Line) → Shaped word count l → length (map value l.fields) ≡ count
shaped_count word count l s = length-map l.fields value ∙ s.counted

-- ---- contact lines and range lines

pub contact_shaped : (c : Contact) → Shaped contact_word words (contact_line c)
unfolding contact_line
contact_shaped c = line_shaped contact_word _ words refl

pub range_shaped : (r : Range) → Shaped range_word words (range_line r)
unfolding range_line
range_shaped r = line_shaped range_word _ words refl

pub contact_says : (c : Contact) → contact_of (contact_line c) ≡ c
unfolding contact_of contact_line line_of
contact_says c =
    ap (λ (ns : List ℕ). contact_at ns 0) (values_decimals (c.start.0 ∷ c.end.0 ∷ c.from.0 ∷ c.to.0 ∷ c.rate ∷ []))

pub range_says : (r : Range) → range_of (range_line r) ≡ r
unfolding range_of range_line line_of
range_says r = ap (λ (ns : List ℕ). range_at ns 0) (values_decimals (r.start.0 ∷ r.end.0 ∷ r.a.0 ∷ r.b.0 ∷ r.light.0 ∷ []))

pub contact_line_lem : (l : Line) → Shaped contact_word words l → contact_line (contact_of l) ≡ l
unfolding contact_of contact_line
contact_line_lem l s = ap (line_of contact_word) (five_numbers (map value l.fields) (shaped_count contact_word words l s)) ∙ shaped_line contact_word words l s

pub range_line_lem : (l : Line) → Shaped range_word words l → range_line (range_of l) ≡ l
unfolding range_of range_line
range_line_lem l s = ap (line_of range_word) (five_numbers (map value l.fields) (shaped_count range_word words l s)) ∙ shaped_line range_word words l s

words_differ : contact_word ≡ range_word → ⊥
unfolding contact_word range_word
words_differ e = omega (arith, head-eq_of_cons-eq e)

pub one_shape : (l : Line) → Shaped contact_word words l → Shaped range_word words l → ⊥
one_shape l s t = words_differ (sym s.word_is ∙ t.word_is)

lines_differ : (c : Contact) (r : Range) → contact_line c ≡ range_line r → ⊥
lines_differ c r e = one_shape (contact_line c) (contact_shaped c) (subst (Shaped range_word words) (sym e) (range_shaped r))

contact_same : (c d : Contact) → contact_line c ≡ contact_line d → c ≡ d
contact_same c d e = sym (contact_says c) ∙ ap contact_of e ∙ contact_says d

range_same : (r s : Range) → range_line r ≡ range_line s → r ≡ s
range_same r s e = sym (range_says r) ∙ ap range_of e ∙ range_says s

-- ---- the lines of a plan's text

plain_word : (bs : List ℕ) → each (λ b. not (eqb b tab) && not (eqb b line_feed)) bs ≡ true → Plain bs
unfolding Plain
plain_word bs e b m =
    let plain_byte = each_tells (λ b. (b ≡ tab → ⊥) × (b ≡ line_feed → ⊥)) _ (λ b. both (denied (tells_eq b tab)) (denied (tells_eq b line_feed))) bs in
    each_mem (λ b. (b ≡ tab → ⊥) × (b ≡ line_feed → ⊥)) bs (true_holds plain_byte e) m

contact_plain : (c : Contact) → PlainLine (contact_line c)
unfolding contact_line contact_word each
contact_plain c = line_plain contact_word _ (plain_word contact_word refl)

range_plain : (r : Range) → PlainLine (range_line r)
unfolding range_line range_word each
range_plain r = line_plain range_word _ (plain_word range_word refl)

pub lines_plan : (p : Plan) → lines_of (glue (plan_lines p)) ≡ plan_lines p
unfolding plan_lines
lines_plan p = lines_glued (plan_lines p) clean
  where
    clean : (l : Line) → Memᴰ l (plan_lines p) → PlainLine l
    clean l m =
        ⊎_elim (λ h. let c = Memᴰ.of_map contact_line p.contacts h in subst PlainLine c.2 (contact_plain c.0))
        (λ h. let r = Memᴰ.of_map range_line p.ranges h in subst PlainLine r.2 (range_plain r.0))
        (Memᴰ.append_cases (map contact_line p.contacts) m)

-- ---- lines that begin with the lines of rows

-- the lines after those of q, where the lines of q and these are the lines of p
pub record Rest (p q : Plan) (after : List Line) : Type 0 where
  pub more : Plan
  pub contacts_are : p.contacts ≡ q.contacts ++ more.contacts
  pub ranges_are : p.ranges ≡ q.ranges ++ more.ranges
  pub after_are : after ≡ plan_lines more
  -- no contact line stands after a range line
  pub in_order : 0 < length q.ranges → more.contacts ≡ []

ranges_rest : (rs qs : List Range) (after : List Line) → map range_line rs ≡ map range_line qs ++ after
    → (more : List Range) × (rs ≡ qs ++ more) × (after ≡ map range_line more)
ranges_rest rs [] after e = (rs, refl, sym e)
ranges_rest [] (q ∷ qs) after e = absurd (nil≢cons e)
ranges_rest (r ∷ rs) (q ∷ qs) after e =
    let t = ranges_rest rs qs after (tail-eq_of_cons-eq e) in
    (t.0, ap₂ (λ (x : Range) (xs : List Range). x ∷ xs) (range_same r q (head-eq_of_cons-eq e)) t.1, t.2)

rows_rest : (cs ds : List Contact) (rs qs : List Range) (after : List Line) → map contact_line cs ++ map range_line rs ≡ map contact_line ds ++ map range_line qs ++ after
    → Rest (record { contacts = cs; ranges = rs }) (record { contacts = ds; ranges = qs }) after
unfolding plan_lines
rows_rest [] [] rs qs after e =
    let t = ranges_rest rs qs after e in
    record { more = record { contacts = []; ranges = t.0 }; contacts_are = refl; ranges_are = t.1; after_are = t.2; in_order = λ h. refl }
rows_rest [] (d ∷ ds) [] qs after e = absurd (nil≢cons e)
rows_rest [] (d ∷ ds) (r ∷ rs) qs after e = absurd (lines_differ d r (sym (head-eq_of_cons-eq e)))
rows_rest (c ∷ cs) [] rs [] after e =
    record { more = record { contacts = c ∷ cs; ranges = rs }; contacts_are = refl; ranges_are = refl; after_are = sym e; in_order = λ h. absurd (not-suc-le-zero h) }
rows_rest (c ∷ cs) [] rs (q ∷ qs) after e = absurd (lines_differ c q (head-eq_of_cons-eq e))
rows_rest (c ∷ cs) (d ∷ ds) rs qs after e =
    let t = rows_rest cs ds rs qs after (tail-eq_of_cons-eq e) in
    record {
      more = t.more;
      contacts_are = ap₂ (λ (x : Contact) (xs : List Contact). x ∷ xs) (contact_same c d (head-eq_of_cons-eq e)) t.contacts_are;
      ranges_are = t.ranges_are;
      after_are = t.after_are;
      in_order = t.in_order;
    }

pub plan_rest : (p q : Plan) (after : List Line) → plan_lines p ≡ plan_lines q ++ after → Rest p q after
unfolding plan_lines
plan_rest p q after e = rows_rest p.contacts q.contacts p.ranges q.ranges after e

no_rows_lem : (cs : List Contact) (rs : List Range) → [] ≡ map contact_line cs ++ map range_line rs → (cs ≡ []) × (rs ≡ [])
no_rows_lem [] [] e = (refl, refl)
no_rows_lem [] (r ∷ rs) e = absurd (nil≢cons e)
no_rows_lem (c ∷ cs) rs e = absurd (nil≢cons e)

pub plan_lines_injective : (p q : Plan) → plan_lines p ≡ plan_lines q → p ≡ q
unfolding plan_lines
plan_lines_injective p q e =
    let t = plan_rest p q [] (e ∙ sym (append-nil (plan_lines q))) in
    let none = no_rows_lem t.more.contacts t.more.ranges t.after_are in
    let cs = t.contacts_are ∙ ap (λ (cs : List Contact). q.contacts ++ cs) none.0 ∙ append-nil q.contacts in
    let rs = t.ranges_are ∙ ap (λ (rs : List Range). q.ranges ++ rs) none.1 ∙ append-nil q.ranges in
    λ i. record { contacts = cs i; ranges = rs i }
