-- What one line of the reader knows of the model.
--     line_fits, line_ended, line_unended      where the next line ends, and what it says
--     line_taken, line_refused                 one line taken, and one refused: to which outcome the rest leads
--     all_read                                 the outcome when no line is left
-- Assumes nothing.
use Rattle.std.proofs.Common.{true, false, ◌≡◌, ℕ, suc, ◌+◌, ◌-◌, ◌≤◌, ◌<◌, List, [], ◌∷◌, length, take, drop, refl, sym, ap, ◌∙◌, arith, add-one, length-drop, None, Ok, Err}
use mathlib.Core.Bool.{and-false}
use mathlib.Core.Path.{ap₂}
use native.Mathlib.Decide.{dec_lt}
use borrow.Author.Tests.{lt-ltb, le-ltb}
use lib.ListN.{drop_of_length-le}
use Rattle.units.specs.declared.Refusal.{Refusal}
use Rattle.units.specs.Limits.{most_contacts, most_ranges}
use Rattle.plan.specs.Plan.{Plan}
use Rattle.plan.specs.Tables.{plan_of}
use Rattle.text.specs.declared.answer.Counts.{Counts}
use Rattle.text.specs.Lines.{line_feed, Line, lines_of}
use Rattle.text.specs.Model.{Said, up_to, line_in, is_shaped, said_by, capped_said, Judged, faulty, taken, judge, read_lines}
use Rattle.text.specs.Reading.{Accepted, Refused, refusal_of}
use Rattle.text_rows.specs.Tables.{outcome_at, Gives, rows, refused}
use Rattle.text_reader.specs.Places.{first_said, behind_first}
use Rattle.text.proofs.Capped.{capped_judged}
use Rattle.text.proofs.Cuts.{up_to_le, lines_cut, lines_left, line_in_ended}

-- ---- the line at a place

module _ (text : List ℕ) (at : ℕ) (left : List ℕ) (is_left : drop at text ≡ left) (end : ℕ) (ends : end ≡ at + up_to line_feed (drop at text)) where
  long : length left ≡ length text - at
  long = ap length (sym is_left) ∙ length-drop at text

  stop : end ≡ at + up_to line_feed left
  stop = ends ∙ ap (λ (bs : List ℕ). at + up_to line_feed bs) is_left

  pub line_fits : 0 < length left → end ≤ length text
  line_fits some = omega (arith, stop, long, up_to_le line_feed left)

  pub line_unended : 0 < length left → length text < end + 1 → None ≡ first_said left
  unfolding first_said
  line_unended some h = rw (le-ltb (up_to line_feed left) (length left) (omega (arith, stop, long)))

  pub line_ended : end + 1 ≤ length text → capped_said (said_by (line_in (take (end + 1 - 1 - at) (drop at text)) true)) ≡ first_said left
  unfolding first_said
  line_ended h =
      let n : end + 1 - 1 - at ≡ up_to line_feed left = omega (arith, stop) in
      rw (lt-ltb (up_to line_feed left) (length left) (omega (arith, stop, long)))
      (ap₂ (λ (k : ℕ) (bs : List ℕ). capped_said (said_by (line_in (take k bs) true))) n is_left)

-- ---- one line of the model

-- a line of which nothing is known but that no line feed ended it
unended_said : (bs : List ℕ) → said_by (line_in bs false) ≡ None
unfolding said_by is_shaped
unended_said bs = simp (line_in_ended, and-false)

module _ (n : ℕ) (p : Plan) (l : Line) (ls : List Line) where
  step_taken : (q : Plan) → outcome_at n (judge p (said_by l)) ≡ Accepted q → read_lines n p (l ∷ ls) ≡ read_lines (suc n) q ls
  unfolding read_lines outcome_at
  step_taken q = go (judge p (said_by l))
    where
      go : (j : Judged) → outcome_at n j ≡ Accepted q → elim j [ faulty f ↦ Refused (refusal_of f n) | taken r ↦ read_lines (suc n) r ls ] ≡ read_lines (suc n) q ls
      go (faulty f) e = cc
      go (taken r) e = let same : r ≡ q = cc in ap (λ (s : Plan). read_lines (suc n) s ls) same

  step_refused : (why : Refusal) → outcome_at n (judge p (said_by l)) ≡ Refused why → read_lines n p (l ∷ ls) ≡ Refused why
  unfolding read_lines outcome_at
  step_refused why = go (judge p (said_by l))
    where
      go : (j : Judged) → outcome_at n j ≡ Refused why → elim j [ faulty f ↦ Refused (refusal_of f n) | taken r ↦ read_lines (suc n) r ls ] ≡ Refused why
      go (faulty f) e = e
      go (taken r) e = cc

-- ---- the first of the lines that are left

module _ (n : ℕ) (p : Plan) where
  -- that line, and that what it is read to say is judged as it is
  record First (left : List ℕ) : Type 0 where
    line : Line
    leads : lines_of left ≡ line ∷ lines_of (behind_first left)
    judged : outcome_at n (judge p (first_said left)) ≡ outcome_at n (judge p (said_by line))

  first_ended : (left : List ℕ) → up_to line_feed left < length left → First left
  unfolding first_said
  first_ended left h =
      let u : ℕ = up_to line_feed left in
      record {
        line = line_in (take u left) true;
        leads = lines_cut left h ∙ ap (λ (k : ℕ). line_in (take u left) true ∷ lines_of (drop k left)) (sym (add-one u));
        judged = rw (lt-ltb u (length left) h) (ap (outcome_at n) (capped_judged p (said_by (line_in (take u left) true))));
      }

  first_unended : (left : List ℕ) → 0 < length left → up_to line_feed left ≡ length left → First left
  unfolding first_said lines_of
  first_unended [] some all = absurd (omega arith)
  first_unended (b ∷ bs) some all =
      let none : drop (up_to line_feed (b ∷ bs) + 1) (b ∷ bs) ≡ [] = drop_of_length-le (b ∷ bs) (omega (arith, all)) in
      record {
        line = line_in (b ∷ bs) false;
        leads = lines_left b bs all ∙ ap (λ (ls : List ℕ). line_in (b ∷ bs) false ∷ lines_of ls) (sym none);
        judged = rw (le-ltb (up_to line_feed (b ∷ bs)) (length (b ∷ bs)) (omega (arith, all)))
            (ap (λ (s : Said). outcome_at n (judge p s)) (sym (unended_said (b ∷ bs))));
      }

  first : (left : List ℕ) → 0 < length left → First left
  first left some =
      elim (dec_lt (up_to line_feed left) (length left))
      [ yes h ↦ first_ended left h | no h ↦ first_unended left some (omega (arith, up_to_le line_feed left)) ]

  module _ (left : List ℕ) (some : 0 < length left) (said : Said) (says : said ≡ first_said left) where
    one : First left
    one = first left some

    told : outcome_at n (judge p said) ≡ outcome_at n (judge p (said_by one.line))
    told = ap (λ (s : Said). outcome_at n (judge p s)) says ∙ one.judged

    pub record LineTaken (contacts ranges : List ℕ) (k : Counts) : Type 0 where
      pub contacts_fit : k.contacts ≤ most_contacts
      pub ranges_fit : k.ranges ≤ most_ranges
      pub leads : read_lines (n + 1) (plan_of contacts k.contacts ranges k.ranges) (lines_of (behind_first left)) ≡ read_lines n p (lines_of left)

    pub line_taken : {contacts ranges : List ℕ} {k : Counts} → Gives (outcome_at n (judge p said)) contacts ranges (Ok k) → LineTaken contacts ranges k
    line_taken {contacts} {ranges} (rows x y hx hy o) = record {
      contacts_fit = hx;
      ranges_fit = hy;
      leads =
          ap (λ (i : ℕ). read_lines i (plan_of contacts x ranges y) (lines_of (behind_first left))) (add-one n)
          ∙ sym (ap (read_lines n p) one.leads ∙ step_taken n p one.line (lines_of (behind_first left)) (plan_of contacts x ranges y) (sym told ∙ o));
    }

    pub line_refused : {contacts ranges : List ℕ} {why : Refusal} → Gives (outcome_at n (judge p said)) contacts ranges (Err why) → read_lines n p (lines_of left) ≡ Refused why
    line_refused (refused why o) =
        ap (read_lines n p) one.leads ∙ step_refused n p one.line (lines_of (behind_first left)) why (sym told ∙ o)

  pub all_read : (left : List ℕ) → length left ≤ 0 → read_lines n p (lines_of left) ≡ Accepted p
  unfolding read_lines lines_of
  all_read [] h = refl
  all_read (b ∷ bs) h = absurd (omega arith)
