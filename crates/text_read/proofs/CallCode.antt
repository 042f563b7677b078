-- What the public call and the function with the local tables know of the promise.
--     copy_kept, copy_rows               the first words of one table in another
--     gives_rows, copied_rows, copied_refused      from the local tables into the lent ones
--     header_told, header_there          whether the text begins with the header
--     headless_read, body_read           the text, by its header
-- Assumes nothing.
use Rattle.std.proofs.Common.{Bool, true, false, ◌≡◌, ℕ, ◌+◌, ◌*◌, ◌≤◌, ◌<◌, List, ◌++◌, length, take, drop, get_or, refl, sym, ap, ◌∙◌, subst, arith, length-append, length-take, length-drop, nat_eq, Ok, Err}
use mathlib.Core.Path.{ap₂}
use borrow.Author.Tests.{le-ltb}
use lib.ListN.{get_or-append}
use lib.Pointwise.{pointwise}
use lib.Seq.{drop_at, get_or-take}
use Rattle.std.specs.Prelude.{Result}
use Rattle.units.specs.declared.Refusal.{Refusal}
use Rattle.units.specs.declared.Refusal.TheVariants.{NoHeader}
use Rattle.units.specs.Limits.{most_contacts, most_ranges, most_text}
use Rattle.plan.specs.declared.rows.Contact.{Contact}
use Rattle.plan.specs.declared.rows.Range.{Range}
use Rattle.plan.specs.declared.rows.Span.{Span}
use Rattle.plan.specs.Plan.{Plan}
use Rattle.plan.specs.RowKinds.{contact_laws, range_laws}
use Rattle.plan.specs.Rows.{RowLaws}
use Rattle.plan.specs.Verdict.{Verdict, holds, fails}
use Rattle.plan.specs.Tables.{words, contact_at, range_at, rows_from, plan_of}
use Rattle.plan.proofs.RowList.{rows_agree}
use Rattle.plan.proofs.Verdicts.{true_holds}
use Rattle.text.specs.declared.answer.Counts.{Counts}
use Rattle.text.specs.Calls.{Kept, Reads, refused, accepted}
use Rattle.text.specs.Lines.{lines_of}
use Rattle.text.specs.Model.{same, read_lines, read_model, no_rows}
use Rattle.text.specs.Reading.{Outcome, Accepted, Refused, ReadsText}
use Rattle.text.specs.Rows.{header}
use Rattle.text.proofs.Shapes.{same_tells}
use Rattle.text.proofs.Theorems.{model_reads}
use Rattle.text_lines.proofs.BytesCode.{same_is}
use Rattle.text_rows.specs.Tables as given
use Rattle.text_rows.specs.Tables.{Gives}
use Rattle.text_read.specs.Tables as inside
use Rattle.text_read.specs.Tables.{Copied}

-- ---- the first words of one table in another

module _ (from to : List ℕ) (n : ℕ) (has : n * words ≤ length from) (room : n * words ≤ length to) where
  front_length : length (take (n * words) from) ≡ n * words
  front_length = rw length-take (omega arith)

  pub copy_kept : Kept n to (take (n * words) from ++ drop (n * words) to)
  copy_kept = record {
    same_length = length-append (take (n * words) from) (drop (n * words) to) ∙ omega (arith, front_length, length-drop (n * words) to);
    rest = drop_at (take (n * words) from) (drop (n * words) to) (n * words) front_length;
  }

  word_there : (i : ℕ) → i < n * words → get_or (take (n * words) from ++ drop (n * words) to) i 0 ≡ get_or from i 0
  word_there i h =
      let l : i < length (take (n * words) from) = omega (arith, front_length) in
      get_or-append (take (n * words) from) (drop (n * words) to) 0 i l ∙ get_or-take (n * words) from i 0 h

  pub copy_rows : {R : Type 0} {row_at : List ℕ → ℕ → R} {span_of : R → Span} {good : R → Bool} {words_of : R → List ℕ} → RowLaws row_at span_of good words_of
      → rows_from (row_at (take (n * words) from ++ drop (n * words) to)) 0 n ≡ rows_from (row_at from) 0 n
  copy_rows {row_at} laws = rows_agree (row_at (take (n * words) from ++ drop (n * words) to)) (row_at from) 0 n (λ j h.
      let has = laws.has_words from j in
      laws.read_back (take (n * words) from ++ drop (n * words) to) j (row_at from j) (record {
        word_0 = word_there (j * words) (omega arith) ∙ has.word_0;
        word_1 = word_there (j * words + 1) (omega arith) ∙ has.word_1;
        word_2 = word_there (j * words + 2) (omega arith) ∙ has.word_2;
        word_3 = word_there (j * words + 3) (omega arith) ∙ has.word_3;
        word_4 = word_there (j * words + 4) (omega arith) ∙ has.word_4;
      }))

-- ---- from the local tables into the lent ones

module _ {o : Outcome} {passes lights : List ℕ} where
  pub gives_rows : {k : Counts} → Gives o passes lights (Ok k)
      → (k.contacts ≤ most_contacts) × (k.ranges ≤ most_ranges) × (o ≡ Accepted (plan_of passes k.contacts lights k.ranges))
  gives_rows (given.rows m n hm hn e) = (hm, hn, e)

  pub copied_refused : {why : Refusal} (contacts ranges : List ℕ) → Gives o passes lights (Err why) → Copied o contacts ranges contacts ranges (Err why)
  copied_refused contacts ranges (given.refused why e) = inside.refused why e refl refl

  pub copied_rows : {k : Counts} (contacts ranges : List ℕ) → Gives o passes lights (Ok k) → k.contacts * words ≤ length passes → k.ranges * words ≤ length lights
      → k.contacts * words ≤ length contacts → k.ranges * words ≤ length ranges → (contacts' ranges' : List ℕ)
      → contacts' ≡ take (k.contacts * words) passes ++ drop (k.contacts * words) contacts
      → ranges' ≡ take (k.ranges * words) lights ++ drop (k.ranges * words) ranges → Copied o contacts ranges contacts' ranges' (Ok k)
  unfolding plan_of
  copied_rows contacts ranges (given.rows m n hm hn e) hp hl hc hr contacts' ranges' ec er =
      inside.rows m n
      (e
      ∙ ap Accepted
      (ap₂ {C = Plan} (λ (cs : List Contact) (rs : List Range). record { contacts = cs; ranges = rs })
      (sym (ap (λ (t : List ℕ). rows_from (contact_at t) 0 m) ec ∙ copy_rows passes contacts m hp hc contact_laws))
      (sym (ap (λ (t : List ℕ). rows_from (range_at t) 0 n) er ∙ copy_rows lights ranges n hl hr range_laws))))
      (subst (Kept m contacts) (sym ec) (copy_kept passes contacts m hp hc))
      (subst (Kept n ranges) (sym er) (copy_kept lights ranges n hl hr))

-- ---- the text

same_sym : (xs ys : List ℕ) → same xs ys ≡ same ys xs
same_sym xs ys = go (same_tells xs ys) (same_tells ys xs)
  where
    go : {a b : Bool} → Verdict (xs ≡ ys) a → Verdict (ys ≡ xs) b → a ≡ b
    go (holds e) (holds f) = refl
    go (holds e) (fails n) = absurd (n (sym e))
    go (fails n) (holds e) = absurd (n (sym e))
    go (fails n) (fails m) = refl

-- the header stands at the front, or not, as the library's `starts_with` answered
pub header_told : (text : List ℕ) (b : Bool) → b ≡ pointwise nat_eq header (take (length header) text) → b ≡ same (take (length header) text) header
header_told text b e = e ∙ same_is header (take (length header) text) ∙ same_sym header (take (length header) text)

module _ (text : List ℕ) where
  pub header_there : (b : Bool) → b ≡ same (take (length header) text) header → b ≡ true → length header ≤ length text
  unfolding header
  header_there b eb e =
      let whole : take (length header) text ≡ header = true_holds (same_tells (take (length header) text) header) (sym eb ∙ e) in
      omega (arith, length-take 7 text, ap length whole)

  module _ (short : length text ≤ most_text) (b : Bool) (eb : b ≡ same (take (length header) text) header) where
    pub headless_read : b ≡ false → ReadsText text (Refused NoHeader)
    unfolding read_model
    headless_read e = subst (ReadsText text) told (model_reads text)
      where
        told : read_model text ≡ Refused NoHeader
        told = rw (le-ltb most_text (length text) short, sym eb ∙ e)

    pub body_model : b ≡ true → read_model text ≡ read_lines 2 no_rows (lines_of (drop (length header) text))
    unfolding read_model
    body_model e = rw (le-ltb most_text (length text) short, sym eb ∙ e)

    pub body_read : b ≡ true → (contacts ranges contacts' ranges' : List ℕ) (r : Result Counts Refusal) → most_contacts * words ≤ length contacts
        → most_ranges * words ≤ length ranges
        → Copied (read_lines 2 no_rows (lines_of (drop (length header) text))) contacts ranges contacts' ranges' r
        → Reads text contacts ranges r contacts' ranges'
    body_read e contacts ranges contacts' ranges' r lc lr copied = go copied
      where
        reads : (o : Outcome) → read_lines 2 no_rows (lines_of (drop (length header) text)) ≡ o → ReadsText text o
        reads o eo = subst (ReadsText text) (body_model e ∙ eo) (model_reads text)

        go : {s : Result Counts Refusal} → Copied (read_lines 2 no_rows (lines_of (drop (length header) text))) contacts ranges contacts' ranges' s
            → Reads text contacts ranges s contacts' ranges'
        go (inside.rows m n eo kc kr) = accepted m n contacts' ranges' lc lr (reads (Accepted (plan_of contacts' m ranges' n)) eo) kc kr
        go (inside.refused why eo ec er) =
            subst (λ (cs : List ℕ). Reads text contacts ranges (Err why) cs ranges') (sym ec)
            (subst (λ (rs : List ℕ). Reads text contacts ranges (Err why) contacts rs) (sym er) (refused why lc lr (reads (Refused why) eo)))
