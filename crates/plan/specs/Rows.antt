-- What contacts and ranges have in common, as rows of a table: what each type of row must prove of its members. A reader of the promises may skip it.
--     IsGoodSpan      a pair of nodes, and a time that starts before it ends
--     HasWords        a row of a table has those five words
--     RowLaws         the span of the row at a place is the span there; a good row has a good span; five words make the row
-- Assumes nothing.
use Rattle.std.specs.Prelude.{Bool, true, ◌≡◌, List, [], ◌∷◌, ℕ, ◌+◌, ◌*◌, ◌<◌, get_or}
use Rattle.units.specs.Limits.{IsNode}
use Rattle.plan.specs.declared.rows.Contact.{Contact}
use Rattle.plan.specs.declared.rows.Range.{Range}
use Rattle.plan.specs.declared.rows.Span.{Span}
use Rattle.plan.specs.Tables.{words, span_at}

pub record IsGoodSpan (s : Span) : Type 0 where
  pub starts : s.start.0 < s.end.0
  pub one_node : IsNode s.one
  pub other_node : IsNode s.other

-- row k of the table is these words
pub record HasWords (t : List ℕ) (k : ℕ) (row : List ℕ) : Type 0 where
  pub word_0 : get_or t (k * words) 0 ≡ get_or row 0 0
  pub word_1 : get_or t (k * words + 1) 0 ≡ get_or row 1 0
  pub word_2 : get_or t (k * words + 2) 0 ≡ get_or row 2 0
  pub word_3 : get_or t (k * words + 3) 0 ≡ get_or row 3 0
  pub word_4 : get_or t (k * words + 4) 0 ≡ get_or row 4 0

pub record RowLaws {R : Type 0} (row_at : List ℕ → ℕ → R) (span_of : R → Span) (good : R → Bool) (words_of : R → List ℕ) : Type 0 where
  pub spans : (t : List ℕ) (k : ℕ) → span_of (row_at t k) ≡ span_at t k
  pub good_span : (x : R) → good x ≡ true → IsGoodSpan (span_of x)
  pub read_back : (t : List ℕ) (k : ℕ) (x : R) → HasWords t k (words_of x) → row_at t k ≡ x
  pub has_words : (t : List ℕ) (k : ℕ) → HasWords t k (words_of (row_at t k))

-- the five words of a row
abbrev pub contact_words : Contact → List ℕ
contact_words c = c.start.0 ∷ c.end.0 ∷ c.from.0 ∷ c.to.0 ∷ c.rate ∷ []

abbrev pub range_words : Range → List ℕ
range_words r = r.start.0 ∷ r.end.0 ∷ r.a.0 ∷ r.b.0 ∷ r.light.0 ∷ []
