-- The promise of `read` determines its answer and every lent word.
--     reads_determined      two results that meet it are equal
--     table-determined      a table is told by its rows and what stands after them
-- Assumes nothing.
use mathlib.Core.List.{List, [], ◌∷◌, ◌++◌, map}
use mathlib.Core.Path.{◌≡◌, refl, sym, ap, ap₂, ◌∙◌, subst}
use Prim.Native.Nat.{ℕ, zero, suc, ◌+◌, ◌*◌, ◌≤◌, ◌<◌}
use native.Mathlib.Numerals.{add-one}
use native.Mathlib.Omega.{arith}
use lib.ListN.{length, get_or, take, drop, take-append-drop}
use lib.Seq.{drop-cons}
use Rattle.std.specs.Prelude.{Result, Ok, Err}
use Rattle.units.specs.declared.Refusal.{Refusal}
use Rattle.units.specs.Limits.{most_contacts, most_ranges}
use Rattle.plan.specs.declared.rows.Contact.{Contact}
use Rattle.plan.specs.declared.rows.Range.{Range}
use Rattle.plan.specs.Plan.{Plan}
use Rattle.plan.specs.Tables.{words, contact_at, range_at, rows_from, plan_of}
use Rattle.plan.proofs.Lent.{length_contacts, length_ranges}
use Rattle.plan.proofs.RowList.{map_rows}
use Rattle.text.specs.declared.answer.Counts.{Counts}
use Rattle.text.specs.Calls.{counts, Kept, Reads, few_contacts, few_ranges, refused, accepted}
use Rattle.text.specs.Reading.{Accepted, Refused, ReadsText}
use Rattle.text.proofs.Theorems.{reads_text_determined, accepts_exactly}

-- ---- the words of rows

abbrev row_words : List ℕ → ℕ → List ℕ
row_words t k =
    get_or t (k * words) 0 ∷ get_or t (k * words + 1) 0 ∷ get_or t (k * words + 2) 0 ∷ get_or t (k * words + 3) 0 ∷ get_or t (k * words + 4) 0 ∷ []

joined : List (List ℕ) → List ℕ
joined [] = []
joined (ws ∷ rest) = ws ++ joined rest

-- a row of a table, and the words after it
one_row : (t : List ℕ) (k : ℕ) → k * words + words ≤ length t → drop (k * words) t ≡ row_words t k ++ drop (suc k * words) t
one_row t k h =
    word (k * words) (omega arith)
    ∙ ap (λ (r : List ℕ). get_or t (k * words) 0 ∷ r)
    (word (k * words + 1) (omega arith) ∙ ap (λ (r : List ℕ). get_or t (k * words + 1) 0 ∷ r)
    (on (k * words + 1) (k * words + 2) (omega arith) ∙ word (k * words + 2) (omega arith) ∙ ap (λ (r : List ℕ). get_or t (k * words + 2) 0 ∷ r)
    (on (k * words + 2) (k * words + 3) (omega arith) ∙ word (k * words + 3) (omega arith) ∙ ap (λ (r : List ℕ). get_or t (k * words + 3) 0 ∷ r)
    (on (k * words + 3) (k * words + 4) (omega arith) ∙ word (k * words + 4) (omega arith) ∙ ap (λ (r : List ℕ). get_or t (k * words + 4) 0 ∷ r)
    (on (k * words + 4) (suc k * words) (omega arith))))))
  where
    word : (i : ℕ) → i < length t → drop i t ≡ get_or t i 0 ∷ drop (i + 1) t
    word i g = drop-cons t i 0 g ∙ ap (λ (j : ℕ). get_or t i 0 ∷ drop j t) (sym (add-one i))

    on : (i j : ℕ) → i + 1 ≡ j → drop (i + 1) t ≡ drop j t
    on i j e = ap (λ (n : ℕ). drop n t) e

rows_words : (t : List ℕ) (k n : ℕ) → k * words + n * words ≤ length t → joined (rows_from (row_words t) k n) ≡ take (n * words) (drop (k * words) t)
unfolding rows_from joined
rows_words t k zero h = refl
rows_words t k (suc n) h =
    let five : suc n * words ≡ suc (suc (suc (suc (suc (n * words))))) = omega arith in
    ap (λ (rest : List ℕ). row_words t k ++ rest) (rows_words t (suc k) n (omega arith))
    ∙ sym (ap₂ (λ (i : ℕ) (l : List ℕ). take i l) five (one_row t k (omega arith)))

front : (t : List ℕ) (n : ℕ) → n * words ≤ length t → take (n * words) t ≡ joined (rows_from (row_words t) 0 n)
front t n h = sym (rows_words t 0 n (omega arith))

same_front : (t u : List ℕ) (n : ℕ) → n * words ≤ length t → n * words ≤ length u → rows_from (row_words t) 0 n ≡ rows_from (row_words u) 0 n
    → take (n * words) t ≡ take (n * words) u
same_front t u n ht hu e = front t n ht ∙ ap joined e ∙ sym (front u n hu)

contact_words : Contact → List ℕ
contact_words c = c.start.0 ∷ c.end.0 ∷ c.from.0 ∷ c.to.0 ∷ c.rate ∷ []

range_words : Range → List ℕ
range_words r = r.start.0 ∷ r.end.0 ∷ r.a.0 ∷ r.b.0 ∷ r.light.0 ∷ []

module _ (t u before : List ℕ) (n : ℕ) (room : n * words ≤ length before) (kt : Kept n before t) (ku : Kept n before u) where
  rejoined : take (n * words) t ≡ take (n * words) u → t ≡ u
  rejoined e =
      sym (take-append-drop (n * words) t)
      ∙ ap₂ (λ (a b : List ℕ). a ++ b) e (kt.rest ∙ sym ku.rest)
      ∙ take-append-drop (n * words) u

  contacts_determined : rows_from (contact_at t) 0 n ≡ rows_from (contact_at u) 0 n → t ≡ u
  unfolding contact_words
  contacts_determined e =
      rejoined (same_front t u n (omega (arith, kt.same_length)) (omega (arith, ku.same_length))
      (sym (map_rows contact_words (contact_at t) 0 n) ∙ ap (map contact_words) e ∙ map_rows contact_words (contact_at u) 0 n))

  ranges_determined : rows_from (range_at t) 0 n ≡ rows_from (range_at u) 0 n → t ≡ u
  unfolding range_words
  ranges_determined e =
      rejoined (same_front t u n (omega (arith, kt.same_length)) (omega (arith, ku.same_length))
      (sym (map_rows range_words (range_at t) 0 n) ∙ ap (map range_words) e ∙ map_rows range_words (range_at u) 0 n))

-- ---- the promise

-- the two counts of a plan that is read are within the tables
pub read_counts : (text contacts ranges : List ℕ) (m n : ℕ) → ReadsText text (Accepted (plan_of contacts m ranges n)) → (m ≤ most_contacts) × (n ≤ most_ranges)
read_counts text contacts ranges m n reads =
    let valid = ((accepts_exactly text (plan_of contacts m ranges n)).0 reads).1 in (
      subst (λ (k : ℕ). k ≤ most_contacts) (length_contacts contacts m ranges n) valid.contacts_most,
      subst (λ (k : ℕ). k ≤ most_ranges) (length_ranges contacts m ranges n) valid.ranges_most,
    )

pub apart : {p : Plan} {w : Refusal} → Accepted p ≡ Refused w → ⊥
apart e = let z : ◌≡◌ {A = ℕ} 0 1 = cc in omega arith

abbrev Same : Result Counts Refusal → List ℕ → List ℕ → Result Counts Refusal → List ℕ → List ℕ → Type 0
Same a cs rs b ds ss = (a ≡ b) × (cs ≡ ds) × (rs ≡ ss)

module _ {text contacts ranges : List ℕ} (lc : most_contacts * words ≤ length contacts) (lr : most_ranges * words ≤ length ranges) where
  both_accepted : (m n m' n' : ℕ) (cs rs ds ss : List ℕ) → ReadsText text (Accepted (plan_of cs m rs n)) → ReadsText text (Accepted (plan_of ds m' ss n'))
      → Kept m contacts cs → Kept n ranges rs → Kept m' contacts ds → Kept n' ranges ss → Same (Ok (counts m n)) cs rs (Ok (counts m' n')) ds ss
  unfolding plan_of
  both_accepted m n m' n' cs rs ds ss r r' kc kr kd ks =
      let told : Accepted (plan_of cs m rs n) ≡ Accepted (plan_of ds m' ss n') = reads_text_determined r r' in
      let same : plan_of cs m rs n ≡ plan_of ds m' ss n' = cc in
      let count = read_counts text cs rs m n r in
      let em : m' ≡ m = sym (length_contacts ds m' ss n') ∙ ap (λ (p : Plan). length p.contacts) (sym same) ∙ length_contacts cs m rs n in
      let en : n' ≡ n = sym (length_ranges ds m' ss n') ∙ ap (λ (p : Plan). length p.ranges) (sym same) ∙ length_ranges cs m rs n in (
        ap₂ (λ (i j : ℕ). Ok (counts i j)) (sym em) (sym en),
        contacts_determined cs ds contacts m (omega (arith, count.0)) kc (subst (λ (k : ℕ). Kept k contacts ds) em kd)
            (ap (λ (p : Plan). p.contacts) same ∙ ap (rows_from (contact_at ds) 0) em),
        ranges_determined rs ss ranges n (omega (arith, count.1)) kr (subst (λ (k : ℕ). Kept k ranges ss) en ks)
            (ap (λ (p : Plan). p.ranges) same ∙ ap (rows_from (range_at ss) 0) en),
      )

pub reads_determined : {text contacts ranges : List ℕ} {a b : Result Counts Refusal} {cs rs ds ss : List ℕ} → Reads text contacts ranges a cs rs
    → Reads text contacts ranges b ds ss → (a ≡ b) × (cs ≡ ds) × (rs ≡ ss)
reads_determined (few_contacts h) (few_contacts h') = (refl, refl, refl)
reads_determined (few_contacts h) (few_ranges h') = (refl, refl, refl)
reads_determined (few_contacts h) (refused w lc lr r) = absurd (omega arith)
reads_determined (few_contacts h) (accepted m n cs rs lc lr r kc kr) = absurd (omega arith)
reads_determined (few_ranges h) (few_contacts h') = (refl, refl, refl)
reads_determined (few_ranges h) (few_ranges h') = (refl, refl, refl)
reads_determined (few_ranges h) (refused w lc lr r) = absurd (omega arith)
reads_determined (few_ranges h) (accepted m n cs rs lc lr r kc kr) = absurd (omega arith)
reads_determined (refused w lc lr r) (few_contacts h) = absurd (omega arith)
reads_determined (refused w lc lr r) (few_ranges h) = absurd (omega arith)
reads_determined (refused w lc lr r) (refused v ld ls s) =
    let told : Refused w ≡ Refused v = reads_text_determined r s in
    let same : w ≡ v = cc in
    (ap Err same, refl, refl)
reads_determined (refused w lc lr r) (accepted m n cs rs ld ls s kc kr) = absurd (apart (reads_text_determined s r))
reads_determined (accepted m n cs rs lc lr r kc kr) (few_contacts h) = absurd (omega arith)
reads_determined (accepted m n cs rs lc lr r kc kr) (few_ranges h) = absurd (omega arith)
reads_determined (accepted m n cs rs lc lr r kc kr) (refused w ld ls s) = absurd (apart (reads_text_determined r s))
reads_determined (accepted m n cs rs lc lr r kc kr) (accepted m' n' ds ss ld ls s kd ks) = both_accepted lc lr m n m' n' cs rs ds ss r s kc kr kd ks
