-- The promises of `read` and `write` together.
--     writes_determined      two results that meet the promise of `write` are equal
--     write_after_read       writing what was read gives the bytes
--     read_after_write       reading what was written gives the plan
-- Assumes nothing.
use mathlib.Core.List.{List, ◌++◌}
use mathlib.Core.Path.{◌≡◌, refl, sym, ap, ap₂, ◌∙◌, subst}
use Prim.Native.Nat.{ℕ, ◌*◌, ◌≤◌}
use native.Mathlib.Omega.{arith}
use lib.ListN.{length, take, drop}
use lib.Seq.{take-append_seam}
use Rattle.std.specs.Prelude.{Result, Ok}
use Rattle.units.specs.declared.Refusal.{Refusal}
use Rattle.units.specs.Limits.{most_contacts, most_ranges}
use Rattle.plan.specs.Plan.{Plan}
use Rattle.plan.specs.Tables.{words, plan_of, IsPlan}
use Rattle.plan.proofs.Lent.{length_contacts, length_ranges}
use Rattle.text.specs.declared.answer.Counts.{Counts}
use Rattle.text.specs.Calls.{counts, Reads, few_contacts, few_ranges, refused, accepted, text_of, Writes, no_plan, too_short, written}
use Rattle.text.specs.Reading.{Accepted}
use Rattle.text.proofs.Calls.{read_counts, apart}
use Rattle.text.proofs.Theorems.{reads_text_determined, accepts_exactly}

pub writes_determined : {contacts ranges out : List ℕ} {m n : ℕ} {a b : Result ℕ Refusal} {out₁ out₂ : List ℕ} → Writes contacts m ranges n out a out₁
    → Writes contacts m ranges n out b out₂ → (a ≡ b) × (out₁ ≡ out₂)
writes_determined (no_plan f) (no_plan g) = (refl, refl)
writes_determined (no_plan f) (too_short p h) = absurd (f p)
writes_determined (no_plan f) (written p h) = absurd (f p)
writes_determined (too_short p h) (no_plan f) = absurd (f p)
writes_determined (too_short p h) (too_short q g) = (refl, refl)
writes_determined (too_short p h) (written q g) = absurd (omega arith)
writes_determined (written p h) (no_plan f) = absurd (f p)
writes_determined (written p h) (too_short q g) = absurd (omega arith)
writes_determined (written p h) (written q g) = (refl, refl)

-- ---- write after read

pub read_is_plan : {text contacts ranges cs rs : List ℕ} {m n : ℕ} → Reads text contacts ranges (Ok (counts m n)) cs rs
    → (text ≡ text_of cs m rs n) × IsPlan cs m rs n
read_is_plan {text} (accepted m n cs rs lc lr reads kc kr) =
    let t = (accepts_exactly text (plan_of cs m rs n)).0 reads in
    let count = read_counts text cs rs m n reads in (
      t.0,
      record {
        contacts_lent = omega (arith, lc, count.0, kc.same_length);
        ranges_lent = omega (arith, lr, count.1, kr.same_length);
        valid = t.1;
      },
    )

pub write_after_read : {text contacts ranges cs rs : List ℕ} {m n : ℕ} → Reads text contacts ranges (Ok (counts m n)) cs rs
    → {out out' : List ℕ} {a : Result ℕ Refusal} → Writes cs m rs n out a out' → length text ≤ length out
    → (a ≡ Ok (length text)) × (out' ≡ text ++ drop (length text) out)
write_after_read {text} {cs} {rs} {m} {n} reads {out} writes room =
    let t = read_is_plan reads in
    let e = t.0 in
    let told = writes_determined writes (written t.1 (subst (λ (bs : List ℕ). length bs ≤ length out) e room)) in (
      told.0 ∙ ap (λ (bs : List ℕ). Ok (length bs)) (sym e),
      told.1 ∙ ap (λ (bs : List ℕ). bs ++ drop (length bs) out) (sym e),
    )

-- ---- read after write

module _ {cs rs : List ℕ} {m n : ℕ} (p : IsPlan cs m rs n) where
  read_text : {contacts ranges ds ss : List ℕ} {a : Result Counts Refusal} → most_contacts * words ≤ length contacts → most_ranges * words ≤ length ranges
      → Reads (text_of cs m rs n) contacts ranges a ds ss → (a ≡ Ok (counts m n)) × (plan_of ds m ss n ≡ plan_of cs m rs n)
  read_text lc lr (few_contacts h) = absurd (omega arith)
  read_text lc lr (few_ranges h) = absurd (omega arith)
  read_text lc lr (refused why ld ls reads) =
      absurd (apart (reads_text_determined ((accepts_exactly (text_of cs m rs n) (plan_of cs m rs n)).1 (refl, p.valid)) reads))
  read_text lc lr (accepted i j ds ss ld ls reads kc kr) =
      let told : Accepted (plan_of ds i ss j) ≡ Accepted (plan_of cs m rs n) =
      reads_text_determined reads ((accepts_exactly (text_of cs m rs n) (plan_of cs m rs n)).1 (refl, p.valid))
      in
      let same : plan_of ds i ss j ≡ plan_of cs m rs n = cc in
      let ei : i ≡ m = sym (length_contacts ds i ss j) ∙ ap (λ (q : Plan). length q.contacts) same ∙ length_contacts cs m rs n in
      let ej : j ≡ n = sym (length_ranges ds i ss j) ∙ ap (λ (q : Plan). length q.ranges) same ∙ length_ranges cs m rs n in
      (ap₂ (λ (x y : ℕ). Ok (counts x y)) ei ej, ap₂ (λ (x y : ℕ). plan_of ds x ss y) (sym ei) (sym ej) ∙ same)

pub read_after_write : {cs rs out out' : List ℕ} {m n k : ℕ} → Writes cs m rs n out (Ok k) out'
    → {contacts ranges ds ss : List ℕ} {a : Result Counts Refusal} → most_contacts * words ≤ length contacts → most_ranges * words ≤ length ranges
    → Reads (take k out') contacts ranges a ds ss → (a ≡ Ok (counts m n)) × (plan_of ds m ss n ≡ plan_of cs m rs n)
read_after_write {cs} {rs} {out} {out'} {m} {n} {k} wrote {contacts} {ranges} {ds} {ss} {a} lc lr reads = go cs rs out m n k out' wrote reads
  where
    go : (cs rs out : List ℕ) (m n k : ℕ) (out' : List ℕ) → Writes cs m rs n out (Ok k) out'
        → Reads (take k out') contacts ranges a ds ss → (a ≡ Ok (counts m n)) × (plan_of ds m ss n ≡ plan_of cs m rs n)
    go cs rs out m n k out' (written p room) reads =
        read_text p lc lr
        (subst (λ (bs : List ℕ). Reads bs contacts ranges a ds ss) (take-append_seam (text_of cs m rs n) (drop (length (text_of cs m rs n)) out)) reads)
