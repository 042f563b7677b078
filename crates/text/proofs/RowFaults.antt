-- Rows of one kind, contacts or ranges: the first fault of one row more, or that they stay good.
--     row_judged        what `row_fault` finds of a row
--     rows_more         good rows with one more that fits
--     row_faultless     a row among good rows has no fault after those before it
-- Assumes nothing.
use mathlib.Core.Bool.{Bool, true, false, not, ◌&&◌, cond}
use mathlib.Core.Path.{refl, sym, subst}
use mathlib.Core.List.Memᴰ
use mathlib.Core.List.{List, [], ◌∷◌, ◌++◌, map, map-append, Memᴰ}
use mathlib.Core.Logic.{⊎_elim}
use Rattle.std.specs.Prelude.{Option, None, Some}
use Prim.Native.Nat.{ℕ, ◌≤◌, ◌<◌}
use native.Mathlib.Omega.{arith}
use lib.ListN.{length, length-append}
use Rattle.plan.specs.declared.rows.Span.{Span}
use Rattle.plan.specs.Model.{overlap, each}
use Rattle.plan.specs.Plan.{Overlap, Each, NoTwo}
use Rattle.plan.specs.Verdict.{Verdict, holds, fails}
use Rattle.plan.proofs.Tests.{overlap_tells}
use Rattle.plan.proofs.Verdicts.{tells_le}
use Rattle.text.specs.Model.{row_fault}
use Rattle.text.specs.Reading.{Fault, too_many, bad_value, overlapping, order, RowFault, full, bad, meets}
use Rattle.text.proofs.Members.{each_mem, mem_each, no_two_meets, no_two_more}

module _ {A : Type 0} (most : ℕ) (Good : A → Type 0) (span : A → Span) where
  -- what a valid plan says of the rows of one kind
  pub record GoodRows (rows : List A) : Type 0 where
    pub fit : length rows ≤ most
    pub good : Each Good rows
    pub apart : NoTwo Overlap (map span rows)

  -- nothing is against one row more
  pub record Fits (earlier : List A) (row : A) : Type 0 where
    pub room : length earlier < most
    pub good : Good row
    pub clear : (other : A) → Memᴰ other earlier → Overlap (span other) (span row) → ⊥

  pub rows_more : (rows : List A) (row : A) → GoodRows rows → Fits rows row → GoodRows (rows ++ (row ∷ []))
  rows_more rows row g f = record {
    fit = rw length-append (omega (arith, f.room));
    good = mem_each Good (rows ++ (row ∷ [])) each_good;
    apart = rw map-append (no_two_more Overlap (map span rows) (span row) g.apart clear);
  }
    where
      each_good : (x : A) → Memᴰ x (rows ++ (row ∷ [])) → Good x
      each_good x m =
          ⊎_elim (λ h. each_mem Good rows g.good h) (λ h. subst Good (sym (Memᴰ.eq_of_singleton h)) f.good) (Memᴰ.append_cases rows m)

      clear : (s : Span) → Memᴰ s (map span rows) → Overlap s (span row) → ⊥
      clear s m o = let x = Memᴰ.of_map span rows m in f.clear x.0 x.1 (subst (λ (s : Span). Overlap s (span row)) (sym x.2) o)

  -- a row among good rows has no fault after those before it
  pub row_faultless : (earlier : List A) (row : A) (later : List A) → GoodRows (earlier ++ row ∷ later) → {f : Fault} → RowFault most Good span earlier row f → ⊥
  row_faultless earlier row later g (full h) = omega (arith, h, rw length-append at g.fit)
  row_faultless earlier row later g (bad h) = h (each_mem Good (earlier ++ row ∷ later) g.good (Memᴰ.append_right earlier (Memᴰ.head refl)))
  row_faultless earlier row later g (meets other m o) =
      no_two_meets Overlap (map span earlier) (span row) (map span later) (rw map-append at g.apart) (Memᴰ.map span m) o

  -- what is found of a row: its first fault, or none
  pub data RowJudged (earlier : List A) (row : A) : Option Fault → Type 0 where
    fine : Fits earlier row → RowJudged earlier row None
    at_fault : {f : Fault} → RowFault most Good span earlier row f → ((g : Fault) → RowFault most Good span earlier row g → order f ≤ order g)
        → RowJudged earlier row (Some f)

  -- a row's faults come after the shape and the place among the lines
  pub row_order : (earlier : List A) (row : A) (g : Fault) → RowFault most Good span earlier row g → 2 ≤ order g
  unfolding order
  row_order earlier row g (full h) = omega arith
  row_order earlier row g (bad h) = omega arith
  row_order earlier row g (meets other m o) = omega arith

  -- the earlier rows looked through for one that overlaps
  data Looked (earlier : List A) (row : A) : Bool → Type 0 where
    none_meets : ((other : A) → Memᴰ other earlier → Overlap (span other) (span row) → ⊥) → Looked earlier row true
    one_meets : (other : A) → Memᴰ other earlier → Overlap (span other) (span row) → Looked earlier row false

  look : (earlier : List A) (row : A) → Looked earlier row (each (λ s. not (overlap s (span row))) (map span earlier))
  unfolding each
  look [] row = none_meets (λ other m. absurd (Memᴰ.not-nil m))
  look (x ∷ xs) row = go (overlap_tells (span x) (span row)) (look xs row)
    where
      go : {b c : Bool} → Verdict (Overlap (span x) (span row)) b → Looked xs row c → Looked (x ∷ xs) row (not b && c)
      go (holds o) rest = one_meets x (Memᴰ.head refl) o
      go (fails n) (none_meets f) =
          none_meets (λ other m o. ⊎_elim (λ e. n (subst (λ (y : A). Overlap (span y) (span row)) e o)) (λ h. f other h o) (Memᴰ.cases_cons m))
      go (fails n) (one_meets other m o) = one_meets other (Memᴰ.tail m) o

  module _ (good : A → Bool) (tells : (row : A) → Verdict (Good row) (good row)) (earlier : List A) (row : A) where
    pub row_judged : RowJudged earlier row (row_fault most good span earlier row)
    unfolding row_fault order
    row_judged = go (tells_le most (length earlier)) (tells row) (look earlier row)
      where
        from_bad : (most ≤ length earlier → ⊥) → (g : Fault) → RowFault most Good span earlier row g → 3 ≤ order g
        from_bad room g (full h) = absurd (room h)
        from_bad room g (bad h) = omega arith
        from_bad room g (meets other m o) = omega arith

        from_meets : (most ≤ length earlier → ⊥) → Good row → (g : Fault) → RowFault most Good span earlier row g → 4 ≤ order g
        from_meets room is-good g (full h) = absurd (room h)
        from_meets room is-good g (bad h) = absurd (h is-good)
        from_meets room is-good g (meets other m o) = omega arith

        go : {a b c : Bool} → Verdict (most ≤ length earlier) a → Verdict (Good row) b → Looked earlier row c
            → RowJudged earlier row (cond a (Some too_many) (cond (not b) (Some bad_value) (cond c None (Some overlapping))))
        go (holds h) v w = at_fault (full h) (row_order earlier row)
        go (fails h) (fails n) w = at_fault (bad n) (from_bad h)
        go (fails h) (holds g) (none_meets f) = fine (record { room = omega arith; good = g; clear = f })
        go (fails h) (holds g) (one_meets other m o) = at_fault (meets other m o) (from_meets h g)
