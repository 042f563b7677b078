-- The fold over the lines finds the plan, or the first fault.
--     first_fault_determined      of the same lines there is one first fault
--     no_fault                    the lines of a valid plan have none
--     lines_read                  what `read_lines` gives
-- Assumes nothing.
use mathlib.Core.Path.{◌≡◌, refl, sym, ap, ◌∙◌, subst, subst₂}
use mathlib.Core.List.{List, [], ◌∷◌, ◌++◌, append-nil, append_assoc, head-eq_of_cons-eq, tail-eq_of_cons-eq}
use Prim.Native.Nat.{ℕ, suc, ◌+◌, ◌≤◌}
use native.Mathlib.Nat.{le_antisymm, le_refl, le_of_eq, not-suc-le-zero, le_of_suc-le-suc}
use native.Mathlib.Decide.{dec_le}
use native.Mathlib.Omega.{arith}
use lib.ListN.{length, get_or, length-append}
use Rattle.plan.specs.Plan.{Plan, Valid}
use Rattle.text.specs.Lines.{Line}
use Rattle.text.specs.Model.{Judged, faulty, taken, read_lines}
use Rattle.text.specs.Reading.{Fault, bad_shape, after_range, too_many, bad_value, overlapping, order, refusal_of, HasFault, FaultAt, FirstFault, Outcome, Accepted, Refused}
use Rattle.text.specs.Rows.{plan_lines}
use Rattle.text.proofs.Faults.{LineJudged, found, more, line_judged, line_faultless}
use Rattle.text.proofs.Rows.{plan_lines_injective}

-- ---- one first fault

order_injective : (f g : Fault) → order f ≡ order g → f ≡ g
unfolding order
order_injective f g e = sym (back f) ∙ ap told e ∙ back g
  where
    told : ℕ → Fault
    told n = get_or (bad_shape ∷ after_range ∷ too_many ∷ bad_value ∷ overlapping ∷ []) n bad_shape

    back : (f : Fault) → told (order f) ≡ f
    back bad_shape = refl
    back after_range = refl
    back too_many = refl
    back bad_value = refl
    back overlapping = refl

pub first_fault_determined : {ls : List Line} {j k : ℕ} {f g : Fault} → FirstFault ls j f → FirstFault ls k g → (j ≡ k) × (f ≡ g)
first_fault_determined {ls} {j} {k} {f} {g} a b =
    let line : j ≡ k = le_antisymm (a.least k g b.found) (b.least j f a.found) in
    let f-first = a.first g (subst (λ (n : ℕ). FaultAt ls n g) (sym line) b.found) in
    let g-first = b.first f (subst (λ (n : ℕ). FaultAt ls n f) line a.found) in
    (line, order_injective f g (le_antisymm f-first g-first))

pub no_fault : (p : Plan) → Valid p → {k : ℕ} {f : Fault} → FaultAt (plan_lines p) k f → ⊥
no_fault p v at = line_faultless p at.rows at.line at.after v at.stands at.has

-- ---- the lines before a fault

-- of two ways to cut a list the shorter front is the front of the longer
front : {A : Type 0} (xs ys zs ws : List A) → xs ++ zs ≡ ys ++ ws → length ys ≤ length xs → (mid : List A) × (xs ≡ ys ++ mid) × (ws ≡ mid ++ zs)
front xs [] zs ws e h = (xs, refl, sym e)
front [] (y ∷ ys) zs ws e h = absurd (not-suc-le-zero h)
front (x ∷ xs) (y ∷ ys) zs ws e h =
    let t = front xs ys zs ws (tail-eq_of_cons-eq e) (le_of_suc-le-suc h) in
    (t.0, λ i. head-eq_of_cons-eq e i ∷ t.1 i, t.2)

module _ (rows : Plan) (v : Valid rows) (l : Line) (ls all : List Line) (stands : all ≡ plan_lines rows ++ l ∷ ls) where
  -- a fault no later than the line after the rows is one of that line
  no_sooner : {j : ℕ} {g : Fault} → FaultAt all j g → j ≤ length (plan_lines rows) → (length (plan_lines rows) ≡ j) × HasFault rows l g
  no_sooner {j} {g} at h =
      let t = front (plan_lines rows) (plan_lines at.rows) (l ∷ ls) (at.line ∷ at.after) (sym stands ∙ at.stands) (omega (arith, at.place)) in
      go t.0 t.1 t.2
    where
      go : (mid : List Line) → plan_lines rows ≡ plan_lines at.rows ++ mid → at.line ∷ at.after ≡ mid ++ l ∷ ls
          → (length (plan_lines rows) ≡ j) × HasFault rows l g
      go [] e f =
          let same : plan_lines rows ≡ plan_lines at.rows = e ∙ append-nil (plan_lines at.rows) in (
            ap length same ∙ at.place,
            subst₂ (λ (q : Plan) (k : Line). HasFault q k g) (sym (plan_lines_injective rows at.rows same)) (head-eq_of_cons-eq f) at.has,
          )
      go (m ∷ mid) e f =
          absurd (line_faultless rows at.rows m mid v e (subst (λ (k : Line). HasFault at.rows k g) (head-eq_of_cons-eq f) at.has))

  first_fault : {f : Fault} → HasFault rows l f → ((g : Fault) → HasFault rows l g → order f ≤ order g) → FirstFault all (length (plan_lines rows)) f
  first_fault has first = record {
    found = record { rows = rows; line = l; after = ls; stands = stands; place = refl; has = has };
    least = least;
    first = λ g at. first g (no_sooner at (le_refl _)).1;
  }
    where
      least : (j : ℕ) (g : Fault) → FaultAt all j g → length (plan_lines rows) ≤ j
      least j g at = elim (dec_le (length (plan_lines rows)) j) [ yes h ↦ h | no h ↦ le_of_eq (no_sooner at (omega arith)).0 ]

-- ---- line by line

-- what the lines after the header give
pub data LinesRead (ls : List Line) : Outcome → Type 0 where
  plan_read : (p : Plan) → ls ≡ plan_lines p → Valid p → LinesRead ls (Accepted p)
  line_refused : (k : ℕ) (f : Fault) → FirstFault ls k f → LinesRead ls (Refused (refusal_of f (k + 2)))

pub lines_read : (n : ℕ) (rows : Plan) (ls all : List Line) → Valid rows → all ≡ plan_lines rows ++ ls → n ≡ length (plan_lines rows) + 2
    → LinesRead all (read_lines n rows ls)
unfolding read_lines
lines_read n rows [] all v e count = plan_read rows (e ∙ append-nil (plan_lines rows)) v
lines_read n rows (l ∷ ls) all v e count = go (line_judged rows l) (λ p. lines_read (suc n) p ls all)
  where
    go : {j : Judged} → LineJudged rows l j
        → ((p : Plan) → Valid p → all ≡ plan_lines p ++ ls → suc n ≡ length (plan_lines p) + 2 → LinesRead all (read_lines (suc n) p ls))
        → LinesRead all (elim j [ faulty f ↦ Refused (refusal_of f n) | taken p ↦ read_lines (suc n) p ls ])
    go (found {f} has first) on =
        subst (λ (m : ℕ). LinesRead all (Refused (refusal_of f m))) (sym count)
        (line_refused (length (plan_lines rows)) f (first_fault rows v l ls all e has first))
    go (more {p} one_more keeps) on =
        on p (keeps v) (e ∙ sym (ap (λ (ks : List Line). ks ++ ls) one_more ∙ append_assoc (plan_lines rows) (l ∷ []) ls))
        (omega (arith, count, ap length one_more ∙ length-append (plan_lines rows) (l ∷ [])))
