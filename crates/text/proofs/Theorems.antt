-- The top theorems of plan text.
--     model_reads               every text has an outcome: that of the model
--     reads_text_determined     and no text has two
--     accepts_exactly           reading accepts exactly the texts of valid plans
--     read_render               what was rendered from a valid plan is read as that plan
--     render_read               a text that is read as a plan is that plan's, and the plan is valid
--     render_injective          no two plans have one text
-- and, passed on from their files:
--     render_short              no valid plan's text is longer than 46,087 bytes
--     value_decimal, decimal_number, decimal_value      digits and their value give each other back
-- Assumes nothing.
use mathlib.Core.Bool.{Bool, cond}
use mathlib.Core.Logic.{◌↔◌}
use mathlib.Core.Path.{◌≡◌, refl, sym, ap, ap₂, ◌∙◌, subst}
use mathlib.Core.List.{List, ◌++◌, append_cancel_left}
use Prim.Native.Nat.{ℕ, ◌+◌, ◌≤◌, ◌<◌, zero-le}
use native.Mathlib.Nat.{not-suc-le-zero}
use native.Mathlib.Omega.{arith}
use lib.ListN.{length, take, drop, take-append-drop}
use lib.Seq.{take-append_seam}
use Rattle.units.specs.declared.Refusal.TheVariants.{LongText, NoHeader}
use Rattle.units.specs.Limits.{most_text}
use Rattle.plan.specs.Plan.{Plan, Each, NoTwo, Valid}
use Rattle.plan.specs.Verdict.{Verdict, holds, fails}
use Rattle.plan.proofs.Verdicts.{tells_lt}
use Rattle.text.specs.Lines.{Line, lines_of, glue}
use Rattle.text.specs.Model.{read_model, no_rows}
use Rattle.text.specs.Reading.{Fault, refusal_of, FaultAt, FirstFault, Outcome, Accepted, Refused, ReadsText, too_long, no_header, a_plan, at_line}
use Rattle.text.specs.Rows.{header, plan_lines, render}
use Rattle.text.proofs.Lines.{glued_back}
use Rattle.text.proofs.Reading.{first_fault_determined, no_fault, LinesRead, plan_read, line_refused, lines_read}
use Rattle.text.proofs.Rows.{lines_plan, plan_lines_injective}
use Rattle.text.proofs.Shapes.{same_tells}
use Rattle.text.proofs.Short.{render_fits}
pub use Rattle.text.proofs.Digits.{value_decimal, decimal_number, decimal_value}
pub use Rattle.text.proofs.Short.{render_short}

-- ---- one outcome

-- the lines after the header of a plan's text are its lines
rendered_lines : (p : Plan) (rest : List ℕ) → render p ≡ header ++ rest → plan_lines p ≡ lines_of rest
unfolding render
rendered_lines p rest e = sym (lines_plan p) ∙ ap lines_of (append_cancel_left header (glue (plan_lines p)) rest e)

pub render_injective : (p q : Plan) → render p ≡ render q → p ≡ q
unfolding render
render_injective p q e = plan_lines_injective p q (rendered_lines p (glue (plan_lines q)) e ∙ lines_plan q)

rendered_faultless : (p : Plan) (rest : List ℕ) → Valid p → render p ≡ header ++ rest → {k : ℕ} {f : Fault} → FirstFault (lines_of rest) k f → ⊥
rendered_faultless p rest v e {k} {f} first =
    no_fault p v (subst (λ (ls : List Line). FaultAt ls k f) (sym (rendered_lines p rest e)) first.found)

one_line : (r s : List ℕ) → header ++ r ≡ header ++ s → {j k : ℕ} {f g : Fault} → FirstFault (lines_of r) j f → FirstFault (lines_of s) k g
    → refusal_of f (j + 2) ≡ refusal_of g (k + 2)
one_line r s e {j} {k} {f} a b =
    let same = first_fault_determined (subst (λ (t : List ℕ). FirstFault (lines_of t) j f) (append_cancel_left header r s e) a) b in
    ap₂ (λ (h : Fault) (n : ℕ). refusal_of h (n + 2)) same.1 same.0

pub reads_text_determined : {text : List ℕ} {o o' : Outcome} → ReadsText text o → ReadsText text o' → o ≡ o'
unfolding render
reads_text_determined (too_long h) (too_long h') = refl
reads_text_determined (too_long h) (no_header h' n) = absurd (omega arith)
reads_text_determined (too_long h) (a_plan p h' e v) = absurd (omega arith)
reads_text_determined (too_long h) (at_line r k f h' e a) = absurd (omega arith)
reads_text_determined (no_header h n) (too_long h') = absurd (omega arith)
reads_text_determined (no_header h n) (no_header h' n') = refl
reads_text_determined (no_header h n) (a_plan p h' e v) = absurd (n (glue (plan_lines p)) e)
reads_text_determined (no_header h n) (at_line r k f h' e a) = absurd (n r e)
reads_text_determined (a_plan p h e v) (too_long h') = absurd (omega arith)
reads_text_determined (a_plan p h e v) (no_header h' n) = absurd (n (glue (plan_lines p)) e)
reads_text_determined (a_plan p h e v) (a_plan q h' e' w) = ap Accepted (render_injective p q (sym e ∙ e'))
reads_text_determined (a_plan p h e v) (at_line r k f h' e' a) = absurd (rendered_faultless p r v (sym e ∙ e') a)
reads_text_determined (at_line r k f h e a) (too_long h') = absurd (omega arith)
reads_text_determined (at_line r k f h e a) (no_header h' n) = absurd (n r e)
reads_text_determined (at_line r k f h e a) (a_plan p h' e' v) = absurd (rendered_faultless p r v (sym e' ∙ e) a)
reads_text_determined (at_line r k f h e a) (at_line s j g h' e' b) = ap Refused (one_line r s (sym e ∙ e') a b)

-- ---- the model's outcome

no_rows_lem : Valid no_rows
unfolding no_rows Each NoTwo
no_rows_lem = record {
  contacts_most = zero-le;
  ranges_most = zero-le;
  contacts_good = λ blank k h. absurd (not-suc-le-zero h);
  ranges_good = λ blank k h. absurd (not-suc-le-zero h);
  contacts_apart = λ blank j k l h r. not-suc-le-zero h;
  ranges_apart = λ blank j k l h r. not-suc-le-zero h;
}

pub model_reads : (text : List ℕ) → ReadsText text (read_model text)
unfolding read_model no_rows plan_lines render
model_reads text =
    go (tells_lt most_text (length text)) (same_tells (take (length header) text) header)
    (lines_read 2 no_rows lines lines no_rows_lem refl refl)
  where
    lines : List Line
    lines = lines_of (drop (length header) text)

    body : take (length header) text ≡ header → text ≡ header ++ drop (length header) text
    body e = sym (take-append-drop (length header) text) ∙ ap (λ (h : List ℕ). h ++ drop (length header) text) e

    go : {a b : Bool} {o : Outcome} → Verdict (most_text < length text) a → Verdict (take (length header) text ≡ header) b → LinesRead lines o
        → ReadsText text (cond a (Refused LongText) (cond b o (Refused NoHeader)))
    go (holds h) w r = too_long h
    go (fails h) (fails n) r = no_header (omega arith) (λ rest e. n (ap (take (length header)) e ∙ take-append_seam header rest))
    go (fails h) (holds e) (plan_read p same v) =
        a_plan p (omega arith) (body e ∙ ap (λ (t : List ℕ). header ++ t) (sym (glued_back (drop (length header) text)) ∙ ap glue same)) v
    go (fails h) (holds e) (line_refused k f first) = at_line (drop (length header) text) k f (omega arith) (body e) first

-- ---- reading and rendering

accepted : {text : List ℕ} {p : Plan} → ReadsText text (Accepted p) → (text ≡ render p) × Valid p
accepted (a_plan p h e v) = (e, v)

pub accepts_exactly : (text : List ℕ) (p : Plan) → ReadsText text (Accepted p) ↔ ((text ≡ render p) × Valid p)
accepts_exactly text p =
    (accepted, λ t. a_plan p (subst (λ (bs : List ℕ). length bs ≤ most_text) (sym t.0) (render_fits p t.1)) t.0 t.1)

pub read_render : (p : Plan) → Valid p → read_model (render p) ≡ Accepted p
read_render p v = reads_text_determined (model_reads (render p)) ((accepts_exactly (render p) p).1 (refl, v))

pub render_read : (text : List ℕ) (p : Plan) → read_model text ≡ Accepted p → (text ≡ render p) × Valid p
render_read text p e = accepted (subst (ReadsText text) e (model_reads text))
