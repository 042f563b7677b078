-- What a step through the lines of an input means, and what steps one after the other print.
--     lines_determined      where a line has one answer, no two results of a step are right
--     lines_part            the bytes used are the answers of the lines gone through
--     lines_go_on           with room for the longest answer a step gets further
--     part_left             the lines left are numbered on
--     parts_join            the answers of a part and of the next are those of both
--     part_whole            and those of a part from the first byte to the input's end are the answers of all lines
--     calls_print, all_printed      steps one after the other, from the first byte to the input's end, print the answers of all lines of the input, in
--                           order, each once, numbered from 1
--     calls_determined      however the buffers are, they print the same
-- Assumes nothing.
use mathlib.Core.List.{List, [], ◌++◌, append-nil, append_assoc}
use mathlib.Core.Logic.{◌⊎◌, inl, inr}
use mathlib.Core.Path.{◌≡◌, refl, sym, ap, ◌∙◌, subst}
use Prim.Native.Nat.{ℕ, suc, ◌+◌, ◌≤◌, ◌<◌}
use native.Mathlib.Decide.{dec_le}
use native.Mathlib.Nat.{lt_of_not-le}
use native.Mathlib.Omega.{arith}
use lib.ListN.{length, take, drop, length-append, length-drop}
use lib.Seq.{take_at}
use Rattle.text.specs.Lines.{Line, lines_of, glue}
use Rattle.text.proofs.Lines.{glue_append}
use Rattle.desk_lines.specs.Through.{Prints, none, AnswersPart, AnswersLines, Calls, ended, call}
use Rattle.desk_lines.proofs.LineLaws.{no_lines}
use Rattle.desk_lines.proofs.PrintLaws.{HasOneAnswer, prints_append, prints_nothing, prints_determined, begun_room}

module _ {S : Type 0} {Says : S → Line → ℕ → List ℕ → S → Type 0} {input : List ℕ} where
  -- ---- a part

  module _ {s t : S} {at n to n' : ℕ} {answers : List ℕ} (p : AnswersPart Says input s at n t to n' answers) where
    part_count : length (lines_of (drop at input)) ≡ length p.lines + length (lines_of (drop to input))
    part_count = ap length p.cut ∙ length-append p.lines (lines_of (drop to input))

    pub part_left : n' + length (lines_of (drop to input)) ≡ n + length (lines_of (drop at input))
    part_left = omega (arith, part_count, p.counted)

  pub parts_join : {s t u : S} {at n to n' to' n'' : ℕ} {a b : List ℕ} → AnswersPart Says input s at n t to n' a → AnswersPart Says input t to n' u to' n'' b
      → AnswersPart Says input s at n u to' n'' (a ++ b)
  parts_join {to'} p q = record {
    lines = p.lines ++ q.lines;
    cut = p.cut ∙ ap (λ (ls : List Line). p.lines ++ ls) q.cut ∙ sym (append_assoc p.lines q.lines (lines_of (drop to' input)));
    behind =
        omega (arith, p.behind, q.behind, ap length (glue_append p.lines q.lines), length-append (glue p.lines) (glue q.lines));
    counted = omega (arith, p.counted, q.counted, length-append p.lines q.lines);
    prints = prints_append p.prints p.counted q.prints;
  }

  -- where nothing is left behind it, a part is all there is from its place on
  part_rest : {s t : S} {at n to n' : ℕ} {a : List ℕ} → AnswersPart Says input s at n t to n' a → length input ≤ to
      → Prints Says s n (lines_of (drop at input)) a t
  part_rest {s} {t} {n} {to} {a} p over =
      let whole = p.cut ∙ ap (λ (ls : List Line). p.lines ++ ls) (no_lines input to over) ∙ append-nil p.lines in
      subst (λ (ls : List Line). Prints Says s n ls a t) (sym whole) p.prints

  pub part_whole : {s t : S} {n to n' : ℕ} {a : List ℕ} → AnswersPart Says input s 0 n t to n' a → length input ≤ to → Prints Says s n (lines_of input) a t
  part_whole p over = part_rest p over

  module _ {longest : ℕ} where
    -- ---- a step

    module _ {s t : S} {at n : ℕ} {out : List ℕ} {to n' used : ℕ} {out' : List ℕ} (x : AnswersLines Says longest input s at n out t to n' used out') where
      -- the bytes used are the answers
      lines_used : take used out' ≡ x.answers
      lines_used = ap (take used) x.written ∙ take_at x.answers (drop (length x.answers) out) used (sym x.ends)

      pub lines_part : AnswersPart Says input s at n t to n' (take used out')
      lines_part = subst (λ (bs : List ℕ). AnswersPart Says input s at n t to n' bs) (sym lines_used) x.part

      pub lines_length : length out' ≡ length out
      lines_length =
          let h = ap length x.written ∙ length-append x.answers (drop (length x.answers) out) in
          omega (arith, h, length-drop (length x.answers) out, x.ends, x.fits)

      pub lines_go_on : at < length input → longest ≤ length out → at < to
      lines_go_on inside room = go (dec_le (suc at) to) x.stops
        where
          stuck : to ≡ at → length x.answers ≡ 0
          stuck e =
              let same : lines_of (drop to input) ≡ lines_of (drop at input) = ap (λ (i : ℕ). lines_of (drop i input)) e in
              prints_nothing x.part.prints (omega (arith, part_count x.part, ap length same))

          go : Dec (suc at ≤ to) → (length input ≤ to) ⊎ (length out < used + longest) → at < to
          go (yes h) z = h
          go (no h) (inl e) = omega arith
          go (no h) (inr e) = absurd (omega (arith, stuck (omega (arith, x.part.behind, lt_of_not-le h)), x.ends))

    -- ---- no two results

    module _ (one_answer : HasOneAnswer Says) where
      module _ {s : S} {at n : ℕ} {out : List ℕ} where
        not_shorter : {t u : S} {to n₁ used to₂ n₂ used₂ : ℕ} {out₁ out₂ : List ℕ} (x : AnswersLines Says longest input s at n out t to n₁ used out₁)
            (y : AnswersLines Says longest input s at n out u to₂ n₂ used₂ out₂) → length x.part.lines < length y.part.lines → ⊥
        not_shorter {to} {used} {to₂} x y h = go x.stops
          where
            go : (length input ≤ to) ⊎ (length out < used + longest) → ⊥
            go (inl e) = omega (arith, part_count x.part, part_count y.part, ap length (no_lines input to e))
            go (inr e) =
                let rest : List Line = lines_of (drop to input) in
                let more : List Line = lines_of (drop to₂ input) in
                omega (arith, begun_room one_answer rest more y.begun x.part.prints (sym x.part.cut ∙ y.part.cut) h, x.ends)

        -- the same place, number, count of bytes, output and state
        pub lines_determined : {t u : S} {to n₁ used to₂ n₂ used₂ : ℕ} {out₁ out₂ : List ℕ} → AnswersLines Says longest input s at n out t to n₁ used out₁
            → AnswersLines Says longest input s at n out u to₂ n₂ used₂ out₂
            → (to ≡ to₂) × (n₁ ≡ n₂) × (used ≡ used₂) × (out₁ ≡ out₂) × (t ≡ u)
        lines_determined {t} {to} {to₂} x y =
            let xs : List Line = x.part.lines in
            let ys : List Line = y.part.lines in
            let long : length xs ≡ length ys = same_length (dec_le (suc (length xs)) (length ys)) (dec_le (suc (length ys)) (length xs)) in
            let lines : xs ≡ ys =
            sym (take_at xs (lines_of (drop to input)) (length xs) refl) ∙ ap (take (length xs)) (sym x.part.cut ∙ y.part.cut)
            ∙ take_at ys (lines_of (drop to₂ input)) (length xs) (sym long)
            in
            let both =
            prints_determined one_answer (subst (λ (zs : List Line). Prints Says s n zs x.answers t) lines x.part.prints) y.part.prints
            in (
              x.part.behind ∙ ap (λ (zs : List Line). at + length (glue zs)) lines ∙ sym y.part.behind,
              x.part.counted ∙ ap (λ (i : ℕ). n + i) long ∙ sym y.part.counted,
              x.ends ∙ ap length both.0 ∙ sym y.ends,
              x.written ∙ ap (λ (bs : List ℕ). bs ++ drop (length bs) out) both.0 ∙ sym y.written,
              both.1,
            )
          where
            same_length : Dec (suc (length x.part.lines) ≤ length y.part.lines) → Dec (suc (length y.part.lines) ≤ length x.part.lines)
                → length x.part.lines ≡ length y.part.lines
            same_length (yes h) z = absurd (not_shorter x y h)
            same_length (no h) (yes z) = absurd (not_shorter y x z)
            same_length (no h) (no z) = omega (arith, lt_of_not-le h, lt_of_not-le z)

    -- ---- step after step

    pub calls_print : {s t : S} {at n : ℕ} {printed : List ℕ} → Calls Says longest input s at n printed t
        → Prints Says s n (lines_of (drop at input)) printed t
    calls_print {s} {at} {n} (ended over) = subst (λ (ls : List Line). Prints Says s n ls [] s) (sym (no_lines input at over)) none
    calls_print {s} {t} {at} {n} (call {used} {out'} {printed} x c) =
        let p = lines_part x in
        subst (λ (ls : List Line). Prints Says s n ls (take used out' ++ printed) t) (sym p.cut) (prints_append p.prints p.counted (calls_print c))

    pub all_printed : {s t : S} {printed : List ℕ} → Calls Says longest input s 0 1 printed t → Prints Says s 1 (lines_of input) printed t
    all_printed c = calls_print c

    pub calls_determined : HasOneAnswer Says → {s t u : S} {at n : ℕ} {a b : List ℕ} → Calls Says longest input s at n a t → Calls Says longest input s at n b u
        → (a ≡ b) × (t ≡ u)
    calls_determined one_answer c d = prints_determined one_answer (calls_print c) (calls_print d)
