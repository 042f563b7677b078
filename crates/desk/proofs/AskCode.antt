-- What the code of an ask line knows of the model and of the promise.
--     ends_is                        whether bytes end in those, by the library's `ends_with`
--     asked_shape, ask_row           the shape of a line, and the row that it fills
--     judged_asked, judged_bad       what a line of good shape gives
--     read_bad, read_judged          what reading a line gives
-- Assumes nothing.
use mathlib.Core.Bool.{Bool, true, false, false≢true, not, ◌&&◌, ◌||◌, cond, and-true, and-false}
use mathlib.Core.List.{List, [], ◌∷◌, map}
use mathlib.Core.Logic.{◌⊎◌, inl, inr}
use mathlib.Core.Path.{◌≡◌, refl, sym, ap, ap₂, ◌∙◌, subst}
use Prim.Native.Nat.{ℕ, ◌+◌, ◌-◌, ◌≤◌, ◌<◌}
use native.Mathlib.Decide.{ℕ_discrete}
use native.Mathlib.Omega.{arith}
use lib.Dec.{eqb}
use lib.ListN.{length, get_or, take, drop, get_or-map}
use lib.Pointwise.{pointwise}
use Rattle.std.specs.Prelude.{Result, Ok, Err, nat_eq}
use Rattle.units.specs.Limits.{most_nodes, last_time, most_size}
use Rattle.units.specs.declared.Ask.{Ask}
use Rattle.units.specs.declared.Refusal.{Refusal}
use Rattle.units.specs.declared.Refusal.TheVariants.{AskValue, AskShape}
use Rattle.plan.specs.Model.{each}
use Rattle.plan.specs.Plan.{Each}
use Rattle.plan.specs.Verdict.{Verdict, holds, fails}
use Rattle.plan.proofs.Verdicts.{tells_eq, both, either, denied, restated, true_holds, false_fails, answers_agree}
use Rattle.text.specs.Digits.{Number, value_from, value, decimal}
use Rattle.text.specs.Lines.{tab}
use Rattle.text.specs.Model.{line_in, up_to, same, is_number, is_shaped, capped}
use Rattle.text.specs.Rows.{Shaped}
use Rattle.text.proofs.Digits.{decimal_value}
use Rattle.text.proofs.Shapes.{number_tells, same_tells, shaped_tells}
use Rattle.text_lines.specs.Model.{capped_value, fields_from, good_fields}
use Rattle.text_lines.proofs.BytesCode.{same_is}
use Rattle.text_lines.proofs.LineCode.{capped_word, fields_are, shape_is}
use Rattle.units.specs.Model.{good_ask}
use Rattle.units.specs.Asks.{GoodAsk}
use Rattle.desk.specs.AskModel.{ends_in, most_digits, good_excluded, judged_ask}
use Rattle.desk.specs.Asks.{ask_word, ask_numbers, ask_of_numbers, ask_said, most_excluded, InRange, ReadsAsk, bad_shape, bad_value, asked}
use Rattle.desk.proofs.AskLaws.{good_ask_tells}
use Rattle.desk.proofs.LastField.{last_tells}

-- ---- the bytes that a line ends in

pub ends_is : (tail bytes : List ℕ) (t : Bool) → t ≡ pointwise nat_eq tail (drop (length bytes - length tail) bytes) → t ≡ ends_in tail bytes
unfolding ends_in
ends_is tail bytes t e =
    let end : List ℕ = drop (length bytes - length tail) bytes in
    e ∙ same_is tail end ∙ answers_agree (restated sym sym (same_tells tail end)) (same_tells end tail)

-- ---- the shape of a line

pub asked_shape : (line : List ℕ) (end : ℕ) → end ≡ 0 + up_to tab (drop 0 line) → (ended s b : Bool) → b ≡ good_fields ask_numbers (fields_from line end)
    → s ≡ pointwise nat_eq (take end line) ask_word → s && b && ended ≡ is_shaped ask_word ask_numbers (line_in line ended)
asked_shape line end ends ended s b eb es =
    ap₂ (λ (x y : Bool). x && y && ended) (es ∙ same_is (take end line) ask_word) eb ∙ sym (shape_is line end ends ask_word ask_numbers ended)

pub ask_row : (line : List ℕ) (end : ℕ) → end ≡ 0 + up_to tab (drop 0 line) → (ended s b : Bool) (row : List ℕ)
    → (b ≡ true → row ≡ map capped_value (fields_from line end)) → s && b && ended ≡ true → row ≡ map capped_value (line_in line ended).fields
ask_row line end ends true s true row filled e = filled refl ∙ ap (map capped_value) (sym (fields_are line end ends))
ask_row line end ends true s false row filled e = absurd (false≢true (sym (and-false s) ∙ sym (and-true (s && false)) ∙ e))
ask_row line end ends false s b row filled e = absurd (false≢true (sym (and-false (s && b)) ∙ e))

-- ---- the exclusion number

-- two runs of digits with no leading zero and one value are the same
same_number : {ds es : List ℕ} → Number ds → Number es → value ds ≡ value es → ds ≡ es
same_number {ds} {es} m n e = sym (decimal_value ds m) ∙ ap decimal e ∙ decimal_value es n

most_number : Number most_digits
unfolding most_digits is_number each
most_number = true_holds (number_tells most_digits) refl

most_plain : up_to tab most_digits ≡ length most_digits
unfolding most_digits up_to
most_plain = refl

most_value : value most_digits ≡ most_excluded
unfolding most_digits most_excluded value value_from
most_value = refl

excluded_tells : (ds : List ℕ) (last : Bool) → Number ds → Verdict (ds ≡ most_digits) last
    → Verdict (value ds ≤ most_excluded) (not (eqb (capped (value ds)) most_excluded) || last)
unfolding capped most_excluded
excluded_tells ds last num v = restated to from (either (denied (tells_eq (capped (value ds)) most_excluded)) v)
  where
    to : (capped (value ds) ≡ most_excluded → ⊥) ⊎ (ds ≡ most_digits) → value ds ≤ most_excluded
    to (inl n) = omega arith
    to (inr e) = omega (arith, ap value e ∙ most_value)

    from : value ds ≤ most_excluded → (capped (value ds) ≡ most_excluded → ⊥) ⊎ (ds ≡ most_digits)
    from h = elim (ℕ_discrete (value ds) most_excluded) [
      | yes e ↦ inr (same_number num most_number (e ∙ sym most_value))
      | no n ↦ inl (λ e. n (omega arith))
    ]

-- ---- numbers that are cut to 64 bits

abbrev capped_ask : Ask → Ask
capped_ask a = record {
  source = record { 0 = capped a.source.0 };
  destination = record { 0 = capped a.destination.0 };
  time = record { 0 = capped a.time.0 };
  size = capped a.size;
  deadline = record { 0 = capped a.deadline.0 };
  excluded = capped a.excluded;
}

ask_capped : (fs : List (List ℕ)) → ask_of_numbers (map capped_value fs) ≡ capped_ask (ask_of_numbers (map value fs))
ask_capped fs = λ i. record {
  source = record { 0 = sym (capped_word fs 0) i };
  destination = record { 0 = sym (capped_word fs 1) i };
  time = record { 0 = sym (capped_word fs 2) i };
  size = sym (capped_word fs 3) i;
  deadline = record { 0 = sym (capped_word fs 4) i };
  excluded = sym (capped_word fs 5) i;
}

module _ (a : Ask) where
  good_after : GoodAsk (capped_ask a) → GoodAsk a
  unfolding capped most_nodes last_time most_size
  good_after g = record {
    source_node = record { least = omega arith; most = omega arith };
    destination_node = record { least = omega arith; most = omega arith };
    time_most = omega arith;
    size_least = omega arith;
    size_most = omega arith;
    deadline_most = omega arith;
  }

  good_before : GoodAsk a → GoodAsk (capped_ask a)
  unfolding capped most_nodes last_time most_size
  good_before g = record {
    source_node = record { least = omega arith; most = omega arith };
    destination_node = record { least = omega arith; most = omega arith };
    time_most = omega arith;
    size_least = omega arith;
    size_most = omega arith;
    deadline_most = omega arith;
  }

  range_same : InRange a → capped_ask a ≡ a
  unfolding capped most_nodes last_time most_size most_excluded
  range_same r =
      let source : capped a.source.0 ≡ a.source.0 = omega arith in
      let destination : capped a.destination.0 ≡ a.destination.0 = omega arith in
      let time : capped a.time.0 ≡ a.time.0 = omega arith in
      let size : capped a.size ≡ a.size = omega arith in
      let deadline : capped a.deadline.0 ≡ a.deadline.0 = omega arith in
      let excluded : capped a.excluded ≡ a.excluded = omega arith in
      λ i. record {
        source = record { 0 = source i };
        destination = record { 0 = destination i };
        time = record { 0 = time i };
        size = size i;
        deadline = record { 0 = deadline i };
        excluded = excluded i;
      }

-- ---- what a line of good shape gives

module _ (line row : List ℕ) (ask : Ask) (g x : Bool) (ea : ask ≡ ask_of_numbers row) (eg : g ≡ good_ask ask) (ex : x ≡ good_excluded line ask.excluded) where
  tested : (b : Bool) → g && x ≡ b → good_ask (ask_of_numbers row) && good_excluded line (get_or row 5 0) ≡ b
  tested b e =
      subst (λ (a : Ask). good_ask a && good_excluded line a.excluded ≡ b) ea (ap₂ (λ (p q : Bool). p && q) (sym eg) (sym ex) ∙ e)

  pub judged_asked : g && x ≡ true → Ok ask ≡ judged_ask line row
  unfolding judged_ask
  judged_asked e = rw (tested true e) (ap (λ (a : Ask). Ok a) ea)

  pub judged_bad : g && x ≡ false → Err AskValue ≡ judged_ask line row
  unfolding judged_ask
  judged_bad e = rw (tested false e)

module _ (line : List ℕ) (ended : Bool) (s : Shaped ask_word ask_numbers (line_in line ended)) where
  fields : List (List ℕ)
  fields = (line_in line ended).fields

  last_number : Number (get_or fields 5 [])
  unfolding fields Each
  last_number = s.numbers [] 5 (omega (arith, s.counted))

  excluded_said : Verdict (get_or (map value fields) 5 0 ≤ most_excluded) (good_excluded line (get_or (map capped_value fields) 5 0))
  unfolding fields good_excluded value value_from capped
  excluded_said =
      rw (get_or-map value fields 5 [], get_or-map capped_value fields 5 [])
      (excluded_tells (get_or fields 5 []) (ends_in (tab ∷ most_digits) line) last_number (last_tells most_digits ended most_plain line 5 s.counted))

  range_tells : Verdict (InRange (ask_said (line_in line ended)))
      (good_ask (ask_of_numbers (map capped_value fields)) && good_excluded line (get_or (map capped_value fields) 5 0))
  unfolding fields ask_said
  range_tells = restated to from (both (good_ask_tells (ask_of_numbers (map capped_value fields))) excluded_said)
    where
      said : Ask
      said = ask_of_numbers (map value fields)

      to : GoodAsk (ask_of_numbers (map capped_value fields)) × (said.excluded ≤ most_excluded) → InRange said
      to p = record { good = good_after said (subst GoodAsk (ask_capped fields) p.0); excluded_most = p.1 }

      from : InRange said → GoodAsk (ask_of_numbers (map capped_value fields)) × (said.excluded ≤ most_excluded)
      from r = (subst GoodAsk (sym (ask_capped fields)) (good_before said r.good), r.excluded_most)

  judged_reads : (n : ℕ) → ReadsAsk (line_in line ended) n (judged_ask line (map capped_value fields))
  unfolding judged_ask ask_said fields
  judged_reads n = go range_tells
    where
      go : {b : Bool} → Verdict (InRange (ask_said (line_in line ended))) b
          → ReadsAsk (line_in line ended) n (cond b (Ok (ask_of_numbers (map capped_value fields))) (Err AskValue))
      go (holds r) =
          subst (λ (a : Ask). ReadsAsk (line_in line ended) n (Ok a)) (sym (ask_capped fields ∙ range_same (ask_said (line_in line ended)) r)) (asked s r)
      go (fails r) = bad_value s r

-- ---- what reading a line gives

module _ (line : List ℕ) (ended : Bool) (n : ℕ) where
  pub read_bad : is_shaped ask_word ask_numbers (line_in line ended) ≡ false → ReadsAsk (line_in line ended) n (Err (AskShape n))
  read_bad e = bad_shape (false_fails (shaped_tells ask_word ask_numbers (line_in line ended)) e)

  pub read_judged : (row : List ℕ) (r : Result Ask Refusal) → is_shaped ask_word ask_numbers (line_in line ended) ≡ true
      → row ≡ map capped_value (line_in line ended).fields → r ≡ judged_ask line row → ReadsAsk (line_in line ended) n r
  unfolding fields
  read_judged row r e er ej =
      subst (ReadsAsk (line_in line ended) n) (sym (ej ∙ ap (judged_ask line) er))
      (judged_reads line ended (true_holds (shaped_tells ask_word ask_numbers (line_in line ended)) e) n)
