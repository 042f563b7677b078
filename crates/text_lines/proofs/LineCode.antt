-- What the code of a line knows of the model.
--     field_end, field_none, field_number, field_bad  the field behind a tab
--     fields_more, fields_none                        the fields of a line from a place on: one more, and none left
--     numbers_goes, numbers_stops, numbers_ends       the loop over the fields
--     fields_are, shape_is                            a line's fields and its shape, by where its word ends
--     said_bad, said_contact, said_range, said_other  what a line says
-- Assumes nothing.
use mathlib.Core.Bool.{Bool, true, false, ◌&&◌, and-true, and-false}
use mathlib.Core.List.{List, [], ◌∷◌, ◌++◌, map, append_assoc, append-nil}
use mathlib.Core.Path.{◌≡◌, refl, sym, ap, ap₂, ◌∙◌}
use Prim.Native.Nat.{ℕ, zero, suc, ◌+◌, ◌-◌, ◌≤◌, ◌<◌}
use native.Mathlib.Numerals.{add-one}
use native.Mathlib.Decide.{dec_lt}
use native.Mathlib.Omega.{arith}
use borrow.Author.Tests.{lt-ltb, le-ltb, eq-eqb, ne_eqb}
use lib.Dec.{eqb}
use lib.ListN.{length, get_or, take, drop, set, length-drop, length-take}
use lib.Seq.{take_all, take-suc-set, drop-drop}
use Rattle.std.specs.Prelude.{Some, None}
use Rattle.plan.specs.declared.rows.Contact.{Contact}
use Rattle.plan.specs.declared.rows.Range.{Range}
use Rattle.plan.specs.Model.{each}
use Rattle.plan.specs.Tables.{words, contact_at, range_at}
use Rattle.plan.specs.Verdict.{Verdict, holds, fails}
use Rattle.plan.proofs.Verdicts.{tells_eq}
use Rattle.text.specs.declared.said.Line.TheVariants.{Contact as AContact, Range as ARange}
use Rattle.text_lines.specs.declared.line.Field.{Field}
use Rattle.text.specs.Digits.{value}
use Rattle.text.specs.Lines.{tab, Line}
use Rattle.text.specs.Model.{up_to, line_in, same, is_number, is_shaped, said_by, capped, capped_contact, capped_range, capped_said}
use Rattle.text_lines.specs.Model.{capped_value, fields_from, good_fields, field_bytes, field_at}
use Rattle.text.specs.Rows.{contact_word, range_word, contact_of, range_of}
use Rattle.text.proofs.Cuts.{up_to_le, line_in_ended, line_cut, line_left}

-- ---- a field

abbrev pub field : ℕ → ℕ → Field
field v end = record { value = v; end = end }

module _ (line : List ℕ) (at : ℕ) where
  -- where the field ends
  abbrev pub End : ℕ
  End = at + 1 + up_to tab (drop (at + 1) line)

  pub field_end : at < length line → (end : ℕ) → end ≡ End → end ≤ length line
  field_end h end e = omega (arith, up_to_le tab (drop (at + 1) line), length-drop (at + 1) line)

  pub field_none : length line ≤ at → None ≡ field_at line at
  unfolding field_at
  field_none h = rw (le-ltb at (length line) h)

  cut_to : (end : ℕ) → end ≡ End → take (end - (at + 1)) (drop (at + 1) line) ≡ field_bytes line at
  cut_to end e = let n : end - (at + 1) ≡ up_to tab (drop (at + 1) line) = omega arith in ap (λ (k : ℕ). take k (drop (at + 1) line)) n

  pub field_number : at < length line → (end v : ℕ) (b : Bool) → end ≡ End → b ≡ is_number (take (end - (at + 1)) (drop (at + 1) line)) → b ≡ true
      → v ≡ capped_value (take (end - (at + 1)) (drop (at + 1) line)) → Some (field v end) ≡ field_at line at
  unfolding field_at
  field_number h end v b e eb t ev =
      let good : is_number (field_bytes line at) ≡ true = ap is_number (sym (cut_to end e)) ∙ sym eb ∙ t in
      rw (lt-ltb at (length line) h, good) (ap₂ (λ (n m : ℕ). Some (field n m)) (ev ∙ ap capped_value (cut_to end e)) e)

  pub field_bad : at < length line → (end : ℕ) (b : Bool) → end ≡ End → b ≡ is_number (take (end - (at + 1)) (drop (at + 1) line)) → b ≡ false
      → None ≡ field_at line at
  unfolding field_at
  field_bad h end b e eb t =
      let bad : is_number (field_bytes line at) ≡ false = ap is_number (sym (cut_to end e)) ∙ sym eb ∙ t in
      rw (lt-ltb at (length line) h, bad)

  -- ---- the fields from a place on

  pub fields_none : length line ≤ at → fields_from line at ≡ []
  unfolding fields_from
  fields_none h = rw (le-ltb at (length line) h)

pub fields_more : (line : List ℕ) (at : ℕ) → at < length line → fields_from line at ≡ field_bytes line at ∷ fields_from line (End line at)
unfolding fields_from
fields_more line at h = go (dec_lt u (length rest))
  where
    rest : List ℕ
    rest = drop (at + 1) line

    u : ℕ
    u = up_to tab rest

    here : drop (suc at) line ≡ rest
    here = ap (λ (k : ℕ). drop k line) (sym (add-one at))

    pieces : Line → List (List ℕ)
    pieces l = l.word ∷ l.fields

    long : length rest ≡ length line - (at + 1)
    long = length-drop (at + 1) line

    first : fields_from line at ≡ pieces (line_in rest true)
    first = rw (lt-ltb at (length line) h) (ap (λ (bs : List ℕ). pieces (line_in bs true)) here)

    go : Dec (u < length rest) → fields_from line at ≡ field_bytes line at ∷ fields_from line (End line at)
    go (yes g) =
        let inside : at + 1 + u < length line = omega (arith, long) in
        let behind : drop (suc u) rest ≡ drop (suc (at + 1 + u)) line =
        let n : at + 1 + suc u ≡ suc (at + 1 + u) = omega arith in
        drop-drop (suc u) (at + 1) line ∙ ap (λ (k : ℕ). drop k line) n
        in
        let others : fields_from line (End line at) ≡ pieces (line_in (drop (suc (at + 1 + u)) line) true) = rw (lt-ltb (at + 1 + u) (length line) inside) in
        first ∙ ap pieces (line_cut rest true g) ∙ ap (λ (fs : List (List ℕ)). field_bytes line at ∷ fs) (ap (λ (bs : List ℕ). pieces (line_in bs true)) behind ∙ sym others)
    go (no g) =
        let all : u ≡ length rest = omega (arith, up_to_le tab rest) in
        let end : length line ≤ at + 1 + u = omega (arith, long) in
        first
        ∙ ap pieces (line_left rest true all)
        ∙ ap₂ (λ (f : List ℕ) (fs : List (List ℕ)). f ∷ fs) (sym (take_all u rest (omega arith))) (sym (fields_none line (at + 1 + u) end))

-- ---- what the answer of a field tells

pub record IsField (line : List ℕ) (at v next : ℕ) : Type 0 where
  pub inside : at < length line
  pub good : is_number (field_bytes line at) ≡ true
  pub its_value : v ≡ capped_value (field_bytes line at)
  pub its_end : next ≡ End line at

pub field_tells : (line : List ℕ) (at v next : ℕ) → field_at line at ≡ Some (field v next) → IsField line at v next
unfolding field_at
field_tells line at v next = go (dec_lt at (length line)) (is_number (field_bytes line at)) refl
  where
    go : Dec (at < length line) → (b : Bool) → is_number (field_bytes line at) ≡ b → field_at line at ≡ Some (field v next) → IsField line at v next
    go (yes h) true e f =
        let same : Some (field (capped_value (field_bytes line at)) (End line at)) ≡ Some (field v next) = rw (lt-ltb at (length line) h, e) at f in
        let its : field v next ≡ field (capped_value (field_bytes line at)) (End line at) = cc in
        record { inside = h; good = e; its_value = ap (λ (x : Field). x.value) its; its_end = ap (λ (x : Field). x.end) its }
    go (yes h) false e f =
        let same : None ≡ Some (field v next) = rw (lt-ltb at (length line) h, e) at f in
        let z : ◌≡◌ {A = ℕ} 0 1 = cc in
        absurd (omega arith)
    go (no h) b e f =
        let same : None ≡ Some (field v next) = rw (le-ltb at (length line) (omega arith)) at f in
        let z : ◌≡◌ {A = ℕ} 0 1 = cc in
        absurd (omega arith)

-- ---- so many numbers

same_answer : {A B : Type 0} {a b : Bool} → (A → B) → (B → A) → Verdict A a → Verdict B b → a ≡ b
same_answer to from (holds x) (holds y) = refl
same_answer to from (holds x) (fails y) = absurd (y (to x))
same_answer to from (fails x) (holds y) = absurd (x (from y))
same_answer to from (fails x) (fails y) = refl

eqb_suc : (m n : ℕ) → 0 < n → eqb (suc m) n ≡ eqb m (n - 1)
eqb_suc m n h = same_answer (λ e. omega arith) (λ e. omega arith) (tells_eq (suc m) n) (tells_eq m (n - 1))

good_more : (count k : ℕ) (f : List ℕ) (fs : List (List ℕ)) → k < count → is_number f ≡ true
    → good_fields (count - k) (f ∷ fs) ≡ good_fields (count - (k + 1)) fs
unfolding good_fields each
good_more count k f fs h e =
    let n : (count - k) - 1 ≡ count - (k + 1) = omega arith in
    rw e (ap (λ (b : Bool). b && each is_number fs) (eqb_suc (length fs) (count - k) (omega arith) ∙ ap (eqb (length fs)) n))

module _ (line : List ℕ) (at : ℕ) where
  pub next_inside : (v next : ℕ) → field_at line at ≡ Some (field v next) → next ≤ length line
  next_inside v next e = let t = field_tells line at v next e in field_end line at t.inside next t.its_end

  pub numbers_stored : (k v next : ℕ) (row : List ℕ) → k < length row → field_at line at ≡ Some (field v next)
      → take k row ++ map capped_value (fields_from line at) ≡ take (k + 1) (set row k v) ++ map capped_value (fields_from line next)
  numbers_stored k v next row h e =
      let t = field_tells line at v next e in
      let others : List ℕ = map capped_value (fields_from line next) in
      let step : map capped_value (fields_from line at) ≡ v ∷ others =
      ap (map capped_value) (fields_more line at t.inside)
      ∙ ap₂ (λ (w p : ℕ). w ∷ map capped_value (fields_from line p)) (sym t.its_value) (sym t.its_end)
      in
      let front : take (k + 1) (set row k v) ≡ take k row ++ (v ∷ []) = rw add-one (take-suc-set row k v h) in
      ap (λ (l : List ℕ). take k row ++ l) step
      ∙ sym (append_assoc (take k row) (v ∷ []) others)
      ∙ ap (λ (l : List ℕ). l ++ others) (sym front)

  pub numbers_all : (k : ℕ) (row all : List ℕ) → length row ≤ k → all ≡ take k row ++ map capped_value (fields_from line at) → length line ≤ at → row ≡ all
  numbers_all k row all h e end =
      sym (e ∙ ap (λ (fs : List (List ℕ)). take k row ++ map capped_value fs) (fields_none line at end) ∙ append-nil (take k row) ∙ take_all k row h)

  module _ (count k : ℕ) where
    pub numbers_goes : (v next : ℕ) → k < count → field_at line at ≡ Some (field v next)
        → good_fields (count - k) (fields_from line at) ≡ good_fields (count - (k + 1)) (fields_from line next)
    numbers_goes v next h e =
        let t = field_tells line at v next e in
        ap (good_fields (count - k)) (fields_more line at t.inside)
        ∙ good_more count k (field_bytes line at) (fields_from line (End line at)) h t.good
        ∙ ap (λ (p : ℕ). good_fields (count - (k + 1)) (fields_from line p)) (sym t.its_end)

    pub numbers_stops : k < count → field_at line at ≡ None → good_fields (count - k) (fields_from line at) ≡ false
    unfolding field_at good_fields each
    numbers_stops h = go (dec_lt at (length line)) (is_number (field_bytes line at)) refl
      where
        go : Dec (at < length line) → (b : Bool) → is_number (field_bytes line at) ≡ b → field_at line at ≡ None
            → good_fields (count - k) (fields_from line at) ≡ false
        go (yes g) true e f =
            let same : Some (field (capped_value (field_bytes line at)) (End line at)) ≡ None = rw (lt-ltb at (length line) g, e) at f in
            let z : ◌≡◌ {A = ℕ} 0 1 = cc in
            absurd (omega arith)
        go (yes g) false e f = rw (fields_more line at g, e) (and-false (eqb (suc (length (fields_from line (End line at)))) (count - k)))
        go (no g) b e f = rw (fields_none line at (omega arith), ne_eqb 0 (count - k) (omega arith))

    pub numbers_ends : at ≤ length line → count ≤ k → eqb at (length line) ≡ good_fields (count - k) (fields_from line at)
    unfolding good_fields each
    numbers_ends l h = go (dec_lt at (length line))
      where
        none : count - k ≡ 0
        none = omega arith

        go : Dec (at < length line) → eqb at (length line) ≡ good_fields (count - k) (fields_from line at)
        go (yes i) = rw (ne_eqb at (length line) (omega arith), fields_more line at i, none, ne_eqb (suc (length (fields_from line (End line at)))) 0 (omega arith))
        go (no i) = rw (eq-eqb at (length line) (omega arith), fields_none line at (omega arith), none)

-- ---- what a line says

pub word_of : (line : List ℕ) → line_in line true ≡ record { word = take (up_to tab line) line; fields = fields_from line (up_to tab line); ended = true }
unfolding fields_from
word_of line = go (dec_lt (up_to tab line) (length line))
  where
    go : Dec (up_to tab line < length line) → line_in line true ≡ record { word = take (up_to tab line) line; fields = fields_from line (up_to tab line); ended = true }
    go (yes h) = rw (lt-ltb (up_to tab line) (length line) h) (line_cut line true h)
    go (no h) =
        let all : up_to tab line ≡ length line = omega (arith, up_to_le tab line) in
        rw (le-ltb (up_to tab line) (length line) (omega arith))
        (line_left line true all ∙ ap (λ (w : List ℕ). record { word = w; fields = []; ended = true }) (sym (take_all (up_to tab line) line (omega arith))))

pub capped_word : (fs : List (List ℕ)) (k : ℕ) → capped (get_or (map value fs) k 0) ≡ get_or (map capped_value fs) k 0
unfolding capped
capped_word [] k = refl
capped_word (f ∷ fs) zero = refl
capped_word (f ∷ fs) (suc k) = capped_word fs k

module _ (line : List ℕ) (end : ℕ) (ends : end ≡ 0 + up_to tab (drop 0 line)) where
  fields : List (List ℕ)
  fields = fields_from line end

  word : List ℕ
  word = take end line

  whole : line_in line true ≡ record { word = word; fields = fields; ended = true }
  unfolding fields word
  whole =
      let e : up_to tab line ≡ end = omega arith in
      word_of line ∙ ap (λ (n : ℕ). record { word = take n line; fields = fields_from line n; ended = true }) e

  regroup : (s e n : Bool) → s && e && n && true ≡ s && (e && n)
  regroup true true true = refl
  regroup true true false = refl
  regroup true false n = refl
  regroup false e n = refl

  shaped : (w : List ℕ) (count : ℕ) → is_shaped w count (line_in line true) ≡ same word w && good_fields count fields
  unfolding is_shaped good_fields
  shaped w count = rw whole (regroup (same word w) (eqb (length fields) count) (each is_number fields))

  pub fields_are : (line_in line true).fields ≡ fields_from line end
  unfolding fields word
  fields_are = ap (λ (l : Line). l.fields) whole

  pub shape_is : (w : List ℕ) (count : ℕ) (ended : Bool)
      → is_shaped w count (line_in line ended) ≡ same (take end line) w && good_fields count (fields_from line end) && ended
  unfolding is_shaped fields word
  shape_is w count true = shaped w count ∙ sym (and-true (same (take end line) w && good_fields count (fields_from line end)))
  shape_is w count false = simp (line_in_ended, and-false)

  pub said_bad : (b : Bool) → b ≡ good_fields words (fields_from line end) → b ≡ false → None ≡ capped_said (said_by (line_in line true))
  unfolding said_by capped_said fields
  said_bad b eb e =
      let bad : good_fields words fields ≡ false = sym eb ∙ e in
      rw (shaped contact_word words, shaped range_word words, bad, and-false (same word contact_word), and-false (same word range_word))

  module _ (b : Bool) (eb : b ≡ good_fields words (fields_from line end)) (good : b ≡ true) where
    pub said_contact : (row : List ℕ) (c : Contact) → same (take end line) contact_word ≡ true → row ≡ map capped_value (fields_from line end) → c ≡ contact_at row 0
        → Some (AContact c) ≡ capped_said (said_by (line_in line true))
    unfolding said_by capped_said capped_contact contact_of fields word
    said_contact row c s er ec =
        let is : is_shaped contact_word words (line_in line true) ≡ true = shaped contact_word words ∙ ap₂ (λ (x y : Bool). x && y) s (sym eb ∙ good) in
        let its : contact_at (map capped_value fields) 0 ≡ capped_contact (contact_at (map value fields) 0) = λ i. record {
          start = record { 0 = sym (capped_word fields 0) i };
          end = record { 0 = sym (capped_word fields 1) i };
          from = record { 0 = sym (capped_word fields 2) i };
          to = record { 0 = sym (capped_word fields 3) i };
          rate = sym (capped_word fields 4) i;
        } in
        rw (is, whole) (ap (λ (d : Contact). Some (AContact d)) (ec ∙ ap (λ (r : List ℕ). contact_at r 0) er ∙ its))

    pub said_range : (row : List ℕ) (r : Range) → same (take end line) contact_word ≡ false → same (take end line) range_word ≡ true
        → row ≡ map capped_value (fields_from line end) → r ≡ range_at row 0 → Some (ARange r) ≡ capped_said (said_by (line_in line true))
    unfolding said_by capped_said capped_range range_of fields word
    said_range row r n s er ec =
        let not_contact : is_shaped contact_word words (line_in line true) ≡ false = shaped contact_word words ∙ ap (λ (x : Bool). x && good_fields words fields) n in
        let is : is_shaped range_word words (line_in line true) ≡ true = shaped range_word words ∙ ap₂ (λ (x y : Bool). x && y) s (sym eb ∙ good) in
        let its : range_at (map capped_value fields) 0 ≡ capped_range (range_at (map value fields) 0) = λ i. record {
          start = record { 0 = sym (capped_word fields 0) i };
          end = record { 0 = sym (capped_word fields 1) i };
          a = record { 0 = sym (capped_word fields 2) i };
          b = record { 0 = sym (capped_word fields 3) i };
          light = record { 0 = sym (capped_word fields 4) i };
        } in
        rw (not_contact, is, whole) (ap (λ (d : Range). Some (ARange d)) (ec ∙ ap (λ (t : List ℕ). range_at t 0) er ∙ its))

    pub said_other : same (take end line) contact_word ≡ false → same (take end line) range_word ≡ false → None ≡ capped_said (said_by (line_in line true))
    unfolding said_by capped_said fields word
    said_other n m =
        let not_contact : is_shaped contact_word words (line_in line true) ≡ false = shaped contact_word words ∙ ap (λ (x : Bool). x && good_fields words fields) n in
        let not_range : is_shaped range_word words (line_in line true) ≡ false = shaped range_word words ∙ ap (λ (x : Bool). x && good_fields words fields) m in
        rw (not_contact, not_range)

pub word_end : (line : List ℕ) (end : ℕ) → end ≡ 0 + up_to tab (drop 0 line) → end ≤ length line
word_end line end e = omega (arith, up_to_le tab line)

pub word_length : (line : List ℕ) (end : ℕ) → end ≡ 0 + up_to tab (drop 0 line) → end ≡ length (take end line)
word_length line end e = rw length-take (omega (arith, up_to_le tab line))
