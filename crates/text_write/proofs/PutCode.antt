-- Writing, piece by piece.
--     wrote_then                                          one piece after the other
--     wrote_none, wrote_front                             no byte, and what stands there, written at the front
--     Onward                                              the rest of the bytes, written behind, completes them all
--     onward_start, onward_room, onward_step, onward_end      such a run, from piece to piece
--     fields_more, fields_done, rows_left, rows_none      one field or line more, and none left
--     row_taken                                           the words of a row, as the code takes them
-- Assumes nothing.
use mathlib.Core.List.{List, [], ◌∷◌, ◌++◌, append_assoc}
use mathlib.Core.Path.{◌≡◌, refl, sym, ap, ap₂, ◌∙◌, subst}
use Prim.Native.Nat.{ℕ, zero, suc, ◌+◌, ◌-◌, ◌*◌, ◌/◌, ◌%◌, ◌≤◌, ◌<◌}
use native.Mathlib.Nat.{zero-add}
use native.Mathlib.Numerals.{add-one}
use native.Mathlib.Omega.{arith}
use lib.ListN.{length, get_or, take, drop, length-append, length-take, take-append-drop, drop_of_length-le}
use lib.Seq.{take_at, drop_at, drop-cons, drop-drop}
use Rattle.plan.specs.Tables.{words, rows_from}
use Rattle.plan.proofs.RowList.{rows_more, rows_done}
use Rattle.text.specs.Digits.{nought, decimal}
use Rattle.text.specs.Lines.{tab, line_feed, glue_fields, glue_line, glue}
use Rattle.text.specs.Rows.{line_of}
use Rattle.text.proofs.Digits.{decimal_small, decimal_large}
use Rattle.text_write.specs.Model.{Wrote, words_from, field_bytes, line_at, line_bytes, row_bytes}

-- ---- one after the other

module _ (out mid last : List ℕ) (at p q : ℕ) (xs ys : List ℕ) (room : at + length (xs ++ ys) ≤ length out) where
  pub wrote_then : Wrote out at xs mid p → Wrote mid p ys last q → Wrote out at (xs ++ ys) last q
  wrote_then w v = record {
    next_is = v.next_is ∙ omega (arith, w.next_is, long);
    bytes_are = v.bytes_are ∙ ap₂ (λ (a b : List ℕ). a ++ (ys ++ b)) front back ∙ joined;
  }
    where
      long : length (xs ++ ys) ≡ length xs + length ys
      long = length-append xs ys

      at_front : length (take at out) ≡ at
      at_front = rw length-take (omega (arith, long))

      head_length : length (take at out ++ xs) ≡ p
      head_length = length-append (take at out) xs ∙ omega (arith, at_front, w.next_is)

      split : mid ≡ (take at out ++ xs) ++ drop (at + length xs) out
      split = w.bytes_are ∙ sym (append_assoc (take at out) xs (drop (at + length xs) out))

      front : take p mid ≡ take at out ++ xs
      front = ap (take p) split ∙ take_at (take at out ++ xs) (drop (at + length xs) out) p head_length

      behind : drop p mid ≡ drop (at + length xs) out
      behind = ap (drop p) split ∙ drop_at (take at out ++ xs) (drop (at + length xs) out) p head_length

      back : drop (p + length ys) mid ≡ drop (at + length (xs ++ ys)) out
      back =
          let e : at + length xs + length ys ≡ at + length (xs ++ ys) = omega (arith, long) in
          sym (drop-drop (length ys) p mid) ∙ ap (drop (length ys)) behind ∙ drop-drop (length ys) (at + length xs) out ∙ ap (λ (n : ℕ). drop n out) e

      joined : (take at out ++ xs) ++ (ys ++ drop (at + length (xs ++ ys)) out) ≡ take at out ++ ((xs ++ ys) ++ drop (at + length (xs ++ ys)) out)
      joined = simp append_assoc

pub wrote_none : (out : List ℕ) (at : ℕ) → Wrote out at [] out at
wrote_none out at =
    let e : at + 0 ≡ at = omega arith in
    record { next_is = sym e; bytes_are = sym (ap (λ (n : ℕ). take at out ++ drop n out) e ∙ take-append-drop at out) }

-- at the front
pub wrote_front : {out bytes last : List ℕ} {q : ℕ} → Wrote out 0 bytes last q → last ≡ bytes ++ drop (length bytes) out
wrote_front {out} {bytes} w = w.bytes_are ∙ ap (λ (n : ℕ). bytes ++ drop n out) (zero-add (length bytes))

-- ---- a run of pieces

pub record Onward (before : List ℕ) (at : ℕ) (all out : List ℕ) (p : ℕ) (rest : List ℕ) : Type 0 where
  pub same_length : length out ≡ length before
  pub room : p + length rest ≤ length out
  pub completes : (last : List ℕ) (q : ℕ) → Wrote out p rest last q → Wrote before at all last q

pub onward_start : (out : List ℕ) (at : ℕ) (all : List ℕ) → at + length all ≤ length out → Onward out at all out at all
onward_start out at all h = record { same_length = refl; room = h; completes = λ last q w. w }

module _ {before : List ℕ} {at : ℕ} {all out : List ℕ} {p : ℕ} where
  pub onward_room : (xs ys : List ℕ) → Onward before at all out p (xs ++ ys) → p + length xs ≤ length out
  onward_room xs ys o = omega (arith, o.room, length-append xs ys)

  pub onward_step : (xs ys mid : List ℕ) (q : ℕ) → Onward before at all out p (xs ++ ys) → length mid ≡ length out → Wrote out p xs mid q
      → Onward before at all mid q ys
  onward_step xs ys mid q o l w = record {
    same_length = l ∙ o.same_length;
    room = omega (arith, o.room, length-append xs ys, w.next_is, l);
    completes = λ last r v. o.completes last r (wrote_then out mid last p q r xs ys o.room w v);
  }

  pub onward_end : Onward before at all out p [] → Wrote before at all out p
  onward_end o = o.completes out p (wrote_none out p)

  pub onward_as : (xs ys : List ℕ) → xs ≡ ys → Onward before at all out p xs → Onward before at all out p ys
  onward_as xs ys e o = subst (Onward before at all out p) e o

-- ---- what is left to write

pub bytes_left : (bs : List ℕ) (i : ℕ) → i < length bs → drop i bs ≡ (get_or bs i 0 ∷ []) ++ drop (i + 1) bs
bytes_left bs i h = drop-cons bs i 0 h ∙ ap (λ (n : ℕ). get_or bs i 0 ∷ drop n bs) (sym (add-one i))

pub fields_more : (xs : List ℕ) (i : ℕ) → i < length xs → field_bytes (drop i xs) ≡ (tab ∷ decimal (get_or xs i 0)) ++ field_bytes (drop (i + 1) xs)
unfolding field_bytes glue_fields
fields_more xs i h = ap field_bytes (bytes_left xs i h)

pub fields_done : (xs : List ℕ) (i : ℕ) → length xs ≤ i → field_bytes (drop i xs) ≡ []
unfolding field_bytes glue_fields
fields_done xs i h = ap field_bytes (drop_of_length-le xs h)

pub line_parts : (word row : List ℕ) → line_bytes word row ≡ word ++ (field_bytes row ++ (line_feed ∷ []))
unfolding line_bytes line_of glue_line field_bytes
line_parts word row = refl

-- words that stand behind each other are the part of the table there
words_taken : (t : List ℕ) (i n : ℕ) → i + n ≤ length t → take n (drop i t) ≡ words_from t i n
unfolding rows_from
words_taken t i zero h = refl
words_taken t i (suc n) h = ap (take (suc n)) (drop-cons t i 0 (omega arith)) ∙ ap (λ (ws : List ℕ). get_or t i 0 ∷ ws) (words_taken t (suc i) n (omega arith))

-- the words of row k, as the code takes them
pub row_taken : (t : List ℕ) (k : ℕ) → k * words + words ≤ length t → take ((k + 1) * words - k * words) (drop (k * words) t) ≡ words_from t (k * words) words
row_taken t k h =
    let five : (k + 1) * words - k * words ≡ words = omega arith in
    ap (λ (n : ℕ). take n (drop (k * words) t)) five ∙ words_taken t (k * words) words h

module _ (word t : List ℕ) where
  pub rows_left : (k n : ℕ) → k < n → row_bytes word t k (n - k) ≡ line_bytes word (words_from t (k * words) words) ++ row_bytes word t (k + 1) (n - (k + 1))
  unfolding row_bytes line_bytes glue
  rows_left k n h = rw (rows_more (line_at word t) k n h)

  pub rows_none : (k n : ℕ) → n ≤ k → row_bytes word t k (n - k) ≡ []
  unfolding row_bytes glue
  rows_none k n h = rw (rows_done (line_at word t) k n h)

-- ---- a number

pub small_number : (n : ℕ) → n < 10 → decimal n ≡ (48 + n % 10) ∷ []
small_number n h = let e : nought + n ≡ 48 + n % 10 = omega arith in decimal_small n h ∙ ap (λ (b : ℕ). b ∷ []) e

pub large_number : (n : ℕ) → 10 ≤ n → decimal n ≡ decimal (n / 10) ++ ((48 + n % 10) ∷ [])
large_number n h = decimal_large n h

module _ (n at long : ℕ) where
  pub small_room : n < 10 → at + length (decimal n) ≤ long → at < long
  small_room h r = omega (arith, r, ap length (small_number n h))

  pub front_room : 10 ≤ n → at + length (decimal n) ≤ long → at + length (decimal (n / 10)) ≤ long
  front_room h r = omega (arith, r, ap length (large_number n h), length-append (decimal (n / 10)) ((48 + n % 10) ∷ []))

  pub last_room : 10 ≤ n → at + length (decimal n) ≤ long → (p : ℕ) → p ≡ at + length (decimal (n / 10)) → p < long
  last_room h r p e = omega (arith, r, e, ap length (large_number n h), length-append (decimal (n / 10)) ((48 + n % 10) ∷ []))

module _ (out : List ℕ) (at n : ℕ) where
  pub number_small : n < 10 → (last : List ℕ) (q : ℕ) → Wrote out at ((48 + n % 10) ∷ []) last q → Wrote out at (decimal n) last q
  number_small h last q w = subst (λ (bs : List ℕ). Wrote out at bs last q) (sym (small_number n h)) w

  pub number_large : 10 ≤ n → at + length (decimal n) ≤ length out → (mid last : List ℕ) (p q : ℕ) → Wrote out at (decimal (n / 10)) mid p
      → Wrote mid p ((48 + n % 10) ∷ []) last q → Wrote out at (decimal n) last q
  number_large h room mid last p q w v =
      let e = large_number n h in
      subst (λ (bs : List ℕ). Wrote out at bs last q) (sym e)
      (wrote_then out mid last at p q (decimal (n / 10)) ((48 + n % 10) ∷ []) (subst (λ (bs : List ℕ). at + length bs ≤ length out) e room) w v)

-- ---- the loops

module _ (before : List ℕ) (at : ℕ) (all bs out : List ℕ) (p i : ℕ) where
  byte_first : i < length bs → Onward before at all out p (drop i bs) → Onward before at all out p ((get_or bs i 0 ∷ []) ++ drop (i + 1) bs)
  byte_first h o = onward_as (drop i bs) ((get_or bs i 0 ∷ []) ++ drop (i + 1) bs) (bytes_left bs i h) o

  pub byte_room : i < length bs → Onward before at all out p (drop i bs) → p < length out
  byte_room h o = let room = onward_room (get_or bs i 0 ∷ []) (drop (i + 1) bs) (byte_first h o) in omega (arith, room)

  pub byte_goes : i < length bs → Onward before at all out p (drop i bs) → (mid : List ℕ) (q : ℕ) → length mid ≡ length out
      → Wrote out p (get_or bs i 0 ∷ []) mid q → Onward before at all mid q (drop (i + 1) bs)
  byte_goes h o mid q l w = onward_step (get_or bs i 0 ∷ []) (drop (i + 1) bs) mid q (byte_first h o) l w

  pub bytes_end : length bs ≤ i → Onward before at all out p (drop i bs) → Wrote before at all out p
  bytes_end h o = onward_end (onward_as (drop i bs) [] (drop_of_length-le bs h) o)

module _ (before : List ℕ) (at : ℕ) (all xs out : List ℕ) (p i : ℕ) where
  field_first : i < length xs → Onward before at all out p (field_bytes (drop i xs))
      → Onward before at all out p ((tab ∷ decimal (get_or xs i 0)) ++ field_bytes (drop (i + 1) xs))
  field_first h o = onward_as (field_bytes (drop i xs)) ((tab ∷ decimal (get_or xs i 0)) ++ field_bytes (drop (i + 1) xs)) (fields_more xs i h) o

  pub field_room : i < length xs → Onward before at all out p (field_bytes (drop i xs)) → p + length (tab ∷ decimal (get_or xs i 0)) ≤ length out
  field_room h o = onward_room (tab ∷ decimal (get_or xs i 0)) (field_bytes (drop (i + 1) xs)) (field_first h o)

  pub field_goes : i < length xs → Onward before at all out p (field_bytes (drop i xs)) → (mid : List ℕ) (q : ℕ) → length mid ≡ length out
      → Wrote out p (tab ∷ decimal (get_or xs i 0)) mid q → Onward before at all mid q (field_bytes (drop (i + 1) xs))
  field_goes h o mid q l w = onward_step (tab ∷ decimal (get_or xs i 0)) (field_bytes (drop (i + 1) xs)) mid q (field_first h o) l w

  pub fields_end : length xs ≤ i → Onward before at all out p (field_bytes (drop i xs)) → Wrote before at all out p
  fields_end h o = onward_end (onward_as (field_bytes (drop i xs)) [] (fields_done xs i h) o)

module _ (before : List ℕ) (at : ℕ) (all word t out : List ℕ) (p k n : ℕ) (row : List ℕ) (is : row ≡ words_from t (k * words) words) where
  line_first : k < n → Onward before at all out p (row_bytes word t k (n - k)) → Onward before at all out p (line_bytes word row ++ row_bytes word t (k + 1) (n - (k + 1)))
  line_first h o =
      onward_as (row_bytes word t k (n - k)) (line_bytes word row ++ row_bytes word t (k + 1) (n - (k + 1)))
      (rows_left word t k n h ∙ ap (λ (ws : List ℕ). line_bytes word ws ++ row_bytes word t (k + 1) (n - (k + 1))) (sym is)) o

  pub line_room : k < n → Onward before at all out p (row_bytes word t k (n - k)) → p + length (line_bytes word row) ≤ length out
  line_room h o = onward_room (line_bytes word row) (row_bytes word t (k + 1) (n - (k + 1))) (line_first h o)

  pub line_goes : k < n → Onward before at all out p (row_bytes word t k (n - k)) → (mid : List ℕ) (q : ℕ) → length mid ≡ length out
      → Wrote out p (line_bytes word row) mid q → Onward before at all mid q (row_bytes word t (k + 1) (n - (k + 1)))
  line_goes h o mid q l w = onward_step (line_bytes word row) (row_bytes word t (k + 1) (n - (k + 1))) mid q (line_first h o) l w

pub lines_end : (before : List ℕ) (at : ℕ) (all word t out : List ℕ) (p k n : ℕ) → n ≤ k → Onward before at all out p (row_bytes word t k (n - k))
    → Wrote before at all out p
lines_end before at all word t out p k n h o = onward_end (onward_as (row_bytes word t k (n - k)) [] (rows_none word t k n h) o)

-- ---- a line

module _ (out : List ℕ) (at : ℕ) (word row : List ℕ) (room : at + length (line_bytes word row) ≤ length out) where
  begun : Onward out at (line_bytes word row) out at (word ++ (field_bytes row ++ (line_feed ∷ [])))
  begun =
      onward_as (line_bytes word row) (word ++ (field_bytes row ++ (line_feed ∷ []))) (line_parts word row) (onward_start out at (line_bytes word row) room)

  pub line_word_room : at + length word ≤ length out
  line_word_room = onward_room word (field_bytes row ++ (line_feed ∷ [])) begun

  module _ (mid : List ℕ) (p : ℕ) (l : length mid ≡ length out) (w : Wrote out at word mid p) where
    worded : Onward out at (line_bytes word row) mid p (field_bytes row ++ (line_feed ∷ []))
    worded = onward_step word (field_bytes row ++ (line_feed ∷ [])) mid p begun l w

    pub line_fields_room : p + length (field_bytes row) ≤ length mid
    line_fields_room = onward_room (field_bytes row) (line_feed ∷ []) worded

    module _ (end : List ℕ) (q : ℕ) (m : length end ≡ length mid) (v : Wrote mid p (field_bytes row) end q) where
      fielded : Onward out at (line_bytes word row) end q (line_feed ∷ [])
      fielded = onward_step (field_bytes row) (line_feed ∷ []) end q worded m v

      pub line_feed_room : q < length end
      line_feed_room = omega (arith, fielded.room)

      pub line_whole : (last : List ℕ) (r : ℕ) → Wrote end q (line_feed ∷ []) last r → Wrote out at (line_bytes word row) last r
      line_whole last r u = fielded.completes last r u
