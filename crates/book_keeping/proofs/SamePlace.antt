-- What is in a place once a booking is entered in it, or in another, and once one of them is freed.
--     SamePlace                                two pairs of tables hold the same in a place
--     same_good, same_seen                     what is good there stays good, and what depends on the booking there stays
--     chain_there                              the contact numbers of a good booking have room beside a place
--     entered_long, numbers_long, freed_long   the tables keep their lengths
--     entered_open, entered_booking            the place in which a booking is entered
--     freed_free                               the place that is freed
--     entered_other, freed_other               every other place is the same as before
-- Assumes nothing.
use mathlib.Core.Bool.{Bool, true, false, cond}
use mathlib.Core.List.{List, [], ◌∷◌}
use mathlib.Core.Logic.{⊎_elim}
use mathlib.Core.Path.{◌≡◌, refl, sym, ap, ◌∙◌, subst}
use Prim.Native.Nat.{ℕ, ◌+◌, ◌*◌, ◌≤◌, ◌<◌}
use native.Mathlib.Nat.{add-zero, zero-add, eq-or-lt_of_le, mul-le-mul_right, suc-mul}
use native.Mathlib.Omega.{arith}
use borrow.Author.Tests.{eqb-true, ltb-true, ltb-false}
use lib.Dec.{eqb, ltb}
use lib.ListN.{length, get_or, length-set}
use lib.Seq.{length-sets, get_or-set_same, ext_get_or}
use Rattle.units.specs.Limits.{most_chain, most_places}
use Rattle.plan.specs.Tables.{rows_from}
use Rattle.plan.proofs.RowList.{length_rows, get_d_rows, rows_agree}
use Rattle.book.specs.Book.{Booking, GoodBooking}
use Rattle.book.specs.Tables.{place_words, free_mark, open_mark, mark_at, count_at, booking_at, GoodPlace, free_place, open_place, IsBook}
use Rattle.book.proofs.PlaceLaws.{booking_few, booking_of_lem, place_there}
use Rattle.book_keeping.specs.Keeping.{entered, entered_chain, freed}
use Rattle.book_keeping.proofs.PlaceStores.{words_of, entered_sets, chain_sets, freed_set}
use Rattle.book_keeping.proofs.Stores.{Beside, before, behind, sets_outside, sets_inside}

-- the same mark and, where it is open, the same booking
pub record SamePlace (t u t' u' : List ℕ) (j : ℕ) : Type 0 where
  pub mark_same : mark_at t' j ≡ mark_at t j
  pub booking_same : mark_at t j ≡ open_mark → booking_at t' u' j ≡ booking_at t u j

module _ (t u t' u' : List ℕ) (j : ℕ) (same : SamePlace t u t' u' j) where
  pub same_good : (m : ℕ) → GoodPlace m t u j → GoodPlace m t' u' j
  same_good m (free_place f) = free_place (same.mark_same ∙ f)
  same_good m (open_place o few g) =
      let good = subst (GoodBooking m) (sym (same.booking_same o)) g in
      open_place (same.mark_same ∙ o) (booking_few m t' u' j good) good

  pub same_seen : {A : Type 0} (see : Booking → A) (none : A)
      → cond (eqb (mark_at t' j) open_mark) (see (booking_at t' u' j)) none ≡ cond (eqb (mark_at t j) open_mark) (see (booking_at t u j)) none
  same_seen see none =
      ap (λ (n : ℕ). cond (eqb n open_mark) (see (booking_at t' u' j)) none) same.mark_same ∙ go (eqb (mark_at t j) open_mark) (eqb-true (mark_at t j) open_mark)
    where
      go : (x : Bool) → (x ≡ true → mark_at t j ≡ open_mark) → cond x (see (booking_at t' u' j)) none ≡ cond x (see (booking_at t u j)) none
      go true is = ap see (same.booking_same (is refl))
      go false is = refl

-- place j of w words each is beside the first n words of another place
beside : (w j k i n : ℕ) → (j ≡ k → ⊥) → i < w → n ≤ w → Beside (k * w) n (j * w + i)
beside w j k i n other h l = go (ltb j k) refl
  where
    go : (x : Bool) → ltb j k ≡ x → Beside (k * w) n (j * w + i)
    go true e = before (omega (arith, mul-le-mul_right w (ltb-true j k e), suc-mul j w))
    go false e =
        ⊎_elim (λ same. absurd (other (sym same))) (λ above. behind (omega (arith, mul-le-mul_right w above, suc-mul k w))) (eq-or-lt_of_le (ltb-false j k e))

bookings_equal : (b b' : Booking) → b'.class ≡ b.class → b'.consumption ≡ b.consumption → b'.chain ≡ b.chain → b' ≡ b
bookings_equal b b' ec ed es =
    ap (λ (n : ℕ). record { class = n; consumption = b'.consumption; chain = b'.chain }) ec
    ∙ ap (λ (n : ℕ). record { class = b.class; consumption = n; chain = b'.chain }) ed
    ∙ ap (λ (ns : List ℕ). record { class = b.class; consumption = b.consumption; chain = ns }) es

-- its words are the same, and its contact numbers as far as they are looked at
module _ (t u t' u' : List ℕ) (j : ℕ)
    (words_same : (i : ℕ) → i < place_words → get_or t' (j * place_words + i) 0 ≡ get_or t (j * place_words + i) 0)
    (Chain-same : mark_at t j ≡ open_mark → (i : ℕ) → i < count_at t j → get_or u' (j * most_chain + i) 0 ≡ get_or u (j * most_chain + i) 0) where
  agree_same : SamePlace t u t' u' j
  agree_same = record {
    mark_same = simp add-zero at (words_same 0 (omega arith));
    booking_same = λ o.
        bookings_equal (booking_at t u j) (booking_at t' u' j) (words_same 1 (omega arith)) (words_same 2 (omega arith))
        (ap (rows_from (λ i. get_or u' (j * most_chain + i) 0) 0) (words_same 3 (omega arith))
        ∙ rows_agree (λ i. get_or u' (j * most_chain + i) 0) (λ i. get_or u (j * most_chain + i) 0) 0 (count_at t j) (λ i h. Chain-same o i (omega arith)));
  }

-- a list is its elements as rows
rows_list : (l : List ℕ) (row : ℕ → ℕ) → ((i : ℕ) → i < length l → row i ≡ get_or l i 0) → rows_from row 0 (length l) ≡ l
rows_list l row same =
    ext_get_or 0 (rows_from row 0 (length l)) l (length_rows row 0 (length l))
    (λ i h. let below : i < length l = rw (length_rows row 0 (length l)) at h in get_d_rows row 0 (length l) i 0 below ∙ ap row (zero-add i) ∙ same i below)

-- ---- a booking entered

module _ (m : ℕ) (t u : List ℕ) (book : IsBook m t u) (k : ℕ) (inside : k < most_places) (b : Booking) (good : GoodBooking m b) where
  there : k * place_words + place_words ≤ length t
  there = place_there m t u book k inside

  abbrev t' : List ℕ
  t' = entered t k b

  abbrev u' : List ℕ
  u' = entered_chain u k b.chain

  pub chain_there : k * most_chain + length b.chain ≤ length u
  unfolding most_places most_chain
  chain_there = omega (arith, book.chains_lent, good.few)

  pub entered_long : length t' ≡ length t
  entered_long = ap length (sym (entered_sets t k there b)) ∙ length-sets t (k * place_words) (words_of b)

  pub numbers_long : length u' ≡ length u
  numbers_long = ap length (sym (chain_sets u k b.chain chain_there)) ∙ length-sets u (k * most_chain) b.chain

  entered_word : (i : ℕ) → i < place_words → get_or t' (k * place_words + i) 0 ≡ get_or (words_of b) i 0
  entered_word i h = ap (λ (l : List ℕ). get_or l (k * place_words + i) 0) (sym (entered_sets t k there b)) ∙ sets_inside (words_of b) t (k * place_words) i 0 there h

  entered_number : (i : ℕ) → i < length b.chain → get_or u' (k * most_chain + i) 0 ≡ get_or b.chain i 0
  entered_number i h =
      ap (λ (l : List ℕ). get_or l (k * most_chain + i) 0) (sym (chain_sets u k b.chain chain_there))
      ∙ sets_inside b.chain u (k * most_chain) i 0 chain_there h

  pub entered_open : mark_at t' k ≡ open_mark
  entered_open = simp add-zero at (entered_word 0 (omega arith))

  pub entered_booking : booking_at t' u' k ≡ b
  entered_booking =
      bookings_equal b (booking_at t' u' k) (entered_word 1 (omega arith)) (entered_word 2 (omega arith))
      (ap (rows_from (λ i. get_or u' (k * most_chain + i) 0) 0) (entered_word 3 (omega arith)) ∙ rows_list b.chain (λ i. get_or u' (k * most_chain + i) 0) entered_number)

  pub entered_other : (j : ℕ) → j < most_places → (j ≡ k → ⊥) → SamePlace t u t' u' j
  entered_other j h other =
      agree_same t u t' u' j
      (λ i l.
      ap (λ (s : List ℕ). get_or s (j * place_words + i) 0) (sym (entered_sets t k there b))
      ∙ sets_outside (words_of b) t (k * place_words) (j * place_words + i) 0 (beside place_words j k i place_words other l (omega arith)))
      (λ o i l.
      let few = booking_few m t u j (booking_of_lem m t u j o (book.places_good j h)) in
      ap (λ (s : List ℕ). get_or s (j * most_chain + i) 0) (sym (chain_sets u k b.chain chain_there))
      ∙ sets_outside b.chain u (k * most_chain) (j * most_chain + i) 0 (beside most_chain j k i (length b.chain) other (omega arith) good.few))

-- ---- a place freed

module _ (t : List ℕ) (k : ℕ) (there : k * place_words + place_words ≤ length t) where
  pub freed_long : length (freed t k) ≡ length t
  freed_long = ap length (sym (freed_set t k there)) ∙ length-set t (k * place_words) free_mark

  pub freed_free : mark_at (freed t k) k ≡ free_mark
  freed_free =
      ap (λ (s : List ℕ). mark_at s k) (sym (freed_set t k there)) ∙ get_or-set_same t (k * place_words) free_mark 0 (omega arith)

  pub freed_other : (u : List ℕ) (j : ℕ) → (j ≡ k → ⊥) → SamePlace t u (freed t k) u j
  freed_other u j other =
      agree_same t u (freed t k) u j
      (λ i l.
      ap (λ (s : List ℕ). get_or s (j * place_words + i) 0) (sym (freed_set t k there))
      ∙ sets_outside (free_mark ∷ []) t (k * place_words) (j * place_words + i) 0 (beside place_words j k i 1 other l (omega arith)))
      (λ o i l. refl)
