-- What a place of a good book holds.
--     chain_part       its chain is a part of the table of contact numbers
--     chain_long       its chain has as many contacts as it counts
--     booking_few      no more than a best chain can have
--     booking_of_lem       an open place holds a good booking
--     free_of          a place that is not open is free
--     place_there      the words of each place are there
-- Assumes nothing.
use mathlib.Core.List.{List, [], ◌∷◌, ◌++◌}
use mathlib.Core.Path.{◌≡◌, refl, sym, ap, ◌∙◌, subst}
use Prim.Native.Nat.{ℕ, zero, suc, ◌+◌, ◌-◌, ◌*◌, ◌≤◌, ◌<◌}
use native.Mathlib.Nat.{zero-add}
use native.Mathlib.Omega.{arith}
use lib.ListN.{length, get_or, take, drop}
use Rattle.std.proofs.Common.{length-drop, get_or-drop}
use Rattle.std.proofs.Math.Seq.{take-suc}
use Rattle.units.specs.Limits.{most_chain, most_places}
use Rattle.plan.specs.Tables.{rows_from}
use Rattle.plan.proofs.RowList.{rows_last, length_rows}
use Rattle.book.specs.Book.{GoodBooking}
use Rattle.book.specs.Tables.{place_words, free_mark, open_mark, mark_at, count_at, booking_at, GoodPlace, free_place, open_place, IsBook}

-- n elements from place b on, one by one
pub part_rows : (u : List ℕ) (b n : ℕ) → b + n ≤ length u → take n (drop b u) ≡ rows_from (λ i. get_or u (b + i) 0) 0 n
unfolding rows_from
part_rows u b zero h = refl
part_rows u b (suc n) h =
    let row : ℕ → ℕ = λ i. get_or u (b + i) 0 in
    let inside : n < length (drop b u) = rw (length-drop b u) (omega arith) in
    take-suc (drop b u) n 0 inside
    ∙ ap (λ (x : ℕ). take n (drop b u) ++ (x ∷ [])) (get_or-drop b u n 0 ∙ ap row (sym (zero-add n)))
    ∙ ap (λ (xs : List ℕ). xs ++ (row (0 + n) ∷ [])) (part_rows u b n (omega arith)) ∙ sym (rows_last row 0 n)

pub chain_part : (u : List ℕ) (b n : ℕ) → b + n ≤ length u → take (b + n - b) (drop b u) ≡ rows_from (λ i. get_or u (b + i) 0) 0 n
chain_part u b n h = let e : b + n - b ≡ n = omega arith in ap (λ (l : ℕ). take l (drop b u)) e ∙ part_rows u b n h

pub chain_long : (t u : List ℕ) (k : ℕ) → length (booking_at t u k).chain ≡ count_at t k
chain_long t u k = length_rows (λ i. get_or u (k * most_chain + i) 0) 0 (count_at t k)

module _ (m : ℕ) (t u : List ℕ) (k : ℕ) where
  pub booking_few : GoodBooking m (booking_at t u k) → count_at t k ≤ most_chain
  booking_few g = subst (λ (n : ℕ). n ≤ most_chain) (chain_long t u k) g.few

  pub booking_of_lem : mark_at t k ≡ open_mark → GoodPlace m t u k → GoodBooking m (booking_at t u k)
  booking_of_lem e (free_place f) = absurd (omega arith)
  booking_of_lem e (open_place o few g) = g

  pub free_of : (mark_at t k ≡ open_mark → ⊥) → GoodPlace m t u k → mark_at t k ≡ free_mark
  free_of shut (free_place f) = f
  free_of shut (open_place o few g) = absurd (shut o)

pub place_there : (m : ℕ) (t u : List ℕ) → IsBook m t u → (k : ℕ) → k < most_places → k * place_words + place_words ≤ length t
unfolding most_places
place_there m t u book k h = omega (arith, book.places_lent)
