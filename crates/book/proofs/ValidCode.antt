-- What the code that judges lent tables knows of a good book.
--     booking_tells                               the tests of a booking
--     open_tells, long_fails, closed_fails        a place by its mark; a free one is good by `free_place`
--     book_stops, book_whole                      the places, one by one
-- Assumes nothing.
use mathlib.Core.Bool.{Bool, false, ◌&&◌}
use mathlib.Core.List.{List, [], ◌∷◌}
use mathlib.Core.Path.{◌≡◌, sym}
use Prim.Native.Nat.{ℕ, ◌*◌, ◌≤◌, ◌<◌}
use native.Mathlib.Nat.{not-suc-le-zero}
use native.Mathlib.Omega.{arith}
use lib.Dec.{leb}
use lib.ListN.{length}
use Rattle.std.specs.List.{list_all}
use Rattle.units.specs.Limits.{most_chain, most_class, most_consumption, most_places}
use Rattle.plan.specs.Plan.{Each}
use Rattle.plan.specs.Verdict.{Verdict, holds, fails}
use Rattle.plan.proofs.Tests.{each_cons, each_head, each_tail}
use Rattle.plan.proofs.Verdicts.{tells_le, both, restated, false_fails}
use Rattle.book.specs.Book.{Booking, Named, GoodBooking}
use Rattle.book.specs.Tables.{place_words, free_mark, open_mark, mark_at, count_at, booking_at, GoodPlace, open_place, IsBook}
use Rattle.book.proofs.PlaceLaws.{booking_few, booking_of_lem, free_of}

named_tells : (m c : ℕ) → Verdict (Named m c) (leb 1 c && leb c m)
named_tells m c = restated (λ p. record { least = p.0; most = p.1 }) (λ g. (g.least, g.most)) (both (tells_le 1 c) (tells_le c m))

none_named : (m : ℕ) → Each (Named m) []
unfolding Each
none_named m = λ blank k h. absurd (not-suc-le-zero h)

all_named : (m : ℕ) (chain : List ℕ) → Verdict (Each (Named m) chain) (list_all (λ c. leb 1 c && leb c m) chain)
all_named m [] = holds (none_named m)
all_named m (c ∷ chain) =
    restated (λ p. each_cons (Named m) c chain p.0 p.1) (λ all. (each_head (Named m) c chain all, each_tail (Named m) c chain all))
    (both (named_tells m c) (all_named m chain))

pub booking_tells : (m : ℕ) (b : Booking) (named : Bool) → named ≡ list_all (λ c. leb 1 c && leb c m) b.chain
    → Verdict (GoodBooking m b)
    (leb 1 b.class && leb b.class most_class && leb 1 b.consumption && leb b.consumption most_consumption && leb 1 (length b.chain)
    && leb (length b.chain) most_chain && named)
booking_tells m b named e =
    rw e
    (restated
    (λ p. record {
      class_least = p.0.0.0.0.0.0;
      class_most = p.0.0.0.0.0.1;
      consumption_least = p.0.0.0.0.1;
      consumption_most = p.0.0.0.1;
      some = p.0.0.1;
      few = p.0.1;
      named = p.1;
    })
    (λ g. ((((((g.class_least, g.class_most), g.consumption_least), g.consumption_most), g.some), g.few), g.named))
    (both
    (both
    (both (both (both (both (tells_le 1 b.class) (tells_le b.class most_class)) (tells_le 1 b.consumption)) (tells_le b.consumption most_consumption))
    (tells_le 1 (length b.chain))) (tells_le (length b.chain) most_chain))
    (all_named m b.chain)))

module _ (m : ℕ) (t u : List ℕ) (k : ℕ) where
  pub open_tells : mark_at t k ≡ open_mark → (b : Bool) → Verdict (GoodBooking m (booking_at t u k)) b → Verdict (GoodPlace m t u k) b
  open_tells e b told = restated (λ g. open_place e (booking_few m t u k g) g) (booking_of_lem m t u k e) told

  pub long_fails : mark_at t k ≡ open_mark → false ≡ leb (count_at t k) most_chain → Verdict (GoodPlace m t u k) false
  long_fails e long = open_tells e false (fails (λ g. false_fails (tells_le (count_at t k) most_chain) (sym long) (booking_few m t u k g)))

  pub closed_fails : (mark_at t k ≡ free_mark → ⊥) → (mark_at t k ≡ open_mark → ⊥) → Verdict (GoodPlace m t u k) false
  closed_fails taken shut = fails (λ g. taken (free_of m t u k shut g))

  pub book_stops : k < most_places → (b : Bool) → Verdict (GoodPlace m t u k) b → b ≡ false → Verdict (IsBook m t u) false
  book_stops h b told bad = fails (λ g. false_fails told bad (g.places_good k h))

  pub book_whole : most_places * place_words ≤ length t → most_places * most_chain ≤ length u → most_places ≤ k → ((j : ℕ) → j < k → GoodPlace m t u j) → IsBook m t u
  book_whole lt lu h all = record { places_lent = lt; chains_lent = lu; places_good = λ j l. all j (omega arith) }
