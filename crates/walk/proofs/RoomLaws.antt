-- Room, found bit by bit.
--     size_tells          the test of a size
--     in_time_smaller     a smaller file is carried in time too
--     room_is             the size found is the greatest that the chain carries in time
-- Assumes nothing.
use mathlib.Core.Bool.{Bool, cond}
use mathlib.Core.List.{List}
use mathlib.Core.Logic.{◌⊎◌, inl, inr, ⊎_elim}
use mathlib.Core.Path.{◌≡◌, refl}
use Prim.Native.Nat.{ℕ, zero, suc, ◌+◌, ◌^◌, ◌≤◌, ◌<◌, zero-le}
use native.Mathlib.Decide.{dec_lt}
use native.Mathlib.Nat.{two-pow-succ}
use native.Mathlib.Omega.{arith}
use Rattle.units.specs.Limits.{most_size}
use Rattle.units.specs.declared.Ask.{Ask}
use Rattle.plan.specs.Verdict.{Verdict, holds, fails}
use Rattle.plan.proofs.Verdicts.{tells_le, tells_lt, both, restated}
use Rattle.service.specs.Service.{Service, Sound}
use Rattle.std.specs.Prelude.{Option, Some, None}
use Rattle.units.specs.declared.Millis.{Millis}
use Rattle.timing.specs.Chain.{Allowed, InTime, ask_of}
use Rattle.walk.specs.Figures.{IsRoom}
use Rattle.timing.specs.Model.{delivery_of}
use Rattle.walk.specs.Model.{is_before, carries_size, room_from, size_bits, room_of}
use Rattle.units.specs.Asks.{GoodAsk}
use Rattle.timing.proofs.ChainLaws.{carries_smaller, allowed_delivery, allowed_never, allowed_determined}

-- the delivery tells whether the chain is in time
in_time_tells : (p : Service) (ask : Ask) → (ask.source.0 ≡ ask.destination.0 → ⊥) → (chain : List ℕ)
    → Verdict (InTime p ask chain) (is_before (delivery_of p ask chain) ask.deadline.0)
in_time_tells p ask differ chain = go (delivery_of p ask chain) refl
  where
    go : (a : Option Millis) → delivery_of p ask chain ≡ a → Verdict (InTime p ask chain) (is_before a ask.deadline.0)
    go (Some r) e =
        let a = (allowed_delivery p ask differ chain r).0 e in
        restated (λ h. record { delivery = r.0; allowed = a; early = h }) (λ i. omega (arith, allowed_determined p ask a i.allowed, i.early))
        (tells_lt r.0 ask.deadline.0)
    go None e = fails (λ i. allowed_never p ask e i.allowed)

pub size_tells : (p : Service) (ask : Ask) → (ask.source.0 ≡ ask.destination.0 → ⊥) → (chain : List ℕ) (n : ℕ)
    → Verdict (InTime p (ask_of ask n) chain) (carries_size p ask chain n)
unfolding carries_size
size_tells p ask differ chain n = in_time_tells p (ask_of ask n) differ chain

-- with b bits left: n is 0 or is carried, and whatever is carried is below n plus 2 ^ b
record SoFar (p : Service) (ask : Ask) (chain : List ℕ) (n b : ℕ) : Type 0 where
  most : n ≤ most_size
  carried : (n ≡ 0) ⊎ InTime p (ask_of ask n) chain
  greatest : (m : ℕ) → m ≤ most_size → InTime p (ask_of ask m) chain → m < n + 2 ^ b

module _ (p : Service) (valid : Sound p) (ask : Ask) (chain : List ℕ) where
  pub in_time_smaller : {m n : ℕ} → m ≤ n → InTime p (ask_of ask n) chain → InTime p (ask_of ask m) chain
  in_time_smaller h i =
      let (q, k, l) = carries_smaller ask valid h i.allowed.carried in
      record { delivery = q; allowed = record { some_contact = i.allowed.some_contact; carried = k }; early = omega (arith, i.early) }

  next_bit : (n b : ℕ) (x : Bool) → SoFar p ask chain n (suc b) → Verdict ((n + 2 ^ b ≤ most_size) × InTime p (ask_of ask (n + 2 ^ b)) chain) x
      → SoFar p ask chain (cond x (n + 2 ^ b) n) b
  next_bit n b _ s (holds h) =
      record { most = h.0; carried = inr h.1; greatest = λ m l i. omega (arith, s.greatest m l i, two-pow-succ b) }
  next_bit n b _ s (fails h) = record { most = s.most; carried = s.carried; greatest = λ m l i. below m l i (dec_lt m (n + 2 ^ b)) }
    where
      below : (m : ℕ) → m ≤ most_size → InTime p (ask_of ask m) chain → Dec (m < n + 2 ^ b) → m < n + 2 ^ b
      below m l i (yes q) = q
      below m l i (no q) = absurd (h (omega arith, in_time_smaller (omega arith) i))

  module _ (differ : ask.source.0 ≡ ask.destination.0 → ⊥) where
    bits_left : (b n : ℕ) → SoFar p ask chain n b → SoFar p ask chain (room_from p ask chain n b) 0
    unfolding room_from
    bits_left zero n s = s
    bits_left (suc b) n s = bits_left b _ (next_bit n b _ s (both (tells_le (n + 2 ^ b) most_size) (size_tells p ask differ chain (n + 2 ^ b))))

    -- on its own, so that `room_of` unfolds in nothing that computes
    all_bits : SoFar p ask chain 0 size_bits → SoFar p ask chain (room_of p ask chain) 0
    unfolding room_of
    all_bits s = bits_left size_bits 0 s

    pub room_is : GoodAsk ask → {r : ℕ} → Allowed p ask chain r → r < ask.deadline.0 → IsRoom p ask chain (room_of p ask chain)
    unfolding most_size
    room_is good {r} a h =
        let found = all_bits (record { most = zero-le; carried = inl refl; greatest = λ m l j. omega arith }) in
        let enough = found.greatest ask.size good.size_most (record { delivery = r; allowed = a; early = h }) in
        record {
          most = found.most;
          carried = ⊎_elim (λ e. absurd (omega (arith, good.size_least))) (λ c. c) found.carried;
          greatest = λ m l j. omega (arith, found.greatest m l j);
        }
