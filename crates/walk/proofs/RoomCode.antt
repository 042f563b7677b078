-- What the loop of room knows of the model.
--     bit_most, shifted      a bit has room in a word
--     raised_most     a size never passes the largest
--     room_begins, room_goes, room_ends      the sizes still to be tried
-- Assumes nothing.
use mathlib.Core.Bool.{Bool, true, false, ◌&&◌, cond}
use mathlib.Core.List.{List}
use mathlib.Core.Path.{◌≡◌, refl}
use Prim.Native.Nat.{ℕ, zero, suc, ◌+◌, ◌-◌, ◌*◌, ◌%◌, ◌^◌, ◌≤◌, ◌<◌}
use native.Mathlib.Nat.{not-suc-le-zero}
use native.Mathlib.Omega.{arith}
use borrow.Author.Tests.{leb-true}
use lib.Dec.{leb}
use lib.Pow.{pow_mono}
use Rattle.units.specs.Limits.{most_size}
use Rattle.units.specs.declared.Ask.{Ask}
use Rattle.service.specs.Service.{Service}
use Rattle.walk.specs.Model.{carries_size, raised, room_from, size_bits, room_of}

-- a bit that is made by a shift
module _ (b : ℕ) (h : b ≤ size_bits) where
  pub bit_most : 2 ^ b ≤ 2 ^ size_bits
  bit_most = pow_mono h

  pub shifted : 1 * 2 ^ b % 18_446_744_073_709_551_616 ≡ 2 ^ b
  shifted = omega (arith, bit_most)

module _ (p : Service) (ask : Ask) (chain : List ℕ) where
  pub raised_most : (n bit : ℕ) → n ≤ most_size → raised p ask chain n bit ≤ most_size
  raised_most n bit h = go (leb (n + bit) most_size) (carries_size p ask chain (n + bit)) refl
    where
      go : (a b : Bool) → leb (n + bit) most_size ≡ a → cond (a && b) (n + bit) n ≤ most_size
      go true true e = leb-true (n + bit) most_size e
      go true false e = h
      go false b e = h

  pub room_begins : room_of p ask chain ≡ room_from p ask chain 0 size_bits
  unfolding room_of
  room_begins = refl

  pub room_goes : (n b bit r : ℕ) → 0 < b → bit ≡ 2 ^ (b - 1) → r ≡ raised p ask chain n bit → room_from p ask chain n b ≡ room_from p ask chain r (b - 1)
  unfolding room_from
  room_goes n zero bit r h e er = absurd (not-suc-le-zero h)
  room_goes n (suc b) bit r h e er =
      let less : suc b - 1 ≡ b = omega arith in
      let eb : bit ≡ 2 ^ b = rw less at e in
      rw (less, er, eb)

  pub room_ends : (n b : ℕ) → b ≤ 0 → room_from p ask chain n b ≡ n
  unfolding room_from
  room_ends n b h = let e : b ≡ 0 = omega arith in rw e
