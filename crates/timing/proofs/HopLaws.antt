-- One hop over a contact.
--     hop_told, hop_made           when a file is ready at the other end, as sums and orders
--     hop_sent, hop_after          it is ready there no sooner than it has been sent, nor than here
--     hop_bounded                  and no later than the contact's end plus the longest light time
--     hop_sooner, hop_smaller      an earlier or a smaller file is never unfit and never later where the other is not
--     back_enough, back_needed     ready below `back_over`, and only then, it is ready behind the contact below the limit
-- Assumes nothing.
use mathlib.Core.Bool.{Bool, ◌&&◌, cond}
use mathlib.Core.Logic.{◌↔◌}
use mathlib.Core.Path.{◌≡◌, refl}
use Prim.Native.Nat.{ℕ, suc, ◌+◌, ◌-◌, ◌≤◌, ◌<◌, min}
use native.Mathlib.Nat.{le_refl}
use native.Mathlib.Omega.{arith}
use lib.Dec.{leb, ltb}
use Rattle.units.specs.Limits.{most_light}
use Rattle.units.specs.declared.Millis.{Millis}
use Rattle.plan.specs.declared.rows.Contact.{Contact}
use Rattle.std.specs.Prelude.{Option, Some, None}
use Rattle.plan.specs.Verdict.{Verdict, holds, fails}
use Rattle.plan.proofs.Verdicts.{tells_le, tells_lt, both, holds_true}
use Rattle.service.specs.Service.{LightGood}
use Rattle.timing.specs.Hop.{consumed, sent, start_on, hopped}
use Rattle.timing.specs.Model.{back_over}
use Rattle.timing.proofs.Rounding.{consumed_mono, sent_mono}

-- the contact is ranged, the file fits, in time and in bytes, and is ready at the other end at r
pub data Hops (left : ℕ) (c : Contact) (size t : ℕ) : Option Millis → ℕ → Type 0 where
  over : {l : Millis} {r : ℕ} → start_on c t + sent size c.rate ≤ c.end.0 → consumed size ≤ left → r ≡ start_on c t + sent size c.rate + l.0
      → Hops left c size t (Some l) r

-- the two tests of a fit
fit_tells : (left : ℕ) (c : Contact) (size t : ℕ) → Verdict ((start_on c t + sent size c.rate ≤ c.end.0) × (consumed size ≤ left))
    (leb (start_on c t + sent size c.rate) c.end.0 && leb (consumed size) left)
fit_tells left c size t = both (tells_le _ _) (tells_le _ _)

pub hop_told : (light : Option Millis) (left : ℕ) (c : Contact) (size t : ℕ) (a : Millis) → hopped light left c size t ≡ Some a → Hops left c size t light a.0
unfolding hopped
hop_told (Some l) left c size t a e = go (leb (start_on c t + sent size c.rate) c.end.0 && leb (consumed size) left) (fit_tells left c size t) e
  where
    go : (b : Bool) → Verdict ((start_on c t + sent size c.rate ≤ c.end.0) × (consumed size ≤ left)) b
        → cond b (Some (record { 0 = start_on c t + sent size c.rate + l.0 })) None ≡ Some a → Hops left c size t (Some l) a.0
    go _ (holds h) e = over {l = l} {r = a.0} h.0 h.1 cc
    go _ (fails h) e = let z : ◌≡◌ {A = ℕ} 0 1 = cc in absurd (omega arith)
hop_told None left c size t a e = let z : ◌≡◌ {A = ℕ} 0 1 = cc in absurd (omega arith)

pub hop_made : {light : Option Millis} {left : ℕ} {c : Contact} {size t r : ℕ} → Hops left c size t light r → hopped light left c size t ≡ Some (record { 0 = r })
unfolding hopped
hop_made {left} {c} {size} {t} (over h b e) = rw (e, holds_true (fit_tells left c size t) (h, b))

module _ (light : Option Millis) (left : ℕ) (c : Contact) where
  -- it is ready at the other end when it has been sent, or later
  pub hop_sent : (size t : ℕ) (a : Millis) → hopped light left c size t ≡ Some a → start_on c t + sent size c.rate ≤ a.0
  hop_sent size t a e = go (hop_told light left c size t a e)
    where
      go : {light : Option Millis} {r : ℕ} → Hops left c size t light r → start_on c t + sent size c.rate ≤ r
      go (over f b q) = omega arith

  pub hop_after : (size t : ℕ) (a : Millis) → hopped light left c size t ≡ Some a → t ≤ a.0
  hop_after size t a e = omega (arith, hop_sent size t a e)

  pub hop_bounded : LightGood light → (size t : ℕ) (a : Millis) → hopped light left c size t ≡ Some a → a.0 ≤ c.end.0 + most_light
  hop_bounded good size t a e = go good (hop_told light left c size t a e)
    where
      go : {light : Option Millis} {r : ℕ} → LightGood light → Hops left c size t light r → r ≤ c.end.0 + most_light
      go good (over f b q) = omega arith

  -- a file that is ready earlier and takes no more
  hop_easier : (m n : ℕ) {s t : ℕ} → sent m c.rate ≤ sent n c.rate → consumed m ≤ consumed n → s ≤ t → (b : Millis) → hopped light left c n t ≡ Some b
      → (a : Millis) × (hopped light left c m s ≡ Some a) × (a.0 ≤ b.0)
  hop_easier m n {s} {t} less fewer sooner b e = go (hop_told light left c n t b e)
    where
      go : {light : Option Millis} {r : ℕ} → Hops left c n t light r → (a : Millis) × (hopped light left c m s ≡ Some a) × (a.0 ≤ r)
      go (over {l} f w q) = (record { 0 = start_on c s + sent m c.rate + l.0 }, hop_made (over (omega arith) (omega arith) refl), omega arith)

  pub hop_sooner : (size : ℕ) {s t : ℕ} → s ≤ t → (b : Millis) → hopped light left c size t ≡ Some b
      → (a : Millis) × (hopped light left c size s ≡ Some a) × (a.0 ≤ b.0)
  hop_sooner size sooner b e = hop_easier size size (le_refl _) (le_refl _) sooner b e

  pub hop_smaller : {m n : ℕ} → 1 ≤ c.rate → m ≤ n → (t : ℕ) (b : Millis) → hopped light left c n t ≡ Some b
      → (a : Millis) × (hopped light left c m t ≡ Some a) × (a.0 ≤ b.0)
  hop_smaller {m} {n} rated smaller t b e = hop_easier m n (sent_mono c.rate rated smaller) (consumed_mono smaller) (le_refl t) b e

-- below `back_over` is to fit, and to be ready behind the contact below the limit
back_iff : (l : Millis) (left : ℕ) (c : Contact) (size limit t : ℕ) → (t < back_over (Some l) left c size limit)
    ↔ ((start_on c t + sent size c.rate ≤ c.end.0) × (consumed size ≤ left) × (start_on c t + sent size c.rate + l.0 < limit))
unfolding back_over
back_iff l left c size limit t = go (ltb c.start.0 b && leb (consumed size) left) (both (tells_lt c.start.0 b) (tells_le (consumed size) left))
  where
    b : ℕ
    b = min (suc c.end.0 - sent size c.rate) (limit - (sent size c.rate + l.0))

    go : (x : Bool) → Verdict ((c.start.0 < b) × (consumed size ≤ left)) x
        → (t < cond x b 0) ↔ ((start_on c t + sent size c.rate ≤ c.end.0) × (consumed size ≤ left) × (start_on c t + sent size c.rate + l.0 < limit))
    go _ (holds h) = (λ q. (omega arith, h.1, omega arith), λ q. omega arith)
    go _ (fails h) = (λ q. absurd (omega arith), λ q. absurd (h (omega arith, q.1)))

pub back_enough : (light : Option Millis) (left : ℕ) (c : Contact) (size limit t : ℕ) → t < back_over light left c size limit
    → (a : Millis) × (hopped light left c size t ≡ Some a) × (a.0 < limit)
unfolding back_over
back_enough (Some l) left c size limit t h =
    let f = (back_iff l left c size limit t).0 h in
    (record { 0 = start_on c t + sent size c.rate + l.0 }, hop_made (over f.0 f.1 refl), f.2)
back_enough None left c size limit t h = absurd (omega arith)

pub back_needed : (light : Option Millis) (left : ℕ) (c : Contact) (size limit t : ℕ) (a : Millis) → hopped light left c size t ≡ Some a → a.0 < limit
    → t < back_over light left c size limit
back_needed light left c size limit t a e h = go (hop_told light left c size t a e) h
  where
    go : {light : Option Millis} {r : ℕ} → Hops left c size t light r → r < limit → t < back_over light left c size limit
    go (over {l} f b q) h = (back_iff l left c size limit t).1 (f, b, omega arith)
