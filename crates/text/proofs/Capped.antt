-- Numbers that are cut to 64 bits are judged as they were.
--     capped_value_lem      digits read on, capped at each, give the capped value
--     capped_judged     a row with capped numbers is judged as the row
-- Assumes nothing.
use mathlib.Core.Bool.{Bool, true, false, cond}
use mathlib.Core.Path.{◌≡◌, refl, ap}
use mathlib.Core.List.{List, [], ◌∷◌}
use Prim.Native.Nat.{ℕ, ◌+◌, ◌-◌, ◌*◌}
use native.Mathlib.Omega.{arith}
use lib.Dec.{ltb, leb}
use lib.ListN.{length}
use Rattle.std.specs.Prelude.{Some, None}
use Rattle.units.specs.Limits.{last_time, most_rate, most_light, most_nodes, most_contacts, most_ranges}
use Rattle.plan.specs.declared.rows.Contact.{Contact}
use Rattle.plan.specs.declared.rows.Range.{Range}
use Rattle.plan.specs.Model.{good_contact, good_range}
use Rattle.plan.specs.Plan.{Plan, GoodContact, GoodRange}
use Rattle.plan.specs.Verdict.{Verdict, holds, fails}
use Rattle.plan.proofs.Tests.{good_contact_tells, good_range_tells}
use Rattle.text.specs.declared.said.Line.TheVariants.{Contact as AContact, Range as ARange}
use Rattle.text.specs.Digits.{nought, value_from, value}
use Rattle.text.specs.Reading.{after_range, too_many, bad_value}
use Rattle.text.specs.Model.{Said, row_fault, contact_fault, range_fault, with_contact, with_range, unless, judge, capped, capped_from, capped_contact, capped_range, capped_said}

capped_step : (v d : ℕ) → capped (capped v * 10 + d) ≡ capped (v * 10 + d)
unfolding capped
capped_step v d = omega arith

capped_run : (v : ℕ) (ds : List ℕ) → capped_from (capped v) ds ≡ capped (value_from v ds)
unfolding capped_from value_from
capped_run v [] = refl
capped_run v (d ∷ ds) = rw (capped_step v (d - nought)) (capped_run (v * 10 + (d - nought)) ds)

pub capped_value_lem : (ds : List ℕ) → capped_from 0 ds ≡ capped (value ds)
unfolding value capped
capped_value_lem ds = capped_run 0 ds

-- ---- the cap changes no row that is good, before or after it

module _ (c : Contact) where
  contact_same : capped c.start.0 ≡ c.start.0 → capped c.end.0 ≡ c.end.0 → capped c.from.0 ≡ c.from.0 → capped c.to.0 ≡ c.to.0
      → capped c.rate ≡ c.rate → capped_contact c ≡ c
  unfolding capped_contact
  contact_same start end from to rate = λ i. record {
    start = record { 0 = start i };
    end = record { 0 = end i };
    from = record { 0 = from i };
    to = record { 0 = to i };
    rate = rate i;
  }

  contact_before : GoodContact c → capped_contact c ≡ c
  unfolding capped last_time most_rate most_nodes
  contact_before g = contact_same (omega arith) (omega arith) (omega arith) (omega arith) (omega arith)

  contact_after : GoodContact (capped_contact c) → capped_contact c ≡ c
  unfolding capped capped_contact last_time most_rate most_nodes
  contact_after g = contact_same (omega arith) (omega arith) (omega arith) (omega arith) (omega arith)

module _ (r : Range) where
  range_same : capped r.start.0 ≡ r.start.0 → capped r.end.0 ≡ r.end.0 → capped r.a.0 ≡ r.a.0 → capped r.b.0 ≡ r.b.0
      → capped r.light.0 ≡ r.light.0 → capped_range r ≡ r
  unfolding capped_range
  range_same start end a b light = λ i. record {
    start = record { 0 = start i };
    end = record { 0 = end i };
    a = record { 0 = a i };
    b = record { 0 = b i };
    light = record { 0 = light i };
  }

  range_before : GoodRange r → capped_range r ≡ r
  unfolding capped last_time most_light most_nodes
  range_before g = range_same (omega arith) (omega arith) (omega arith) (omega arith) (omega arith)

  range_after : GoodRange (capped_range r) → capped_range r ≡ r
  unfolding capped capped_range last_time most_light most_nodes
  range_after g = range_same (omega arith) (omega arith) (omega arith) (omega arith) (omega arith)

-- ---- rows that are not good are judged alike

module _ (rows : Plan) where
  contact_bad : (c d : Contact) → good_contact c ≡ false → good_contact d ≡ false → judge rows (Some (AContact c)) ≡ judge rows (Some (AContact d))
  unfolding judge contact_fault row_fault unless
  contact_bad c d e f = rw (e, f) (go (ltb 0 (length rows.ranges)) (leb most_contacts (length rows.contacts)))
    where
      go : (a b : Bool) → unless (cond a (Some after_range) (cond b (Some too_many) (Some bad_value))) (with_contact rows c)
          ≡ unless (cond a (Some after_range) (cond b (Some too_many) (Some bad_value))) (with_contact rows d)
      go true b = refl
      go false true = refl
      go false false = refl

  range_bad : (r s : Range) → good_range r ≡ false → good_range s ≡ false → judge rows (Some (ARange r)) ≡ judge rows (Some (ARange s))
  unfolding judge range_fault row_fault unless
  range_bad r s e f = rw (e, f) (go (leb most_ranges (length rows.ranges)))
    where
      go : (a : Bool) → unless (cond a (Some too_many) (Some bad_value)) (with_range rows r) ≡ unless (cond a (Some too_many) (Some bad_value)) (with_range rows s)
      go true = refl
      go false = refl

  pub capped_judged : (s : Said) → judge rows (capped_said s) ≡ judge rows s
  unfolding capped_said
  capped_judged (Some (AContact c)) = go refl (good_contact_tells (capped_contact c)) refl (good_contact_tells c)
    where
      same : capped_contact c ≡ c → judge rows (Some (AContact (capped_contact c))) ≡ judge rows (Some (AContact c))
      same e = ap (λ (d : Contact). judge rows (Some (AContact d))) e

      go : {a b : Bool} → good_contact (capped_contact c) ≡ a → Verdict (GoodContact (capped_contact c)) a → good_contact c ≡ b → Verdict (GoodContact c) b
          → judge rows (Some (AContact (capped_contact c))) ≡ judge rows (Some (AContact c))
      go e (holds g) f w = same (contact_after c g)
      go e (fails n) f (holds g) = same (contact_before c g)
      go e (fails n) f (fails m) = contact_bad (capped_contact c) c e f
  capped_judged (Some (ARange r)) = go refl (good_range_tells (capped_range r)) refl (good_range_tells r)
    where
      same : capped_range r ≡ r → judge rows (Some (ARange (capped_range r))) ≡ judge rows (Some (ARange r))
      same e = ap (λ (d : Range). judge rows (Some (ARange d))) e

      go : {a b : Bool} → good_range (capped_range r) ≡ a → Verdict (GoodRange (capped_range r)) a → good_range r ≡ b → Verdict (GoodRange r) b
          → judge rows (Some (ARange (capped_range r))) ≡ judge rows (Some (ARange r))
      go e (holds g) f w = same (range_after r g)
      go e (fails n) f (holds g) = same (range_before r g)
      go e (fails n) f (fails m) = range_bad (capped_range r) r e f
  capped_judged None = refl
