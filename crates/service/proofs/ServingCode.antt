-- What the code that fills the tables knows of the plan.
--     volume_room                  the product that a volume is made of has room in a word
--     word_fits                    a light time in its range has room in a word of the table
--     ranged_word, unranged_word   the word of a light time, and of none
--     row_good, light_in_range     a row of the plan is a good contact, and its light time is in its range
--     ranges_linkable, ranges_listed      the ranges of the plan can be linked, and then stand in lists
--     kept_none, none_kept         nothing is kept of the walks yet
--     Beside                       the words beside a row say its light time and its volume
--     beside_more, beside_all      one row more, and all rows: the tables hold the service
-- Assumes nothing.
use mathlib.Core.List.{List, map}
use mathlib.Core.Logic.{⊎_elim}
use mathlib.Core.Path.{◌≡◌, refl, sym, ap, ◌∙◌, subst}
use Prim.Native.Nat.{ℕ, ◌+◌, ◌-◌, ◌*◌, ◌≤◌, ◌<◌}
use native.Mathlib.Nat.{zero-add, sub-zero, mul-le-mul, eq-or-lt_of_le}
use native.Mathlib.Omega.{arith}
use lib.ListN.{length, get_or, set, replicate, length-map, length-replicate, get_or-replicate}
use lib.Seq.{get_or-set_same, get_or-set_other}
use Rattle.units.specs.Limits.{last_time, most_rate, most_light, most_ranges}
use Rattle.units.specs.declared.Millis.{Millis}
use Rattle.plan.specs.declared.rows.Contact.{Contact}
use Rattle.plan.specs.declared.rows.Range.{Range}
use Rattle.std.specs.Prelude.{Option, Some, None}
use Rattle.plan.specs.Light.{light_of}
use Rattle.plan.specs.Plan.{GoodContact, GoodRange, Each}
use Rattle.plan.specs.Tables.{contact_at, range_at, rows_from, plan_of, IsPlan}
use Rattle.plan.proofs.EachRow.{each_row}
use Rattle.plan.proofs.Lent.{ranges_counted}
use Rattle.plan.proofs.RowList.{length_rows, get_d_rows}
use Rattle.plan_lists.specs.Lists.{Linked, slot_at}
use Rattle.plan_lists.specs.Model.{slots, most_rows, Linkable}
use Rattle.plan_light.specs.Model.{RangesListed, Kept}
use Rattle.service.specs.Model.{NoneKept}
use Rattle.service.specs.Service.{blank, volume, lefts_from, service_of, unused, LightGood}
use Rattle.service.specs.Tables.{unranged, light_word, light_at, left_at, served}
use Rattle.service.proofs.TablesCode.{word_unranged, word_ranged}
use Rattle.service.proofs.ServiceLaws.{get_d_mapped, rows_are, length_lefts, get_d_lefts, light_good}

pub volume_room : (c : Contact) → GoodContact c → c.rate * (c.end.0 - c.start.0) < 18_446_744_073_709_551_616
unfolding last_time most_rate
volume_room c g =
    let most : c.rate * (c.end.0 - c.start.0) ≤ most_rate * last_time = mul-le-mul {m₂ = last_time} g.rate_most (omega (arith, g.ends)) in
    omega arith

pub word_fits : (light : Option Millis) (l : Millis) → LightGood light → light ≡ Some l → l.0 < 4_294_967_296
unfolding most_light
word_fits light l good e =
    let most : l.0 ≤ most_light = subst LightGood e good in
    omega arith

pub ranged_word : (light : Option Millis) (l : Millis) → LightGood light → light ≡ Some l → light_word l.0 ≡ light
unfolding most_light unranged
ranged_word light l good e =
    let most : l.0 ≤ most_light = subst LightGood e good in
    sym (word_ranged l.0 (λ z. omega arith)) ∙ sym e

pub unranged_word : (light : Option Millis) → light ≡ None → light_word unranged ≡ light
unranged_word light e = sym (word_unranged unranged refl) ∙ sym e

-- the contact in a row of the plan
module _ (contacts : List ℕ) (m k : ℕ) (h : k < m) where
  row_at : get_or (rows_from (contact_at contacts) 0 m) k blank ≡ contact_at contacts k
  row_at = get_d_rows (contact_at contacts) 0 m k blank h ∙ ap (contact_at contacts) (zero-add k)

  row_below : k < length (rows_from (contact_at contacts) 0 m)
  row_below = subst (λ (l : ℕ). k < l) (sym (length_rows (contact_at contacts) 0 m)) h

pub row_good : (contacts : List ℕ) (m : ℕ) (ranges : List ℕ) (n : ℕ) → IsPlan contacts m ranges n → (k : ℕ) → k < m → (c : Contact) → c ≡ contact_at contacts k
    → GoodContact c
unfolding Each plan_of
row_good contacts m ranges n plan k h c e =
    subst GoodContact (row_at contacts m k h ∙ sym e) (plan.valid.contacts_good blank k (row_below contacts m k h))

pub light_in_range : (contacts : List ℕ) (m : ℕ) (ranges : List ℕ) (n : ℕ) → IsPlan contacts m ranges n → (c : Contact) (light : Option Millis)
    → light ≡ light_of (rows_from (range_at ranges) 0 n) c → LightGood light
unfolding plan_of
light_in_range contacts m ranges n plan c light e = subst LightGood (sym e) (light_good (plan_of contacts m ranges n) plan.valid c)

module _ (contacts : List ℕ) (m : ℕ) (ranges : List ℕ) (n : ℕ) (plan : IsPlan contacts m ranges n) (heads nexts : List ℕ) (slot-each : length heads ≡ slots)
    (row-each : most_rows ≤ length nexts) where
  few : n ≤ most_rows
  unfolding most_ranges most_rows
  few = ranges_counted contacts m ranges n plan

  pub ranges_linkable : Linkable ranges n heads nexts
  unfolding plan_of
  ranges_linkable = record {
    few = few;
    lent = plan.ranges_lent;
    a_slot_each = slot-each;
    a_row_each = omega (arith, few);
    pairs = λ k h.
        let good = each_row GoodRange (range_at ranges) n plan.valid.ranges_good k h in
        record { one_node = good.a_node; other_node = good.b_node };
  }

  pub ranges_listed : (heads' nexts' : List ℕ) → Linked (slot_at ranges) n heads' nexts' → length heads' ≡ length heads → length nexts' ≡ length nexts
      → RangesListed ranges n heads' nexts'
  unfolding plan_of
  ranges_listed heads' nexts' linked eh en = record {
    rows =
        record {
          few = few;
          lent = plan.ranges_lent;
          good = plan.valid.ranges_good;
          apart = plan.valid.ranges_apart;
          a_row_each = omega (arith, few, en);
          next = linked.next;
        };
    a_slot_each = eh ∙ slot-each;
    first = linked.first;
  }

  pub kept_none : (kept : List ℕ) → NoneKept kept → Kept ranges n kept
  kept_none kept none = record {
    a_row_each = omega (arith, few, none.a_row_each);
    in_list = λ h m there. absurd (omega (arith, few, none.none h (omega (arith, few))));
  }

pub none_kept : (w : ℕ) → most_rows ≤ w → NoneKept (replicate most_rows w)
none_kept w late = record {
  a_row_each = rw (length-replicate {A = ℕ} most_rows w) (omega arith);
  none = λ h m. rw (get_or-replicate most_rows h w 0 m) late;
}

-- the words beside row k say its light time and its volume
pub record Beside (contacts : List ℕ) (rs : List Range) (lights lefts : List ℕ) (k : ℕ) : Type 0 where
  pub light : light_at lights k ≡ light_of rs (contact_at contacts k)
  pub left : left_at lefts k ≡ volume (contact_at contacts k)

module _ (contacts : List ℕ) (rs : List Range) (lights lefts : List ℕ) (k word left : ℕ) where
  beside_earlier : (j : ℕ) → j < k → Beside contacts rs lights lefts j → Beside contacts rs (set lights k word) (set lefts k left) j
  beside_earlier j h b = record {
    light = ap light_word (get_or-set_other lights k j word 0 (omega arith)) ∙ b.light;
    left = get_or-set_other lefts k j left 0 (omega arith) ∙ b.left;
  }

  module _ (lights_room : k < length lights) (lefts_room : k < length lefts) (c : Contact) (light : Option Millis) (ec : c ≡ contact_at contacts k)
      (el : light ≡ light_of rs c) (ew : light_word word ≡ light) (ef : left ≡ volume c) where
    beside_there : Beside contacts rs (set lights k word) (set lefts k left) k
    beside_there = record {
      light = ap light_word (get_or-set_same lights k word 0 lights_room) ∙ ew ∙ el ∙ ap (light_of rs) ec;
      left = get_or-set_same lefts k left 0 lefts_room ∙ ef ∙ ap volume ec;
    }

    pub beside_more : ((j : ℕ) → j < k → Beside contacts rs lights lefts j)
        → (j : ℕ) → j < k + 1 → Beside contacts rs (set lights k word) (set lefts k left) j
    beside_more before j h =
        let at_most : j ≤ k = omega arith in
        ⊎_elim (λ s. subst (Beside contacts rs (set lights k word) (set lefts k left)) (sym s) beside_there) (λ l. beside_earlier j l (before j l))
        (eq-or-lt_of_le at_most)

module _ (contacts : List ℕ) (m : ℕ) (ranges : List ℕ) (n : ℕ) (lights lefts : List ℕ) where
  pub beside_all : ((j : ℕ) → j < m → Beside contacts (rows_from (range_at ranges) 0 n) lights lefts j)
      → served contacts m lights lefts ≡ service_of (plan_of contacts m ranges n) unused
  unfolding served service_of plan_of
  beside_all all = λ i. record { contacts = rows; lights = lights_held i; lefts = lefts_held i }
    where
      rows : List Contact
      rows = rows_from (contact_at contacts) 0 m

      light : Contact → Option Millis
      light = light_of (rows_from (range_at ranges) 0 n)

      lights_held : rows_from (light_at lights) 0 m ≡ map light rows
      lights_held =
          rows_are (light_at lights) m (map light rows) None (length-map rows light ∙ length_rows (contact_at contacts) 0 m)
          (λ k h. (all k h).light ∙ sym (get_d_mapped light rows k blank None (row_below contacts m k h) ∙ ap light (row_at contacts m k h)))

      lefts_held : rows_from (left_at lefts) 0 m ≡ lefts_from unused 1 rows
      lefts_held =
          rows_are (left_at lefts) m (lefts_from unused 1 rows) 0 (length_lefts unused 1 rows ∙ length_rows (contact_at contacts) 0 m)
          (λ k h. (all k h).left ∙ sym (get_d_lefts unused 1 rows k (row_below contacts m k h) ∙ sub-zero (volume (get_or rows k blank)) ∙ ap volume (row_at contacts m k h)))
