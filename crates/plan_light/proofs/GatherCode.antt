-- What is gathered of ranges that are taken one after the other: the time missing and the largest light time.
--     larger_kept, larger_before, larger_now          the larger light time, by the tests
--     Gathered                                        the time missing and the largest light time so far, with those of the ranges to come, are those of all
-- Assumes nothing.
use mathlib.Core.Bool.{Bool, true, false, cond}
use mathlib.Core.List.{List, [], ◌∷◌}
use mathlib.Core.Path.{◌≡◌, refl, ◌∙◌, subst}
use Prim.Native.Nat.{ℕ, zero, suc, ◌+◌, ◌-◌, ◌≤◌, ◌<◌, max}
use native.Mathlib.Nat.{sub-zero}
use native.Mathlib.Omega.{arith}
use lib.Dec.{leb}
use borrow.Author.Tests.{eq-eqb, ne_eqb, le-leb}
use Rattle.plan.specs.declared.rows.Contact.{Contact}
use Rattle.plan.specs.declared.rows.Range.{Range}
use Rattle.std.specs.Prelude.{Some, None}
use Rattle.plan.specs.Light.{shared_by, shared_time, largest_light, light_of}
use Rattle.plan.specs.Tables.{rows_from}
use Rattle.plan.proofs.RowList.{rows_more}

-- ---- one range

-- the larger light time, where at least one millisecond is shared
abbrev pub larger : ℕ → ℕ → ℕ → ℕ
larger light shared so_far = cond (leb 1 shared) (max light so_far) so_far

module _ (light shared so_far : ℕ) where
  pub larger_kept : shared ≡ 0 → so_far ≡ larger light shared so_far
  larger_kept e = rw e

  module _ (some : shared ≡ 0 → ⊥) where
    told : (l : ℕ) → l ≡ max light so_far → l ≡ larger light shared so_far
    told l e =
        let h : 1 ≤ shared = omega arith in
        rw (le-leb 1 shared h, e)

    pub larger_before : light < so_far → so_far ≡ larger light shared so_far
    larger_before h = told so_far (omega arith)

    pub larger_now : so_far ≤ light → light ≡ larger light shared so_far
    larger_now h = told light (omega arith)

-- the larger of the largest so far and of the rest is the same whether one range is taken with the one or with the other
larger_moved : (light shared so_far others : ℕ) → max (larger light shared so_far) others ≡ max so_far (larger light shared others)
larger_moved light shared so_far others = go (leb 1 shared)
  where
    go : (b : Bool) → max (cond b (max light so_far) so_far) others ≡ max so_far (cond b (max light others) others)
    go true = omega arith
    go false = refl

-- ---- the ranges from a row on

-- where no time is shared no light time counts
none_largest : (c : Contact) (rs : List Range) → shared_time rs c ≡ 0 → largest_light rs c ≡ 0
unfolding shared_time largest_light
none_largest c [] e = refl
none_largest c (r ∷ rs) e =
    let here : shared_by r c ≡ 0 = omega arith in
    let others : largest_light rs c ≡ 0 = none_largest c rs (omega arith) in
    rw here others

pub record Gathered (whole rest : List Range) (c : Contact) (missing light : ℕ) : Type 0 where
  pub time_so_far : shared_time whole c + missing ≡ shared_time rest c + (c.end.0 - c.start.0)
  pub light_so_far : max light (largest_light rest c) ≡ largest_light whole c

pub gathered_none : (whole : List Range) (c : Contact) → Gathered whole whole c (c.end.0 - c.start.0) 0
gathered_none whole c = record { time_so_far = refl; light_so_far = omega arith }

module _ (whole rest : List Range) (c : Contact) (missing light : ℕ) (g : Gathered whole rest c missing light) where
  pub gathered_room : shared_time whole c ≤ c.end.0 - c.start.0 → shared_time rest c ≤ missing
  gathered_room most = omega (arith, g.time_so_far)

  pub gathered_found : shared_time whole c ≤ c.end.0 - c.start.0 → missing ≡ 0 → Some (record { 0 = light }) ≡ light_of whole c
  unfolding light_of
  gathered_found most e =
      let none : shared_time rest c ≡ 0 = omega (arith, gathered_room most) in
      let all : shared_time whole c ≡ c.end.0 - c.start.0 = omega (arith, g.time_so_far) in
      let largest : light ≡ largest_light whole c = omega (arith, g.light_so_far, none_largest c rest none) in
      rw (eq-eqb (shared_time whole c) (c.end.0 - c.start.0) all, largest)

  pub gathered_out : shared_time rest c ≡ 0 → 1 ≤ missing → None ≡ light_of whole c
  unfolding light_of
  gathered_out none some = rw (ne_eqb (shared_time whole c) (c.end.0 - c.start.0) (λ e. omega (arith, g.time_so_far)))

module _ (row : ℕ → Range) (c : Contact) (n : ℕ) (whole : List Range) where
  -- row k is taken
  pub gathered_more : (k missing light : ℕ) → Gathered whole (rows_from row k (n - k)) c missing light → k < n → shared_by (row k) c ≤ missing
      → Gathered whole (rows_from row (k + 1) (n - (k + 1))) c (missing - shared_by (row k) c) (larger (row k).light.0 (shared_by (row k) c) light)
  unfolding shared_time largest_light
  gathered_more k missing light g h room =
      let after : List Range = rows_from row (k + 1) (n - (k + 1)) in
      let times : shared_time whole c + missing ≡ shared_by (row k) c + shared_time after c + (c.end.0 - c.start.0) = rw (rows_more row k n h) at g.time_so_far in
      let lights : max light (larger (row k).light.0 (shared_by (row k) c) (largest_light after c)) ≡ largest_light whole c =
      rw (rows_more row k n h) at g.light_so_far in
      record {
        time_so_far = omega arith;
        light_so_far = larger_moved (row k).light.0 (shared_by (row k) c) light (largest_light after c) ∙ lights;
      }

  -- row k shares nothing
  gathered_past : (k missing light : ℕ) → Gathered whole (rows_from row k (n - k)) c missing light → k < n → shared_by (row k) c ≡ 0
      → Gathered whole (rows_from row (k + 1) (n - (k + 1))) c missing light
  gathered_past k missing light g h none = rw (none, sub-zero missing) at (gathered_more k missing light g h (omega arith))

  -- none of the rows from k until j shares anything
  pub gathered_over : (d k j missing light : ℕ) → k + d ≡ j → j ≤ n → ((i : ℕ) → k ≤ i → i < j → shared_by (row i) c ≡ 0)
      → Gathered whole (rows_from row k (n - k)) c missing light → Gathered whole (rows_from row j (n - j)) c missing light
  gathered_over zero k j missing light e h none g =
      let same : k ≡ j = omega arith in
      subst (λ (i : ℕ). Gathered whole (rows_from row i (n - i)) c missing light) same g
  gathered_over (suc d) k j missing light e h none g =
      gathered_over d (k + 1) j missing light (omega arith) h (λ i l m. none i (omega arith) m)
      (gathered_past k missing light g (omega arith) (none k (omega arith) (omega arith)))
