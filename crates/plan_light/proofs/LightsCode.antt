-- What the walk along the list of the slot of the contact's pair knows.
--     Walked                                          the walk along the list has come to row j, and what it gathered
--     walk_starts, walk_good, walk_room               it begins; the range in row j is a good one, and shares no more than is missing
--     walk_found, walk_goes, walk_ends                nothing is missing any more; it goes on to the next row, and ends
--     walk_stops                                      it ends early, at a range behind the contact, where ranges are in order
--     next_later                                      the next row stands behind
--     open_none, open_covers                          it begins where no row is, or at a range that covers all of the contact
-- Assumes nothing.
use mathlib.Core.List.{List}
use mathlib.Core.Path.{◌≡◌, sym, ap, ap₂, ◌∙◌, subst}
use Prim.Native.Nat.{ℕ, ◌+◌, ◌-◌, ◌≤◌, ◌<◌}
use native.Mathlib.Decide.{ℕ_discrete}
use native.Mathlib.Numerals.{add-one}
use native.Mathlib.Omega.{arith}
use lib.ListN.{get_or}
use Rattle.plan.specs.declared.rows.Contact.{Contact}
use Rattle.plan.specs.declared.rows.Range.{Range}
use Rattle.std.specs.Prelude.{Some, None}
use Rattle.plan.specs.Light.{Joins, shared_by, shared_time, light_of}
use Rattle.plan.specs.Plan.{GoodContact, GoodRange}
use Rattle.plan.specs.Tables.{range_at, span_at, rows_from}
use Rattle.plan.proofs.EachRow.{each_row}
use Rattle.plan.proofs.Loops.{rows_all}
use Rattle.plan.proofs.RowList.{rows_more, rows_done}
use Rattle.plan.proofs.Sharing.{shared_within}
use Rattle.plan_lists.specs.Lists.{LeastFrom, Nexts, pair_slot, slot_at, InOrder}
use Rattle.plan_lists.proofs.ListLaws.{pair_slot_lem, ordered_later}
use Rattle.plan_light.specs.Model.{pair_of, RangesLinked, Passed}
use Rattle.plan_light.proofs.GatherCode.{larger, larger_now, Gathered, gathered_none, gathered_room, gathered_found, gathered_out, gathered_more, gathered_over}
use Rattle.plan_light.proofs.SharedCode.{joins_pair, shared_is, shared_none, shared_early, shared_late}

-- ---- along the list of the slot

-- the ranges from row k on
abbrev ranges_from : List ℕ → ℕ → ℕ → List Range
ranges_from ranges n k = rows_from (range_at ranges) k (n - k)

-- the walk has come to row j, where n is the end
pub record Walked (ranges : List ℕ) (n : ℕ) (c : Contact) (missing light j : ℕ) : Type 0 where
  pub no_later : j ≤ n
  pub has : j < n → slot_at ranges j ≡ pair_slot (pair_of c)
  pub some_missing : 1 ≤ missing
  pub gathered : Gathered (rows_from (range_at ranges) 0 n) (ranges_from ranges n j) c missing light

pub next_later : (ranges : List ℕ) (n : ℕ) (nexts : List ℕ) → RangesLinked ranges n nexts → (j next : ℕ) → j < n → next ≡ get_or nexts j 0 → j < next
unfolding Nexts
next_later ranges n nexts linked j next h e = omega (arith, (linked.next j h).no_earlier)

module _ (ranges : List ℕ) (n : ℕ) (nexts : List ℕ) (c : Contact) (linked : RangesLinked ranges n nexts) (good : GoodContact c) where
  abbrev all : List Range
  all = rows_from (range_at ranges) 0 n

  most : shared_time all c ≤ c.end.0 - c.start.0
  most = shared_within c all linked.good linked.apart (omega (arith, good.starts))

  good_at : (k : ℕ) → k < n → GoodRange (range_at ranges k)
  good_at k h = each_row GoodRange (range_at ranges) n linked.good k h

  -- a range of the contact's pair has the slot of that pair
  joins_slot : (k : ℕ) → k < n → Joins (range_at ranges k) c → slot_at ranges k ≡ pair_slot (pair_of c)
  unfolding slot_at
  joins_slot k h j =
      let nodes = joins_pair (range_at ranges k) c (good_at k h) j in
      pair_slot_lem (span_at ranges k) (pair_of c) nodes.0 nodes.1

  other_shares : (k : ℕ) → k < n → (slot_at ranges k ≡ pair_slot (pair_of c) → ⊥) → shared_by (range_at ranges k) c ≡ 0
  other_shares k h other = shared_none (range_at ranges k) c (λ j. other (joins_slot k h j))

  -- the ranges before the next one of the slot are passed over
  walk_on : (k j missing light : ℕ) → LeastFrom (slot_at ranges) k n (pair_slot (pair_of c)) j → 1 ≤ missing → Gathered all (ranges_from ranges n k) c missing light
      → Walked ranges n c missing light j
  walk_on k j missing light l some g = record {
    no_later = l.no_later;
    has = l.has;
    some_missing = some;
    gathered =
        gathered_over (range_at ranges) c n all (j - k) k j missing light (omega (arith, l.no_earlier)) l.no_later
        (λ i from until. other_shares i (omega (arith, l.no_later)) (l.least i from until)) g;
  }

  -- the ranges passed over share nothing
  pub walk_starts : (j : ℕ) → Passed ranges n (pair_slot (pair_of c)) c.start.0 j → Walked ranges n c (c.end.0 - c.start.0) 0 j
  walk_starts j p = record {
    no_later = p.no_later;
    has = p.has;
    some_missing = omega (arith, good.starts);
    gathered =
        gathered_over (range_at ranges) c n all j 0 j (c.end.0 - c.start.0) 0 (omega arith) p.no_later (λ i _ until. shares_none i until)
        (subst (λ (rest : List Range). Gathered all rest c (c.end.0 - c.start.0) 0) (rows_all (range_at ranges) n) (gathered_none all c));
  }
    where
      shares_none : (i : ℕ) → i < j → shared_by (range_at ranges i) c ≡ 0
      shares_none i until =
          elim (ℕ_discrete (slot_at ranges i) (pair_slot (pair_of c))) [
            | yes e ↦ shared_early (range_at ranges i) c (p.past i until e)
            | no e ↦ other_shares i (omega (arith, p.no_later)) e
          ]

  module _ (missing light j : ℕ) (so_far : Walked ranges n c missing light j) where
    pub walk_ends : n ≤ j → None ≡ light_of all c
    unfolding shared_time
    walk_ends h =
        gathered_out all (ranges_from ranges n j) c missing light so_far.gathered (rw (rows_done (range_at ranges) j n h)) so_far.some_missing

    -- row j is r
    module _ (h : j < n) (r : Range) (er : r ≡ range_at ranges j) where
      pub walk_good : GoodRange r
      walk_good = subst GoodRange (sym er) (good_at j h)

      -- it starts no earlier than the contact ends, and so do all behind it
      pub walk_stops : InOrder ranges n nexts → c.end.0 ≤ r.start.0 → None ≡ light_of all c
      unfolding shared_time
      walk_stops order behind =
          gathered_out all (ranges_from ranges n n) c missing light
          (gathered_over (range_at ranges) c n all (n - j) j n missing light (omega arith) (omega arith) shares_none so_far.gathered)
          (rw (rows_done (range_at ranges) n n (omega arith))) so_far.some_missing
        where
          late : c.end.0 ≤ (range_at ranges j).start.0
          late = subst (λ (x : Range). c.end.0 ≤ x.start.0) er behind

          starts_late : (i : ℕ) → j ≤ i → i < n → slot_at ranges i ≡ slot_at ranges j → c.end.0 ≤ (range_at ranges i).start.0
          starts_late i from until e =
              elim (ℕ_discrete j i) [
                | yes d ↦ subst (λ (k : ℕ). c.end.0 ≤ (range_at ranges k).start.0) d late
                | no d ↦
                    let after = ordered_later ranges n nexts linked.next (λ k m. (good_at k m).starts) order j i (omega arith) until (sym e) in
                    omega (arith, late, (good_at j h).starts, after)
              ]

          shares_none : (i : ℕ) → j ≤ i → i < n → shared_by (range_at ranges i) c ≡ 0
          shares_none i from until =
              elim (ℕ_discrete (slot_at ranges i) (pair_slot (pair_of c))) [
                | yes e ↦ shared_late (range_at ranges i) c (starts_late i from until (e ∙ sym (so_far.has h)))
                | no e ↦ other_shares i until e
              ]

      -- it shares so much
      module _ (shared : ℕ) (es : shared ≡ shared_by r c) where
        there : shared ≡ shared_by (range_at ranges j) c
        there = es ∙ ap (λ (x : Range). shared_by x c) er

        pub walk_room : shared ≤ missing
        unfolding shared_time
        walk_room =
            let rest : shared_by (range_at ranges j) c + shared_time (ranges_from ranges n (j + 1)) c ≤ missing =
            rw (rows_more (range_at ranges) j n h) at (gathered_room all (ranges_from ranges n j) c missing light so_far.gathered most) in
            omega (arith, there)

        -- the largest light time with its own
        module _ (light' : ℕ) (el : light' ≡ larger r.light.0 shared light) where
          taken : Gathered all (ranges_from ranges n (j + 1)) c (missing - shared) light'
          taken =
              let at_row : light' ≡ larger (range_at ranges j).light.0 (shared_by (range_at ranges j) c) light =
              el ∙ ap₂ (λ (x : Range) (m : ℕ). larger x.light.0 m light) er there in
              rw (there, at_row) (gathered_more (range_at ranges) c n all j missing light so_far.gathered h (rw there at walk_room))

          pub walk_found : missing - shared ≡ 0 → Some (record { 0 = light' }) ≡ light_of all c
          walk_found none = gathered_found all (ranges_from ranges n (j + 1)) c (missing - shared) light' taken most none

          pub walk_goes : (missing - shared ≡ 0 → ⊥) → (next : ℕ) → next ≡ get_or nexts j 0 → Walked ranges n c (missing - shared) light' next
          unfolding Nexts
          walk_goes some next en =
              walk_on (j + 1) next (missing - shared) light' (rw (en, sym (so_far.has h), add-one j) (linked.next j h)) (omega arith) taken

  -- the walk begins at row j
  module _ (j : ℕ) (p : Passed ranges n (pair_slot (pair_of c)) c.start.0 j) where
    pub open_none : n ≤ j → None ≡ light_of all c
    open_none = walk_ends (c.end.0 - c.start.0) 0 j (walk_starts j p)

    -- its range, which is r, covers all of the contact
    pub open_covers : j < n → (r : Range) → r ≡ range_at ranges j → Joins r c → r.start.0 ≤ c.start.0 → c.end.0 ≤ r.end.0
        → Some (record { 0 = r.light.0 }) ≡ light_of all c
    open_covers h r er names before after =
        let shared : c.end.0 - c.start.0 ≡ shared_by r c =
        shared_is r c names c.start.0 c.end.0 (omega arith) (omega (arith, good.starts)) in
        walk_found (c.end.0 - c.start.0) 0 j (walk_starts j p) h r er (c.end.0 - c.start.0) shared r.light.0
        (larger_now r.light.0 (c.end.0 - c.start.0) 0 (λ e. omega (arith, good.starts)) (omega arith)) (omega arith)
