-- The lowest contact that leads to a node below a limit.
--     lowest_leads        it leads there, where any contact does
--     lowest_least        no contact that leads there is lower
-- Assumes nothing.
use mathlib.Core.Path.{◌≡◌, refl}
use mathlib.Core.Bool.{Bool, true, false, cond, ◌&&◌}
use mathlib.Core.List.{List}
use mathlib.Core.Logic.{◌≢◌}
use Prim.Native.Nat.{ℕ, zero, suc, ◌+◌, ◌≤◌, ◌<◌}
use native.Mathlib.Nat.{le_refl, le_trans, le_of_lt}
use native.Mathlib.Omega.{arith}
use lib.Dec.{T, eqb, eqb→eq, eqb_refl, ltb→lt, lt→ltb}
use Rattle.network.specs.Network.{When, at, never, Within, within, Network, IsContact}
use Rattle.network.specs.Model.{is_within, leads, lowest_from, lowest}
use Rattle.network.proofs.Relaxed.{brings}

is_within→within : (w : When) (limit : ℕ) → T (is_within w limit) → Within w limit
unfolding is_within
is_within→within (at t) limit h = within (ltb→lt t limit h)
is_within→within never limit h = absurd h

within→is_within : {w : When} {limit : ℕ} → Within w limit → T (is_within w limit)
unfolding is_within
within→is_within (within {t = t} {limit = limit} h) = lt→ltb t limit h

and_both : (a b : Bool) → T (a && b) → T a × T b
and_both true b h = (tt, h)
and_both false b h = absurd h

both_and : (a b : Bool) → T a → T b → T (a && b)
both_and true b h k = k
both_and false b h k = h

-- contact c leads to node v below the limit, if its first node is reached as `before` has it
pub record Leads (N : Network) (before : List When) (v limit c : ℕ) : Type 0 where
  pub is_contact : IsContact N c
  pub to : N.to c ≡ v
  pub in_time : Within (brings N before c) limit

module _ (N : Network) (before : List When) (v limit : ℕ) where
  passes : {c : ℕ} → Leads N before v limit c → T (leads N before v limit c)
  unfolding leads
  passes {c} l = both_and (eqb (N.to c) v) _ (rw l.to (eqb_refl v)) (within→is_within l.in_time)

  -- the lowest contact from c on that leads there, up to d, which does
  record LowestTo (c d lowest : ℕ) : Type 0 where
    least : c ≤ lowest
    most : lowest ≤ d
    pass : T (leads N before v limit lowest)

  lowest_from_lem : (c more d : ℕ) → c ≤ d → d < c + more → T (leads N before v limit d) → LowestTo c d (lowest_from N before v limit c more)
  unfolding lowest_from
  lowest_from_lem c zero d h k l = absurd (omega arith)
  lowest_from_lem c (suc more) d h k l = go (leads N before v limit c) refl (λ m. lowest_from_lem (suc c) more d m (omega arith) l)
    where
      later : ℕ
      later = lowest_from N before v limit (suc c) more

      go : (b : Bool) → leads N before v limit c ≡ b → (c < d → LowestTo (suc c) d later) → LowestTo c d (cond b c later)
      go true e rec = record { least = le_refl c; most = h; pass = rw e tt }
      go false e rec =
          let other : c ≢ d = λ p. rw (← p, e) at l in
          let f = rec (omega arith) in
          record { least = le_of_lt f.least; most = f.most; pass = f.pass }

  lowest_to : {d : ℕ} → Leads N before v limit d → LowestTo 1 d (lowest N before v limit)
  unfolding lowest
  lowest_to {d} l = lowest_from_lem 1 N.contacts d l.is_contact.least (omega arith) (passes l)

  pub lowest_least : {d : ℕ} → Leads N before v limit d → lowest N before v limit ≤ d
  lowest_least l = (lowest_to l).most

  pub lowest_leads : {d : ℕ} → Leads N before v limit d → Leads N before v limit (lowest N before v limit)
  unfolding leads
  lowest_leads l =
      let c = lowest N before v limit in
      let f = lowest_to l in
      let (to, in_time) = and_both (eqb (N.to c) v) _ f.pass in
      record {
        is_contact = record { least = f.least; most = le_trans f.most l.is_contact.most };
        to = eqb→eq (N.to c) v to;
        in_time = is_within→within (brings N before c) limit in_time;
      }
