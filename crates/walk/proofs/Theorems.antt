-- What the other crates cite of a walk.
--     walk_model_walks           the model's answer is the one promised
--     walks_plan_determined      for a plan, an ask and a chain there is one answer at the most
--     walks_determined           the same for lent tables
--     last_call_unique, room_unique, figures_unique
--     deadline_late              a chain that delivers at the deadline is not in time
--     walks_at_deadline          and is refused with 14
--     last_call_early            the last call is below the deadline
--     room_enough                the room is no less than the size asked for
--     figures_bounded            both, of the figures that a walk answers
-- Assumes nothing.
use mathlib.Core.Bool.{Bool}
use mathlib.Core.List.{List}
use mathlib.Core.Path.{◌≡◌, refl, sym, ap, ◌∙◌}
use Prim.Native.Nat.{ℕ, ◌≤◌, ◌<◌}
use native.Mathlib.Nat.{le_antisymm, lt_of_le_of_lt}
use native.Mathlib.Omega.{arith}
use Rattle.units.specs.declared.Ask.{Ask}
use Rattle.units.specs.declared.Refusal.TheVariants.{TooLate}
use Rattle.units.specs.Limits.{last_time, most_size}
use Rattle.plan.specs.Verdict.{Verdict, holds, fails}
use Rattle.plan.proofs.Verdicts.{tells_lt}
use Rattle.service.specs.Service.{Service, Sound}
use Rattle.std.specs.Prelude.{cond, Option, Some, None, Result, Ok, Err}
use Rattle.units.specs.declared.Millis.{Millis}
use Rattle.walk.specs.declared.figures.Figures.{Figures}
use Rattle.units.specs.declared.Refusal.{Refusal}
use Rattle.timing.specs.Chain.{Allowed, InTime}
use Rattle.walk.specs.Figures.{IsLastCall, IsRoom, HasFigures}
use Rattle.timing.specs.Model.{delivery_of}
use Rattle.walk.specs.Model.{figures_of, walked_of, walk_model}
use Rattle.units.specs.Asks.{GoodAsk}
use Rattle.walk.specs.Walk.{WalksPlan, turned_down, too_late, carried, Walks, no_plan, bad_ask, same_node, walked}
use Rattle.timing.proofs.ChainLaws.{carries_after, allowed_delivery, allowed_determined}
use Rattle.walk_cause.proofs.CauseLaws.{cause_tells, turned_determined, allowed_no_cause}
use Rattle.walk.proofs.LastCallLaws.{last_call_is}
use Rattle.walk.proofs.RoomLaws.{room_is}

module _ {p : Service} {ask : Ask} {chain : List ℕ} where
  pub last_call_unique : {s t : ℕ} → IsLastCall p ask chain s → IsLastCall p ask chain t → s ≡ t
  last_call_unique {s} {t} a b = le_antisymm (b.greatest s a.not_before a.still) (a.greatest t b.not_before b.still)

  pub room_unique : {m n : ℕ} → IsRoom p ask chain m → IsRoom p ask chain n → m ≡ n
  room_unique {m} {n} a b = le_antisymm (b.greatest m a.most a.carried) (a.greatest n b.most b.carried)

  pub figures_unique : {f g : Figures} → HasFigures p ask chain f → HasFigures p ask chain g → f ≡ g
  figures_unique a b =
      let delivery = allowed_determined p ask a.allowed b.allowed in
      let opens = a.opens ∙ sym b.opens in
      let last = last_call_unique a.last_call b.last_call in
      let room = room_unique a.room b.room in
      λ i. record { delivery = record { 0 = delivery i }; opens = record { 0 = opens i }; last_call = record { 0 = last i }; room = room i }

  pub walks_plan_determined : {a b : Result Figures Refusal} → WalksPlan p ask chain a → WalksPlan p ask chain b → a ≡ b
  walks_plan_determined (turned_down d) (turned_down d') = ap Err (turned_determined d d')
  walks_plan_determined (turned_down d) (too_late a l) = absurd (allowed_no_cause a d)
  walks_plan_determined (turned_down d) (carried f) = absurd (allowed_no_cause f.allowed d)
  walks_plan_determined (too_late a l) (turned_down d) = absurd (allowed_no_cause a d)
  walks_plan_determined (too_late a l) (too_late a' l') = refl
  walks_plan_determined (too_late a l) (carried f) = absurd (omega (arith, allowed_determined p ask a f.allowed, f.in_time))
  walks_plan_determined (carried f) (turned_down d) = absurd (allowed_no_cause f.allowed d)
  walks_plan_determined (carried f) (too_late a l) = absurd (omega (arith, allowed_determined p ask a f.allowed, f.in_time))
  walks_plan_determined (carried f) (carried g) = ap Ok (figures_unique f g)

  pub deadline_late : Allowed p ask chain ask.deadline.0 → InTime p ask chain → ⊥
  deadline_late a i = omega (arith, allowed_determined p ask a i.allowed, i.early)

  pub walks_at_deadline : {w : Result Figures Refusal} → WalksPlan p ask chain w → Allowed p ask chain ask.deadline.0 → w ≡ Err TooLate
  walks_at_deadline (turned_down d) a = absurd (allowed_no_cause a d)
  walks_at_deadline (too_late b l) a = refl
  walks_at_deadline (carried f) a = absurd (omega (arith, allowed_determined p ask a f.allowed, f.in_time))

  pub last_call_early : {t : ℕ} → IsLastCall p ask chain t → t < ask.deadline.0
  last_call_early l = lt_of_le_of_lt (carries_after l.still.allowed.carried) l.still.early

  pub room_enough : {n : ℕ} → ask.size ≤ most_size → InTime p ask chain → IsRoom p ask chain n → ask.size ≤ n
  room_enough h i r = r.greatest ask.size h i

  pub figures_bounded : {f : Figures} → GoodAsk ask → HasFigures p ask chain f → (f.last_call.0 ≤ last_time) × (ask.size ≤ f.room)
  figures_bounded good h = (
    omega (arith, last_call_early h.last_call, good.deadline_most),
    room_enough good.size_most (record { delivery = _; allowed = h.allowed; early = h.in_time }) h.room,
  )

module _ {contacts : List ℕ} {m : ℕ} {ranges : List ℕ} {n : ℕ} {ask : Ask} {chain : List ℕ} where
  pub walks_determined : {a b : Result Figures Refusal} → Walks contacts m ranges n ask chain a → Walks contacts m ranges n ask chain b → a ≡ b
  walks_determined (no_plan h) (no_plan h') = refl
  walks_determined (no_plan h) (bad_ask p g) = absurd (h p)
  walks_determined (no_plan h) (same_node p g s) = absurd (h p)
  walks_determined (no_plan h) (walked p g d w) = absurd (h p)
  walks_determined (bad_ask p g) (no_plan h) = absurd (h p)
  walks_determined (bad_ask p g) (bad_ask p' g') = refl
  walks_determined (bad_ask p g) (same_node p' g' s) = absurd (g g')
  walks_determined (bad_ask p g) (walked p' g' d w) = absurd (g g')
  walks_determined (same_node p g s) (no_plan h) = absurd (h p)
  walks_determined (same_node p g s) (bad_ask p' g') = absurd (g' g)
  walks_determined (same_node p g s) (same_node p' g' s') = refl
  walks_determined (same_node p g s) (walked p' g' d w) = absurd (d s)
  walks_determined (walked p g d w) (no_plan h) = absurd (h p)
  walks_determined (walked p g d w) (bad_ask p' g') = absurd (g' g)
  walks_determined (walked p g d w) (same_node p' g' s) = absurd (d s)
  walks_determined (walked p g d w) (walked p' g' d' w') = walks_plan_determined w w'

module _ (p : Service) (ask : Ask) (chain : List ℕ) (valid : Sound p) (good : GoodAsk ask) (differ : ask.source.0 ≡ ask.destination.0 → ⊥) where
  has_figures : {r : ℕ} → Allowed p ask chain r → r < ask.deadline.0 → HasFigures p ask chain (figures_of p ask chain r)
  unfolding figures_of
  has_figures a h = record {
    allowed = a;
    in_time = h;
    opens = refl;
    last_call = last_call_is p ask a h;
    room = room_is p valid ask chain differ good a h;
  }

  walked_in_time : {r : ℕ} (x : Bool) → Allowed p ask chain r → Verdict (r < ask.deadline.0) x
      → WalksPlan p ask chain (cond x (Ok (figures_of p ask chain r)) (Err TooLate))
  walked_in_time _ a (holds h) = carried (has_figures a h)
  walked_in_time _ a (fails h) = too_late a (omega arith)

  walked_of_lem : (a : Option Millis) → delivery_of p ask chain ≡ a → WalksPlan p ask chain (walked_of p ask chain a)
  walked_of_lem (Some r) e = walked_in_time _ ((allowed_delivery p ask differ chain r).0 e) (tells_lt r.0 ask.deadline.0)
  walked_of_lem None e = turned_down (cause_tells p ask chain e)

  pub walk_model_walks : WalksPlan p ask chain (walk_model p ask chain)
  unfolding walk_model
  walk_model_walks = walked_of_lem (delivery_of p ask chain) refl
