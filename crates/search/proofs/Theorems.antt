-- What the other crates cite of the search. Of the answer for a valid plan and a good ask between two nodes:
--     route_model_routes          the model's answer is the one promised
--     routes_plan_determined      one answer and one chain after at the most; routes_determined, the same for lent tables
--     route_allowed_in_time       the chain returned is allowed and in time
--     route_none_earlier          no allowed chain of any length delivers earlier
--     route_none_shorter          none that delivers as early has fewer contacts
--     route_ties                  of those with as many, it has the lower contact number at the first difference from the last contact back
--     refused_13_exactly          refused with 13 exactly where no chain of any length is allowed
--     refused_14_exactly          refused with 14 exactly where one is allowed and none is in time
--     route_short                 a chain returned has at most 63 contacts; routes_short, the same for lent tables
--     route_walks                 walking the chain returned gives the figures returned; routes_walks, the same for lent tables
-- Assumes nothing.
use mathlib.Core.Bool.{Bool}
use mathlib.Core.List.{List, ◌++◌}
use mathlib.Core.Logic.{◌⊎◌, ◌↔◌}
use mathlib.Core.Path.{◌≡◌, refl, sym, subst, ◌∙◌}
use Prim.Native.Nat.{ℕ, ◌≤◌, ◌<◌}
use native.Mathlib.Omega.{arith}
use lib.Dec.{ltb}
use lib.ListN.{length, take, drop}
use lib.Seq.{take_at}
use Rattle.units.specs.Limits.{most_chain}
use Rattle.units.specs.declared.Ask.{Ask}
use Rattle.units.specs.declared.Refusal.TheVariants.{NoChain, TooLate}
use Rattle.plan.specs.Verdict.{Verdict, holds, fails}
use Rattle.plan.proofs.Verdicts.{tells_lt}
use Rattle.service.specs.Service.{Service, Sound, unused}
use Rattle.walk.specs.declared.figures.Figures.{Figures}
use Rattle.std.specs.Prelude.{cond, Result, Ok, Err}
use Rattle.units.specs.declared.Refusal.{Refusal}
use Rattle.service.proofs.ServiceLaws.{service_sound}
use Rattle.timing.specs.Chain.{Allowed}
use Rattle.walk.specs.Figures.{HasFigures}
use Rattle.walk.specs.Model.{figures_of}
use Rattle.units.specs.Asks.{GoodAsk}
use Rattle.walk.specs.Walk.{WalksPlan, carried, Walks, walked}
use Rattle.timing.proofs.ChainLaws.{allowed_delivery}
use Rattle.walk.proofs.Theorems.{figures_unique, walk_model_walks}
use Rattle.walk.proofs.WalkCode.{walk_carries}
use Rattle.network.specs.Best.{LowerBack}
use Rattle.network.specs.Model.{delivery}
use Rattle.network.specs.Network.{When, at, never}
use Rattle.network.proofs.Theorems.{chosen_best, never_unreached}
use Rattle.search_layers.specs.Bridge.{network_of, goal}
use Rattle.search_choice.specs.Model.{chain_of}
use Rattle.search.specs.Model.{found_of, find_model, answer_of, chain_after, route_model, route_after}
use Rattle.search.specs.Route.{IsBest, RoutesPlan, no_chain, too_late, best, Routes, short_chain, no_plan, bad_ask, same_node, routed}
use Rattle.search.specs.declared.answer.Found.{Found}
use Rattle.search.specs.declared.answer.Best.{Best}
use Rattle.search.proofs.BestLaws.{is_best_best, is_best_unique, is_best_short}
use Rattle.search.proofs.Chains.{allowed_reaches}
use Rattle.search_layers.proofs.NetworkLaws.{network_laws, goal_node, goal_apart}

-- what an answer with a chain says, of the chain that stands in the first n places afterwards
record Returned (p : Service) (ask : Ask) (f : Figures) (n : ℕ) (chain : List ℕ) : Type 0 where
  is_best : IsBest p ask chain f.delivery.0
  figures : HasFigures p ask chain f
  count : length chain ≡ n

returned : {p : Service} {ask : Ask} {before : List ℕ} {f : Figures} {n : ℕ} {after : List ℕ} → RoutesPlan p ask before (Ok (record { figures = f; count = n })) after
    → Returned p ask f n (take n after)
returned {before} (best {chain} b h) =
    rw (take_at chain (drop (length chain) before) (length chain) refl) (record { is_best = b; figures = h; count = refl })

module _ {p : Service} {ask : Ask} {before : List ℕ} {f : Figures} {n : ℕ} {after : List ℕ} where
  pub route_allowed_in_time : RoutesPlan p ask before (Ok (record { figures = f; count = n })) after → Allowed p ask (take n after) f.delivery.0 × (f.delivery.0 < ask.deadline.0)
  route_allowed_in_time h = ((returned h).is_best.allowed, (returned h).figures.in_time)

  pub route_none_earlier : RoutesPlan p ask before (Ok (record { figures = f; count = n })) after → (other : List ℕ) (s : ℕ) → Allowed p ask other s → f.delivery.0 ≤ s
  route_none_earlier h = (returned h).is_best.none_earlier

  pub route_none_shorter : RoutesPlan p ask before (Ok (record { figures = f; count = n })) after → (other : List ℕ) → Allowed p ask other f.delivery.0 → n ≤ length other
  route_none_shorter h other a = omega (arith, (returned h).is_best.none_shorter other a, (returned h).count)

  pub route_ties : RoutesPlan p ask before (Ok (record { figures = f; count = n })) after → (other : List ℕ) → Allowed p ask other f.delivery.0 → length other ≡ n
      → (take n after ≡ other) ⊎ LowerBack (take n after) other
  route_ties h other a e = (returned h).is_best.lowest other a (e ∙ sym (returned h).count)

  pub route_short : Sound p → GoodAsk ask → (ask.source.0 ≡ ask.destination.0 → ⊥) → RoutesPlan p ask before (Ok (record { figures = f; count = n })) after → n ≤ most_chain
  route_short valid good differ h = omega (arith, is_best_short p valid ask good differ (returned h).is_best, (returned h).count)

  pub route_walks : RoutesPlan p ask before (Ok (record { figures = f; count = n })) after → WalksPlan p ask (take n after) (Ok f)
  route_walks h = carried (returned h).figures

module _ {p : Service} {ask : Ask} {before : List ℕ} where
  pub refused_13_exactly : {r : Result Best Refusal} {after : List ℕ} → RoutesPlan p ask before r after
      → (r ≡ Err NoChain) ↔ ((chain : List ℕ) (s : ℕ) → Allowed p ask chain s → ⊥)
  refused_13_exactly (no_chain n) = (λ e. n, λ h. refl)
  refused_13_exactly (too_late a l) = (λ e. let z : ◌≡◌ {A = ℕ} 0 1 = cc in absurd (omega arith), λ h. absurd (h _ _ a))
  refused_13_exactly (best b f) = (λ e. let z : ◌≡◌ {A = ℕ} 0 1 = cc in absurd (omega arith), λ h. absurd (h _ _ b.allowed))

  pub refused_14_exactly : {r : Result Best Refusal} {after : List ℕ} → RoutesPlan p ask before r after
      → (r ≡ Err TooLate)
      ↔ (((chain : List ℕ) × (s : ℕ) × Allowed p ask chain s) × ((other : List ℕ) (s : ℕ) → Allowed p ask other s → ask.deadline.0 ≤ s))
  refused_14_exactly (no_chain n) = (λ e. let z : ◌≡◌ {A = ℕ} 0 1 = cc in absurd (omega arith), λ h. absurd (n _ _ h.0.2))
  refused_14_exactly (too_late a l) = (λ e. ((_, _, a), l), λ h. refl)
  refused_14_exactly (best b f) =
      (λ e. let z : ◌≡◌ {A = ℕ} 0 1 = cc in absurd (omega arith), λ h. absurd (omega (arith, h.1 _ _ b.allowed, f.in_time)))

  pub routes_plan_determined : {r₁ r₂ : Result Best Refusal} {after₁ after₂ : List ℕ} → RoutesPlan p ask before r₁ after₁ → RoutesPlan p ask before r₂ after₂
      → (r₁ ≡ r₂) × (after₁ ≡ after₂)
  routes_plan_determined (no_chain n) (no_chain n') = (refl, refl)
  routes_plan_determined (no_chain n) (too_late a l) = absurd (n _ _ a)
  routes_plan_determined (no_chain n) (best b f) = absurd (n _ _ b.allowed)
  routes_plan_determined (too_late a l) (no_chain n) = absurd (n _ _ a)
  routes_plan_determined (too_late a l) (too_late a' l') = (refl, refl)
  routes_plan_determined (too_late a l) (best b f) = absurd (omega (arith, l _ _ b.allowed, f.in_time))
  routes_plan_determined (best b f) (no_chain n) = absurd (n _ _ b.allowed)
  routes_plan_determined (best b f) (too_late a l) = absurd (omega (arith, l _ _ b.allowed, f.in_time))
  routes_plan_determined (best {f = f₁} b₁ h₁) (best b₂ h₂) =
      let same = (is_best_unique b₁ b₂).0 in
      let figures = figures_unique (subst (λ chain. HasFigures p ask chain f₁) same h₁) h₂ in
      (λ i. Ok (record { figures = figures i; count = length (same i) }), λ i. same i ++ drop (length (same i)) before)

module _ {contacts : List ℕ} {m : ℕ} {ranges : List ℕ} {n : ℕ} {ask : Ask} {before : List ℕ} where
  pub routes_determined : {r₁ r₂ : Result Best Refusal} {after₁ after₂ : List ℕ} → Routes contacts m ranges n ask before r₁ after₁
      → Routes contacts m ranges n ask before r₂ after₂ → (r₁ ≡ r₂) × (after₁ ≡ after₂)
  routes_determined (short_chain h) (short_chain h') = (refl, refl)
  routes_determined (short_chain h) (no_plan l f) = absurd (omega arith)
  routes_determined (short_chain h) (bad_ask l p f) = absurd (omega arith)
  routes_determined (short_chain h) (same_node l p g s) = absurd (omega arith)
  routes_determined (short_chain h) (routed l p g d r) = absurd (omega arith)
  routes_determined (no_plan l f) (short_chain h) = absurd (omega arith)
  routes_determined (no_plan l f) (no_plan l' f') = (refl, refl)
  routes_determined (no_plan l f) (bad_ask l' p f') = absurd (f p)
  routes_determined (no_plan l f) (same_node l' p g s) = absurd (f p)
  routes_determined (no_plan l f) (routed l' p g d r) = absurd (f p)
  routes_determined (bad_ask l p f) (short_chain h) = absurd (omega arith)
  routes_determined (bad_ask l p f) (no_plan l' f') = absurd (f' p)
  routes_determined (bad_ask l p f) (bad_ask l' p' f') = (refl, refl)
  routes_determined (bad_ask l p f) (same_node l' p' g s) = absurd (f g)
  routes_determined (bad_ask l p f) (routed l' p' g d r) = absurd (f g)
  routes_determined (same_node l p g s) (short_chain h) = absurd (omega arith)
  routes_determined (same_node l p g s) (no_plan l' f) = absurd (f p)
  routes_determined (same_node l p g s) (bad_ask l' p' f) = absurd (f g)
  routes_determined (same_node l p g s) (same_node l' p' g' s') = (refl, refl)
  routes_determined (same_node l p g s) (routed l' p' g' d r) = absurd (d s)
  routes_determined (routed l p g d r) (short_chain h) = absurd (omega arith)
  routes_determined (routed l p g d r) (no_plan l' f) = absurd (f p)
  routes_determined (routed l p g d r) (bad_ask l' p' f) = absurd (f g)
  routes_determined (routed l p g d r) (same_node l' p' g' s) = absurd (d s)
  routes_determined (routed l p g d r) (routed l' p' g' d' r') = routes_plan_determined r r'

  pub routes_walks : {f : Figures} {k : ℕ} {after : List ℕ} → Routes contacts m ranges n ask before (Ok (record { figures = f; count = k })) after
      → Walks contacts m ranges n ask (take k after) (Ok f)
  routes_walks (routed l p g d r) = walked p g d (route_walks r)

  pub routes_short : {f : Figures} {k : ℕ} {after : List ℕ} → Routes contacts m ranges n ask before (Ok (record { figures = f; count = k })) after → k ≤ most_chain
  routes_short (routed l p g d r) = route_short (service_sound _ p.valid unused) g d r

module _ (p : Service) (ask : Ask) (before : List ℕ) (valid : Sound p) (good : GoodAsk ask) (differ : ask.source.0 ≡ ask.destination.0 → ⊥) where
  -- the figures that the model works out are those of a walk
  figures_in_time : (chain : List ℕ) (r : ℕ) → Allowed p ask chain r → r < ask.deadline.0 → HasFigures p ask chain (figures_of p ask chain r)
  figures_in_time chain r a h =
      let delivered = (allowed_delivery p ask differ chain (record { 0 = r })).1 a in
      let carries = walk_carries p ask chain (record { 0 = r }) (figures_of p ask chain r) delivered h refl in
      told (rw (← carries) at (walk_model_walks p ask chain valid good differ))
    where
      told : {f : Figures} → WalksPlan p ask chain (Ok f) → HasFigures p ask chain f
      told (carried h) = h

  chosen_is_best : (r : ℕ) → delivery (network_of p ask) (goal ask) ≡ at r → IsBest p ask (chain_of p ask r) r
  unfolding chain_of
  chosen_is_best r e =
      (is_best_best p valid ask good differ _ r).1
      (chosen_best (network_of p ask) (network_laws p valid ask good) (goal ask) r (goal_node p ask good) (goal_apart p ask good differ) e)

  routes_at : (r : ℕ) → delivery (network_of p ask) (goal ask) ≡ at r → (early : Bool) → Verdict (r < ask.deadline.0) early → (found : Result Found Refusal)
      → found ≡ cond early (Ok (record { delivered = record { 0 = r }; count = length (chain_of p ask r) })) (Err TooLate)
      → RoutesPlan p ask before (answer_of p ask found) (chain_after p ask before found)
  unfolding answer_of chain_after figures_of
  routes_at r e _ (holds h) found ef = let b = chosen_is_best r e in rw ef (best b (figures_in_time (chain_of p ask r) r b.allowed h))
  routes_at r e _ (fails h) found ef = let b = chosen_is_best r e in rw ef (too_late b.allowed (λ other s a. omega (arith, b.none_earlier other s a)))

  routes_when : (w : When) → delivery (network_of p ask) (goal ask) ≡ w → RoutesPlan p ask before (answer_of p ask (found_of p ask w)) (chain_after p ask before (found_of p ask w))
  unfolding found_of answer_of chain_after
  routes_when (at r) e = routes_at r e (ltb r ask.deadline.0) (tells_lt r ask.deadline.0) _ refl
  routes_when never e =
      no_chain
      (λ chain s a.
      never_unreached (network_of p ask) (network_laws p valid ask good) (goal ask) (goal_node p ask good) e chain s
      ((allowed_reaches p valid ask good differ chain s).0 a))

  pub route_model_routes : RoutesPlan p ask before (route_model p ask) (route_after p ask before)
  unfolding route_model route_after find_model
  route_model_routes = routes_when (delivery (network_of p ask) (goal ask)) refl
