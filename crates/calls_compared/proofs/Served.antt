-- 'Earlier, smaller, more' of two answers for a plan as it serves an ask.
--     served_never_later      an ask that is no harder, of a service that has no less, never delivers later
--     served_found            nor is it refused where a chain of the harder one is in time
--     served_last_call        from any time up to the last call there is a route; last_call_most, that is a time
--     served_keeps            a later deadline keeps a route
-- Assumes nothing.
use mathlib.Core.List.{List, ◌++◌}
use mathlib.Core.Path.{◌≡◌, refl, sym, subst, ◌∙◌}
use Prim.Native.Nat.{ℕ, ◌≤◌}
use native.Mathlib.Nat.{le_trans}
use native.Mathlib.Omega.{arith}
use lib.ListN.{length, take, drop}
use lib.Seq.{take_at}
use Rattle.units.specs.Limits.{last_time}
use Rattle.std.specs.Prelude.{Result, Ok}
use Rattle.units.specs.declared.Ask.{Ask}
use Rattle.units.specs.declared.Refusal.{Refusal}
use Rattle.service.specs.Service.{Service, Sound}
use Rattle.timing.specs.Chain.{Carries, stays, hops, Allowed, InTime, ask_at, ask_of}
use Rattle.timing.specs.Hop.{is_barred}
use Rattle.walk.specs.Figures.{IsLastCall, IsRoom, HasFigures}
use Rattle.units.specs.Asks.{GoodAsk}
use Rattle.walk.proofs.Theorems.{figures_bounded}
use Rattle.network.specs.Network.{When, at, NotLater, both, last}
use Rattle.search.specs.Route.{IsBest, RoutesPlan, no_chain, too_late, best}
use Rattle.search.specs.declared.answer.Best.{Best}
use Rattle.search.proofs.BestLaws.{is_best_unique}
use Rattle.calls_compared.specs.Compared.{Delivers, route, refused_13, refused_14, Found, found, KeepsRoute, kept, ask_by}
use Rattle.calls_compared.proofs.Easier.{NoHarder, Serves, serves_same, allowed_no_harder, in_time_no_harder, later_harder, due_easier}

module _ {p q : Service} {ask easy : Ask} (sound : Sound p) (serves : Serves p q) (no-harder : NoHarder ask easy) where
  pub served_found : {before after : List ℕ} {r : Result Best Refusal} {chain : List ℕ} → InTime p ask chain → RoutesPlan q easy before r after → Found r
  served_found i (no_chain n) = absurd (n _ _ (in_time_no_harder sound serves no-harder i).allowed)
  served_found i (too_late a' late) =
      let k = in_time_no_harder sound serves no-harder i in
      absurd (omega (arith, late _ _ k.allowed, k.early))
  served_found i (best b f) = found

  pub served_never_later : {before after before' after' : List ℕ} {r r' : Result Best Refusal} {a b : When} → RoutesPlan p ask before r after → Delivers r a
      → RoutesPlan q easy before' r' after' → Delivers r' b → NotLater b a
  served_never_later (no_chain n) refused_13 s d = last
  served_never_later (too_late a l) refused_14 s d = last
  served_never_later (best {f} b k) route s d = go (served_found (record { delivery = _; allowed = b.allowed; early = k.in_time }) s) s d
    where
      go : {before' after' : List ℕ} {r' : Result Best Refusal} {w : When} → Found r' → RoutesPlan q easy before' r' after' → Delivers r' w → NotLater w (at f.delivery.0)
      go found (best b' k') route =
          let (z, a, l) = allowed_no_harder sound serves no-harder b.allowed in
          both (le_trans (b'.none_earlier _ z a) l)

-- a last call is a time
pub last_call_most : {p : Service} {ask : Ask} {before after : List ℕ} {b : Best} → GoodAsk ask → RoutesPlan p ask before (Ok b) after
    → b.figures.last_call.0 ≤ last_time
last_call_most good (best b f) = (figures_bounded good f).0

pub served_last_call : {p : Service} → Sound p → (ask : Ask) {before after before' after' : List ℕ} {b : Best} {r : Result Best Refusal} {t : ℕ}
    → t ≤ b.figures.last_call.0 → RoutesPlan p ask before (Ok b) after → RoutesPlan p (ask_at ask t) before' r after' → Found r
served_last_call {p} sound ask {t} h (best b f) a = served_found sound (serves_same p) (later_harder (ask_at ask t) h) f.last_call.still a

-- ---- a later deadline

-- the deadline plays no part in what a chain carries
carries_by : {p : Service} {ask : Ask} (d : ℕ) {u t : ℕ} {cs : List ℕ} {v r : ℕ} → Carries p ask u t cs v r → Carries p (ask_by ask d) u t cs v r
unfolding is_barred
carries_by d stays = stays
carries_by d (hops i f b e k) = hops i f b e (carries_by d k)

allowed_by : {p : Service} (ask : Ask) (d : ℕ) {chain : List ℕ} {r : ℕ} → Allowed p ask chain r → Allowed p (ask_by ask d) chain r
allowed_by ask d a = record { some_contact = a.some_contact; carried = carries_by d a.carried }

allowed_back : {p : Service} (ask : Ask) (d : ℕ) {chain : List ℕ} {r : ℕ} → Allowed p (ask_by ask d) chain r → Allowed p ask chain r
allowed_back ask d a = allowed_by (ask_by ask d) ask.deadline.0 a

best_by : {p : Service} (ask : Ask) (d : ℕ) {chain : List ℕ} {r : ℕ} → IsBest p ask chain r → IsBest p (ask_by ask d) chain r
best_by ask d b = record {
  allowed = allowed_by ask d b.allowed;
  none_earlier = λ other s a. b.none_earlier other s (allowed_back ask d a);
  none_shorter = λ other a. b.none_shorter other (allowed_back ask d a);
  lowest = λ other a. b.lowest other (allowed_back ask d a);
}

module _ {p : Service} (sound : Sound p) (ask : Ask) {d : ℕ} (h : ask.deadline.0 ≤ d) where
  last_call_by : {chain : List ℕ} {s t : ℕ} → IsLastCall p ask chain s → IsLastCall p (ask_by ask d) chain t → s ≤ t
  last_call_by {s} a b = b.greatest s a.not_before (in_time_no_harder sound (serves_same p) (due_easier (ask_at ask s) h) a.still)

  room_by : {chain : List ℕ} {m n : ℕ} → IsRoom p ask chain m → IsRoom p (ask_by ask d) chain n → m ≤ n
  room_by {m} a b = b.greatest m a.most (in_time_no_harder sound (serves_same p) (due_easier (ask_of ask m) h) a.carried)

  pub served_keeps : {before after before' after' : List ℕ} {b : Best} {r : Result Best Refusal} → RoutesPlan p ask before (Ok b) after
      → RoutesPlan p (ask_by ask d) before' r after' → KeepsRoute b after r after'
  served_keeps (best b f) (no_chain n) = absurd (n _ _ (allowed_by ask d b.allowed))
  served_keeps (best b f) (too_late a l) = absurd (omega (arith, l _ _ (allowed_by ask d b.allowed), f.in_time))
  served_keeps {before} {before'} (best {chain} {f} b k) (best {chain = chain'} {f = g} b' k') =
      let (same, delivery) = is_best_unique b' (best_by ask d b) in
      let k'' : HasFigures p (ask_by ask d) chain g = subst (λ (c : List ℕ). HasFigures p (ask_by ask d) c g) same k' in
      let first : (rest : List ℕ) → take (length chain) (chain ++ rest) ≡ chain = λ rest. take_at chain rest (length chain) refl in
      subst
      (λ (c : List ℕ).
      KeepsRoute (record { figures = f; count = length chain }) (chain ++ drop (length chain) before) (Ok (record { figures = g; count = length c }))
      (c ++ drop (length c) before')) (sym same)
      (kept delivery (k''.opens ∙ sym k.opens) (last_call_by k.last_call k''.last_call) (room_by k.room k''.room)
      (first (drop (length chain) before') ∙ sym (first (drop (length chain) before))))
