-- Hops and chains in the request's words ('Timing a chain'), position by position. The definitions that the promises cite say the same.
--     start_later, later_one  a file starts at the later of ready and the contact's start
--     hop_exactly             when it is ready behind a contact, and that it is so only where it is ranged and fits
--     carries_exactly         what a chain carries: every contact good, each from where the one before leads
--     allowed_exactly         which chain is allowed, and when it delivers
--     allowed_unexcluded      at no position does an allowed chain go from the source to an excluded neighbour
-- Assumes nothing.
use mathlib.Core.Bool.{Bool, true}
use mathlib.Core.List.{List, [], ◌∷◌}
use mathlib.Core.Logic.{◌⊎◌, inl, inr, ⊎_elim, ◌↔◌}
use mathlib.Core.Path.{◌≡◌, refl, sym, ap, ◌∙◌, subst, subst₂}
use Prim.Native.Nat.{ℕ, zero, suc, ◌+◌, ◌≤◌, ◌<◌, suc-le-suc, zero-le}
use native.Mathlib.Nat.{not-suc-le-zero, le_of_suc-le-suc}
use native.Mathlib.Omega.{arith}
use lib.ListN.{length, get_or}
use Rattle.units.specs.declared.Ask.{Ask}
use Rattle.units.specs.declared.Millis.{Millis}
use Rattle.plan.specs.declared.rows.Contact.{Contact}
use Rattle.std.specs.Prelude.{Option, Some}
use Rattle.plan.specs.Verdict.{Verdict, holds, fails}
use Rattle.plan.proofs.Verdicts.{tells_le}
use Rattle.service.specs.Service.{Service, contact_of, light_in, left_in, InPlan}
use Rattle.timing.specs.Chain.{Carries, stays, hops, Allowed}
use Rattle.timing.specs.Hop.{consumed, sent, start_on, hopped, is_excluded}
use Rattle.timing.proofs.Barred.{ToExcluded, unbarred_exactly}
use Rattle.timing.proofs.HopLaws.{Hops, over, hop_told, hop_made}

-- ---- one hop

-- the later of two times: no earlier than either, and one of them
pub record IsLater (a b s : ℕ) : Type 0 where
  pub first : a ≤ s
  pub second : b ≤ s
  pub is_one : (s ≡ a) ⊎ (s ≡ b)

pub start_later : (c : Contact) (t : ℕ) → IsLater t c.start.0 (start_on c t)
start_later c t = record { first = omega arith; second = omega arith; is_one = one _ (tells_le c.start.0 t) }
  where
    one : (b : Bool) → Verdict (c.start.0 ≤ t) b → (start_on c t ≡ t) ⊎ (start_on c t ≡ c.start.0)
    one _ (holds h) = inl (omega arith)
    one _ (fails h) = inr (omega arith)

-- and there is one such time
pub later_one : {a b r s : ℕ} → IsLater a b r → IsLater a b s → r ≡ s
later_one {a} {b} {r} {s} x y =
    ⊎_elim (λ e. ⊎_elim (λ f. omega (arith, e, f)) (λ f. omega (arith, e, f, x.second, y.first)) y.is_one)
    (λ e. ⊎_elim (λ f. omega (arith, e, f, x.first, y.second)) (λ f. omega (arith, e, f)) y.is_one) x.is_one

-- the contact is ranged; the file starts at the later of ready and the contact's start, is sent by its end and takes no more than what is left on it;
-- it is ready at the receiving node at start plus sending time plus light time
pub record SentOver (light : Option Millis) (left : ℕ) (c : Contact) (size t s : ℕ) : Type 0 where
  pub light_time : Millis
  pub ranged : light ≡ Some light_time
  pub start : ℕ
  pub starts : IsLater t c.start.0 start
  pub by_end : start + sent size c.rate ≤ c.end.0
  pub by_volume : consumed size ≤ left
  pub ready : s ≡ start + sent size c.rate + light_time.0

pub hop_exactly : (light : Option Millis) (left : ℕ) (c : Contact) (size t s : ℕ)
    → (hopped light left c size t ≡ Some (record { 0 = s })) ↔ SentOver light left c size t s
hop_exactly light left c size t s = (λ e. told (hop_told light left c size t (record { 0 = s }) e), made)
  where
    told : {l : Option Millis} → Hops left c size t l s → SentOver l left c size t s
    told (over {l} f b e) = record { light_time = l; ranged = refl; start = start_on c t; starts = start_later c t; by_end = f; by_volume = b; ready = e }

    made : SentOver light left c size t s → hopped light left c size t ≡ Some (record { 0 = s })
    made o =
        let at : start_on c t ≡ o.start = later_one (start_later c t) o.starts in
        ap (λ (l : Option Millis). hopped l left c size t) o.ranged
        ∙ hop_made {light = Some o.light_time} (over (omega (arith, at, o.by_end)) o.by_volume (omega (arith, at, o.ready)))

-- ---- a chain

-- where the file is before the contact at place k, counted from 0: at node u before the first, then where the contact before it is to
unfoldable pub node_at : Service → ℕ → List ℕ → ℕ → ℕ
node_at p u chain zero = u
node_at p u chain (suc k) = (contact_of p (get_or chain k 0)).to.0

-- contact c is in the plan, is from node u, does not go from the source to an excluded neighbour, and the file, ready before it at t, is ready behind it at s
pub record GoodHop (p : Service) (ask : Ask) (u t c s : ℕ) : Type 0 where
  pub in_plan : InPlan p c
  pub joined : (contact_of p c).from.0 ≡ u
  pub unexcluded : ToExcluded ask (contact_of p c) → ⊥
  pub over : SentOver (light_in p c) (left_in p c) (contact_of p c) ask.size t s

-- every contact of the chain is good, from node u at time t on, and leads to node v at time r; `ready k` is when the file is ready before the contact at
-- place k
pub record Along (p : Service) (ask : Ask) (u t : ℕ) (chain : List ℕ) (ready : ℕ → ℕ) (v r : ℕ) : Type 0 where
  pub begins : ready 0 ≡ t
  pub every : (k : ℕ) → k < length chain → GoodHop p ask (node_at p u chain k) (ready k) (get_or chain k 0) (ready (suc k))
  pub leads : node_at p u chain (length chain) ≡ v
  pub ends : ready (length chain) ≡ r

node_later : (p : Service) (u c : ℕ) (cs : List ℕ) (k : ℕ) → node_at p u (c ∷ cs) (suc k) ≡ node_at p (contact_of p c).to.0 cs k
unfolding node_at
node_later p u c cs zero = refl
node_later p u c cs (suc k) = refl

-- t first, then the others
unfoldable after : ℕ → (ℕ → ℕ) → ℕ → ℕ
after t ready zero = t
after t ready (suc k) = ready k

module _ {p : Service} {ask : Ask} where
  carries_along : {u t : ℕ} {chain : List ℕ} {v r : ℕ} → Carries p ask u t chain v r → (ready : ℕ → ℕ) × Along p ask u t chain ready v r
  unfolding node_at after
  carries_along {u} {t} stays = (λ k. t, record { begins = refl; every = λ k h. absurd (not-suc-le-zero h); leads = refl; ends = refl })
  carries_along {u} {t} {v} {r} (hops {s} {c} {cs} i f b e run) =
      let (ready, a) = carries_along run in (
        after t ready,
        record {
          begins = refl;
          every = every ready a;
          leads = node_later p u c cs (length cs) ∙ a.leads;
          ends = a.ends;
        },
      )
    where
      every : (ready : ℕ → ℕ) → Along p ask (contact_of p c).to.0 s cs ready v r → (k : ℕ) → k < suc (length cs)
          → GoodHop p ask (node_at p u (c ∷ cs) k) (after t ready k) (get_or (c ∷ cs) k 0) (after t ready (suc k))
      every ready a zero h = record {
        in_plan = i;
        joined = f;
        unexcluded = (unbarred_exactly ask (contact_of p c)).0 b;
        over = subst (SentOver (light_in p c) (left_in p c) (contact_of p c) ask.size t) (sym a.begins) ((hop_exactly _ _ _ _ _ _).0 e);
      }
      every ready a (suc k) h =
          subst (λ (w : ℕ). GoodHop p ask w (ready k) (get_or cs k 0) (ready (suc k))) (sym (node_later p u c cs k)) (a.every k (le_of_suc-le-suc h))

  along_carries : (u t : ℕ) (chain : List ℕ) (ready : ℕ → ℕ) (v r : ℕ) → Along p ask u t chain ready v r → Carries p ask u t chain v r
  unfolding node_at
  along_carries u t [] ready v r a = subst₂ (λ (w s : ℕ). Carries p ask u t [] w s) a.leads (sym a.begins ∙ a.ends) stays
  along_carries u t (c ∷ cs) ready v r a =
      let here = a.every 0 (suc-le-suc zero-le) in
      hops here.in_plan here.joined ((unbarred_exactly ask (contact_of p c)).1 here.unexcluded)
      ((hop_exactly _ _ _ _ _ _).1
      (subst (λ (s : ℕ). SentOver (light_in p c) (left_in p c) (contact_of p c) ask.size s (ready 1)) a.begins here.over))
      (along_carries (contact_of p c).to.0 (ready 1) cs (λ k. ready (suc k)) v r (record {
        begins = refl;
        every = λ k h.
            subst (λ (w : ℕ). GoodHop p ask w (ready (suc k)) (get_or cs k 0) (ready (suc (suc k)))) (node_later p u c cs k) (a.every (suc k) (suc-le-suc h));
        leads = sym (node_later p u c cs (length cs)) ∙ a.leads;
        ends = a.ends;
      }))

  pub carries_exactly : {u t : ℕ} {chain : List ℕ} {v r : ℕ} → Carries p ask u t chain v r ↔ ((ready : ℕ → ℕ) × Along p ask u t chain ready v r)
  carries_exactly {u} {t} {chain} {v} {r} = (carries_along, λ a. along_carries u t chain a.0 v r a.1)

-- at least one contact; the first from the source, each next one from where the one before is to, the last to the destination; every one ranged and
-- fitting; none from the source to an excluded neighbour
pub allowed_exactly : (p : Service) (ask : Ask) (chain : List ℕ) (r : ℕ) → Allowed p ask chain r
    ↔ ((1 ≤ length chain) × ((ready : ℕ → ℕ) × Along p ask ask.source.0 ask.time.0 chain ready ask.destination.0 r))
allowed_exactly p ask chain r = (
  λ a. (a.some_contact, carries_exactly.0 a.carried),
  λ a. record { some_contact = a.0; carried = carries_exactly.1 a.1 },
)

-- also where a loop leads back through the source
pub allowed_unexcluded : {p : Service} {ask : Ask} {chain : List ℕ} {r : ℕ} → Allowed p ask chain r → (k : ℕ) → k < length chain
    → (contact_of p (get_or chain k 0)).from.0 ≡ ask.source.0 → is_excluded ask.excluded (contact_of p (get_or chain k 0)).to.0 ≡ true → ⊥
allowed_unexcluded {p} {ask} {chain} {r} a k h from out = (((allowed_exactly p ask chain r).0 a).1.1.every k h).unexcluded (from, out)
