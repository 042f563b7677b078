-- Why a chain is turned down: what `TurnedDown` says, and that the model's `cause_of` gives it.
--     judged_passes          a contact that is judged good carries the file on
--     cause_tells            a chain that never delivers is turned down for the model's cause
--     turned_determined      a chain is turned down for one cause at the most
--     allowed_no_cause       and an allowed one for none
--     no_cause_exactly       between two different nodes a chain has no cause exactly where it is allowed
-- Assumes nothing.
use mathlib.Core.Bool.{Bool, true, false, ◌&&◌}
use mathlib.Core.List.{List, [], ◌∷◌}
use mathlib.Core.Logic.{◌↔◌, ⊎_elim}
use mathlib.Core.Path.{◌≡◌, refl, sym, ap, ◌∙◌, subst, subst₂}
use Prim.Native.Nat.{ℕ, zero, suc, ◌+◌, ◌-◌, ◌≤◌, ◌<◌, suc-le-suc, zero-le}
use native.Mathlib.Nat.{le_refl, le_of_lt, le_antisymm, eq-or-lt_of_le, not-suc-le-zero, le_of_suc-le-suc, zero-add}
use native.Mathlib.Omega.{arith}
use borrow.Author.Tests.{le-leb, eq-eqb}
use lib.Dec.{T, leb}
use lib.ListN.{length, get_or, take}
use lib.Seq.{take-length}
use Rattle.units.specs.Refusals.{number_of}
use Rattle.units.specs.declared.Ask.{Ask}
use Rattle.units.specs.declared.Millis.{Millis}
use Rattle.units.specs.declared.Refusal.{Refusal}
use Rattle.units.specs.declared.Refusal.TheVariants.{NoContact, NotJoined, ExcludedNode, NotRanged, NotFitting, EndsElsewhere}
use Rattle.std.specs.Prelude.{Option, Some, None, Result, Ok, Err}
use Rattle.plan.specs.Verdict.{Verdict, holds, fails}
use Rattle.plan.proofs.Verdicts.{tells_le, tells_lt, tells_eq, both, restated}
use Rattle.service.specs.Service.{Service, contact_of, light_in, left_in, InPlan}
use Rattle.timing.specs.Chain.{Carries, stays, hops, Allowed}
use Rattle.timing.specs.Hop.{sent, start_on, hopped, is_barred}
use Rattle.timing.specs.Model.{goes_on, over_contact, carry, delivery_of}
use Rattle.timing.proofs.ChainLaws.{carries_determined, carry_never, tells_not, allowed_delivery}
use Rattle.timing.proofs.HopLaws.{Hops, over, hop_told, hop_made}
use Rattle.walk_cause.specs.Cause.{Fits, HasFault, no_contact, not_joined, excluded_node, not_ranged, not_fitting, TurnedDown, at_fault, elsewhere}
use Rattle.walk_cause.specs.Model.{unless, by_hop, judged_hop, judged_named, judged, cause_by, cause_from, cause_of}

-- a contact of the chain, reached at node u at time t, that carries the file on: it is ready behind it at s
pub record Passes (p : Service) (ask : Ask) (u t c s : ℕ) : Type 0 where
  pub in_plan : InPlan p c
  pub joined : (contact_of p c).from.0 ≡ u
  pub unbarred : is_barred ask (contact_of p c) ≡ false
  pub hop : hopped (light_in p c) (left_in p c) (contact_of p c) ask.size t ≡ Some (record { 0 = s })

module _ {p : Service} {ask : Ask} where
  passes_ranged : {u t c s : ℕ} → Passes p ask u t c s → light_in p c ≡ None → ⊥
  passes_ranged {t} {c} {s} g = go (hop_told (light_in p c) (left_in p c) (contact_of p c) ask.size t (record { 0 = s }) g.hop)
    where
      go : {light : Option Millis} → Hops (left_in p c) (contact_of p c) ask.size t light s → light ≡ None → ⊥
      go (over f b q) e = let z : ◌≡◌ {A = ℕ} 0 1 = cc in omega arith

  passes_fits : {u t c s : ℕ} → Passes p ask u t c s → Fits p ask t c
  passes_fits {t} {c} {s} g = go (hop_told (light_in p c) (left_in p c) (contact_of p c) ask.size t (record { 0 = s }) g.hop)
    where
      go : {light : Option Millis} → Hops (left_in p c) (contact_of p c) ask.size t light s → Fits p ask t c
      go (over f b q) = record { by_end = f; by_volume = b }

  passes_faultless : {u t i c s : ℕ} {why : Refusal} → Passes p ask u t c s → HasFault p ask u t i c why → ⊥
  passes_faultless g (no_contact n) = n g.in_plan
  passes_faultless g (not_joined i n) = n g.joined
  passes_faultless g (excluded_node i b) = subst T (sym b ∙ g.unbarred) tt
  passes_faultless g (not_ranged i l) = passes_ranged g l
  passes_faultless g (not_fitting i n) = n (passes_fits g)

  -- where a longer part of the chain is carried, the contact behind a shorter one has no fault
  carried_faultless : {u t v r w s k : ℕ} {why : Refusal} (i j : ℕ) (chain : List ℕ) → i < j → j ≤ length chain → Carries p ask u t (take j chain) v r
      → Carries p ask u t (take i chain) w s → HasFault p ask w s k (get_or chain i 0) why → ⊥
  carried_faultless i zero chain h l a b f = not-suc-le-zero h
  carried_faultless i (suc j) [] h l a b f = not-suc-le-zero l
  carried_faultless zero (suc j) (c ∷ cs) h l (hops i o e q a) stays f = passes_faultless (record { in_plan = i; joined = o; unbarred = e; hop = q }) f
  carried_faultless {u = u} {w = w} {s = s} (suc i) (suc j) (c ∷ cs) h l (hops n o e q a) (hops n' o' e' q' b) f =
      let same = (carries_determined (hops n' o' e' q' stays) (hops n o e q stays)).1 in
      carried_faultless {u = (contact_of p c).to.0} i j cs (le_of_suc-le-suc h) (le_of_suc-le-suc l) a
      (subst (λ (m : ℕ). Carries p ask (contact_of p c).to.0 m (take i cs) w s) same b) f

-- the fault of the number 18 + n
fault_of : ℕ → ℕ → Refusal
fault_of i zero = NoContact i
fault_of i (suc zero) = NotJoined i
fault_of i (suc (suc zero)) = ExcludedNode i
fault_of i (suc (suc (suc zero))) = NotRanged i
fault_of i (suc (suc (suc (suc n)))) = NotFitting i

module _ {p : Service} {ask : Ask} {u t i c : ℕ} where
  fault_named : {why : Refusal} → HasFault p ask u t i c why → why ≡ fault_of i (number_of why - 18)
  unfolding fault_of
  fault_named (no_contact n) = refl
  fault_named (not_joined l n) = refl
  fault_named (excluded_node l b) = refl
  fault_named (not_ranged l e) = refl
  fault_named (not_fitting l n) = refl

  -- there is one fault of a number
  same_fault : {a b : Refusal} → HasFault p ask u t i c a → b ≡ fault_of i (number_of b - 18) → number_of a ≡ number_of b → a ≡ b
  same_fault f g e = fault_named f ∙ ap (λ (n : ℕ). fault_of i (n - 18)) e ∙ sym g

-- no fault of the contact has a number below k
abbrev Lowest : Service → Ask → ℕ → ℕ → ℕ → ℕ → ℕ → Type 0
Lowest p ask u t i c k = (other : Refusal) → HasFault p ask u t i c other → k ≤ number_of other

not_false_true : (b : Bool) → (b ≡ false → ⊥) → b ≡ true
not_false_true true n = refl
not_false_true false n = absurd (n refl)

-- what judging a contact finds: that it passes, or the lowest of its faults
data Finds (p : Service) (ask : Ask) (u t i c : ℕ) : Result Millis Refusal → Type 0 where
  passes : {s : ℕ} → Passes p ask u t c s → Finds p ask u t i c (Ok (record { 0 = s }))
  finds : {why : Refusal} → HasFault p ask u t i c why → Lowest p ask u t i c (number_of why) → Finds p ask u t i c (Err why)

module _ (p : Service) (ask : Ask) (u t i c : ℕ) where
  lowest_first : Lowest p ask u t i c 18
  lowest_first _ (no_contact n) = le_refl 18
  lowest_first _ (not_joined l n) = omega arith
  lowest_first _ (excluded_node l b) = omega arith
  lowest_first _ (not_ranged l e) = omega arith
  lowest_first _ (not_fitting l n) = omega arith

  -- one test more is passed
  lowest_next : (why : Refusal) → why ≡ fault_of i (number_of why - 18) → (HasFault p ask u t i c why → ⊥) → Lowest p ask u t i c (number_of why)
      → Lowest p ask u t i c (suc (number_of why))
  lowest_next why e n low other f = ⊎_elim same (λ (h : number_of why < number_of other). h) (eq-or-lt_of_le (low other f))
    where
      same : number_of why ≡ number_of other → suc (number_of why) ≤ number_of other
      same q = absurd (n (subst (HasFault p ask u t i c) (same_fault f e (sym q)) f))

  unless_finds : {A : Type 0} {b : Bool} (why : Refusal) {later : Result Millis Refusal} → why ≡ fault_of i (number_of why - 18) → Verdict A b
      → ((A → ⊥) → HasFault p ask u t i c why) → (HasFault p ask u t i c why → A → ⊥) → Lowest p ask u t i c (number_of why)
      → (A → Lowest p ask u t i c (suc (number_of why)) → Finds p ask u t i c later) → Finds p ask u t i c (unless b why later)
  unless_finds why e (holds x) at told low next = next x (lowest_next why e (λ f. told f x) low)
  unless_finds why e (fails n) at told low next = finds (at n) low

  named_tells : Verdict (InPlan p c) (leb 1 c && leb c (length p.contacts))
  named_tells = restated (λ q. record { least = q.0; most = q.1 }) (λ g. (g.least, g.most)) (both (tells_le 1 c) (tells_le c (length p.contacts)))

  -- what a fault says of the contact
  abbrev Told : Refusal → Type 0
  Told (NoContact _) = InPlan p c → ⊥
  Told (NotJoined _) = (contact_of p c).from.0 ≡ u → ⊥
  Told (ExcludedNode _) = is_barred ask (contact_of p c) ≡ true
  Told (NotRanged _) = light_in p c ≡ None
  Told _ = Unit {0}

  told : {why : Refusal} → HasFault p ask u t i c why → Told why
  told (no_contact n) = n
  told (not_joined l n) = n
  told (excluded_node l e) = e
  told (not_ranged l e) = e
  told (not_fitting l n) = tt

  told_named : HasFault p ask u t i c (NoContact i) → InPlan p c → ⊥
  told_named f = told f

  told_joined : HasFault p ask u t i c (NotJoined i) → (contact_of p c).from.0 ≡ u → ⊥
  told_joined f = told f

  told_barred : HasFault p ask u t i c (ExcludedNode i) → is_barred ask (contact_of p c) ≡ true
  told_barred f = told f

  told_ranged : HasFault p ask u t i c (NotRanged i) → light_in p c ≡ None
  told_ranged f = told f

  -- what is ranged and fits carries the file on
  unfit : (m : Millis) → light_in p c ≡ Some m → over_contact p ask c t ≡ None → Fits p ask t c → ⊥
  unfolding over_contact
  unfit m e q f =
      let r : ℕ = start_on (contact_of p c) t + sent ask.size (contact_of p c).rate + m.0 in
      let h : hopped (Some m) (left_in p c) (contact_of p c) ask.size t ≡ Some (record { 0 = r }) = hop_made {c = contact_of p c} (over f.by_end f.by_volume refl) in
      let z : ◌≡◌ {A = ℕ} 0 1 = cc in
      omega arith

  module _ (l : InPlan p c) (j : (contact_of p c).from.0 ≡ u) (b : is_barred ask (contact_of p c) ≡ false) (low : Lowest p ask u t i c 21) where
    hop_finds : (light : Option Millis) → light_in p c ≡ light → (a : Option Millis) → over_contact p ask c t ≡ a → Finds p ask u t i c (by_hop i light a)
    unfolding over_contact fault_of
    hop_finds None e a q = finds (not_ranged l e) low
    hop_finds (Some m) e (Some s) q = passes (record { in_plan = l; joined = j; unbarred = b; hop = q })
    hop_finds (Some m) e None q =
        finds (not_fitting l (unfit m e q))
        (lowest_next (NotRanged i) refl (λ f. let h = told_ranged f in let z : ◌≡◌ {A = ℕ} 0 1 = cc in omega arith) low)

  judged_finds : Finds p ask u t i c (judged p ask u t i c)
  unfolding judged judged_named judged_hop fault_of
  judged_finds =
      unless_finds (NoContact i) refl named_tells no_contact told_named lowest_first
      (λ l low. unless_finds (NotJoined i) refl (tells_eq _ _) (not_joined l) told_joined low
      (λ j low. unless_finds (ExcludedNode i) refl (tells_not _) (λ n. excluded_node l (not_false_true _ n)) (λ f e. subst T (sym (told_barred f) ∙ e) tt) low
      (λ b low. hop_finds l j b low (light_in p c) refl (over_contact p ask c t) refl)))

pub judged_passes : (p : Service) (ask : Ask) (u t i c : ℕ) (s : Millis) → judged p ask u t i c ≡ Ok s → Passes p ask u t c s.0
judged_passes p ask u t i c s = go (judged_finds p ask u t i c)
  where
    go : {found : Result Millis Refusal} → Finds p ask u t i c found → found ≡ Ok s → Passes p ask u t c s.0
    go (passes {s = r} g) e = let q : r ≡ s.0 = cc in subst (Passes p ask u t c) q g
    go (finds f low) e = let z : ◌≡◌ {A = ℕ} 0 1 = cc in absurd (omega arith)

-- why a part of a chain is turned down, set out on at node u at time t, k contacts of the chain before it
data Turned (p : Service) (ask : Ask) (u t k : ℕ) (chain : List ℕ) : Refusal → Type 0 where
  faulty : {v s i n : ℕ} {why : Refusal} → i < length chain → Carries p ask u t (take i chain) v s
      → HasFault p ask v s n (get_or chain i 0) why → Lowest p ask v s n (get_or chain i 0) (number_of why) → n ≡ suc (k + i) → Turned p ask u t k chain why
  ends : {v r n : ℕ} → n ≡ k + length chain → Carries p ask u t chain v r → (v ≡ ask.destination.0 → ⊥) → Turned p ask u t k chain (EndsElsewhere n)

module _ (p : Service) (ask : Ask) where
  turned_on : {u t k c s : ℕ} {cs : List ℕ} {why : Refusal} → Passes p ask u t c s → Turned p ask (contact_of p c).to.0 s (k + 1) cs why
      → Turned p ask u t k (c ∷ cs) why
  turned_on g (faulty {i} h a f low e) = faulty {i = suc i} (suc-le-suc h) (hops g.in_plan g.joined g.unbarred g.hop a) f low (omega arith)
  turned_on g (ends {n} e a d) = ends {n = n} (omega arith) (hops g.in_plan g.joined g.unbarred g.hop a) d

  -- a contact that passes leaves it to the rest of the chain whether it delivers
  carry_passes : {u t c s : ℕ} (cs : List ℕ) → Passes p ask u t c s → carry p ask u t (c ∷ cs) ≡ carry p ask (contact_of p c).to.0 s cs
  unfolding carry goes_on over_contact
  carry_passes {u} {t} {c} {s} cs g =
      rw (le-leb 1 c g.in_plan.least, le-leb c (length p.contacts) g.in_plan.most, eq-eqb (contact_of p c).from.0 u g.joined, g.unbarred, g.hop)

  cause_from_lem : (u t k : ℕ) (cs : List ℕ) → carry p ask u t cs ≡ None → Turned p ask u t k cs (cause_from p ask u t k cs)
  unfolding cause_from
  cause_from_lem u t k [] e = ends {n = k} (omega arith) stays (λ d. carry_never p ask e (subst (λ (v : ℕ). Carries p ask u t [] v t) d stays))
  cause_from_lem u t k (c ∷ cs) e =
      go (judged_finds p ask u t (k + 1) c) (λ s. cause_from_lem (contact_of p c).to.0 s (k + 1) cs)
    where
      go : {found : Result Millis Refusal} → Finds p ask u t (k + 1) c found
          → ((s : ℕ) → carry p ask (contact_of p c).to.0 s cs ≡ None → Turned p ask (contact_of p c).to.0 s (k + 1) cs (cause_from p ask (contact_of p c).to.0 s (k + 1) cs))
          → Turned p ask u t k (c ∷ cs) (cause_by found (λ s. cause_from p ask (contact_of p c).to.0 s (k + 1) cs))
      go (passes {s} g) next = turned_on g (next s (sym (carry_passes cs g) ∙ e))
      go (finds f low) next = faulty {i = zero} (suc-le-suc zero-le) stays f low (omega arith)

  turned_whole : {chain : List ℕ} {why : Refusal} → Turned p ask ask.source.0 ask.time.0 0 chain why → TurnedDown p ask chain why
  turned_whole {chain} {why} (faulty {v} {s} {i} h a f low e) =
      subst (λ (n : ℕ). HasFault p ask v s n (get_or chain i 0) why → Lowest p ask v s n (get_or chain i 0) (number_of why) → TurnedDown p ask chain why)
      (ap suc (sym (zero-add i)) ∙ sym e) (at_fault h a) f low
  turned_whole {chain} (ends e a d) = subst (λ (n : ℕ). TurnedDown p ask chain (EndsElsewhere n)) (sym (zero-add (length chain)) ∙ sym e) (elsewhere a d)

  pub cause_tells : (chain : List ℕ) → delivery_of p ask chain ≡ None → TurnedDown p ask chain (cause_of p ask chain)
  unfolding delivery_of cause_of
  cause_tells chain e = turned_whole (cause_from_lem ask.source.0 ask.time.0 0 chain e)

module _ {p : Service} {ask : Ask} where
  -- the same contact is reached at one node and at one time
  fault_there : (chain : List ℕ) {u t v s : ℕ} {why : Refusal} (i j : ℕ) → i ≡ j → Carries p ask ask.source.0 ask.time.0 (take i chain) u t
      → Carries p ask ask.source.0 ask.time.0 (take j chain) v s
      → HasFault p ask u t (suc i) (get_or chain i 0) why → HasFault p ask v s (suc j) (get_or chain j 0) why
  fault_there chain {u} {t} {v} {s} {why} i j e a b f =
      let a' : Carries p ask ask.source.0 ask.time.0 (take j chain) u t =
      subst (λ (n : ℕ). Carries p ask ask.source.0 ask.time.0 (take n chain) u t) e a in
      let same = carries_determined a' b in
      let f' : HasFault p ask u t (suc j) (get_or chain j 0) why = subst (λ (n : ℕ). HasFault p ask u t (suc n) (get_or chain n 0) why) e f in
      subst₂ (λ (m n : ℕ). HasFault p ask m n (suc j) (get_or chain j 0) why) same.0 same.1 f'

  whole_faultless : {chain : List ℕ} {v r w s k : ℕ} {why : Refusal} (i : ℕ) → Carries p ask ask.source.0 ask.time.0 chain v r → i < length chain
      → Carries p ask ask.source.0 ask.time.0 (take i chain) w s → HasFault p ask w s k (get_or chain i 0) why → ⊥
  whole_faultless {chain} {v} {r} i a h b f =
      carried_faultless i (length chain) chain h (le_refl _)
      (subst (λ (cs : List ℕ). Carries p ask ask.source.0 ask.time.0 cs v r) (sym (take-length chain)) a) b f

  pub turned_determined : {chain : List ℕ} {a b : Refusal} → TurnedDown p ask chain a → TurnedDown p ask chain b → a ≡ b
  turned_determined {chain} {a} {b} (at_fault {i} h k f low) (at_fault {i = j} h' k' f' low') = go _ (tells_lt i j) _ (tells_lt j i)
    where
      go : (x : Bool) → Verdict (i < j) x → (y : Bool) → Verdict (j < i) y → a ≡ b
      go _ (holds l) _ y = absurd (carried_faultless i j chain l (le_of_lt h') k' k f)
      go _ (fails l) _ (holds l') = absurd (carried_faultless j i chain l' (le_of_lt h) k k' f')
      go _ (fails l) _ (fails l') =
          let e : i ≡ j = omega arith in
          let g = fault_there chain i j e k k' f in
          same_fault g (fault_named f') (le_antisymm (low b (fault_there chain j i (sym e) k' k f')) (low' a g))
  turned_determined (at_fault {i} h k f low) (elsewhere k' d) = absurd (whole_faultless i k' h k f)
  turned_determined (elsewhere k d) (at_fault {i} h k' f low) = absurd (whole_faultless i k h k' f)
  turned_determined (elsewhere k d) (elsewhere k' d') = refl

  pub allowed_no_cause : {chain : List ℕ} {r : ℕ} {why : Refusal} → Allowed p ask chain r → TurnedDown p ask chain why → ⊥
  allowed_no_cause a (at_fault {i} h k f low) = whole_faultless i a.carried h k f
  allowed_no_cause a (elsewhere k d) = d (carries_determined k a.carried).0

module _ (p : Service) (ask : Ask) where
  pub no_cause_exactly : (ask.source.0 ≡ ask.destination.0 → ⊥) → (chain : List ℕ)
      → ((why : Refusal) → TurnedDown p ask chain why → ⊥) ↔ ((r : ℕ) × Allowed p ask chain r)
  no_cause_exactly differ chain = (λ none. go none (delivery_of p ask chain) refl, λ a why d. allowed_no_cause a.1 d)
    where
      go : ((why : Refusal) → TurnedDown p ask chain why → ⊥) → (a : Option Millis) → delivery_of p ask chain ≡ a → (r : ℕ) × Allowed p ask chain r
      go none (Some r) e = (r.0, (allowed_delivery p ask differ chain r).0 e)
      go none None e = absurd (none _ (cause_tells p ask chain e))
