-- An ask that is no harder, of a service that has no less, keeps every chain.
--     NoHarder                 an ask that is no harder than another
--     Serves                   a service that has all that another one has; serves_same, one has all that it has
--     carries_no_harder        a chain that carries the file carries it there too, and no later
--     allowed_no_harder        an allowed chain is allowed there too, and delivers no later; in_time_no_harder, in time where it was
--     later_harder, larger_harder, due_easier, same_hard      asks of which one is no harder
-- Assumes nothing.
use mathlib.Core.Bool.{false}
use mathlib.Core.List.{List}
use mathlib.Core.Path.{◌≡◌, refl, sym, subst, subst₂}
use Prim.Native.Nat.{ℕ, ◌≤◌}
use native.Mathlib.Nat.{le_refl, le_trans, lt_of_le_of_lt, lt_of_lt_of_le}
use Rattle.units.specs.declared.Ask.{Ask}
use Rattle.units.specs.declared.Millis.{Millis}
use Rattle.std.specs.Prelude.{Option, Some}
use Rattle.plan.specs.declared.rows.Contact.{Contact}
use Rattle.service.specs.Service.{Service, Sound, InPlan, contact_of, light_in, left_in}
use Rattle.timing.specs.Chain.{Carries, stays, hops, Allowed, InTime, ask_at, ask_of}
use Rattle.timing.specs.Hop.{hopped, is_barred}
use Rattle.service.proofs.Bounded.{contact_good}
use Rattle.timing.proofs.HopLaws.{Hops, over, hop_told, hop_made, hop_sooner, hop_smaller}
use Rattle.calls_compared.specs.Compared.{ask_by}

-- from the same node to the same, no later, no larger, no sooner due, and no contact is barred that was not
pub record NoHarder (ask easy : Ask) : Type 0 where
  pub source : easy.source.0 ≡ ask.source.0
  pub destination : easy.destination.0 ≡ ask.destination.0
  pub time : easy.time.0 ≤ ask.time.0
  pub size : easy.size ≤ ask.size
  pub deadline : ask.deadline.0 ≤ easy.deadline.0
  pub unbarred : (c : Contact) → is_barred ask c ≡ false → is_barred easy c ≡ false

-- the second service has contact c as the first one has it, and no less is left on it
pub record ServedToo (p q : Service) (c : ℕ) : Type 0 where
  pub in_plan : InPlan q c
  pub contact : contact_of q c ≡ contact_of p c
  pub light : light_in q c ≡ light_in p c
  pub left : left_in p c ≤ left_in q c

abbrev pub Serves : Service → Service → Type 0
Serves p q = (c : ℕ) → InPlan p c → ServedToo p q c

pub serves_same : (p : Service) → Serves p p
serves_same p c i = record { in_plan = i; contact = refl; light = refl; left = le_refl _ }

-- ---- one hop

hop_left : (light : Option Millis) {left more : ℕ} (c : Contact) (size t : ℕ) (a : Millis) → left ≤ more → hopped light left c size t ≡ Some a
    → hopped light more c size t ≡ Some a
hop_left light {left} {more} c size t a h e = hop_made (go (hop_told light left c size t a e))
  where
    go : {light : Option Millis} {r : ℕ} → Hops left c size t light r → Hops more c size t light r
    go (over {l} f w q) = over {l = l} f (le_trans w h) q

-- over a contact that is served too, of a file that is no larger and ready no later
served_hop : (p q : Service) (c : ℕ) (small size s t : ℕ) (b : Millis) → Sound p → InPlan p c → ServedToo p q c → small ≤ size → s ≤ t
    → hopped (light_in p c) (left_in p c) (contact_of p c) size t ≡ Some b
    → (a : Millis) × (hopped (light_in q c) (left_in q c) (contact_of q c) small s ≡ Some a) × (a.0 ≤ b.0)
served_hop p q c small size s t b sound i too smaller sooner e =
    let (a₁, e₁, l₁) = hop_smaller _ _ _ (contact_good p sound c i).rate_least smaller t b e in
    let (a₂, e₂, l₂) = hop_sooner _ _ _ small sooner a₁ e₁ in
    let e₃ : hopped (light_in p c) (left_in q c) (contact_of p c) small s ≡ Some a₂ = hop_left (light_in p c) (contact_of p c) small s a₂ too.left e₂ in
    (a₂, rw (too.light, too.contact) e₃, le_trans l₂ l₁)

-- ---- a chain

module _ {p q : Service} {ask easy : Ask} (sound : Sound p) (serves : Serves p q) (no-harder : NoHarder ask easy) where
  pub carries_no_harder : {u s t : ℕ} {cs : List ℕ} {v r : ℕ} → s ≤ t → Carries p ask u t cs v r → (z : ℕ) × Carries q easy u s cs v z × (z ≤ r)
  carries_no_harder h stays = (_, stays, h)
  carries_no_harder {s} h (hops {u} {t} {s = b} {v} {c} {cs} i f free e k) =
      let too : ServedToo p q c = serves c i in
      let (a, e', l) = served_hop p q c easy.size ask.size s t (record { 0 = b }) sound i too no-harder.size h e in
      let (z, k', l') = carries_no_harder l k in (
        z,
        hops {u = u} too.in_plan (rw too.contact f) (rw too.contact (no-harder.unbarred (contact_of p c) free)) e'
            (subst (λ (x : Contact). Carries q easy x.to.0 a.0 cs v z) (sym too.contact) k'),
        l',
      )

  pub allowed_no_harder : {chain : List ℕ} {r : ℕ} → Allowed p ask chain r → (z : ℕ) × Allowed q easy chain z × (z ≤ r)
  allowed_no_harder {chain} {r} a =
      let (z, k, l) = carries_no_harder no-harder.time a.carried in (
        z,
        record { some_contact = a.some_contact; carried = subst₂ (λ (u v : ℕ). Carries q easy u easy.time.0 chain v z) (sym no-harder.source) (sym no-harder.destination) k },
        l,
      )

  pub in_time_no_harder : {chain : List ℕ} → InTime p ask chain → InTime q easy chain
  in_time_no_harder i =
      let (z, a, l) = allowed_no_harder i.allowed in
      record { delivery = z; allowed = a; early = lt_of_lt_of_le (lt_of_le_of_lt l i.early) no-harder.deadline }

-- ---- asks of which one is no harder

module _ (ask : Ask) where
  -- one that differs in time, size and deadline alone
  no_harder_but : {t n d : ℕ} → ask.time.0 ≤ t → ask.size ≤ n → d ≤ ask.deadline.0 → NoHarder (ask_by (ask_of (ask_at ask t) n) d) ask
  unfolding is_barred
  no_harder_but h s d = record {
    source = refl;
    destination = refl;
    time = h;
    size = s;
    deadline = d;
    unbarred = λ c free. free;
  }

  pub later_harder : {t : ℕ} → ask.time.0 ≤ t → NoHarder (ask_at ask t) ask
  later_harder h = no_harder_but h (le_refl _) (le_refl _)

  pub larger_harder : {n : ℕ} → ask.size ≤ n → NoHarder (ask_of ask n) ask
  larger_harder h = no_harder_but (le_refl _) h (le_refl _)

  pub same_hard : NoHarder ask ask
  same_hard = no_harder_but (le_refl _) (le_refl _) (le_refl _)

-- the ask with a later deadline is no harder
pub due_easier : (ask : Ask) {d : ℕ} → ask.deadline.0 ≤ d → NoHarder ask (ask_by ask d)
due_easier ask {d} h = no_harder_but (ask_by ask d) (le_refl _) (le_refl _) h
