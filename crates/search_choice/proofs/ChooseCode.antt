-- What the loop that works the chain back knows.
--     Working           k contacts are still to be chosen before those that stand in the chain
--     working_begins, working_goes, working_ends
--     working_leads     the contact chosen next leads; lead_named, lead_back: so it is a contact of the plan, and no barred one
--     one_leads, found_leads, found_goes      the same of the contact that the code found in its words
-- Assumes nothing.
use mathlib.Core.Bool.{Bool, true, false}
use mathlib.Core.List.{List, ◌∷◌, ◌++◌}
use mathlib.Core.Path.{◌≡◌, refl, sym, ap, ◌∙◌, subst}
use Prim.Native.Nat.{ℕ, zero, suc, ◌+◌, ◌-◌, ◌≤◌, ◌<◌}
use native.Mathlib.Nat.{not-suc-le-zero, le_refl}
use native.Mathlib.Omega.{arith}
use lib.ListN.{length, get_or, take, drop, set, length-set, take-append-drop}
use lib.Seq.{drop-cons, drop-set-lt, drop-set-add}
use Rattle.units.specs.declared.Ask.{Ask}
use Rattle.plan.specs.declared.rows.Contact.{Contact}
use Rattle.service.specs.Service.{Service, contact_of, InPlan}
use Rattle.timing.specs.Hop.{is_barred}
use Rattle.walk.specs.Model.{limit_over}
use Rattle.network.specs.Model.{behind, layer, delivery, fewest, lowest, worked_back, chosen}
use Rattle.network.specs.Network.{When, at, never, Within, Network, Laws}
use Rattle.network.proofs.Chosen.{Due, due_leads, due_next, fewest_due}
use Rattle.network.proofs.Lowest.{Leads}
use Rattle.search_layers.specs.Bridge.{network_of, back_step}
use Rattle.search_layers.specs.Words.{layer_of}
use Rattle.search_layers.proofs.NetworkLaws.{contact_in_plan, step_is, barred_hop}
use Rattle.search_layers.proofs.ReadCode.{Read, read_from}

pub record Working (N : Network) (entry chain : List ℕ) (count g r k v limit : ℕ) : Type 0 where
  pub most : k ≤ count
  pub long : length chain ≡ length entry
  pub due : Due N k v limit
  pub worked : chosen N g r ≡ worked_back N k v limit (take (count - k) (drop k chain))
  pub after : drop count chain ≡ drop count entry

module _ (N : Network) (L : Laws N) (entry : List ℕ) (count g r : ℕ) where
  pub working_begins : delivery N g ≡ at r → count ≡ fewest N g → Working N entry entry count g r count g (r + 1)
  unfolding chosen
  working_begins e ec =
      let one : r + 1 ≡ suc r = omega arith in
      let none : count - count ≡ 0 = omega arith in
      record {
        most = le_refl count;
        long = refl;
        due = rw (one, ec) (fewest_due N L g r e);
        worked = rw (one, none, ec);
        after = refl;
      }

  pub working_leads : (chain : List ℕ) (k v limit : ℕ) → 0 < k → Working N entry chain count g r k v limit
      → Leads N (layer N (k - 1)) v limit (lowest N (layer N (k - 1)) v limit)
  working_leads chain zero v limit h w = absurd (not-suc-le-zero h)
  working_leads chain (suc k) v limit h w = let less : suc k - 1 ≡ k = omega arith in rw less (due_leads N L w.due)

  -- the places from k on, after a store at k
  from_store : (chain : List ℕ) (k c : ℕ) → k < length chain → drop k (set chain k c) ≡ c ∷ drop (suc k) chain
  from_store chain k c h =
      let z : k ≡ k + 0 = omega arith in
      ap (λ (i : ℕ). drop k (set chain i c)) z
      ∙ drop-set-add k chain 0 c
      ∙ ap (λ (l : List ℕ). set l 0 c) (drop-cons chain k 0 h)

  pub working_goes : (chain exit : List ℕ) (k v limit c v' limit' : ℕ) → 0 < k → count ≤ length entry → Working N entry chain count g r k v limit
      → c ≡ lowest N (layer N (k - 1)) v limit → exit ≡ set chain (k - 1) c → v' ≡ N.from c → limit' ≡ N.back c limit
      → Working N entry exit count g r (k - 1) v' limit'
  unfolding worked_back
  working_goes chain exit zero v limit c v' limit' h room w ec ee ev el = absurd (not-suc-le-zero h)
  working_goes chain exit (suc k) v limit c v' limit' h room w ec ee ev el =
      let less : suc k - 1 ≡ k = omega arith in
      let ec' : c ≡ lowest N (layer N k) v limit = rw less at ec in
      let ee' : exit ≡ set chain k c = rw less at ee in
      let inside : k < length chain = omega (arith, w.most, w.long) in
      let more : count - k ≡ suc (count - suc k) = omega (arith, w.most) in
      let rest : take (count - k) (drop k exit) ≡ c ∷ take (count - suc k) (drop (suc k) chain) =
      ap (λ (l : List ℕ). take (count - k) (drop k l)) ee' ∙ rw (more, from_store chain k c inside) in
      rw less
      (record {
        most = omega (arith, w.most);
        long = ap length ee' ∙ length-set chain k c ∙ w.long;
        due = rw (ev, el, ec') (due_next N L w.due);
        worked = w.worked ∙ rw (rest, ev, el, ec');
        after = ap (drop count) ee' ∙ drop-set-lt count chain k c (omega (arith, w.most)) ∙ w.after;
      })

  pub working_ends : (chain : List ℕ) (k v limit : ℕ) → k ≤ 0 → Working N entry chain count g r k v limit → chain ≡ chosen N g r ++ drop count entry
  unfolding worked_back
  working_ends chain k v limit h w =
      let done : k ≡ 0 = omega arith in
      let all : count - 0 ≡ count = omega arith in
      let chosen_is : chosen N g r ≡ take count chain = w.worked ∙ rw (done, all) in
      sym (ap (λ (l : List ℕ). l ++ drop count entry) chosen_is ∙ ap (λ (l : List ℕ). take count chain ++ l) (sym w.after) ∙ take-append-drop count chain)

module _ (p : Service) (ask : Ask) (before : List When) (v limit c : ℕ) (leads : Leads (network_of p ask) before v limit c) where
  pub lead_named : InPlan p c
  lead_named = contact_in_plan ask leads.is_contact

  -- nothing comes over a barred contact
  barred_never : (w : When) → is_barred ask (contact_of p c) ≡ true → Within (behind (network_of p ask) c w) limit → ⊥
  unfolding behind barred_hop
  barred_never (at t) e h =
      let hop : (network_of p ask).step c t ≡ never = step_is p ask c t lead_named ∙ rw e in
      elim (rw hop at h) [ ]
  barred_never never e h = elim h [ ]

  pub lead_back : limit_over p ask.size c limit ≡ (network_of p ask).back c limit
  unfolding network_of back_step
  lead_back = go (is_barred ask (contact_of p c)) refl
    where
      go : (b : Bool) → is_barred ask (contact_of p c) ≡ b → limit_over p ask.size c limit ≡ (network_of p ask).back c limit
      go true e = absurd (barred_never (get_or before ((network_of p ask).from c) never) e leads.in_time)
      go false e = rw e

-- some contact leads, in the words as in the network's layers
pub one_leads : (p : Service) (ask : Ask) → Laws (network_of p ask) → (entry chain words : List ℕ) (count g r k v limit : ℕ) → 0 < k
    → Working (network_of p ask) entry chain count g r k v limit → ((j : ℕ) → j ≤ count → layer_of words j ≡ layer (network_of p ask) j)
    → 1 ≤ lowest (network_of p ask) (layer_of words (k - 1)) v limit
one_leads p ask L entry chain words count g r k v limit h w rows =
    rw (rows (k - 1) (omega (arith, w.most))) ((working_leads (network_of p ask) L entry count g r chain k v limit h w).is_contact.least)

-- the contact that the code found, held against the network's layers
module _ (p : Service) (ask : Ask) (L : Laws (network_of p ask)) (entry chain words : List ℕ) (count g r k v limit c : ℕ) (h : 0 < k)
    (w : Working (network_of p ask) entry chain count g r k v limit) (rows : (j : ℕ) → j ≤ count → layer_of words j ≡ layer (network_of p ask) j)
    (found : c ≡ lowest (network_of p ask) (layer_of words (k - 1)) v limit) where
  pub found_lowest : c ≡ lowest (network_of p ask) (layer (network_of p ask) (k - 1)) v limit
  found_lowest = found ∙ ap (λ (l : List When). lowest (network_of p ask) l v limit) (rows (k - 1) (omega (arith, w.most)))

  pub found_leads : Leads (network_of p ask) (layer (network_of p ask) (k - 1)) v limit c
  found_leads =
      subst (Leads (network_of p ask) (layer (network_of p ask) (k - 1)) v limit) (sym found_lowest) (working_leads (network_of p ask) L entry count g r chain k v limit h w)

  pub found_goes : (exit : List ℕ) (x : Contact) (limit' : ℕ) → count ≤ length entry → exit ≡ set chain (k - 1) c → Read p c x
      → limit' ≡ limit_over p ask.size c limit → Working (network_of p ask) entry exit count g r (k - 1) (x.from.0 - 1) limit'
  found_goes exit x limit' room ee read el =
      working_goes (network_of p ask) L entry count g r chain exit k v limit c (x.from.0 - 1) limit' h room w found_lowest ee (sym (read_from p ask c x read))
      (el ∙ lead_back p ask (layer (network_of p ask) (k - 1)) v limit c found_leads)
