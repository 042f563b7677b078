-- What the code knows that goes along the list of a node, and tries the contacts in it.
--     to_below, from_key                    the nodes of a contact, as the network has them and as its row has them
--     Seen                                  a walk along the list of a node has come to row i
--     seen_named, seen_first, seen_ready, seen_next, next_later, seen_all      it begins, has the node's word at hand, goes on to a later row, and ends
--     linkable_from, listed_from            the contacts can be put into lists, and are in lists then
-- Assumes nothing.
use mathlib.Core.List.{List}
use mathlib.Core.Logic.{inl, inr}
use mathlib.Core.Path.{◌≡◌, sym, ap, ◌∙◌, subst}
use Prim.Native.Nat.{ℕ, suc, ◌+◌, ◌-◌, ◌≤◌, ◌<◌}
use native.Mathlib.Decide.{dec_le, ℕ_discrete}
use native.Mathlib.Omega.{arith}
use lib.ListN.{length, get_or}
use Rattle.units.specs.Limits.{most_nodes, most_contacts, IsNode}
use Rattle.plan.specs.declared.rows.Contact.{Contact}
use Rattle.plan.specs.Tables.{contact_at}
use Rattle.plan_lists.specs.Leaving.{from_at, LinkableFrom}
use Rattle.plan_lists.specs.Lists.{LeastFrom, Nexts, Linked}
use Rattle.plan_lists.specs.Model.{most_rows}
use Rattle.service.specs.declared.tables.ServedPlan.{ServedPlan}
use Rattle.service.specs.Held.{service_in}
use Rattle.service.specs.Service.{InPlan}
use Rattle.service.proofs.Bounded.{contact_good}
use Rattle.service.proofs.HeldLaws.{held_sound, held_counted, held_named, held_contact}
use Rattle.network.specs.Model.{relax}
use Rattle.network.specs.Network.{IsContact}
use Rattle.search_layers.specs.declared.contact_network.ContactNetwork.{ContactNetwork}
use Rattle.search_layers.specs.declared.rows.Layers.{Layers}
use Rattle.search_layers.specs.Bridge.{network_of}
use Rattle.search_layers.specs.Held.{network_in}
use Rattle.search_layers.specs.Layered.{Layered, Tried}
use Rattle.search_layers.specs.Words.{row_of, layer_of, Listed}
use Rattle.search_layers.proofs.FillCode.{nodes_counted, contacts_counted, held_laws}
use Rattle.search_layers.proofs.NetworkLaws.{contact_in_plan, in_plan_contact}
use Rattle.search_layers.proofs.TriedCode.{tried_none, tried_then, tried_one}

module _ (n : ContactNetwork) where
  to_below : (c : ℕ) → IsContact (network_in n) c → (network_in n).to c < most_nodes
  to_below c i = rw nodes_counted at ((held_laws n.service n.ask).to_node c i)

  from_key : (c : ℕ) → IsContact (network_in n) c → (network_in n).from c ≡ from_at n.service.contacts.now (c - 1)
  unfolding network_of from_at
  from_key c i = ap (λ (x : Contact). x.from.0 - 1) (held_contact n.service c (contact_in_plan n.ask.asked i))

  -- the contact of a row
  pub row_named : (i : ℕ) → i < n.service.contact_count → InPlan (service_in n.service) (i + 1)
  row_named i below = held_named n.service (i + 1) (omega arith) (omega arith)

  row_contact : (i : ℕ) → i < n.service.contact_count → IsContact (network_in n) (i + 1)
  row_contact i below = in_plan_contact n.ask.asked (row_named i below)

  -- a walk along the list of node v has come to row i, and the contacts from v before it are tried
  pub record Seen (entry layers : Layers) (k v i : ℕ) : Type 0 where
    pub at_most : i ≤ n.service.contact_count
    pub has : i < n.service.contact_count → from_at n.service.contacts.now i ≡ v
    pub tried : Tried (network_in n) entry layers k (λ c. (c ≤ i) × ((network_in n).from c ≡ v))

  -- the contact in row i is from node v, whose word in row k stays
  pub seen_ready : (entry layers : Layers) (k v i ready : ℕ) → i < n.service.contact_count → Seen entry layers k v i
      → ready ≡ get_or (row_of entry.words.now k) v 0 → ready ≡ get_or (row_of layers.words.now k) ((network_in n).from (i + 1)) 0
  seen_ready entry layers k v i ready below seen e =
      let back : (i + 1) - 1 ≡ i = omega arith in
      let from : (network_in n).from (i + 1) ≡ v =
      from_key (i + 1) (row_contact i below) ∙ ap (from_at n.service.contacts.now) back ∙ seen.has below in
      rw (from, seen.tried.kept k (λ d. absurd (omega arith))) e

  -- the next row, behind row i
  module _ (i r : ℕ) (below : i < n.service.contact_count) (e : r ≡ get_or n.nexts.now i 0) where
    next_least : LeastFrom (from_at n.service.contacts.now) (suc i) n.service.contact_count (from_at n.service.contacts.now i) r
    unfolding Nexts
    next_least = subst (LeastFrom (from_at n.service.contacts.now) (suc i) n.service.contact_count (from_at n.service.contacts.now i)) (sym e) (n.listed.linked.next i below)

    pub next_later : suc i ≤ r
    next_later = next_least.no_earlier

    pub seen_next : (entry layers exit : Layers) (k v : ℕ) → k + 1 < most_nodes → Seen entry layers k v i
        → Layered layers exit k (relax (network_in n) (layer_of layers.words.now k) (i + 1) (layer_of layers.words.now (k + 1))) → Seen entry exit k v r
    seen_next entry layers exit k v inside seen step =
        let this = row_contact i below in
        record {
          at_most = next_least.no_later;
          has = λ h. next_least.has h ∙ seen.has below;
          tried = tried_then (network_in n) k entry layers exit seen.tried
              (tried_one (network_in n) k layers exit (i + 1) this (to_below (i + 1) this) inside step)
              (λ c here d.
              elim (dec_le c i) [
                | yes b ↦ inl (b, d.1)
                | no b ↦ elim (ℕ_discrete c (i + 1)) [
                  | yes e' ↦ inr e'
                  | no e' ↦ absurd (next_least.least (c - 1) (omega arith) (omega (arith, d.0)) (sym (from_key c here) ∙ d.1 ∙ sym (seen.has below)))
                ]
              ]);
        }

  pub seen_first : (entry : Layers) (k v i : ℕ) → v < most_nodes → i ≡ get_or n.heads.now v 0 → Seen entry entry k v i
  seen_first entry k v i node e =
      let l : LeastFrom (from_at n.service.contacts.now) 0 n.service.contact_count v i =
      subst (LeastFrom (from_at n.service.contacts.now) 0 n.service.contact_count v) (sym e) (n.listed.linked.first v (rw n.listed.a_node_each node)) in
      record {
        at_most = l.no_later;
        has = l.has;
        tried = tried_none (network_in n) k entry
            (λ c here d. l.least (c - 1) (omega arith) (omega (arith, here.least, d.0)) (sym (from_key c here) ∙ d.1));
      }

  pub seen_all : (entry layers : Layers) (k v i : ℕ) → n.service.contact_count ≤ i → Seen entry layers k v i
      → Tried (network_in n) entry layers k (λ c. (network_in n).from c ≡ v)
  seen_all entry layers k v i past seen =
      tried_then (network_in n) k entry layers layers seen.tried
      (tried_none (network_in n) k layers {D = λ c. ⊥} (λ c here d. d))
      (λ c here d. inl (omega (arith, here.most, contacts_counted n.service n.ask.asked), d))

-- the contacts of a served plan can be linked by the node that they are from
module _ (s : ServedPlan) (heads nexts : List ℕ) (node-each : length heads ≡ most_nodes) (contact-each : length nexts ≡ most_rows) where
  few : s.contact_count ≤ most_rows
  unfolding most_rows most_contacts
  few = omega (arith, (held_sound s).contacts_most, held_counted s)

  pub linkable_from : LinkableFrom s.contacts.now s.contact_count heads nexts
  linkable_from = record {
    few = few;
    lent = s.sound.contacts_lent;
    a_node_each = node-each;
    a_contact_each = omega (arith, few, contact-each);
    nodes = λ j h.
        let named : InPlan (service_in s) (suc j) = held_named s (suc j) (omega arith) h in
        let back : suc j - 1 ≡ j = omega arith in
        subst (λ (x : Contact). IsNode x.from) (held_contact s (suc j) named ∙ ap (contact_at s.contacts.now) back)
        (contact_good (service_in s) (held_sound s) (suc j) named).from_node;
  }

  pub listed_from : Linked (from_at s.contacts.now) s.contact_count heads nexts → Listed s.contacts.now s.contact_count heads nexts
  listed_from linked = record { linked = linked; a_node_each = node-each; a_contact_each = linkable_from.a_contact_each }
