-- What the code knows that links the rows, from the last to the first.
--     LinkedFrom                             the rows from row i on are linked
--     linked_none, linked_row, linked_all    none, one row more, and all of them
--     followed_last, followed_tells          a row that is the last of its slot, and one that is not
--     OrderedFrom                            each row from row i on ends no later than the next one of its slot starts
--     ordered_none, ordered_stays, ordered_stops, ordered_all    none, one row more that does or does not, and all of them
--     slot_found                             the slot that is found for a row is that row's
--     node_found                             the node that a contact is from, read from its row
-- Assumes nothing.
use mathlib.Core.Bool.{Bool, true, false, ◌&&◌}
use Rattle.std.proofs.Math.Bool.{and-true, and-false}
use mathlib.Core.List.{List}
use mathlib.Core.Path.{◌≡◌, sym, ap, ◌∙◌, subst}
use Prim.Native.Nat.{ℕ, suc, ◌-◌, ◌≤◌, ◌<◌}
use native.Mathlib.Decide.{ℕ_discrete}
use native.Mathlib.Omega.{arith}
use Rattle.std.proofs.lemmas.List.{length-replicate, get_or-replicate}
use lib.Dec.{leb}
use lib.ListN.{length, get_or, set, replicate, length-set}
use lib.Seq.{get_or-set_same, get_or-set_other}
use Rattle.units.specs.Limits.{most_nodes, IsNode}
use Rattle.plan.specs.declared.rows.Contact.{Contact}
use Rattle.plan.specs.declared.rows.Span.{Span}
use Rattle.plan.specs.Tables.{contact_at, span_at}
use Rattle.plan.specs.Verdict.{Verdict, holds}
use Rattle.plan.proofs.Verdicts.{tells_le, both, restated}
use Rattle.plan_lists.specs.Leaving.{from_at}
use Rattle.plan_lists.specs.Lists.{LeastFrom, Nexts, Linked, pair_slot, slot_at, Followed, InOrder}

pub record LinkedFrom (key : ℕ → ℕ) (i n : ℕ) (heads nexts : List ℕ) : Type 0 where
  pub first : (s : ℕ) → s < length heads → LeastFrom key i n s (get_or heads s 0)
  pub next : (k : ℕ) → i ≤ k → k < n → LeastFrom key (suc k) n (key k) (get_or nexts k 0)

module _ (key : ℕ → ℕ) (n : ℕ) (heads nexts : List ℕ) where
  -- each head is n
  pub linked_none : (m : ℕ) → heads ≡ replicate m n → LinkedFrom key n n heads nexts
  linked_none m filled = record {
    first = λ s h.
        let below : s < m = omega (arith, ap (λ (l : List ℕ). length l) filled ∙ length-replicate m n) in
        subst (LeastFrom key n n s) (sym (ap (λ (l : List ℕ). get_or l s 0) filled ∙ get_or-replicate m s n 0 below)) none;
    next = λ k l h. absurd (omega arith);
  }
    where
      none : {s : ℕ} → LeastFrom key n n s n
      none = record { no_earlier = omega arith; no_later = omega arith; least = λ j l h e. omega arith; has = λ h. absurd (omega arith) }

  pub linked_all : LinkedFrom key 0 n heads nexts → Linked key n heads nexts
  unfolding Nexts
  linked_all from = record { first = from.first; next = λ k h. from.next k (omega arith) h }

  -- row i comes before the others
  module _ (i : ℕ) (h : i < n) (from : LinkedFrom key (suc i) n heads nexts) where
    least_at : {s : ℕ} → key i ≡ s → LeastFrom key i n s i
    least_at e = record { no_earlier = omega arith; no_later = omega arith; least = λ j l m e'. omega arith; has = λ _. e }

    least_past : {s r : ℕ} → (key i ≡ s → ⊥) → LeastFrom key (suc i) n s r → LeastFrom key i n s r
    least_past {s} {r} other l = record {
      no_earlier = omega (arith, l.no_earlier);
      no_later = l.no_later;
      least = λ j m k e. elim (ℕ_discrete i j) [ yes d ↦ other (ap key d ∙ e) | no d ↦ l.least j (omega arith) k e ];
      has = l.has;
    }

    firsts_more : (s : ℕ) → s < length heads → LeastFrom key i n s (get_or (set heads (key i) i) s 0)
    firsts_more s l =
        elim (ℕ_discrete (key i) s) [
          | yes e ↦ subst (LeastFrom key i n s) (sym (ap (λ (k : ℕ). get_or (set heads k i) s 0) e ∙ get_or-set_same heads s i 0 l)) (least_at e)
          | no e ↦ subst (LeastFrom key i n s) (sym (get_or-set_other heads (key i) s i 0 (λ d. e (sym d)))) (least_past e (from.first s l))
        ]

    nexts_more : key i < length heads → i < length nexts → (k : ℕ) → i ≤ k → k < n → LeastFrom key (suc k) n (key k) (get_or (set nexts i (get_or heads (key i) 0)) k 0)
    nexts_more slot there k l m =
        elim (ℕ_discrete i k) [
          | yes e ↦ subst (λ (j : ℕ). LeastFrom key (suc j) n (key j) (get_or (set nexts i (get_or heads (key i) 0)) j 0)) e
              (subst (LeastFrom key (suc i) n (key i)) (sym (get_or-set_same nexts i (get_or heads (key i) 0) 0 there)) (from.first (key i) slot))
          | no e ↦ subst (LeastFrom key (suc k) n (key k)) (sym (get_or-set_other nexts i k (get_or heads (key i) 0) 0 (λ d. e (sym d))))
              (from.next k (omega arith) m)
        ]

    linked_more : key i < length heads → i < length nexts → LinkedFrom key i n (set heads (key i) i) (set nexts i (get_or heads (key i) 0))
    linked_more slot there =
        record { first = λ s l. firsts_more s (subst (λ (m : ℕ). s < m) (length-set heads (key i) i) l); next = nexts_more slot there }

  -- the same, as the code has it: row i - 1 is entered into its list
  pub linked_row : (i slot : ℕ) → 0 < i → i ≤ n → slot ≡ key (i - 1) → slot < length heads → n ≤ length nexts
      → (next : ℕ) (heads' nexts' : List ℕ) → (next ≡ get_or heads slot 0) × (heads' ≡ set heads slot (i - 1)) × (nexts' ≡ set nexts (i - 1) next)
      → LinkedFrom key i n heads nexts → LinkedFrom key (i - 1) n heads' nexts'
  linked_row i slot some few es inside there next heads' nexts' entered from =
      let back : i ≡ suc (i - 1) = omega arith in
      let h : i - 1 < n = omega arith in
      let at : key (i - 1) < length heads = subst (λ (k : ℕ). k < length heads) es inside in
      rw (entered.1, entered.2, entered.0, es) (linked_more (i - 1) h (subst (λ (k : ℕ). LinkedFrom key k n heads nexts) back from) at (omega arith))

-- whether a row ends no later than row `next` starts, where there is such a row
module _ (table : List ℕ) (n : ℕ) (row : Span) (next : ℕ) where
  pub followed_last : n ≤ next → Verdict (next < n → row.end.0 ≤ (span_at table next).start.0) true
  followed_last h = holds (λ l. absurd (omega arith))

  pub followed_tells : next < n → (other : Span) → other ≡ span_at table next → (b : Bool) → b ≡ leb row.end.0 other.start.0
      → Verdict (next < n → row.end.0 ≤ (span_at table next).start.0) b
  followed_tells h other e b told = rw (told, e) (restated (λ l _. l) (λ f. f h) (tells_le row.end.0 (span_at table next).start.0))

unfoldable pub OrderedFrom : List ℕ → ℕ → List ℕ → ℕ → Type 0
unfolding Followed
OrderedFrom table n nexts i = (k : ℕ) → i ≤ k → k < n → Followed table n nexts k

module _ (table : List ℕ) (n : ℕ) (nexts : List ℕ) where
  pub ordered_none : Verdict (OrderedFrom table n nexts n) true
  unfolding OrderedFrom
  ordered_none = holds (λ k l h. absurd (omega arith))

  pub ordered_all : (b : Bool) → Verdict (OrderedFrom table n nexts 0) b → Verdict (InOrder table n nexts) b
  unfolding OrderedFrom InOrder
  ordered_all b told = restated (λ from k h. from k (omega arith) h) (λ order k l h. order k h) told

  -- row i - 1, which is `row`, gets its next row, and b tells whether it is followed in order
  module _ (i : ℕ) (some : 0 < i) (few : i ≤ n) (there : n ≤ length nexts) (row : Span) (next : ℕ) (a b : Bool)
      (er : row ≡ span_at table (i - 1)) (told : Verdict (next < n → row.end.0 ≤ (span_at table next).start.0) b)
      (nexts' : List ℕ) (en : nexts' ≡ set nexts (i - 1) next) where
    -- its next row is the one that is written
    row_tells : Verdict (Followed table n nexts' (i - 1)) b
    unfolding Followed
    row_tells =
        let at : get_or nexts' (i - 1) 0 ≡ next = ap (λ (l : List ℕ). get_or l (i - 1) 0) en ∙ get_or-set_same nexts (i - 1) next 0 (omega arith) in
        rw at (rw er at told)

    -- a later row keeps its next row
    later_same : (k : ℕ) → i ≤ k → get_or nexts' k 0 ≡ get_or nexts k 0
    later_same k l = ap (λ (l : List ℕ). get_or l k 0) en ∙ get_or-set_other nexts (i - 1) k next 0 (λ e. omega arith)

    ordered_row : Verdict (OrderedFrom table n nexts i) a → Verdict (OrderedFrom table n nexts' (i - 1)) (a && b)
    unfolding OrderedFrom Followed
    ordered_row so_far = restated more fewer (both so_far row_tells)
      where
        more : OrderedFrom table n nexts i × Followed table n nexts' (i - 1) → OrderedFrom table n nexts' (i - 1)
        more from k l h =
            elim (ℕ_discrete (i - 1) k) [
              | yes d ↦ subst (Followed table n nexts') d from.1
              | no d ↦ let after : i ≤ k = omega arith in rw (later_same k after) (from.0 k after h)
            ]

        fewer : OrderedFrom table n nexts' (i - 1) → OrderedFrom table n nexts i × Followed table n nexts' (i - 1)
        fewer from = (λ k l h. rw (sym (later_same k l)) (from k (omega arith) h), from (i - 1) (omega arith) (omega arith))

    pub ordered_stays : b ≡ true → Verdict (OrderedFrom table n nexts i) a → Verdict (OrderedFrom table n nexts' (i - 1)) a
    ordered_stays e so_far = subst (Verdict (OrderedFrom table n nexts' (i - 1))) (ap (λ (v : Bool). a && v) e ∙ and-true a) (ordered_row so_far)

    pub ordered_stops : b ≡ false → Verdict (OrderedFrom table n nexts i) a → Verdict (OrderedFrom table n nexts' (i - 1)) false
    ordered_stops e so_far = subst (Verdict (OrderedFrom table n nexts' (i - 1))) (ap (λ (v : Bool). a && v) e ∙ and-false a) (ordered_row so_far)

-- the slot that is found for a row is that row's
pub slot_found : (table : List ℕ) (k : ℕ) (s : Span) (slot : ℕ) → s ≡ span_at table k → slot ≡ pair_slot s → slot ≡ slot_at table k
unfolding slot_at
slot_found table k s slot es e = e ∙ ap pair_slot es

-- the node that a contact is from, read from its row
module _ (contacts : List ℕ) (k : ℕ) (x : Contact) (ex : x ≡ contact_at contacts k) (node : IsNode (contact_at contacts k).from) where
  pub node_found : (x.from.0 - 1 ≡ from_at contacts k) × (x.from.0 - 1 < most_nodes)
  unfolding from_at
  node_found = (ap (λ (y : Contact). y.from.0 - 1) ex, rw ex (omega (arith, node.least, node.most)))
