-- What the code knows that takes one booking from what is left on its contacts.
--     named_before                       whether a contact stands earlier in the chain
--     chain_starts, chain_whole          it is taken from none of the contacts, and from all of them
--     chain_again                        from a contact that stands earlier in the chain it is not taken again
--     word_there, chain_more             a new one has a word, and it is taken from it
-- Assumes nothing.
use mathlib.Core.Bool.{Bool, true, false, ◌||◌, cond, or-false, or-true, or_assoc}
use mathlib.Core.List.{List, [], ◌∷◌, ◌++◌}
use mathlib.Core.Path.{◌≡◌, refl, sym, ap, ◌∙◌, subst}
use Prim.Native.Nat.{ℕ, suc, ◌+◌, ◌-◌, ◌<◌}
use native.Mathlib.Nat.{sub-zero}
use native.Mathlib.Numerals.{add-one}
use native.Mathlib.Omega.{arith}
use borrow.Author.Tests.{eqb-true, eqb-false, eq-eqb, ne_eqb}
use lib.Dec.{eqb}
use lib.ListN.{length, get_or, take, set, length-set}
use lib.Seq.{get_or-set_same, get_or-set_other, take-suc}
use Rattle.std.specs.List.{list_any}
use Rattle.plan.specs.Plan.{Each}
use Rattle.book.specs.Book.{names}
use Rattle.book.specs.Model.{HasWord, Spent, once}

pub named_before : (chain : List ℕ) (c : ℕ) → list_any (λ x. eqb x c) chain ≡ names chain c
unfolding names
named_before [] c = refl
named_before (x ∷ chain) c = ap (λ (b : Bool). eqb x c || b) (named_before chain c)

-- by the answer of a test
test : {A : Type 0} (b : Bool) → (b ≡ true → A) → (b ≡ false → A) → A
test true on off = on refl
test false on off = off refl

names_append : (xs : List ℕ) (x c : ℕ) → names (xs ++ (x ∷ [])) c ≡ (names xs c || eqb x c)
unfolding names
names_append [] x c = or-false (eqb x c)
names_append (y ∷ ys) x c = ap (λ (b : Bool). eqb y c || b) (names_append ys x c) ∙ sym (or_assoc (eqb y c) (names ys c) (eqb x c))

-- the chain so far, and with one contact more
module _ (so_far : List ℕ) (x : ℕ) where
  abbrev and_next : List ℕ
  and_next = so_far ++ (x ∷ [])

  names_other : (c : ℕ) → (x ≡ c → ⊥) → names and_next c ≡ names so_far c
  names_other c e = names_append so_far x c ∙ rw (ne_eqb x c e) (or-false (names so_far c))

  names_again : names so_far x ≡ true → (c : ℕ) → names and_next c ≡ names so_far c
  names_again known c = names_append so_far x c ∙ go (eqb x c) (eqb-true x c)
    where
      go : (b : Bool) → (b ≡ true → x ≡ c) → (names so_far c || b) ≡ names so_far c
      go true same = rw (sym (ap (names so_far) (same refl)) ∙ known)
      go false same = or-false (names so_far c)

  module _ (amount : ℕ) (before after : List ℕ) (spent : Spent (once so_far amount) before after) where
    -- a contact that the chain names already
    again : names so_far x ≡ true → Spent (once and_next amount) before after
    again known = record {
      same_length = spent.same_length;
      lefts = λ j h. spent.lefts j h ∙ ap (λ (b : Bool). get_or before j 0 - cond b amount 0) (sym (names_again known (suc j)));
    }

    module _ (has : HasWord before x) where
      still_there : HasWord after x
      still_there = record { least = has.least; most = omega (arith, has.most, spent.same_length) }

      number_back : suc (x - 1) ≡ x
      number_back = omega (arith, has.least)

      abbrev stored : List ℕ
      stored = set after (x - 1) (get_or after (x - 1) 0 - amount)

      -- a new one
      module _ (unnamed : names so_far x ≡ false) where
        word_still : (j : ℕ) → suc j ≡ x → get_or after j 0 ≡ get_or before j 0
        word_still j e =
            let inside : j < length before = omega (arith, has.most) in
            let none : once so_far amount (suc j) ≡ 0 = rw (ap (names so_far) e ∙ unnamed) in
            omega (arith, spent.lefts j inside, none)

        left_there : (j : ℕ) → x ≡ suc j → get_or stored j 0 ≡ get_or before j 0 - once and_next amount (suc j)
        left_there j e =
            let there : j ≡ x - 1 = omega arith in
            let inside : x - 1 < length after = omega (arith, has.most, has.least, spent.same_length) in
            let named : names and_next (suc j) ≡ true = names_append so_far x (suc j) ∙ rw (eq-eqb x (suc j) e) (or-true (names so_far (suc j))) in
            ap (λ (n : ℕ). get_or stored n 0) there ∙ get_or-set_same after (x - 1) (get_or after (x - 1) 0 - amount) 0 inside
            ∙ ap (λ (n : ℕ). n - amount) (ap (λ (n : ℕ). get_or after n 0) (sym there) ∙ word_still j (sym e))
            ∙ ap (λ (b : Bool). get_or before j 0 - cond b amount 0) (sym named)

        left_elsewhere : (j : ℕ) → j < length before → (x ≡ suc j → ⊥) → get_or stored j 0 ≡ get_or before j 0 - once and_next amount (suc j)
        left_elsewhere j h other =
            get_or-set_other after (x - 1) j (get_or after (x - 1) 0 - amount) 0 (λ s. other (sym number_back ∙ ap suc (sym s)))
            ∙ spent.lefts j h ∙ ap (λ (b : Bool). get_or before j 0 - cond b amount 0) (sym (names_other (suc j) other))

        more : (after' : List ℕ) → after' ≡ stored → Spent (once and_next amount) before after'
        more after' e = record {
          same_length = ap length e ∙ simp length-set spent.same_length;
          lefts = λ j h.
              ap (λ (l : List ℕ). get_or l j 0) e
              ∙ test (eqb x (suc j)) (λ b. left_there j (eqb-true x (suc j) b)) (λ b. left_elsewhere j h (eqb-false x (suc j) b));
        }

-- no contact so far
pub chain_starts : (amount : ℕ) (before : List ℕ) → Spent (once [] amount) before before
unfolding names
chain_starts amount before = record { same_length = refl; lefts = λ j h. sym (sub-zero (get_or before j 0)) }

-- contact i of the chain, where those before it are done
module _ (chain : List ℕ) (amount : ℕ) (before after : List ℕ) (i : ℕ) (spent : Spent (once (take i chain) amount) before after) (h : i < length chain) where
  abbrev this : ℕ
  this = get_or chain i 0

  one_more : take (i + 1) chain ≡ take i chain ++ (this ∷ [])
  one_more = ap (λ (n : ℕ). take n chain) (add-one i) ∙ take-suc chain i 0 h

  with_next : (after' : List ℕ) → Spent (once (take i chain ++ (this ∷ [])) amount) before after' → Spent (once (take (i + 1) chain) amount) before after'
  with_next after' = subst (λ (xs : List ℕ). Spent (once xs amount) before after') (sym one_more)

  pub chain_again : list_any (λ x. eqb x this) (take i chain) ≡ true → Spent (once (take (i + 1) chain) amount) before after
  chain_again known = with_next after (again (take i chain) this amount before after spent (sym (named_before (take i chain) this) ∙ known))

  module _ (all : Each (HasWord before) chain) where
    has : HasWord before this
    unfolding Each
    has = all 0 i h

    pub word_there : HasWord after this
    word_there = still_there (take i chain) this amount before after spent has

    pub chain_more : list_any (λ x. eqb x this) (take i chain) ≡ false → (after' : List ℕ) → after' ≡ set after (this - 1) (get_or after (this - 1) 0 - amount)
        → Spent (once (take (i + 1) chain) amount) before after'
    chain_more new after' e =
        with_next after' (more (take i chain) this amount before after spent has (sym (named_before (take i chain) this) ∙ new) after' e)
