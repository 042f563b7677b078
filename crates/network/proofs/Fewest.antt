-- The fewest contacts over which the delivery is reached.
--     fewest_first        that many give the delivery, and fewer do not
--     fewest_is           they are the only number of which that holds
-- Assumes nothing.
use mathlib.Core.Path.{◌≡◌, refl, ap}
use mathlib.Core.Bool.{Bool, true, false, cond}
use mathlib.Core.Logic.{⊎_elim}
use Prim.Native.Nat.{ℕ, zero, suc, ◌+◌, ◌-◌, ◌≤◌, ◌<◌, zero-le}
use native.Mathlib.Nat.{le_refl, le_antisymm, eq-or-lt_of_le, lt_of_not-le, zero-add}
use native.Mathlib.Omega.{arith}
use native.Mathlib.Decide.{dec_le}
use lib.Dec.{T, eqb→eq, eqb_refl}
use Rattle.network.specs.Network.{When, at, never, Network}
use Rattle.network.specs.Model.{earliest, delivery, same, first_from, fewest}

same→eq : (a b : When) → T (same a b) → a ≡ b
unfolding same
same→eq (at s) (at t) h = ap at (eqb→eq s t h)
same→eq (at s) never h = absurd h
same→eq never (at t) h = absurd h
same→eq never never h = refl

same_refl : (a : When) → T (same a a)
unfolding same
same_refl (at t) = eqb_refl t
same_refl never = tt

eq→same : (a b : When) → a ≡ b → T (same a b)
eq→same a b e = rw e (same_refl b)

-- k is the first number from `start` on, and at most `end`, at which node v is reached at w
pub record First (N : Network) (v : ℕ) (w : When) (start end k : ℕ) : Type 0 where
  pub least : start ≤ k
  pub most : k ≤ end
  pub is : earliest N k v ≡ w
  pub none_before : (j : ℕ) → start ≤ j → j < k → earliest N j v ≡ w → ⊥

first_least : {N : Network} {v start end k₁ k₂ : ℕ} {w : When} → First N v w start end k₁ → First N v w start end k₂ → k₁ ≤ k₂
first_least {k₁ = k₁} {k₂ = k₂} f g = elim (dec_le k₁ k₂) [ yes h ↦ h | no h ↦ absurd (f.none_before k₂ g.least (lt_of_not-le h) g.is) ]

first_unique : {N : Network} {v start end k₁ k₂ : ℕ} {w : When} → First N v w start end k₁ → First N v w start end k₂ → k₁ ≡ k₂
first_unique f g = le_antisymm (first_least f g) (first_least g f)

first_from_lem : (N : Network) (v : ℕ) (w : When) (start more end : ℕ) → start + more ≡ end → earliest N end v ≡ w → First N v w start end (first_from N v w start more)
unfolding first_from
first_from_lem N v w start zero end e h =
    let p : start ≡ end = omega arith in
    record { least = le_refl start; most = omega arith; is = rw p h; none_before = λ j s t q. absurd (omega arith) }
first_from_lem N v w start (suc more) end e h = go (same (earliest N start v) w) refl (first_from_lem N v w (suc start) more end (omega arith) h)
  where
    later : ℕ
    later = first_from N v w (suc start) more

    go : (b : Bool) → same (earliest N start v) w ≡ b → First N v w (suc start) end later → First N v w start end (cond b start later)
    go true q f =
        record {
          least = le_refl start;
          most = omega arith;
          is = same→eq (earliest N start v) w (rw q tt);
          none_before = λ j s t r. absurd (omega arith);
        }
    go false q f =
        let not_start : earliest N start v ≡ w → ⊥ = λ r. rw q at (eq→same (earliest N start v) w r) in
        record {
          least = omega arith;
          most = f.most;
          is = f.is;
          none_before = λ j s t r. ⊎_elim (λ p. not_start (rw p r)) (λ p. f.none_before j p t r) (eq-or-lt_of_le s);
        }

pub fewest_first : (N : Network) (v : ℕ) → First N v (delivery N v) zero (N.nodes - 1) (fewest N v)
unfolding fewest
fewest_first N v = first_from_lem N v (delivery N v) zero (N.nodes - 1) (N.nodes - 1) (zero-add _) refl

pub fewest_is : (N : Network) (v k : ℕ) → k ≤ N.nodes - 1 → earliest N k v ≡ delivery N v → ((j : ℕ) → j < k → earliest N j v ≡ delivery N v → ⊥)
    → fewest N v ≡ k
fewest_is N v k most is fewer = first_unique (fewest_first N v) (record { least = zero-le; most = most; is = is; none_before = λ j _. fewer j })
