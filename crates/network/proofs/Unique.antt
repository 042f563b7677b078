-- There is one best chain at the most.
--     lower_asym       of two chains not each is the lower
--     first_unique     of chains of any kind, two that are each the first by the order of choice are the same, and deliver at the same time
--     best_unique      so are two best chains to a node
-- Assumes nothing.
use mathlib.Core.Path.{◌≡◌, refl, sym}
use mathlib.Core.List.{List, ◌∷◌}
use mathlib.Core.Logic.{◌⊎◌, inl, inr, ⊎_elim}
use Prim.Native.Nat.{ℕ, ◌≤◌, ◌<◌}
use native.Mathlib.Nat.{le_antisymm}
use native.Mathlib.Omega.{arith}
use lib.ListN.{length}
use Rattle.network.specs.Network.{Network}
use Rattle.network.specs.Best.{LowerFirst, here, there, LowerBack, Reaches, Best}

-- of two chains the first is lower at its first number, or is the same there and lower behind it
first_difference : {x y : ℕ} {xs ys : List ℕ} → LowerFirst (x ∷ xs) (y ∷ ys) → (x < y) ⊎ ((x ≡ y) × LowerFirst xs ys)
first_difference (here h) = inl h
first_difference (there p) = inr (refl, p)

lower_asym : {xs ys : List ℕ} → LowerFirst xs ys → LowerFirst ys xs → ⊥
lower_asym (here h) q = ⊎_elim (λ k. omega arith) (λ k. let e = k.0 in omega arith) (first_difference q)
lower_asym (there p) q = ⊎_elim (λ k. omega arith) (λ k. lower_asym p k.1) (first_difference q)

-- where `Goes chain r` says that the chain is one of those to choose from, and delivers at r: it is the one to choose
pub record First (Goes : List ℕ → ℕ → Type 0) (chain : List ℕ) (r : ℕ) : Type 0 where
  pub goes : Goes chain r
  pub none_earlier : (other : List ℕ) (s : ℕ) → Goes other s → r ≤ s
  pub none_shorter : (other : List ℕ) → Goes other r → length chain ≤ length other
  pub lowest : (other : List ℕ) → Goes other r → length other ≡ length chain → (chain ≡ other) ⊎ LowerBack chain other

pub first_unique : (Goes : List ℕ → ℕ → Type 0) (c₁ c₂ : List ℕ) (r₁ r₂ : ℕ) → First Goes c₁ r₁ → First Goes c₂ r₂ → (c₁ ≡ c₂) × (r₁ ≡ r₂)
first_unique Goes c₁ c₂ r₁ r₂ b₁ b₂ = (either (b₁.lowest c₂ goes₂ (sym same_length)) (b₂.lowest c₁ goes₁ same_length), same_time)
  where
    same_time : r₁ ≡ r₂
    same_time = le_antisymm (b₁.none_earlier c₂ r₂ b₂.goes) (b₂.none_earlier c₁ r₁ b₁.goes)

    goes₁ : Goes c₁ r₂
    goes₁ = rw same_time at b₁.goes

    goes₂ : Goes c₂ r₁
    goes₂ = rw same_time b₂.goes

    same_length : length c₁ ≡ length c₂
    same_length = le_antisymm (b₁.none_shorter c₂ goes₂) (b₂.none_shorter c₁ goes₁)

    either : (c₁ ≡ c₂) ⊎ LowerBack c₁ c₂ → (c₂ ≡ c₁) ⊎ LowerBack c₂ c₁ → c₁ ≡ c₂
    either (inl e) _ = e
    either (inr p) (inl e) = sym e
    either (inr p) (inr q) = absurd (lower_asym p q)

pub best_unique : (N : Network) (v : ℕ) (c₁ c₂ : List ℕ) (r₁ r₂ : ℕ) → Best N v c₁ r₁ → Best N v c₂ r₂ → (c₁ ≡ c₂) × (r₁ ≡ r₂)
best_unique N v c₁ c₂ r₁ r₂ b₁ b₂ = first_unique (λ chain r. Reaches N chain v r) c₁ c₂ r₁ r₂ (first b₁) (first b₂)
  where
    first : {chain : List ℕ} {r : ℕ} → Best N v chain r → First (λ chain r. Reaches N chain v r) chain r
    first b = record { goes = b.reaches; none_earlier = b.none_earlier; none_shorter = b.none_shorter; lowest = b.lowest }
