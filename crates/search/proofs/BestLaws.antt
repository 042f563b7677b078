-- The best chain for an ask is the network's best chain to the goal.
--     is_best_best       one exactly where the other
--     is_best_unique     there is one at the most, whatever the plan
--     is_best_short      it has at most 63 contacts
-- Assumes nothing.
use mathlib.Core.List.{List}
use mathlib.Core.Logic.{◌↔◌}
use mathlib.Core.Path.{◌≡◌}
use Prim.Native.Nat.{ℕ, ◌≤◌, ◌<◌}
use native.Mathlib.Omega.{arith}
use lib.ListN.{length}
use Rattle.units.specs.Limits.{most_nodes, most_chain}
use Rattle.units.specs.declared.Ask.{Ask}
use Rattle.service.specs.Service.{Service, Sound}
use Rattle.timing.specs.Chain.{Allowed}
use Rattle.units.specs.Asks.{GoodAsk}
use Rattle.network.specs.Best.{Reaches, Best}
use Rattle.network.proofs.Theorems.{best_short}
use Rattle.network.proofs.Unique.{First, first_unique}
use Rattle.search_layers.specs.Bridge.{network_of, goal}
use Rattle.search.specs.Route.{IsBest}
use Rattle.search.proofs.Chains.{allowed_reaches}
use Rattle.search_layers.proofs.NetworkLaws.{network_laws}

pub is_best_unique : {p : Service} {ask : Ask} {c₁ c₂ : List ℕ} {r₁ r₂ : ℕ} → IsBest p ask c₁ r₁ → IsBest p ask c₂ r₂ → (c₁ ≡ c₂) × (r₁ ≡ r₂)
is_best_unique {p} {ask} b₁ b₂ = first_unique (Allowed p ask) _ _ _ _ (first b₁) (first b₂)
  where
    first : {chain : List ℕ} {r : ℕ} → IsBest p ask chain r → First (Allowed p ask) chain r
    first b = record { goes = b.allowed; none_earlier = b.none_earlier; none_shorter = b.none_shorter; lowest = b.lowest }

-- a chain of nodes less one contacts is one of 63
most_chain_lem : (n : ℕ) → n < most_nodes → n ≤ most_chain
unfolding most_nodes most_chain
most_chain_lem n h = omega arith

module _ (p : Service) (valid : Sound p) (ask : Ask) (good : GoodAsk ask) (differ : ask.source.0 ≡ ask.destination.0 → ⊥) where
  pub is_best_best : (chain : List ℕ) (r : ℕ) → IsBest p ask chain r ↔ Best (network_of p ask) (goal ask) chain r
  is_best_best chain r = (
    λ b. record {
      reaches = (reach chain r).0 b.allowed;
      none_earlier = λ other s h. b.none_earlier other s ((reach other s).1 h);
      none_shorter = λ other h. b.none_shorter other ((reach other r).1 h);
      lowest = λ other h. b.lowest other ((reach other r).1 h);
    },
    λ b. record {
      allowed = (reach chain r).1 b.reaches;
      none_earlier = λ other s h. b.none_earlier other s ((reach other s).0 h);
      none_shorter = λ other h. b.none_shorter other ((reach other r).0 h);
      lowest = λ other h. b.lowest other ((reach other r).0 h);
    },
  )
    where
      reach : (other : List ℕ) (s : ℕ) → Allowed p ask other s ↔ Reaches (network_of p ask) other (goal ask) s
      reach = allowed_reaches p valid ask good differ

  pub is_best_short : {chain : List ℕ} {r : ℕ} → IsBest p ask chain r → length chain ≤ most_chain
  unfolding network_of
  is_best_short {chain} {r} b =
      most_chain_lem (length chain) (best_short (network_of p ask) (network_laws p valid ask good) (goal ask) r chain ((is_best_best chain r).0 b))
