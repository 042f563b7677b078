-- The best chain to a node, among all chains of any length: earliest, then fewest contacts, then, read from the last contact back, the lower
-- contact number at the first difference. The promise of `route` cites `LowerBack`; a reader of the calls' promises may skip the rest.
-- Assumes nothing.
use Rattle.std.specs.Prelude.{◌≡◌, List, ◌∷◌, reverse, ◌⊎◌, ℕ, ◌≤◌, ◌<◌, length}
use Rattle.network.specs.Network.{Network, Runs}

-- the first chain has the lower number at the first difference, where both are read from their front
pub data LowerFirst : List ℕ → List ℕ → Type 0 where
  here : {x y : ℕ} {xs ys : List ℕ} → x < y → LowerFirst (x ∷ xs) (y ∷ ys)
  there : {x : ℕ} {xs ys : List ℕ} → LowerFirst xs ys → LowerFirst (x ∷ xs) (x ∷ ys)

-- the first chain has the lower number at the first difference, where both are read from their last contact back
abbrev pub LowerBack : List ℕ → List ℕ → Type 0
LowerBack xs ys = LowerFirst (reverse xs) (reverse ys)

-- the chain carries the file from the network's source and beginning to node v, where it is ready at time r
abbrev pub Reaches : Network → List ℕ → ℕ → ℕ → Type 0
Reaches N chain v r = Runs N N.source N.begin chain v r

-- the chain is the best to node v, and r is when it delivers
pub record Best (N : Network) (v : ℕ) (chain : List ℕ) (r : ℕ) : Type 0 where
  pub reaches : Reaches N chain v r
  pub none_earlier : (other : List ℕ) (s : ℕ) → Reaches N other v s → r ≤ s
  pub none_shorter : (other : List ℕ) → Reaches N other v r → length chain ≤ length other
  pub lowest : (other : List ℕ) → Reaches N other v r → length other ≡ length chain → (chain ≡ other) ⊎ LowerBack chain other
