-- A network of contacts: what the search knows of a plan with an ask, and no more. Nodes are numbers below `nodes`, contacts are numbered
-- from 1 to `contacts`, and `step c t` is when a file is ready behind contact c if it is ready before it at t, or never. A reader of the calls' promises
-- may skip it.
--     When        a time, or never
--     Network     the network; Laws, what is known of it
--     Runs        a chain of contacts carries the file from a node and a time to a node and a time
-- Assumes nothing.
use Rattle.std.specs.Prelude.{◌≡◌, List, [], ◌∷◌, ℕ, ◌≤◌, ◌<◌}

-- a time, or never
pub data When : Type 0 where
  at : ℕ → When
  never : When

-- the first is no later than the second: never is later than every time
pub data NotLater : When → When → Type 0 where
  both : {s t : ℕ} → s ≤ t → NotLater (at s) (at t)
  last : {a : When} → NotLater a never

-- a time, and it is below the limit
pub data Within : When → ℕ → Type 0 where
  within : {t limit : ℕ} → t < limit → Within (at t) limit

pub record Network : Type 0 where
  pub nodes : ℕ
  pub contacts : ℕ
  -- where the file is at first, and from when on
  pub source : ℕ
  pub begin : ℕ
  -- the node that a contact leaves, and the node that it reaches
  pub from : ℕ → ℕ
  pub to : ℕ → ℕ
  pub step : ℕ → ℕ → When
  -- the limit below which a file must be ready before a contact, so that it is ready behind it below the limit given
  pub back : ℕ → ℕ → ℕ

-- c is the number of a contact
pub record IsContact (N : Network) (c : ℕ) : Type 0 where
  pub least : 1 ≤ c
  pub most : c ≤ N.contacts

pub record Laws (N : Network) : Type 0 where
  -- the file's first node, and both ends of each contact, are nodes
  pub source_node : N.source < N.nodes
  pub from_node : (c : ℕ) → IsContact N c → N.from c < N.nodes
  pub to_node : (c : ℕ) → IsContact N c → N.to c < N.nodes
  -- first in, first out: ready earlier before a contact is never ready later behind it
  pub sooner : (c s t : ℕ) → IsContact N c → s ≤ t → NotLater (N.step c s) (N.step c t)
  -- nothing is ready behind a contact before it is ready before it
  pub after : (c t : ℕ) → IsContact N c → NotLater (at t) (N.step c t)
  -- back is what it is said to be, both ways
  pub back_enough : (c t limit : ℕ) → IsContact N c → t < N.back c limit → Within (N.step c t) limit
  pub back_needed : (c t limit : ℕ) → IsContact N c → Within (N.step c t) limit → t < N.back c limit

-- the chain carries the file, ready at node u at time t, to node v, where it is ready at time r: each contact leaves the node where the file is
pub data Runs (N : Network) : ℕ → ℕ → List ℕ → ℕ → ℕ → Type 0 where
  stays : {u t : ℕ} → Runs N u t [] u t
  hops : {u t s v r c : ℕ} {cs : List ℕ} → IsContact N c → N.from c ≡ u → N.step c t ≡ at s → Runs N (N.to c) s cs v r → Runs N u t (c ∷ cs) v r
