-- Chains of contacts, held last contact first: `Arrives` says of a chain read from its last contact back what `Reaches` says of it read forward.
--     reaches→arrives, arrives→reaches    the bridge between the two
--     runs_contacts                       a chain that runs is made of contacts
-- Assumes nothing.
use mathlib.Core.Path.{◌≡◌, refl}
use mathlib.Core.List.{List, [], ◌∷◌, reverse, reverse_aux}
use Prim.Native.Nat.{ℕ, zero, suc, ◌<◌}
use native.Mathlib.Nat.{le_of_suc-le-suc, not-suc-le-zero}
use lib.ListN.{length, get_or}
use Rattle.network.specs.Network.{at, Network, IsContact, Runs, stays, hops}
use Rattle.network.specs.Best.{Reaches}

-- the chain, its last contact first, carries the file from the source and the beginning to node v, where it is ready at time r
pub data Arrives (N : Network) : List ℕ → ℕ → ℕ → Type 0 where
  starts : Arrives N [] N.source N.begin
  comes : {c t v r : ℕ} {cs : List ℕ} → IsContact N c → Arrives N cs (N.from c) t → N.step c t ≡ at r → N.to c ≡ v → Arrives N (c ∷ cs) v r

runs_on : {N : Network} {u t v r : ℕ} {cs ds : List ℕ} → Runs N u t cs v r → Arrives N ds u t → Arrives N (reverse_aux cs ds) v r
runs_on stays a = a
runs_on (hops i from step run) a = runs_on run (comes i (rw from a) step refl)

pub reaches→arrives : {N : Network} {chain : List ℕ} {v r : ℕ} → Reaches N chain v r → Arrives N (reverse chain) v r
reaches→arrives run = runs_on run starts

arrives_before : {N : Network} {u t v r : ℕ} {cs ds : List ℕ} → Arrives N cs u t → Runs N u t ds v r → Reaches N (reverse_aux cs ds) v r
arrives_before starts run = run
arrives_before (comes i a step to) run = arrives_before a (hops i refl step (rw to run))

pub arrives→reaches : {N : Network} {cs : List ℕ} {v r : ℕ} → Arrives N cs v r → Reaches N (reverse cs) v r
arrives→reaches a = arrives_before a stays

pub runs_contacts : {N : Network} {u t v r : ℕ} {cs : List ℕ} → Runs N u t cs v r → (i : ℕ) → i < length cs → IsContact N (get_or cs i 0)
runs_contacts stays i h = absurd (not-suc-le-zero h)
runs_contacts (hops c from step run) zero h = c
runs_contacts (hops c from step run) (suc i) h = runs_contacts run i (le_of_suc-le-suc h)
