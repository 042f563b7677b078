-- The executable model of the search: what the code computes, step by step. A reader of the promises may skip it.
--     layer       for each node when the file can be there at the earliest, over at most k contacts
--     delivery    when it can be at a node over any number of contacts
--     fewest      over how many contacts at the least
--     chosen      the chain, worked back from the last contact, the lowest number first
-- Assumes nothing.
use Rattle.std.specs.Prelude.{Bool, true, false, cond, ◌&&◌, List, [], ◌∷◌, ℕ, zero, suc, ◌-◌, min, get_or, set, replicate, eqb, ltb}
use Rattle.network.specs.Network.{When, at, never, Network}

-- the earlier of two
unfoldable pub earlier : When → When → When
earlier (at s) (at t) = at (min s t)
earlier (at s) never = at s
earlier never b = b

-- ready behind contact c, from when it is ready before it
unfoldable pub behind : Network → ℕ → When → When
behind N c (at t) = N.step c t
behind N c never = never

-- one contact tried: the node that it reaches may be reached earlier by it, from where the layer before has its first node
unfoldable pub relax : Network → List When → ℕ → List When → List When
unfolding earlier behind
relax N before c now = set now (N.to c) (earlier (get_or now (N.to c) never) (behind N c (get_or before (N.from c) never)))

-- the contacts 1 to n tried, one after the other
unfoldable pub relaxed : Network → List When → ℕ → List When
unfolding relax
relaxed N before zero = before
relaxed N before (suc n) = relax N before (suc n) (relaxed N before n)

unfoldable pub layer : Network → ℕ → List When
unfolding relaxed
layer N zero = set (replicate N.nodes never) N.source (at N.begin)
layer N (suc k) = relaxed N (layer N k) N.contacts

-- when the file can be at node v at the earliest, over at most k contacts
unfoldable pub earliest : Network → ℕ → ℕ → When
unfolding layer
earliest N k v = get_or (layer N k) v never

unfoldable pub delivery : Network → ℕ → When
unfolding earliest
delivery N v = earliest N (N.nodes - 1) v

unfoldable pub same : When → When → Bool
same (at s) (at t) = eqb s t
same (at s) never = false
same never (at t) = false
same never never = true

-- the first of k, k + 1, .., k + more at which node v is reached at that time
unfoldable pub first_from : Network → ℕ → When → ℕ → ℕ → ℕ
unfolding earliest same
first_from N v w k zero = k
first_from N v w k (suc more) = let later = first_from N v w (suc k) more in cond (same (earliest N k v) w) k later

-- over how many contacts at the least node v is reached at its delivery
unfoldable pub fewest : Network → ℕ → ℕ
unfolding delivery first_from
fewest N v = first_from N v (delivery N v) zero (N.nodes - 1)

-- a time below the limit
unfoldable pub is_within : When → ℕ → Bool
is_within (at t) limit = ltb t limit
is_within never limit = false

-- contact c leads to node v below the limit, if its first node is reached as `before` has it
unfoldable pub leads : Network → List When → ℕ → ℕ → ℕ → Bool
unfolding behind is_within
leads N before v limit c = eqb (N.to c) v && is_within (behind N c (get_or before (N.from c) never)) limit

-- the lowest contact of c, c + 1, .., c + more - 1 that leads there, or 0
unfoldable pub lowest_from : Network → List When → ℕ → ℕ → ℕ → ℕ → ℕ
unfolding leads
lowest_from N before v limit c zero = zero
lowest_from N before v limit c (suc more) =
    let later = lowest_from N before v limit (suc c) more in cond (leads N before v limit c) c later

unfoldable pub lowest : Network → List When → ℕ → ℕ → ℕ
unfolding lowest_from
lowest N before v limit = lowest_from N before v limit 1 N.contacts

-- the last k contacts before `rest`, worked back from node v, which must be reached below the limit
unfoldable pub worked_back : Network → ℕ → ℕ → ℕ → List ℕ → List ℕ
unfolding lowest layer
worked_back N zero v limit rest = rest
worked_back N (suc k) v limit rest =
    let c = lowest N (layer N k) v limit in worked_back N k (N.from c) (N.back c limit) (c ∷ rest)

-- the chain chosen to node v, which is reached at time r at the earliest
unfoldable pub chosen : Network → ℕ → ℕ → List ℕ
unfolding fewest worked_back
chosen N v r = worked_back N (fewest N v) v (suc r) []
