-- The executable model of a cause: what the code computes, step by step. A reader of the promises may skip it.
--     judged        a contact of a chain, judged as it is reached
--     cause_of       why a chain is turned down
-- Assumes nothing.
use Rattle.std.specs.Prelude.{Bool, true, false, not, ◌&&◌, List, [], ◌∷◌, ℕ, ◌+◌, leb, eqb, length, Option, Some, None, Result, Ok, Err}
use Rattle.units.specs.declared.Ask.{Ask}
use Rattle.units.specs.declared.Refusal.{Refusal}
use Rattle.units.specs.declared.Refusal.TheVariants.{NoContact, NotJoined, ExcludedNode, NotRanged, NotFitting, EndsElsewhere}
use Rattle.units.specs.declared.Millis.{Millis}
use Rattle.service.specs.Service.{Service, contact_of, light_in}
use Rattle.timing.specs.Hop.{is_barred}
use Rattle.timing.specs.Model.{over_contact}

-- a fault where the test is not passed, and else what the later tests say
abbrev pub unless : Bool → Refusal → Result Millis Refusal → Result Millis Refusal
unless true why later = later
unless false why later = Err why

-- by a light time, and by when the file is ready behind the contact
abbrev pub by_hop : ℕ → Option Millis → Option Millis → Result Millis Refusal
by_hop i None a = Err (NotRanged i)
by_hop i (Some l) (Some s) = Ok s
by_hop i (Some l) None = Err (NotFitting i)

-- contact c, reached at time t, the i-th of the chain: ranged and fitting
unfoldable pub judged_hop : Service → Ask → ℕ → ℕ → ℕ → Result Millis Refusal
judged_hop p ask t i c = by_hop i (light_in p c) (over_contact p ask c t)

-- reached at node u: from there, and not to an excluded neighbour
unfoldable pub judged_named : Service → Ask → ℕ → ℕ → ℕ → ℕ → Result Millis Refusal
judged_named p ask u t i c =
    unless (eqb (contact_of p c).from.0 u) (NotJoined i)
    (unless (not (is_barred ask (contact_of p c))) (ExcludedNode i)
    (judged_hop p ask t i c))

-- any number
unfoldable pub judged : Service → Ask → ℕ → ℕ → ℕ → ℕ → Result Millis Refusal
judged p ask u t i c = unless (leb 1 c && leb c (length p.contacts)) (NoContact i) (judged_named p ask u t i c)

-- a contact that is good is passed
abbrev pub cause_by : Result Millis Refusal → (ℕ → Refusal) → Refusal
cause_by (Ok s) next = next s.0
cause_by (Err why) next = why

-- the file at node u at time t, i contacts passed
unfoldable pub cause_from : Service → Ask → ℕ → ℕ → ℕ → List ℕ → Refusal
cause_from p ask u t i [] = EndsElsewhere i
cause_from p ask u t i (c ∷ cs) = cause_by (judged p ask u t (i + 1) c) (λ s. cause_from p ask (contact_of p c).to.0 s (i + 1) cs)

unfoldable pub cause_of : Service → Ask → List ℕ → Refusal
cause_of p ask chain = cause_from p ask ask.source.0 ask.time.0 0 chain
