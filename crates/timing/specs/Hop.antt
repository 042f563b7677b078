-- One hop, as 'Timing a chain' of the request has it: a file sent over one contact.
--     consumed, sent      the bytes and the milliseconds that a file takes on a contact
--     hopped              when it is ready at the other end, if it is ready before the contact at t
--     is_barred            the exclusion: a contact from the source to an excluded neighbour
-- Assumes nothing.
use Rattle.std.specs.Prelude.{cond, Bool, ◌&&◌, ℕ, ◌+◌, ◌-◌, ◌*◌, ◌/◌, ◌%◌, ◌^◌, max, leb, eqb, Option, Some, None}
use Rattle.units.specs.declared.Ask.{Ask}
use Rattle.plan.specs.declared.rows.Contact.{Contact}
use Rattle.units.specs.declared.Millis.{Millis}

-- n over d, rounded up: the least whole number that is enough (proofs/Rounding.antt)
unfoldable pub rounded_up : ℕ → ℕ → ℕ
rounded_up n d = (n + (d - 1)) / d

-- the consumption of a file: its size, three for each whole hundred bytes of it, and three hundredths of the rest, rounded up
unfoldable pub consumed : ℕ → ℕ
unfolding rounded_up
consumed size = size + 3 * (size / 100) + rounded_up (3 * (size % 100)) 100

-- its sending time on a contact: consumption × 1000 / rate, rounded up
unfoldable pub sent : ℕ → ℕ → ℕ
unfolding consumed
sent size rate = rounded_up (consumed size * 1000) rate

-- it starts at the later of ready and the contact's start
abbrev pub start_on : Contact → ℕ → ℕ
start_on c t = max t c.start.0

-- it fits if start plus sending time is at most the contact's end and its consumption is at most what is left on the contact; it is then ready at
-- the other end at start plus sending time plus light time
unfoldable pub hopped : Option Millis → ℕ → Contact → ℕ → ℕ → Option Millis
unfolding sent
hopped (Some light) left c size t =
    cond (leb (start_on c t + sent size c.rate) c.end.0 && leb (consumed size) left)
    (Some (record { 0 = start_on c t + sent size c.rate + light.0 })) None
hopped None left c size t = None

-- excluded neighbours are a number: 1 for node 1, 2 for node 2, 4 for node 3 and so on
unfoldable pub is_excluded : ℕ → ℕ → Bool
is_excluded excluded node = eqb (excluded / 2 ^ (node - 1) % 2) 1

-- the contact goes from the source to an excluded neighbour
unfoldable pub is_barred : Ask → Contact → Bool
unfolding is_excluded
is_barred ask c = eqb c.from.0 ask.source.0 && is_excluded ask.excluded c.to.0
