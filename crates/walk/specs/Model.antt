-- The executable model of a walk: what the code computes, step by step. A reader of the promises may skip it.
--     limit_before   last call as a limit: ready below it, the file is ready behind the chain below the limit given
--     room_from      the greatest size carried, found bit by bit
--     walk_model     the answer
-- Assumes nothing.
use Rattle.std.specs.Prelude.{Bool, false, ◌&&◌, cond, List, [], ◌∷◌, ℕ, zero, suc, ◌+◌, ◌-◌, ◌^◌, leb, ltb, get_or, Option, Some, None, Result, Ok, Err}
use Rattle.units.specs.Limits.{most_size}
use Rattle.units.specs.declared.Ask.{Ask}
use Rattle.units.specs.declared.Refusal.TheVariants.{TooLate}
use Rattle.service.specs.Service.{Service, contact_of, light_in, left_in}
use Rattle.units.specs.declared.Millis.{Millis}
use Rattle.timing.specs.Chain.{ask_of}
use Rattle.timing.specs.Hop.{start_on}
use Rattle.timing.specs.Model.{back_over, delivery_of}
use Rattle.walk_cause.specs.Model.{cause_of}
use Rattle.walk.specs.declared.figures.Figures.{Figures}
use Rattle.units.specs.declared.Refusal.{Refusal}

-- the step back over the contact of a number, for a file of that size
abbrev pub limit_over : Service → ℕ → ℕ → ℕ → ℕ
limit_over p size c limit = back_over (light_in p c) (left_in p c) (contact_of p c) size limit

-- the same over a chain, worked back from its last contact
unfoldable pub limit_before : Service → ℕ → List ℕ → ℕ → ℕ
unfolding back_over
limit_before p size [] limit = limit
limit_before p size (c ∷ cs) limit = limit_over p size c (limit_before p size cs limit)

abbrev pub is_before : Option Millis → ℕ → Bool
is_before (Some s) limit = ltb s.0 limit
is_before None limit = false

-- the chain carries a file of n bytes in time
unfoldable pub carries_size : Service → Ask → List ℕ → ℕ → Bool
unfolding delivery_of
carries_size p ask chain n = is_before (delivery_of p (ask_of ask n) chain) ask.deadline.0

-- n with a bit added, where that is still carried
abbrev pub raised : Service → Ask → List ℕ → ℕ → ℕ → ℕ
raised p ask chain n bit = cond (leb (n + bit) most_size && carries_size p ask chain (n + bit)) (n + bit) n

-- a size with its lower b bits still to be found
unfoldable pub room_from : Service → Ask → List ℕ → ℕ → ℕ → ℕ
unfolding carries_size
room_from p ask chain n zero = n
room_from p ask chain n (suc b) = room_from p ask chain (raised p ask chain n (2 ^ b)) b

-- how many bits a size has
abbrev pub size_bits : ℕ
size_bits = 30

unfoldable pub room_of : Service → Ask → List ℕ → ℕ
unfolding room_from
room_of p ask chain = room_from p ask chain 0 size_bits

-- the figures of a chain that delivers at r
unfoldable pub figures_of : Service → Ask → List ℕ → ℕ → Figures
figures_of p ask chain r = record {
  delivery = record { 0 = r };
  opens = record { 0 = start_on (contact_of p (get_or chain 0 0)) ask.time.0 };
  last_call = record { 0 = limit_before p ask.size chain ask.deadline.0 - 1 };
  room = room_of p ask chain;
}

-- what a walk answers, from when the chain delivers
abbrev pub walked_of : Service → Ask → List ℕ → Option Millis → Result Figures Refusal
walked_of p ask chain (Some r) = cond (ltb r.0 ask.deadline.0) (Ok (figures_of p ask chain r.0)) (Err TooLate)
walked_of p ask chain None = Err (cause_of p ask chain)

unfoldable pub walk_model : Service → Ask → List ℕ → Result Figures Refusal
walk_model p ask chain = walked_of p ask chain (delivery_of p ask chain)
