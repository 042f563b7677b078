-- The executable model of a chain: what the code computes, step by step. A reader of the promises may skip it.
--     step_over      when the file is ready behind a contact, or never
--     carry         when a chain delivers, or never
--     back_over      the step back over a contact: ready below it, the file is ready behind the contact below the limit given
-- Assumes nothing.
use Rattle.std.specs.Prelude.{Bool, not, ◌&&◌, cond, List, [], ◌∷◌, ℕ, suc, ◌+◌, ◌-◌, min, leb, ltb, eqb, length, Option, Some, None}
use Rattle.units.specs.declared.Ask.{Ask}
use Rattle.plan.specs.declared.rows.Contact.{Contact}
use Rattle.units.specs.declared.Millis.{Millis}
use Rattle.service.specs.Service.{Service, contact_of, light_in, left_in}
use Rattle.timing.specs.Hop.{consumed, sent, hopped, is_barred}

-- the number names a contact of the plan that is from node u and not barred
unfoldable pub goes_on : Service → Ask → ℕ → ℕ → Bool
goes_on p ask u c = leb 1 c && leb c (length p.contacts) && eqb (contact_of p c).from.0 u && not (is_barred ask (contact_of p c))

-- ready behind contact c, from when the file is ready before it
unfoldable pub over_contact : Service → Ask → ℕ → ℕ → Option Millis
unfolding hopped
over_contact p ask c t = hopped (light_in p c) (left_in p c) (contact_of p c) ask.size t

-- the same from node u, where the contact may not go on
unfoldable pub step_over : Service → Ask → ℕ → ℕ → ℕ → Option Millis
unfolding goes_on over_contact
step_over p ask u t c = cond (goes_on p ask u c) (over_contact p ask c t) None

-- a time that is reached goes on
abbrev pub onward : Option Millis → (ℕ → Option Millis) → Option Millis
onward (Some s) next = next s.0
onward None next = None

-- the file, ready at node u at time t, over the chain to the destination
unfoldable pub carry : Service → Ask → ℕ → ℕ → List ℕ → Option Millis
unfolding goes_on over_contact
carry p ask u t [] = cond (eqb u ask.destination.0) (Some (record { 0 = t })) None
carry p ask u t (c ∷ cs) = cond (goes_on p ask u c) (onward (over_contact p ask c t) (λ s. carry p ask (contact_of p c).to.0 s cs)) None

-- from the ask's source and time
unfoldable pub delivery_of : Service → Ask → List ℕ → Option Millis
unfolding carry
delivery_of p ask chain = carry p ask ask.source.0 ask.time.0 chain

-- ready before the contact below this, and only then, the file is ready behind it below the limit; 0 where it never is
unfoldable pub back_over : Option Millis → ℕ → Contact → ℕ → ℕ → ℕ
unfolding sent
back_over (Some light) left c size limit =
    let b = min (suc c.end.0 - sent size c.rate) (limit - (sent size c.rate + light.0)) in
    cond (ltb c.start.0 b && leb (consumed size) left) b 0
back_over None left c size limit = 0
