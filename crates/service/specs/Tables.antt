-- How lent words hold a service: a table of contacts as a plan has it, and beside it a table of light times and one of the bytes that are left. Only
-- functions inside the calls cite it: a reader of the promises may skip it.
--     light_at, left_at      what these say of a contact, at a place counted from 0
--     served               the service that the three tables hold
--     IsService            they hold a sound one
-- Assumes nothing.
use Rattle.std.specs.Prelude.{cond, List, ℕ, ◌*◌, ◌≤◌, eqb, length, get_or, Option, Some, None}
use Rattle.units.specs.declared.Millis.{Millis}
use Rattle.plan.specs.Tables.{words, contact_at, rows_from}
use Rattle.service.specs.Service.{Service, Sound}

-- the word of a contact that has no light time
unfoldable pub unranged : ℕ
unranged = 4_294_967_295

-- the light time that a word stands for
unfoldable pub light_word : ℕ → Option Millis
light_word w = cond (eqb w unranged) None (Some (record { 0 = w }))

abbrev pub light_at : List ℕ → ℕ → Option Millis
light_at lights k = light_word (get_or lights k 0)

abbrev pub left_at : List ℕ → ℕ → ℕ
left_at lefts k = get_or lefts k 0

-- the service that m rows of contacts, and as many words of each table, hold
unfoldable pub served : List ℕ → ℕ → List ℕ → List ℕ → Service
unfolding rows_from
served contacts m lights lefts = record {
  contacts = rows_from (contact_at contacts) 0 m;
  lights = rows_from (light_at lights) 0 m;
  lefts = rows_from (left_at lefts) 0 m;
}

-- the tables have the rows counted, and hold a sound service
pub record IsService (contacts : List ℕ) (m : ℕ) (lights lefts : List ℕ) : Type 0 where
  pub contacts_lent : m * words ≤ length contacts
  pub lights_lent : m ≤ length lights
  pub lefts_lent : m ≤ length lefts
  pub sound : Sound (served contacts m lights lefts)
