-- That tables hold a sound service has one proof at most, as a fact that a struct keeps must have. A reader of the promises may skip it.
-- Assumes nothing.
use Rattle.std.specs.Prelude.{List, ℕ, Some, None, Option}
use Rattle.std.specs.Coded.{Unit-prop, le_prop}
use Rattle.std.proofs.Props.{props}
use Rattle.units.specs.declared.Millis.{Millis}
use Rattle.plan.specs.Props.{each_prop, good_contact_prop}
use Rattle.service.specs.Service.{Service, Sound, LightGood}
use Rattle.service.specs.Tables.{IsService}

pub light_good_prop : (l : Option Millis) → IsProp (LightGood l)
light_good_prop (Some l) = le_prop
light_good_prop None = Unit-prop

pub sound_prop : (s : Service) → IsProp (Sound s)
sound_prop s = Prim.hlevel (each_prop, good_contact_prop, light_good_prop, props)

pub is_service_prop : (contacts : List ℕ) (m : ℕ) (lights lefts : List ℕ) → IsProp (IsService contacts m lights lefts)
is_service_prop contacts m lights lefts = Prim.hlevel (sound_prop, props)
