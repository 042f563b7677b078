-- What is answered from a service is as it was before ranges could change during a pass, where each contact is covered by a single range or not ranged.
--     maps_agree             functions that agree on each element of a list
--     service_as_before      the service is the one that the light times by a single range make
-- Assumes nothing.
use mathlib.Core.List.{List, [], ◌∷◌, map}
use mathlib.Core.Logic.{◌⊎◌}
use mathlib.Core.Path.{◌≡◌, refl, ap₂}
use Prim.Native.Nat.{ℕ}
use Rattle.plan.specs.Light.{Ranged, light_of}
use Rattle.plan.specs.Plan.{Plan, Each, SomeOf, Valid}
use Rattle.plan.specs.Single.{Covers, single_light}
use Rattle.plan.proofs.Before.{light_as_before}
use Rattle.plan.proofs.Tests.{each_head, each_tail}
use Rattle.service.specs.Service.{lefts_from, service_of}

pub maps_agree : {A B : Type 0} (f g : A → B) (xs : List A) → Each (λ x. f x ≡ g x) xs → map f xs ≡ map g xs
maps_agree f g [] same = refl
maps_agree {A} {B} f g (x ∷ xs) same =
    ap₂ (λ (y : B) (ys : List B). y ∷ ys) (each_head (λ z. f z ≡ g z) x xs same) (maps_agree f g xs (each_tail (λ z. f z ≡ g z) x xs same))

pub service_as_before : (p : Plan) → Valid p → Each (λ c. SomeOf (λ r. Covers r c) p.ranges ⊎ (Ranged p.ranges c → ⊥)) p.contacts → (used : ℕ → ℕ)
    → service_of p used ≡ record { contacts = p.contacts; lights = map (single_light p.ranges) p.contacts; lefts = lefts_from used 1 p.contacts }
unfolding service_of Each
service_as_before p v told used = λ i. record { contacts = p.contacts; lights = lights_same i; lefts = lefts_from used 1 p.contacts }
  where
    lights_same : map (light_of p.ranges) p.contacts ≡ map (single_light p.ranges) p.contacts
    lights_same =
        maps_agree (light_of p.ranges) (single_light p.ranges) p.contacts
        (λ blank k h. light_as_before p v _ (v.contacts_good blank k h).starts (told blank k h))
