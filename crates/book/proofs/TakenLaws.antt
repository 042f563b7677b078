-- What a booking takes of a contact, in the request's words: its consumption, once, in its own class and lower ones, where its chain names the contact.
--     names_exactly      a chain names a contact exactly where it holds its number
--     taken_own          its consumption, from its own class and lower ones, where its chain names the contact
--     taken_higher       nothing from a higher one
--     taken_elsewhere    nothing where its chain does not name the contact
--     taken_amount       so never more than its consumption
--     taken_class        and no more from a higher class than from a lower one
--     used_one, used_joined      what bookings use is what each takes, added up
-- Assumes nothing.
use mathlib.Core.Bool.{Bool, true, ◌&&◌, cond}
use mathlib.Core.List.{List, [], ◌∷◌, ◌++◌}
use mathlib.Core.Logic.{◌⊎◌, inl, inr, ⊎_elim, ◌↔◌}
use mathlib.Core.Path.{◌≡◌, refl}
use Prim.Native.Nat.{ℕ, zero, suc, ◌+◌, ◌≤◌, ◌<◌}
use native.Mathlib.Nat.{not-suc-le-zero, le_of_suc-le-suc, not-le_of_lt}
use native.Mathlib.Omega.{arith}
use lib.Dec.{leb}
use lib.ListN.{length, get_or}
use Rattle.plan.specs.Plan.{SomeOf}
use Rattle.plan.specs.Verdict.{Verdict, holds, fails}
use Rattle.plan.proofs.Sharing.{some_here, some_later}
use Rattle.plan.proofs.Verdicts.{tells_le, tells_eq, both, either, restated, true_holds, holds_true}
use Rattle.book.specs.Book.{Booking, names, taken, used}

-- the contact's number stands in the chain
abbrev pub StandsIn : List ℕ → ℕ → Type 0
StandsIn chain c = SomeOf (λ (x : ℕ). x ≡ c) chain

none_stands : (c : ℕ) → StandsIn [] c → ⊥
none_stands c s = not-suc-le-zero s.in_list

first_or_later : (x : ℕ) (xs : List ℕ) (c : ℕ) → StandsIn (x ∷ xs) c → (x ≡ c) ⊎ StandsIn xs c
first_or_later x xs c s = go s.place s.in_list s.holds_there
  where
    go : (k : ℕ) → k < length (x ∷ xs) → ((blank : ℕ) → get_or (x ∷ xs) k blank ≡ c) → (x ≡ c) ⊎ StandsIn xs c
    go zero h e = inl (e 0)
    go (suc k) h e = inr (record { place = k; in_list = le_of_suc-le-suc h; holds_there = e })

names_tells : (chain : List ℕ) (c : ℕ) → Verdict (StandsIn chain c) (names chain c)
unfolding names
names_tells [] c = fails (none_stands c)
names_tells (x ∷ xs) c =
    restated (λ w. ⊎_elim (λ e. some_here (λ (y : ℕ). y ≡ c) x xs e) (λ s. some_later (λ (y : ℕ). y ≡ c) x xs s) w) (first_or_later x xs c)
    (either (tells_eq x c) (names_tells xs c))

pub names_exactly : (chain : List ℕ) (c : ℕ) → (names chain c ≡ true) ↔ StandsIn chain c
names_exactly chain c = (λ e. true_holds (names_tells chain c) e, λ s. holds_true (names_tells chain c) s)

module _ (b : Booking) (class c : ℕ) where
  taken_where : Verdict ((class ≤ b.class) × StandsIn b.chain c) (leb class b.class && names b.chain c)
  taken_where = both (tells_le class b.class) (names_tells b.chain c)

  pub taken_own : class ≤ b.class → StandsIn b.chain c → taken b class c ≡ b.consumption
  unfolding taken
  taken_own h s = go (leb class b.class && names b.chain c) taken_where
    where
      go : (x : Bool) → Verdict ((class ≤ b.class) × StandsIn b.chain c) x → cond x b.consumption 0 ≡ b.consumption
      go _ (holds w) = refl
      go _ (fails n) = absurd (n (h, s))

  taken_nothing : ((class ≤ b.class) × StandsIn b.chain c → ⊥) → taken b class c ≡ 0
  unfolding taken
  taken_nothing f = go (leb class b.class && names b.chain c) taken_where
    where
      go : (x : Bool) → Verdict ((class ≤ b.class) × StandsIn b.chain c) x → cond x b.consumption 0 ≡ 0
      go _ (holds w) = absurd (f w)
      go _ (fails n) = refl

  pub taken_higher : b.class < class → taken b class c ≡ 0
  taken_higher h = taken_nothing (λ w. not-le_of_lt h w.0)

  pub taken_elsewhere : (StandsIn b.chain c → ⊥) → taken b class c ≡ 0
  taken_elsewhere f = taken_nothing (λ w. f w.1)

  pub taken_amount : taken b class c ≤ b.consumption
  taken_amount = go _ taken_where
    where
      go : (x : Bool) → Verdict ((class ≤ b.class) × StandsIn b.chain c) x → taken b class c ≤ b.consumption
      go _ (holds w) = omega (arith, taken_own w.0 w.1)
      go _ (fails n) = omega (arith, taken_nothing n)

pub taken_class : (b : Booking) (class class' c : ℕ) → class ≤ class' → taken b class' c ≤ taken b class c
taken_class b class class' c h = go _ (taken_where b class' c)
  where
    go : (x : Bool) → Verdict ((class' ≤ b.class) × StandsIn b.chain c) x → taken b class' c ≤ taken b class c
    go _ (holds w) = omega (arith, taken_own b class c (omega (arith, w.0)) w.1, taken_own b class' c w.0 w.1)
    go _ (fails n) = omega (arith, taken_nothing b class' c n)

module _ (class c : ℕ) where
  pub used_one : (b : Booking) → used (b ∷ []) class c ≡ taken b class c
  unfolding used
  used_one b = omega arith

  pub used_joined : (xs ys : List Booking) → used (xs ++ ys) class c ≡ used xs class c + used ys class c
  unfolding used
  used_joined [] ys = omega arith
  used_joined (x ∷ xs) ys = omega (arith, used_joined xs ys)
