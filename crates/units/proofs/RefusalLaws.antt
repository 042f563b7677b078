-- The request's number and place determine a refusal. A new number is one line of `numbered` and one of `refusal_told`.
--     refusal_told           the refusal of a number and a place is the one that has them
--     refusal_determined     two refusals that have one number and one place are the same
--     refusal_numbered       no refusal has the number 0, which stands for success
-- Assumes nothing.
use mathlib.Core.Bool.{cond}
use mathlib.Core.List.{List, [], ◌∷◌}
use mathlib.Core.Option.{Option, none, some}
use mathlib.Core.Path.{◌≡◌, refl, sym, ap, ◌∙◌}
use Prim.Native.Nat.{ℕ}
use native.Mathlib.Omega.{arith}
use lib.Dec.{eqb}
use Rattle.units.specs.Refusals.{number_of, place_of}
use Rattle.units.specs.declared.Refusal.{Refusal}
use Rattle.units.specs.declared.Refusal.TheVariants.{LongText, NoHeader, LineShape, LineValue, AfterRange, TooMany, LineOverlap, FewRows, NoPlan, ShortOutput, AskValue, SameNode, NoChain, TooLate, ShortChain, AskShape, NoContact, NotJoined, ExcludedNode, NotRanged, NotFitting, EndsElsewhere, BadClass, FullBook, NotOpen}

-- each number of the request's table, with the refusal that it stands for at a place
numbered : ℕ → List (ℕ × Refusal)
numbered place =
    (1, LongText)
    ∷ (2, NoHeader)
    ∷ (3, LineShape place)
    ∷ (4, LineValue place)
    ∷ (5, AfterRange place)
    ∷ (6, TooMany place)
    ∷ (7, LineOverlap place)
    ∷ (8, FewRows)
    ∷ (9, NoPlan)
    ∷ (10, ShortOutput place)
    ∷ (11, AskValue)
    ∷ (12, SameNode)
    ∷ (13, NoChain)
    ∷ (14, TooLate)
    ∷ (15, ShortChain)
    ∷ (17, AskShape place)
    ∷ (18, NoContact place)
    ∷ (19, NotJoined place)
    ∷ (20, ExcludedNode place)
    ∷ (21, NotRanged place)
    ∷ (22, NotFitting place)
    ∷ (23, EndsElsewhere place)
    ∷ (24, BadClass)
    ∷ (25, FullBook)
    ∷ (26, NotOpen)
    ∷ []

-- the first of that number
find : ℕ → List (ℕ × Refusal) → Option Refusal
find number [] = none
find number (row ∷ rows) = cond (eqb number row.0) (some row.1) (find number rows)

-- the refusal of a number and a place, where the number is in the table
pub refusal_of : ℕ → ℕ → Option Refusal
refusal_of number place = find number (numbered place)

pub refusal_told : (why : Refusal) → refusal_of (number_of why) (place_of why) ≡ some why
unfolding refusal_of find numbered
refusal_told LongText = refl
refusal_told NoHeader = refl
refusal_told (LineShape place) = refl
refusal_told (LineValue place) = refl
refusal_told (AfterRange place) = refl
refusal_told (TooMany place) = refl
refusal_told (LineOverlap place) = refl
refusal_told FewRows = refl
refusal_told NoPlan = refl
refusal_told (ShortOutput place) = refl
refusal_told AskValue = refl
refusal_told SameNode = refl
refusal_told NoChain = refl
refusal_told TooLate = refl
refusal_told ShortChain = refl
refusal_told (AskShape place) = refl
refusal_told (NoContact place) = refl
refusal_told (NotJoined place) = refl
refusal_told (ExcludedNode place) = refl
refusal_told (NotRanged place) = refl
refusal_told (NotFitting place) = refl
refusal_told (EndsElsewhere place) = refl
refusal_told BadClass = refl
refusal_told FullBook = refl
refusal_told NotOpen = refl

pub refusal_determined : (a b : Refusal) → number_of a ≡ number_of b → place_of a ≡ place_of b → a ≡ b
refusal_determined a b n p =
    let told : some a ≡ some b = sym (refusal_told a) ∙ (λ i. refusal_of (n i) (p i)) ∙ refusal_told b in
    cc

none_at_0 : (place : ℕ) → refusal_of 0 place ≡ none
unfolding refusal_of find numbered
none_at_0 place = refl

pub refusal_numbered : (why : Refusal) → number_of why ≡ 0 → ⊥
refusal_numbered why e =
    let told : none ≡ some why = sym (none_at_0 (place_of why)) ∙ ap (λ n. refusal_of n (place_of why)) (sym e) ∙ refusal_told why in
    let z : ◌≡◌ {A = ℕ} 0 1 = cc in omega arith
