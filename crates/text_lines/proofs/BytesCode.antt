-- What the functions over bytes know of the model.
--     find_is                                   where the next mark stands, by how many bytes the library's `take_while` takes
--     find_behind                               the same, of the part from a place on
--     find_past                                 no byte is left from there on: the next mark stands there
--     same_is, same_told, same_unlike           whether two runs of bytes are the same, by the library's `==` on slices
--     number_blank, number_lone, number_is      whether bytes are a number, by the first of them
--     value_is                                  the value of digits, by the library's `fold`
-- Assumes nothing.
use Rattle.std.proofs.Common.{◌≡◌, ℕ, suc, ◌+◌, ◌-◌, ◌*◌, ◌≤◌, Bool, true, false, not, cond, nat_eq, ◌&&◌, eqb, List, [], ◌∷◌, length, take, drop, refl, sym, ap, ◌∙◌, arith, Some, None, slice_get}
use Rattle.std.proofs.Math.ListN.{drop_of_length-le, length-drop}
use lib.Seq.{take_all}
use Rattle.std.specs.List.{position_or_len, list_all, fold}
use Rattle.std.specs.Char.{is_ascii_digit}
use borrow.Author.Tests.{lt-ltb, ne_eqb}
use lib.Pointwise.{pointwise}
use mathlib.Core.Bool.{and-true, and-false}
use Rattle.std.proofs.lemmas.Option.{none-some}
use Rattle.plan.specs.Model.{each}
use Rattle.plan.specs.Verdict.{Verdict, holds, fails}
use Rattle.text.specs.Digits.{nought, value}
use Rattle.text.specs.Model.{up_to, same, is_digit, is_number, capped, capped_from}
use Rattle.text.proofs.Capped.{capped_value_lem}
use Rattle.text.proofs.Shapes.{same_tells}

up_to_is : (mark : ℕ) (bs : List ℕ) → position_or_len (λ b. nat_eq b mark) bs ≡ up_to mark bs
unfolding up_to
up_to_is mark [] = refl
up_to_is mark (b ∷ bs) =
    elim (eqb b mark) as (λ e. cond (not e) (1 + position_or_len (λ x. nat_eq x mark) bs) 0 ≡ cond e 0 (suc (up_to mark bs)))
    [ true ↦ refl | false ↦ omega (arith, up_to_is mark bs) ]

pub find_is : (s : List ℕ) (from mark n : ℕ) → n ≡ position_or_len (λ b. nat_eq b mark) (drop from s) → from + n ≡ from + up_to mark (drop from s)
find_is s from mark n e = ap (λ (k : ℕ). from + k) (e ∙ up_to_is mark (drop from s))

pub find_behind : (s : List ℕ) (from mark n : ℕ) → n ≡ position_or_len (λ b. nat_eq b mark) (take (length s - from) (drop from s))
    → from + n ≡ from + up_to mark (drop from s)
find_behind s from mark n e =
    let whole : take (length s - from) (drop from s) ≡ drop from s = take_all (length s - from) (drop from s) (omega (arith, length-drop from s)) in
    find_is s from mark n (e ∙ ap (position_or_len (λ b. nat_eq b mark)) whole)

pub find_past : (s : List ℕ) (from mark : ℕ) → length s ≤ from → from ≡ from + up_to mark (drop from s)
unfolding up_to
find_past s from mark h = rw (drop_of_length-le s h) (omega arith)

pub same_is : (xs ys : List ℕ) → pointwise nat_eq xs ys ≡ same xs ys
unfolding same
same_is [] [] = refl
same_is [] (y ∷ ys) = refl
same_is (x ∷ xs) [] = refl
same_is (x ∷ xs) (y ∷ ys) = ap (λ (b : Bool). eqb x y && b) (same_is xs ys)

-- the two are the same, or not, as `==` answered
pub same_told : (xs ys : List ℕ) {r v : Bool} → r ≡ pointwise nat_eq xs ys → r ≡ v → same xs ys ≡ v
same_told xs ys e t = sym (same_is xs ys) ∙ sym e ∙ t

fails_false : {A : Type 0} {b : Bool} → Verdict A b → (A → ⊥) → b ≡ false
fails_false (holds x) n = absurd (n x)
fails_false (fails x) n = refl

pub same_unlike : (a b : List ℕ) → (length a ≡ length b → ⊥) → same a b ≡ false
same_unlike a b n = fails_false (same_tells a b) (λ e. n (ap length e))

-- ---- numbers

pub number_blank : (s : List ℕ) → None ≡ slice_get s 0 → false ≡ is_number s
unfolding is_number
number_blank [] e = refl
number_blank (b ∷ bs) e = absurd (none-some _ e)

pub number_lone : (s : List ℕ) (d : ℕ) → Some d ≡ slice_get s 0 → d ≡ 48 → eqb (length s) 1 ≡ is_number s
unfolding is_number each
number_lone [] d e z = absurd (none-some _ (sym e))
number_lone (b ∷ []) d e z = let first : b ≡ 48 = cc in rw first
number_lone (b ∷ (x ∷ xs)) d e z =
    let first : b ≡ 48 = cc in
    rw (first, ne_eqb (suc (suc (length xs))) 1 (omega arith), and-false)

digits_are : (s : List ℕ) → list_all is_ascii_digit s ≡ each is_digit s
unfolding each
digits_are [] = refl
digits_are (b ∷ bs) = ap (λ (r : Bool). is_digit b && r) (digits_are bs)

pub number_is : (s : List ℕ) (d : ℕ) → Some d ≡ slice_get s 0 → (d ≡ 48 → ⊥) → list_all is_ascii_digit s ≡ is_number s
unfolding is_number
number_is [] d e n = absurd (none-some _ (sym e))
number_is (b ∷ bs) d e n =
    let first : d ≡ b = cc in
    digits_are (b ∷ bs) ∙ rw (lt-ltb 0 (suc (length bs)) (omega arith), ne_eqb b 48 (λ z. n (first ∙ z)), and-true)

fold_is : (v : ℕ) (s : List ℕ) → fold (λ w b. capped (w * 10 + (b - nought))) v s ≡ capped_from v s
unfolding capped_from
fold_is v [] = refl
fold_is v (d ∷ ds) = fold_is (capped (v * 10 + (d - nought))) ds

pub value_is : (s : List ℕ) → fold (λ w b. capped (w * 10 + (b - nought))) 0 s ≡ capped (value s)
value_is s = fold_is 0 s ∙ capped_value_lem s
