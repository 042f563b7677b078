-- The answers of lines.
--     HasOneAnswer           a line has one answer at the most, and leaves one state
--     prints_determined      so have lines, where a line has
--     prints_append          the answers of lines and of those behind them
--     prints_front           the first of the lines print no more bytes
--     prints_nothing         no lines, no bytes
--     begun_room             where more lines are begun, behind fewer of them the longest answer has room
-- Assumes nothing.
use mathlib.Core.List.{List, [], ◌∷◌, ◌++◌, append_assoc}
use mathlib.Core.Path.{◌≡◌, refl, sym, ap, ap₂, ◌∙◌, subst}
use Prim.Native.Nat.{ℕ, zero, suc, ◌+◌, ◌≤◌, ◌<◌, zero-le}
use native.Mathlib.Omega.{arith}
use lib.ListN.{length, take, length-append}
use lib.Seq.{take_at, take-append-le}
use Rattle.text.specs.Lines.{Line}
use Rattle.desk_lines.specs.Through.{Prints, none, next, Begun, nothing, last}

module _ {S : Type 0} (Says : S → Line → ℕ → List ℕ → S → Type 0) where
  pub record HasOneAnswer : Type 0 where
    pub same : {s t u : S} {l : Line} {n : ℕ} {a b : List ℕ} → Says s l n a t → Says s l n b u → (a ≡ b) × (t ≡ u)

  pub record Front (s : S) (n : ℕ) (ls : List Line) (a : List ℕ) : Type 0 where
    pub state : S
    pub bytes : List ℕ
    pub prints : Prints Says s n ls bytes state
    pub fewer : length bytes ≤ length a

module _ {S : Type 0} {Says : S → Line → ℕ → List ℕ → S → Type 0} where
  pub prints_append : {s t u : S} {n n' : ℕ} {ls ks : List Line} {a b : List ℕ} → Prints Says s n ls a t → n' ≡ n + length ls → Prints Says t n' ks b u
      → Prints Says s n (ls ++ ks) (a ++ b) u
  prints_append {t} {u} {n} {n'} {ks} {b} none e q = let same : n' ≡ n = omega arith in subst (λ (x : ℕ). Prints Says t x ks b u) same q
  prints_append {s} {u} {n} {n'} {ks} {b} (next {l} {ls} {one} {others} x p) e q =
      subst (λ (bs : List ℕ). Prints Says s n (l ∷ (ls ++ ks)) bs u) (sym (append_assoc one others b)) (next x (prints_append p (omega arith) q))

  pub prints_nothing : {s t : S} {n : ℕ} {ls : List Line} {a : List ℕ} → Prints Says s n ls a t → length ls ≡ 0 → length a ≡ 0
  prints_nothing none h = refl
  prints_nothing (next x p) h = absurd (omega arith)

  pub prints_front : (j : ℕ) {s t : S} {n : ℕ} {ls : List Line} {a : List ℕ} → Prints Says s n ls a t → Front Says s n (take j ls) a
  prints_front zero {s} p = record { state = s; bytes = []; prints = none; fewer = zero-le }
  prints_front (suc j) {s} none = record { state = s; bytes = []; prints = none; fewer = zero-le }
  prints_front (suc j) (next {one} {others} x p) =
      let f = prints_front j p in
      record {
        state = f.state;
        bytes = one ++ f.bytes;
        prints = next x f.prints;
        fewer = omega (arith, f.fewer, length-append one f.bytes, length-append one others);
      }

  module _ (one_answer : HasOneAnswer Says) where
    pub prints_determined : {s t u : S} {n : ℕ} {ls : List Line} {a b : List ℕ} → Prints Says s n ls a t → Prints Says s n ls b u → (a ≡ b) × (t ≡ u)
    prints_determined none none = (refl, refl)
    prints_determined {u} (next x p) (next {t} {n} {ls} {others} y q) =
        let same = one_answer.same x y in
        let on = prints_determined p (subst (λ (v : S). Prints Says v (suc n) ls others u) (sym same.1) q) in
        (ap₂ (λ (a b : List ℕ). a ++ b) same.0 on.0, on.1)

    -- where more lines are begun, behind these the longest answer has room
    pub begun_room : {s t : S} {n longest room : ℕ} {xs ys : List Line} {a : List ℕ} (rest more : List Line) → Begun Says longest s n room ys
        → Prints Says s n xs a t → xs ++ rest ≡ ys ++ more → length xs < length ys → length a + longest ≤ room
    begun_room rest more nothing q e h = absurd (omega arith)
    begun_room {s} {n} {xs} {a} rest more (last {ls} {bytes} l p roomy) q e h =
        let few : length xs ≤ length ls = omega (arith, length-append ls (l ∷ [])) in
        let front : take (length xs) ls ≡ xs =
        sym (take-append-le (length xs) ls ((l ∷ []) ++ more) few) ∙ ap (take (length xs)) (sym (append_assoc ls (l ∷ []) more) ∙ sym e)
        ∙ take_at xs rest (length xs) refl
        in
        let f = prints_front (length xs) p in
        let same = prints_determined (subst (λ (zs : List Line). Prints Says s n zs f.bytes f.state) front f.prints) q in
        omega (arith, f.fewer, ap length same.0)
