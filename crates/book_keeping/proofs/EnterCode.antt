-- What the code knows that stores a chain beside a place, number by number.
--     Stored                       the first n numbers of the chain are stored
--     stored_none, stored_more     none, and one more
--     stored_all                   all of them
-- Assumes nothing.
use mathlib.Core.List.{List, ◌++◌, append_assoc}
use mathlib.Core.Path.{◌≡◌, sym, ap, ◌∙◌}
use Prim.Native.Nat.{ℕ, ◌+◌, ◌*◌, ◌≤◌, ◌<◌}
use native.Mathlib.Numerals.{add-one}
use native.Mathlib.Omega.{arith}
use lib.ListN.{length, get_or, set, take, drop}
use lib.Seq.{paste, paste-zero, paste-suc, length-paste, take-length}
use Rattle.units.specs.Limits.{most_chain}
use Rattle.book_keeping.specs.Keeping.{entered_chain}

pub record Stored (u : List ℕ) (k : ℕ) (chain : List ℕ) (n : ℕ) (w : List ℕ) : Type 0 where
  pub few : n ≤ length chain
  pub stored : w ≡ paste u (k * most_chain) chain n

module _ (u : List ℕ) (k : ℕ) (chain : List ℕ) where
  pub stored_none : Stored u k chain 0 u
  stored_none = record { few = omega arith; stored = paste-zero u (k * most_chain) chain }

  module _ (there : k * most_chain + length chain ≤ length u) (n : ℕ) (w : List ℕ) (so_far : Stored u k chain n w) where
    stored_long : length w ≡ length u
    stored_long = ap length so_far.stored ∙ length-paste u (k * most_chain) chain n (omega (arith, so_far.few)) so_far.few

    pub stored_more : n < length chain → Stored u k chain (n + 1) (set w (k * most_chain + n) (get_or chain n 0))
    stored_more h = record {
      few = omega arith;
      stored =
          ap (λ (l : List ℕ). set l (k * most_chain + n) (get_or chain n 0)) so_far.stored
          ∙ paste-suc u (k * most_chain) chain n 0 (omega arith) h ∙ ap (paste u (k * most_chain) chain) (sym (add-one n));
    }

    pub stored_all : length chain ≤ n → w ≡ entered_chain u k chain
    unfolding entered_chain
    stored_all h =
        let all : n ≡ length chain = omega (arith, so_far.few) in
        so_far.stored ∙ ap (paste u (k * most_chain) chain) all
        ∙ ap (λ (l : List ℕ). take (k * most_chain) u ++ l ++ drop (k * most_chain + length chain) u) (take-length chain)
        ∙ append_assoc (take (k * most_chain) u) chain (drop (k * most_chain + length chain) u)
