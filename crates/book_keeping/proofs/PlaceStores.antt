-- The tables with a booking entered, and with a place freed, as the stores that make them.
--     entered_sets, chain_sets, freed_set      each as its stores
--     entered_part                             the four words of a booking, stored at once
-- Assumes nothing.
use mathlib.Core.List.{List, [], ◌∷◌, ◌++◌, append_assoc}
use mathlib.Core.Path.{◌≡◌, sym, ap, ◌∙◌}
use Prim.Native.Nat.{ℕ, ◌+◌, ◌-◌, ◌*◌, ◌≤◌}
use native.Mathlib.Numerals.{add-one}
use native.Mathlib.Omega.{arith}
use borrow.Rule.Slice.PartMut.{put_mid, Post-is}
use lib.ListN.{length, take, drop, set}
use lib.Seq.{sets, sets-eq, set_split}
use Rattle.units.specs.Limits.{most_chain}
use Rattle.book.specs.Book.{Booking}
use Rattle.book.specs.Tables.{place_words, free_mark, open_mark}
use Rattle.book_keeping.specs.Keeping.{entered, entered_chain, freed}

-- the words of a booking in its place
abbrev pub words_of : Booking → List ℕ
words_of b = open_mark ∷ b.class ∷ b.consumption ∷ length b.chain ∷ []

module _ (t : List ℕ) (k : ℕ) (there : k * place_words + place_words ≤ length t) where
  pub entered_sets : (b : Booking) → sets t (k * place_words) (words_of b) ≡ entered t k b
  unfolding entered
  entered_sets b = sets-eq (words_of b) t (k * place_words) there ∙ append_assoc (take (k * place_words) t) (words_of b) (drop (k * place_words + place_words) t)

  pub freed_set : set t (k * place_words) free_mark ≡ freed t k
  unfolding freed
  freed_set =
      set_split t (k * place_words) free_mark (omega arith)
      ∙ ap (λ (n : ℕ). take (k * place_words) t ++ (free_mark ∷ drop n t)) (sym (add-one (k * place_words)))

  -- the four words written into their part of the table
  pub entered_part : (b : Booking) (words : List ℕ) → words ≡ words_of b
      → put_mid (k * place_words) (k * place_words + place_words - k * place_words) t words ≡ entered t k b
  unfolding entered
  entered_part b words e =
      ap (λ (w : List ℕ). put_mid (k * place_words) (k * place_words + place_words - k * place_words) t w) e
      ∙ ap (λ (rest : List ℕ). take (k * place_words) t ++ (words_of b ++ rest)) (Post-is (k * place_words) (k * place_words + place_words) t (omega arith))

pub chain_sets : (u : List ℕ) (k : ℕ) (chain : List ℕ) → k * most_chain + length chain ≤ length u
    → sets u (k * most_chain) chain ≡ entered_chain u k chain
unfolding entered_chain
chain_sets u k chain there = sets-eq chain u (k * most_chain) there ∙ append_assoc (take (k * most_chain) u) chain (drop (k * most_chain + length chain) u)
