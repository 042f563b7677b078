-- That a word is a time word, and that contacts are in lists, has one proof at most, as a fact that a struct keeps must have. A reader of the promises
-- may skip it.
-- Assumes nothing.
use Rattle.std.specs.Prelude.{List, ℕ, ◌≡◌}
use Rattle.std.specs.Coded.{le_prop}
use Rattle.std.proofs.Props.{props}
use Rattle.std.proofs.Common.{inl, inr, ap}
use native.Mathlib.Omega.{arith}
use Rattle.plan_lists.specs.Lists.{Nexts, Linked}
use Rattle.units.specs.Limits.{last_time, most_light}
use Rattle.search_layers.specs.Words.{never_word, TimeWord, Listed}

never_prop : (w : ℕ) → IsProp (w ≡ never_word)
never_prop w = Prim.hlevel props

pub is_time_word_prop : (w : ℕ) → IsProp (TimeWord w)
unfolding last_time most_light never_word
is_time_word_prop w (inl a) (inl b) = ap inl (le_prop a b)
is_time_word_prop w (inl a) (inr e) = absurd (omega arith)
is_time_word_prop w (inr e) (inl a) = absurd (omega arith)
is_time_word_prop w (inr d) (inr e) = ap inr (never_prop w d e)

pub linked_prop : (key : ℕ → ℕ) (n : ℕ) (heads nexts : List ℕ) → IsProp (Linked key n heads nexts)
unfolding Nexts
linked_prop key n heads nexts = Prim.hlevel props

pub listed_prop : (contacts : List ℕ) (m : ℕ) (heads nexts : List ℕ) → IsProp (Listed contacts m heads nexts)
listed_prop contacts m heads nexts = Prim.hlevel (linked_prop, props)
