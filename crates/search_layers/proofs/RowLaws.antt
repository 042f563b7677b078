-- Laws of the words that hold the layers.
--     when_time, when_never      what a word says
--     time_when, time_some, time_none, time_good      the same as a time or none
--     when_lower, when_not_later      the lower of two words, and of two words in order
--     length_row, get_d_row, row_set, row_set_other      a row, and a store in a row
--     get_d_layer, layer_set, time_set      the same of the layer that a row holds
-- Assumes nothing.
use mathlib.Core.List.{List, [], ◌∷◌, map}
use mathlib.Core.Bool.{Bool, true, false, cond}
use mathlib.Core.Logic.{⊎_elim}
use mathlib.Core.Path.{◌≡◌, refl, sym, ap, ◌∙◌, subst}
use Prim.Native.Nat.{ℕ, zero, suc, ◌+◌, ◌-◌, ◌*◌, ◌≤◌, ◌<◌, zero-le, suc-le-suc, min}
use native.Mathlib.Nat.{not-suc-le-zero, le_of_suc-le-suc, mul-le-mul_right}
use native.Mathlib.Decide.{dec_le}
use native.Mathlib.Omega.{arith}
use borrow.Author.Tests.{eq-eqb, ne_eqb, eqb-true}
use lib.ListN.{length, get_or, set, take, drop, length-take, length-drop, get_or-map, length-map}
use lib.Seq.{get_or-take, get_or-drop, take-set-lt, take-set-le, drop-set-add, drop-set-lt}
use Rattle.std.specs.Prelude.{Option, Some, None}
use lib.Dec.{eqb}
use Rattle.units.specs.declared.Millis.{Millis}
use Rattle.units.specs.Limits.{last_time, most_light, most_nodes}
use Rattle.plan.specs.Plan.{Each}
use Rattle.network.specs.Model.{earlier}
use Rattle.network.specs.Network.{at, never, NotLater, both, last}
use Rattle.search_layers.specs.Bridge.{when_of}
use Rattle.search_layers.specs.Words.{never_word, when_word, time_word, TimeWord, row_of, layer_of}

pub when_never : (w : ℕ) → w ≡ never_word → when_word w ≡ never
unfolding when_word
when_never w e = rw (eq-eqb w never_word e)

pub when_below : (w : ℕ) → w < never_word → when_word w ≡ at w
unfolding when_word
when_below w h = rw (ne_eqb w never_word (λ e. absurd (omega arith)))

pub when_time : (w : ℕ) → w ≤ last_time + most_light → when_word w ≡ at w
unfolding last_time most_light never_word
when_time w h = when_below w (omega arith)

-- a word says the same as the time that it says, or none
pub time_when : (w : ℕ) → when_of (time_word w) ≡ when_word w
unfolding when_word time_word
time_when w = go (eqb w never_word)
  where
    go : (b : Bool) → when_of (cond b None (Some (record { 0 = w }))) ≡ cond b never (at w)
    go true = refl
    go false = refl

pub time_none : (w : ℕ) → w ≡ never_word → None ≡ time_word w
unfolding time_word
time_none w e = rw (eq-eqb w never_word e)

pub time_some : (w : ℕ) → (w ≡ never_word → ⊥) → Some (record { 0 = w }) ≡ time_word w
unfolding time_word
time_some w some = rw (ne_eqb w never_word some)

-- the word of a time
pub time_is : (w : ℕ) (t : Millis) → Some t ≡ time_word w → w ≡ t.0
unfolding time_word
time_is w t e = go (eqb w never_word) e
  where
    go : (b : Bool) → Some t ≡ cond b None (Some (record { 0 = w })) → w ≡ t.0
    go true h = let z : ◌≡◌ {A = ℕ} 0 1 = cc in absurd (omega arith)
    go false h = cc

pub never_is : (w : ℕ) → None ≡ time_word w → w ≡ never_word
unfolding time_word
never_is w e = go (eqb w never_word) refl e
  where
    go : (b : Bool) → eqb w never_word ≡ b → ◌≡◌ {A = Option Millis} None (cond b None (Some (record { 0 = w }))) → w ≡ never_word
    go true q h = eqb-true w never_word q
    go false q h = let z : ◌≡◌ {A = ℕ} 0 1 = cc in absurd (omega arith)

pub word_good : (w : ℕ) → TimeWord w → (w ≡ never_word → ⊥) → w ≤ last_time + most_light
word_good w t some = ⊎_elim (λ h. h) (λ e. absurd (some e)) t

-- the lower of two words says the earlier of the two
pub when_lower : (a b : ℕ) → a < b → b ≤ never_word → earlier (when_word b) (when_word a) ≡ when_word a
unfolding earlier
when_lower a b h most = go (dec_le never_word b)
  where
    go : Dec (never_word ≤ b) → earlier (when_word b) (when_word a) ≡ when_word a
    go (yes l) = let e : b ≡ never_word = omega arith in rw (when_never b e)
    go (no l) =
        let hb : b < never_word = omega arith in
        let e : min b a ≡ a = omega arith in
        rw (when_below b hb, when_below a (omega arith), e)

-- words in order say times in order
pub when_not_later : (a b : ℕ) → a ≤ b → b ≤ never_word → NotLater (when_word a) (when_word b)
when_not_later a b h most = go (dec_le never_word b)
  where
    go : Dec (never_word ≤ b) → NotLater (when_word a) (when_word b)
    go (yes l) = let e : b ≡ never_word = omega arith in rw (when_never b e) last
    go (no l) = rw (when_below a (omega arith), when_below b (omega arith)) (both h)

pub time_below : (w : ℕ) → w ≤ last_time + most_light → w ≤ never_word
unfolding last_time most_light never_word
time_below w h = omega arith

pub time_most : (w : ℕ) → TimeWord w → w ≤ never_word
unfolding last_time most_light never_word
time_most w t = ⊎_elim (λ h. omega arith) (λ e. omega arith) t

module _ {A : Type 0} where
  -- inside a list the default does not matter
  pub get_d_inside : (xs : List A) (i : ℕ) (d e : A) → i < length xs → get_or xs i d ≡ get_or xs i e
  get_d_inside [] i d e h = absurd (not-suc-le-zero h)
  get_d_inside (x ∷ xs) zero d e h = refl
  get_d_inside (x ∷ xs) (suc i) d e h = get_d_inside xs i d e (le_of_suc-le-suc h)

pub map_set : {A B : Type 0} (f : A → B) (xs : List A) (i : ℕ) (a : A) → map f (set xs i a) ≡ set (map f xs) i (f a)
map_set f [] i a = refl
map_set f (x ∷ xs) zero a = refl
map_set {B} f (x ∷ xs) (suc i) a = ap {B = List B} (λ rest. f x ∷ rest) (map_set f xs i a)

-- a row lies inside the words
row_inside : (k : ℕ) (words : List ℕ) → (k + 1) * most_nodes ≤ length words → k * most_nodes + most_nodes ≤ length words
row_inside k words h = omega arith

pub length_row : (words : List ℕ) (k : ℕ) → (k + 1) * most_nodes ≤ length words → length (row_of words k) ≡ most_nodes
unfolding row_of
length_row words k h = omega (arith, row_inside k words h, length-take most_nodes (drop (k * most_nodes) words), length-drop (k * most_nodes) words)

-- a row has no more words than there are nodes, and rows of as many words are as long
pub row_most : (words : List ℕ) (k : ℕ) → length (row_of words k) ≤ most_nodes
unfolding row_of
row_most words k = omega (arith, length-take most_nodes (drop (k * most_nodes) words))

pub row_long : (words entry : List ℕ) (k : ℕ) → length words ≡ length entry → length (row_of words k) ≡ length (row_of entry k)
unfolding row_of
row_long words entry k same =
    omega (
      arith,
      same,
      length-take most_nodes (drop (k * most_nodes) words),
      length-drop (k * most_nodes) words,
      length-take most_nodes (drop (k * most_nodes) entry),
      length-drop (k * most_nodes) entry,
    )

pub get_d_row : (words : List ℕ) (k v d : ℕ) → v < most_nodes → get_or (row_of words k) v d ≡ get_or words (k * most_nodes + v) d
unfolding row_of
get_d_row words k v d h = get_or-take most_nodes (drop (k * most_nodes) words) v d h ∙ get_or-drop (k * most_nodes) words v d

pub row_set : (words : List ℕ) (k v w : ℕ) → v < most_nodes → row_of (set words (k * most_nodes + v) w) k ≡ set (row_of words k) v w
unfolding row_of
row_set words k v w h =
    ap (take most_nodes) (drop-set-add (k * most_nodes) words v w) ∙ take-set-lt most_nodes (drop (k * most_nodes) words) v w h

-- a store in row k leaves the other rows
pub row_set_other : (words : List ℕ) (j k v w : ℕ) → (j ≡ k → ⊥) → v < most_nodes → row_of (set words (k * most_nodes + v) w) j ≡ row_of words j
unfolding row_of
row_set_other words j k v w apart h = go (dec_le (j + 1) k)
  where
    go : Dec (j + 1 ≤ k) → row_of (set words (k * most_nodes + v) w) j ≡ row_of words j
    go (yes l) =
        let more : (j + 1) * most_nodes ≤ k * most_nodes = mul-le-mul_right most_nodes l in
        let far : most_nodes ≤ (k * most_nodes - j * most_nodes) + v = omega arith in
        let e : k * most_nodes + v ≡ j * most_nodes + ((k * most_nodes - j * most_nodes) + v) = omega arith in
        ap (λ (i : ℕ). take most_nodes (drop (j * most_nodes) (set words i w))) e
        ∙ ap (take most_nodes) (drop-set-add (j * most_nodes) words ((k * most_nodes - j * most_nodes) + v) w)
        ∙ take-set-le most_nodes (drop (j * most_nodes) words) ((k * most_nodes - j * most_nodes) + v) w far
    go (no l) =
        let after : k + 1 ≤ j = omega arith in
        let more : (k + 1) * most_nodes ≤ j * most_nodes = mul-le-mul_right most_nodes after in
        ap (take most_nodes) (drop-set-lt (j * most_nodes) words (k * most_nodes + v) w (omega arith))

pub length_layer_row : (words : List ℕ) (k : ℕ) → (k + 1) * most_nodes ≤ length words → length (layer_of words k) ≡ most_nodes
unfolding layer_of
length_layer_row words k h = length-map (row_of words k) when_word ∙ length_row words k h

pub get_d_layer : (words : List ℕ) (k v : ℕ) → (k + 1) * most_nodes ≤ length words → v < most_nodes
    → get_or (layer_of words k) v never ≡ when_word (get_or (row_of words k) v 0)
unfolding layer_of
get_d_layer words k v inside h =
    let h' : v < length (row_of words k) = omega (arith, length_row words k inside) in
    let h'' : v < length (map when_word (row_of words k)) = omega (arith, length-map (row_of words k) when_word) in
    get_d_inside (map when_word (row_of words k)) v never (when_word 0) h'' ∙ get_or-map when_word (row_of words k) v 0

pub layer_set : (words : List ℕ) (k v w : ℕ) → v < most_nodes → layer_of (set words (k * most_nodes + v) w) k ≡ set (layer_of words k) v (when_word w)
unfolding layer_of
layer_set words k v w h = ap (map when_word) (row_set words k v w h) ∙ map_set when_word (row_of words k) v w

pub time_set : (words : List ℕ) (i w : ℕ) → Each TimeWord words → TimeWord w → Each TimeWord (set words i w)
unfolding Each
time_set [] i w each t here k h = absurd (not-suc-le-zero h)
time_set (x ∷ xs) zero w each t here zero h = t
time_set (x ∷ xs) zero w each t here (suc k) h = each here (suc k) h
time_set (x ∷ xs) (suc i) w each t here zero h = each here zero (suc-le-suc zero-le)
time_set (x ∷ xs) (suc i) w each t here (suc k) h =
    time_set xs i w (λ b j l. each b (suc j) (suc-le-suc l)) t here k (le_of_suc-le-suc h)

-- a word of a row is a time word
pub time_row : (words : List ℕ) (k v : ℕ) → Each TimeWord words → (k + 1) * most_nodes ≤ length words → v < most_nodes → TimeWord (get_or (row_of words k) v 0)
unfolding Each
time_row words k v each inside h =
    subst TimeWord (sym (get_d_row words k v 0 h)) (each 0 (k * most_nodes + v) (omega (arith, row_inside k words inside)))
