-- What the loop over the layers knows.
--     inside, held_laws, contacts_counted      what the structs say of their rows, of the laws and of their contacts
--     copied_same, next_made      one row out of the one before, by its two steps
--     RowsTo                      the rows up to k are the network's layers
--     rows_begin, rows_next, rows_settled, rows_all
--     older_begin, older_kept, older_next      the row that row k is compared with: at first a blank one, then the row before
-- Assumes nothing.
use mathlib.Core.List.{List, ◌∷◌, map}
use mathlib.Core.Logic.{inr, ⊎_elim}
use mathlib.Core.Path.{◌≡◌, refl, sym, ap, ◌∙◌, subst}
use Prim.Native.Nat.{ℕ, zero, suc, ◌+◌, ◌-◌, ◌*◌, ◌≤◌, ◌<◌}
use native.Mathlib.Nat.{le_refl, eq-or-lt_of_le, le_of_suc-le-suc, not-suc-le-zero, zero-mul, mul-le-mul_right}
use native.Mathlib.Numerals.{add-one}
use native.Mathlib.Omega.{arith}
use lib.Dec.{lit≤}
use lib.ListN.{length, get_or, set, take, drop, replicate, length-replicate, get_or-replicate}
use Rattle.units.specs.declared.Ask.{Ask}
use Rattle.units.specs.Limits.{last_time, most_light, most_nodes}
use Rattle.plan.specs.Plan.{Each}
use Rattle.service.specs.Service.{Service}
use Rattle.service.specs.declared.tables.ServedPlan.{ServedPlan}
use Rattle.service.specs.Held.{service_in}
use Rattle.service.proofs.HeldLaws.{held_sound, held_counted}
use Rattle.units.specs.declared.asks.CheckedAsk.{CheckedAsk}
use Rattle.units.specs.Asks.{GoodAsk}
use Rattle.network.specs.Model.{behind, relaxed, layer}
use Rattle.network.specs.Network.{When, never, last, Network, Laws}
use Rattle.network.proofs.Relaxed.{relaxed_again}
use Rattle.network.proofs.Theorems.{settled}
use Rattle.search_layers.specs.Bridge.{network_of}
use Rattle.search_layers.specs.declared.rows.Layers.{Layers}
use Rattle.search_layers.specs.Layered.{Layered, Older, Filled}
use Rattle.search_layers.specs.Words.{never_word, when_word, TimeWord, row_of, layer_of, blank_words}
use Rattle.search_layers.proofs.NetworkLaws.{network_laws}
use Rattle.search_layers.proofs.RowLaws.{when_never, when_time, get_d_row, row_set_other, length_layer_row, get_d_layer, layer_set}

pub nodes_counted : (p : Service) (ask : Ask) → (network_of p ask).nodes ≡ most_nodes
unfolding network_of
nodes_counted p ask = refl

-- a row is not more than all of them
square : most_nodes ≤ most_nodes * most_nodes
unfolding most_nodes
square = lit≤ tt

-- a row of the layers lies inside their words
pub inside : (layers : Layers) (k : ℕ) → k < most_nodes → (k + 1) * most_nodes ≤ length layers.words.now
inside layers k h = rw layers.full (mul-le-mul_right most_nodes (omega arith))

-- a row that a step keeps holds the same layer
layer_kept : (entry exit : Layers) (k j : ℕ) {next : List When} → Layered entry exit k next → (j ≡ suc k → ⊥) → layer_of exit.words.now j ≡ layer_of entry.words.now j
unfolding layer_of
layer_kept entry exit k j l h = ap (map when_word) (l.kept j h)

-- so does row k
layer_this : (entry exit : Layers) (k : ℕ) {next : List When} → Layered entry exit k next → layer_of exit.words.now k ≡ layer_of entry.words.now k
layer_this entry exit k l = layer_kept entry exit k k l (λ e. absurd (omega arith))

pub copied_same : (entry layers : Layers) (k : ℕ) → Layered entry layers k (layer_of entry.words.now k) → layer_of layers.words.now (k + 1) ≡ layer_of layers.words.now k
copied_same entry layers k l = ap (layer_of layers.words.now) (add-one k) ∙ l.is ∙ sym (layer_this entry layers k l)

pub next_made : (N : Network) (entry layers exit : Layers) (k : ℕ) → Layered entry layers k (layer_of entry.words.now k)
    → Layered layers exit k (relaxed N (layer_of layers.words.now k) N.contacts) → Layered entry exit k (relaxed N (layer_of entry.words.now k) N.contacts)
next_made N entry layers exit k copy tried = record {
  kept = λ j l. tried.kept j l ∙ copy.kept j l;
  is = tried.is ∙ ap (λ (l : List When). relaxed N l N.contacts) (layer_this entry layers k copy);
}

pub record RowsTo (N : Network) (layers : Layers) (k : ℕ) : Type 0 where
  pub rows : (j : ℕ) → j ≤ k → layer_of layers.words.now j ≡ layer N j

pub rows_next : (N : Network) (layers exit : Layers) (k : ℕ) → RowsTo N layers k → Layered layers exit k (relaxed N (layer_of layers.words.now k) N.contacts)
    → RowsTo N exit (k + 1)
unfolding layer
rows_next N layers exit k r l = record {
  rows = λ j h.
      ⊎_elim
      (λ e.
      let es : j ≡ suc k = e ∙ add-one k in
      rw es (l.is ∙ ap (λ (b : List When). relaxed N b N.contacts) (r.rows k (le_refl k))))
      (λ h'. layer_kept layers exit k j l (λ e. absurd (omega arith)) ∙ r.rows j (omega arith))
      (eq-or-lt_of_le h);
}

pub rows_settled : (N : Network) (layers : Layers) (k : ℕ) → k + 1 < most_nodes → RowsTo N layers (k + 1) → layer_of layers.words.now (k + 1) ≡ layer_of layers.words.now k
    → Filled N layers (k + 1)
rows_settled N layers k h r same =
    let last_same : layer N (suc k) ≡ layer N k =
    ap (layer N) (sym (add-one k)) ∙ sym (r.rows (k + 1) (le_refl (k + 1))) ∙ same ∙ r.rows k (omega arith) in
    record {
      most = h;
      rows = r.rows;
      settled = settled N k last_same (most_nodes - 1) (omega arith) ∙ sym last_same ∙ ap (layer N) (sym (add-one k));
    }

pub rows_all : (N : Network) (layers : Layers) (k : ℕ) → k < most_nodes → k ≡ most_nodes - 1 → RowsTo N layers k → Filled N layers k
rows_all N layers k h e r = record { most = h; rows = r.rows; settled = ap (layer N) (sym e) }

pub older_kept : (N : Network) (entry exit : Layers) (old k : ℕ) → ((j : ℕ) → (j ≡ suc k → ⊥) → row_of exit.words.now j ≡ row_of entry.words.now j)
    → Older N entry old k → Older N exit old k
unfolding layer_of
older_kept N entry exit old k kept o =
    let before : layer_of exit.words.now old ≡ layer_of entry.words.now old = ap (map when_word) (kept old o.apart) in
    let this : layer_of exit.words.now k ≡ layer_of entry.words.now k = ap (map when_word) (kept k (λ e. absurd (omega arith))) in
    record {
      inside = o.inside;
      apart = o.apart;
      tried = λ c i. rw (before, this) (o.tried c i);
    }

pub older_next : (p : Service) (ask : Ask) → Laws (network_of p ask) → (layers exit : Layers) (k : ℕ) → k + 1 < most_nodes
    → Layered layers exit k (relaxed (network_of p ask) (layer_of layers.words.now k) (network_of p ask).contacts) → Older (network_of p ask) exit k (k + 1)
older_next p ask laws layers exit k h l =
    let now : layer_of exit.words.now (k + 1) ≡ relaxed (network_of p ask) (layer_of layers.words.now k) (network_of p ask).contacts =
    ap (layer_of exit.words.now) (add-one k) ∙ l.is in
    let long : length (layer_of layers.words.now k) ≡ (network_of p ask).nodes = length_layer_row layers.words.now k (inside layers k (omega arith)) ∙ sym (nodes_counted p ask) in
    record {
      inside = omega arith;
      apart = λ e. absurd (omega arith);
      tried = λ c i. rw (now, layer_this layers exit k l) (relaxed_again (network_of p ask) (layer_of layers.words.now k) c i (rw long (laws.to_node c i)));
    }

-- n times the same, cut short and seen through a function
take_replicate : {A : Type 0} (m n : ℕ) (a : A) → m ≤ n → take m (replicate n a) ≡ replicate m a
take_replicate zero n a h = refl
take_replicate (suc m) zero a h = absurd (not-suc-le-zero h)
take_replicate {A} (suc m) (suc n) a h = ap {B = List A} (λ rest. a ∷ rest) (take_replicate m n a (le_of_suc-le-suc h))

map_replicate : {A B : Type 0} (f : A → B) (n : ℕ) (a : A) → map f (replicate n a) ≡ replicate n (f a)
map_replicate f zero a = refl
map_replicate {B} f (suc n) a = ap {B = List B} (λ rest. f a ∷ rest) (map_replicate f n a)

-- before any work no node is reached
blank_layer : layer_of blank_words 0 ≡ replicate most_nodes never
unfolding layer_of row_of blank_words
blank_layer =
    ap (λ (i : ℕ). map when_word (take most_nodes (drop i (replicate (most_nodes * most_nodes) never_word)))) (zero-mul most_nodes)
    ∙ ap (map when_word) (take_replicate most_nodes (most_nodes * most_nodes) never_word square)
    ∙ map_replicate when_word most_nodes never_word
    ∙ ap (replicate most_nodes) (when_never never_word refl)

pub blank_timed : Each TimeWord blank_words
unfolding Each blank_words
blank_timed blank k h =
    inr (get_or-replicate (most_nodes * most_nodes) k never_word blank (subst (λ (n : ℕ). k < n) (length-replicate (most_nodes * most_nodes) never_word) h))

-- the words as the code writes them
pub blank_is : replicate 4096 18_446_744_073_709_551_614 ≡ blank_words
unfolding blank_words most_nodes never_word
blank_is = refl

pub length_blank : length blank_words ≡ most_nodes * most_nodes
unfolding blank_words
length_blank = length-replicate (most_nodes * most_nodes) never_word

-- the file at its source, at the ask's time
pub rows_begin : (p : Service) (ask : Ask) → GoodAsk ask → (layers exit : Layers) → layers.words.now ≡ blank_words
    → exit.words.now ≡ set layers.words.now (0 * most_nodes + (ask.source.0 - 1)) ask.time.0 → RowsTo (network_of p ask) exit 0
unfolding layer network_of
rows_begin p ask good layers exit ew ee =
    let e : exit.words.now ≡ set blank_words (0 * most_nodes + (ask.source.0 - 1)) ask.time.0 =
    ee ∙ ap (λ (ws : List ℕ). set ws (0 * most_nodes + (ask.source.0 - 1)) ask.time.0) ew in
    let node : ask.source.0 - 1 < most_nodes = omega (arith, good.source_node) in
    let time : ask.time.0 ≤ last_time + most_light = omega (arith, good.time_most) in
    record {
      rows = λ j h.
          let first : j ≡ 0 = omega arith in
          rw first
          (ap (λ (ws : List ℕ). layer_of ws 0) e
          ∙ layer_set blank_words 0 (ask.source.0 - 1) ask.time.0 node
          ∙ rw (blank_layer, when_time ask.time.0 time));
    }

-- in the words before any work no row has a node
blank_entry : (j v : ℕ) → j < most_nodes → v < most_nodes → get_or (layer_of blank_words j) v never ≡ never
unfolding blank_words
blank_entry j v hj hv =
    let inside : (j + 1) * most_nodes ≤ most_nodes * most_nodes = mul-le-mul_right most_nodes (omega arith) in
    get_d_layer blank_words j v (rw length_blank inside) hv
    ∙ ap when_word (get_d_row blank_words j v 0 hv ∙ get_or-replicate (most_nodes * most_nodes) (j * most_nodes + v) never_word 0 (omega arith))
    ∙ when_never never_word refl

-- a later row is blank then
pub older_begin : (p : Service) (ask : Ask) → GoodAsk ask → Laws (network_of p ask) → (layers exit : Layers) (old : ℕ) → 1 < old → old < most_nodes
    → layers.words.now ≡ blank_words → exit.words.now ≡ set layers.words.now (0 * most_nodes + (ask.source.0 - 1)) ask.time.0 → Older (network_of p ask) exit old 0
unfolding layer_of behind
older_begin p ask good laws layers exit old some most ew ee =
    let e : exit.words.now ≡ set blank_words (0 * most_nodes + (ask.source.0 - 1)) ask.time.0 =
    ee ∙ ap (λ (ws : List ℕ). set ws (0 * most_nodes + (ask.source.0 - 1)) ask.time.0) ew in
    let node : ask.source.0 - 1 < most_nodes = omega (arith, good.source_node) in
    let row : layer_of exit.words.now old ≡ layer_of blank_words old =
    ap (map when_word) (ap (λ (ws : List ℕ). row_of ws old) e ∙ row_set_other blank_words old 0 (ask.source.0 - 1) ask.time.0 (λ z. absurd (omega arith)) node) in
    record {
      inside = most;
      apart = λ z. absurd (omega arith);
      tried = λ c i same.
          let from_node : (network_of p ask).from c < most_nodes = rw nodes_counted at (laws.from_node c i) in
          let none : get_or (layer_of exit.words.now 0) ((network_of p ask).from c) never ≡ never =
          sym same ∙ ap (λ (l : List When). get_or l ((network_of p ask).from c) never) row ∙ blank_entry old ((network_of p ask).from c) most from_node in
          rw none last;
    }

-- the network of a served plan has as many contacts as it counts
pub contacts_counted : (s : ServedPlan) (ask : Ask) → (network_of (service_in s) ask).contacts ≡ s.contact_count
unfolding network_of
contacts_counted s ask = held_counted s

-- it obeys the laws
pub held_laws : (s : ServedPlan) (ask : CheckedAsk) → Laws (network_of (service_in s) ask.asked)
held_laws s ask = network_laws (service_in s) (held_sound s) ask.asked ask.good
