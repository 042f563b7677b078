-- What the code that finds the chain knows, once the layers are filled.
--     delivered_is      the word of the destination in the last row says the delivery
--     count_is          the first row that has that word is the fewest contacts; when_injective, two words that say the same are the same
--     find_none, find_late, find_best      what is found, by the tests in their order
-- Assumes nothing.
use mathlib.Core.List.{List, ◌++◌}
use mathlib.Core.Path.{◌≡◌, sym, ap, ◌∙◌}
use Prim.Native.Nat.{ℕ, ◌+◌, ◌*◌, ◌≤◌, ◌<◌}
use native.Mathlib.Decide.{dec_le}
use native.Mathlib.Nat.{le_refl}
use native.Mathlib.Omega.{arith}
use borrow.Author.Tests.{lt-ltb, le-ltb}
use lib.ListN.{length, get_or, drop}
use Rattle.units.specs.declared.Ask.{Ask}
use Rattle.units.specs.declared.Refusal.TheVariants.{NoChain, TooLate}
use Rattle.units.specs.Limits.{last_time, most_light, most_nodes, most_chain}
use Rattle.service.specs.Service.{Service}
use Rattle.units.specs.Asks.{GoodAsk}
use Rattle.network.specs.Model.{earliest, delivery, fewest}
use Rattle.network.specs.Network.{When, at, never, Network}
use Rattle.network.proofs.Theorems.{fewest_is, fewest_length}
use Rattle.search_layers.specs.Bridge.{network_of, goal}
use Rattle.std.specs.Prelude.{Ok, Err}
use Rattle.search_layers.specs.declared.rows.Layers.{Layers}
use Rattle.search_layers.specs.Layered.{Filled}
use Rattle.search_layers.specs.Words.{never_word, when_word, row_of, FirstRow}
use Rattle.search_layers.proofs.FillCode.{inside}
use Rattle.search_layers.proofs.RowLaws.{when_never, when_below, when_time, time_below, time_most, time_row, get_d_layer}
use Rattle.search_choice.specs.Model.{chain_of}
use Rattle.search.specs.Model.{found_of, find_model, chain_after, route_after}

when_injective : (a b : ℕ) → a ≤ never_word → b ≤ never_word → when_word a ≡ when_word b → a ≡ b
when_injective a b ha hb e = go (dec_le never_word a) (dec_le never_word b)
  where
    go : Dec (never_word ≤ a) → Dec (never_word ≤ b) → a ≡ b
    go (yes k) (yes l) = omega arith
    go (yes k) (no l) =
        let na : when_word a ≡ never = when_never a (omega arith) in
        let tb : when_word b ≡ at b = when_below b (omega arith) in
        let z : ◌≡◌ {A = ℕ} 0 1 = cc in
        absurd (omega arith)
    go (no k) (yes l) =
        let ta : when_word a ≡ at a = when_below a (omega arith) in
        let nb : when_word b ≡ never = when_never b (omega arith) in
        let z : ◌≡◌ {A = ℕ} 0 1 = cc in
        absurd (omega arith)
    go (no k) (no l) =
        let ta : when_word a ≡ at a = when_below a (omega arith) in
        let tb : when_word b ≡ at b = when_below b (omega arith) in
        cc

module _ (p : Service) (ask : Ask) (good : GoodAsk ask) (layers : Layers) (last : ℕ)
    (filled : Filled (network_of p ask) layers last) where
  abbrev N : Network
  N = network_of p ask

  row_room : (k : ℕ) → k ≤ last → (k + 1) * most_nodes ≤ length layers.words.now
  row_room k h = inside layers k (omega (arith, filled.most))

  goal_below : goal ask < most_nodes
  goal_below = omega (arith, good.destination_node)

  -- when a node is reached over at most k contacts
  row_says : (k : ℕ) → k ≤ last → earliest N k (goal ask) ≡ when_word (get_or (row_of layers.words.now k) (goal ask) 0)
  unfolding earliest
  row_says k h =
      ap (λ (l : List When). get_or l (goal ask) never) (sym (filled.rows k h))
      ∙ get_d_layer layers.words.now k (goal ask) (row_room k h) goal_below

  module _ (d : ℕ) (ed : d ≡ get_or (row_of layers.words.now last) (goal ask) 0) where
    pub delivered_is : delivery N (goal ask) ≡ when_word d
    unfolding delivery earliest network_of
    delivered_is =
        ap (λ (l : List When). get_or l (goal ask) never) filled.settled ∙ row_says last (le_refl last) ∙ ap when_word (sym ed)

    pub find_none : (before : List ℕ) → d ≡ never_word → (Err NoChain ≡ find_model p ask) × (before ≡ route_after p ask before)
    unfolding find_model route_after found_of chain_after
    find_none before e =
        let is : delivery N (goal ask) ≡ never = delivered_is ∙ when_never d e in
        (rw is, rw is)

    module _ (bound : d ≤ last_time + most_light) where
      pub delivered_at : delivery N (goal ask) ≡ at d
      delivered_at = delivered_is ∙ when_time d bound

      pub find_late : (before : List ℕ) → ask.deadline.0 ≤ d → (Err TooLate ≡ find_model p ask) × (before ≡ route_after p ask before)
      unfolding find_model route_after found_of chain_after
      find_late before h = (rw (delivered_at, le-ltb d ask.deadline.0 h), rw (delivered_at, le-ltb d ask.deadline.0 h))

      -- a row's word against the last row's
      row_word : (k : ℕ) → k ≤ last → get_or (row_of layers.words.now k) (goal ask) 0 ≤ never_word
      row_word k h = time_most (get_or (row_of layers.words.now k) (goal ask) 0) (time_row layers.words.now k (goal ask) layers.timed (row_room k h) goal_below)

      module _ (count : ℕ) (first : FirstRow layers.words.now last (goal ask) d count) where
        pub count_is : count ≡ fewest N (goal ask)
        unfolding network_of
        count_is =
            sym
            (fewest_is N (goal ask) count (omega (arith, first.most, filled.most))
            (row_says count first.most ∙ ap when_word first.has ∙ sym delivered_is)
            (λ j h e.
            first.none_before j h
            (when_injective (get_or (row_of layers.words.now j) (goal ask) 0) d (row_word j (omega (arith, first.most))) (time_below d bound)
            (sym (row_says j (omega (arith, first.most))) ∙ e ∙ delivered_is))))

        pub count_room : count ≤ most_chain
        unfolding most_nodes most_chain
        count_room = omega (arith, first.most, filled.most)

        chain_long : length (chain_of p ask d) ≡ count
        unfolding chain_of
        chain_long = fewest_length N (goal ask) d ∙ sym count_is

        pub find_best : (entry exit : List ℕ) → d < ask.deadline.0 → exit ≡ chain_of p ask d ++ drop count entry
            → (Ok (record { delivered = record { 0 = d }; count = count }) ≡ find_model p ask) × (exit ≡ route_after p ask entry)
        unfolding find_model route_after found_of chain_after
        find_best entry exit h written = (
          rw (delivered_at, lt-ltb d ask.deadline.0 h, chain_long),
          written ∙ rw (delivered_at, lt-ltb d ask.deadline.0 h, chain_long),
        )
