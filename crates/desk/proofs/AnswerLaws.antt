-- The promise of `write_answer` determines its result and every lent byte, and how long an answer's line can be.
--     writes_answer_determined      two results that meet it are equal
--     writes_answer_fits            what is written lies within the output
--     route_line_short              the line of an answer of `route`: at most 305 bytes
--     refused_line_short            the line of a refusal whose place has at most 20 digits, as 64 bits do: at most 32 bytes
--     has_chain                     an answer of `route` counts contacts that the lent chain holds
--     has_room                      a line that the output has room for is written
-- Assumes nothing.
use mathlib.Core.List.{List, [], ◌∷◌, map, Memᴰ}
use mathlib.Core.Path.{◌≡◌, refl}
use Prim.Native.Nat.{ℕ, suc, ◌*◌, ◌^◌, ◌≤◌, ◌<◌, zero-le}
use native.Mathlib.Nat.{le_trans, suc-mul}
use native.Mathlib.Omega.{arith}
use lib.ListN.{length, get_or, take, length-append, length-take}
use Rattle.units.specs.Limits.{last_time, most_size, most_contacts, most_chain}
use Rattle.units.specs.Refusals.{number_of, place_of}
use Rattle.units.specs.declared.Ask.{Ask}
use Rattle.units.specs.declared.Refusal.{Refusal}
use Rattle.units.specs.declared.Refusal.TheVariants.{LongText, NoHeader, LineShape, LineValue, AfterRange, TooMany, LineOverlap, FewRows, NoPlan, ShortOutput, AskValue, SameNode, NoChain, TooLate, ShortChain, AskShape, NoContact, NotJoined, ExcludedNode, NotRanged, NotFitting, EndsElsewhere, BadClass, FullBook, NotOpen}
use Rattle.service.specs.Service.{Service, Sound, contact_of, InPlan, unused}
use Rattle.service.proofs.ServiceLaws.{service_sound}
use Rattle.timing.specs.Chain.{Carries, stays, hops}
use Rattle.timing.specs.Hop.{start_on}
use Rattle.timing.proofs.ChainLaws.{carries_after}
use Rattle.timing.proofs.HopLaws.{hop_sent}
use Rattle.walk.specs.declared.figures.Figures.{Figures}
use Rattle.std.specs.Prelude.{Result, Ok, Err}
use Rattle.walk.specs.Figures.{HasFigures}
use Rattle.units.specs.Asks.{GoodAsk}
use Rattle.walk.specs.Walk.{carried, Walks, walked}
use Rattle.walk.proofs.LastCallCode.{carries_named}
use Rattle.walk.proofs.Theorems.{figures_bounded}
use Rattle.text.specs.Digits.{decimal}
use Rattle.text.specs.Lines.{glue_fields, glue_line}
use Rattle.text.specs.Rows.{line_of}
use Rattle.text.proofs.Digits.{decimal_short}
use Rattle.text.proofs.Members.{each_mem}
use Rattle.search.specs.Route.{no_chain as no-allowed, too_late, best, Routes, short_chain, no_plan, bad_ask, same_node, routed}
use Rattle.search.specs.declared.answer.Best.{Best}
use Rattle.search.proofs.Theorems.{routes_walks, routes_short}
use Rattle.desk.specs.Answers.{route_word, refused_word, answer_line, answer_bytes, HasChain, of_best, of_refusal, WritesAnswer, no_chain, too_short, written}

pub writes_answer_determined : {answer : Result Best Refusal} {chain out : List ℕ} {r s : Result ℕ Refusal} {out₁ out₂ : List ℕ} → WritesAnswer answer chain out r out₁
    → WritesAnswer answer chain out s out₂ → (r ≡ s) × (out₁ ≡ out₂)
writes_answer_determined (no_chain n) (no_chain n') = (refl, refl)
writes_answer_determined (no_chain n) (too_short has h) = absurd (n has)
writes_answer_determined (no_chain n) (written has h) = absurd (n has)
writes_answer_determined (too_short has h) (no_chain n) = absurd (n has)
writes_answer_determined (too_short has h) (too_short has' h') = (refl, refl)
writes_answer_determined (too_short has h) (written has' h') = absurd (omega arith)
writes_answer_determined (written has h) (no_chain n) = absurd (n has)
writes_answer_determined (written has h) (too_short has' h') = absurd (omega arith)
writes_answer_determined (written has h) (written has' h') = (refl, refl)

pub writes_answer_fits : {answer : Result Best Refusal} {chain out : List ℕ} {k : ℕ} {out' : List ℕ} → WritesAnswer answer chain out (Ok k) out' → k ≤ length out
writes_answer_fits (written has h) = h

-- ---- the line of a refusal

number_short : (why : Refusal) → length (decimal (number_of why)) ≤ 2
number_short why = decimal_short 1 (number_of why) (small why)
  where
    small : (w : Refusal) → number_of w < 10 ^ 2
    small LongText = omega arith
    small NoHeader = omega arith
    small (LineShape line) = omega arith
    small (LineValue line) = omega arith
    small (AfterRange line) = omega arith
    small (TooMany line) = omega arith
    small (LineOverlap line) = omega arith
    small FewRows = omega arith
    small NoPlan = omega arith
    small (ShortOutput needed) = omega arith
    small AskValue = omega arith
    small SameNode = omega arith
    small NoChain = omega arith
    small TooLate = omega arith
    small ShortChain = omega arith
    small (AskShape line) = omega arith
    small (NoContact position) = omega arith
    small (NotJoined position) = omega arith
    small (ExcludedNode position) = omega arith
    small (NotRanged position) = omega arith
    small (NotFitting position) = omega arith
    small (EndsElsewhere position) = omega arith
    small BadClass = omega arith
    small FullBook = omega arith
    small NotOpen = omega arith

pub refused_line_short : (why : Refusal) (chain : List ℕ) → place_of why < 10 ^ 20 → length (answer_bytes (Err why) chain) ≤ 32
unfolding answer_bytes answer_line refused_word line_of glue_line glue_fields
refused_line_short why chain h =
    let number = number_short why in
    let place = decimal_short 19 (place_of why) h in
    simp length-append (omega arith)

-- ---- the line of a best chain

-- numbers of at most so many digits, with a tab before each
fields_short : (k : ℕ) (ns : List ℕ) → ((n : ℕ) → Memᴰ n ns → n < 10 ^ suc k) → length (glue_fields (map decimal ns)) ≤ length ns * suc (suc k)
unfolding glue_fields
fields_short k [] short = zero-le
fields_short k (n ∷ ns) short =
    let one = decimal_short k n (short n (Memᴰ.head refl)) in
    let others = fields_short k ns (λ m at. short m (Memᴰ.tail at)) in
    rw (length-append, suc-mul) (omega arith)

module _ {p : Service} {ask : Ask} where
  -- the file starts on the first contact no later than it is delivered
  starts_early : {u t v r : ℕ} {cs : List ℕ} → 1 ≤ length cs → Carries p ask u t cs v r → start_on (contact_of p (get_or cs 0 0)) t ≤ r
  starts_early h stays = absurd (omega arith)
  starts_early h (hops i f b e k) = omega (arith, hop_sent _ _ _ _ _ _ e, carries_after k)

  best_line_short : (b : Best) (chain : List ℕ) → Sound p → GoodAsk ask → HasFigures p ask (take b.count chain) b.figures → b.count ≤ most_chain
      → length (answer_bytes (Ok b) chain) ≤ 305
  unfolding answer_bytes answer_line route_word line_of glue_line glue_fields last_time most_size most_contacts most_chain
  best_line_short b chain valid good has few =
      let f = b.figures in
      let delivery = decimal_short 9 f.delivery.0 (omega (arith, has.in_time, good.deadline_most)) in
      let opens =
      decimal_short 9 f.opens.0
      (omega (arith, has.opens, starts_early has.allowed.some_contact has.allowed.carried, has.in_time, good.deadline_most))
      in
      let last = decimal_short 9 f.last_call.0 (omega (arith, (figures_bounded good has).0)) in
      let room = decimal_short 9 f.room (omega (arith, has.room.most)) in
      let number = decimal_short 1 b.count (omega arith) in
      let others =
      fields_short 2 (take b.count chain)
      (λ c at. omega (arith, (each_mem (InPlan p) (take b.count chain) (carries_named p ask has.allowed.carried) at).most, valid.contacts_most))
      in
      simp length-append (omega (arith, length-take b.count chain))

-- ---- what `route` answers

module _ {contacts : List ℕ} {m : ℕ} {ranges : List ℕ} {n : ℕ} {ask : Ask} {before : List ℕ} where
  -- the contacts of a best chain stand in the first places of the lent chain
  best_held : {b : Best} {chain : List ℕ} → Routes contacts m ranges n ask before (Ok b) chain → b.count ≤ length chain
  best_held (routed l p g d (best b h)) = rw length-append (omega arith)

  -- its refusals have no place
  refused_place : {why : Refusal} {chain : List ℕ} → Routes contacts m ranges n ask before (Err why) chain → place_of why ≡ 0
  refused_place (short_chain h) = refl
  refused_place (no_plan l f) = refl
  refused_place (bad_ask l p f) = refl
  refused_place (same_node l p g s) = refl
  refused_place (routed l p g d (no-allowed f)) = refl
  refused_place (routed l p g d (too_late a f)) = refl

  pub has_chain : {answer : Result Best Refusal} {chain : List ℕ} → Routes contacts m ranges n ask before answer chain → HasChain chain answer
  has_chain {answer} {chain} r = go answer r
    where
      go : (a : Result Best Refusal) → Routes contacts m ranges n ask before a chain → HasChain chain a
      go (Ok b) r = of_best (routes_short r) (best_held r)
      go (Err why) r = of_refusal

  pub route_line_short : {answer : Result Best Refusal} {chain : List ℕ} → Routes contacts m ranges n ask before answer chain → length (answer_bytes answer chain) ≤ 305
  route_line_short {answer} {chain} r = go answer r
    where
      told : (b : Best) → Walks contacts m ranges n ask (take b.count chain) (Ok b.figures) → b.count ≤ most_chain → length (answer_bytes (Ok b) chain) ≤ 305
      told b (walked plan good differ (carried has)) few = best_line_short b chain (service_sound _ plan.valid unused) good has few

      go : (a : Result Best Refusal) → Routes contacts m ranges n ask before a chain → length (answer_bytes a chain) ≤ 305
      go (Ok b) r = told b (routes_walks r) (routes_short r)
      go (Err why) r = le_trans (refused_line_short why chain (omega (arith, refused_place r))) (omega arith)

-- ---- there is room

pub has_room : {answer : Result Best Refusal} {chain out : List ℕ} {r : Result ℕ Refusal} {out' : List ℕ} → HasChain chain answer → length (answer_bytes answer chain) ≤ length out
    → WritesAnswer answer chain out r out' → r ≡ Ok (length (answer_bytes answer chain))
has_room has h w = (writes_answer_determined w (written has h)).0
