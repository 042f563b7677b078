-- What the promise of `answer_line` means.
--     replies_determined      a line has one answer
--     answers_determined      no two results meet it
--     replies_short           an answer has at most 305 bytes, for a line of any place of 64 bits
--     answers_has_room        305 bytes of output are always enough
-- Assumes nothing.
use mathlib.Core.List.{List, []}
use mathlib.Core.Path.{◌≡◌, refl, sym, ap, subst, subst₂}
use Prim.Native.Nat.{ℕ, ◌^◌, ◌≤◌, ◌<◌}
use native.Mathlib.Nat.{le_trans}
use native.Mathlib.Omega.{arith}
use lib.ListN.{length}
use Rattle.std.specs.Prelude.{Result, Ok, Err}
use Rattle.units.specs.Refusals.{place_of}
use Rattle.units.specs.declared.Ask.{Ask}
use Rattle.units.specs.declared.Refusal.{Refusal}
use Rattle.units.specs.declared.Refusal.TheVariants.{NoPlan}
use Rattle.text.specs.Lines.{Line}
use Rattle.search.specs.Route.{Routes}
use Rattle.search.specs.declared.answer.Best.{Best}
use Rattle.search.proofs.Theorems.{routes_determined}
use Rattle.desk.specs.Answers.{answer_bytes, HasChain, of_refusal, WritesAnswer}
use Rattle.desk.specs.Asks.{ReadsAsk, bad_shape, bad_value}
use Rattle.desk.specs.Desk.{places, Replies, no_plan, not_asked, asked, Answers}
use Rattle.desk.proofs.AnswerLaws.{writes_answer_determined, has_chain, route_line_short, refused_line_short, has_room}
use Rattle.desk.proofs.AskLaws.{reads_ask_determined}

asked_or_not : {l : Line} {n : ℕ} {ask : Ask} {why : Refusal} → ReadsAsk l n (Ok ask) → ReadsAsk l n (Err why) → ⊥
asked_or_not a b = let e = reads_ask_determined a b in cc

module _ {contacts : List ℕ} {m : ℕ} {ranges : List ℕ} {k : ℕ} {l : Line} {n : ℕ} where
  pub replies_determined : {a b : Result Best Refusal} {c d : List ℕ} → Replies contacts m ranges k l n a c → Replies contacts m ranges k l n b d → (a ≡ b) × (c ≡ d)
  replies_determined (no_plan f) (no_plan g) = (refl, refl)
  replies_determined (no_plan f) (not_asked q b) = absurd (f q)
  replies_determined (no_plan f) (asked q b v) = absurd (f q)
  replies_determined (not_asked p a) (no_plan g) = absurd (g p)
  replies_determined (not_asked p a) (not_asked q b) = (ap (λ (why : Refusal). Err why) (same_refusal (reads_ask_determined a b)), refl)
    where
      same_refusal : {x y : Refusal} → ◌≡◌ {A = Result Ask Refusal} (Err x) (Err y) → x ≡ y
      same_refusal e = cc
  replies_determined (not_asked p a) (asked q b v) = absurd (asked_or_not b a)
  replies_determined (asked p a w) (no_plan g) = absurd (g p)
  replies_determined (asked p a w) (not_asked q b) = absurd (asked_or_not a b)
  replies_determined (asked p a w) (asked {answer} {chain} q b v) =
      routes_determined w
      (subst (λ (ask : Ask). Routes contacts m ranges k ask places answer chain) (sym (same_ask (reads_ask_determined a b))) v)
    where
      same_ask : {x y : Ask} → ◌≡◌ {A = Result Ask Refusal} (Ok x) (Ok y) → x ≡ y
      same_ask e = cc

  pub answers_determined : {out : List ℕ} {r s : Result ℕ Refusal} {out₁ out₂ : List ℕ} → Answers contacts m ranges k l n out r out₁
      → Answers contacts m ranges k l n out s out₂ → (r ≡ s) × (out₁ ≡ out₂)
  answers_determined {out} {s} {out₂} x y =
      let same = replies_determined x.replies y.replies in
      writes_answer_determined x.writes
      (subst₂ (λ (answer : Result Best Refusal) (chain : List ℕ). WritesAnswer answer chain out s out₂) (sym same.0) (sym same.1) y.writes)

  replies_has : {answer : Result Best Refusal} {chain : List ℕ} → Replies contacts m ranges k l n answer chain → HasChain chain answer
  replies_has (no_plan f) = of_refusal
  replies_has (not_asked p a) = of_refusal
  replies_has (asked p a w) = has_chain w

  pub replies_short : {answer : Result Best Refusal} {chain : List ℕ} → n < 10 ^ 20 → Replies contacts m ranges k l n answer chain
      → length (answer_bytes answer chain) ≤ 305
  replies_short few (no_plan f) = le_trans (refused_line_short NoPlan [] (omega arith)) (omega arith)
  replies_short few (not_asked {why} p a) = le_trans (refused_line_short why [] (place_most a)) (omega arith)
    where
      place_most : {w : Refusal} → ReadsAsk l n (Err w) → place_of w < 10 ^ 20
      place_most (bad_shape h) = few
      place_most (bad_value s h) = omega arith
  replies_short few (asked p a w) = route_line_short w

  pub answers_has_room : {out : List ℕ} {r : Result ℕ Refusal} {out' : List ℕ} → n < 10 ^ 20 → 305 ≤ length out → Answers contacts m ranges k l n out r out'
      → (bytes : ℕ) × (r ≡ Ok bytes)
  answers_has_room few room x = (_, has_room (replies_has x.replies) (le_trans (replies_short few x.replies) room) x.writes)
