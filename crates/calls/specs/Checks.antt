-- The checks that come before every call over a plan with its book.
--     Holds            a checked call is that of these tables, this ask and this class
--     Checked          what the checks give: the refusals 9, 11, 24, 12 in their order, or the checked call
--     SaidCall         the plain values of a call: the words that its tables hold, the counts, the ask and the class
--     said             an answer of the checks with these in place of the call: by them `checked_determined` holds two answers against each other
-- Assumes nothing.
use Rattle.std.specs.Prelude.{List, ◌≡◌, ℕ, Result, Ok, Err}
use Rattle.units.specs.declared.Ask.{Ask}
use Rattle.units.specs.declared.Refusal.{Refusal}
use Rattle.units.specs.declared.Refusal.TheVariants.{NoPlan, AskValue, SameNode, BadClass}
use Rattle.units.specs.Asks.{GoodAsk}
use Rattle.plan.specs.Tables.{IsPlan}
use Rattle.book.specs.Tables.{IsBook}
use Rattle.calls.specs.Booked.{GoodClass, Good}
use Rattle.calls.specs.declared.call.CheckedCall.{CheckedCall}

module _ (contacts : List ℕ) (m : ℕ) (ranges : List ℕ) (n : ℕ) (book chains : List ℕ) (ask : Ask) (class : ℕ) where
  pub record Holds (call : CheckedCall) : Type 0 where
    pub contacts_same : call.plan.tables.contacts.now ≡ contacts
    pub contact_count_same : call.plan.tables.contact_count ≡ m
    pub ranges_same : call.plan.tables.ranges.now ≡ ranges
    pub range_count_same : call.plan.tables.range_count ≡ n
    pub places_same : call.book.places.now ≡ book
    pub chains_same : call.book.chains.now ≡ chains
    pub ask_same : call.ask.asked ≡ ask
    pub class_same : call.class ≡ class

  pub data Checked : Result CheckedCall Refusal → Type 0 where
    no_plan : (IsPlan contacts m ranges n → ⊥) → Checked (Err NoPlan)
    no_book : IsPlan contacts m ranges n → (IsBook m book chains → ⊥) → Checked (Err NoPlan)
    bad_ask : IsPlan contacts m ranges n → IsBook m book chains → (GoodAsk ask → ⊥) → Checked (Err AskValue)
    bad_class : IsPlan contacts m ranges n → IsBook m book chains → GoodAsk ask → (GoodClass class → ⊥) → Checked (Err BadClass)
    same_node : IsPlan contacts m ranges n → IsBook m book chains → GoodAsk ask → GoodClass class → ask.source.0 ≡ ask.destination.0
        → Checked (Err SameNode)
    all_good : {call : CheckedCall} → Good contacts m ranges n book chains ask class → Holds call → Checked (Ok call)

pub record SaidCall : Type 0 where
  pub contacts : List ℕ
  pub contact_count : ℕ
  pub ranges : List ℕ
  pub range_count : ℕ
  pub places : List ℕ
  pub chains : List ℕ
  pub ask : Ask
  pub class : ℕ

abbrev pub call_said : CheckedCall → SaidCall
call_said call = record {
  contacts = call.plan.tables.contacts.now;
  contact_count = call.plan.tables.contact_count;
  ranges = call.plan.tables.ranges.now;
  range_count = call.plan.tables.range_count;
  places = call.book.places.now;
  chains = call.book.chains.now;
  ask = call.ask.asked;
  class = call.class;
}

abbrev pub said : Result CheckedCall Refusal → Result SaidCall Refusal
said (Ok call) = Ok (call_said call)
said (Err why) = Err why
