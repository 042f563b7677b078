-- What a checked call gives, said of the tables, the ask and the class that were checked.
--     call_served                the plan with its book, as it serves the class
--     call_walked, call_routed   a chain timed over it, and the best chain over it
--     call_good, call_holds      of its own tables all is good, and it is a call of them
-- Assumes nothing.
use mathlib.Core.List.{List}
use mathlib.Core.Path.{◌≡◌, refl, sym, ◌∙◌, subst, subst₂}
use Prim.Native.Nat.{ℕ}
use Rattle.std.specs.Prelude.{Result}
use Rattle.units.specs.declared.Ask.{Ask}
use Rattle.units.specs.declared.Refusal.{Refusal}
use Rattle.plan.specs.Tables.{plan_of}
use Rattle.service.proofs.ServiceLaws.{service_sound}
use Rattle.book.specs.Book.{used}
use Rattle.book.specs.Tables.{IsBook, book_of}
use Rattle.walk.specs.declared.figures.Figures.{Figures}
use Rattle.walk.specs.Model.{walk_model}
use Rattle.walk.specs.Walk.{WalksPlan}
use Rattle.walk.proofs.Theorems.{walk_model_walks}
use Rattle.search.specs.declared.answer.Best.{Best}
use Rattle.search.specs.Model.{route_model, route_after}
use Rattle.search.specs.Route.{RoutesPlan}
use Rattle.search.proofs.Theorems.{route_model_routes}
use Rattle.calls.specs.Booked.{with_book, Good}
use Rattle.calls.specs.Checks.{Holds}
use Rattle.calls.specs.Model.{service_for}
use Rattle.calls.specs.declared.call.CheckedCall.{CheckedCall}

module _ {contacts : List ℕ} {m : ℕ} {ranges : List ℕ} {n : ℕ} {book chains : List ℕ} {ask : Ask} {class : ℕ} {call : CheckedCall}
    (same : Holds contacts m ranges n book chains ask class call) where
  pub call_served : service_for call ≡ with_book (plan_of contacts m ranges n) (book_of book chains) class
  call_served =
      λ i.
      with_book (plan_of (same.contacts_same i) (same.contact_count_same i) (same.ranges_same i) (same.range_count_same i))
      (book_of (same.places_same i) (same.chains_same i)) (same.class_same i)

  module _ (good : Good contacts m ranges n book chains ask class) where
    pub call_walked : {chain : List ℕ} {w : Result Figures Refusal} → w ≡ walk_model (service_for call) call.ask.asked chain
        → WalksPlan (with_book (plan_of contacts m ranges n) (book_of book chains) class) ask chain w
    call_walked {chain} e =
        subst (WalksPlan _ _ _) (sym (e ∙ λ i. walk_model (call_served i) (same.ask_same i) chain))
        (walk_model_walks _ _ _ (service_sound _ good.plan.valid (used (book_of book chains) class)) good.ask_is_good good.differ)

    pub call_routed : {before after : List ℕ} {r : Result Best Refusal} → r ≡ route_model (service_for call) call.ask.asked
        → after ≡ route_after (service_for call) call.ask.asked before
        → RoutesPlan (with_book (plan_of contacts m ranges n) (book_of book chains) class) ask before r after
    call_routed {before} e f =
        subst₂ (RoutesPlan _ _ _) (sym (e ∙ λ i. route_model (call_served i) (same.ask_same i)))
        (sym (f ∙ λ i. route_after (call_served i) (same.ask_same i) before))
        (route_model_routes _ _ _ (service_sound _ good.plan.valid (used (book_of book chains) class)) good.ask_is_good good.differ)

-- ---- said of its own tables

module _ (call : CheckedCall) where
  pub call_good : Good call.plan.tables.contacts.now call.plan.tables.contact_count call.plan.tables.ranges.now call.plan.tables.range_count
      call.book.places.now call.book.chains.now call.ask.asked call.class
  call_good = record {
    plan = call.plan.valid;
    its_book = subst (λ (m : ℕ). IsBook m call.book.places.now call.book.chains.now) call.same_count call.book.good;
    ask_is_good = call.ask.good;
    good_class = call.good_class;
    differ = call.differ;
  }

  pub call_holds : Holds call.plan.tables.contacts.now call.plan.tables.contact_count call.plan.tables.ranges.now call.plan.tables.range_count
      call.book.places.now call.book.chains.now call.ask.asked call.class call
  call_holds = record {
    contacts_same = refl;
    contact_count_same = refl;
    ranges_same = refl;
    range_count_same = refl;
    places_same = refl;
    chains_same = refl;
    ask_same = refl;
    class_same = refl;
  }
