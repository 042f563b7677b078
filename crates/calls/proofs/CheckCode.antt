-- What the checks know once the plan and the book were looked at.
--     plan_same, plan_holds, plan_fails      the lent tables are those of a checked plan, and hold a valid one; or they hold none
--     book_same, book_holds, book_fails      the same of a book
--     class_good                             a class that is not out of range
-- Assumes nothing.
use Rattle.std.proofs.Common.{◌≡◌, ℕ, List, Some, None, ◌≤◌, refl, sym, subst}
use Rattle.std.proofs.lemmas.Option.{MatchOption-at_none, MatchOption-at_some}
use Rattle.std.specs.Prelude.{Option, is_some, IfSome, MatchOption}
use Rattle.units.specs.Limits.{most_class}
use Rattle.plan.specs.Lent.{HoldPlan}
use Rattle.plan.specs.Verdict.{Verdict}
use Rattle.plan.specs.declared.tables.PlanTables.{PlanTables}
use Rattle.plan.proofs.Verdicts.{false_fails}
use Rattle.plan_valid.specs.declared.checked.CheckedPlan.{CheckedPlan}
use Rattle.book.specs.Tables.{IsBook}
use Rattle.book.specs.declared.books.Book.{Book}
use Rattle.calls.specs.Booked.{GoodClass}

module _ (tables : PlanTables) {r : Option CheckedPlan} (tried : MatchOption r (HoldPlan tables → ⊥) (λ p. p.tables ≡ tables)) where
  pub plan_same : {p : CheckedPlan} → r ≡ Some p → p.tables ≡ tables
  plan_same is = MatchOption-at_some _ _ _ is tried

  pub plan_holds : {p : CheckedPlan} → r ≡ Some p → HoldPlan tables
  plan_holds {p} is = subst HoldPlan (plan_same is) p.valid

  pub plan_fails : r ≡ None → HoldPlan tables → ⊥
  plan_fails is = MatchOption-at_none _ _ is tried

module _ {places chains : List ℕ} {m : ℕ} {r : Option Book} where
  pub book_same : IfSome r (λ b. (b.places.now ≡ places) × (b.chains.now ≡ chains) × (b.contact_count ≡ m)) → {b : Book} → r ≡ Some b
      → (b.places.now ≡ places) × (b.chains.now ≡ chains) × (b.contact_count ≡ m)
  book_same same is = subst (λ (o : Option Book). IfSome o (λ b. (b.places.now ≡ places) × (b.chains.now ≡ chains) × (b.contact_count ≡ m))) is same

  pub book_holds : IfSome r (λ b. (b.places.now ≡ places) × (b.chains.now ≡ chains) × (b.contact_count ≡ m)) → {b : Book} → r ≡ Some b
      → IsBook m places chains
  book_holds same {b} is =
      let parts = book_same same is in
      rw (sym parts.0, sym parts.1, sym parts.2) b.good

  pub book_fails : Verdict (IsBook m places chains) (is_some r) → r ≡ None → IsBook m places chains → ⊥
  book_fails verdict none = false_fails (subst (λ (o : Option Book). Verdict (IsBook m places chains) (is_some o)) none verdict) refl

pub class_good : {class : ℕ} → 1 ≤ class → class ≤ 3 → GoodClass class
unfolding most_class
class_good least most = record { least = least; most = most }
