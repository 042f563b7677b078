-- What a service is once what is used of its contacts is taken from what is left on them.
--     spent_serves      the plan as it serves an ask where so much is used
-- Assumes nothing.
use mathlib.Core.List.{List}
use mathlib.Core.Path.{◌≡◌, sym, ap, ap₂, ◌∙◌}
use Prim.Native.Nat.{ℕ, suc, ◌+◌, ◌-◌, ◌<◌}
use native.Mathlib.Nat.{zero-add, sub-zero}
use native.Mathlib.Omega.{arith}
use lib.ListN.{length, get_or}
use Rattle.plan.specs.declared.rows.Contact.{Contact}
use Rattle.plan.specs.Plan.{Plan}
use Rattle.plan.specs.Tables.{contact_at, rows_from}
use Rattle.plan.proofs.RowList.{length_rows, get_d_rows}
use Rattle.service.specs.Service.{Service, blank, volume, lefts_from, service_of, unused}
use Rattle.service.specs.Tables.{left_at, served}
use Rattle.service.proofs.ServiceLaws.{rows_are, length_lefts, get_d_lefts}

-- what is used of a contact is taken from what is left of it where nothing is used
lefts_spent : (used : ℕ → ℕ) (n : ℕ) (cs : List Contact) (k : ℕ) → k < length cs
    → get_or (lefts_from unused n cs) k 0 - used (n + k) ≡ get_or (lefts_from used n cs) k 0
lefts_spent used n cs k h =
    ap (λ (left : ℕ). left - used (n + k)) (get_d_lefts unused n cs k h ∙ sub-zero (volume (get_or cs k blank))) ∙ sym (get_d_lefts used n cs k h)

pub spent_serves : (contacts : List ℕ) (m : ℕ) (lights before after : List ℕ) (p : Plan) (used : ℕ → ℕ) → served contacts m lights before ≡ service_of p unused
    → ((k : ℕ) → k < m → get_or after k 0 ≡ get_or before k 0 - used (suc k)) → served contacts m lights after ≡ service_of p used
unfolding served service_of
spent_serves contacts m lights before after p used e spent = λ i. record { contacts = rows_held i; lights = (e i).lights; lefts = lefts_held i }
  where
    rows_held : rows_from (contact_at contacts) 0 m ≡ p.contacts
    rows_held = ap (λ (s : Service). s.contacts) e

    counted : length p.contacts ≡ m
    counted = sym (ap (λ (rows : List Contact). length rows) rows_held) ∙ length_rows (contact_at contacts) 0 m

    left_before : (k : ℕ) → k < m → left_at before k ≡ get_or (lefts_from unused 1 p.contacts) k 0
    left_before k h =
        sym (get_d_rows (left_at before) 0 m k 0 h ∙ ap (left_at before) (zero-add k)) ∙ ap (λ (s : Service). get_or s.lefts k 0) e

    lefts_held : rows_from (left_at after) 0 m ≡ lefts_from used 1 p.contacts
    lefts_held =
        rows_are (left_at after) m (lefts_from used 1 p.contacts) 0 (length_lefts used 1 p.contacts ∙ counted)
        (λ k h.
        let next : suc k ≡ 1 + k = omega arith in
        spent k h ∙ ap₂ (λ (a b : ℕ). a - used b) (left_before k h) next ∙ lefts_spent used 1 p.contacts k (rw counted h))
