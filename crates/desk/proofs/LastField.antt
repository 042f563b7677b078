-- The last field of a line, by the bytes that the line ends in.
--     ends_tells      bytes end in those exactly where they are some bytes and then those
--     last_tells      a line's last field has those bytes exactly where the line ends in a tab and them
-- Assumes nothing.
use mathlib.Core.Bool.{Bool, true, false}
use mathlib.Core.List.{List, [], ◌∷◌, ◌++◌, append-nil, append_assoc}
use mathlib.Core.Path.{◌≡◌, refl, sym, ap, ap₂, ◌∙◌}
use Prim.Native.Nat.{ℕ, suc, ◌-◌}
use native.Mathlib.Omega.{arith}
use borrow.Author.Tests.{eqb-true}
use lib.Dec.{eqb}
use lib.ListN.{length, get_or, take, drop, length-append, take-append-drop, drop_of_length-le}
use lib.Seq.{split_at, drop_at, get_or_at}
use Rattle.plan.specs.Verdict.{Verdict}
use Rattle.plan.proofs.Verdicts.{restated}
use Rattle.text.specs.Lines.{tab, fronted, glue_fields}
use Rattle.text.specs.Model.{line_in, up_to}
use Rattle.text.proofs.Cuts.{line_left}
use Rattle.text.proofs.Shapes.{same_tells}
use Rattle.desk.specs.AskModel.{ends_in}

pub ends_tells : (tail bytes : List ℕ) → Verdict ((front : List ℕ) × (bytes ≡ front ++ tail)) (ends_in tail bytes)
unfolding ends_in
ends_tells tail bytes = restated to from (same_tells (drop at bytes) tail)
  where
    at : ℕ
    at = length bytes - length tail

    to : drop at bytes ≡ tail → (front : List ℕ) × (bytes ≡ front ++ tail)
    to e = (take at bytes, sym (take-append-drop at bytes) ∙ ap (λ (bs : List ℕ). take at bytes ++ bs) e)

    from : (front : List ℕ) × (bytes ≡ front ++ tail) → drop at bytes ≡ tail
    from (front, e) = ap (drop at) e ∙ drop_at front tail at (omega (arith, ap length e, length-append front tail))

-- the bytes of a line are its word and its fields, glued
line_glued : (bs : List ℕ) (ended : Bool) → (line_in bs ended).word ++ glue_fields (line_in bs ended).fields ≡ bs
unfolding line_in fronted glue_fields
line_glued [] ended = refl
line_glued (b ∷ bs) ended = go (eqb b tab) refl (line_glued bs ended)
  where
    go : (t : Bool) → eqb b tab ≡ t → (line_in bs ended).word ++ glue_fields (line_in bs ended).fields ≡ bs
        → (fronted b (line_in bs ended)).word ++ glue_fields (fronted b (line_in bs ended)).fields ≡ b ∷ bs
    go true e h = rw (e, eqb-true b tab e) (ap (λ (r : List ℕ). tab ∷ r) h)
    go false e h = rw e (ap (λ (r : List ℕ). b ∷ r) h)

fields_glued : (fs gs : List (List ℕ)) → glue_fields (fs ++ gs) ≡ glue_fields fs ++ glue_fields gs
unfolding glue_fields
fields_glued [] gs = refl
fields_glued (f ∷ fs) gs = rw (fields_glued fs gs) (ap (λ (r : List ℕ). tab ∷ r) (sym (append_assoc f (glue_fields fs) (glue_fields gs))))

module _ (last : List ℕ) (ended : Bool) (no-tab : up_to tab last ≡ length last) where
  behind_tab : (front : List ℕ) → (fs : List (List ℕ)) × ((line_in (front ++ tab ∷ last) ended).fields ≡ fs ++ last ∷ [])
  unfolding line_in fronted
  behind_tab [] = ([], rw (line_left last ended no-tab))
  behind_tab (b ∷ front) = go (eqb b tab) refl (behind_tab front)
    where
      go : (t : Bool) → eqb b tab ≡ t → (fs : List (List ℕ)) × ((line_in (front ++ tab ∷ last) ended).fields ≡ fs ++ last ∷ [])
          → (fs : List (List ℕ)) × ((line_in ((b ∷ front) ++ tab ∷ last) ended).fields ≡ fs ++ last ∷ [])
      go true e (fs, h) = ((line_in (front ++ tab ∷ last) ended).word ∷ fs, rw (e, h))
      go false e (fs, h) = (fs, rw e h)

  module _ (bs : List ℕ) (k : ℕ) (counted : length (line_in bs ended).fields ≡ suc k) where
    pub last_tells : Verdict (get_or (line_in bs ended).fields k [] ≡ last) (ends_in (tab ∷ last) bs)
    unfolding glue_fields
    last_tells = restated to from (ends_tells (tab ∷ last) bs)
      where
        fields : List (List ℕ)
        fields = (line_in bs ended).fields

        word : List ℕ
        word = (line_in bs ended).word

        to : (front : List ℕ) × (bs ≡ front ++ tab ∷ last) → get_or fields k [] ≡ last
        to (front, e) =
            let those = behind_tab front in
            let is : fields ≡ those.0 ++ last ∷ [] = ap (λ (b : List ℕ). (line_in b ended).fields) e ∙ those.1 in
            ap (λ (fs : List (List ℕ)). get_or fs k []) is
            ∙ get_or_at those.0 last [] [] k (omega (arith, ap length is, length-append those.0 (last ∷ [])))

        from : get_or fields k [] ≡ last → (front : List ℕ) × (bs ≡ front ++ tab ∷ last)
        from e =
            let fronts : List (List ℕ) = take k fields in
            let no_more : drop (suc k) fields ≡ [] = drop_of_length-le fields {i = suc k} (omega arith) in
            let is : fields ≡ fronts ++ last ∷ [] =
            split_at fields k [] (omega arith) ∙ ap₂ (λ (f : List ℕ) (fs : List (List ℕ)). fronts ++ f ∷ fs) e no_more
            in
            let glued : glue_fields (last ∷ []) ≡ tab ∷ last = ap (λ (r : List ℕ). tab ∷ r) (append-nil last) in (
              word ++ glue_fields fronts,
              sym (line_glued bs ended)
                  ∙ ap (λ (fs : List (List ℕ)). word ++ glue_fields fs) is
                  ∙ ap (λ (r : List ℕ). word ++ r) (fields_glued fronts (last ∷ []) ∙ ap (λ (r : List ℕ). glue_fields fronts ++ r) glued)
                  ∙ sym (append_assoc word (glue_fields fronts) (tab ∷ last)),
            )
