-- The words of what each call tells keep the laws: the proofs. A reader of the promises may skip it.
-- Assumes nothing.
use Rattle.std.specs.Prelude.{◌≡◌, ℕ, refl}
use Rattle.std.proofs.Common.{arith}
use Rattle.walk.specs.declared.figures.Figures.{Figures}
use Rattle.board_face.specs.Layout.{answer_words, booked_words, count_words, length_words, figure_words, best_words, place_words, no_words}
use Rattle.board_face.specs.WordLaws.{WordLaws}

same_figures : (f g : Figures) → f.delivery.0 ≡ g.delivery.0 → f.opens.0 ≡ g.opens.0 → f.last_call.0 ≡ g.last_call.0 → f.room ≡ g.room → f ≡ g
same_figures f g d o l m i = record { delivery = record { 0 = d i }; opens = record { 0 = o i }; last_call = record { 0 = l i }; room = m i }

pub count_laws : WordLaws count_words answer_words
unfolding answer_words
count_laws = record {
  told_apart = λ x y e. let m : x.contacts ≡ y.contacts = cc in let n : x.ranges ≡ y.ranges = cc in λ i. record { contacts = m i; ranges = n i };
  fits = λ x. omega arith;
  least = omega arith;
}

pub length_laws : WordLaws length_words answer_words
unfolding answer_words
length_laws = record { told_apart = λ x y e. cc; fits = λ x. omega arith; least = omega arith }

pub figure_laws : WordLaws figure_words answer_words
unfolding answer_words
figure_laws = record {
  told_apart = λ f g e. same_figures f g (cc) (cc) (cc) (cc);
  fits = λ f. omega arith;
  least = omega arith;
}

pub best_laws : WordLaws best_words answer_words
unfolding answer_words
best_laws = record {
  told_apart = λ x y e.
      let f = same_figures x.figures y.figures (cc) (cc) (cc) (cc) in
      let n : x.count ≡ y.count = cc in
      λ i. record { figures = f i; count = n i };
  fits = λ x. omega arith;
  least = omega arith;
}

pub place_laws : WordLaws place_words booked_words
unfolding booked_words
place_laws = record {
  told_apart = λ x y e.
      let f = same_figures x.figures y.figures (cc) (cc) (cc) (cc) in
      let n : x.count ≡ y.count = cc in
      let p : x.place ≡ y.place = cc in
      λ i. record { figures = f i; count = n i; place = p i };
  fits = λ x. omega arith;
  least = omega arith;
}

pub no_laws : WordLaws no_words answer_words
unfolding answer_words
no_laws = record { told_apart = λ x y e. refl; fits = λ x. omega arith; least = omega arith }
