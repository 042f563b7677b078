-- Contacts and ranges are rows: the proofs of the laws. A reader of the promises may skip it.
-- Assumes nothing.
use Rattle.std.specs.Prelude.{true, ◌≡◌, ◌&&◌, refl}
use Rattle.std.proofs.Math.Bool.{Bool}
use Rattle.std.proofs.lemmas.Bool.{and_parts}
use borrow.Author.Tests.{ltb-true, leb-true}
use Rattle.units.specs.declared.NodeNo.{NodeNo}
use Rattle.units.specs.Limits.{IsNode, most_nodes}
use Rattle.units.specs.Model.{is_node}
use Rattle.plan.specs.Model.{good_contact, good_range}
use Rattle.plan.specs.Plan.{contact_span, range_span}
use Rattle.plan.specs.Rows.{RowLaws, contact_words, range_words}
use Rattle.plan.specs.Tables.{contact_at, range_at}

node_tested : (n : NodeNo) → is_node n ≡ true → IsNode n
node_tested n e =
    let parts = and_parts _ _ e in
    record { least = leb-true 1 n.0 parts.0; most = leb-true n.0 most_nodes parts.1 }

-- the first of several tests
first : (a b : Bool) → (a && b) ≡ true → a ≡ true
first a b e = (and_parts a b e).0

second : (a b : Bool) → (a && b) ≡ true → b ≡ true
second a b e = (and_parts a b e).1

pub contact_laws : RowLaws contact_at contact_span good_contact contact_words
contact_laws = record {
  spans = λ t k. refl;
  good_span = λ c e.
      let nodes = first _ _ (first _ _ (first _ _ e)) in
      let times = first _ _ (first _ _ nodes) in
      record {
        starts = ltb-true c.start.0 c.end.0 (first _ _ times);
        one_node = node_tested c.from (second _ _ (first _ _ nodes));
        other_node = node_tested c.to (second _ _ nodes);
      };
  read_back = λ t k c h. λ i. record {
    start = record { 0 = h.word_0 i };
    end = record { 0 = h.word_1 i };
    from = record { 0 = h.word_2 i };
    to = record { 0 = h.word_3 i };
    rate = h.word_4 i;
  };
  has_words = λ t k. record { word_0 = refl; word_1 = refl; word_2 = refl; word_3 = refl; word_4 = refl };
}

pub range_laws : RowLaws range_at range_span good_range range_words
range_laws = record {
  spans = λ t k. refl;
  good_span = λ r e.
      let nodes = first _ _ (first _ _ e) in
      let times = first _ _ (first _ _ nodes) in
      record {
        starts = ltb-true r.start.0 r.end.0 (first _ _ times);
        one_node = node_tested r.a (second _ _ (first _ _ nodes));
        other_node = node_tested r.b (second _ _ nodes);
      };
  read_back = λ t k r h. λ i. record {
    start = record { 0 = h.word_0 i };
    end = record { 0 = h.word_1 i };
    a = record { 0 = h.word_2 i };
    b = record { 0 = h.word_3 i };
    light = record { 0 = h.word_4 i };
  };
  has_words = λ t k. record { word_0 = refl; word_1 = refl; word_2 = refl; word_3 = refl; word_4 = refl };
}
