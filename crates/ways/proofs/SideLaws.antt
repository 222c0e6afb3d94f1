-- The sides of a root with two children (specs/Sides.antt, `OneSide`): their trees, marks and spans, and which
-- of the three cases holds by the marks of the two; and that their numbers, times 16, are their byte places.
use mathlib.Core.Path.{◌≡◌, refl, ap, sym, ◌∙◌}
use Prim.Native.Nat.{ℕ, ◌+◌, ◌-◌, ◌*◌, ◌≤◌}
use native.Mathlib.Omega.{arith}
use native.Mathlib.Nat.{sub-zero}
use mathlib.Core.List.{List, []}
use mathlib.Core.Bool.{Bool, true, false}
use lib.ListN.{length, get_or, take, drop}
use Rattle.record.specs.Fields.{kind, size}
use Rattle.record.specs.Tree.{Tree, size_of}
use Rattle.record.specs.Tree.Tree.{Binary}
use Rattle.record.specs.Span.{cut, left, right, sized}
use Rattle.record.specs.Decode.{decode}
use Rattle.record.proofs.EncodeLaws.{size_of_pos}
use Rattle.record.proofs.DecodeLaws.{decode_two, child_left, child_right}
use Rattle.record.proofs.PlaceLaws.{left_bytes}
use Rattle.expr_utils.specs.Utils.{has_var_dep, has_arith}
use Rattle.expr.specs.Value.{value}
use Rattle.ways.specs.declared.side.Spot.{Spot}
use Rattle.ways.specs.declared.side.Side.{Side}
use Rattle.ways.specs.Marks.{marks_of, mark_of, mark_variable, mark_arith}
use Rattle.ways.specs.Spans.{span_of}
use Rattle.ways.specs.Sides.{tree_at, AtSpot, SideAt, side_tree, OneSide, is_binary, left_of, right_of}
use Rattle.ways.proofs.MarksLaws.{length_marks, left_mark, right_mark, left_marks, right_marks}
use Rattle.ways.proofs.MarksLaws.{root_mark_lem, mark_variable_lem, mark_arith_lem}
use Rattle.ways.proofs.SpanOfLaws.{size_sized, span_sized, binary_zero, binary_one}
use Rattle.ways.proofs.SpanOfLaws.{left_accepted, right_accepted, left_span, right_span}
use Rattle.ways.proofs.SpanOfLaws.{span_big, span_records}
use Rattle.ways.proofs.TwoSidesLaws.{two_number, binary_sides}

-- a tree has as many marks as records
module _ {w : ℕ} {file marks : List ℕ} {x : Spot} (at : AtSpot w file marks x) where
  pub spot_marks : length marks ≡ size_of (tree_at file x)
  spot_marks = ap length at.marks_are ∙ length_marks (tree_at file x)

  -- and 16 bytes for each
  pub spot_places : x.start + 16 * length marks ≡ x.end
  spot_places = omega (arith, spot_marks, span_records at.span, at.span.rising)

  pub spot_some : 1 ≤ length marks
  spot_some = omega (arith, spot_marks, size_of_pos (tree_at file x))

  -- its own mark, the last, as the code reads it
  pub own_mark : get_or marks (length marks - 1) 0 ≡ mark_of (tree_at file x)
  own_mark =
      ap (λ (m : List ℕ). get_or m (length marks - 1) 0) at.marks_are
      ∙ root_mark_lem (tree_at file x) (length marks - 1) (omega (arith, spot_marks, size_of_pos (tree_at file x)))

  pub spot_variable : {b v : Bool} → b ≡ mark_variable (get_or marks (length marks - 1) 0) → b ≡ v
      → has_var_dep (tree_at file x) ≡ v
  spot_variable h e = sym (ap mark_variable own_mark ∙ mark_variable_lem (tree_at file x)) ∙ sym h ∙ e

  pub spot_arith : {b v : Bool} → b ≡ mark_arith (get_or marks (length marks - 1) 0) → b ≡ v
      → has_arith (tree_at file x) ≡ v
  spot_arith h e = sym (ap mark_arith own_mark ∙ mark_arith_lem (tree_at file x)) ∙ sym h ∙ e

-- a root with two children
module _ {w : ℕ} {file marks : List ℕ} {x : Spot} (at : AtSpot w file marks x)
    (two : is_binary (tree_at file x) ≡ true) where
  abbrev span : List ℕ
  span = span_of file x.start x.end

  abbrev l : Tree
  l = left_of (tree_at file x)

  abbrev r : Tree
  r = right_of (tree_at file x)

  tree_is : tree_at file x ≡ Binary (kind span) (decode (left span)) (decode (right span))
  tree_is =
      decode_two span (span_sized at.span) refl (binary_zero at.span two) (binary_one at.span two) refl refl

  left_tree : decode (left span) ≡ l
  unfolding left_of
  left_tree = sym (ap left_of tree_is)

  right_tree : decode (right span) ≡ r
  unfolding right_of
  right_tree = sym (ap right_of tree_is)

  pub left_sized : {s : List ℕ} → s ≡ left span → sized s ≡ true
  left_sized e =
      (child_left span (span_sized at.span) refl (binary_zero at.span two) (binary_one at.span two) e).ok

  pub right_sized : {s : List ℕ} → s ≡ right span → sized s ≡ true
  right_sized e =
      (child_right span (span_sized at.span) refl (binary_zero at.span two) (binary_one at.span two) e).ok

  pub left_size : {n : ℕ} {s : List ℕ} → n ≡ size s → s ≡ left span → n ≡ size_of l
  left_size {n} {s} h e = h ∙ size_sized s (left_sized e) ∙ ap size_of (ap decode e ∙ left_tree)

  left_bytes_are : 16 * size_of l ≡ cut span
  left_bytes_are =
      let p = binary_zero at.span two in
      let q = binary_one at.span two in
      omega (arith, left_bytes span (span_sized at.span) refl p q, left_size refl refl)

  -- the number of the right side's first record, by its place
  pub right_number_is : {i n : ℕ} → i ≡ cut span → 16 * n ≡ i → n ≡ size_of l
  right_number_is ei en = left_size (two_number (binary_sides at two) refl ei en) refl

  pub left_value : {v : ℕ} {s : List ℕ} → v ≡ value w [] (decode s) → s ≡ left span → v ≡ value w [] l
  left_value h e = h ∙ ap (value w []) (ap decode e ∙ left_tree)

  pub right_value : {v : ℕ} {s : List ℕ} → v ≡ value w [] (decode s) → s ≡ right span → v ≡ value w [] r
  right_value h e = h ∙ ap (value w []) (ap decode e ∙ right_tree)

  pub split : tree_at file x ≡ Binary (kind span) l r
  split = tree_is ∙ cc (left_tree, right_tree)

  pub sides_size : length marks ≡ size_of l + size_of r + 1
  unfolding size_of
  sides_size = spot_marks at ∙ ap size_of split

  all_marks : marks ≡ marks_of (Binary (kind span) l r)
  all_marks = at.marks_are ∙ ap marks_of split

  pub sides_pos : (1 ≤ size_of l) × (1 ≤ size_of r)
  sides_pos = (size_of_pos l, size_of_pos r)

  -- the tests of the sides' marks, as the code reads them
  pub left_variable : {n : ℕ} {b : Bool} → n ≡ size_of l → b ≡ mark_variable (get_or marks (n - 1) 0) → b ≡ has_var_dep l
  left_variable {n} e h =
      h
      ∙ ap (λ (m : List ℕ). mark_variable (get_or m (n - 1) 0)) all_marks
      ∙ ap mark_variable (left_mark (kind span) l r (n - 1) (omega (arith, sides_pos.0)))
      ∙ mark_variable_lem l

  pub right_variable : {b : Bool} → b ≡ mark_variable (get_or marks (length marks - 1 - 1) 0) → b ≡ has_var_dep r
  right_variable h =
      h
      ∙ ap (λ (m : List ℕ). mark_variable (get_or m (length marks - 1 - 1) 0)) all_marks
      ∙ ap mark_variable
      (right_mark (kind span) l r (length marks - 1 - 1) (omega (arith, sides_size, sides_pos.0, sides_pos.1)))
      ∙ mark_variable_lem r

  -- i is where the right side's span begins in the root's, n how many records the left side has
  module _ {i n : ℕ} (ei : i ≡ cut span) (en : n ≡ size_of l) (v : ℕ) where
    abbrev left_side : Side
    left_side = record { start = x.start; end = x.start + i; from = 0; to = n; value = v }

    abbrev right_side : Side
    right_side =
        record { start = x.start + i; end = x.end - 16; from = n; to = length marks - 1; value = v }

    pub left_side_tree : side_tree file left_side ≡ l
    left_side_tree =
        ap (λ (j : ℕ). decode (span_of file x.start (x.start + j))) ei
        ∙ ap decode
        (sym (left_span file x.start x.end at.span.rising at.span.inside (span_big at.span)))
        ∙ left_tree

    pub right_side_tree : side_tree file right_side ≡ r
    right_side_tree =
        ap (λ (j : ℕ). decode (span_of file (x.start + j) (x.end - 16))) ei
        ∙ ap decode
        (sym (right_span file x.start x.end at.span.rising at.span.inside (span_big at.span)))
        ∙ right_tree

    pub left_side_lem : SideAt w file marks x.start left_side
    unfolding span_of
    left_side_lem =
        record {
          span = rw ei (left_accepted at.span refl (binary_zero at.span two) (binary_one at.span two));
          from_le = omega arith;
          to_le = omega (arith, sides_size);
          marks_are =
              rw sub-zero
              (ap (take n) all_marks ∙ left_marks (kind span) l r n en ∙ ap marks_of (sym left_side_tree));
          places = record { from_place = omega arith; to_place = omega (arith, left_bytes_are) };
        }

    pub right_side_lem : SideAt w file marks x.start right_side
    unfolding span_of
    right_side_lem =
        let count : length marks - 1 - n ≡ size_of r = omega (arith, sides_size) in
        record {
          span = rw ei (right_accepted at.span refl (binary_zero at.span two) (binary_one at.span two));
          from_le = omega (arith, sides_size);
          to_le = omega arith;
          marks_are =
              ap (λ (j : ℕ). take (length marks - 1 - n) (drop j marks)) en
              ∙ ap (λ (b : List ℕ). take (length marks - 1 - n) (drop (size_of l) b)) all_marks
              ∙ right_marks (kind span) l r (length marks - 1 - n) count
              ∙ ap marks_of (sym right_side_tree);
          places =
              record {
                from_place = omega (arith, left_bytes_are);
                to_place = omega (arith, spot_places at, sides_size);
              };
        }

    pub side_right : has_var_dep l ≡ false → v ≡ value w [] l → OneSide w file marks x.start l r right_side
    side_right h ev = OneSide.at_right h right_side_tree ev right_side_lem

    pub side_left : has_var_dep l ≡ true → has_var_dep r ≡ false → v ≡ value w [] r
        → OneSide w file marks x.start l r left_side
    side_left hl hr ev = OneSide.at_left hl hr left_side_tree ev left_side_lem
