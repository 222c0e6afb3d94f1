-- A root with two children (specs/Sides.antt, `TwoSides`): the right one's place is that of a record, and its number is
-- how many records the left one has; which spots have such a root.
use mathlib.Core.Path.{◌≡◌, ap, sym, ◌∙◌}
use Prim.Native.Nat.{ℕ, ◌+◌, ◌*◌, ◌%◌, ◌≤◌}
use native.Mathlib.Omega.{arith}
use mathlib.Core.List.{List}
use mathlib.Core.Bool.{true}
use Rattle.record.specs.Fields.{kind, size, arity}
use Rattle.record.specs.Span.{cut, left}
use Rattle.record.proofs.FieldsLaws.{arity_two}
use Rattle.record.proofs.SizedLaws.{sized_big}
use Rattle.record.proofs.PlaceLaws.{right_whole, right_number}
use Rattle.ways.specs.declared.side.Spot.{Spot}
use Rattle.ways.specs.Spans.{span_of}
use Rattle.ways.specs.Sides.{tree_at, AtSpot, is_binary, TwoSides}
use Rattle.ways.proofs.PartLaws.{length_span}
use Rattle.ways.proofs.SpanOfLaws.{span_sized, binary_zero, binary_one}

module _ {file : List ℕ} {x : Spot} (h : TwoSides file x) where
  abbrev span : List ℕ
  span = span_of file x.start x.end

  pub two_root : x.start + 16 ≤ x.end
  two_root = omega (arith, length_span file x.start x.end h.inside, sized_big span h.whole)

  -- i is where the right child begins, as `record::cut` gives it, and n its number, as `record::number_of` does
  pub two_whole : {i : ℕ} {t : List ℕ} → t ≡ span_of file x.start x.end → i ≡ cut t → i % 16 ≡ 0
  two_whole et ei = right_whole span h.whole (sym h.two) (omega arith) (omega arith) (ei ∙ ap cut et)

  pub two_number : {i n : ℕ} {t : List ℕ} → t ≡ span_of file x.start x.end → i ≡ cut t → 16 * n ≡ i
      → n ≡ size (left (span_of file x.start x.end))
  two_number et ei en = right_number span h.whole (sym h.two) (omega arith) (omega arith) (ei ∙ ap cut et) en

-- a spot whose root has two children
module _ {w : ℕ} {file marks : List ℕ} {x : Spot} (at : AtSpot w file marks x) where
  spot_sides : arity (kind (span_of file x.start x.end)) ≡ 2 → TwoSides file x
  spot_sides a =
      record { rising = at.span.rising; inside = at.span.inside; whole = span_sized at.span; two = a }

  pub add_sides : kind (span_of file x.start x.end) ≡ 2 → TwoSides file x
  unfolding arity
  add_sides hk = spot_sides (ap arity hk)

  pub binary_sides : is_binary (tree_at file x) ≡ true → TwoSides file x
  binary_sides two = spot_sides (arity_two _ (binary_zero at.span two) (binary_one at.span two))
