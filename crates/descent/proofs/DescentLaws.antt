-- A smaller spot of the file (ways/specs/Sides.antt, SideAt): a side of a spot's tree is a spot again, with its part of
-- the marks, and what was asked for the one holds for the other.
use mathlib.Core.Path.{◌≡◌, ap, sym, ◌∙◌}
use Prim.Native.Nat.{ℕ, ◌<◌}
use native.Mathlib.Omega.{arith}
use mathlib.Core.List.{List}
use mathlib.Core.Bool.{Bool}
use Rattle.record.specs.Fields.{size}
use Rattle.record.specs.Tree.{size_of}
use Rattle.ways.specs.declared.side.Spot.{Spot}
use Rattle.descent.specs.declared.collect.Atom.{Atom}
use Rattle.descent.specs.declared.collect.Descent.{Descent}
use Rattle.ways.specs.declared.side.Side.{Side}
use Rattle.ways.specs.Marks.{marks_of}
use Rattle.ways.specs.Spans.{span_of}
use Rattle.rules_laws.specs.Descend.{descend}
use Rattle.std.specs.Prelude.{Option}
use Rattle.descent.specs.Spots.{Collects, Ready}
use Rattle.ways.specs.Sides.{tree_at, AtSpot, SideAt, side_tree}
use Rattle.ways.proofs.SpanOfLaws.{size_sized, span_sized}
use Rattle.descent.proofs.CollectsLaws.{ready_less}

-- all that is collected at the spot x
abbrev pub AllOf : Bool → ℕ → List ℕ → Spot → List Atom → Descent → List Atom → Option Descent → Type 0
AllOf nots w file x a d b r =
    Collects w file (size_of (tree_at file x)) (descend nots w x.coeff (tree_at file x)) a d b r

-- the spot of a side b under a coefficient c
abbrev pub SpotOf : ℕ → Side → Spot → Type 0
SpotOf c b y = y ≡ record { coeff = c; start = b.start; end = b.end }

-- a side of the tree of the spot x
pub record Down (w : ℕ) (file marks : List ℕ) (x : Spot) (b : Side) : Type 0 where
  pub side : SideAt w file marks x.start b
  pub smaller : size_of (side_tree file b) < size_of (tree_at file x)

-- the spot y of a side b under a coefficient c
module _ {w : ℕ} {file marks : List ℕ} {x : Spot} (at : AtSpot w file marks x) {b : Side}
    (down : Down w file marks x b) {c : ℕ} {y : Spot}
    (ey : y ≡ record { coeff = c; start = b.start; end = b.end }) where
  down_tree : tree_at file y ≡ side_tree file b
  down_tree = ap (tree_at file) ey

  pub down_spot : {m : List ℕ} → m ≡ span_of marks b.from b.to → AtSpot w file m y
  down_spot em =
      record {
        span = rw ey down.side.span;
        marks_are = em ∙ down.side.marks_are ∙ sym (ap (λ (z : Spot). marks_of (tree_at file z)) ey);
      }

  pub down_falls : size (span_of file y.start y.end) < size (span_of file x.start x.end)
  down_falls =
      let big = size_sized _ (span_sized at.span) in
      let small = size_sized _ (span_sized down.side.span) in
      rw ey (omega (arith, big, small, down.smaller))

  pub down_ready : {spots : List Atom} {d : Descent} → Ready w (size_of (tree_at file x)) spots d
      → Ready w (size_of (tree_at file y)) spots d
  down_ready ready = ready_less (size_of (tree_at file y)) (omega (arith, ap size_of down_tree, down.smaller)) ready
