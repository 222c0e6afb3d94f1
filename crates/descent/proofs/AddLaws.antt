-- An Add at a spot of the file (ways/specs/Sides.antt, AtSpot): both sides are smaller spots, and what is collected at
-- the one and then at the other makes up what is collected here.
use mathlib.Core.Path.{◌≡◌, refl, ap, sym, ◌∙◌}
use Prim.Native.Nat.{ℕ, ◌+◌, ◌≤◌}
use native.Mathlib.Omega.{arith}
use mathlib.Core.List.{List}
use mathlib.Core.Bool.{Bool, true}
use Rattle.record.specs.Fields.{kind, arity}
use Rattle.record.specs.Tree.{size_of}
use Rattle.record.specs.Tree.Tree.{Binary}
use Rattle.expr_utils.specs.Utils.{has_var_dep}
use Rattle.ways.specs.declared.side.Spot.{Spot}
use Rattle.std.specs.Prelude.{Option, None, Some}
use Rattle.descent.specs.declared.collect.Atom.{Atom}
use Rattle.descent.specs.declared.collect.Descent.{Descent}
use Rattle.ways.specs.declared.side.Side.{Side}
use Rattle.normalizer_laws.specs.Collect.{Collected, join_collected}
use Rattle.rules_laws.specs.Descend.{descend}
use Rattle.ways.specs.Spans.{span_of}
use Rattle.descent.specs.Spots.{Collects, Ready}
use Rattle.ways.specs.Sides.{tree_at, AtSpot, side_tree, is_binary, left_of, right_of, left_side, right_side}
use Rattle.ways.specs.Sides.{Collectable}
use Rattle.ways.proofs.SpanOfLaws.{binary_two}
use Rattle.ways.proofs.SideLaws.{left_side_lem, right_side_lem, left_side_tree, right_side_tree, left_size, split, sides_size}
use Rattle.ways.proofs.SideLaws.{spot_marks}
use Rattle.descent.proofs.CollectsLaws.{collects_as, collects_more, collects_then, collects_stop, ready_after}
use Rattle.descent.proofs.CollectsLaws.{ready_less}
use Rattle.ways.proofs.TermsLaws.{terms_add}
use Rattle.descent.proofs.DescentLaws.{AllOf, SpotOf, Down}

module _ {w : ℕ} {file marks : List ℕ} {x : Spot} (at : AtSpot w file marks x)
    (hk : kind (span_of file x.start x.end) ≡ 2) where
  two : is_binary (tree_at file x) ≡ true
  unfolding arity
  two = binary_two at.span (ap arity hk)

  whole : tree_at file x ≡ Binary 2 (left_of (tree_at file x)) (right_of (tree_at file x))
  whole = split at two ∙ ap (λ (k : ℕ). Binary k (left_of (tree_at file x)) (right_of (tree_at file x))) hk

  sizes : size_of (tree_at file x) ≡ size_of (left_of (tree_at file x)) + size_of (right_of (tree_at file x)) + 1
  sizes = sym (spot_marks at) ∙ sides_size at two

  left_tree : side_tree file (left_side file x) ≡ left_of (tree_at file x)
  unfolding left_side
  left_tree = left_side_tree at two refl (left_size at two refl refl) 0

  right_tree : side_tree file (right_side file marks x) ≡ right_of (tree_at file x)
  unfolding right_side
  right_tree = right_side_tree at two refl (left_size at two refl refl) 0

  pub down_left : {b : Side} → b ≡ left_side file x → Down w file marks x b
  unfolding left_side
  down_left e =
      rw e
      (record {
        side = left_side_lem at two refl (left_size at two refl refl) 0;
        smaller = omega (arith, ap size_of left_tree, sizes);
      })

  pub down_right : {b : Side} → b ≡ right_side file marks x → Down w file marks x b
  unfolding right_side
  down_right e =
      rw e
      (record {
        side = right_side_lem at two refl (left_size at two refl refl) 0;
        smaller = omega (arith, ap size_of right_tree, sizes);
      })

  -- what the sides collect, one after the other
  module _ (nots : Bool) (hw : w ≤ 64) {l : Side} (el : l ≡ left_side file x) {y : Spot} (ey : SpotOf x.coeff l y)
    where
      tree_l : tree_at file y ≡ left_of (tree_at file x)
      tree_l = ap (tree_at file) ey ∙ ap (side_tree file) el ∙ left_tree

      abbrev n : ℕ
      n = size_of (left_of (tree_at file x))

      abbrev m : ℕ
      m = size_of (right_of (tree_at file x))

      abbrev of_left : Collected
      of_left = descend nots w x.coeff (left_of (tree_at file x))

      abbrev of_right : Collected
      of_right = descend nots w x.coeff (right_of (tree_at file x))

      terms_sum : Collectable file x → descend nots w x.coeff (tree_at file x) ≡ join_collected w of_left of_right
      terms_sum here =
          ap (descend nots w x.coeff) whole
          ∙ terms_add nots w x.coeff _ _ here.some (sym (ap has_var_dep whole) ∙ here.variable)

      first_of : {a : List Atom} {d : Descent} {b : List Atom} {r : Option Descent} → AllOf nots w file y a d b r → Collects w file n of_left a d b r
      first_of first =
          let c : y.coeff ≡ x.coeff = ap (λ (z : Spot). z.coeff) ey in
          rw (tree_l, c) at first

      pub sum_stop : Collectable file x → {a : List Atom} {d : Descent} {b : List Atom} → AllOf nots w file y a d b None
          → AllOf nots w file x a d b None
      sum_stop here {a} {d} {b} first =
          collects_more (size_of (tree_at file x)) (omega (arith, sizes))
          (collects_as (terms_sum here)
          (collects_stop w file n m of_left of_right a d b (first_of first)))

      module _ {a : List Atom} {d : Descent} {b : List Atom} {e : Descent}
          (first : AllOf nots w file y a d b (Some e)) {r : Side} (er : r ≡ right_side file marks x)
          {z : Spot} (ez : SpotOf x.coeff r z) where
        tree_r : tree_at file z ≡ right_of (tree_at file x)
        tree_r = ap (tree_at file) ez ∙ ap (side_tree file) er ∙ right_tree

        pub ready_right : Ready w (size_of (tree_at file x)) a d → Ready w (size_of (tree_at file z)) b e
        ready_right ready =
            rw tree_r
            (ready_after w hw file n m of_left of_right a d b e (first_of first)
            (ready_less (n + m) (omega (arith, sizes)) ready))

        pub sum_then : Collectable file x → {c : List Atom} {f : Option Descent} → AllOf nots w file z b e c f
            → AllOf nots w file x a d c f
        sum_then here {c} {f} second =
            let zc : z.coeff ≡ x.coeff = ap (λ (z : Spot). z.coeff) ez in
            let second_of : Collects w file m of_right b e c f = rw (tree_r, zc) at second in
            collects_more (size_of (tree_at file x)) (omega (arith, sizes))
            (collects_as (terms_sum here)
            (collects_then w hw file n m of_left of_right a d b e (first_of first) c f second_of))
