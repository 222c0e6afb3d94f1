-- The descent from a spot of the file (ways/specs/Sides.antt, FirstOf): where it ends, the smaller spots to which it
-- goes, and that what is collected there makes up what is collected here. `Going` is what the loop of `collect_terms`
-- keeps.
use mathlib.Core.Path.{◌≡◌, refl, sym, ◌∙◌}
use Prim.Native.Nat.{ℕ, ◌≤◌}
use native.Mathlib.Omega.{arith}
use mathlib.Core.List.{List, []}
use mathlib.Core.Bool.{Bool, true, false}
use lib.ListN.{length}
use lib.Dec.{eqb}
use borrow.Author.Tests.{eqb-true, eqb-false, eq-eqb}
use Rattle.record.specs.Fields.{kind, size}
use Rattle.arith.specs.Width.{mod_add, mod_mul}
use Rattle.arith.proofs.WidthLaws.{mod_add_lt}
use Rattle.base.specs.Choice.{when}
use Rattle.record.specs.Tree.{Tree, size_of}
use Rattle.expr_utils.specs.Utils.{has_var_dep}
use Rattle.ways.specs.declared.side.Spot.{Spot}
use Rattle.ways.specs.declared.side.Side.{Side}
use Rattle.descent.specs.declared.collect.Atom.{Atom}
use Rattle.descent.specs.declared.collect.Descent.{Descent}
use Rattle.rules_laws.specs.Descend.{descend}
use Rattle.std.specs.Prelude.{Option, None, Some}
use Rattle.ways.specs.Spans.{span_of}
use Rattle.descent.specs.Spots.{Collects, Ready, BesideLiteral, turn_by, collect_end}
use Rattle.ways.specs.Sides.{tree_at, side_tree, AtSpot, left_side, right_side, EndsHere, Collectable, Goes, Masks}
use Rattle.ways.specs.Sides.{FirstOf, sum, masks, collect_literal, collect_whole}
use Rattle.ways.proofs.TermsLaws.{terms_zero, terms_constant}
use Rattle.expr.specs.Value.{value}
use Rattle.normalizer_laws.specs.Collect.{linear}
use Rattle.descent.proofs.DescentLaws.{AllOf, SpotOf, Down, down_spot, down_falls, down_ready}
use Rattle.descent.proofs.AddLaws.{down_left, down_right, ready_right, sum_then, sum_stop}
use Rattle.descent.proofs.WayOnLaws.{way_goes, ready_masked}
use Rattle.descent.proofs.WayOnLaws.{way_masked_stop, way_masked_then}

-- first to one child of two
module _ {nots : Bool} {w : ℕ} {file marks : List ℕ} {x : Spot} (at : AtSpot w file marks x) {b : Side}
    (way : FirstOf nots w file marks x b) where
  abbrev Here : Type 0
  Here = FirstOf nots w file marks x b

  abbrev k : ℕ
  k = kind (span_of file x.start x.end)

  pub first_down : Down w file marks x b
  first_down = go way
    where
      go : Here → Down w file marks x b
      go (sum two here s places) = down_left at two s
      go (masks n here m) = record { side = m.side; smaller = m.smaller }

  -- what is collected at the child y
  module _ (hw : w ≤ 64) {y : Spot} (ey : SpotOf x.coeff b y) where
    pub first_stop : {a : List Atom} {d : Descent} {f : List Atom} → AllOf nots w file y a d f None
        → AllOf nots w file x a d f None
    first_stop {a} {d} {f} first = go way
      where
        go : Here → AllOf nots w file x a d f None
        go (sum two here s places) = sum_stop at two nots hw s ey here first
        go (masks n here m) = way_masked_stop x m hw ey first

    module _ {a : List Atom} {d : Descent} {f : List Atom} {e : Descent}
        (first : AllOf nots w file y a d f (Some e)) where
      -- the And of the child and a literal
      module _ (not-sum : k ≡ 2 → ⊥) where
        masks_of : Masks nots w file marks x.start k x.coeff (tree_at file x) b
        masks_of = go way
          where
            go : Here → Masks nots w file marks x.start k x.coeff (tree_at file x) b
            go (sum two here s places) = absurd (not-sum two)
            go (masks n here m) = m

        pub first_literal : Ready w (size_of (tree_at file x)) a d
            → BesideLiteral w file b.start b.end b.value f e
        first_literal ready =
            let m = masks_of in
            record {
              span = m.side.span;
              ready = ready_masked x m hw ey first ready;
              value_lt = m.value_lt;
              variable = m.variable;
            }

        pub first_masked : {j : ℕ} → j ≡ k → {g : List Atom} {r : Option Descent}
            → Collects w file 1 (collect_literal w j x.coeff (side_tree file b) b.value) f e g r
            → AllOf nots w file x a d g r
        first_masked ek second = way_masked_then x masks_of hw ey first (rw ek at second)

      -- the right side of a sum
      module _ (two : k ≡ 2) {r : Side} (er : r ≡ right_side file marks x) {z : Spot} (ez : SpotOf x.coeff r z) where
        sum_of : Collectable file x × (b ≡ left_side file x)
        sum_of = go way
          where
            go : Here → Collectable file x × (b ≡ left_side file x)
            go (sum t here s places) = (here, s)
            go (masks n here m) = absurd (eqb-false k 2 n two)

        pub first_ready_right : Ready w (size_of (tree_at file x)) a d → Ready w (size_of (tree_at file z)) f e
        first_ready_right ready = ready_right at two nots hw sum_of.1 ey first er ez ready

        pub first_sum : {g : List Atom} {h : Option Descent} → AllOf nots w file z f e g h
            → AllOf nots w file x a d g h
        first_sum second = sum_then at two nots hw sum_of.1 ey first er ez sum_of.0 second

-- ---- where it ends

pub end_zero : (w c : ℕ) (t : Tree) → c ≡ 0 → collect_end w c t ≡ linear 0 []
unfolding collect_end
end_zero w c t e = simp (eq-eqb c 0 e)

pub end_constant : (w c : ℕ) (t : Tree) → eqb c 0 ≡ false → has_var_dep t ≡ false
    → collect_end w c t ≡ linear (mod_mul c (value w [] t) w) []
unfolding collect_end
end_constant w c t e h = simp (e, h)

pub end_whole : (w c : ℕ) (t : Tree) → eqb c 0 ≡ false → has_var_dep t ≡ true → collect_end w c t ≡ collect_whole w c t
unfolding collect_end
end_whole w c t e h = simp (e, h)

pub ends_as : (nots : Bool) (w c : ℕ) (t : Tree) → EndsHere nots w c t → descend nots w c t ≡ collect_end w c t
ends_as nots w c t h = go (eqb c 0) (has_var_dep t) refl refl
  where
    go : (z v : Bool) → eqb c 0 ≡ z → has_var_dep t ≡ v → descend nots w c t ≡ collect_end w c t
    go true v z d = let e = eqb-true c 0 z in terms_zero nots w c t e ∙ sym (end_zero w c t e)
    go false false z d = terms_constant nots w c t z d ∙ sym (end_constant w c t z d)
    go false true z d = h z d ∙ sym (end_whole w c t z d)

-- ---- the loop

pub ready_turned : {w n : ℕ} {spots : List Atom} (turned : Bool) (c : ℕ) {d t : Descent} → t ≡ turn_by turned c w d
    → Ready w n spots d → Ready w n spots t
unfolding turn_by
ready_turned {w} {n} {spots} turned c {d} {t} et ready = go turned et
  where
    more : Descent
    more = record { constant = mod_add d.constant c w; count = d.count }

    go : (b : Bool) → t ≡ when b (λ _. more) (λ _. d) → Ready w n spots t
    go true e =
        rw e (record { width = ready.width; fits = mod_add_lt d.constant c w ready.width; room = ready.room })
    go false e = rw e ready

-- from the spot x, over the atoms a and the descent d, to the spot y, over the atoms b and the descent e: what is
-- collected at y makes up all that is collected at x
pub record Going (nots : Bool) (w : ℕ) (file : List ℕ) (x : Spot) (a : List Atom) (d : Descent) (marks : List ℕ)
    (y : Spot) (b : List Atom) (e : Descent) : Type 0 where
  pub at : AtSpot w file marks y
  pub ready : Ready w (size_of (tree_at file y)) b e
  pub falls : size (span_of file y.start y.end) ≤ size (span_of file x.start x.end)
  pub same_length : length b ≡ length a
  pub rest : {c : List Atom} {r : Option Descent} → AllOf nots w file y b e c r → AllOf nots w file x a d c r

pub going_start : {nots : Bool} {w : ℕ} {file marks : List ℕ} {x : Spot} {a : List Atom} {d : Descent}
    → AtSpot w file marks x → Ready w (size_of (tree_at file x)) a d → Going nots w file x a d marks x a d
going_start at ready =
    record { at = at; ready = ready; falls = omega arith; same_length = refl; rest = λ h. h }

module _ {nots : Bool} {w : ℕ} {file : List ℕ} {x : Spot} {a : List Atom} {d : Descent} {marks : List ℕ} {y : Spot}
    {b : List Atom} {e : Descent} (going : Going nots w file x a d marks y b e) where
  -- to the only child
  pub going_child : {c : ℕ} {turned : Bool} {side : Side}
      → Goes nots w file marks y.start y.coeff (tree_at file y) c turned side → {z : Spot} → SpotOf c side z
      → {t : Descent} → t ≡ turn_by turned c w e → {m : List ℕ} → m ≡ span_of marks side.from side.to
      → Going nots w file x a d m z b t
  going_child {c} {turned} {side} goes ez et em =
      let down : Down w file marks y side = record { side = goes.side; smaller = goes.smaller } in
      record {
        at = down_spot going.at down ez em;
        ready = ready_turned turned c et (down_ready going.at down ez going.ready);
        falls = omega (arith, down_falls going.at down ez, going.falls);
        same_length = going.same_length;
        rest = λ h. going.rest (way_goes nots w file marks y c turned side goes going.ready.width ez going.ready et h);
      }

  -- to the right side of a sum
  pub going_right : {side : Side} → FirstOf nots w file marks y side → {z : Spot} → SpotOf y.coeff side z
      → kind (span_of file y.start y.end) ≡ 2 → {f : List Atom} {g : Descent} → AllOf nots w file z b e f (Some g)
      → {r : Side} → r ≡ right_side file marks y → {v : Spot} → SpotOf y.coeff r v
      → {m : List ℕ} → m ≡ span_of marks r.from r.to → Going nots w file x a d m v f g
  going_right way ez two first er ev em =
      let side = down_right going.at two er in
      let hw = going.ready.width in
      record {
        at = down_spot going.at side ev em;
        ready = first_ready_right going.at way hw ez first two er ev going.ready;
        falls = omega (arith, down_falls going.at side ev, going.falls);
        same_length = first.same_length ∙ going.same_length;
        rest = λ h. going.rest (first_sum going.at way hw ez first two er ev h);
      }
