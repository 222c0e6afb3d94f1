-- The way on from a root (specs/Sides.antt, `WayOf`): which case holds at each kind, from the sides of the
-- root.
use mathlib.Core.Path.{◌≡◌, refl, ap, ap₂, sym, subst, ◌∙◌}
use Prim.Native.Nat.{ℕ, ◌+◌, ◌-◌, ◌^◌, ◌≤◌, ◌<◌}
use native.Mathlib.Omega.{arith}
use native.Mathlib.Nat.{sub-zero}
use native.Mathlib.Decide.{ℕ_discrete}
use mathlib.Core.List.{List, []}
use mathlib.Core.Bool.{Bool, true, false, ◌&&◌, ◌||◌}
use lib.Dec.{eqb}
use lib.ListN.{length, get_or, take}
use borrow.Author.Tests.{eqb-true, eqb-false, eq-eqb, ne_eqb}
use Rattle.arith.specs.Width.{mod_mul, mod_neg}
use Rattle.arith.proofs.WidthLaws.{mod_neg_lt}
use Rattle.record.specs.Fields.{kind, amount, arity, var_index}
use Rattle.record.specs.Tree.{Tree, size_of}
use Rattle.record.specs.Tree.Tree.{Unary, Binary}
use Rattle.record.specs.Decode.{leaf, decode}
use Rattle.record.proofs.FieldsLaws.{kind_of_arity_one, kind_of_arity_two, arity_two, arity_one_of_le}
use Rattle.base.proofs.BoolLaws.{false_true, and_true}
use Rattle.record.proofs.LeafLaws.{leaf_both}
use Rattle.expr_utils.specs.Utils.{has_kind, has_var_dep, is_arith, has_arith}
use Rattle.expr.proofs.ValueLaws.{value_lt}
use Rattle.ways.specs.declared.side.Spot.{Spot}
use Rattle.ways.specs.declared.side.Side.{Side}
use Rattle.ways.specs.declared.side.Way.{Way}
use Rattle.ways.specs.declared.side.Way.TheVariants.{End, Child, Both}
use Rattle.normalizer_laws.specs.Collect.{join_collected}
use Rattle.rules_laws.specs.Descend.{descend}
use Rattle.ways.specs.Marks.{mark_of, mark_arith, marks_of}
use Rattle.ways.specs.Spans.{span_of}
use Rattle.ways.specs.Sides.{tree_at, AtSpot, SideAt, OneSide, is_binary, left_of, right_of}
use Rattle.ways.specs.Sides.{collect_literal, is_turned, collect_whole, join_turned, WayOf, WayDown}
use Rattle.ways.specs.Sides.{Collectable, FirstOf}
use Rattle.ways.proofs.MarksLaws.{mark_arith_lem, body_marks}
use Rattle.ways.proofs.SpanOfLaws.{span_kind, body_accepted, tree_leaf, tree_one, binary_zero}
use Rattle.ways.proofs.SpanOfLaws.{binary_one}
use Rattle.ways.proofs.SideLaws.{own_mark, spot_marks, spot_places, split}
use Rattle.ways.proofs.TermsLaws.{not_arith, variable_one, variable_two, arith_one, other_right}
use Rattle.ways.proofs.TermsLaws.{terms_variable, terms_neg, terms_one, terms_not, mul_right}
use Rattle.ways.proofs.TermsLaws.{mul_left, mul_both, and_whole, arith_whole, both_whole}
use Rattle.ways.proofs.TermsLaws.{masked_right, masked_left}

size_left : (k : ℕ) (l r : Tree) → size_of l < size_of (Binary k l r)
unfolding size_of
size_left k l r = omega arith

size_right : (k : ℕ) (l r : Tree) → size_of r < size_of (Binary k l r)
unfolding size_of
size_right k l r = omega arith

size_child : (k a : ℕ) (t : Tree) → size_of t < size_of (Unary k a t)
unfolding size_of
size_child k a t = omega arith

-- ---- a root with two children

module _ (nots : Bool) (w : ℕ) (file marks : List ℕ) (start k c : ℕ) (l r : Tree) (hc : eqb c 0 ≡ false)
    (hv : has_var_dep l || has_var_dep r ≡ true) (add : eqb k 2 ≡ false) where
  abbrev root : Tree
  root = Binary k l r

  abbrev AtRootOf : Way → Type 0
  AtRootOf b = WayOf nots w file marks start k c root b

  -- a product
  root_mul : k ≡ 3 → {b : Side} {d : ℕ} → OneSide w file marks start l r b → d ≡ mod_mul c b.value w
      → AtRootOf (Child d false b)
  unfolding join_turned
  root_mul e {b} {d} (OneSide.at_right hl tree ev side) ed =
      record {
        side = side;
        smaller = subst (λ (t : Tree). size_of t < size_of root) (sym tree) (size_right k l r);
        cut = λ on. false_true on;
        same =
            mul_right nots w c hc k l r add e hl (other_right hv hl)
            ∙ ap₂ (descend nots w) (ap (λ (v : ℕ). mod_mul c v w) (sym ev) ∙ sym ed) (sym tree);
      }
  root_mul e {b} {d} (OneSide.at_left hl hr tree ev side) ed =
      record {
        side = side;
        smaller = subst (λ (t : Tree). size_of t < size_of root) (sym tree) (size_left k l r);
        cut = λ on. false_true on;
        same =
            mul_left nots w c hc k l r add e hl hr
            ∙ ap₂ (descend nots w) (ap (λ (v : ℕ). mod_mul c v w) (sym ev) ∙ sym ed) (sym tree);
      }

  root_mul_end : k ≡ 3 → has_var_dep l ≡ true → has_var_dep r ≡ true → AtRootOf End
  root_mul_end e hl hr = mul_both nots w c hc k l r add e hl hr

  root_and : k ≡ 4 → AtRootOf End
  root_and e = and_whole nots w c hc k l r add e hv

  -- an Or or Xor
  module _ (low : 2 ≤ k) (high : k < 7) (mul : k ≡ 3 → ⊥) (and : k ≡ 4 → ⊥) where
    plain : is_arith k ≡ false
    plain = not_arith k (eqb-false k 2 add) mul (omega arith)

    root_arith : has_arith root ≡ true → AtRootOf End
    root_arith h = arith_whole nots w c hc k l r add plain (ne_eqb k 3 mul) (ne_eqb k 4 and) hv h

    root_both : has_arith root ≡ false → has_var_dep l ≡ true → has_var_dep r ≡ true → AtRootOf End
    root_both h hl hr = both_whole nots w c hc k l r add plain (ne_eqb k 3 mul) (ne_eqb k 4 and) hl hr h

    root_masked : has_arith root ≡ false → {b : Side} → OneSide w file marks start l r b → AtRootOf (Both b)
    root_masked h {b} (OneSide.at_right hl tree ev side) =
        let hr = other_right hv hl in
        record {
          side = side;
          smaller = subst (λ (t : Tree). size_of t < size_of root) (sym tree) (size_right k l r);
          variable = ap has_var_dep tree ∙ hr;
          same =
              masked_right nots w c hc k l r add plain (ne_eqb k 3 mul) (ne_eqb k 4 and) hl hr h
              ∙ ap₂ (λ (t : Tree) (v : ℕ). join_collected w (descend nots w c t) (collect_literal w k c t v)) (sym tree)
              (sym ev);
          value_lt = subst (λ (v : ℕ). v < 2 ^ w) (sym ev) (value_lt w [] l);
        }
    root_masked h {b} (OneSide.at_left hl hr tree ev side) =
        record {
          side = side;
          smaller = subst (λ (t : Tree). size_of t < size_of root) (sym tree) (size_left k l r);
          variable = ap has_var_dep tree ∙ hl;
          same =
              masked_left nots w c hc k l r add plain (ne_eqb k 3 mul) (ne_eqb k 4 and) hl hr h
              ∙ ap₂ (λ (t : Tree) (v : ℕ). join_collected w (descend nots w c t) (collect_literal w k c t v)) (sym tree)
              (sym ev);
          value_lt = subst (λ (v : ℕ). v < 2 ^ w) (sym ev) (value_lt w [] r);
        }

-- the same of the tree of a spot, whose root has two children and the kind k
module _ (nots : Bool) {w : ℕ} {file marks : List ℕ} {x : Spot} (at : AtSpot w file marks x)
    (hc : eqb x.coeff 0 ≡ false) (hv : has_var_dep (tree_at file x) ≡ true) {k : ℕ} (ek : k ≡ kind (span_of file x.start x.end))
    (add : eqb k 2 ≡ false) (two : is_binary (tree_at file x) ≡ true) where
  abbrev l : Tree
  l = left_of (tree_at file x)

  abbrev r : Tree
  r = right_of (tree_at file x)

  tree_is : Binary k l r ≡ tree_at file x
  tree_is = ap (λ (j : ℕ). Binary j l r) ek ∙ sym (split at two)

  kinds : (2 ≤ k) × (k < 7)
  kinds =
      let span-k : ℕ = kind (span_of file x.start x.end) in
      let p = binary_zero at.span two in
      let q = binary_one at.span two in
      let b = kind_of_arity_two span-k (arity_two span-k p q) (omega (arith, span_kind at.span)) in
      (omega (arith, b.0), omega (arith, b.1))

  sides : has_var_dep l || has_var_dep r ≡ true
  sides = sym (variable_two k l r kinds.0) ∙ ap has_var_dep tree_is ∙ hv

  abbrev There : Tree → Way → Type 0
  There t b = WayOf nots w file marks x.start k x.coeff t b

  over : (b : Way) → There (Binary k l r) b → There (tree_at file x) b
  over b h = subst (λ (t : Tree). There t b) tree_is h

  pub way_mul : k ≡ 3 → {b : Side} {d : ℕ} → OneSide w file marks x.start l r b → d ≡ mod_mul x.coeff b.value w
      → There (tree_at file x) (Child d false b)
  way_mul e {b} {d} side ed =
      over (Child d false b) (root_mul nots w file marks x.start k x.coeff l r hc sides add e side ed)

  pub way_mul_end : k ≡ 3 → has_var_dep l ≡ true → has_var_dep r ≡ true → There (tree_at file x) End
  way_mul_end e hl hr =
      over End (root_mul_end nots w file marks x.start k x.coeff l r hc sides add e hl hr)

  pub way_and : k ≡ 4 → There (tree_at file x) End
  way_and e = over End (root_and nots w file marks x.start k x.coeff l r hc sides add e)

  module _ (mul : k ≡ 3 → ⊥) (and : k ≡ 4 → ⊥) where
    pub way_arith : has_arith (tree_at file x) ≡ true → There (tree_at file x) End
    way_arith h =
        over End
        (root_arith nots w file marks x.start k x.coeff l r hc sides add kinds.0 kinds.1 mul and
        (ap has_arith tree_is ∙ h))

    pub way_both : has_arith (tree_at file x) ≡ false → has_var_dep l ≡ true → has_var_dep r ≡ true
        → There (tree_at file x) End
    way_both h hl hr =
        over End
        (root_both nots w file marks x.start k x.coeff l r hc sides add kinds.0 kinds.1 mul and
        (ap has_arith tree_is ∙ h) hl hr)

    pub way_masked : has_arith (tree_at file x) ≡ false → {b : Side} → OneSide w file marks x.start l r b
        → There (tree_at file x) (Both b)
    way_masked h {b} side =
        over (Both b)
        (root_masked nots w file marks x.start k x.coeff l r hc sides add kinds.0 kinds.1 mul and
        (ap has_arith tree_is ∙ h) side)

-- ---- the rule for Not, as code tests it

pub turned_off : {nots : Bool} (k m : ℕ) → nots ≡ false → false ≡ is_turned nots k m
unfolding is_turned
turned_off k m e = sym (simp e)

pub turned_other : (nots : Bool) {k : ℕ} (m : ℕ) → (k ≡ 7 → ⊥) → false ≡ is_turned nots k m
unfolding is_turned
turned_other true {k} m n = sym (simp (ne_eqb k 7 n))
turned_other false m n = refl

pub turned_on : {nots : Bool} {k : ℕ} (m : ℕ) {r : Bool} → nots ≡ true → k ≡ 7 → r ≡ mark_arith m
    → r ≡ is_turned nots k m
unfolding is_turned
turned_on {nots} {k} m e q h = h ∙ sym (simp (e, eq-eqb k 7 q))

pub turned_read : (nots : Bool) (k j m : ℕ) {r d : Bool} → r ≡ is_turned nots j m → j ≡ k → r ≡ d
    → is_turned nots k m ≡ d
turned_read nots k j m h q e = ap (λ (i : ℕ). is_turned nots i m) (sym q) ∙ sym h ∙ e

-- ---- a root with one child or none

whole_leaf : (nots : Bool) (w c : ℕ) → eqb c 0 ≡ false → (s : List ℕ) → has_var_dep (leaf s) ≡ true
    → descend nots w c (leaf s) ≡ collect_whole w c (leaf s)
unfolding has_kind
whole_leaf nots w c hc s =
    leaf_both (λ (t : Tree). has_var_dep t ≡ true → descend nots w c t ≡ collect_whole w c t) s (λ h. false_true h)
    (λ _. terms_variable nots w c hc (var_index s))

module _ (nots : Bool) {w : ℕ} {file marks : List ℕ} {x : Spot} (at : AtSpot w file marks x)
    (hc : eqb x.coeff 0 ≡ false) (hv : has_var_dep (tree_at file x) ≡ true) where
  abbrev span : List ℕ
  span = span_of file x.start x.end

  abbrev child : Tree
  child = decode (span_of file x.start (x.end - 16))

  abbrev Here : Way → Type 0
  Here b = WayOf nots w file marks x.start (kind span) x.coeff (tree_at file x) b

  one_variable : arity (kind span) ≡ 1 → has_var_dep child ≡ true
  one_variable a =
      sym (variable_one (kind span) (amount span) child (omega (arith, kind_of_arity_one (kind span) a)))
      ∙ sym (ap has_var_dep (tree_one at.span refl a))
      ∙ hv

  -- the only child
  module _ (a : arity (kind span) ≡ 1) where
    abbrev only : Side
    only =
        record { start = x.start; end = x.end - 16; from = 0; to = length marks - 1; value = 0 }

    only_count : length marks ≡ size_of child + 1
    unfolding size_of
    only_count = spot_marks at ∙ ap size_of (tree_one at.span refl a)

    only_side : SideAt w file marks x.start only
    unfolding span_of
    only_side =
        record {
          span = body_accepted at.span refl a;
          from_le = omega arith;
          to_le = omega arith;
          marks_are =
              rw sub-zero
              (ap (take (length marks - 1)) (at.marks_are ∙ ap marks_of (tree_one at.span refl a))
              ∙ body_marks (kind span) (amount span) child (length marks - 1) (omega (arith, only_count)));
          places =
              record { from_place = omega arith; to_place = omega (arith, spot_places at, only_count) };
        }

    only_size : size_of child < size_of (tree_at file x)
    only_size =
        rw (tree_one at.span refl a) (size_child (kind span) (amount span) child)

  abbrev under : Bool → Way
  under turned =
      Child (mod_neg x.coeff w) turned
      (record { start = x.start; end = x.end - 16; from = 0; to = length marks - 1; value = 0 })

  pub way_neg : kind span ≡ 8 → Here (under false)
  unfolding join_turned
  way_neg e =
      let a : arity (kind span) ≡ 1 = arity_one_of_le (kind span) (omega arith) (omega arith) in
      record {
        side = only_side a;
        smaller = only_size a;
        cut = λ on. false_true on;
        same =
            ap (descend nots w x.coeff) (tree_one at.span refl a)
            ∙ terms_neg nots w x.coeff hc (kind span) (amount span) child (one_variable a) e;
      }

  -- the rule for Not, by the mark of the root
  module _ (n : kind span ≡ 8 → ⊥) {m : ℕ} (em : m ≡ get_or marks (length marks - 1) 0) where
    mark_is : (a : arity (kind span) ≡ 1) → kind span ≡ 7 → mark_arith m ≡ has_arith child
    mark_is a e =
        ap mark_arith (em ∙ own_mark at ∙ ap mark_of (tree_one at.span refl a))
        ∙ mark_arith_lem (Unary (kind span) (amount span) child)
        ∙ arith_one (kind span) (amount span) child (not_arith (kind span) (omega arith) (omega arith) n)

    turned_is : (a : arity (kind span) ≡ 1) {d : Bool} → is_turned nots (kind span) m ≡ d
        → nots && (eqb (kind span) 7 && has_arith child) ≡ d
    unfolding is_turned
    turned_is a e = go (ℕ_discrete (kind span) 7) ∙ e
      where
        go : Dec (kind span ≡ 7) → nots && (eqb (kind span) 7 && has_arith child) ≡ is_turned nots (kind span) m
        go (yes k) = ap (λ (b : Bool). nots && (eqb (kind span) 7 && b)) (sym (mark_is a k))
        go (no k) = simp (ne_eqb (kind span) 7 k)

    turned_seven : is_turned nots (kind span) m ≡ true → kind span ≡ 7
    unfolding is_turned
    turned_seven e =
        eqb-true (kind span) 7
        (and_true (eqb (kind span) 7) (mark_arith m) (and_true nots (eqb (kind span) 7 && mark_arith m) e).1).0

    pub way_not : w ≤ 64 → is_turned nots (kind span) m ≡ true → Here (under true)
    unfolding join_turned
    way_not hw e =
        let seven = turned_seven e in
        let a : arity (kind span) ≡ 1 = arity_one_of_le (kind span) (omega arith) (omega arith) in
        record {
          side = only_side a;
          smaller = only_size a;
          cut = λ _. mod_neg_lt x.coeff w hw;
          same =
              ap (descend nots w x.coeff) (tree_one at.span refl a)
              ∙ terms_not nots w x.coeff hc (kind span) (amount span) child (one_variable a) n (turned_is a e);
        }

    pub way_end : (arity (kind span) ≡ 2 → ⊥) → is_turned nots (kind span) m ≡ false → Here End
    way_end two off = go (ℕ_discrete (arity (kind span)) 0) (ℕ_discrete (arity (kind span)) 1)
      where
        go : Dec (arity (kind span) ≡ 0) → Dec (arity (kind span) ≡ 1)
            → descend nots w x.coeff (tree_at file x) ≡ collect_whole w x.coeff (tree_at file x)
        go (yes a) d =
            rw (tree_leaf at.span refl a)
            (whole_leaf nots w x.coeff hc span (sym (ap has_var_dep (tree_leaf at.span refl a)) ∙ hv))
        go (no p) (yes a) =
            rw (tree_one at.span refl a)
            (terms_one nots w x.coeff hc (kind span) (amount span) child (one_variable a)
            (kind_of_arity_one (kind span) a) n (turned_is a off))
        go (no p) (no q) = absurd (two (arity_two (kind span) p q))

-- ---- any root

-- a root with a variable that is no Add, under a coefficient other than 0
pub way_other : (nots : Bool) (w : ℕ) {file : List ℕ} (marks : List ℕ) {x : Spot} (b : Way)
    → eqb (kind (span_of file x.start x.end)) 2 ≡ false → Collectable file x
    → WayOf nots w file marks x.start (kind (span_of file x.start x.end)) x.coeff (tree_at file x) b
    → WayDown nots w file marks x b
way_other nots w marks End n here h = λ _ _. h
way_other nots w marks (Child d turned b) n here h = (n, here, h)
way_other nots w marks (Both b) n here h = FirstOf.masks n here h
