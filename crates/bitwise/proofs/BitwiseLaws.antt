-- Laws of specs/Bitwise.antt: what the walk finds at a root, from what it finds of its children.
use mathlib.Core.Path.{◌≡◌, refl, sym, ap, ap₂, ◌∙◌}
use Prim.Native.Nat.{ℕ, ◌≤◌, ◌<◌}
use native.Mathlib.Decide.{ℕ_discrete}
use native.Mathlib.Omega.{arith}
use mathlib.Core.List.{List}
use mathlib.Core.Bool.{Bool, true, false, not, ◌&&◌, ◌||◌}
use lib.Dec.{eqb}
use lib.ListN.{length}
use Rattle.std.specs.Prelude.{Some, None}
use Rattle.std.proofs.lemmas.Option.{none-some, same_Some}
use borrow.Author.Tests.{eqb-true, eq-eqb, ne_eqb, not-true, not-false}
use Rattle.base.specs.Choice.{when}
use Rattle.record.specs.Fields.{kind, amount, arity}
use Rattle.record.specs.Span.{body, left, right}
use Rattle.record.specs.Tree.Tree.{Unary, Binary}
use Rattle.record.specs.Decode.{leaf, decode}
use Rattle.record.proofs.SpanLaws.{fold_leaf, fold_one, fold_two, body_shorter, right_shorter}
use Rattle.base.proofs.BoolLaws.{false_true, and_true}
use Rattle.record.proofs.FieldsLaws.{kind_of_arity_zero, arity_zero_of_lt}
use Rattle.bitwise.specs.declared.Checked.{Checked}
use Rattle.expr_refusal.specs.Refusal.{lowest, root_refusal, tree_refusal}
use Rattle.expr_utils.specs.Utils.{is_arith, has_kind, has_arith, has_var_dep}
use Rattle.expr.specs.Hash.{structural_hash}
use Rattle.bitwise.specs.Bitwise.{bitwise_ok, passing, checked, last_child, root_ok, leaf_checked}
use Rattle.bitwise.specs.Bitwise.{one_checked, two_checked}
use Rattle.expr_refusal.proofs.RefusalLaws.{lowest_zero, accepted_big, accepted_root, zero_of_root}

-- ---- a root

pub root_refused : (w : ℕ) (t : List ℕ) → (root_refusal w t ≡ 0 → ⊥) → false ≡ root_ok w t
unfolding root_ok
root_refused w t h = simp (ne_eqb (root_refusal w t) 0 h)

pub root_passed : (w : ℕ) (t : List ℕ) → root_refusal w t ≡ 0 → not (is_arith (kind t)) ≡ root_ok w t
unfolding root_ok
root_passed w t e = simp (eq-eqb (root_refusal w t) 0 e)

-- ---- the last child

module _ (s : List ℕ) where
  pub last_one : arity (kind s) ≡ 1 → last_child s ≡ body s
  unfolding last_child
  last_one e = simp (eq-eqb (arity (kind s)) 1 e)

  pub last_two : (arity (kind s) ≡ 1 → ⊥) → last_child s ≡ right s
  unfolding last_child
  last_two n = simp (ne_eqb (arity (kind s)) 1 n)

  pub last_shorter : 16 ≤ length s → length (last_child s) < length s
  last_shorter big = go (ℕ_discrete (arity (kind s)) 1)
    where
      go : Dec (arity (kind s) ≡ 1) → length (last_child s) < length s
      go (yes e) = rw (last_one e) (body_shorter s big)
      go (no n) = rw (last_two n) (right_shorter s big)

-- ---- a tree

-- what the walk says, of a tree that is all right and of one that is not
pub shut : (w : ℕ) (t : List ℕ) → bitwise_ok w t ≡ false → checked w t ≡ None
unfolding checked
shut w t e = simp e

pub passes : (w : ℕ) (t : List ℕ) → bitwise_ok w t ≡ true
    → checked w t ≡ Some (passing (has_var_dep (decode t)) (structural_hash (decode t)))
unfolding checked
passes w t e = simp e

-- and back
pub found_none : (w : ℕ) (t : List ℕ) → checked w t ≡ None → bitwise_ok w t ≡ false
found_none w t n = go (bitwise_ok w t) refl
  where
    go : (b : Bool) → bitwise_ok w t ≡ b → bitwise_ok w t ≡ false
    go true e = absurd (none-some _ (sym n ∙ passes w t e))
    go false e = e

pub found_some : (w : ℕ) (t : List ℕ) (x : Checked) → checked w t ≡ Some x
    → (bitwise_ok w t ≡ true) × (x ≡ passing (has_var_dep (decode t)) (structural_hash (decode t)))
found_some w t x n = go (bitwise_ok w t) refl
  where
    go : (b : Bool) → bitwise_ok w t ≡ b
        → (bitwise_ok w t ≡ true) × (x ≡ passing (has_var_dep (decode t)) (structural_hash (decode t)))
    go true e = (e, same_Some _ _ (sym n ∙ passes w t e))
    go false e = absurd (none-some _ (sym (shut w t e) ∙ n))

fails : (w : ℕ) (t : List ℕ) → (tree_refusal w t ≡ 0 → ⊥) → bitwise_ok w t ≡ false
unfolding bitwise_ok
fails w t h = simp (ne_eqb (tree_refusal w t) 0 h)

and_false : (a b : Bool) → b ≡ false → a && b ≡ false
and_false true b e = e
and_false false b e = refl

arith_fails : (w : ℕ) (t : List ℕ) → has_arith (decode t) ≡ true → bitwise_ok w t ≡ false
unfolding bitwise_ok
arith_fails w t e = and_false (eqb (tree_refusal w t) 0) (not (has_arith (decode t))) (ap not e)

pub checked_none : (w : ℕ) (t : List ℕ) → length t < 16 → checked w t ≡ None
checked_none w t h = shut w t (fails w t (λ e. absurd (omega (arith, accepted_big w t e))))

lowest_left : (x : ℕ) → lowest 0 x ≡ x
unfolding lowest
lowest_left x = refl

lowest_eqb : (x y : ℕ) → eqb (lowest x y) 0 ≡ eqb x 0 && eqb y 0
lowest_eqb x y = go (ℕ_discrete x 0) (ℕ_discrete y 0)
  where
    go : Dec (x ≡ 0) → Dec (y ≡ 0) → eqb (lowest x y) 0 ≡ eqb x 0 && eqb y 0
    go (yes p) d = simp (p, lowest_left)
    go (no p) d =
        simp (ne_eqb x 0 p, ne_eqb (lowest x y) 0 (λ e. p (lowest_zero x y e).0))

both : (a b c d : Bool) → (a && b) && not (c || d) ≡ (a && not c) && (b && not d)
both false b c d = refl
both true b true d = and_false b false refl
both true false false d = refl
both true true false d = refl

-- what two tests of a root say
root_parts : (w : ℕ) (t : List ℕ) → root_ok w t ≡ true → (root_refusal w t ≡ 0) × (is_arith (kind t) ≡ false)
unfolding root_ok
root_parts w t e =
    let p = and_true (eqb (root_refusal w t) 0) (not (is_arith (kind t))) e in
    (eqb-true _ _ p.0, not-true _ p.1)

module _ (w : ℕ) (t : List ℕ) (big : 16 ≤ length t) where
  -- an Add, Mul or Neg at the root
  arith_root : (arity (kind t) ≡ 0 → ⊥) → is_arith (kind t) ≡ true → has_arith (decode t) ≡ true
  unfolding has_arith
  arith_root inner e = go (ℕ_discrete (arity (kind t)) 1)
    where
      go : Dec (arity (kind t) ≡ 1) → has_arith (decode t) ≡ true
      go (yes a) = rw (fold_one _ _ _ _ t big a) (simp e)
      go (no p) = rw (fold_two _ _ _ _ t big inner p) (simp e)

  leaf_plain : arity (kind t) ≡ 0 → is_arith (kind t) ≡ false
  unfolding is_arith
  leaf_plain a =
      let low : kind t < 2 = kind_of_arity_zero (kind t) a in
      simp (
        ne_eqb (kind t) 2 (λ e. absurd (omega arith)),
        ne_eqb (kind t) 3 (λ e. absurd (omega arith)),
        ne_eqb (kind t) 8 (λ e. absurd (omega arith)),
      )

  pub checked_root : root_ok w t ≡ false → checked w t ≡ None
  unfolding root_ok
  checked_root e = go (ℕ_discrete (tree_refusal w t) 0) (ℕ_discrete (arity (kind t)) 0)
    where
      go : Dec (tree_refusal w t ≡ 0) → Dec (arity (kind t) ≡ 0) → checked w t ≡ None
      go (no p) d = shut w t (fails w t p)
      go (yes z) (yes a) =
          let r = zero_of_root w t (accepted_root w t z) in
          false_true (sym (simp (eq-eqb (root_refusal w t) 0 r, leaf_plain a) at e))
      go (yes z) (no p) =
          let r = zero_of_root w t (accepted_root w t z) in
          shut w t (arith_fails w t (arith_root p (not-false _ (simp (eq-eqb (root_refusal w t) 0 r) at e))))

  -- no refusal applies to a root, and it is no Add, Mul or Neg
  module _ (e : root_ok w t ≡ true) where
    root_zero : root_refusal w t ≡ 0
    root_zero = (root_parts w t e).0

    root_plain : is_arith (kind t) ≡ false
    root_plain = (root_parts w t e).1

    pub checked_leaf : arity (kind t) ≡ 0 → Some (leaf_checked t) ≡ checked w t
    unfolding checked bitwise_ok leaf_checked leaf has_kind has_arith
    checked_leaf a =
        let z : tree_refusal w t ≡ 0 = fold_leaf _ _ _ _ t big a ∙ root_zero in
        let d : decode t ≡ leaf t = fold_leaf _ _ _ _ t big a in
        let low : kind t < 2 = kind_of_arity_zero (kind t) a in
        rw d (go z low (ℕ_discrete (kind t) 0))
      where
        go : tree_refusal w t ≡ 0 → kind t < 2 → Dec (kind t ≡ 0)
            → Some (leaf_checked t)
            ≡ when (eqb (tree_refusal w t) 0 && not (has_arith (leaf t)))
            (λ _. Some (passing (has_var_dep (leaf t)) (structural_hash (leaf t)))) (λ _. None)
        go z low (yes k) = simp (eq-eqb (tree_refusal w t) 0 z, k)
        go z low (no k) =
            let one : kind t ≡ 1 = omega arith in
            simp (eq-eqb (tree_refusal w t) 0 z, one)

    -- the root's kind is none of a leaf
    no_variable : (arity (kind t) ≡ 0 → ⊥) → eqb (kind t) 1 ≡ false
    no_variable inner = ne_eqb (kind t) 1 (λ k. inner (arity_zero_of_lt (kind t) (omega arith)))

    module _ (a : arity (kind t) ≡ 1) where
      one_tree : decode t ≡ Unary (kind t) (amount t) (decode (body t))
      one_tree = fold_one _ _ _ _ t big a

      one_ok : bitwise_ok w t ≡ bitwise_ok w (body t)
      unfolding bitwise_ok has_arith
      one_ok =
          let z : tree_refusal w t ≡ tree_refusal w (body t) =
          fold_one _ _ _ _ t big a ∙ ap (λ r. lowest r (tree_refusal w (body t))) root_zero ∙ lowest_left _ in
          let h : has_arith (decode t) ≡ has_arith (decode (body t)) =
          ap has_arith one_tree ∙ ap (λ b. b || has_arith (decode (body t))) root_plain in
          ap₂ (λ n b. eqb n 0 && not b) z h

      pub one_none : checked w (body t) ≡ None → None ≡ checked w t
      one_none n = sym (shut w t (one_ok ∙ found_none w (body t) n))

      pub one_some : (x : Checked) → checked w (body t) ≡ Some x
          → Some (one_checked (kind t) (amount t) x) ≡ checked w t
      unfolding one_checked has_kind structural_hash
      one_some x n =
          let f = found_some w (body t) x n in
          let v : has_var_dep (decode t) ≡ has_var_dep (decode (body t)) =
          ap has_var_dep one_tree
          ∙ ap (λ b. b || has_var_dep (decode (body t))) (no_variable (λ z. absurd (omega arith))) in
          ap (λ (y : Checked). Some (one_checked (kind t) (amount t) y)) f.1
          ∙ sym (passes w t (one_ok ∙ f.0) ∙ ap Some (ap₂ passing v (ap structural_hash one_tree)))

    module _ (p : arity (kind t) ≡ 0 → ⊥) (q : arity (kind t) ≡ 1 → ⊥) where
      two_tree : decode t ≡ Binary (kind t) (decode (left t)) (decode (right t))
      two_tree = fold_two _ _ _ _ t big p q

      two_ok : bitwise_ok w t ≡ bitwise_ok w (left t) && bitwise_ok w (right t)
      unfolding bitwise_ok has_arith
      two_ok =
          let x : ℕ = tree_refusal w (left t) in
          let y : ℕ = tree_refusal w (right t) in
          let z : tree_refusal w t ≡ lowest x y =
          fold_two _ _ _ _ t big p q ∙ ap (λ r. lowest r (lowest x y)) root_zero ∙ lowest_left _ in
          let h : has_arith (decode t) ≡ has_arith (decode (left t)) || has_arith (decode (right t)) =
          ap has_arith two_tree ∙ ap (λ b. b || (has_arith (decode (left t)) || has_arith (decode (right t)))) root_plain in
          ap₂ (λ n b. eqb n 0 && not b) z h
          ∙ ap (λ b. b && not (has_arith (decode (left t)) || has_arith (decode (right t)))) (lowest_eqb x y)
          ∙ both (eqb x 0) (eqb y 0) (has_arith (decode (left t))) (has_arith (decode (right t)))

      pub two_none_left : checked w (left t) ≡ None → None ≡ checked w t
      two_none_left n =
          sym (shut w t (two_ok ∙ ap (λ b. b && bitwise_ok w (right t)) (found_none w (left t) n)))

      pub two_none_right : checked w (right t) ≡ None → None ≡ checked w t
      two_none_right n = sym (shut w t (two_ok ∙ and_false (bitwise_ok w (left t)) _ (found_none w (right t) n)))

      pub two_some : (x y : Checked) → checked w (left t) ≡ Some x → checked w (right t) ≡ Some y
          → Some (two_checked (kind t) x y) ≡ checked w t
      unfolding two_checked has_kind structural_hash
      two_some x y n m =
          let f = found_some w (left t) x n in
          let g = found_some w (right t) y m in
          let v : has_var_dep (decode t) ≡ has_var_dep (decode (left t)) || has_var_dep (decode (right t)) =
          ap has_var_dep two_tree
          ∙ ap (λ b. b || (has_var_dep (decode (left t)) || has_var_dep (decode (right t)))) (no_variable p) in
          ap₂ (λ (a b : Checked). Some (two_checked (kind t) a b)) f.1 g.1
          ∙ sym (passes w t (two_ok ∙ ap₂ ◌&&◌ f.0 g.0) ∙ ap Some (ap₂ passing v (ap structural_hash two_tree)))

    -- a last child that is not all right
    pub last_none : (arity (kind t) ≡ 0 → ⊥) → checked w (last_child t) ≡ None → None ≡ checked w t
    last_none p n = go (ℕ_discrete (arity (kind t)) 1)
      where
        go : Dec (arity (kind t) ≡ 1) → None ≡ checked w t
        go (yes a) = one_none a (ap (checked w) (sym (last_one t a)) ∙ n)
        go (no q) = two_none_right p q (ap (checked w) (sym (last_two t q)) ∙ n)
