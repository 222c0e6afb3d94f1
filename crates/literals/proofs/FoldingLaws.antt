-- Folding the literals of a tree (rules_laws/specs/Rules.antt): which trees become one literal, what a root that does
-- not stands over, and that a folded tree has no more records.
use mathlib.Core.Path.{◌≡◌, refl, ap, sym, ◌∙◌}
use Prim.Native.Nat.{ℕ, ◌-◌, ◌≤◌}
use native.Mathlib.Omega.{arith}
use mathlib.Core.List.{List, []}
use mathlib.Core.Bool.{Bool, true, false, not, ◌&&◌, ◌||◌}
use lib.ListN.{length, get_or}
use Rattle.base.specs.Choice.{when}
use Rattle.base.proofs.BoolLaws.{false_true, and_true}
use Rattle.record.specs.Tree.{Tree, size_of}
use Rattle.record.specs.Tree.Tree.{Constant, Variable, Unary, Binary}
use Rattle.record.specs.Decode.{leaf}
use Rattle.record.proofs.LeafLaws.{leaf_both}
use Rattle.record.proofs.EncodeLaws.{size_of_pos}
use Rattle.expr_utils.specs.Utils.{has_kind, has_var_dep}
use Rattle.expr.specs.Value.{value}
use Rattle.ways.specs.Marks.{marks_of, mark_of, mark_variable}
use Rattle.ways.proofs.MarksLaws.{length_marks, root_mark_lem, mark_variable_lem}
use Rattle.rules_laws.specs.Rules.{is_bitwise, literal_or, fold_literals}

-- ---- the test

-- t becomes one literal: it has no variable, and b says that it stands below a bitwise operator
unfoldable pub is_folded : Bool → Tree → Bool
is_folded b t = b && not (has_var_dep t)

-- the test as code does it, of the last mark
pub mark_folded : (below : Bool) (t : Tree) {marks : List ℕ} → marks ≡ marks_of t → {x y : Bool}
    → x ≡ below && not (mark_variable (get_or marks (length marks - 1) 0)) → x ≡ y → is_folded below t ≡ y
unfolding is_folded
mark_folded below t {marks} em e q =
    let count : length marks ≡ size_of t = ap length em ∙ length_marks t in
    let own : get_or marks (length marks - 1) 0 ≡ mark_of t =
    ap (λ (m : List ℕ). get_or m (length marks - 1) 0) em
    ∙ root_mark_lem t (length marks - 1) (omega (arith, count, size_of_pos t)) in
    ap (λ (v : Bool). below && not v) (sym (ap mark_variable own ∙ mark_variable_lem t)) ∙ sym e ∙ q

-- the test where no bitwise operator stands above
pub literal_off : (below : Bool) (m : ℕ) → below ≡ false → false ≡ below && not (mark_variable m)
literal_off below m e = sym (simp e)

-- and where one does
pub literal_on : (below : Bool) (m : ℕ) {v : Bool} → below ≡ true → v ≡ mark_variable m
    → not v ≡ below && not (mark_variable m)
literal_on below m e h = ap not h ∙ sym (simp e)

-- ---- the definition by the test

literal_or_lem : (w : ℕ) (b : Bool) (t u : Tree) → is_folded b t ≡ false → literal_or w b t u ≡ u
unfolding literal_or is_folded
literal_or_lem w b t u e = simp e

pub fold_literal : (w : ℕ) (b : Bool) (t : Tree) → is_folded b t ≡ true → fold_literals w b t ≡ Constant (value w [] t)
unfolding fold_literals literal_or is_folded has_kind
fold_literal w b (Constant v) e = simp e
fold_literal w b (Variable i) e = false_true (and_true b (not (has_var_dep (Variable i))) e).1
fold_literal w b (Unary k a t) e = simp e
fold_literal w b (Binary k l r) e = simp e

pub fold_leaf : (w : ℕ) (b : Bool) (s : List ℕ) → is_folded b (leaf s) ≡ false → fold_literals w b (leaf s) ≡ leaf s
unfolding fold_literals
fold_leaf w b s =
    leaf_both (λ (t : Tree). is_folded b t ≡ false → fold_literals w b t ≡ t) s (λ e. literal_or_lem w b _ _ e) (λ e. refl)

pub fold_unary : (w : ℕ) (b : Bool) (k a : ℕ) (t : Tree) → is_folded b (Unary k a t) ≡ false
    → fold_literals w b (Unary k a t) ≡ Unary k a (fold_literals w (b || is_bitwise k) t)
unfolding fold_literals
fold_unary w b k a t e = literal_or_lem w b (Unary k a t) _ e

pub fold_binary : (w : ℕ) (b : Bool) (k : ℕ) (l r : Tree) → is_folded b (Binary k l r) ≡ false
    → fold_literals w b (Binary k l r)
    ≡ Binary k (fold_literals w (b || is_bitwise k) l) (fold_literals w (b || is_bitwise k) r)
unfolding fold_literals
fold_binary w b k l r e = literal_or_lem w b (Binary k l r) _ e

-- ---- sizes

literal_size : (w : ℕ) (b : Bool) (t u : Tree) → size_of u ≤ size_of t → size_of (literal_or w b t u) ≤ size_of t
unfolding literal_or size_of
literal_size w b t u h = go (b && not (has_var_dep t))
  where
    go : (d : Bool) → size_of (when d (λ _. Constant (value w [] t)) (λ _. u)) ≤ size_of t
    go true = size_of_pos t
    go false = h

-- the folded tree has no more records
pub fold_size : (w : ℕ) (b : Bool) (t : Tree) → size_of (fold_literals w b t) ≤ size_of t
unfolding fold_literals size_of
fold_size w b (Constant v) = literal_size w b (Constant v) (Constant v) (omega arith)
fold_size w b (Variable i) = omega arith
fold_size w b (Unary k a t) =
    literal_size w b (Unary k a t) _ (omega (arith, fold_size w (b || is_bitwise k) t))
fold_size w b (Binary k l r) =
    literal_size w b (Binary k l r) _
    (omega (arith, fold_size w (b || is_bitwise k) l, fold_size w (b || is_bitwise k) r))
