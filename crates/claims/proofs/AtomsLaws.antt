-- The atoms of a valid form hold a variable and only the kinds of an atom (specs/Atoms.antt).
use mathlib.Core.Path.{◌≡◌, refl, subst, sym}
use Prim.Native.Nat.{ℕ, zero, suc, ◌≤◌, ◌<◌}
use native.Mathlib.Omega.{arith}
use native.Mathlib.Decide.{ℕ_discrete}
use mathlib.Core.List.{List, [], ◌∷◌}
use mathlib.Core.Bool.{Bool, true, false}
use lib.ListN.{length}
use lib.Dec.{eqb}
use borrow.Author.Tests.{eqb-true, eqb-false}
use Rattle.record.specs.Tree.{Tree}
use Rattle.record.specs.Tree.Tree.{Constant, Variable, Unary, Binary}
use Rattle.base.proofs.BoolLaws.{or_false, or_cases}
use Rattle.expr_refusal.specs.Refusal.{is_expr}
use Rattle.expr_utils.specs.Utils.{has_kind, is_arith, has_arith}
use Rattle.expr.proofs.IsExprLaws.{unary_of_expr, binary_of_expr}
use Rattle.semilinear.specs.Form.{Row, Form, is_atom_tree, rows_ok, valid_form}
use Rattle.semilinear.proofs.FormLaws.{rows_cons, form_parts}
use Rattle.semilinear.proofs.AtomLaws.{tree_atom}
use Rattle.partition_laws.specs.Columns.{row_tree}
use Rattle.claims.specs.Atoms.{AtomKind, constant_kind, variable_kind, and_kind, or_kind, xor_kind}
use Rattle.claims.specs.Atoms.{not_kind, shr_kind, IsAtom, AllAtoms}

-- a kind that is none of Add, Mul and Neg
record Plain (k : ℕ) : Type 0 where
  add : k ≡ 2 → ⊥
  mul : k ≡ 3 → ⊥
  neg : k ≡ 8 → ⊥

plain_kind : (k : ℕ) → is_arith k ≡ false → Plain k
unfolding is_arith
plain_kind k e =
    let p = or_false (eqb k 2) _ e in
    let q = or_false (eqb k 3) (eqb k 8) p.1 in
    record { add = eqb-false k 2 p.0; mul = eqb-false k 3 q.0; neg = eqb-false k 8 q.1 }

kind_one : (k : ℕ) → 7 ≤ k → k ≤ 9 → Plain k → AtomKind k
kind_one k l h p = go (ℕ_discrete k 7) (ℕ_discrete k 9)
  where
    go : Dec (k ≡ 7) → Dec (k ≡ 9) → AtomKind k
    go (yes e) d = subst AtomKind (sym e) not_kind
    go (no n) (yes e) = subst AtomKind (sym e) shr_kind
    go (no n) (no m) = absurd (p.neg (omega arith))

kind_two : (k : ℕ) → 2 ≤ k → k < 7 → Plain k → AtomKind k
kind_two k l h p = go (ℕ_discrete k 4) (ℕ_discrete k 5) (ℕ_discrete k 6) (ℕ_discrete k 2)
  where
    go : Dec (k ≡ 4) → Dec (k ≡ 5) → Dec (k ≡ 6) → Dec (k ≡ 2) → AtomKind k
    go (yes e) b c d = subst AtomKind (sym e) and_kind
    go (no n) (yes e) c d = subst AtomKind (sym e) or_kind
    go (no n) (no m) (yes e) d = subst AtomKind (sym e) xor_kind
    go (no n) (no m) (no q) (yes e) = absurd (p.add e)
    go (no n) (no m) (no q) (no e) = absurd (p.mul (omega arith))

atom_kinds : (t : Tree) → is_expr t ≡ true → has_arith t ≡ false → (k : ℕ) → has_kind k t ≡ true → AtomKind k
unfolding has_kind has_arith
atom_kinds (Constant v) e a k h = subst AtomKind (eqb-true 0 k h) constant_kind
atom_kinds (Variable i) e a k h = subst AtomKind (eqb-true 1 k h) variable_kind
atom_kinds (Unary j b t) e a k h =
    let u = unary_of_expr j b t e in
    let p = or_false (is_arith j) (has_arith t) a in
    or_cases (eqb j k) (has_kind k t) h
    (λ x. subst AtomKind (eqb-true j k x) (kind_one j u.low u.high (plain_kind j p.0)))
    (atom_kinds t u.child p.1 k)
atom_kinds (Binary j l r) e a k h =
    let u = binary_of_expr j l r e in
    let p = or_false (is_arith j) _ a in
    let q = or_false (has_arith l) (has_arith r) p.1 in
    or_cases (eqb j k) _ h
    (λ x. subst AtomKind (eqb-true j k x) (kind_two j u.low u.high (plain_kind j p.0)))
    (λ x. or_cases (has_kind k l) (has_kind k r) x (atom_kinds l u.child_l q.0 k) (atom_kinds r u.child_r q.1 k))

is_atom_lem : (t : Tree) → is_atom_tree t ≡ true → IsAtom t
is_atom_lem t e =
    let p = tree_atom t e in
    record { variable = p.variable; kinds = atom_kinds t p.expr p.plain }

rows_atom : (w : ℕ) (l : List Row) → rows_ok w l ≡ true → (i : ℕ) → i < length l → IsAtom (row_tree l i)
unfolding row_tree
rows_atom w [] ok i h = absurd (omega arith)
rows_atom w (x ∷ l) ok zero h = is_atom_lem x.tree (rows_cons w x l ok).0.atom
rows_atom w (x ∷ l) ok (suc i) h = rows_atom w l (rows_cons w x l ok).1 i (omega arith)

pub valid_atoms : (f : Form) → valid_form f ≡ true → AllAtoms f
valid_atoms f ok = rows_atom f.bitwidth f.rows (form_parts f ok).rows_ok_lem
