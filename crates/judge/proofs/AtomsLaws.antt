-- The atoms at the front of some bytes as one sum (specs/Forms.antt): it is that of the rows, and how a walk passes an
-- atom.
use mathlib.Core.Path.{◌≡◌, ap, ap₂, sym, ◌∙◌}
use Prim.Native.Nat.{ℕ, ◌+◌, ◌≤◌, min}
use native.Mathlib.Omega.{arith}
use mathlib.Core.List.{List}
use mathlib.Core.Bool.{true, false}
use Rattle.base.proofs.BoolLaws.{or_of_l}
use Rattle.record.specs.Tree.{Tree}
use Rattle.record.specs.Tree.Tree.{Binary}
use Rattle.record.specs.Span.{sized}
use Rattle.record.specs.Decode.{decode}
use Rattle.expr.specs.Vars.{no_var, next_var}
use Rattle.expr.proofs.VarsLaws.{next_var_le}
use Rattle.truth.specs.Truth.{shifts_var}
use Rattle.semilinear.specs.declared.items.Atom.{Atom}
use Rattle.semilinear.specs.Atoms.{FrontAtom}
use Rattle.semilinear.specs.Items.{is_atom, tree_span}
use Rattle.semilinear.specs.DecodeForm.{after_term, row_at, rows_of}
use Rattle.semilinear.proofs.ItemsLaws.{fold_atom, fold_done, atoms_ind, rows_atom, rows_end}
use Rattle.semilinear.proofs.ValidLaws.{later_atoms_ok, first_tree_sized}
use Rattle.judge_laws.specs.Judge.{atoms_tree}
use Rattle.judge.specs.Forms.{front_tree, AtomsRead}

Rows : List ℕ → Type 0
Rows r = (i : ℕ) (q : List ℕ) → atoms_tree (rows_of i r q) ≡ front_tree r

-- whatever the terms are
pub front_rows : (r : List ℕ) (i : ℕ) (q : List ℕ) → atoms_tree (rows_of i r q) ≡ front_tree r
unfolding Rows atoms_tree row_at
front_rows =
    atoms_ind Rows (λ r e i q. ap atoms_tree (rows_end i r q e) ∙ sym (fold_done _ _ r e))
    (λ r e below i q. ap atoms_tree (rows_atom i r q e)
    ∙ ap (Binary 2 (decode (tree_span r))) (below (i + 1) (after_term i q))
    ∙ sym (fold_atom _ _ r e))

-- the walk gives the atom a at the front of r, and t is left
module _ {r t : List ℕ} {a : Atom} (g : FrontAtom r a t) where
  front_next : front_tree r ≡ Binary 2 (decode a.tree.now) (front_tree t)
  front_next =
      fold_atom _ _ r g.stands
      ∙ ap₂ (λ (x y : List ℕ). Binary 2 (decode x) (front_tree y)) (sym g.tree) (sym g.rest)

  pub read_sized : AtomsRead r → sized a.tree.now ≡ true
  read_sized read = rw g.tree (first_tree_sized read.bits r read.ok g.stands)

  pub read_next : AtomsRead r → AtomsRead t
  read_next read = record { bits = read.bits; ok = rw g.rest (later_atoms_ok read.bits r read.ok g.stands) }

  -- the lowest variable so far, and that of what is left
  pub next_passed : (from x : ℕ) {y v all : ℕ} → v ≡ next_var from (decode a.tree.now) → y ≡ min x v
      → all ≡ min x (next_var from (front_tree r))
      → all ≡ min y (next_var from (front_tree t))
  unfolding next_var
  next_passed from x ev ey h = omega (arith, ev, ey, h ∙ ap (λ (b : Tree). min x (next_var from b)) front_next)

  -- the atom shifts a variable, or what is left decides
  pub shift_here : shifts_var (decode a.tree.now) ≡ true → shifts_var (front_tree r) ≡ true
  unfolding shifts_var
  shift_here e = ap shifts_var front_next ∙ or_of_l _ _ e

  pub shift_passed : shifts_var (decode a.tree.now) ≡ false → shifts_var (front_tree r) ≡ shifts_var (front_tree t)
  unfolding shifts_var
  shift_passed e = ap shifts_var front_next ∙ simp e

-- no atom is left
module _ (r : List ℕ) (e : is_atom r ≡ false) where
  pub next_end : (from x : ℕ) {all : ℕ} → x ≤ no_var → all ≡ min x (next_var from (front_tree r)) → x ≡ all
  unfolding next_var
  next_end from x h q = omega (arith, q ∙ ap (λ (t : Tree). min x (next_var from t)) (fold_done _ _ r e), h)

  pub shift_end : false ≡ shifts_var (front_tree r)
  unfolding shifts_var
  shift_end = sym (ap shifts_var (fold_done _ _ r e))

pub next_start : (from : ℕ) (f : List ℕ)
    → next_var from (front_tree f) ≡ min no_var (next_var from (front_tree f))
next_start from f = omega (arith, next_var_le from (front_tree f))
