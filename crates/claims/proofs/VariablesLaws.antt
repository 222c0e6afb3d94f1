-- Variables of two bytes (ticket #101): each number below 65,536 is that of an accepted file; byte 5 is 0 in every root
-- that is no variable; and files and sheets whose variables are below 256 have the bytes that they had
-- (specs/Variables.antt), and are read as they were.
use mathlib.Core.Path.{◌≡◌, refl, ap, ap₂, sym, ◌∙◌}
use Prim.Native.Nat.{ℕ, ◌+◌, ◌^◌, ◌%◌, ◌≤◌, ◌<◌}
use native.Mathlib.Omega.{arith}
use mathlib.Core.List.{List, [], ◌∷◌, ◌++◌}
use mathlib.Core.Bool.{true, and-false}
use lib.ListN.{get_or}
use borrow.Author.Tests.{ltb-true, ne_eqb}
use Rattle.base.specs.Limits.{var_limit}
use Rattle.base.proofs.BoolLaws.{and_true}
use Rattle.record.specs.Fields.{kind, byte5, spare_high, spare}
use Rattle.record.specs.Tree.{Tree, size_of, record_bytes, variable_bytes, encode}
use Rattle.record.specs.Tree.Tree.{Constant, Variable, Unary, Binary}
use Rattle.record.specs.Decode.{decode}
use Rattle.record.proofs.VariableLaws.{variable_low}
use Rattle.expr_refusal.specs.Refusal.{unused, form_ok, root_refusal, tree_refusal, expr_refusal, is_expr}
use Rattle.expr_refusal.proofs.RefusalLaws.{accepted_root, root_spare}
use Rattle.expr.specs.Hash.{structural_hash}
use Rattle.expr.specs.Value.{value}
use Rattle.expr.specs.ExprValue.{expr_value}
use Rattle.expr.proofs.IsExprLaws.{expr_of_variable, decode_encode}
use Rattle.expr.proofs.AcceptLaws.{file_accept, expr_value_encode}
use Rattle.semilinear.specs.Form.{Row, Form, atom_bytes, atoms_bytes, terms_bytes, sum_bytes, encode_form, valid_form}
use Rattle.semilinear.specs.Valid.{is_semilinear}
use Rattle.semilinear.specs.DecodeForm.{decode_form}
use Rattle.semilinear.proofs.EncodeFormLaws.{form_decode, form_accept}
use Rattle.claims.specs.Variables.{byte_vars, byte_rows, old_encode, old_atoms, old_form}

-- ---- two bytes

-- each number is that of a file: one record, accepted, read as that variable, and of its word's value
pub record OneVariable (w i : ℕ) : Type 0 where
  pub taken : expr_refusal (variable_bytes w i) ≡ 0
  pub back : decode (variable_bytes w i) ≡ Variable i
  pub valued : (vars : List ℕ) → expr_value (variable_bytes w i) vars ≡ get_or vars i 0 % 2 ^ w

pub any_variable : (w : ℕ) → 1 ≤ w → w ≤ 64 → (i : ℕ) → i < var_limit → OneVariable w i
unfolding encode size_of value
any_variable w pos le i h =
    let e : is_expr (Variable i) ≡ true = expr_of_variable i h in
    record {
      taken = file_accept w pos le (Variable i) e (omega arith);
      back = decode_encode w (Variable i) e;
      valued = expr_value_encode w pos le (Variable i) e (omega arith);
    }

-- byte 5 is 0 in an accepted root that is no variable
pub other_byte5 : (w : ℕ) (s : List ℕ) → tree_refusal w s ≡ 0 → (kind s ≡ 1 → ⊥) → byte5 s ≡ 0
unfolding spare
other_byte5 w s e h =
    let z : byte5 s + spare_high s ≡ 0 = root_spare w s (accepted_root w s e) h in
    omega arith

-- and a root that is none, and has another byte there, is refused by 3
pub set_byte5 : (w : ℕ) (s : List ℕ) → (kind s ≡ 1 → ⊥) → (byte5 s ≡ 0 → ⊥) → root_refusal w s ≡ 3
unfolding root_refusal form_ok unused spare
set_byte5 w s h b =
    simp (ne_eqb (kind s) 1 h, ne_eqb (byte5 s + spare_high s) 0 (λ z. b (omega arith)), and-false)

-- ---- one byte, as it was

pub same_tree : (w : ℕ) (t : Tree) → byte_vars t ≡ true → encode w t ≡ old_encode w t
unfolding byte_vars encode old_encode
same_tree w (Constant v) e = refl
same_tree w (Variable i) e = variable_low w i (ltb-true i 256 e)
same_tree w (Unary k a t) e = ap (λ (s : List ℕ). s ++ record_bytes k a (size_of t + 1) w 0) (same_tree w t e)
same_tree w (Binary k l r) e =
    let p = and_true (byte_vars l) (byte_vars r) e in
    ap (λ (s : List ℕ). s ++ record_bytes k 0 (size_of l + size_of r + 1) w 0)
    (ap₂ (λ (x y : List ℕ). x ++ y) (same_tree w l p.0) (same_tree w r p.1))

same_atoms : (w : ℕ) (l : List Row) → byte_rows l ≡ true → atoms_bytes w l ≡ old_atoms w l
unfolding byte_rows atoms_bytes atom_bytes old_atoms
same_atoms w [] e = refl
same_atoms w (x ∷ l) e =
    let p = and_true (byte_vars x.tree) (byte_rows l) e in
    let head : List ℕ = record_bytes 33 x.provenance (size_of x.tree) w (structural_hash x.tree) in
    ap₂ (λ (s r : List ℕ). (head ++ s) ++ r) (same_tree w x.tree p.0) (same_atoms w l p.1)

pub same_form : (f : Form) → byte_rows f.rows ≡ true → encode_form f ≡ old_form f
unfolding encode_form old_form
same_form f e =
    ap (λ (s : List ℕ).
    (s ++ terms_bytes f.bitwidth 0 f.rows) ++ sum_bytes f.bitwidth f.constant)
    (same_atoms f.bitwidth f.rows e)

-- the files that were accepted, and what they are read as
pub old_file : (w : ℕ) → 1 ≤ w → w ≤ 64 → (t : Tree) → is_expr t ≡ true → size_of t ≤ 1024 → byte_vars t ≡ true
    → (expr_refusal (old_encode w t) ≡ 0) × (decode (old_encode w t) ≡ t)
old_file w pos le t e few b =
    let same = sym (same_tree w t b) in
    (ap expr_refusal same ∙ file_accept w pos le t e few, ap decode same ∙ decode_encode w t e)

-- the sheets
pub old_sheet : (f : Form) → valid_form f ≡ true → byte_rows f.rows ≡ true
    → (is_semilinear (old_form f) ≡ true) × (decode_form (old_form f) ≡ f)
old_sheet f v b =
    let same = sym (same_form f b) in
    (ap is_semilinear same ∙ form_accept f v, ap decode_form same ∙ form_decode f v)
