-- What is claimed of the bytes that normalising an expression writes.
use Rattle.std.specs.Prelude.{◌≡◌, ℕ, List, true}
use Rattle.record.specs.Fields.{width}
use Rattle.expr.specs.ExprValue.{expr_value}
use Rattle.semilinear.specs.Form.{Form, term_count, encode_form, valid_form}
use Rattle.semilinear_value.specs.Value.{semilinear_value}

-- t are the bytes of a valid form of the expression's width, so that every atom has a variable and only kinds 0, 1, 4 to
-- 7 and 9 (`is_atom_tree`); n is its count of terms; and its value is that of the expression s under every assignment
pub record FormOf (s t : List ℕ) (n : ℕ) : Type 0 where
  pub form : Form
  pub encoded : t ≡ encode_form form
  pub valid : valid_form form ≡ true
  pub wide : form.bitwidth ≡ width s
  pub counted : n ≡ term_count form.rows
  pub value : (vars : List ℕ) → semilinear_value t vars ≡ expr_value s vars
