-- What the judge knows of a side and its form.
use Rattle.std.specs.Prelude.{◌≡◌, ℕ, ◌≤◌, List, true, false, length}
use Rattle.record.specs.Tree.{Tree}
use Rattle.judge.specs.declared.sides.SideKind.{SideKind}
use Rattle.judge.specs.declared.sides.SideKind.TheVariants.{Expression, Form}
use Rattle.record.specs.Tree.Tree.{Constant, Binary}
use Rattle.record.specs.Decode.{decode}
use Rattle.truth.specs.Truth.{shifts_var}
use Rattle.semilinear.specs.Form.{Form as TermsForm, form_value, encode_form, valid_form}
use Rattle.semilinear.specs.Items.{tree_span, fold_atoms}
use Rattle.semilinear.specs.Valid.{atoms_ok}
use Rattle.judge_laws.specs.Judge.{Side, expr_side, form_side, judged_vars}
use Rattle.judge_laws.specs.PlaceSum.{RowsUnshifted}

-- the side of bytes: those of a semilinear form, or of an expression
abbrev pub side_of : SideKind → List ℕ → Side
side_of Form s = form_side s
side_of Expression s = expr_side s

-- the sum of the atoms at the front of some bytes, and that these are as they must be, at some width
abbrev pub front_tree : List ℕ → Tree
front_tree = fold_atoms (λ r. Constant 0) (λ r t. Binary 2 (decode (tree_span r)) t)

pub record AtomsRead (f : List ℕ) : Type 0 where
  pub bits : ℕ
  pub ok : atoms_ok bits f ≡ true

-- f are the bytes of a form that has the value of the side a
pub record FormFor (a : Side) (f : List ℕ) : Type 0 where
  pub taken : a.refusal ≡ 0
  pub form : TermsForm
  pub encoded : f ≡ encode_form form
  pub valid : valid_form form ≡ true
  pub wide : form.bitwidth ≡ a.bitwidth
  pub kept : (vars : List ℕ) → form_value vars form ≡ a.value vars
  pub unshifted : shifts_var a.tree ≡ false → RowsUnshifted form.rows

-- f are the bytes of a form of width w whose atoms shift no variable
pub record Unshifted (w : ℕ) (f : List ℕ) : Type 0 where
  pub form : TermsForm
  pub encoded : f ≡ encode_form form
  pub valid : valid_form form ≡ true
  pub wide : form.bitwidth ≡ w
  pub unshifted : RowsUnshifted form.rows

-- two forms that can be compared over the variables vs
pub record Comparable (w : ℕ) (f g vs : List ℕ) : Type 0 where
  pub left : Unshifted w f
  pub right : Unshifted w g
  pub few : length vs ≤ judged_vars
