-- How worked examples are written, and the test that they hold: what a definition gives beside what it should give.
use Rattle.std.specs.Prelude.{ℕ, List, [], ◌∷◌, Bool, true, false, ◌&&◌, eqb}
use Rattle.base.specs.Lists.{eq_list}
use Rattle.record.specs.Tree.{Tree}
use Rattle.record.specs.Tree.Tree.{Constant, Variable, Binary}
use Rattle.semilinear.specs.Form.{Row, Form, new_row}
use Rattle.base.specs.Outcome.{Outcome, accepted, refused}
use Rattle.semilinear.specs.Outcome.{form_outcome}
use Rattle.normalizer_laws.specs.Normalize.{normalize_tree}
use Rattle.structure_laws.specs.FlattenComplexAtoms.{flattened, flatten_form}
use Rattle.partition_laws.specs.Partition.{partitions_outcome}

-- what a definition gives, and what it should give
pub record Example : Type 0 where
  pub got : Outcome
  pub want : Outcome

-- the same elements and numbers, or the same refusal
unfoldable pub same_outcome : Outcome → Outcome → Bool
same_outcome (accepted l ns) (accepted m ks) = eq_list l m && eq_list ns ks
same_outcome (accepted l ns) (refused k) = false
same_outcome (refused n) (accepted m ks) = false
same_outcome (refused n) (refused k) = eqb n k

unfoldable pub all_hold : List Example → Bool
all_hold [] = true
all_hold (x ∷ l) = same_outcome x.got x.want && all_hold l

-- ---- how the examples are written

abbrev pub a : Tree
a = Variable 0

abbrev pub b : Tree
b = Variable 1

abbrev pub mask : Tree → ℕ → Tree
mask t m = Binary 4 t (Constant m)

-- a row: tree, and coefficient, 0 where it has no term
abbrev pub row : Tree → ℕ → Row
row t c = new_row t c

-- c·(a & m)
abbrev pub term : ℕ → ℕ → Row
term m c = row (mask a m) c

abbrev pub form : ℕ → ℕ → List Row → Form
form w c l = record { bitwidth = w; constant = c; rows = l }

-- normalising t at w bits gives the constant c and the rows l, or the refusal n
abbrev pub normal : ℕ → Tree → ℕ → List Row → Example
normal w t c l = record { got = normalize_tree w t; want = form_outcome (form w c l) false }

abbrev pub refusal : ℕ → Tree → ℕ → Example
refusal w t n = record { got = normalize_tree w t; want = refused n }

-- a pass makes the form f of the form e
abbrev pub pass : (Form → Form) → Form → Form → Example
pass p e f = record { got = form_outcome (p e) false; want = form_outcome f false }

-- flattening makes the form f of the form e, and returns the flag
abbrev pub flat : Form → Form → Bool → Example
flat e f flag = record { got = form_outcome (flatten_form e) (flattened e).flag; want = form_outcome f flag }

-- the columns of the form f are the words l, of n classes
abbrev pub columns : Form → List ℕ → ℕ → Example
columns f l n = record { got = partitions_outcome f; want = accepted l (n ∷ []) }
