-- What the atoms of a form hold (document 01, "The sheet").
use Rattle.std.specs.Prelude.{◌≡◌, ℕ, ◌<◌, true, length}
use Rattle.record.specs.Tree.{Tree}
use Rattle.expr_utils.specs.Utils.{has_kind}
use Rattle.semilinear.specs.Form.{Form}
use Rattle.partition_laws.specs.Columns.{atom_tree}

-- the kinds of an atom's records: Constant, Variable, And, Or, Xor, Not, Shr
pub data AtomKind : ℕ → Type 0 where
  constant_kind : AtomKind 0
  variable_kind : AtomKind 1
  and_kind : AtomKind 4
  or_kind : AtomKind 5
  xor_kind : AtomKind 6
  not_kind : AtomKind 7
  shr_kind : AtomKind 9

-- the tree holds a variable, and only these kinds
pub record IsAtom (t : Tree) : Type 0 where
  pub variable : has_kind 1 t ≡ true
  pub kinds : (k : ℕ) → has_kind k t ≡ true → AtomKind k

-- every atom of the form, with a term or without, is one
abbrev pub AllAtoms : Form → Type 0
AllAtoms f = (i : ℕ) → i < length f.rows → IsAtom (atom_tree f i)
