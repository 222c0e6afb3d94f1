-- What the columns keep of each atom in a lent index: where the atom starts in the form's bytes, its edges, and the
-- rows of its table as ones with its variables; an opaque atom has no table.
use Rattle.std.specs.Prelude.{◌≡◌, ℕ, ◌-◌, ◌^◌, ◌≤◌, ◌<◌, List, [], ◌∷◌, Some, None, true, length, get_or, drop}
use Rattle.profile.specs.declared.index.AtomFacts.{AtomFacts}
use Rattle.std.specs.Int.Bits.{bit_or}
use Rattle.arith.specs.Bit.{bit_at}
use Rattle.base.specs.Choice.{when}
use Rattle.record.specs.Span.{sized}
use Rattle.record.specs.Tree.{Tree, IsBytes}
use Rattle.record.specs.Tree.Tree.{Constant}
use Rattle.record.specs.Decode.{decode}
use Rattle.expr_refusal.specs.Refusal.{is_expr}
use Rattle.expr.specs.Vars.{first_vars, support}
use Rattle.semilinear.specs.Items.{is_atom, tree_span, fold_atoms}
use Rattle.semilinear.specs.Valid.{atoms_ok}
use Rattle.partition_laws.specs.Partition.{is_opaque}
use Rattle.profile.specs.Edges.{edges_of, atom_edges}

-- the trees of the atoms at the front of some bytes, and that of atom i
abbrev pub atom_trees : List ℕ → List Tree
atom_trees = fold_atoms (λ r. []) (λ r l. decode (tree_span r) ∷ l)

abbrev pub tree_of : List ℕ → ℕ → Tree
tree_of f i = get_or (atom_trees f) i (Constant 0)

-- bytes with atoms at the front that are as they must be, at some width
pub record AtomsValid (f : List ℕ) : Type 0 where
  pub bytes : IsBytes f
  pub width : ℕ
  pub ok : atoms_ok width f ≡ true

-- the facts of an atom with the tree t, which starts at `at`
unfoldable pub atom_facts : ℕ → Tree → AtomFacts
atom_facts at t =
    when (is_opaque t) (λ _. record { at = at; edges = 1; table = None })
    (λ _. record {
      at = at;
      edges = bit_or (edges_of t) 1;
      table = Some (record { rows = 2 ^ (2 ^ length (support t)) - 1; vars = first_vars 6 0 t });
    })

-- the index has the facts of atom i, whose tree is t, and this tree stands in the bytes f where they say
pub record EntryFor (f : List ℕ) (index : List AtomFacts) (i : ℕ) (t : Tree) : Type 0 where
  pub at : ℕ
  pub inside : at ≤ length f
  pub atom : is_atom (drop at f) ≡ true
  pub shape : sized (tree_span (drop at f)) ≡ true
  pub tree : decode (tree_span (drop at f)) ≡ t
  pub expr : is_expr t ≡ true
  pub facts : (d : AtomFacts) → get_or index i d ≡ atom_facts at t

-- the index has the facts of all atoms at the front of f
pub record IndexReadable (f : List ℕ) (index : List AtomFacts) : Type 0 where
  pub room : length (atom_trees f) ≤ length index
  pub entry : (i : ℕ) → i < length (atom_trees f) → EntryFor f index i (tree_of f i)

-- and `edges` has all their edges
pub record AtomsIndexed (f : List ℕ) (index : List AtomFacts) (edges : ℕ) : Type 0 where
  pub readable : IndexReadable f index
  pub start : 0 < length (atom_trees f) → bit_at edges 0 ≡ 1
  pub covers : (i : ℕ) → i < length (atom_trees f) → (p : ℕ) → bit_at edges p ≡ 0 → bit_at (atom_edges (tree_of f i)) p ≡ 0
