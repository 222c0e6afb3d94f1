-- What the words of a partition say (document 01, "Hint columns"), apart from how the classes are made: which class
-- holds a place, and which bit of an atom's profile word there is the atom's bit under an assignment.
use Rattle.std.specs.Prelude.{◌≡◌, ℕ, zero, suc, ◌+◌, ◌*◌, ◌^◌, ◌≤◌, ◌<◌, List, [], ◌∷◌, true, false, length, get_or}
use Rattle.arith.specs.Bit.{bit_at}
use Rattle.record.specs.Tree.{Tree}
use Rattle.record.specs.Tree.Tree.{Constant}
use Rattle.expr.specs.Value.{value}
use Rattle.expr.specs.Vars.{support}
use Rattle.semilinear.specs.Form.{Row, Form}
use Rattle.partition_laws.specs.Partition.{is_opaque, opaque_word}

-- the tree of atom i
unfoldable pub row_tree : List Row → ℕ → Tree
row_tree [] i = Constant 0
row_tree (x ∷ l) zero = x.tree
row_tree (x ∷ l) (suc i) = row_tree l i

abbrev pub atom_tree : Form → ℕ → Tree
atom_tree f i = row_tree f.rows i

-- the mask of class k in the words of a form's classes
abbrev pub mask_at : Form → List ℕ → ℕ → ℕ
mask_at f out k = get_or out (k * (length f.rows + 1)) 0

-- the profile word of atom i in class k
abbrev pub word_at : Form → List ℕ → ℕ → ℕ → ℕ
word_at f out k i = get_or out (k * (length f.rows + 1) + 1 + i) 0

-- place p is in class k, one of `count`
pub record HoldsPlace (f : Form) (out : List ℕ) (count k p : ℕ) : Type 0 where
  pub below : k < count
  pub there : bit_at (mask_at f out k) p ≡ 1

-- place p is in exactly one class
pub record InOneClass (f : Form) (out : List ℕ) (count p : ℕ) : Type 0 where
  pub class : ℕ
  pub holds : HoldsPlace f out count class p
  pub only : (k : ℕ) → HoldsPlace f out count k p → k ≡ class

-- a place of class k that lies below q
pub record HoldsBelow (f : Form) (out : List ℕ) (count k q : ℕ) : Type 0 where
  pub place : ℕ
  pub less : place < q
  pub holds : HoldsPlace f out count k place

-- the row of the tree t at place p under an assignment: bit j is the bit at p of the j-th smallest variable
pub record IsRow (t : Tree) (p : ℕ) (vars : List ℕ) (row : ℕ) : Type 0 where
  pub low : row < 2 ^ length (support t)
  pub bits : (j : ℕ) → j < length (support t) → bit_at row j ≡ bit_at (get_or vars (get_or (support t) j 0) 0) p

-- `out` begins with the words of `count` classes of the form's places
pub record Columns (f : Form) (out : List ℕ) (count : ℕ) : Type 0 where
  -- without atoms there is no class, and with them each place is in exactly one
  pub none : length f.rows ≡ 0 → count ≡ 0
  pub once : 0 < length f.rows → (p : ℕ) → p < f.bitwidth → InOneClass f out count p
  -- each class holds a place
  pub inhabited : (k : ℕ) → k < count → HoldsBelow f out count k f.bitwidth
  -- masks have w bits, and there are at most w of them, by rising lowest place
  pub mask_lt : (k : ℕ) → k < count → mask_at f out k < 2 ^ f.bitwidth
  pub count_le : count ≤ f.bitwidth
  pub rising : (k j : ℕ) → k < j → (q : ℕ) → HoldsPlace f out count j q → HoldsBelow f out count k q
  -- no two classes have the same profile words
  pub distinct : (k j : ℕ) → k < count → j < count
      → ((i : ℕ) → i < length f.rows → word_at f out k i ≡ word_at f out j i) → k ≡ j
  -- an atom's bit at a place of class k is the bit of its profile word there at the row of the assignment
  pub bit : (i : ℕ) → i < length f.rows → is_opaque (atom_tree f i) ≡ false
      → (k p : ℕ) → HoldsPlace f out count k p
      → (vars : List ℕ) (row : ℕ) → IsRow (atom_tree f i) p vars row
      → bit_at (value f.bitwidth vars (atom_tree f i)) p ≡ bit_at (word_at f out k i) row
  -- the bits past the last row are 0
  pub word_lt : (i : ℕ) → i < length f.rows → is_opaque (atom_tree f i) ≡ false
      → (k : ℕ) → k < count → word_at f out k i < 2 ^ (2 ^ length (support (atom_tree f i)))
  -- the word of an opaque atom
  pub opaque : (i : ℕ) → i < length f.rows → is_opaque (atom_tree f i) ≡ true
      → (k : ℕ) → k < count → word_at f out k i ≡ opaque_word i
