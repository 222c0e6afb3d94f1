-- The rows of a form as a pass sees them, in a lent array: a row that is in a group has a view, which is its
-- coefficient, the hash of the basis, where the basis starts and ends in the bytes f of the atoms, and the mask. A row
-- that is in no group has none.
use Rattle.std.specs.Prelude.{ℕ, ◌-◌, ◌≤◌, ◌<◌, ◌≡◌, List, Bool, true, false, ◌&&◌, length, get_or, take, drop, eqb, Option, Some, None}
use Rattle.base.specs.Lists.{eq_list}
use Rattle.base.specs.Put.{put}
use Rattle.record.specs.Tree.{Tree}
use Rattle.record.specs.Tree.Tree.{Constant}
use Rattle.record.specs.Decode.{decode}
use Rattle.expr_refusal.specs.Refusal.{tree_refusal}
use Rattle.expr_utils.specs.Utils.{has_var_dep}
use Rattle.semilinear.specs.Form.{Row, new_row}
use Rattle.semilinear.specs.Items.{atom_count}
use Rattle.semilinear.specs.Valid.{atoms_ok}
use Rattle.semilinear.specs.Scan.{AtomsEnd}
use Rattle.decompose.specs.Decompose.{Decomposed, no_basis, masked}
use Rattle.atom_table.specs.Terms.{coeffs_of}
use Rattle.views.specs.declared.View.{View}
use Rattle.views.specs.Grouping.{view_row, any_basis, variable_basis, ungrouped}
use Rattle.made.specs.Made.{Basis}

-- ---- the array

-- what stands at row i: its view, where it is in a group
abbrev pub found_at : List (Option View) → ℕ → Option View
found_at views i = get_or views i None

-- a view, or where there is none one of no row
unfoldable pub view_or_blank : Option View → View
view_or_blank None = record { coeff = 0; hash = 0; start = 0; end = 0; mask = 0 }
view_or_blank (Some v) = v

-- the view of row i, which is in a group
unfoldable pub view_at : List (Option View) → ℕ → View
view_at views i = view_or_blank (found_at views i)

-- the bytes of the basis
unfoldable pub basis_bytes : List ℕ → View → List ℕ
basis_bytes f v = take (v.end - v.start) (drop v.start f)

-- basis and mask as a view has them
unfoldable pub split_of : List ℕ → Option View → Decomposed
split_of f None = no_basis
split_of f (Some v) = masked (decode (basis_bytes f v)) v.mask

-- the coefficient c stays with the row where it is in no group
unfoldable pub kept_of : Option View → ℕ → ℕ
kept_of None c = c
kept_of (Some v) c = 0

-- ---- what they say of the rows

-- all bases count, or only variables
unfoldable pub only_of : Bool → Tree → Bool
only_of true = variable_basis
only_of false = any_basis

-- a view whose basis stands in f
pub record InGroup (w : ℕ) (f : List ℕ) (v : View) : Type 0 where
  pub start_le : v.start ≤ v.end
  pub end_le : v.end ≤ length f
  pub basis : Basis w v.hash (basis_bytes f v)

-- the row x has this view, or none
pub record Viewed (only : Tree → Bool) (w : ℕ) (f : List ℕ) (found : Option View) (x : Row) : Type 0 where
  pub split : view_row only w x ≡ split_of f found
  pub in_group : (v : View) → found ≡ Some v → InGroup w f v
  pub coeff : (v : View) → found ≡ Some v → v.coeff ≡ x.coeff

-- the row of no number
unfoldable pub blank_row : Row
blank_row = new_row (Constant 0) 0

-- every row with the tree t and the coefficient c has this view, or none
abbrev pub ViewsTree : (Tree → Bool) → ℕ → List ℕ → Tree → ℕ → Option View → Type 0
ViewsTree only w f t c found = (x : Row) → x.tree ≡ t → x.coeff ≡ c → Viewed only w f found x

-- the array has the views of the rows
pub record Views (only : Tree → Bool) (w : ℕ) (f : List ℕ) (views : List (Option View)) (rows : List Row) : Type 0 where
  pub room : length rows ≤ length views
  pub each : (i : ℕ) → i < length rows → Viewed only w f (found_at views i) (get_or rows i blank_row)

-- ---- reading

-- the part of f from `from` to `to` is a tree that no refusal is about, with a variable
pub record ViewReady (w : ℕ) (f : List ℕ) (from to : ℕ) : Type 0 where
  pub width : w ≤ 64
  pub from_le : from ≤ to
  pub to_le : to ≤ length f
  pub accepted : tree_refusal w (take (to - from) (drop from f)) ≡ 0
  pub variable : has_var_dep (decode (take (to - from) (drop from f))) ≡ true

-- f is atoms as they must be and, from `terms` on, terms, and there is room for all views and coefficients
pub record ViewsReady (w : ℕ) (f : List ℕ) (terms : ℕ) (views : List (Option View)) (coeffs : List ℕ) : Type 0 where
  pub width : w ≤ 64
  pub atoms_ok_lem : atoms_ok w f ≡ true
  pub ends : AtomsEnd f terms
  pub views_room : atom_count f ≤ length views
  pub coeffs_room : atom_count f ≤ length coeffs

-- r rows were read: their views, and the coefficients of those that are in no group
pub record ViewsRead (only : Tree → Bool) (w : ℕ) (f : List ℕ) (rows : List Row) (coeffs : List ℕ)
    (views' : List (Option View)) (coeffs' : List ℕ) (r : ℕ) : Type 0 where
  pub number : r ≡ length rows
  pub views : Views only w f views' rows
  pub kept : coeffs' ≡ put coeffs 0 (coeffs_of (ungrouped only w rows))

-- ---- what is asked of the array

-- the views of the first n rows name parts of f
pub record Readable (f : List ℕ) (views : List (Option View)) (n : ℕ) : Type 0 where
  pub room : n ≤ length views
  pub start_le : (i : ℕ) → i < n → (v : View) → found_at views i ≡ Some v → v.start ≤ v.end
  pub end_le : (i : ℕ) → i < n → (v : View) → found_at views i ≡ Some v → v.end ≤ length f

-- a row has a view, with the basis of these bytes and this hash
unfoldable pub has_basis : List ℕ → Option View → ℕ → List ℕ → Bool
has_basis f None hash b = false
has_basis f (Some v) hash b = eqb v.hash hash && eq_list (basis_bytes f v) b
