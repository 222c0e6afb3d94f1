-- How flattening goes over the rows (src/lib.rt): the words of the table, the bytes of its atoms and the
-- coefficients beside them show the rows of the form that is being made; a step is said for all rows that they show.
use Rattle.made.specs.declared.Made.{Made}
use Rattle.std.specs.Prelude.{◌≡◌, ℕ, ◌+◌, ◌-◌, ◌^◌, ◌<◌, ◌≤◌, List, [], ◌∷◌, ◌++◌, Bool, true, false, not, ◌&&◌, length, get_or, drop, replicate, eqb}
use Rattle.std.specs.Int.Bits.{bit_and}
use Rattle.arith.specs.Width.{mod_add, mod_mul, mod_neg}
use Rattle.base.specs.Choice.{when}
use Rattle.record.specs.Tree.{Tree}
use Rattle.expr_utils.specs.Utils.{has_shr}
use Rattle.expr.specs.Vars.{next_var, support}
use Rattle.semilinear.specs.Form.{Row}
use Rattle.semilinear.specs.Items.{after_atoms}
use Rattle.semilinear.specs.Valid.{front_ok}
use Rattle.semilinear.specs.DecodeForm.{read_rows}
use Rattle.semilinear.specs.Scan.{AtomsEnd}
use Rattle.made.specs.Made.{Room, Held}
use Rattle.made.specs.Shown.{Shown}
use Rattle.structure_laws.specs.FlattenComplexAtoms.{is_plain, is_complex, at_zero, at_ones, Flat, flat_row}
use Rattle.structure_laws.specs.FlattenComplexAtoms.{flatten_row, flatten_rows, kept_rows}
use Rattle.base.specs.Limits.{atom_limit, var_limit}

-- the test of a row to flatten, without that of its coefficient
unfoldable pub complex_tree : ℕ → Tree → Bool
complex_tree w t = not (is_plain w t) && (eqb (length (support t)) 1 && not (has_shr t))

-- the rows and the constant with the tree t times c in place of its row
unfoldable pub flat_tree : ℕ → Tree → ℕ → List Row → List Row
flat_tree w t c l =
    flat_row w v (bit_and zeroed (2 ^ w - 1 - raised)) (mod_neg c w)
    (flat_row w v (bit_and raised (2 ^ w - 1 - zeroed)) c l)
  where
    v : ℕ
    v = next_var 0 t

    zeroed : ℕ
    zeroed = at_zero w t

    raised : ℕ
    raised = at_ones w (next_var 0 t) t

unfoldable pub flat_constant : ℕ → Tree → ℕ → ℕ → ℕ
flat_constant w t c k = mod_add k (mod_mul c (at_zero w t) w) w

-- ---- what is asked

-- n rows of variable v can be made
pub record VariableReady (w n v : ℕ) (made : Made) (out : List ℕ) : Type 0 where
  pub width : w ≤ 64
  pub within : v < var_limit
  pub room : Room made out
  pub more : made.rows + n < 2 ^ 64

-- f is atoms and, from `terms` on, terms as they must be; no coefficient is set, and the table holds the rows
pub record FrontReady (w : ℕ) (f : List ℕ) (terms : ℕ) (made : Made) (coeffs out : List ℕ) : Type 0 where
  pub width : w ≤ 64
  pub front_ok_lem : front_ok w f ≡ true
  pub ends : AtomsEnd f terms
  pub clear : coeffs ≡ replicate atom_limit 0
  pub held : Held w made out (read_rows 0 f (after_atoms f))

-- ---- the table with its coefficients

-- a step: F on the rows, at most n more, and k on the constant
pub record Extended (w n : ℕ) (F : List Row → List Row) (k : ℕ → ℕ) (made : Made) (out coeffs : List ℕ) (made' : Made) (out' coeffs' : List ℕ)
    : Type 0 where
  pub room : Room made' out'
  pub rows_le : made'.rows ≤ made.rows + n
  pub constant : made'.constant ≡ k made.constant
  pub long : length out' ≡ length out
  pub wide : length coeffs' ≡ length coeffs
  pub shown : (l : List Row) → Shown w made out coeffs l → Shown w made' out' coeffs' (F l)

-- ---- the walk over the rows

-- a form that is being made, with all its rows
abbrev pub flat_with : List Row → ℕ → Bool → Flat
flat_with l k g = record { added = l; constant = k; flag = g }

pub record Works (w : ℕ) (g : Bool) (made : Made) (out coeffs : List ℕ) (s : Flat) : Type 0 where
  pub flag : g ≡ s.flag
  pub constant : made.constant ≡ s.constant
  pub shown : Shown w made out coeffs s.added

-- a row without its term, and as flattening leaves it
unfoldable pub bare_row : Row → Row
bare_row x = record { provenance = x.provenance; tree = x.tree; coeff = 0 }

unfoldable pub kept_row : ℕ → Row → Row
kept_row w x = when (is_complex w x) (λ _. bare_row x) (λ _. x)

-- the row x, number n, is passed, and the flag becomes h: of all rows a before it and b behind it
pub record RowFlattened (w : ℕ) (x : Row) (n : ℕ) (g h : Bool) (made : Made) (out coeffs : List ℕ) (made' : Made) (out' coeffs' : List ℕ)
    : Type 0 where
  pub room : Room made' out'
  pub rows_le : made'.rows ≤ made.rows + 2
  pub long : length out' ≡ length out
  pub wide : length coeffs' ≡ length coeffs
  pub turn : (a b : List Row) (k : ℕ) (d : Bool) → length a ≡ n
      → Works w g made out coeffs (flat_with (a ++ (bare_row x ∷ b)) k d)
      → Works w h made' out' coeffs' (flatten_row w x (flat_with (a ++ (kept_row w x ∷ b)) k d))

-- the rows l flattened, from the constant k on: those kept, and those added behind
unfoldable pub flat_rows : ℕ → List Row → ℕ → Flat
flat_rows w l k = flat_with (kept_rows w l ++ made.added) made.constant made.flag
  where
    made : Flat
    made = flatten_rows w l (flat_with [] k false)

-- all rows flattened, and the words and bytes as safe to go on with as before
pub record RowsFlattened (w : ℕ) (l : List Row) (k len : ℕ) (r : Bool) (made : Made) (out coeffs : List ℕ) : Type 0 where
  pub room : Room made out
  pub long : length out ≡ len
  pub wide : length coeffs ≡ atom_limit
  pub works : Works w r made out coeffs (flat_rows w l k)
