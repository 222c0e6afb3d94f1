-- Xor recovery and mask elimination (structure_recovery.rs 194-331). Differs from the Rust in differences 1 to 4.
-- A widened entry is found by nobody and still looks; a rewritten one does neither.
use Rattle.std.specs.Prelude.{ℕ, ◌+◌, ◌-◌, ◌^◌, List, [], ◌∷◌, Bool, true, false, not, ◌&&◌, length, eqb, ltb, leb}
use Rattle.std.specs.Int.Count.{ones_in}
use Rattle.arith.specs.Width.{mod_add, mod_sub, mod_mul}
use Rattle.base.specs.Choice.{when}
use Rattle.record.specs.Tree.{Tree}
use Rattle.record.specs.Tree.Tree.{Constant, Binary}
use Rattle.group.specs.declared.Group.{Group}
use Rattle.semilinear.specs.Form.{Row, Form, eq_tree}
use Rattle.base.specs.Loop.{for_in, first_in}
use Rattle.entries.specs.declared.Mark.{Mark}
use Rattle.entries.specs.declared.Mark.TheVariants.{Live, Consumed, Widened, Rewritten}
use Rattle.group.specs.Group.{Entry, at, put_entry, consumed, empty_group}
use Rattle.made.specs.Rows.{create_row}
use Rattle.views.specs.Grouping.{any_basis, bases_of, ungrouped}
use Rattle.group.specs.Group.{group_of, settle}
use Rattle.base.specs.Outcome.{Outcome}
use Rattle.semilinear.specs.PassOutcome.{pass_outcome, limit_outcome}

-- a group beside the table and the constant
pub record Recovery : Type 0 where
  pub group : Group
  pub rows : List Row
  pub constant : ℕ

-- the number of the first row with the tree t; the count of rows where there is none
unfoldable pub row_with : ℕ → Tree → ℕ → List Row → ℕ
row_with w t i [] = i
row_with w t i (x ∷ l) = when (eq_tree w x.tree t) (λ _. i) (λ _. row_with w t (i + 1) l)

-- `find_or_create_bare_atom` (90-114): the rows in which the tree t has the number `row_with`
unfoldable pub with_bare : ℕ → Tree → List Row → List Row
with_bare w t rows = when (ltb (row_with w t 0 rows) (length rows)) (λ _. rows) (λ _. create_row t rows)

-- ---- one pair

-- c & x and ~c & x with coefficients that add to 0 become an Xor with the mask of fewer ones as literal; that entry
-- stays, and the constant takes its old coefficient times the mask (286-311)
unfoldable pub recover_xor : ℕ → Tree → ℕ → ℕ → Recovery → Recovery
recover_xor w b src dst x =
    record {
      group =
          put_entry
          (put_entry x.group src
          (record {
            coeff = (at x.group dst).coeff;
            mask = 2 ^ w - 1;
            atom = length x.rows;
            mark = Rewritten;
          }))
          dst (consumed (at x.group dst));
      rows = create_row (Binary 6 (Constant (at x.group src).mask) b) x.rows;
      constant = mod_add x.constant (mod_mul (at x.group src).coeff (at x.group src).mask w) w;
    }

-- otherwise entry i takes the difference of the coefficients, and entry j the basis without a mask (313-323)
unfoldable pub eliminate_mask : ℕ → Tree → ℕ → ℕ → ℕ → Recovery → Recovery
eliminate_mask w b diff i j x =
    record {
      group =
          put_entry
          (put_entry x.group i
          (record { coeff = diff; mask = e.mask; atom = e.atom; mark = e.mark }))
          j (record { coeff = f.coeff; mask = 2 ^ w - 1; atom = row_with w b 0 x.rows; mark = Widened });
      rows = with_bare w b x.rows;
      constant = x.constant;
    }
  where
    e : Entry
    e = at x.group i

    f : Entry
    f = at x.group j

-- how many of a word's 64 bits are 1
abbrev pub count_ones : ℕ → ℕ
count_ones m = ones_in 64 m

unfoldable pub recover_pair : ℕ → Tree → ℕ → ℕ → Recovery → Recovery
recover_pair w b i j x =
    when (eqb (mod_add e.coeff f.coeff w) 0)
    (λ _. when (leb (count_ones e.mask) (count_ones f.mask)) (λ _. recover_xor w b i j x)
    (λ _. recover_xor w b j i x))
    (λ _. when (eqb (mod_sub e.coeff f.coeff w) 0) (λ _. x)
    (λ _. eliminate_mask w b (mod_sub e.coeff f.coeff w) i j x))
  where
    e : Entry
    e = at x.group i

    f : Entry
    f = at x.group j

-- ---- a group

-- an entry as it was in the list of masks
abbrev pub as_gathered : Mark → Bool
as_gathered Live = true
as_gathered Consumed = false
as_gathered Widened = false
as_gathered Rewritten = false

-- an entry that looks for a partner
abbrev pub looks : Mark → Bool
looks Live = true
looks Consumed = false
looks Widened = true
looks Rewritten = false

-- entry j is as it was in the list of masks, and has the mask m
unfoldable pub is_partner : ℕ → Group → ℕ → Bool
is_partner m g j = as_gathered (at g j).mark && eqb (at g j).mask m

-- the first later entry with the complement mask
unfoldable pub partner_of : ℕ → Group → ℕ → ℕ
partner_of w g i = first_in (is_partner (2 ^ w - 1 - (at g i).mask) g) (i + 1) g.len

unfoldable pub recover_at : ℕ → Tree → ℕ → Recovery → Recovery
recover_at w b i x =
    when (not (looks (at x.group i).mark)) (λ _. x)
    (λ _. when (ltb (partner_of w x.group i) x.group.len)
    (λ _. recover_pair w b i (partner_of w x.group i) x) (λ _. x))

unfoldable pub recover_group : ℕ → Tree → Recovery → Recovery
recover_group w b x = for_in (recover_at w b) 0 x.group.len x

-- ---- the form

unfoldable pub recover_all : ℕ → List Row → List Tree → List Row → ℕ → Form
recover_all w before [] rows c = record { bitwidth = w; constant = c; rows = rows }
recover_all w before (b ∷ l) rows c = recover_all w before l (settle w r.group r.rows) r.constant
  where
    r : Recovery
    r = recover_group w b (record { group = group_of any_basis w b 0 before empty_group; rows = rows; constant = c })

unfoldable pub recover_form : Form → Form
recover_form f =
    recover_all f.bitwidth f.rows (bases_of any_basis f.bitwidth f.rows [])
    (ungrouped any_basis f.bitwidth f.rows) f.constant

-- what `recover_structure` gives for the bytes s and a result slice of len bytes
unfoldable pub recover_structure : List ℕ → ℕ → Outcome
recover_structure = pass_outcome (λ f. limit_outcome (recover_form f) false)
