-- The judge (document 02, #102): whether two sides have the same value under every assignment, and where they have not,
-- the first assignment of one bit place that tells them apart. The request asks for two expressions; the same
-- definition judges two semilinear forms as they are, without normalising them.
use Rattle.std.specs.Prelude.{ℕ, zero, suc, ◌+◌, ◌*◌, ◌^◌, max, List, [], ◌∷◌, Bool, not, ◌||◌, length, eqb, ltb}
use Rattle.base.specs.Choice.{when}
use Rattle.base.specs.Limits.{form_bytes}
use Rattle.base.specs.Loop.{first_in}
use Rattle.base.specs.Outcome.{refusal_of}
use Rattle.record.specs.Fields.{width}
use Rattle.record.specs.Tree.{Tree}
use Rattle.record.specs.Tree.Tree.{Constant, Binary}
use Rattle.record.specs.Decode.{decode}
use Rattle.expr.specs.Vars.{support}
use Rattle.expr.specs.ExprValue.{expr_value}
use Rattle.truth.specs.Truth.{shifts_var, row_bits}
use Rattle.semilinear.specs.Form.{Row}
use Rattle.semilinear.specs.Valid.{semilinear_refusal}
use Rattle.semilinear.specs.DecodeForm.{decode_form}
use Rattle.semilinear_value.specs.Value.{semilinear_value}
use Rattle.normalizer_laws.specs.Normalize.{normalize_to_semilinear}
use Rattle.judge_laws.specs.declared.Verdict.{Verdict}

-- ---- a side

-- its refusal by itself, 0 where it has none; its width; a tree with its variables and shifts; its value
pub record Side : Type 0 where
  pub refusal : ℕ
  pub bitwidth : ℕ
  pub tree : Tree
  pub value : List ℕ → ℕ

-- an expression: refused as by normalising with a result slice of the right length, by 1, 3 to 6, 8 or 9; the tree as
-- it is given
abbrev pub expr_side : List ℕ → Side
expr_side s =
    record {
      refusal = refusal_of (normalize_to_semilinear s form_bytes);
      bitwidth = width s;
      tree = decode s;
      value = expr_value s;
    }

-- the sum of all atoms of a table, used or not
unfoldable pub atoms_tree : List Row → Tree
atoms_tree [] = Constant 0
atoms_tree (x ∷ l) = Binary 2 x.tree (atoms_tree l)

-- a semilinear form: refused by 1 or 10
abbrev pub form_side : List ℕ → Side
form_side s =
    record {
      refusal = semilinear_refusal s;
      bitwidth = width s;
      tree = atoms_tree (decode_form s).rows;
      value = semilinear_value s;
    }

-- ---- refusals

-- the variables that occur in either tree, rising
unfoldable pub joint_vars : Side → Side → List ℕ
joint_vars a b = support (Binary 2 a.tree b.tree)

-- the most variables of the two together
abbrev pub judged_vars : ℕ
judged_vars = 5

-- the left's, the right's, then 11 for unlike widths, 12 for too many variables, 13 for a shift by more than 0 of a
-- variable; 0 where the two are judged
unfoldable pub judge_refusal : Side → Side → ℕ
judge_refusal a b =
    when (not (eqb a.refusal 0)) (λ _. a.refusal)
    (λ _. when (not (eqb b.refusal 0)) (λ _. b.refusal)
    (λ _. when (not (eqb a.bitwidth b.bitwidth)) (λ _. 11)
    (λ _. when (ltb judged_vars (length (joint_vars a b))) (λ _. 12)
    (λ _. when (shifts_var a.tree || shifts_var b.tree) (λ _. 13) (λ _. 0)))))

-- ---- the assignment of a place and an index

-- n words, the first is f 0
unfoldable pub words : ℕ → (ℕ → ℕ) → List ℕ
words zero f = []
words (suc n) f = f 0 ∷ words n (λ k. f (suc k))

-- above every number of the list
unfoldable pub above : List ℕ → ℕ
above [] = 0
above (v ∷ vs) = max (v + 1) (above vs)

-- at place p the j-th variable of the list has bit j of i; all other bits are 0
unfoldable pub single : List ℕ → ℕ → ℕ → List ℕ
single vs p i = words (above vs) (λ v. row_bits 0 vs i v * 2 ^ p)

-- ---- two values compared, over the variables vs

-- f and g differ under the assignment of place p and index i
unfoldable pub differs : (List ℕ → ℕ) → (List ℕ → ℕ) → List ℕ → ℕ → ℕ → Bool
differs f g vs p i = not (eqb (f (single vs p i)) (g (single vs p i)))

-- the indices at a place
unfoldable pub indices : List ℕ → ℕ
indices vs = 2 ^ length vs

-- the first index at place p under which they differ, the count of indices where there is none
unfoldable pub first_index : (List ℕ → ℕ) → (List ℕ → ℕ) → List ℕ → ℕ → ℕ
first_index f g vs p = first_in (differs f g vs p) 0 (indices vs)

-- they differ somewhere at place p
unfoldable pub differs_at : (List ℕ → ℕ) → (List ℕ → ℕ) → List ℕ → ℕ → Bool
differs_at f g vs p = ltb (first_index f g vs p) (indices vs)

-- the first such place below w, w where there is none; index 0 of place 0 is the assignment of all zeros
unfoldable pub first_place : ℕ → (List ℕ → ℕ) → (List ℕ → ℕ) → List ℕ → ℕ
first_place w f g vs = first_in (differs_at f g vs) 0 w

-- the refusal; whether the two are equal; where they differ, a place and an index
abbrev pub verdict : ℕ → ℕ → ℕ → ℕ → Verdict
verdict n e p i = record { refusal = n; equal = e; place = p; index = i }

-- two values of w bits: equal, or the first place and index
unfoldable pub compared : ℕ → List ℕ → (List ℕ → ℕ) → (List ℕ → ℕ) → Verdict
compared w vs f g =
    when (eqb (first_place w f g vs) w) (λ _. verdict 0 1 0 0)
    (λ _. verdict 0 0 (first_place w f g vs) (first_index f g vs (first_place w f g vs)))

-- ---- the verdict

unfoldable pub judge_sides : Side → Side → Verdict
judge_sides a b =
    when (not (eqb (judge_refusal a b) 0)) (λ _. verdict (judge_refusal a b) 0 0 0)
    (λ _. compared a.bitwidth (joint_vars a b) a.value b.value)

-- of two expressions
abbrev pub judge_of : List ℕ → List ℕ → Verdict
judge_of l r = judge_sides (expr_side l) (expr_side r)

-- of two semilinear forms
abbrev pub judge_forms : List ℕ → List ℕ → Verdict
judge_forms l r = judge_sides (form_side l) (form_side r)
