-- Computed examples: one table, one test (document 01, "Starred puzzles" as far as they are about normalising, and
-- cases that are easily misread). Kinds: Add 2, Mul 3, And 4, Or 5, Xor 6, Not 7, Neg 8, Shr 9.
use mathlib.Core.Path.{◌≡◌, refl}
use Prim.Native.Nat.{ℕ, zero, suc}
use mathlib.Core.List.{List, [], ◌∷◌}
use mathlib.Core.Bool.{Bool, true, false, ◌&&◌}
use lib.Dec.{eqb}
use Rattle.arith.specs.Width.{bitmask, wrapping_mul, mod_add, mod_mul, mod_neg}
use Rattle.arith.specs.Bit.{bit_at}
use Rattle.base.specs.Lists.{eq_list}
use Rattle.record.specs.Tree.{Tree, size_of, record_bytes, variable_bytes, encode}
use Rattle.record.specs.Tree.Tree.{Constant, Variable, Unary, Binary}
use Rattle.expr_utils.specs.Utils.{has_kind, is_arith, has_arith}
use Rattle.expr.specs.Value.{unary, binary, value}
use Rattle.expr.specs.Vars.{next_var, support_f, support, same_vars}
use Rattle.expr.specs.Hash.{mix_hash, tag_hash, var_hash, structural_hash}
use Rattle.truth.specs.Key.{is_pure, same_table}
use Rattle.truth.specs.Truth.{bit_binary, bit_of, row_bits, table_f, table}
use Rattle.semilinear.specs.Form.{Row, new_row, term_count, atom_bytes, atoms_bytes, term_bytes, terms_bytes, sum_bytes, encode_form}
use Rattle.semilinear.specs.Form.{eq_tree, tree_records, fits_table}
use Rattle.base.specs.Outcome.{Outcome, accepted, refused, refusal_of}
use Rattle.semilinear.specs.Outcome.{form_outcome}
use Rattle.semilinear.specs.PassOutcome.{limit_outcome}
use Rattle.normalizer_laws.specs.Collect.{join_collected, collect_atom, collect_constant, is_not, operand}
use Rattle.normalizer_laws.specs.Collect.{collect_not, is_masked_not, collect_and, and_coeff, collect_masked}
use Rattle.normalizer_laws.specs.Collect.{collect_terms}
use Rattle.normalizer_laws.specs.Register.{same_slot}
use Rattle.normalizer_laws.specs.Register.{newest_row, first_row, has_tree, shared_row, add_row, register_atom}
use Rattle.normalizer_laws.specs.Register.{register_all}
use Rattle.normalizer_laws.specs.Normalize.{collected_form, collected_outcome, normalize_tree}

-- a width, a tree, the constant and the rows of its form; a width, a tree and its refusal, 0 for none; trees with the
-- same hash
data Example : Type 0 where
  gives : ℕ → Tree → ℕ → List Row → Example
  refuses : ℕ → Tree → ℕ → Example
  alike : Tree → Tree → Example

abbrev same_outcome : Outcome → Outcome → Bool
same_outcome (accepted l ns) (accepted m ks) = eq_list l m && eq_list ns ks
same_outcome (accepted l ns) (refused k) = false
same_outcome (refused n) o = eqb n (refusal_of o)

abbrev holds : Example → Bool
holds (gives w t c l) =
    same_outcome (normalize_tree w t) (form_outcome (record { bitwidth = w; constant = c; rows = l }) false)
holds (refuses w t n) = eqb (refusal_of (normalize_tree w t)) n
holds (alike t u) = eqb (structural_hash t) (structural_hash u)

abbrev all_hold : List Example → Bool
all_hold [] = true
all_hold (x ∷ l) = holds x && all_hold l

abbrev a : Tree
a = Variable 0

abbrev b : Tree
b = Variable 1

abbrev literal : ℕ → Tree
literal = Constant

abbrev add : Tree → Tree → Tree
add = Binary 2

abbrev mul : Tree → Tree → Tree
mul = Binary 3

abbrev conj : Tree → Tree → Tree
conj = Binary 4

abbrev xor : Tree → Tree → Tree
xor = Binary 6

abbrev not : Tree → Tree
not = Unary 7 0

abbrev neg : Tree → Tree
neg = Unary 8 0

abbrev shr : ℕ → Tree → Tree
shr = Unary 9

-- 1 + 2, and 3 & (1 + 2)
abbrev sum : Tree
sum = add (literal 1) (literal 2)

abbrev masked_sum : Tree
masked_sum = conj (literal 3) sum

abbrev low : Tree
low = conj a (literal 15)

-- another tree with the hash and the variables of a & 15
abbrev other : Tree
other = conj (shr 1 a) (literal 0xB79D_4831_5936_5ED9)

-- the starred puzzles
abbrev starred : List Example
starred =
    -- 5; a ^ 15; a | 15; ~a & 15
    gives 8 (literal 5) 5 []
    ∷ gives 8 (xor a (literal 15)) 15 (new_row a 1 ∷ new_row low 254 ∷ [])
    ∷ gives 8 (Binary 5 a (literal 15)) 15 (new_row a 1 ∷ new_row low 255 ∷ [])
    ∷ gives 8 (conj (not a) (literal 15)) 15 (new_row low 255 ∷ [])
    -- 0 × (a × b); a × b; a ^ (-1); 3 & (1 + 2)
    ∷ gives 8 (mul (literal 0) (mul a b)) 0 []
    ∷ refuses 8 (mul a b) 8
    ∷ refuses 8 (xor a (neg (literal 1))) 8
    ∷ gives 8 masked_sum 3 []
    -- (a & b) + (b & a); a ^ 1 of width 1
    ∷ gives 8 (add (conj a b) (conj b a)) 0 (new_row (conj a b) 2 ∷ [])
    ∷ gives 1 (xor a (literal 1)) 1 (new_row a 1 ∷ [])
    ∷ []

-- a nested Xor with n literals, whose atoms have (n + 1) * (n + 1) tree records
abbrev nested : ℕ → Tree
nested zero = a
nested (suc n) = xor (nested n) (literal n)

-- the other cases
abbrev others : List Example
others =
    -- ~~a & 15 is lowered once; the And made of ~a ^ 15 is looked at again
    gives 8 (conj (not (not a)) (literal 15)) 15 (new_row (conj (not a) (literal 15)) 255 ∷ [])
    ∷ gives 8 (xor (not a) (literal 15)) 241 (new_row (not a) 1 ∷ new_row low 2 ∷ [])
    -- a - a keeps its atom; 256 × a makes none; neither does the mask of 128 × (a ^ 15); a ^ 0 makes two
    ∷ gives 8 (add a (neg a)) 0 (new_row a 0 ∷ [])
    ∷ gives 8 (mul (literal 256) a) 0 []
    ∷ gives 8 (mul (literal 128) (xor a (literal 15))) 128 (new_row a 128 ∷ [])
    ∷ gives 8 (xor a (literal 0)) 0 (new_row a 1 ∷ new_row (conj a (literal 0)) 254 ∷ [])
    -- ~~a + a shares by the truth table and keeps the first tree; (a >> 0) + a does not
    ∷ gives 8 (add (not (not a)) a) 0 (new_row (not (not a)) 2 ∷ [])
    ∷ gives 8 (add (shr 0 a) a) 0 (new_row (shr 0 a) 1 ∷ new_row a 1 ∷ [])
    -- a literal of 2 ^ 8 or more stays as it is written in an And, and is cut where it is lowered
    ∷ gives 8 (conj a (literal 271)) 0 (new_row (conj a (literal 271)) 1 ∷ [])
    ∷ gives 8 (xor (literal 271) a) 15 (new_row a 1 ∷ new_row low 254 ∷ [])
    -- (a × 0) × b; (0 × a) >> 1
    ∷ refuses 8 (mul (mul a (literal 0)) b) 8
    ∷ refuses 8 (shr 1 (mul (literal 0) a)) 8
    -- a table that fits, one that does not, also where all its atoms are unused; 8 comes before 9; a factor of 0
    ∷ refuses 8 (nested 54) 0
    ∷ refuses 8 (nested 55) 9
    ∷ refuses 8 (add (nested 55) (neg (nested 55))) 9
    ∷ refuses 8 (add (nested 55) (mul a b)) 8
    ∷ gives 8 (mul (literal 0) (nested 55)) 0 []
    -- with t = a & 15 and a u of the same hash: t + u + t makes three atoms, t + u + u two
    ∷ alike low other
    ∷ gives 8 (add (add low other) low) 0 (new_row low 1 ∷ new_row other 1 ∷ new_row low 1 ∷ [])
    ∷ gives 8 (add (add low other) other) 0 (new_row low 1 ∷ new_row other 2 ∷ [])
    ∷ []

-- literals written as sums (request #104)
abbrev sums : List Example
sums =
    -- constants: 0 × (3 & (1 + 2)); (1 + 2) >> 1; ~(1 + 2) >> 1; 3 | (1 + 2); (3 ^ -1) + 1
    gives 8 (mul (literal 0) masked_sum) 0 []
    ∷ gives 8 (shr 1 sum) 1 []
    ∷ gives 8 (shr 1 (not sum)) 126 []
    ∷ gives 8 (Binary 5 (literal 3) sum) 3 []
    ∷ gives 8 (add (xor (literal 3) (neg (literal 1))) (literal 1)) 253 []
    -- factors and summands: (3 & (1 + 2)) × a; a × (3 & (1 + 2)); a + ~(-1)
    ∷ gives 8 (mul masked_sum a) 0 (new_row a 3 ∷ [])
    ∷ gives 8 (mul a masked_sum) 0 (new_row a 3 ∷ [])
    ∷ gives 8 (add a (not (neg (literal 1)))) 0 (new_row a 1 ∷ [])
    -- at other widths: 3 & (1 + 2) of width 1; ~(1 + 2) >> 1 of width 64
    ∷ gives 1 masked_sum 1 []
    ∷ gives 64 (shr 1 (not sum)) 0x7FFF_FFFF_FFFF_FFFE []
    -- below an operator that also has a variable: a ^ (3 & (1 + 2)); (3 & (1 + 2)) | a; a & ~(1 + 2); a & (1 + 2);
    -- a & ((1 + 2) >> 1); ~(a & ~(1 + 2)); (a ^ (3 & (1 + 2))) >> 1
    ∷ refuses 8 (xor a masked_sum) 8
    ∷ refuses 8 (Binary 5 masked_sum a) 8
    ∷ refuses 8 (conj a (not sum)) 8
    ∷ refuses 8 (conj a sum) 8
    ∷ refuses 8 (conj a (shr 1 sum)) 8
    ∷ refuses 8 (not (conj a (not sum))) 8
    ∷ refuses 8 (shr 1 (xor a masked_sum)) 8
    -- but not under a factor 0, and not where the sum stands outside: 0 × (a ^ (3 & (1 + 2))); (a ^ 15) + (3 & (1 + 2))
    ∷ gives 8 (mul (literal 0) (xor a masked_sum)) 0 []
    ∷ gives 8 (mul (conj (literal 4) sum) (xor a masked_sum)) 0 []
    ∷ gives 8 (add (xor a (literal 15)) masked_sum) 18 (new_row a 1 ∷ new_row low 254 ∷ [])
    ∷ []

examples_hold : all_hold starred && (all_hold others && all_hold sums) ≡ true
unfolding bitmask wrapping_mul mod_add mod_mul mod_neg bit_at eq_list size_of record_bytes variable_bytes encode
    has_kind is_arith has_arith unary binary value next_var support_f support same_vars
    mix_hash tag_hash var_hash structural_hash term_count atom_bytes atoms_bytes term_bytes terms_bytes sum_bytes encode_form
    eq_tree tree_records fits_table refusal_of form_outcome join_collected collect_atom collect_constant is_not operand
    collect_not is_masked_not collect_and and_coeff collect_masked collect_terms bit_binary bit_of row_bits table_f table
    is_pure same_table same_slot newest_row first_row has_tree shared_row add_row
    register_atom register_all collected_form limit_outcome collected_outcome normalize_tree
examples_hold = refl
