-- Computed examples: one table, one test (document 01, "Refusals" and "The tangle file").
-- Kinds: Variable 1, Add 2, Mul 3, And 4, Xor 6, Not 7, Shr 9, Trunc 12. a is variable 0.
use Rattle.std.proofs.Common.{◌≡◌, ℕ, ◌-◌, ◌^◌, Bool, true, ◌&&◌, eqb, ltb, List, [], ◌∷◌, ◌++◌, take, replicate, refl}
use Rattle.record.specs.Fields.{u16, u32, u64, kind, byte1, byte5, var_index, amount, size, width, spare_high, spare}
use Rattle.record.specs.Fields.{literal, arity}
use Rattle.base.specs.Lists.{eq_list}
use Rattle.record.specs.Tree.{Tree, size_of, record_bytes, variable_bytes, encode}
use Rattle.record.specs.Tree.Tree.{Constant, Variable, Unary, Binary}
use Rattle.record.specs.Span.{cut, body, left, right, step, steps_f, fold}
use Rattle.record.specs.Decode.{leaf, decode}
use Rattle.expr_refusal.specs.Refusal.{lowest, uses_byte1, fields_ok, unused, size_ok, form_ok, width_ok, root_refusal}
use Rattle.expr_refusal.specs.Refusal.{expr_refusal}
use Rattle.expr.specs.Value.{unary, binary, value}
use Rattle.expr.specs.ExprValue.{expr_value}
use Rattle.expr.specs.Hash.{var_hash, structural_hash}
use Rattle.expr.specs.Vars.{next_var, support_f, support}

-- a file and its refusal; an accepted file, an assignment and the value; an accepted file and its tree's hash; a tree
-- whose hash is below another's; a tree and its variables
data Row : Type 0 where
  refused : List ℕ → ℕ → Row
  valued : List ℕ → List ℕ → ℕ → Row
  hashed : List ℕ → ℕ → Row
  before : Tree → Tree → Row
  holding : Tree → List ℕ → Row

abbrev holds : Row → Bool
holds (refused s n) = eqb (expr_refusal s) n
holds (valued s vars v) = eqb (expr_refusal s) 0 && eqb (expr_value s vars) v
holds (hashed s h) = eqb (expr_refusal s) 0 && eqb (structural_hash (decode s)) h
holds (before t u) = ltb (structural_hash t) (structural_hash u)
holds (holding t l) = eq_list (support t) l

abbrev all_hold : List Row → Bool
all_hold [] = true
all_hold (x ∷ l) = holds x && all_hold l

-- the bytes of a ^ 15 at 8 bits
abbrev xor_bytes : List ℕ
xor_bytes =
    1 ∷ 0 ∷ 1 ∷ 0 ∷ 8 ∷ 0 ∷ 0 ∷ 0 ∷ 0 ∷ 0 ∷ 0 ∷ 0 ∷ 0 ∷ 0 ∷ 0 ∷ 0
    ∷ 0 ∷ 0 ∷ 1 ∷ 0 ∷ 8 ∷ 0 ∷ 0 ∷ 0 ∷ 15 ∷ 0 ∷ 0 ∷ 0 ∷ 0 ∷ 0 ∷ 0 ∷ 0
    ∷ 6 ∷ 0 ∷ 3 ∷ 0 ∷ 8 ∷ 0 ∷ 0 ∷ 0 ∷ 0 ∷ 0 ∷ 0 ∷ 0 ∷ 0 ∷ 0 ∷ 0 ∷ 0 ∷ []

-- a root of size n at 8 bits, of the kind k, with byte 1, byte 5, byte 6 and a literal below 256
abbrev root : ℕ → ℕ → ℕ → ℕ → ℕ → ℕ → List ℕ
root k n b1 b5 b6 v = k ∷ b1 ∷ n ∷ 0 ∷ 8 ∷ b5 ∷ b6 ∷ 0 ∷ v ∷ 0 ∷ 0 ∷ 0 ∷ 0 ∷ 0 ∷ 0 ∷ 0 ∷ []

-- 1 + 2
abbrev sum : Tree
sum = Binary 2 (Constant 1) (Constant 2)

abbrev examples : List Row
examples =
    -- 15 bytes; one Add of size 1; a literal of width 65; Trunc of a; a >> 64
    refused (take 15 xor_bytes) 1
    ∷ refused (record_bytes 2 0 1 8 0) 3
    ∷ refused (encode 65 (Constant 0)) 4
    ∷ refused (encode 8 (Unary 12 4 (Variable 0))) 5
    ∷ refused (encode 8 (Unary 9 64 (Variable 0))) 6
    -- a ^ 15 at a = 5; a literal above 2 ^ 8, cut; a >> 63 at 64 bits
    ∷ valued xor_bytes (5 ∷ []) 10
    ∷ valued (encode 8 (Constant 271)) [] 15
    ∷ valued (encode 64 (Unary 9 63 (Variable 0))) ((2 ^ 64 - 1) ∷ []) 1
    -- 3 & (1 + 2); ~(1 + 2) >> 1
    ∷ valued (encode 8 (Binary 4 (Constant 3) sum)) [] 3
    ∷ valued (encode 8 (Unary 9 1 (Unary 7 0 sum))) [] 126
    -- v0, v255, v256 and v65535; byte 6 of a variable; byte 5 of a literal, of Not and of Add
    ∷ hashed (root 1 1 0 0 0 0) 0x517C_C1B7_2722_0A94
    ∷ hashed (root 1 1 255 0 0 0) 0x7CC1_B727_220A_9501
    ∷ hashed (root 1 1 0 1 0 0) 0xCE3E_78DE_492C_9F94
    ∷ hashed (root 1 1 255 255 0 0) 0xC1B7_2722_0A95_0001
    ∷ refused (root 1 1 0 0 1 0) 3
    ∷ refused (root 0 1 0 1 0 5) 3
    ∷ refused (encode 8 (Variable 256) ++ root 7 2 0 1 0 0) 3
    ∷ refused (encode 8 (Variable 0) ++ (encode 8 (Variable 256) ++ root 2 3 0 1 0 0)) 3
    -- v256 beyond the end of an assignment, and at its end; beside v0
    ∷ valued (encode 8 (Variable 256)) (5 ∷ []) 0
    ∷ valued (encode 8 (Variable 256)) (replicate 256 5 ++ (9 ∷ [])) 9
    ∷ valued (encode 8 (Binary 2 (Variable 256) (Variable 0))) (replicate 256 5 ++ (9 ∷ [])) 14
    -- the order of groups by hash
    ∷ before (Variable 3) (Variable 0)
    ∷ before (Variable 0) (Variable 255)
    ∷ before (Variable 255) (Variable 65535)
    ∷ before (Variable 65535) (Variable 256)
    -- v3 + v1; v256 + v0; v65535
    ∷ holding (Binary 2 (Variable 3) (Variable 1)) (1 ∷ 3 ∷ [])
    ∷ holding (Binary 2 (Variable 256) (Variable 0)) (0 ∷ 256 ∷ [])
    ∷ holding (Variable 65535) (65535 ∷ [])
    ∷ []

decode_xor : decode xor_bytes ≡ Binary 6 (Variable 0) (Constant 15)
unfolding fold steps_f step u16 u32 u64 arity cut kind byte1 byte5 var_index literal body left right leaf
decode_xor = refl

examples_hold : all_hold examples ≡ true
unfolding fold steps_f step u16 u32 u64 arity cut kind byte1 byte5 var_index amount size width spare_high spare literal
    body left right leaf size_of record_bytes variable_bytes encode lowest uses_byte1 fields_ok unused size_ok form_ok width_ok
    root_refusal expr_refusal
    unary binary value expr_value var_hash structural_hash next_var support_f support eq_list
examples_hold = refl
