-- Worked examples at 63 and 64 bits: the highest place, sums that pass 2 ^ w, and literals that are cut at 63 bits and
-- whole at 64. The answers are worked out by hand from the Rust with document 01's differences.
use Rattle.std.specs.Prelude.{ℕ, ◌+◌, ◌-◌, ◌%◌, ◌^◌, List, [], ◌∷◌, ◌++◌, true}
use Rattle.record.specs.Tree.{Tree}
use Rattle.record.specs.Tree.Tree.{Constant, Unary, Binary}
use Rattle.semilinear.specs.Form.{Row, Form}
use Rattle.refiner_laws.specs.RefineTerms.{refine_form}
use Rattle.structure_laws.specs.RecoverStructure.{recover_form}
use Rattle.structure_laws.specs.CoalesceTerms.{coalesce_form}
use Rattle.claims.specs.Example.{Example, a, mask, row, term, form, normal, pass, flat, columns}

-- 2 ^ 63 · a, and a ^ (2 ^ 64 - 1)
abbrev half : Tree
half = Binary 3 (Constant (2 ^ 63)) a

abbrev inverted : Tree
inverted = Binary 6 a (Constant (2 ^ 64 - 1))

-- normalising: a factor of 2 ^ w makes no atom, one of 2 ^ (w - 1) twice leaves the atom without a term
unfoldable pub wide_normal : List Example
wide_normal =
    normal 63 half 0 []
    ∷ normal 64 half 0 (row a (2 ^ 63) ∷ [])
    ∷ normal 64 (Binary 2 half half) 0 (row a 0 ∷ [])
    ∷ normal 63 (Unary 8 0 a) 0 (row a (2 ^ 63 - 1) ∷ [])
    -- a lowered literal is cut to w bits
    ∷ normal 63 inverted (2 ^ 63 - 1) (row a 1 ∷ term (2 ^ 63 - 1) (2 ^ 63 - 2) ∷ [])
    ∷ normal 64 inverted (2 ^ 64 - 1) (row a 1 ∷ term (2 ^ 64 - 1) (2 ^ 64 - 2) ∷ [])
    ∷ []

-- passes and columns at w bits, where 2 ^ w - 1 is `top` and 2 ^ (w - 1) is `high`
unfoldable pub wide_passes : ℕ → ℕ → ℕ → List Example
wide_passes w top high =
    -- refining: the highest coefficient counts at place 0 alone
    pass refine_form (form w 0 (term 3 high ∷ [])) (form w 0 (term 3 0 ∷ term 1 high ∷ []))
    -- the highest place takes the coefficient 2 ^ w - 1, without a new atom
    ∷ pass refine_form (form w 0 (term high 1 ∷ [])) (form w 0 (term high top ∷ []))
    -- entries of the highest coefficient are joined with all of one coefficient, and not with the pairs: 4 with 1 first
    ∷ pass refine_form (form w 0 (term 5 top ∷ term 1 top ∷ term 4 top ∷ term 2 top ∷ []))
    (form w 0 (term 5 0 ∷ term 1 0 ∷ term 4 0 ∷ term 2 0 ∷ term 5 top ∷ term 7 top ∷ []))
    -- all places: the basis alone
    ∷ pass refine_form (form w 0 (halves 1)) (form w 0 (halves 0 ++ (row a 1 ∷ [])))
    ∷ pass coalesce_form (form w 0 (halves 1)) (form w 0 (halves 0 ++ (row a 1 ∷ [])))
    -- coefficients of a place that add to 2 ^ w carry nothing
    ∷ pass coalesce_form (form w 0 (term 1 high ∷ term 1 high ∷ [])) (form w 0 (term 1 0 ∷ term 1 0 ∷ []))
    -- recovering: a mask of w bits and its complement
    ∷ pass recover_form (form w 0 (term 15 3 ∷ term (top - 15) 1 ∷ []))
    (form w 0 (term 15 2 ∷ term (top - 15) 0 ∷ row a 1 ∷ []))
    -- the mask of fewer ones becomes the literal of an Xor
    ∷ pass recover_form (form w 0 (term (top - 15) 1 ∷ term 15 top ∷ []))
    (form w (top - 14) (term (top - 15) 0 ∷ term 15 0 ∷ row (Binary 6 (Constant 15) a) 1 ∷ []))
    -- flattening: every bit is inverted, by a literal that is cut at 63 bits; the constant is 3 · (2 ^ w - 1)
    ∷ flat (form w 0 (row inverted 3 ∷ [])) (form w (top - 2) (row inverted 0 ∷ row a (top - 2) ∷ [])) true
    -- columns: the highest place is in a class of its own; a literal's bit 63 counts at 64 bits alone
    ∷ columns (form w 0 (term (2 ^ 63 + high % 2 ^ 63) 1 ∷ [])) ((high - 1) ∷ 0 ∷ high ∷ 2 ∷ []) 2
    ∷ []
  where
    halves : ℕ → List Row
    halves c = term (high - 1) c ∷ term high c ∷ []

unfoldable pub wide : List Example
wide = wide_normal ++ (wide_passes 63 (2 ^ 63 - 1) (2 ^ 62) ++ wide_passes 64 (2 ^ 64 - 1) (2 ^ 63))
