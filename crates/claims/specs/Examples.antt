-- Worked examples (document 01, "Starred puzzles"; w = 8 unless said, a is v0, b is v1), each computed on the
-- definitions of the normaliser, the passes and the columns. Tables keep the atoms that lost their term.
use Rattle.std.specs.Prelude.{List, [], ◌∷◌, true}
use Rattle.record.specs.Tree.{Tree}
use Rattle.record.specs.Tree.Tree.{Constant, Variable, Unary, Binary}
use Rattle.refiner_laws.specs.RefineTerms.{refine_form}
use Rattle.structure_laws.specs.RecoverStructure.{recover_form}
use Rattle.structure_laws.specs.CoalesceTerms.{coalesce_form}
use Rattle.claims.specs.Example.{Example, a, b, mask, row, form, normal, refusal, pass, flat, columns}

-- ---- the starred puzzles, in document 01's order; 3 & (1 + 2) as request #104 has it

unfoldable pub starred : List Example
starred =
    normal 8 (Constant 5) 5 []
    ∷ normal 8 (Binary 6 a (Constant 15)) 15 (row a 1 ∷ row (mask a 15) 254 ∷ [])
    ∷ normal 8 (Binary 5 a (Constant 15)) 15 (row a 1 ∷ row (mask a 15) 255 ∷ [])
    ∷ normal 8 (mask (Unary 7 0 a) 15) 15 (row (mask a 15) 255 ∷ [])
    ∷ normal 8 (Binary 3 (Constant 0) (Binary 3 a b)) 0 []
    ∷ refusal 8 (Binary 3 a b) 8
    ∷ refusal 8 (Binary 6 a (Unary 8 0 (Constant 1))) 8
    ∷ normal 8 (Binary 4 (Constant 3) (Binary 2 (Constant 1) (Constant 2))) 3 []
    ∷ normal 8 (Binary 2 (Binary 4 a b) (Binary 4 b a)) 0 (row (Binary 4 a b) 2 ∷ [])
    ∷ normal 1 (Binary 6 a (Constant 1)) 1 (row a 1 ∷ [])
    ∷ pass refine_form (form 8 0 (row (mask a 255) 16 ∷ []))
    (form 8 0 (row (mask a 255) 0 ∷ row (mask a 15) 16 ∷ []))
    ∷ pass refine_form (form 8 0 (row (mask a 15) 1 ∷ row (mask a 240) 1 ∷ []))
    (form 8 0 (row (mask a 15) 0 ∷ row (mask a 240) 0 ∷ row a 1 ∷ []))
    ∷ pass recover_form
    (form 8 0 (row (mask a 252) 1 ∷ row (mask a 3) 255 ∷ row (mask a 0) 255 ∷ []))
    (form 8 253
    (row (mask a 252) 0 ∷ row (mask a 3) 0 ∷ row (mask a 0) 255 ∷ row (Binary 6 (Constant 3) a) 1 ∷ []))
    ∷ columns (form 8 0 (row (mask a 15) 1 ∷ [])) (15 ∷ 2 ∷ 240 ∷ 0 ∷ []) 2
    ∷ []

-- ---- cases that are easy to get wrong

abbrev a&~a : Tree
a&~a = Binary 4 a (Unary 7 0 a)

abbrev a^b : Tree
a^b = Binary 6 a b

unfoldable pub tricky : List Example
tricky =
    -- ~~a & 15 is lowered once
    normal 8 (mask (Unary 7 0 (Unary 7 0 a)) 15) 15 (row (mask (Unary 7 0 a) 15) 255 ∷ [])
    -- a - a: no term, but the atom stays
    ∷ normal 8 (Binary 2 a (Unary 8 0 a)) 0 (row a 0 ∷ [])
    -- a coefficient that is 0 modulo 2 ^ w makes no atom
    ∷ normal 8 (Binary 3 (Constant 256) a) 0 []
    -- sharing by truth table keeps the first tree
    ∷ normal 8 (Binary 2 (Unary 7 0 (Unary 7 0 a)) a) 0 (row (Unary 7 0 (Unary 7 0 a)) 2 ∷ [])
    -- a factor 0 on the way down ends the descent, one below a product does not
    ∷ refusal 8 (Binary 3 (Binary 3 a (Constant 0)) b) 8
    -- 16 a becomes 16 (a & 15), a new atom
    ∷ pass refine_form (form 8 0 (row a 16 ∷ [])) (form 8 0 (row a 0 ∷ row (mask a 15) 16 ∷ []))
    -- 16 (a & 240) leaves an unused a & 0
    ∷ pass refine_form (form 8 0 (row (mask a 240) 16 ∷ []))
    (form 8 0 (row (mask a 240) 0 ∷ row (mask a 0) 0 ∷ []))
    -- 1 (a & 128) becomes 255 (a & 128) without a new atom
    ∷ pass refine_form (form 8 0 (row (mask a 128) 1 ∷ [])) (form 8 0 (row (mask a 128) 255 ∷ []))
    -- the group of v3 comes before that of v0
    ∷ pass refine_form (form 8 0 (row a 16 ∷ row (Variable 3) 16 ∷ []))
    (form 8 0
    (row a 0 ∷ row (Variable 3) 0 ∷ row (mask (Variable 3) 15) 16 ∷ row (mask a 15) 16 ∷ []))
    -- three terms collapse once: 1, 2 and 3 on 1, 2 and 4
    ∷ pass refine_form (form 8 0 (row (mask a 1) 1 ∷ row (mask a 2) 2 ∷ row (mask a 4) 3 ∷ []))
    (form 8 0
    (row (mask a 1) 0 ∷ row (mask a 2) 0 ∷ row (mask a 4) 0 ∷ row (mask a 5) 1 ∷ row (mask a 6) 2 ∷ []))
    -- 128 and 128 at 8 bits are an Xor pair; a tie of ones takes the first entry's mask
    ∷ pass recover_form (form 8 0 (row (mask a 15) 128 ∷ row (mask a 240) 128 ∷ []))
    (form 8 128 (row (mask a 15) 0 ∷ row (mask a 240) 0 ∷ row (Binary 6 (Constant 15) a) 128 ∷ []))
    -- a widened entry is found by nobody, but looks: 3 (a & 15) + 1 (a & 240) + 2 (a & 0)
    ∷ pass recover_form (form 8 0 (row (mask a 15) 3 ∷ row (mask a 240) 1 ∷ row (mask a 0) 2 ∷ []))
    (form 8 0
    (row (mask a 15) 2 ∷ row (mask a 240) 0 ∷ row (mask a 0) 0 ∷ row a 1 ∷ []))
    -- the bare atom is one whose term stands outside the group, and the coefficients vanish
    ∷ pass recover_form (form 8 0 (row a^b 254 ∷ row (mask a^b 15) 3 ∷ row (mask a^b 240) 2 ∷ []))
    (form 8 0 (row a^b 0 ∷ row (mask a^b 15) 1 ∷ row (mask a^b 240) 0 ∷ []))
    -- only strictly fewer terms: 1 (a & 15) + 1 (a & 240) coalesce to a
    ∷ pass coalesce_form (form 8 0 (row (mask a 15) 1 ∷ row (mask a 240) 1 ∷ []))
    (form 8 0 (row (mask a 15) 0 ∷ row (mask a 240) 0 ∷ row a 1 ∷ []))
    -- a group of one is left alone even at mask 0
    ∷ pass coalesce_form (form 8 0 (row (mask a 0) 1 ∷ [])) (form 8 0 (row (mask a 0) 1 ∷ []))
    -- a & ~a: the term vanishes and the flag is set
    ∷ flat (form 8 7 (row a&~a 3 ∷ [])) (form 8 7 (row a&~a 0 ∷ [])) true
    ∷ []
