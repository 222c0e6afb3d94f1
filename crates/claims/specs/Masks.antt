-- Worked examples of masks upon masks (request #108; w = 8, a is v0, b is v1): the split of an atom goes on while the
-- basis is an And with one variable-free side, and joins the masks at w bits.
use Rattle.std.specs.Prelude.{ℕ, List, [], ◌∷◌, true, false}
use Rattle.record.specs.Tree.{Tree}
use Rattle.record.specs.Tree.Tree.{Constant, Unary, Binary}
use Rattle.semilinear.specs.Form.{Row}
use Rattle.refiner_laws.specs.RefineTerms.{refine_form}
use Rattle.structure_laws.specs.RecoverStructure.{recover_form}
use Rattle.structure_laws.specs.CoalesceTerms.{coalesce_form}
use Rattle.claims.specs.Example.{Example, a, b, mask, row, term, form, pass, flat}

-- a pass that takes some rows to others, and the constant 0 to itself
abbrev refines : List Row → List Row → Example
refines l m = pass refine_form (form 8 0 l) (form 8 0 m)

abbrev recovers : List Row → List Row → Example
recovers l m = pass recover_form (form 8 0 l) (form 8 0 m)

abbrev coalesces : List Row → List Row → Example
coalesces l m = pass coalesce_form (form 8 0 l) (form 8 0 m)

-- (t & m) & n, and (a & m) & n with the coefficient c
abbrev twice : Tree → ℕ → ℕ → Tree
twice t m n = mask (mask t m) n

abbrev nested : ℕ → ℕ → ℕ → Row
nested m n c = row (twice a m n) c

-- 15 & (60 & a), ~a, a ^ b, a & b, and (a & (~3 >> 1)) & 255
abbrev on_left : Tree
on_left = Binary 4 (Constant 15) (Binary 4 (Constant 60) a)

abbrev ~a : Tree
~a = Unary 7 0 a

abbrev a^b : Tree
a^b = Binary 6 a b

abbrev a&b : Tree
a&b = Binary 4 a b

abbrev written : Tree
written = mask (Binary 4 a (Unary 9 1 (Unary 7 0 (Constant 3)))) 255

unfoldable pub masks : List Example
masks =
    -- refining: the request's own, a with 12, beside a with 3; the masks may stand on the left
    refines (nested 60 15 1 ∷ term 3 1 ∷ []) (nested 60 15 0 ∷ term 3 0 ∷ term 15 1 ∷ [])
    ∷ refines (row on_left 1 ∷ term 3 1 ∷ []) (row on_left 0 ∷ term 3 0 ∷ term 15 1 ∷ [])
    -- masks without a common bit are 0, and the term goes
    ∷ refines (nested 48 15 1 ∷ []) (nested 48 15 0 ∷ [])
    -- what is cut is the joined mask: 60, under 16 it is 12
    ∷ refines (nested 60 255 16 ∷ []) (nested 60 255 0 ∷ term 12 16 ∷ [])
    -- alone, and not cut, a term keeps its atom as it stands
    ∷ refines (nested 60 15 1 ∷ []) (nested 60 15 1 ∷ [])
    -- a basis that is no variable
    ∷ refines (row (twice a^b 60 15) 1 ∷ row (mask a^b 3) 1 ∷ [])
    (row (twice a^b 60 15) 0 ∷ row (mask a^b 3) 0 ∷ row (mask a^b 15) 1 ∷ [])
    -- an And of two sides with variables is a basis
    ∷ refines (row (twice a&b 60 15) 1 ∷ row (mask a&b 3) 1 ∷ [])
    (row (twice a&b 60 15) 0 ∷ row (mask a&b 3) 0 ∷ row (mask a&b 15) 1 ∷ [])
    -- each mask is read at w bits: 126 and 1 are 127
    ∷ refines (row written 1 ∷ term 1 1 ∷ []) (row written 0 ∷ term 1 0 ∷ term 127 1 ∷ [])
    -- coalescing
    ∷ coalesces (nested 60 15 1 ∷ term 3 1 ∷ []) (nested 60 15 0 ∷ term 3 0 ∷ term 15 1 ∷ [])
    -- recovering: complements are found by the joined masks
    ∷ pass recover_form (form 8 0 (nested 63 15 1 ∷ term 240 255 ∷ []))
    (form 8 15 (nested 63 15 0 ∷ term 240 0 ∷ row (Binary 6 (Constant 15) a) 255 ∷ []))
    -- and not by the outer ones: 12 and 48 are no complements
    ∷ recovers (nested 60 15 1 ∷ nested 60 240 255 ∷ []) (nested 60 15 1 ∷ nested 60 240 255 ∷ [])
    -- flattening: a variable under masks is plain, also where they have no common bit; ~a under them is not
    ∷ flat (form 8 0 (nested 60 15 1 ∷ [])) (form 8 0 (nested 60 15 1 ∷ [])) false
    ∷ flat (form 8 0 (nested 48 15 1 ∷ [])) (form 8 0 (nested 48 15 1 ∷ [])) false
    ∷ flat (form 8 0 (row (twice ~a 60 15) 1 ∷ [])) (form 8 12 (row (twice ~a 60 15) 0 ∷ term 12 255 ∷ [])) true
    ∷ []
