-- Worked examples of the passes and the columns, each of which excludes one slip in a definition (w = 8, a is v0, b is
-- v1). The answers are worked out by hand from the Rust with document 01's differences.
use Rattle.std.specs.Prelude.{ℕ, zero, suc, ◌^◌, List, [], ◌∷◌, true, false}
use Rattle.record.specs.Tree.{Tree}
use Rattle.record.specs.Tree.Tree.{Constant, Variable, Unary, Binary}
use Rattle.semilinear.specs.Form.{Row}
use Rattle.refiner_laws.specs.RefineTerms.{refine_form}
use Rattle.structure_laws.specs.RecoverStructure.{recover_form}
use Rattle.structure_laws.specs.CoalesceTerms.{coalesce_form}
use Rattle.claims.specs.Example.{Example, a, b, mask, row, term, form, pass, flat, columns}

-- a pass that takes some rows to others, and the constant 0 to itself
abbrev refines : List Row → List Row → Example
refines l m = pass refine_form (form 8 0 l) (form 8 0 m)

abbrev coalesces : List Row → List Row → Example
coalesces l m = pass coalesce_form (form 8 0 l) (form 8 0 m)

-- c·(~a & 15), c·(a ^ 15), and (a ^ b) & m
abbrev not& : ℕ → Row
not& c = row (mask (Unary 7 0 a) 15) c

abbrev a^15 : ℕ → Row
a^15 c = row (Binary 6 a (Constant 15)) c

abbrev a^b& : ℕ → Row
a^b& m = row (mask (Binary 6 a b) m) 1

-- the And of v0 to vn
abbrev and_to : ℕ → Tree
and_to zero = Variable zero
and_to (suc n) = Binary 4 (and_to n) (Variable (suc n))

unfoldable pub slips : List Example
slips =
    -- flattening: a masked basis that is no variable is not plain
    flat (form 8 0 (not& 1 ∷ [])) (form 8 15 (not& 0 ∷ term 15 255 ∷ [])) true
    -- the bits passed come before the bits inverted, and both atoms are And's
    ∷ flat (form 8 0 (a^15 1 ∷ [])) (form 8 15 (a^15 0 ∷ term 240 1 ∷ term 15 255 ∷ [])) true
    -- a variable is not flattened, and the flag stays 0; so it is with an atom that has no term
    ∷ flat (form 8 0 (row a 1 ∷ [])) (form 8 0 (row a 1 ∷ [])) false
    ∷ flat (form 8 0 (row (Unary 7 0 a) 0 ∷ [])) (form 8 0 (row (Unary 7 0 a) 0 ∷ [])) false
    -- recovering: an entry whose mask became the full one is not found by the mask 0
    ∷ pass recover_form (form 8 0 (term 15 3 ∷ term 0 2 ∷ term 240 1 ∷ []))
    (form 8 0 (term 15 2 ∷ term 0 2 ∷ term 240 0 ∷ row a 1 ∷ []))
    -- coalescing: by rising coefficient, not by place; a masked atom is made though the table has it
    ∷ coalesces (term 1 2 ∷ term 2 2 ∷ term 4 1 ∷ term 0 1 ∷ [])
    (term 1 0 ∷ term 2 0 ∷ term 4 0 ∷ term 0 0 ∷ term 4 1 ∷ term 3 2 ∷ [])
    -- a term of mask 0 counts as an entry
    ∷ coalesces (term 3 1 ∷ term 0 2 ∷ []) (term 3 0 ∷ term 0 0 ∷ term 3 1 ∷ [])
    -- as many coefficients as entries: nothing is done
    ∷ coalesces (term 3 1 ∷ term 2 1 ∷ []) (term 3 1 ∷ term 2 1 ∷ [])
    -- the basis must be a variable
    ∷ coalesces (a^b& 15 ∷ a^b& 240 ∷ []) (a^b& 15 ∷ a^b& 240 ∷ [])
    -- refining: where either coefficient of a pair can be changed, the second is
    ∷ refines (term 128 1 ∷ term 64 5 ∷ []) (term 128 0 ∷ term 64 0 ∷ term 192 1 ∷ [])
    -- where only the first can be, it is, and the pair has the second's
    ∷ refines (term 128 1 ∷ term 1 3 ∷ []) (term 128 0 ∷ term 1 0 ∷ term 129 3 ∷ [])
    -- entries of one coefficient are joined by rising coefficient, not by first or by second entry
    ∷ refines (term 1 2 ∷ term 2 1 ∷ term 4 1 ∷ term 8 2 ∷ [])
    (term 1 0 ∷ term 2 0 ∷ term 4 0 ∷ term 8 0 ∷ term 6 1 ∷ term 9 2 ∷ [])
    ∷ refines (term 1 2 ∷ term 8 2 ∷ term 2 1 ∷ term 4 1 ∷ [])
    (term 1 0 ∷ term 8 0 ∷ term 2 0 ∷ term 4 0 ∷ term 6 1 ∷ term 9 2 ∷ [])
    -- one by one, to the mask joined so far; each time there is an atom
    ∷ refines (term 1 1 ∷ term 2 1 ∷ term 4 1 ∷ []) (term 1 0 ∷ term 2 0 ∷ term 4 0 ∷ term 3 0 ∷ term 7 1 ∷ [])
    -- the third entry of a collapse may stand before the other two
    ∷ refines (term 4 3 ∷ term 1 1 ∷ term 2 2 ∷ []) (term 4 0 ∷ term 1 0 ∷ term 2 0 ∷ term 5 1 ∷ term 6 2 ∷ [])
    -- columns: five variables have a table, six have none
    ∷ columns (form 8 0 (row (and_to 4) 1 ∷ [])) (255 ∷ 2 ^ 31 ∷ []) 1
    ∷ columns (form 8 0 (row (and_to 5) 1 ∷ [])) (255 ∷ 0xDEAD_0000_0000_0000 ∷ []) 1
    -- a shift hides an atom, a shift by 0 does not; the word has the number of the atom
    ∷ columns (form 8 0 (row (Unary 9 1 a) 1 ∷ [])) (255 ∷ 0xDEAD_0000_0000_0000 ∷ []) 1
    ∷ columns (form 8 0 (row (Unary 9 0 a) 1 ∷ [])) (255 ∷ 2 ∷ []) 1
    ∷ columns (form 8 0 (term 15 1 ∷ row (Unary 9 1 a) 1 ∷ []))
    (15 ∷ 2 ∷ 0xDEAD_0000_0000_0001 ∷ 240 ∷ 0 ∷ 0xDEAD_0000_0000_0001 ∷ []) 2
    ∷ []
