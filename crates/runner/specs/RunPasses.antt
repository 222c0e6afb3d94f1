-- What running a list of passes from an expression gives: the bytes in use after the list (`in_use`), or a refusal.
use Rattle.std.specs.Prelude.{ℕ, List, [], ◌∷◌, Bool, true, false, ◌&&◌, length, eqb, leb}
use Rattle.base.specs.Choice.{when}
use Rattle.semilinear.specs.Form.{term_count}
use Rattle.semilinear.specs.DecodeForm.{decode_form}
use Rattle.base.specs.Outcome.{Outcome, accepted, refused, refusal_of}
use Rattle.normalizer_laws.specs.Normalize.{normalize_to_semilinear}
use Rattle.claims.specs.Calls.{Pass, Call, refine_terms_pass, recover_structure_pass, coalesce_terms_pass, flatten_complex_atoms_pass}
use Rattle.claims.specs.Calls.{compact_atom_table_pass, in_use}

-- the pass of a number: refining 1, recovering 2, coalescing 3, flattening 4, compacting 5
unfoldable pub pass_at : ℕ → Pass
pass_at n =
    when (eqb n 1) (λ _. refine_terms_pass)
    (λ _. when (eqb n 2) (λ _. recover_structure_pass)
    (λ _. when (eqb n 3) (λ _. coalesce_terms_pass)
    (λ _. when (eqb n 4) (λ _. flatten_complex_atoms_pass) (λ _. compact_atom_table_pass))))

-- there is a pass of this number
unfoldable pub is_pass : ℕ → Bool
is_pass n = leb 1 n && leb n 5

-- the call of two words
abbrev pub call_of : ℕ → ℕ → Call
call_of p n = record { pass = pass_at p; len = n }

-- the calls that words name: for each call its pass and the length of its result slice
unfoldable pub calls_of : List ℕ → List Call
calls_of [] = []
calls_of (p ∷ []) = []
calls_of (p ∷ n ∷ l) = call_of p n ∷ calls_of l

-- a pass that there is, with a result slice for which both slices, of a and b bytes, have room
unfoldable pub is_call : ℕ → ℕ → ℕ → ℕ → Bool
is_call a b p n = is_pass p && (leb n a && leb n b)

-- words in pairs, each of them a call
unfoldable pub is_list : ℕ → ℕ → List ℕ → Bool
is_list a b [] = true
is_list a b (p ∷ []) = false
is_list a b (p ∷ n ∷ l) = when (is_call a b p n) (λ _. is_list a b l) (λ _. false)

-- the outcome of the bytes t of a form
unfoldable pub bytes_outcome : List ℕ → Outcome
bytes_outcome t = accepted t (length t ∷ term_count (decode_form t).rows ∷ 0 ∷ [])

-- the outcome of the list on what normalising gave
unfoldable pub list_outcome : List Call → Outcome → Outcome
list_outcome calls (accepted b ns) = bytes_outcome (in_use calls b)
list_outcome calls (refused n) = refused n

-- refusals 1 and 2 of normalising, then 32 for a list that is none, then the others
unfoldable pub run_outcome : Outcome → Bool → List Call → Outcome
run_outcome o ok calls =
    when (eqb (refusal_of o) 1) (λ _. o)
    (λ _. when (eqb (refusal_of o) 2) (λ _. o)
    (λ _. when ok (λ _. list_outcome calls o) (λ _. refused 32)))

-- of the expression s, the list in words, and slices of len and spare bytes
unfoldable pub run_passes : List ℕ → List ℕ → ℕ → ℕ → Outcome
run_passes s words len spare =
    run_outcome (normalize_to_semilinear s len) (is_list len spare words) (calls_of words)
