-- The passes of the program: what each is among the passes of the claims, and its number in a list of calls (`pass_at`).
use Rattle.std.specs.Prelude.{◌≡◌, ℕ, List, Bool, false, Result, Option, MatchResult, MatchOption}
use lib.ListN.{get_or}
use Rattle.claims.specs.Calls.{Pass as ClaimedPass, Call as ClaimedCall, refine_terms_pass, recover_structure_pass, coalesce_terms_pass, flatten_complex_atoms_pass, compact_atom_table_pass}
use Rattle.runner.specs.RunPasses.{is_pass, is_call}
use Rattle.runner.specs.declared.passes.Pass.{Pass}
use Rattle.runner.specs.declared.passes.Pass.TheVariants.{Refine, Recover, Coalesce, Flatten, Compact}
use Rattle.runner.specs.declared.passes.NoPass.{NoPass}
use Rattle.runner.specs.declared.passes.Call.{Call}

-- the pass of the claims
abbrev pub claimed : Pass → ClaimedPass
claimed Refine = refine_terms_pass
claimed Recover = recover_structure_pass
claimed Coalesce = coalesce_terms_pass
claimed Flatten = flatten_complex_atoms_pass
claimed Compact = compact_atom_table_pass

-- its number
abbrev pub number_of : Pass → ℕ
number_of Refine = 1
number_of Recover = 2
number_of Coalesce = 3
number_of Flatten = 4
number_of Compact = 5

-- the pass of this number, or an error where there is none
abbrev pub IsPassAt : ℕ → Result Pass NoPass → Type 0
IsPassAt n r = MatchResult r (λ pass. number_of pass ≡ n) (λ e. (e.0 ≡ n) × (is_pass n ≡ false))

-- the call of the claims
abbrev pub claimed_call : Call → ClaimedCall
claimed_call c = record { pass = claimed c.pass; len = c.len }

-- the call of two words, or none where there is no pass of the first
abbrev pub IsCallRead : List ℕ → Option Call → Type 0
IsCallRead words o =
    MatchOption o (is_pass (get_or words 0 0) ≡ false)
    (λ c. (number_of c.pass ≡ get_or words 0 0) × (c.len ≡ get_or words 1 0))

-- two words are a call whose result slice fits both slices, of a and b bytes
abbrev pub is_call_of : ℕ → ℕ → List ℕ → Bool
is_call_of a b words = is_call a b (get_or words 0 0) (get_or words 1 0)
