-- The passes by name, as the arguments have them, and by number, as a list of calls has them (`pass_at`).
use Rattle.std.specs.Prelude.{◌≡◌, ℕ, List, [], ◌∷◌, Bool, true, Option, MatchOption}
use Prim.Native.Char.{code}
use Prim.Native.String.{String, [] as end, ◌∷◌ as ◌then◌}
use Rattle.base.specs.Choice.{when}
use Rattle.base.specs.Lists.{eq_list}
use Rattle.runner.specs.declared.passes.Pass.{Pass}
use Rattle.runner.specs.Passes.{number_of}

-- the bytes of a text in ASCII
unfoldable pub text_bytes : String → List ℕ
text_bytes end = []
text_bytes (c then s) = code c ∷ text_bytes s

-- the function's name, or the short one
unfoldable pub is_name : List ℕ → List ℕ → List ℕ → Bool
is_name name function short = when (eq_list name function) (λ _. true) (λ _. eq_list name short)

-- the same, of names as text
abbrev pub named : List ℕ → String → String → Bool
named name function short = is_name name (text_bytes function) (text_bytes short)

-- the number of the pass of this name; 0 where there is none
unfoldable pub pass_number : List ℕ → ℕ
pass_number name =
    when (named name "refine_terms" "refine") (λ _. 1)
    (λ _. when (named name "recover_structure" "recover") (λ _. 2)
    (λ _. when (named name "coalesce_terms" "coalesce") (λ _. 3)
    (λ _. when (named name "flatten_complex_atoms" "flatten") (λ _. 4)
    (λ _. when (named name "compact_atom_table" "compact") (λ _. 5) (λ _. 0)))))

-- the pass of this name, or none
abbrev pub IsPassNamed : List ℕ → Option Pass → Type 0
IsPassNamed name o = MatchOption o (pass_number name ≡ 0) (λ pass. number_of pass ≡ pass_number name)
