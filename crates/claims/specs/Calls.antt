-- Any list of calls of the five passes (document 00, third demand), refused ones included.
use Rattle.std.specs.Prelude.{◌≡◌, ℕ, List, [], ◌∷◌, true}
use Rattle.semilinear.specs.Form.{Form, encode_form, valid_form}
use Rattle.base.specs.Outcome.{Outcome, accepted, refused}
use Rattle.semilinear_value.specs.Value.{semilinear_value}
use Rattle.compaction.specs.Compact.{compact_atom_table}
use Rattle.refiner_laws.specs.RefineTerms.{refine_terms}
use Rattle.structure_laws.specs.RecoverStructure.{recover_structure}
use Rattle.structure_laws.specs.CoalesceTerms.{coalesce_terms}
use Rattle.structure_laws.specs.FlattenComplexAtoms.{flatten_complex_atoms}

-- the five passes
pub data Pass : Type 0 where
  refine_terms_pass : Pass
  recover_structure_pass : Pass
  coalesce_terms_pass : Pass
  flatten_complex_atoms_pass : Pass
  compact_atom_table_pass : Pass

-- a pass, and the length of the result slice that is lent to it
pub record Call : Type 0 where
  pub pass : Pass
  pub len : ℕ

-- what the pass gives for the bytes s and a result slice of len bytes
unfoldable pub pass_gives : Pass → List ℕ → ℕ → Outcome
pass_gives refine_terms_pass s len = refine_terms s len
pass_gives recover_structure_pass s len = recover_structure s len
pass_gives coalesce_terms_pass s len = coalesce_terms s len
pass_gives flatten_complex_atoms_pass s len = flatten_complex_atoms s len
pass_gives compact_atom_table_pass s len = compact_atom_table s len

-- the bytes in use after a call: those that it gives, or the old ones where it is refused
unfoldable pub use_of : List ℕ → Outcome → List ℕ
use_of s (accepted l ns) = l
use_of s (refused n) = s

-- the bytes in use after one call, where those before it were s
unfoldable pub after_call : Call → List ℕ → List ℕ
after_call c s = use_of s (pass_gives c.pass s c.len)

-- the bytes in use after a list of calls, the first of them first
unfoldable pub in_use : List Call → List ℕ → List ℕ
in_use [] s = s
in_use (c ∷ l) s = in_use l (after_call c s)

-- what is claimed of the bytes t that came of the bytes s: they are those of a valid form, so that every atom has a
-- variable and only kinds 0, 1, 4 to 7 and 9 (`is_atom_tree`), and the value is the same under every assignment
pub record SameValue (s t : List ℕ) : Type 0 where
  pub form : Form
  pub encoded : t ≡ encode_form form
  pub valid : valid_form form ≡ true
  pub value : (vars : List ℕ) → semilinear_value t vars ≡ semilinear_value s vars
