-- The types of entries by number.
use Rattle.std.specs.Prelude.{◌≡◌, ℕ, ◌≤◌, Result, MatchResult}
use Rattle.stored.specs.declared.kind.EntryKind.{EntryKind}
use Rattle.stored.specs.declared.kind.EntryKind.TheVariants.{ExprValue, StructuralHash, ReduceMask}
use Rattle.stored.specs.declared.kind.EntryKind.TheVariants.{CanChangeMask, CanChangeCoefficient, SemilinearValue}
use Rattle.stored.specs.declared.kind.EntryKind.TheVariants.{CompactAtomTable, NormalizeToSemilinear, RefineTerms}
use Rattle.stored.specs.declared.kind.EntryKind.TheVariants.{FlattenComplexAtoms, ComputePartitions, RecoverStructure}
use Rattle.stored.specs.declared.kind.EntryKind.TheVariants.{CoalesceTerms, RunPasses, NormalizeByRules, Judge, JudgeForms}
use Rattle.stored.specs.declared.kind.UnknownKind.{UnknownKind}

-- the number of a type
abbrev pub number_of : EntryKind → ℕ
number_of ExprValue = 1
number_of StructuralHash = 2
number_of ReduceMask = 3
number_of CanChangeMask = 4
number_of CanChangeCoefficient = 5
number_of SemilinearValue = 6
number_of CompactAtomTable = 7
number_of NormalizeToSemilinear = 8
number_of RefineTerms = 9
number_of FlattenComplexAtoms = 10
number_of ComputePartitions = 11
number_of RecoverStructure = 12
number_of CoalesceTerms = 13
number_of RunPasses = 14
number_of NormalizeByRules = 15
number_of Judge = 16
number_of JudgeForms = 17

-- the type of this number, or an error where there is none
abbrev pub IsKindAt : ℕ → Result EntryKind UnknownKind → Type 0
IsKindAt n r = MatchResult r (λ kind. number_of kind ≡ n) (λ e. (e.0 ≡ n) × (1 ≤ n → n ≤ 17 → ⊥))
