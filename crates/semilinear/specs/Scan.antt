-- What a scan of the atoms at the front of some bytes finds, whatever the bytes are.
use Rattle.std.specs.Prelude.{◌≡◌, ℕ, ◌+◌, ◌*◌, ◌≤◌, List, length, drop}
use Rattle.base.specs.Limits.{record_length}
use Rattle.semilinear.specs.declared.scan.AtomTable.{AtomTable}
use Rattle.semilinear.specs.Items.{atom_count, atom_records, after_atoms}

-- the atoms at the front of f end at the place `at`
pub record AtomsEnd (f : List ℕ) (at : ℕ) : Type 0 where
  pub inside : at ≤ length f
  pub rest : drop at f ≡ after_atoms f

-- r is the place where the atoms at the front of f end, their number, and the number of their tree records; all heads
-- and tree records, times 16, are the place
pub record IsAtomTable (f : List ℕ) (r : AtomTable) : Type 0 where
  pub end : AtomsEnd f r.at
  pub place : r.at ≡ record_length * (r.count + r.records)
  pub number : r.count ≡ atom_count f
  pub trees : r.records ≡ atom_records f
