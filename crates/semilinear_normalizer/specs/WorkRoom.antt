-- The room that normalising works in, as `normalize_tree` has it lent, and what it gives.
use Rattle.std.specs.Prelude.{◌≡◌, ℕ, ◌+◌, ◌*◌, ◌≤◌, min, List, Bool, length}
use Rattle.base.specs.Limits.{atom_limit, expr_records, form_bytes, record_length}
use Rattle.base.specs.Outcome.{Outcome}
use Rattle.record.specs.Fields.{size}
use Rattle.record.specs.Tree.{Tree}
use Rattle.expr_refusal.specs.Refusal.{tree_refusal}
use Rattle.normalizer_laws.specs.Normalize.{collected_outcome}
use Rattle.rules_laws.specs.Descend.{descend}
use Rattle.descent.specs.declared.collect.Atom.{Atom}
use Rattle.register.specs.declared.index.Entry.{Entry}

-- an accepted expression t, a mark and an atom for each of its records, a tree's bytes and the entries of a table
pub record WorkRoom (w : ℕ) (t marks : List ℕ) (spots : List Atom) (tree : List ℕ) (index : List Entry) (out : List ℕ)
    : Type 0 where
  pub accepted : tree_refusal w t ≡ 0
  pub marked : size t ≤ length marks
  pub collected : size t ≤ length spots
  pub built : length t + 32 ≤ length tree
  pub long : length t ≤ 1048000
  pub entries : min atom_limit (size t) ≤ length index
  pub written : length out ≡ form_bytes

-- arrays for files of so many records: the bytes of a tree, and the atoms of a table
pub record Sizes (records tree atoms : ℕ) : Type 0 where
  pub few : records ≤ expr_records
  pub bytes : tree ≡ records * record_length + 32
  pub table : atoms ≡ min atom_limit records

-- what the descent from the root comes to, with the rule for Not or without it
abbrev pub descended : Bool → ℕ → Tree → Outcome
descended nots w t = collected_outcome w (descend nots w 1 t)
