-- Limits that follow from each other.
use Prim.Native.Nat.{◌+◌, ◌*◌}
use mathlib.Core.Path.{◌≡◌, refl}
use Rattle.base.specs.Limits.{record_length, expr_records, expr_bytes, atom_limit, tree_record_limit, form_bytes}
use Rattle.base.specs.Limits.{group_entries, column_words}

pub expr_bytes_lem : expr_bytes ≡ expr_records * record_length
expr_bytes_lem = refl

-- a head and a term for each atom, the records of the trees, and the sum record
pub form_bytes_lem : form_bytes ≡ (2 * atom_limit + tree_record_limit + 1) * record_length
form_bytes_lem = refl

pub group_entries_lem : group_entries ≡ atom_limit
group_entries_lem = refl

-- for each of 64 places a mask, and a word for each atom
pub column_words_lem : column_words ≡ 64 * (1 + atom_limit)
column_words_lem = refl
