-- The limits of document 01, each once; src/limits.rt has the same for code.
use Rattle.std.specs.Prelude.{ℕ}

-- the length of a record, in bytes
abbrev pub record_length : ℕ
record_length = 16

-- the records of an expression (document 01: tangle), and its bytes
abbrev pub expr_records : ℕ
expr_records = 1024

abbrev pub expr_bytes : ℕ
expr_bytes = 16384

-- variables have numbers below this: two bytes
abbrev pub var_limit : ℕ
var_limit = 65536

-- the atoms of a semilinear form (document 01: sheet), the records of their trees, and the form's bytes
abbrev pub atom_limit : ℕ
atom_limit = 256

abbrev pub tree_record_limit : ℕ
tree_record_limit = 3072

abbrev pub form_bytes : ℕ
form_bytes = 57360

-- the entries of a group: at most one for each atom
abbrev pub group_entries : ℕ
group_entries = 256

-- the words of the partition classes (document 01: hint columns)
abbrev pub column_words : ℕ
column_words = 16448

-- a form of at most so many atoms is worked on in short arrays; no limit of document 01
abbrev pub short_atoms : ℕ
short_atoms = 16
