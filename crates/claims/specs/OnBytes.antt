-- Worked examples on bytes: an expression file or the bytes of a form in, and the bytes, numbers or refusal that the
-- definitions of the entry points give (w = 8, a is v0, b is v1). Starred puzzles of each kind, document 01's examples
-- of refusals, sheets saved with old heads, variables past 255, literals written as sums, and two lists of calls.
use Rattle.std.specs.Prelude.{ℕ, List, [], ◌∷◌, ◌++◌, Bool, true, false, take, drop, replicate}
use Rattle.record.specs.Tree.{Tree, record_bytes, encode}
use Rattle.record.specs.Tree.Tree.{Constant, Variable, Unary, Binary}
use Rattle.semilinear.specs.Form.{Row, Form, atoms_bytes, term_bytes, sum_bytes, encode_form}
use Rattle.base.specs.Outcome.{Outcome, accepted, refused}
use Rattle.semilinear.specs.Outcome.{form_outcome}
use Rattle.normalizer_laws.specs.Normalize.{normalize_to_semilinear}
use Rattle.partition_laws.specs.Partition.{compute_partitions}
use Rattle.claims.specs.Calls.{Pass, Call, pass_gives, use_of, in_use}
use Rattle.claims.specs.Calls.Pass.{refine_terms_pass, recover_structure_pass, coalesce_terms_pass, flatten_complex_atoms_pass}
use Rattle.claims.specs.Calls.Pass.{compact_atom_table_pass}
use Rattle.claims.specs.Example.{Example, a, b, mask, row, term, form}
use Rattle.base.specs.Limits.{column_words, form_bytes}

-- the length of a result slice, and one less
abbrev whole : ℕ
whole = form_bytes

abbrev short : ℕ
short = 57359

-- the bytes of t at 8 bits are normalised to those of the form f, or refused by n
abbrev normalizes : Tree → Form → Example
normalizes t f = record { got = normalize_to_semilinear (encode 8 t) whole; want = form_outcome f false }

abbrev refuses : List ℕ → ℕ → ℕ → Example
refuses s len n = record { got = normalize_to_semilinear s len; want = refused n }

-- the pass p makes the bytes of f of those of e, and returns the flag; or refuses the bytes s by n
abbrev makes : Pass → Form → Form → Bool → Example
makes p e f flag = record { got = pass_gives p (encode_form e) whole; want = form_outcome f flag }

abbrev stops : Pass → List ℕ → ℕ → ℕ → Example
stops p s len n = record { got = pass_gives p s len; want = refused n }

-- 8 bits and the constant 0
abbrev sheet : List Row → Form
sheet l = form 8 0 l

abbrev xor : ℕ → ℕ → Row
xor m c = row (Binary 6 (Constant m) a) c

unfoldable pub on_bytes : List Example
on_bytes =
    -- the starred puzzles of normalising, refining, recovering and the columns
    normalizes (Binary 6 a (Constant 15)) (form 8 15 (row a 1 ∷ term 15 254 ∷ []))
    ∷ makes refine_terms_pass (sheet (term 255 16 ∷ [])) (sheet (term 255 0 ∷ term 15 16 ∷ [])) false
    ∷ makes refine_terms_pass (sheet (term 15 1 ∷ term 240 1 ∷ [])) (sheet (term 15 0 ∷ term 240 0 ∷ row a 1 ∷ [])) false
    ∷ makes recover_structure_pass (sheet (term 252 1 ∷ term 3 255 ∷ term 0 255 ∷ []))
    (form 8 253 (term 252 0 ∷ term 3 0 ∷ term 0 255 ∷ xor 3 1 ∷ [])) false
    ∷ record {
      got = compute_partitions (encode_form (sheet (term 15 1 ∷ []))) column_words;
      want = accepted (15 ∷ 2 ∷ 240 ∷ 0 ∷ []) (2 ∷ []);
    }
    -- coalescing, flattening with its flag, and compaction, which numbers the atoms anew
    ∷ makes coalesce_terms_pass (sheet (term 15 1 ∷ term 240 1 ∷ [])) (sheet (term 15 0 ∷ term 240 0 ∷ row a 1 ∷ [])) false
    ∷ makes flatten_complex_atoms_pass (form 8 7 (row (Unary 7 0 b) 3 ∷ []))
    (form 8 4 (row (Unary 7 0 b) 0 ∷ row b 253 ∷ [])) true
    ∷ makes compact_atom_table_pass (form 8 9 (term 15 0 ∷ row b 2 ∷ term 240 0 ∷ xor 3 1 ∷ []))
    (form 8 9 (row b 2 ∷ xor 3 1 ∷ [])) false
    ∷ []

-- ---- sheets saved with other bytes in their heads (ticket #107)

-- a row with byte p in its head
abbrev saved : ℕ → Tree → ℕ → Row
saved p t c = record { provenance = p; tree = t; coeff = c }

-- 1 a + 3 b with 0 and 3 there, and as a new sheet
abbrev old : Form
old = sheet (saved 0 a 1 ∷ saved 3 b 3 ∷ [])

abbrev new : Form
new = sheet (row a 1 ∷ row b 3 ∷ [])

-- 1 (a & 15) + 1 (a & 240) with 1 and 2 there
abbrev halves : List Row
halves = saved 1 (mask a 15) 1 ∷ saved 2 (mask a 240) 1 ∷ []

unfoldable pub saved_heads : List Example
saved_heads =
    -- every pass writes new heads, also where it changes nothing else
    makes compact_atom_table_pass old new false
    ∷ makes refine_terms_pass old new false
    ∷ makes recover_structure_pass old new false
    ∷ makes coalesce_terms_pass old new false
    ∷ makes flatten_complex_atoms_pass old new false
    ∷ makes refine_terms_pass (sheet halves) (sheet (term 15 0 ∷ term 240 0 ∷ row a 1 ∷ [])) false
    ∷ makes compact_atom_table_pass (sheet (saved 0 a 0 ∷ saved 1 b 2 ∷ [])) (sheet (row b 2 ∷ [])) false
    -- the columns are the same
    ∷ record {
      got = compute_partitions (encode_form (sheet halves)) column_words;
      want = compute_partitions (encode_form (sheet (term 15 1 ∷ term 240 1 ∷ []))) column_words;
    }
    -- a refused call leaves the bytes in use as they were
    ∷ record {
      got = accepted (in_use (record { pass = compact_atom_table_pass; len = short } ∷ []) (encode_form old)) [];
      want = accepted (encode_form old) [];
    }
    -- 5 is no byte of a head
    ∷ stops compact_atom_table_pass (encode_form (sheet (saved 5 a 1 ∷ []))) whole 10
    ∷ stops flatten_complex_atoms_pass (encode_form (sheet (row a 1 ∷ saved 255 b 2 ∷ []))) whole 10
    ∷ []

-- ---- variables past 255 (ticket #101)

abbrev v : ℕ → Tree
v i = Variable i

-- c·(v i & m)
abbrev part : ℕ → ℕ → ℕ → Row
part i m c = row (mask (v i) m) c

-- c·(v & m) of variables that have a byte in common with another
abbrev some : ℕ → ℕ → List Row
some m c = part 0 m c ∷ part 255 m c ∷ part 256 m c ∷ part 65535 m c ∷ []

-- the same bytes with 1 in byte 5, and the parts of the form 1 a
abbrev with_byte5 : List ℕ → List ℕ
with_byte5 s = take 5 s ++ (1 ∷ drop 6 s)

abbrev atom : List ℕ
atom = atoms_bytes 8 (row a 1 ∷ [])

abbrev one : List ℕ
one = term_bytes 8 0 1

abbrev sum : List ℕ
sum = sum_bytes 8 0

unfoldable pub past_byte : List Example
past_byte =
    -- v256 beside v0: two atoms, and one of both
    normalizes (Binary 2 (v 256) (Binary 3 (Constant 2) (v 0))) (sheet (row (v 256) 1 ∷ row (v 0) 2 ∷ []))
    ∷ normalizes (Binary 6 (v 256) (v 0)) (sheet (row (Binary 6 (v 256) (v 0)) 1 ∷ []))
    -- groups by their hashes, which rise from v0 by v255 and v65535 to v256
    ∷ makes refine_terms_pass (sheet (some 255 16))
    (sheet (some 255 0 ++ (part 0 15 16 ∷ part 255 15 16 ∷ part 65535 15 16 ∷ part 256 15 16 ∷ []))) false
    ∷ makes coalesce_terms_pass (sheet (part 256 15 1 ∷ part 65535 15 2 ∷ part 256 240 1 ∷ part 65535 240 2 ∷ []))
    (sheet
    (part 256 15 0 ∷ part 65535 15 0 ∷ part 256 240 0 ∷ part 65535 240 0 ∷ row (v 65535) 2 ∷ row (v 256) 1 ∷ []))
    false
    ∷ makes recover_structure_pass (sheet (part 65535 252 1 ∷ part 65535 3 255 ∷ []))
    (form 8 253 (part 65535 252 0 ∷ part 65535 3 0 ∷ row (Binary 6 (Constant 3) (v 65535)) 1 ∷ [])) false
    -- an atom of v65535 alone, and of v256
    ∷ makes flatten_complex_atoms_pass (form 8 7 (row (Unary 7 0 (v 65535)) 3 ∷ row (Unary 7 0 (v 256)) 1 ∷ []))
    (form 8 3 (row (Unary 7 0 (v 65535)) 0 ∷ row (Unary 7 0 (v 256)) 0 ∷ row (v 65535) 253 ∷ row (v 256) 255 ∷ [])) true
    ∷ makes compact_atom_table_pass (sheet (row (v 256) 0 ∷ row (v 65535) 2 ∷ [])) (sheet (row (v 65535) 2 ∷ [])) false
    -- bits 0 to 3 of v256 ^ v65535
    ∷ record {
      got = compute_partitions (encode_form (sheet (row (mask (Binary 6 (v 256) (v 65535)) 15) 1 ∷ []))) column_words;
      want = accepted (15 ∷ 6 ∷ 240 ∷ 0 ∷ []) (2 ∷ []);
    }
    -- byte 5 of a head, of a term and of the sum
    ∷ stops compact_atom_table_pass ((with_byte5 atom ++ one) ++ sum) whole 10
    ∷ stops compact_atom_table_pass ((atom ++ with_byte5 one) ++ sum) whole 10
    ∷ stops compact_atom_table_pass ((atom ++ one) ++ with_byte5 sum) whole 10
    ∷ []

-- ---- literals written as sums (ticket #104)

-- 1 + 2, and 3 & (1 + 2)
abbrev three : Tree
three = Binary 2 (Constant 1) (Constant 2)

abbrev masked : Tree
masked = Binary 4 (Constant 3) three

-- 8 bits, the constant c and no atom
abbrev constant : ℕ → Form
constant c = form 8 c []

unfoldable pub written_sums : List Example
written_sums =
    -- 3 & (1 + 2); 0 × (3 & (1 + 2)); ~(1 + 2) >> 1
    normalizes masked (constant 3)
    ∷ normalizes (Binary 3 (Constant 0) masked) (constant 0)
    ∷ normalizes (Unary 9 1 (Unary 7 0 three)) (constant 126)
    -- (3 & (1 + 2)) × a; a + ~(-1)
    ∷ normalizes (Binary 3 masked a) (sheet (row a 3 ∷ []))
    ∷ normalizes (Binary 2 a (Unary 7 0 (Unary 8 0 (Constant 1)))) (sheet (row a 1 ∷ []))
    -- below an operator that also has a variable: a ^ (3 & (1 + 2)); a & ~(1 + 2); a ^ (-1); a & ((1 + 2) >> 1)
    ∷ refuses (encode 8 (Binary 6 a masked)) whole 8
    ∷ refuses (encode 8 (Binary 4 a (Unary 7 0 three))) whole 8
    ∷ refuses (encode 8 (Binary 6 a (Unary 8 0 (Constant 1)))) whole 8
    ∷ refuses (encode 8 (Binary 4 a (Unary 9 1 three))) whole 8
    -- 0 × (a ^ (3 & (1 + 2)))
    ∷ normalizes (Binary 3 (Constant 0) (Binary 6 a masked)) (constant 0)
    ∷ []

-- ---- refusals

-- 15 bytes; and a form that is none: its term has the coefficient 0
abbrev fifteen : List ℕ
fifteen = replicate 15 0

abbrev none : List ℕ
none = (atoms_bytes 8 (term 15 1 ∷ []) ++ term_bytes 8 0 0) ++ sum_bytes 8 0

unfoldable pub refusals : List Example
refusals =
    -- 1, also where the slice has another length too; 2, also where the file is refused by 3 too
    refuses fifteen short 1
    ∷ refuses (record_bytes 2 0 1 8 0) short 2
    -- one Add of size 1; one literal of width 65; Trunc of v0; v0 >> 64
    ∷ refuses (record_bytes 2 0 1 8 0) whole 3
    ∷ refuses (encode 65 (Constant 0)) whole 4
    ∷ refuses (encode 8 (Unary 12 4 a)) whole 5
    ∷ refuses (encode 8 (Unary 9 64 a)) whole 6
    -- v0 × v1
    ∷ refuses (encode 8 (Binary 3 a b)) whole 8
    -- a pass: 1 before 2, 2 before 10, and 10
    ∷ stops refine_terms_pass fifteen short 1
    ∷ stops recover_structure_pass none short 2
    ∷ stops coalesce_terms_pass none whole 10
    ∷ []

-- ---- any list of calls

-- 128 · (a & 15) + 128 · (a & 240), and the bytes that normalising gives for it
abbrev expression : Tree
expression =
    Binary 2 (Binary 3 (Constant 128) (mask a 15)) (Binary 3 (Constant 128) (mask a 240))

abbrev start : List ℕ
start = use_of [] (normalize_to_semilinear (encode 8 expression) whole)

-- a pass, then a compaction that is refused for the length of its slice, then another pass
abbrev calls : Pass → Pass → List Call
calls p q =
    record { pass = p; len = whole } ∷ record { pass = compact_atom_table_pass; len = short }
    ∷ record { pass = q; len = whole } ∷ []

-- the bytes in use after the calls are those of f
abbrev leaves : List Call → Form → Example
leaves l f = record { got = accepted (in_use l start) []; want = accepted (encode_form f) [] }

-- refining and recovering in the two orders give forms of one value and of unlike bytes; a refused call that had its
-- way would take the atoms without a term, one whose zeros were taken would leave no form
unfoldable pub orders : List Example
orders =
    leaves [] (sheet (term 15 128 ∷ term 240 128 ∷ []))
    ∷ leaves (calls refine_terms_pass recover_structure_pass)
    (sheet (term 15 0 ∷ term 240 0 ∷ term 1 128 ∷ term 0 0 ∷ []))
    ∷ leaves (calls recover_structure_pass refine_terms_pass)
    (form 8 128 (term 15 0 ∷ term 240 0 ∷ xor 15 128 ∷ []))
    ∷ []
