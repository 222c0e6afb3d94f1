-- Which bytes are a semilinear form (document 01, "The sheet", and refusals 1 and 10): a test at each record.
use Rattle.std.specs.Prelude.{ℕ, zero, suc, ◌+◌, ◌%◌, ◌^◌, List, Bool, true, false, not, ◌&&◌, length, drop, eqb, ltb, leb}
use Rattle.base.specs.Choice.{when}
use Rattle.record.specs.Fields.{kind, byte1, size, width, literal, spare}
use Rattle.record.specs.Span.{body}
use Rattle.record.specs.Decode.{decode}
use Rattle.expr_refusal.specs.Refusal.{tree_refusal}
use Rattle.expr_utils.specs.Utils.{has_var_dep, has_arith}
use Rattle.expr.specs.Hash.{structural_hash}
use Rattle.semilinear.specs.Form.{head_byte}
use Rattle.semilinear.specs.Items.{front_number, front_width, front_spare, front_word, provenance, tree_span}
use Rattle.semilinear.specs.Items.{fold_atoms, atom_count, atom_records, after_atoms, is_term}
use Rattle.base.specs.Limits.{atom_limit, form_bytes, record_length, tree_record_limit}

-- the tree of an atom is one of width w, with a variable and without Add, Mul and Neg
unfoldable pub atom_tree_ok : ℕ → List ℕ → Bool
atom_tree_ok w t = eqb (tree_refusal w t) 0 && (has_var_dep (decode t) && not (has_arith (decode t)))

-- and it has this hash
unfoldable pub tree_ok : ℕ → List ℕ → ℕ → Bool
tree_ok w t h = atom_tree_ok w t && eqb h (structural_hash (decode t))

-- the atom at the front is as it must be, the hash too
unfoldable pub atom_ok : ℕ → List ℕ → Bool
atom_ok w r =
    leb (provenance r) 4
    && (eqb (front_width r) w
    && (eqb (front_spare r) 0 && tree_ok w (tree_span r) (front_word r)))

abbrev pub atoms_ok : ℕ → List ℕ → Bool
atoms_ok w = fold_atoms (λ r. true) (λ r ok. atom_ok w r && ok)

-- byte 1 of every head is one of 0 to 4; and it is that of a new head (ticket #107)
abbrev pub known_heads : List ℕ → Bool
known_heads = fold_atoms (λ r. true) (λ r ok. leb (provenance r) 4 && ok)

abbrev pub new_heads : List ℕ → Bool
new_heads = fold_atoms (λ r. true) (λ r ok. eqb (provenance r) head_byte && ok)

-- the term at the front is as it must be: its atom is one of n, and not below `next`
unfoldable pub term_ok : ℕ → ℕ → ℕ → List ℕ → Bool
term_ok w n next q =
    eqb (provenance q) 0
    && (leb next (front_number q)
    && (ltb (front_number q) n
    && (eqb (front_width q) w
    && (eqb (front_spare q) 0 && (not (eqb (front_word q) 0) && ltb (front_word q) (2 ^ w))))))

-- q is terms and nothing else, their atoms strictly rising
unfoldable pub terms_ok_f : ℕ → ℕ → ℕ → ℕ → List ℕ → Bool
terms_ok_f zero w n next q = eqb (length q) 0
terms_ok_f (suc k) w n next q =
    when (eqb (length q) 0) (λ _. true)
    (λ _. when (is_term q) (λ _. term_ok w n next q && terms_ok_f k w n (front_number q + 1) (drop record_length q)) (λ _. false))

unfoldable pub terms_ok : ℕ → ℕ → ℕ → List ℕ → Bool
terms_ok w n next q = terms_ok_f (length q) w n next q

-- the last record is the sum record, with a width of 1 to 64 and a constant that fits
unfoldable pub sum_ok : List ℕ → Bool
sum_ok s =
    leb record_length (length s)
    && (eqb (kind s) 32
    && (eqb (byte1 s) 0
    && (eqb (size s) 0
    && (eqb (spare s) 0
    && (leb 1 (width s) && (leb (width s) 64 && ltb (literal s) (2 ^ width s)))))))

-- the atoms and terms before the sum record, at w bits
unfoldable pub front_ok : ℕ → List ℕ → Bool
front_ok w f =
    atoms_ok w f
    && (leb (atom_count f) atom_limit && (leb (atom_records f) tree_record_limit && terms_ok w (atom_count f) 0 (after_atoms f)))

unfoldable pub is_semilinear : List ℕ → Bool
is_semilinear s = sum_ok s && front_ok (width s) (body s)

-- refusal 1 of a sheet: its length
unfoldable pub length_refused : List ℕ → Bool
length_refused s =
    when (eqb (length s) 0) (λ _. true) (λ _. when (ltb form_bytes (length s)) (λ _. true) (λ _. not (eqb (length s % record_length) 0)))

-- the lowest refusal of a sheet, 0 where it is accepted
unfoldable pub semilinear_refusal : List ℕ → ℕ
semilinear_refusal s =
    when (length_refused s) (λ _. 1) (λ _. when (is_semilinear s) (λ _. 0) (λ _. 10))
