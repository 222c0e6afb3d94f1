-- How many bytes of the result slice normalising uses: never more than it has, and a form has its sum record.
use mathlib.Core.Path.{◌≡◌, ap, ◌∙◌}
use Prim.Native.Nat.{ℕ, ◌≤◌, ◌<◌}
use native.Mathlib.Omega.{arith}
use mathlib.Core.List.{List}
use mathlib.Core.Bool.{true, false}
use lib.ListN.{length, get_or, take}
use lib.Dec.{leb}
use borrow.Author.Tests.{leb-true}
use Rattle.record.specs.Fields.{width}
use Rattle.record.specs.Decode.{decode}
use Rattle.base.proofs.BoolLaws.{and_true}
use Rattle.expr_refusal.specs.Refusal.{expr_refusal}
use Rattle.semilinear.specs.Form.{Form, encode_form, tree_records, fits_table}
use Rattle.base.specs.Outcome.{Outcome, refused, refusal_of, numbers_of}
use Rattle.semilinear.specs.Outcome.{form_outcome}
use Rattle.semilinear.specs.Answers.{InNumbers, GivesNumbers}
use Rattle.semilinear.proofs.FormLaws.{length_form, term_count_le}
use Rattle.normalizer_laws.specs.Normalize.{collected_form, normalize_tree, normalize_to_semilinear}
use Rattle.normalizer_laws.proofs.NormalizeLaws.{TreeCase, not_linear, too_large, written}
use Rattle.normalizer_laws.proofs.NormalizeLaws.{tree_case, FileCase, wrong_length, wrong_slice}
use Rattle.normalizer_laws.proofs.NormalizeLaws.{no_expression, expression, normalize_file, file_case}

-- the bytes of a form whose table keeps the limits
length_fits : (f : Form) → fits_table f.rows ≡ true → (16 ≤ length (encode_form f)) × (length (encode_form f) ≤ 57360)
unfolding fits_table
length_fits f ok =
    let p = and_true (leb (length f.rows) 256) (leb (tree_records f.rows) 3072) ok in
    let atoms = leb-true (length f.rows) 256 p.0 in
    let records = leb-true (tree_records f.rows) 3072 p.1 in
    let n = length_form f in
    (omega (arith, n), omega (arith, n, term_count_le f.rows, atoms, records))

-- the bytes used of a result slice of len bytes: at most all; with no refusal, those of a sum record at least
pub record UsedWithin (len : ℕ) (r : InNumbers) : Type 0 where
  pub inside : r.used ≤ len
  pub sum_record : r.refusal ≡ 0 → 16 ≤ r.used

module _ (o : Outcome) (len : ℕ) (r : InNumbers) (out : List ℕ) (given : GivesNumbers o len r out) where
  -- the bytes used, as the outcome has them
  used_of : {p : Outcome} → o ≡ p → r.used ≡ get_or (take 3 (numbers_of 3 p)) 0 0
  used_of e = ap (λ (l : List ℕ). get_or l 0 0) (given.beside ∙ ap (λ (x : Outcome). take 3 (numbers_of 3 x)) e)

  used_refused : (n : ℕ) → 0 < n → o ≡ refused n → UsedWithin len r
  unfolding refusal_of numbers_of
  used_refused n pos e =
      let number : r.refusal ≡ n = given.number ∙ ap refusal_of e in
      record { inside = omega (arith, used_of e); sum_record = λ z. absurd (omega (arith, number)) }

  used_form : (f : Form) → fits_table f.rows ≡ true → len ≡ 57360 → o ≡ form_outcome f false → UsedWithin len r
  unfolding numbers_of form_outcome
  used_form f fits wide e =
      let h = length_fits f fits in
      record { inside = omega (arith, used_of e, h.1); sum_record = λ z. omega (arith, used_of e, h.0) }

module _ (s : List ℕ) (len : ℕ) (r : InNumbers) (out : List ℕ)
    (given : GivesNumbers (normalize_to_semilinear s len) len r out) where
  refuses : (n : ℕ) → 0 < n → normalize_to_semilinear s len ≡ refused n → UsedWithin len r
  refuses = used_refused (normalize_to_semilinear s len) len r out given

  by_tree : len ≡ 57360 → normalize_to_semilinear s len ≡ normalize_tree (width s) (decode s)
      → TreeCase (width s) (decode s) → UsedWithin len r
  by_tree k e (not_linear b f) = refuses 8 (omega arith) (e ∙ f)
  by_tree k e (too_large c l b x f) = refuses 9 (omega arith) (e ∙ f)
  by_tree k e (written c l b x f) =
      used_form (normalize_to_semilinear s len) len r out given (collected_form (width s) c l) x k (e ∙ f)

  by_file : FileCase (normalize_to_semilinear s len) s len (decode s) → UsedWithin len r
  by_file (wrong_length a f) = refuses 1 (omega arith) f
  by_file (wrong_slice a b f) = refuses 2 (omega arith) f
  by_file (no_expression a z k f) = refuses (expr_refusal s) (omega (arith, z)) f
  by_file (expression z k f) = by_tree k f (tree_case (width s) (decode s))

  pub used_normalize : UsedWithin len r
  used_normalize = by_file (file_case s len (decode s) (normalize_file s len))
