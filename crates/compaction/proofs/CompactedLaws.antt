-- Compacting keeps the value and the validity of a form.
use Rattle.atom_table.proofs.MadeLaws.{Made, pass_made, made}
use Rattle.atom_table.proofs.PassLaws.{length_sum}
use mathlib.Core.Path.{◌≡◌, refl, ap, ap₂, sym, subst, ◌∙◌}
use Prim.Native.Nat.{ℕ, ◌+◌, ◌*◌, ◌%◌, ◌^◌, ◌≤◌}
use native.Mathlib.Omega.{arith}
use mathlib.Core.List.{List, [], ◌∷◌, ◌++◌}
use mathlib.Core.Bool.{true, false}
use lib.ListN.{length, length-append}
use native.Mathlib.Decide.{ℕ_discrete}
use borrow.Author.Tests.{eq-eqb, ne_eqb}
use Rattle.record.specs.Fields.{width, literal}
use Rattle.base.specs.Put.{put}
use Rattle.record.specs.Tree.{IsBytes}
use Rattle.record.specs.Span.{body}
use Rattle.base.proofs.PutLaws.{put_padded_at, length_padded}
use Rattle.expr.specs.Value.{value}
use Rattle.std.specs.Prelude.{Ok}
use Rattle.atom_table.specs.declared.table.Written.{Written}
use Rattle.base.proofs.BoolLaws.{and_true}
use lib.Dec.{eqb}
use Rattle.semilinear.specs.Form.{Row, Form, new_rows, sum_rows, form_value, term_count, atoms_bytes, terms_bytes, sum_bytes}
use Rattle.semilinear.specs.Form.{encode_form, rows_ok, tree_records, valid_form}
use Rattle.semilinear.specs.Items.{after_atoms}
use Rattle.semilinear.specs.Valid.{is_semilinear}
use Rattle.semilinear.specs.DecodeForm.{decode_form, read_form, read_rows}
use Rattle.semilinear.specs.Outcome.{form_outcome}
use Rattle.semilinear.specs.Answers.{InNumbers, GivesForm}
use Rattle.compaction.specs.Compact.{used_rows, compact_form, FrontCopied, compact_atom_table}
use Rattle.semilinear.proofs.FormLaws.{form_parts, parts_form, rows_cons, good_row, length_form_le}
use Rattle.semilinear.proofs.RetiredLaws.{read_valid}
use Rattle.semilinear.proofs.OutcomeLaws.{gives_form}

-- ---- the used rows

module _ (x : Row) (l : List Row) where
  used_zero : x.coeff ≡ 0 → used_rows (x ∷ l) ≡ used_rows l
  unfolding used_rows
  used_zero e = simp (eq-eqb x.coeff 0 e)

  used_cons : (x.coeff ≡ 0 → ⊥) → used_rows (x ∷ l) ≡ x ∷ used_rows l
  unfolding used_rows
  used_cons e = simp (ne_eqb x.coeff 0 e)

-- an atom without a term adds nothing
pub sum_used : (w : ℕ) (vars : List ℕ) (l : List Row) → sum_rows w vars (used_rows l) ≡ sum_rows w vars l
unfolding sum_rows used_rows
sum_used w vars [] = refl
sum_used w vars (x ∷ l) = go (ℕ_discrete x.coeff 0) (sum_used w vars l)
  where
    go : Dec (x.coeff ≡ 0) → sum_rows w vars (used_rows l) ≡ sum_rows w vars l
        → sum_rows w vars (used_rows (x ∷ l)) ≡ x.coeff * value w vars x.tree + sum_rows w vars l
    go (yes e) below =
        ap (sum_rows w vars) (used_zero x l e)
        ∙ below
        ∙ omega (arith, ap (λ (c : ℕ). c * value w vars x.tree) e)
    go (no e) below = ap (sum_rows w vars) (used_cons x l e) ∙ omega arith

pub value_compact : (vars : List ℕ) (f : Form) → form_value vars (compact_form f) ≡ form_value vars f
unfolding form_value compact_form
value_compact vars f =
    ap (λ (n : ℕ). (f.constant + n) % 2 ^ f.bitwidth) (sum_used f.bitwidth vars f.rows)

-- u are some of the rows l
record Fewer (w : ℕ) (u l : List Row) : Type 0 where
  new : new_rows l ≡ true → new_rows u ≡ true
  atoms_le : length u ≤ length l
  records_le : tree_records u ≤ tree_records l
  rows_ok_lem : rows_ok w l ≡ true → rows_ok w u ≡ true

fewer : (w : ℕ) (l : List Row) → Fewer w (used_rows l) l
unfolding used_rows tree_records rows_ok new_rows
fewer w [] = record { new = λ e. e; atoms_le = omega arith; records_le = omega arith; rows_ok_lem = λ e. e }
fewer w (x ∷ l) = go (ℕ_discrete x.coeff 0) (fewer w l)
  where
    go : Dec (x.coeff ≡ 0) → Fewer w (used_rows l) l → Fewer w (used_rows (x ∷ l)) (x ∷ l)
    go (yes e) f =
        subst (λ (u : List Row). Fewer w u (x ∷ l)) (sym (used_zero x l e))
        (record {
          new = λ h. f.new (and_true (eqb x.provenance 4) (new_rows l) h).1;
          atoms_le = omega (arith, f.atoms_le);
          records_le = omega (arith, f.records_le);
          rows_ok_lem = λ ok. f.rows_ok_lem (rows_cons w x l ok).1;
        })
    go (no e) f =
        subst (λ (u : List Row). Fewer w u (x ∷ l)) (sym (used_cons x l e))
        (record {
          new = λ h. let p = and_true (eqb x.provenance 4) (new_rows l) h in simp (p.0, f.new p.1);
          atoms_le = omega (arith, f.atoms_le);
          records_le = omega (arith, f.records_le);
          rows_ok_lem = λ ok. let p = rows_cons w x l ok in simp (good_row w x p.0, f.rows_ok_lem p.1);
        })

pub valid_compact : (f : Form) → valid_form f ≡ true → valid_form (compact_form f) ≡ true
unfolding compact_form
valid_compact f e =
    let v = form_parts f e in
    let u = fewer f.bitwidth f.rows in
    parts_form (compact_form f)
    (record {
      width_pos = v.width_pos;
      width_le = v.width_le;
      fits = v.fits;
      atoms_le = omega (arith, v.atoms_le, u.atoms_le);
      records_le = omega (arith, v.records_le, u.records_le);
      rows_ok_lem = u.rows_ok_lem v.rows_ok_lem;
    })

-- the whole of a compacted form: the used rows, and the sum record behind them
pub compacted : (s : List ℕ) {w c : ℕ} → w ≡ width s → c ≡ literal s → {f : List ℕ} → f ≡ body s → (out out' : List ℕ)
    (r : Written) → FrontCopied w 57360 (read_rows 0 f (after_atoms f)) out r
    → out' ≡ put out r.used (sum_bytes w c)
    → GivesForm (form_outcome (compact_form (read_form s)) false) 57360
    (Ok (record { used = r.used + 16; terms = r.terms; flag = false })) out'
unfolding compact_form decode_form encode_form
compacted s {w} {c} ew ec {f} ef out out' r k p =
    let rows : List Row = used_rows (read_rows 0 (body s) (after_atoms (body s))) in
    let front : List ℕ = atoms_bytes (width s) rows ++ terms_bytes (width s) 0 rows in
    let z : List ℕ = sum_bytes (width s) (literal s) in
    let k' : FrontCopied (width s) 57360 (read_rows 0 (body s) (after_atoms (body s))) out r = rw (ew, ef) at k in
    let used : r.used + 16 ≡ length (front ++ z) =
    omega (arith, k'.place, length-append front z, length_sum (width s) (literal s)) in
    let answer : ◌≡◌ {A = InNumbers} (record { refusal = 0; used = r.used + 16; terms = r.terms; flag = false })
    (record { refusal = 0; used = length (front ++ z); terms = term_count rows; flag = false }) =
    ap₂ (λ (u n : ℕ). record { refusal = 0; used = u; terms = n; flag = false }) used k'.count in
    gives_form (compact_form (read_form s)) false 57360 _ out' answer
    (p
    ∙ ap₂ (λ (d x : List ℕ). put d r.used x) k'.written (ap₂ sum_bytes ew ec)
    ∙ put_padded_at 57360 front z r.used k'.place)

-- there is room for the sum record behind the used rows
pub sum_room : (s : List ℕ) → IsBytes s → is_semilinear s ≡ true → {w : ℕ} → w ≡ width s → {f : List ℕ} → f ≡ body s
    → (out : List ℕ) (r : Written) → FrontCopied w 57360 (read_rows 0 f (after_atoms f)) out r
    → (r.used + 16 ≤ 57360) × (length out ≡ 57360)
unfolding compact_form decode_form encode_form
sum_room s h e {w} ew {f} ef out r k =
    let rows : List Row = used_rows (read_rows 0 (body s) (after_atoms (body s))) in
    let front : List ℕ = atoms_bytes (width s) rows ++ terms_bytes (width s) 0 rows in
    let z : List ℕ = sum_bytes (width s) (literal s) in
    let k' : FrontCopied (width s) 57360 (read_rows 0 (body s) (after_atoms (body s))) out r = rw (ew, ef) at k in
    let most : length (front ++ z) ≤ 57360 =
    length_form_le (compact_form (read_form s)) (valid_compact (read_form s) (read_valid s h e)) in
    let le : r.used + 16 ≤ 57360 =
    omega (arith, k'.place, length-append front z, length_sum (width s) (literal s)) in
    (le, ap length k'.written ∙ length_padded 57360 front (omega (arith, k'.place)))

pub compact_made : (f : Form) → valid_form f ≡ true → (len : ℕ) → Made f (compact_atom_table (encode_form f) len)
unfolding compact_atom_table compact_form
compact_made =
    pass_made (λ f. form_outcome (compact_form f) false)
    (λ f ok new. made (compact_form f) false
    (record { valid = valid_compact f ok; wide = refl; value = λ vars. value_compact vars f })
    ((fewer f.bitwidth f.rows).new new) refl)
