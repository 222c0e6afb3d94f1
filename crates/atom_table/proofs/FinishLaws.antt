-- The begin and the end of a pass (specs/Terms.antt): the atoms that were copied are those of the form, and the atoms,
-- the terms and the sum record of a table that is not full are the bytes of the form that it stands for.
use mathlib.Core.Path.{◌≡◌, refl, ap, ap₂, sym, ◌∙◌}
use Prim.Native.Nat.{ℕ, ◌+◌, ◌*◌, ◌≤◌}
use native.Mathlib.Omega.{arith}
use mathlib.Core.List.{List, [], ◌++◌}
use mathlib.Core.Bool.{Bool, true, false}
use Rattle.std.specs.Prelude.{Result, Ok}
use Rattle.base.specs.declared.refusal.Refusal.{Refusal}
use lib.ListN.{length, take, length-append}
use borrow.Author.Tests.{le-leb}
use Rattle.record.specs.Fields.{width}
use Rattle.record.specs.Span.{body}
use Rattle.record.specs.Tree.{IsBytes}
use Rattle.base.specs.Put.{put, padded}
use Rattle.base.proofs.BoolLaws.{false_true}
use Rattle.base.proofs.PutLaws.{length_put, length_padded, put_padded_at, take_padded}
use Rattle.atom_table.specs.declared.table.Written.{Written}
use Rattle.semilinear.specs.declared.outcome.Answer.{Answer}
use Rattle.atom_table.specs.declared.table.Table.{Table}
use Rattle.semilinear.specs.Form.{Row, Form, term_count, atoms_bytes, terms_bytes, sum_bytes, encode_form, tree_records}
use Rattle.semilinear.specs.Form.{fits_table}
use Rattle.semilinear.specs.Items.{after_atoms, atom_count, atom_records}
use Rattle.semilinear.specs.Valid.{is_semilinear}
use Rattle.semilinear.specs.DecodeForm.{rows_of, decode_form, read_form, read_rows}
use Rattle.base.specs.Outcome.{refused}
use Rattle.semilinear.specs.Outcome.{form_outcome}
use Rattle.semilinear.specs.Answers.{InNumbers, in_numbers, GivesForm}
use Rattle.semilinear.specs.PassOutcome.{limit_outcome}
use Rattle.atom_table.specs.Table.{atom_spans, AtomsPut, Placed, Holds, Clean}
use Rattle.atom_table.specs.Terms.{coeffs_of, coeffs_in, coeff_terms, coeff_count, TermsPut, Copied, Finished}
use Rattle.record.proofs.BytesLaws.{bytes_body}
use Rattle.semilinear.proofs.AcceptLaws.{written}
use Rattle.semilinear.proofs.RetiredLaws.{length_retired, records_retired}
use Rattle.semilinear.proofs.FormLaws.{length_atoms}
use Rattle.atom_table.proofs.HoldsLaws.{padded_holds, at_holds}
use Rattle.atom_table.proofs.SpansLaws.{spans_read}
use Rattle.semilinear.proofs.OutcomeLaws.{gives_form}
use Rattle.atom_table.proofs.PassLaws.{length_sum, gives_same}
use Rattle.atom_table.proofs.TermsLaws.{terms_coeffs, count_coeffs, terms_put_room}
use Rattle.semilinear.proofs.ValidLaws.{semilinear_parts}

-- ---- the atoms of a form

module _ (s : List ℕ) (h : IsBytes s) (ok : is_semilinear s ≡ true) {f : List ℕ} (ef : f ≡ body s) {w : ℕ}
    (ew : w ≡ width s) {before after : List ℕ} (r : Table) (p : AtomsPut w f before after r) where
  abbrev rows : List Row
  rows = read_rows 0 (body s) (after_atoms (body s))

  abbrev atoms : List ℕ
  atoms = atoms_bytes (width s) rows

  length_is : length rows ≡ atom_count (body s)
  length_is = length_retired (rows_of 0 (body s) (after_atoms (body s))) ∙ (written s h ok).count

  sizes_are : tree_records rows ≡ atom_records (body s)
  sizes_are = records_retired (rows_of 0 (body s) (after_atoms (body s))) ∙ (written s h ok).records

  count_is : r.count ≡ length rows
  count_is = rw ef at p.found.number ∙ sym length_is

  records_is : r.records ≡ tree_records rows
  records_is = rw ef at p.found.trees ∙ sym sizes_are

  at_is : r.at ≡ length atoms
  at_is = omega (arith, p.found.place, count_is, records_is, length_atoms (width s) rows)

  -- they stand at the start of a slice that was all zeros
  pub copied : before ≡ padded 57360 [] → Copied (read_form s) r after
  unfolding decode_form fits_table
  copied z =
      let parts = (semilinear_parts s ok).1 in
      let spans : atom_spans w f ≡ atoms =
      ap₂ atom_spans ew ef
      ∙ spans_read (width s) (body s) (bytes_body s h) parts.atoms 0 (after_atoms (body s)) in
      let all : after ≡ padded 57360 atoms =
      p.written
      ∙ ap₂ (λ (d x : List ℕ). put d 0 x) z spans
      ∙ put_padded_at 57360 [] atoms 0 refl in
      let most : length rows ≤ 256 = omega (arith, length_is, parts.atoms_le) in
      let few : tree_records rows ≤ 3072 = omega (arith, sizes_are, parts.records_le) in
      let size : length atoms ≡ 16 * (length rows + tree_records rows) = length_atoms (width s) rows in
      let long : length after ≡ 57360 = ap length all ∙ length_padded 57360 atoms (omega (arith, size)) in
      let taken : take r.at after ≡ atoms =
      ap₂ (λ (n : ℕ) (d : List ℕ). take n d) at_is all ∙ take_padded 57360 atoms in
      record {
        holds =
            record {
              placed =
                  record {
                    place = p.found.place;
                    atoms_le = omega (arith, count_is, most);
                    records_le = omega (arith, records_is, few);
                    room = omega (arith, long);
                  };
              kept = λ _.
                  record {
                    bytes = taken;
                    count = count_is;
                    records = records_is;
                    fits = simp (le-leb (length rows) 256 most, le-leb (tree_records rows) 3072 few);
                  };
              past = λ b. false_true (sym p.more ∙ b);
            };
        clean = all ∙ ap₂ padded (sym long) (sym taken);
        more = p.more;
        long = long;
      }

-- ---- the end

module _ (w c step : ℕ) (words : List ℕ) (flag : Bool) (tab : Table) (out : List ℕ) where
  pub finished_full : tab.full ≡ true → {n : ℕ} → n ≡ 57360 → (r : Result Answer Refusal) {e : List ℕ} → GivesForm (refused 9) n r e
      → Finished w tab step words c flag out r e
  unfolding limit_outcome
  finished_full full en r {e} h =
      record {
        gives = λ l ends. gives_same (nine l (ends.past full)) 57360 (in_numbers r) e (rw en at h);
      }
    where
      nine : (l : List Row) → fits_table l ≡ false
          → limit_outcome (record { bitwidth = w; constant = c; rows = l }) flag ≡ refused 9
      nine l f = simp f

  module _ (more : tab.full ≡ false) (placed : Placed tab (length out)) (len : length out ≡ 57360) where
    -- room for the terms behind the atoms
    pub terms_fit : tab.at + 16 * tab.count ≤ length out
    terms_fit = omega (arith, placed.atoms_le, placed.records_le, placed.place, len)

    module _ {r : Written} {d : List ℕ} (t : TermsPut w tab.at (coeffs_in step words tab.count) out d r) where
      reach : (r.used ≤ tab.at + 16 * tab.count) × (r.terms ≤ tab.count)
      reach = terms_put_room w tab.at step words out tab.count d r t

      length_terms_put : length d ≡ length out
      length_terms_put =
          ap length t.written
          ∙ length_put out tab.at (coeff_terms w 0 (coeffs_in step words tab.count))
          (omega (arith, t.place, reach.0, terms_fit))

      -- room for the sum record behind the terms
      pub sum_fits : r.used + 16 ≤ length d
      sum_fits =
          omega (arith, reach.0, placed.atoms_le, placed.records_le, placed.place, length_terms_put, len)

      pub sum_end : r.used + 16 ≤ 57360
      sum_end = omega (arith, sum_fits, length_terms_put, len)

      abbrev answer : Answer
      answer = record { used = r.used + 16; terms = r.terms; flag = flag }

      abbrev numbers : InNumbers
      numbers = record { refusal = 0; used = r.used + 16; terms = r.terms; flag = flag }

      pub finished_form : {e : List ℕ} → e ≡ put d r.used (sum_bytes w c)
          → Finished w tab step words c flag out (Ok answer) e
      unfolding encode_form limit_outcome
      finished_form {e} p = record { gives = λ l ends. form l (ends.holds more) (ends.clean more) (ends.coeffs more) }
        where
          form : (l : List Row) → Holds w tab out l → Clean tab out → coeffs_in step words (length l) ≡ coeffs_of l
              → GivesForm (limit_outcome (record { bitwidth = w; constant = c; rows = l }) flag) 57360 (Ok answer) e
          form l holds clean coeffs =
              let k = holds.kept more in
              let own : Form = record { bitwidth = w; constant = c; rows = l } in
              let atoms : List ℕ = atoms_bytes w l in
              let terms : List ℕ = terms_bytes w 0 l in
              let z : List ℕ = sum_bytes w c in
              let same : coeffs_in step words tab.count ≡ coeffs_of l =
              ap (coeffs_in step words) k.count ∙ coeffs in
              let bytes : coeff_terms w 0 (coeffs_in step words tab.count) ≡ terms =
              ap (coeff_terms w 0) same ∙ terms_coeffs w 0 l in
              let count : r.terms ≡ term_count l = t.count ∙ ap coeff_count same ∙ count_coeffs l in
              let out-is : out ≡ padded 57360 atoms =
              padded_holds w tab out l holds clean more ∙ ap (λ (n : ℕ). padded n atoms) len in
              let at_is : tab.at ≡ length atoms = at_holds w tab out l holds more in
              let used-is : r.used ≡ length (atoms ++ terms) =
              omega (arith, t.place, ap length bytes, at_is, length-append atoms terms) in
              let used : r.used + 16 ≡ length ((atoms ++ terms) ++ z) =
              omega (arith, used-is, length-append (atoms ++ terms) z, length_sum w c) in
              let given : ◌≡◌ {A = InNumbers} numbers
              (record { refusal = 0; used = length ((atoms ++ terms) ++ z); terms = term_count l; flag = flag }) =
              ap₂ (λ (u n : ℕ). record { refusal = 0; used = u; terms = n; flag = flag }) used count in
              gives_same (simp k.fits) 57360 numbers e
              (gives_form own flag 57360 numbers e given
              (p
              ∙ ap (λ (b : List ℕ). put b r.used z)
              (t.written
              ∙ ap₂ (λ (b x : List ℕ). put b tab.at x) out-is bytes
              ∙ put_padded_at 57360 atoms terms tab.at at_is)
              ∙ put_padded_at 57360 (atoms ++ terms) z r.used used-is))
