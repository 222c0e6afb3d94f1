-- Byte 1 of the heads of a sheet (specs/Heads.antt, ticket #107): every sheet that is made has new heads; 0 to 4 are
-- accepted whatever the tree, and no other; and sheets that differ there alone have the same value, the same columns
-- and the same answers of every pass.
use mathlib.Core.Path.{◌≡◌, refl, ap, sym, subst, ◌∙◌}
use Prim.Native.Nat.{ℕ}
use native.Mathlib.Omega.{arith}
use mathlib.Core.List.{List, [], ◌∷◌}
use mathlib.Core.Bool.{true}
use lib.Dec.{leb}
use borrow.Author.Tests.{le-leb, leb-true}
use Rattle.record.specs.Fields.{width}
use Rattle.record.specs.Span.{body}
use Rattle.record.specs.Tree.{IsBytes}
use Rattle.base.specs.Outcome.{Outcome, accepted, refusal_of}
use Rattle.base.proofs.BoolLaws.{and_true}
use Rattle.semilinear.specs.Form.{Row, Form, form_value, encode_form, rows_ok, valid_form}
use Rattle.semilinear.specs.Items.{provenance}
use Rattle.semilinear.specs.Valid.{atoms_ok, known_heads, new_heads, is_semilinear}
use Rattle.semilinear.specs.DecodeForm.{retired_row, retired_rows, retired, read_form}
use Rattle.semilinear.specs.Outcome.{form_outcome}
use Rattle.semilinear.specs.PassOutcome.{read_outcome, pass_outcome}
use Rattle.semilinear.proofs.AcceptLaws.{semilinears}
use Rattle.semilinear.proofs.EncodeFormLaws.{form_accept}
use Rattle.semilinear.proofs.FormLaws.{good_row, rows_cons, form_parts, parts_form, form_not_refused}
use Rattle.semilinear.proofs.ItemsLaws.{fold_atom, fold_done, atoms_ind}
use Rattle.semilinear.proofs.RetiredLaws.{length_retired, records_retired, heads_form, value_retired, valid_retired}
use Rattle.semilinear.proofs.RetiredLaws.{read_encode}
use Rattle.semilinear.proofs.ValidLaws.{atom_parts, first_atom_ok, later_atoms_ok, semilinear_parts}
use Rattle.semilinear_value.specs.Value.{semilinear_value}
use Rattle.semilinear_value.proofs.ValueLaws.{encoded_value}
use Rattle.normalizer_laws.specs.Normalize.{normalize_to_semilinear}
use Rattle.normalizer_laws.proofs.NormalizeLaws.{normalize_form}
use Rattle.atom_table.proofs.MadeLaws.{Made, made, not_made}
use Rattle.atom_table.proofs.ReadLaws.{Read, read_given, read_refused, read_cases}
use Rattle.compaction.specs.Compact.{compact_atom_table}
use Rattle.refiner_laws.specs.RefineTerms.{refine_terms}
use Rattle.structure_laws.specs.RecoverStructure.{recover_structure}
use Rattle.structure_laws.specs.CoalesceTerms.{coalesce_terms}
use Rattle.structure_laws.specs.FlattenComplexAtoms.{flatten_complex_atoms}
use Rattle.partition_laws.specs.Partition.{partitions_outcome, compute_partitions}
use Rattle.claims.specs.Calls.{Pass, Call, refine_terms_pass, recover_structure_pass, coalesce_terms_pass}
use Rattle.claims.specs.Calls.{flatten_complex_atoms_pass, compact_atom_table_pass, pass_gives, use_of, in_use}
use Rattle.claims.specs.Heads.{SameButHeads, known_rows}
use Rattle.claims.proofs.CallsLaws.{pass_keeps, list_keeps}

-- ---- new heads

module _ (s : List ℕ) (h : IsBytes s) (len : ℕ) (bytes numbers : List ℕ) where
  -- of normalising
  pub normalize_heads : normalize_to_semilinear s len ≡ accepted bytes numbers → new_heads (body bytes) ≡ true
  normalize_heads e =
      let n = normalize_form s h len bytes numbers e in
      ap (λ (t : List ℕ). new_heads (body t)) n.encoded ∙ heads_form n.form n.valid n.new

  -- of normalising and any list of calls after it
  pub calls_heads : normalize_to_semilinear s len ≡ accepted bytes numbers → (calls : List Call)
      → new_heads (body (in_use calls bytes)) ≡ true
  calls_heads e calls =
      let n = normalize_form s h len bytes numbers e in
      let r = list_keeps calls n.form n.valid in
      ap (λ (t : List ℕ). new_heads (body (in_use calls t))) n.encoded
      ∙ ap (λ (t : List ℕ). new_heads (body t)) r.encoded
      ∙ heads_form r.form r.kept.valid (r.new n.new)

  -- what a pass accepts is a form
  accepted_form : (pass : Form → Outcome) → pass_outcome pass s len ≡ accepted bytes numbers → is_semilinear s ≡ true
  unfolding pass_outcome refusal_of
  accepted_form pass e = go (read_cases pass 57360 s len)
    where
      go : Read pass 57360 s len → is_semilinear s ≡ true
      go (read_given o p q) = o.form
      go (read_refused n ne p q) = absurd (ne (ap refusal_of (sym p ∙ e)))

  pass_form : (p : Pass) → pass_gives p s len ≡ accepted bytes numbers → is_semilinear s ≡ true
  unfolding pass_gives refine_terms recover_structure coalesce_terms flatten_complex_atoms compact_atom_table
  pass_form refine_terms_pass e = accepted_form _ e
  pass_form recover_structure_pass e = accepted_form _ e
  pass_form coalesce_terms_pass e = accepted_form _ e
  pass_form flatten_complex_atoms_pass e = accepted_form _ e
  pass_form compact_atom_table_pass e = accepted_form _ e

  -- of every pass, whatever the heads before
  pub pass_heads : (p : Pass) → pass_gives p s len ≡ accepted bytes numbers → new_heads (body bytes) ≡ true
  unfolding use_of form_outcome refusal_of
  pass_heads p e =
      let f = (semilinears s h).0 (pass_form p e) in
      go (subst (λ (t : List ℕ). Made f.0 (pass_gives p t len)) f.2 (pass_keeps f.0 f.1 len p))
    where
      go : {f : Form} → Made f (pass_gives p s len) → new_heads (body bytes) ≡ true
      go (made g flag k new q) =
          let same : bytes ≡ encode_form g = ap (use_of []) (sym e ∙ q) in
          ap (λ (t : List ℕ). new_heads (body t)) same ∙ heads_form g k.valid new
      go (not_made n pos q) =
          let z : ◌≡◌ {A = ℕ} 0 n = ap refusal_of (sym e ∙ q) in
          absurd (omega (arith, z))

-- ---- 0 to 4

-- every head of an accepted sheet has one of them
known_heads_lem : (w : ℕ) (r : List ℕ) → atoms_ok w r ≡ true → known_heads r ≡ true
known_heads_lem w =
    atoms_ind (λ r. atoms_ok w r ≡ true → known_heads r ≡ true) (λ r e ok. fold_done _ _ r e)
    (λ r e below ok.
    let p = atom_parts w r (first_atom_ok w r ok e) in
    fold_atom _ _ r e ∙ simp (le-leb (provenance r) 4 p.known, below (later_atoms_ok w r ok e)))

pub accepted_heads : (s : List ℕ) → is_semilinear s ≡ true → known_heads (body s) ≡ true
accepted_heads s ok = known_heads_lem (width s) (body s) (semilinear_parts s ok).1.atoms

-- and each of them is accepted, whatever the tree
known_rows_lem : (w : ℕ) (l : List Row) → known_rows l ≡ true → rows_ok w (retired_rows l) ≡ true → rows_ok w l ≡ true
unfolding known_rows retired_rows rows_ok
known_rows_lem w [] h ok = refl
known_rows_lem w (x ∷ l) h ok =
    let p = and_true (leb x.provenance 4) (known_rows l) h in
    let q = rows_cons w (retired_row x) (retired_rows l) ok in
    let good =
    good_row w x (record { known = leb-true x.provenance 4 p.0; atom = q.0.atom; fits = q.0.fits }) in
    simp (good, known_rows_lem w l p.1 q.1)

pub heads_accepted : (f g : Form) → valid_form f ≡ true → SameButHeads f g → known_rows g.rows ≡ true
    → valid_form g ≡ true
heads_accepted f g ok same known =
    let v = form_parts (retired g) (subst (λ (k : Form). valid_form k ≡ true) same (valid_retired f ok)) in
    parts_form g
    record {
      width_pos = v.width_pos;
      width_le = v.width_le;
      fits = v.fits;
      atoms_le = rw (length_retired g.rows) at v.atoms_le;
      records_le = rw (records_retired g.rows) at v.records_le;
      rows_ok_lem = known_rows_lem g.bitwidth g.rows known v.rows_ok_lem;
    }

-- ---- sheets that differ in their heads alone

module _ (f g : Form) (okf : valid_form f ≡ true) (okg : valid_form g ≡ true) (same : SameButHeads f g) where
  pub same_value : (vars : List ℕ) → semilinear_value (encode_form f) vars ≡ semilinear_value (encode_form g) vars
  same_value vars =
      encoded_value f okf vars
      ∙ sym (value_retired vars f)
      ∙ ap (form_value vars) same
      ∙ value_retired vars g
      ∙ sym (encoded_value g okg vars)

  same_read : read_form (encode_form f) ≡ read_form (encode_form g)
  same_read = read_encode f okf ∙ same ∙ sym (read_encode g okg)

  same_outcome_lem : (whole : ℕ) (given : Form → Outcome) (len : ℕ)
      → read_outcome whole given (encode_form f) len ≡ read_outcome whole given (encode_form g) len
  same_outcome_lem whole given len =
      simp (
        form_not_refused f okf,
        form_not_refused g okg,
        form_accept f okf,
        form_accept g okg,
        same_read,
      )

  same_made : (pass : Form → Outcome) (len : ℕ) → pass_outcome pass (encode_form f) len ≡ pass_outcome pass (encode_form g) len
  unfolding pass_outcome
  same_made = same_outcome_lem 57360

  pub same_pass : (p : Pass) (len : ℕ) → pass_gives p (encode_form f) len ≡ pass_gives p (encode_form g) len
  unfolding pass_gives refine_terms recover_structure coalesce_terms flatten_complex_atoms compact_atom_table
  same_pass refine_terms_pass = same_made _
  same_pass recover_structure_pass = same_made _
  same_pass coalesce_terms_pass = same_made _
  same_pass flatten_complex_atoms_pass = same_made _
  same_pass compact_atom_table_pass = same_made _

  pub same_columns : (len : ℕ) → compute_partitions (encode_form f) len ≡ compute_partitions (encode_form g) len
  unfolding compute_partitions
  same_columns = same_outcome_lem 16448 partitions_outcome
