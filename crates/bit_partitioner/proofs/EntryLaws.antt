-- Laws of the entry point: the atoms of a form are as the loop over places wants them, what the loop gives are the
-- form's classes, and what the call hands over is `compute_partitions`.
use mathlib.Core.Path.{◌≡◌, refl, ap, ap₂, sym, ◌∙◌}
use Prim.Native.Nat.{ℕ, ◌≤◌}
use native.Mathlib.Omega.{arith}
use mathlib.Core.List.{List, [], ◌∷◌}
use mathlib.Core.Bool.{true}
use lib.ListN.{length, get_or, take, replicate}
use Rattle.std.specs.Prelude.{Result, Err}
use Rattle.base.specs.declared.refusal.Refusal.{Refusal}
use Rattle.base.specs.Refusal.{refusal_number, number_of, value_of}
use Rattle.base.proofs.RefusalLaws.{number_not}
use Rattle.base.specs.Put.{padded}
use Rattle.record.specs.Tree.{IsBytes}
use Rattle.record.specs.Fields.{width}
use Rattle.record.specs.Span.{body}
use Rattle.record.proofs.BytesLaws.{bytes_body}
use Rattle.base.proofs.PutLaws.{padded_nil, length_padded}
use Rattle.semilinear.specs.Items.{atom_count, after_atoms}
use Rattle.semilinear.specs.Valid.{is_semilinear}
use Rattle.semilinear.specs.DecodeForm.{decode_form}
use Rattle.base.specs.Outcome.{Outcome, refusal_of, numbers_of, written_of, Gives}
use Rattle.semilinear.specs.PassOutcome.{open_outcome}
use Rattle.semilinear.proofs.ValidLaws.{semilinear_parts}
use Rattle.semilinear.proofs.AcceptLaws.{form_valid}
use Rattle.atom_table.proofs.ReadLaws.{Opened, Read, read_given, read_refused, read_cases, opened, shut, open_zeros}
use Rattle.partition_laws.specs.Partition.{PartitionClass, classes_f, classes_of, class_words}
use Rattle.partition_laws.specs.Partition.{partitions_outcome, compute_partitions}
use Rattle.partition_laws.specs.Columns.{Columns}
use Rattle.profile.specs.Index.{AtomsValid}
use Rattle.bit_partitioner.specs.Places.{form_rows, AllPlaced, FormPlaced}
use Rattle.partition_laws.proofs.ClassesLaws.{classes_none, classes_some}
use Rattle.partition_laws.proofs.ColumnsLaws.{columns}
use Rattle.partition_laws.proofs.RetiredLaws.{partitions_retired}
use Rattle.profile.proofs.IndexLaws.{trees_count}
use Rattle.profile.proofs.MoveLaws.{rows_length}

-- ---- a form

module _ (s : List ℕ) where
  rows_count : length (decode_form s).rows ≡ atom_count (body s)
  unfolding decode_form
  rows_count = rows_length (body s) (after_atoms (body s)) ∙ trees_count (body s)

  module _ (ok : is_semilinear s ≡ true) where
    pub form_big : 16 ≤ length s
    form_big = (semilinear_parts s ok).0.big

    pub form_width : width s ≤ 64
    form_width = (semilinear_parts s ok).0.width_le

    pub form_count : atom_count (body s) ≤ 256
    form_count = (semilinear_parts s ok).1.atoms_le

    pub form_atoms : IsBytes s → {f : List ℕ} → f ≡ body s → AtomsValid f
    form_atoms h e = rw e record { bytes = bytes_body s h; width = width s; ok = (semilinear_parts s ok).1.atoms }

  -- the result slice, before
  pub slice_long : {out : List ℕ} → out ≡ padded 16448 [] → length out ≡ 16448
  slice_long e = ap length e ∙ length_padded 16448 [] (omega arith)

  pub slice_zeros : {out : List ℕ} → out ≡ padded 16448 [] → out ≡ padded (length out) []
  slice_zeros e = e ∙ ap (λ (k : ℕ). padded k []) (sym (slice_long e))

  -- without atoms there is no class
  pub form_none : {n : ℕ} → n ≡ atom_count (body s) → n ≡ 0 → {out : List ℕ}
      → out ≡ padded 16448 [] → FormPlaced s out 0
  unfolding class_words
  form_none e z ho =
      let none : classes_of (decode_form s) ≡ [] = classes_none (decode_form s) (rows_count ∙ sym e ∙ z) in
      record {
        number = sym (ap length none);
        words = ho ∙ ap (λ (l : List PartitionClass). padded 16448 (class_words l)) (sym none);
      }

  -- with atoms they are those of the loop
  pub form_some : {n : ℕ} → n ≡ atom_count (body s) → (n ≡ 0 → ⊥) → {before out : List ℕ} {r w : ℕ}
      → length before ≡ 16448 → w ≡ width s → {f : List ℕ} → f ≡ body s → AllPlaced f w before out r
      → FormPlaced s out r
  unfolding decode_form
  form_some e d {before} {out} {r} {w} long hw {f} ef placed =
      let some = classes_some (decode_form s) (omega (arith, rows_count)) in
      let a : AllPlaced (body s) w before out r = rw ef at placed in
      record {
        number = a.number ∙ ap (λ (k : ℕ). length (classes_f k k (form_rows (body s)))) hw ∙ ap length (sym some);
        words =
            a.words
            ∙ ap₂ (λ (k m : ℕ). padded k (class_words (classes_f m m (form_rows (body s))))) long hw
            ∙ ap (λ (l : List PartitionClass). padded 16448 (class_words l)) (sym some);
      }

-- ---- the call

-- refused at the front door
pub call_shut : (s : List ℕ) (len : ℕ) {e : Refusal} {out : List ℕ}
    → Gives (open_outcome 16448 s len) len (refusal_number e) [] out → {r : Result ℕ Refusal} → r ≡ Err e
    → Gives (compute_partitions s len) len (number_of r) (value_of r ∷ []) out
unfolding compute_partitions refusal_of numbers_of written_of
call_shut s len {e} {out} door is =
    rw (is, shut partitions_outcome 16448 s len (refusal_number e) door.number (number_not e))
    record { number = refl; beside = refl; written = open_zeros 16448 s len (refusal_number e) out door }

module _ (s : List ℕ) (len : ℕ) {out : List ℕ} (door : Gives (open_outcome 16448 s len) len 0 [] out) where
  pub call_open : Opened 16448 s len
  call_open = (opened partitions_outcome 16448 s len 0 door.number refl).0

  pub call_zeros : out ≡ padded 16448 []
  call_zeros =
      open_zeros 16448 s len 0 out door
      ∙ ap (λ (k : ℕ). replicate k 0) call_open.sliced
      ∙ padded_nil 16448

  -- let in: the classes of the form
  pub call_given : {after : List ℕ} {r : ℕ} → FormPlaced s after r
      → Gives (compute_partitions s len) len 0 (r ∷ []) after
  unfolding compute_partitions partitions_outcome refusal_of numbers_of written_of
  call_given {after} {r} h =
      rw (
        (opened partitions_outcome 16448 s len 0 door.number refl).1 ∙ partitions_retired (decode_form s),
        call_open.sliced,
      )
      record { number = refl; beside = ap (λ (k : ℕ). k ∷ []) h.number; written = h.words }

-- ---- what the words say

-- a call without a refusal: the words that it wrote are the columns of the form, as many as it returned
pub columns_of_call : (s : List ℕ) (len : ℕ) → IsBytes s → {count : ℕ} {out : List ℕ}
    → Gives (compute_partitions s len) len 0 (count ∷ []) out → Columns (decode_form s) out count
unfolding compute_partitions partitions_outcome refusal_of numbers_of written_of
columns_of_call s len h {count} {out} g = go (read_cases partitions_outcome 16448 s len)
  where
    go : Read partitions_outcome 16448 s len → Columns (decode_form s) out count
    go (read_given o e q) =
        let p = e ∙ partitions_retired (decode_form s) in
        let number : count ≡ length (classes_of (decode_form s)) =
        ap (λ (l : List ℕ). get_or l 0 0) (g.beside ∙ ap (λ (x : Outcome). take 1 (numbers_of 1 x)) p) in
        rw (number, g.written ∙ ap (written_of len) p) (columns (decode_form s) (form_valid s h o.form) len)
    go (read_refused n ne p q) = absurd (ne (sym (g.number ∙ ap refusal_of p)))
