-- The form of a side (specs/Forms.antt): what normalising an expression leaves in its slice, from the answer and the
-- bytes written; and a form is its own.
use mathlib.Core.Path.{◌≡◌, refl, ap, sym, ◌∙◌}
use Prim.Native.Nat.{ℕ, ◌≤◌}
use native.Mathlib.Omega.{arith}
use mathlib.Core.List.{List}
use mathlib.Core.Bool.{true, false}
use lib.ListN.{length, get_or, take, length-take}
use Rattle.base.specs.Outcome.{Outcome, refusal_of, numbers_of, written_of}
use Rattle.base.proofs.PutLaws.{take_padded}
use Rattle.record.specs.Fields.{width}
use Rattle.record.specs.Tree.{IsBytes}
use Rattle.record.specs.Decode.{decode}
use Rattle.expr_refusal.specs.Refusal.{is_expr, tree_refusal, expr_refusal}
use Rattle.expr_refusal.proofs.RefusalLaws.{accepted_root}
use Rattle.expr.proofs.AcceptLaws.{accept_expr}
use Rattle.expr.proofs.ExprValueLaws.{accepted_tree, expr_value_accepted}
use Rattle.semilinear.specs.Form.{Form, encode_form, fits_table}
use Rattle.semilinear.specs.Outcome.{form_outcome}
use Rattle.semilinear.specs.Answers.{InNumbers, GivesNumbers}
use Rattle.semilinear.specs.Valid.{semilinear_refusal}
use Rattle.semilinear.specs.DecodeForm.{decode_form}
use Rattle.semilinear.proofs.AcceptLaws.{accepted_semilinear, form_encode, form_valid}
use Rattle.normalizer_laws.specs.Collect.{Emitted, linear, collect_terms}
use Rattle.normalizer_laws.specs.Normalize.{collected_form, normalize_tree, normalize_to_semilinear}
use Rattle.normalizer_laws.proofs.NormalizeLaws.{collected_value, collected_valid, normalize_file}
use Rattle.normalizer_laws.proofs.NormalizeLaws.{TreeCase, not_linear, too_large, written, tree_case}
use Rattle.normalizer_laws.proofs.NormalizeLaws.{FileCase, wrong_length, wrong_slice, no_expression, expression}
use Rattle.normalizer_laws.proofs.NormalizeLaws.{file_case}
use Rattle.judge_laws.specs.Judge.{expr_side, form_side}
use Rattle.judge_laws.proofs.SoundLaws.{form_is, atoms_unshifted}
use Rattle.judge_laws.proofs.UnshiftedLaws.{collected_unshifted}
use Rattle.judge.specs.Forms.{FormFor}

-- ---- an expression

module _ (s : List ℕ) (len : ℕ) (long : len ≡ 57360) (r : InNumbers) (out : List ℕ)
    (given : GivesNumbers (normalize_to_semilinear s len) len r out) where
  -- the refusal is that of the side
  pub side_number : r.refusal ≡ (expr_side s).refusal
  side_number = given.number ∙ ap (λ (n : ℕ). refusal_of (normalize_to_semilinear s n)) long

  -- an accepted one has a form, in the part of the slice that is used
  module _ (h : IsBytes s) (zero : r.refusal ≡ 0) where
    refusal_of_lem : {o : Outcome} → normalize_to_semilinear s len ≡ o → refusal_of o ≡ 0
    refusal_of_lem e = sym (ap refusal_of e) ∙ sym given.number ∙ zero

    by_form : (c : ℕ) (l : List Emitted) → expr_refusal s ≡ 0 → collect_terms (width s) 1 (decode s) ≡ linear c l
        → fits_table (collected_form (width s) c l).rows ≡ true
        → normalize_to_semilinear s len ≡ form_outcome (collected_form (width s) c l) false
        → FormFor (expr_side s) (take r.used out) × (r.used ≤ length out)
    unfolding form_outcome numbers_of written_of collected_form
    by_form c l z e fits f =
        let w : ℕ = width s in
        let form : Form = collected_form w c l in
        let b : List ℕ = encode_form form in
        let tree : tree_refusal w s ≡ 0 = accepted_tree s z in
        let root = accepted_root w s tree in
        let expr : is_expr (decode s) ≡ true = accept_expr w s h tree in
        let used : r.used ≡ length b =
        ap (λ (l : List ℕ). get_or l 0 0) (given.beside ∙ ap (λ (o : Outcome). take 3 (numbers_of 3 o)) f) in
        let bytes : take r.used out ≡ b =
        ap (λ (k : ℕ). take k out) used
        ∙ ap (take (length b)) (given.written ∙ ap (written_of len) f)
        ∙ take_padded len b in (
          record {
            taken = sym side_number ∙ zero;
            form = form;
            encoded = bytes;
            valid = collected_valid w root.width_pos root.width_le (decode s) expr c l e fits;
            wide = refl;
            kept =
                λ vars.
                collected_value w root.width_pos root.width_le (decode s) expr c l e vars
                ∙ sym (expr_value_accepted s vars z refl);
            unshifted = λ n. collected_unshifted w (decode s) c l n e;
          },
          omega (arith, length-take r.used out, ap length bytes, used),
        )

    pub form_for : FormFor (expr_side s) (take r.used out) × (r.used ≤ length out)
    unfolding refusal_of
    form_for = go (file_case s len (decode s) (normalize_file s len))
      where
        by_tree : expr_refusal s ≡ 0 → normalize_to_semilinear s len ≡ normalize_tree (width s) (decode s)
            → TreeCase (width s) (decode s) → FormFor (expr_side s) (take r.used out) × (r.used ≤ length out)
        by_tree z f (not_linear e q) = absurd (omega (arith, refusal_of_lem (f ∙ q)))
        by_tree z f (too_large c l e fits q) = absurd (omega (arith, refusal_of_lem (f ∙ q)))
        by_tree z f (written c l e fits q) = by_form c l z e fits (f ∙ q)

        go : FileCase (normalize_to_semilinear s len) s len (decode s)
            → FormFor (expr_side s) (take r.used out) × (r.used ≤ length out)
        go (wrong_length e f) = absurd (omega (arith, refusal_of_lem f))
        go (wrong_slice e n f) = absurd (n long)
        go (no_expression e z n f) = absurd (z (refusal_of_lem f))
        go (expression z n f) = by_tree z f (tree_case (width s) (decode s))

-- ---- a form

pub own_form : (s : List ℕ) → IsBytes s → semilinear_refusal s ≡ 0 → FormFor (form_side s) s
unfolding decode_form
own_form s h z =
    let ok = accepted_semilinear s z in
    record {
      taken = z;
      form = decode_form s;
      encoded = sym (form_encode s h ok);
      valid = form_valid s h ok;
      wide = refl;
      kept = λ vars. sym (form_is s h z vars);
      unshifted = atoms_unshifted (decode_form s).rows;
    }
