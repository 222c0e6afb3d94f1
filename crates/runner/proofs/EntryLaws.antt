-- Running a list from an expression (`run_passes`): a law for each way out.
use mathlib.Core.Path.{◌≡◌, refl, ap, sym, ◌∙◌}
use Prim.Native.Nat.{ℕ}
use native.Mathlib.Omega.{arith}
use mathlib.Core.List.{List}
use mathlib.Core.Bool.{Bool, true, false}
use lib.ListN.{get_or, take}
use borrow.Author.Tests.{ne_eqb}
use Rattle.base.specs.Choice.{when}
use Rattle.base.specs.Put.{padded}
use Rattle.record.specs.Tree.{IsBytes}
use Rattle.record.specs.Decode.{decode}
use Rattle.base.specs.Outcome.{Outcome, accepted, refused, refusal_of, numbers_of, written_of}
use Rattle.semilinear.specs.Answers.{InNumbers, GivesNumbers}
use Rattle.atom_table.proofs.PassLaws.{gives_same}
use Rattle.normalizer_laws.specs.Normalize.{normalize_to_semilinear}
use Rattle.normalizer_laws.proofs.NormalizeLaws.{FileCase, wrong_length, wrong_slice, no_expression, expression}
use Rattle.normalizer_laws.proofs.NormalizeLaws.{normalize_file, file_case, normalize_form, normalize_refused}
use Rattle.claims.specs.Calls.{in_use}
use Rattle.runner.specs.RunPasses.{calls_of, is_list, bytes_outcome, list_outcome, run_outcome, run_passes}
use Rattle.runner.specs.Placed.{Lies}
use Rattle.runner.proofs.TurnLaws.{take_lies}

-- the test of the list, where the slice has kept its length
pub list_is : (words : List ℕ) (spare : ℕ) {len n : ℕ} {r b : Bool} → n ≡ len → r ≡ is_list n spare words → r ≡ b
    → is_list len spare words ≡ b
list_is words spare e h k = ap (λ (m : ℕ). is_list m spare words) (sym e) ∙ sym h ∙ k

module _ (s words : List ℕ) (len spare : ℕ) (r : InNumbers) (out : List ℕ)
    (g : GivesNumbers (normalize_to_semilinear s len) len r out) where
  abbrev o : Outcome
  o = normalize_to_semilinear s len

  pub run_one : r.refusal ≡ 1 → GivesNumbers (run_passes s words len spare) len r out
  unfolding run_passes run_outcome
  run_one e = rw (sym g.number ∙ e) g

  pub run_two : r.refusal ≡ 2 → GivesNumbers (run_passes s words len spare) len r out
  unfolding run_passes run_outcome
  run_two e = rw (sym g.number ∙ e) g

  module _ (n1 : r.refusal ≡ 1 → ⊥) (n2 : r.refusal ≡ 2 → ⊥) where
    past : run_passes s words len spare
        ≡ when (is_list len spare words) (λ _. list_outcome (calls_of words) o) (λ _. refused 32)
    unfolding run_passes run_outcome
    past =
        rw (
          ne_eqb (refusal_of o) 1 (λ e. n1 (g.number ∙ e)),
          ne_eqb (refusal_of o) 2 (λ e. n2 (g.number ∙ e)),
        )

    pub run_bad : is_list len spare words ≡ false → (n : ℕ) → n ≡ len → (a : InNumbers) (l : List ℕ)
        → GivesNumbers (refused 32) n a l → GivesNumbers (run_passes s words len spare) len a l
    run_bad e n k a l h = rw (past, e) (rw k at h)

    module _ (ok : is_list len spare words ≡ true) where
      listed : run_passes s words len spare ≡ list_outcome (calls_of words) o
      listed = rw (past, ok)

      pub run_refused : (r.refusal ≡ 0 → ⊥) → GivesNumbers (run_passes s words len spare) len r out
      unfolding list_outcome refusal_of
      run_refused nz = go o refl
        where
          go : (x : Outcome) → o ≡ x → GivesNumbers (run_passes s words len spare) len r out
          go (accepted b ns) e = absurd (nz (g.number ∙ ap refusal_of e))
          go (refused n) e = gives_same (listed ∙ ap (list_outcome (calls_of words)) e ∙ sym e) len r out g

      module _ (h : IsBytes s) (z : r.refusal ≡ 0) where
        whole : len ≡ 57360
        unfolding refusal_of
        whole = go (file_case s len (decode s) (normalize_file s len))
          where
            zero : {n : ℕ} → o ≡ refused n → n ≡ 0
            zero e = sym (ap refusal_of e) ∙ sym g.number ∙ z

            go : FileCase o s len (decode s) → len ≡ 57360
            go (wrong_length e f) = let k = zero f in absurd (omega (arith, k))
            go (wrong_slice e n f) = let k = zero f in absurd (omega (arith, k))
            go (no_expression e n k f) = k
            go (expression e n f) = n

        -- the outcome is a form's, which lies in the slice
        record Started : Type 0 where
          first : List ℕ
          numbers : List ℕ
          given : o ≡ accepted first numbers
          lies : Lies first r.used r.terms out

        from_form : (b ns : List ℕ) → o ≡ accepted b ns → Started
        unfolding numbers_of written_of
        from_form b ns e =
            let n = normalize_form s h len b ns e in
            let all = g.beside ∙ ap (λ (x : Outcome). take 3 (numbers_of 3 x)) e ∙ ap (take 3) n.counted in
            record {
              first = b;
              numbers = ns;
              given = e;
              lies =
                  record {
                    form = n.form;
                    encoded = n.encoded;
                    valid = n.valid;
                    count = ap (λ (l : List ℕ). get_or l 0 0) all;
                    terms_count = ap (λ (l : List ℕ). get_or l 1 0) all;
                    written = g.written ∙ ap (written_of len) e ∙ ap (λ (k : ℕ). padded k b) whole;
                  };
            }

        started : Started
        unfolding refusal_of
        started = go o refl
          where
            go : (x : Outcome) → o ≡ x → Started
            go (accepted b ns) e = from_form b ns e
            go (refused n) e =
                let number : r.refusal ≡ n = g.number ∙ ap refusal_of e in
                absurd (omega (arith, number, normalize_refused s len n e, z))

        pub run_start : Lies (take r.used out) r.used r.terms out
        run_start = rw (take_lies started.lies) started.lies

        pub run_end : (a : InNumbers) (l : List ℕ)
            → GivesNumbers (bytes_outcome (in_use (calls_of words) (take r.used out))) 57360 a l
            → GivesNumbers (run_passes s words len spare) len a l
        unfolding list_outcome
        run_end a l v =
            let e : run_passes s words len spare ≡ bytes_outcome (in_use (calls_of words) (take r.used out)) =
            listed
            ∙ ap (list_outcome (calls_of words)) started.given
            ∙ ap (λ (b : List ℕ). bytes_outcome (in_use (calls_of words) b)) (sym (take_lies started.lies)) in
            gives_same e len a l (rw whole v)
