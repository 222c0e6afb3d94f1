-- What the contract of `hogzelt_run_passes` says of a run that is accepted is what is claimed of any list of calls.
use mathlib.Core.Path.{◌≡◌, refl, ap, sym, ◌∙◌}
use Prim.Native.Nat.{ℕ, ◌<◌}
use native.Mathlib.Omega.{arith}
use mathlib.Core.List.{List, [], ◌∷◌}
use mathlib.Core.Bool.{Bool, true, false}
use lib.ListN.{length, get_or, take}
use lib.Dec.{eqb}
use Rattle.base.specs.Choice.{when}
use Rattle.record.specs.Tree.{IsBytes}
use Rattle.base.specs.Put.{padded}
use Rattle.base.proofs.PutLaws.{take_padded}
use Rattle.base.specs.Outcome.{Outcome, accepted, refused, refusal_of, numbers_of, written_of, Gives}
use Rattle.normalizer_laws.specs.Normalize.{normalize_to_semilinear}
use Rattle.normalizer_laws.proofs.NormalizeLaws.{normalize_refused}
use Rattle.rules_laws.proofs.RulesLaws.{rules_one}
use Rattle.claims.specs.Calls.{in_use}
use Rattle.runner.specs.RunPasses.{calls_of, is_list, bytes_outcome, list_outcome, run_outcome, run_passes}
use Rattle.hogzelt.proofs.Trace.{Ran, Claimed}
use Rattle.hogzelt.proofs.TraceLaws.{definition_claimed}

module _ {s words : List ℕ} {len used : ℕ} {sheet : List ℕ} (k : Ran s words len 0 used sheet) where
  abbrev spare : ℕ
  spare = length k.args.1.1.1.0.now

  given : Gives (run_passes s words len spare) len 0 (used ∷ k.exit.1.1.1.1.1.0.now ∷ []) sheet
  given = rw (sym k.reads, sym k.calls, sym k.sized, sym k.uses, sym k.writes) k.learnt.0

  not_refused : {A : Type 0} (n : ℕ) → 0 < n → run_passes s words len spare ≡ refused n → A
  unfolding refusal_of
  not_refused n pos e = let z : 0 ≡ n = given.number ∙ ap refusal_of e in absurd (omega (arith, z, pos))

  -- the bytes of the list's outcome
  record Listed (b : List ℕ) : Type 0 where
    filled : sheet ≡ padded len (in_use (calls_of words) b)
    count : used ≡ length (in_use (calls_of words) b)

  accepted_run : (b ns : List ℕ) → normalize_to_semilinear s len ≡ accepted b ns → (ok : Bool)
      → is_list len spare words ≡ ok → Listed b
  unfolding run_passes run_outcome list_outcome bytes_outcome refusal_of numbers_of written_of
  accepted_run b ns e true ok =
      let o : run_passes s words len spare ≡ bytes_outcome (in_use (calls_of words) b) = rw (e, ok) in
      record {
        filled = given.written ∙ ap (written_of len) o;
        count = ap (λ (l : List ℕ). get_or l 0 0) (given.beside ∙ ap (λ (x : Outcome). take 2 (numbers_of 2 x)) o);
      }
  accepted_run b ns e false ok =
      let o : run_passes s words len spare ≡ refused 32 = rw (e, ok) in not_refused 32 (omega arith) o

  refused_run : {A : Type 0} (n : ℕ) → normalize_to_semilinear s len ≡ refused n → (b c d : Bool) → eqb n 1 ≡ b
      → eqb n 2 ≡ c → is_list len spare words ≡ d → A
  unfolding run_passes run_outcome list_outcome refusal_of
  refused_run n e true c d p q ok =
      let o : run_passes s words len spare ≡ refused n = rw (e, p) in not_refused n (normalize_refused s len n e) o
  refused_run n e false true d p q ok =
      let o : run_passes s words len spare ≡ refused n = rw (e, p, q) in not_refused n (normalize_refused s len n e) o
  refused_run n e false false true p q ok =
      let o : run_passes s words len spare ≡ refused n = rw (e, p, q, ok) in
      not_refused n (normalize_refused s len n e) o
  refused_run n e false false false p q ok =
      let o : run_passes s words len spare ≡ refused 32 = rw (e, p, q, ok) in not_refused 32 (omega arith) o

  pub run_claimed : IsBytes s → Claimed 1 s len (calls_of words) (take used sheet)
  run_claimed h = go (normalize_to_semilinear s len) refl
    where
      go : (o : Outcome) → normalize_to_semilinear s len ≡ o → Claimed 1 s len (calls_of words) (take used sheet)
      go (accepted b ns) e =
          let a = accepted_run b ns e (is_list len spare words) refl in
          let t : List ℕ = in_use (calls_of words) b in
          definition_claimed 1 s h len b ns (rules_one s len ∙ e) (calls_of words) (take used sheet)
          (ap (λ (n : ℕ). take n sheet) a.count ∙ ap (take (length t)) a.filled ∙ take_padded len t)
      go (refused n) e = refused_run n e _ _ _ refl refl refl
