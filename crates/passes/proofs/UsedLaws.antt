-- Numbers that count what stands at the start of a slice: the words of a list, the bytes used after it is run.
use mathlib.Core.Path.{◌≡◌, refl, ap, sym}
use Prim.Native.Nat.{ℕ, ◌≤◌, ◌-◌}
use native.Mathlib.Omega.{arith}
use mathlib.Core.List.{List, [], ◌∷◌}
use mathlib.Core.Bool.{Bool}
use lib.Dec.{eqb}
use lib.ListN.{length, get_or, replicate, length-append}
use lib.Seq.{length-take-le}
use Rattle.base.specs.Choice.{when}
use Rattle.base.specs.Put.{padded}
use Rattle.base.proofs.LoopLaws.{when_both}
use Rattle.std.specs.Counts.{IsPrefixLen}
use Rattle.base.specs.Outcome.{Outcome, accepted, refused, refusal_of, numbers_of, written_of}
use Rattle.semilinear.specs.Answers.{InNumbers, GivesNumbers}
use Rattle.normalizer_laws.specs.Normalize.{normalize_to_semilinear}
use Rattle.claims.specs.Calls.{Call}
use Rattle.runner.specs.RunPasses.{calls_of, is_list, bytes_outcome, list_outcome, run_outcome, run_passes}

pub counts_within : (n : ℕ) (l : List ℕ) → n ≤ length l → IsPrefixLen n l
counts_within n l le = (le, sym (length-take-le n l le))

-- the first number is how many elements there are
abbrev Counted : Outcome → Type 0
Counted (accepted b ns) = get_or ns 0 0 ≡ length b
Counted (refused n) = Unit {0}

counted_list : (calls : List Call) (o : Outcome) → Counted (list_outcome calls o)
unfolding list_outcome bytes_outcome
counted_list calls (accepted b ns) = refl
counted_list calls (refused n) = tt

-- what is run past the refusals 1 and 2
counted_past : (o : Outcome) (ok : Bool) (calls : List Call)
    → Counted (when ok (λ _. list_outcome calls o) (λ _. refused 32))
counted_past o ok calls =
    when_both Counted ok (list_outcome calls o) (refused 32) (λ _. counted_list calls o) (λ _. tt)

counted_run : (o : Outcome) (ok : Bool) (calls : List Call) → Counted (run_outcome o ok calls)
unfolding run_outcome refusal_of
counted_run (accepted b ns) ok calls = counted_past (accepted b ns) ok calls
counted_run (refused n) ok calls =
    when_both Counted (eqb n 1) (refused n) _ (λ _. tt)
    (λ _. when_both Counted (eqb n 2) (refused n) _ (λ _. tt) (λ _. counted_past (refused n) ok calls))

length_padded_le : (len : ℕ) (b : List ℕ) → length b ≤ length (padded len b)
unfolding padded
length_padded_le len b = omega (arith, length-append b (replicate (len - length b) 0))

used_le : (o : Outcome) → Counted o → (len : ℕ) (r : InNumbers) (out : List ℕ) → GivesNumbers o len r out
    → r.used ≤ length out
unfolding numbers_of written_of
used_le (accepted b []) h len r out g =
    let used : r.used ≡ 0 = ap (λ (l : List ℕ). get_or l 0 0) g.beside in
    omega (arith, used)
used_le (accepted b (n ∷ ns)) h len r out g =
    let used : r.used ≡ n = ap (λ (l : List ℕ). get_or l 0 0) g.beside in
    let whole : length out ≡ length (padded len b) = ap length g.written in
    omega (arith, used, whole, h, length_padded_le len b)
used_le (refused n) h len r out g =
    let used : r.used ≡ 0 = ap (λ (l : List ℕ). get_or l 0 0) g.beside in
    omega (arith, used)

pub run_used : (s words : List ℕ) (len spare : ℕ) (r : InNumbers) (out : List ℕ)
    → GivesNumbers (run_passes s words len spare) len r out → IsPrefixLen r.used out
unfolding run_passes
run_used s words len spare r out g =
    let counted = counted_run (normalize_to_semilinear s len) (is_list len spare words) (calls_of words) in
    counts_within r.used out (used_le (run_passes s words len spare) counted len r out g)
