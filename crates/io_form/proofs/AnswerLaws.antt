-- The bytes used of an accepted answer are those of a form, and a refusal clears the slice (specs/Used.antt).
use mathlib.Core.Path.{◌≡◌, sym}
use Prim.Native.Nat.{ℕ, ◌≤◌}
use native.Mathlib.Omega.{arith}
use mathlib.Core.List.{List}
use lib.ListN.{length, replicate}
use lib.Seq.{length-take-le}
use Rattle.std.proofs.Common.{Ok, Err, OnErr, Result}
use Rattle.base.specs.Outcome.{Outcome, accepted, refused, refusal_of, written_of}
use Rattle.semilinear.specs.Answers.{InNumbers, GivesNumbers}
use Rattle.normalizer_laws.proofs.UsedLaws.{UsedWithin}
use Rattle.io_form.specs.Used.{IsUsed}

pub answer_used : {len : ℕ} {r : InNumbers} (out : List ℕ) → UsedWithin len r → length out ≡ len → r.refusal ≡ 0
    → IsUsed r.used out
answer_used {len} {r} out h e z =
    let le : r.used ≤ length out = omega (arith, h.inside) in
    ((le, sym (length-take-le _ _ le)), λ _. h.sum_record z)

pub refused_clears : (o : Outcome) (len : ℕ) (r : InNumbers) (out : List ℕ) → GivesNumbers o len r out
    → (r.refusal ≡ 0 → ⊥) → out ≡ replicate len 0
unfolding refusal_of written_of
refused_clears (accepted l ns) len r out g z = absurd (z g.number)
refused_clears (refused n) len r out g z = g.written

-- what holds of a slice holds where an error is told
pub on_err : {T E P : Type 0} (r : Result T E) → P → OnErr r P
on_err (Ok x) p = tt
on_err (Err e) p = p
