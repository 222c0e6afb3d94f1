-- The parts of a piece that is put into a lent slice (base/specs/Put.antt, `span_of` of specs/Spans.antt).
use mathlib.Core.Path.{◌≡◌, ap, sym, ◌∙◌}
use Prim.Native.Nat.{ℕ, ◌+◌, ◌-◌, ◌≤◌}
use native.Mathlib.Omega.{arith}
use mathlib.Core.List.{List}
use lib.ListN.{length, take, drop, length-drop}
use lib.Seq.{drop-drop, take-append-le, drop-append-le}
use Rattle.base.specs.Put.{put}
use Rattle.base.proofs.PutLaws.{drop_put_front}
use Rattle.ways.specs.Spans.{span_of}

module _ (d : List ℕ) (at : ℕ) (s : List ℕ) (fits : at + length s ≤ length d) where
  pub span_put_piece : (i j : ℕ) → i ≤ j → j ≤ length s → span_of (put d at s) (at + i) (at + j) ≡ span_of s i j
  unfolding span_of
  span_put_piece i j h k =
      let n : at + j - (at + i) ≡ j - i = omega arith in
      let m : j - i ≤ length (drop i s) = omega (arith, length-drop i s) in
      let rest : List ℕ = drop (at + length s) d in
      ap (λ (x : ℕ). take x (drop (at + i) (put d at s))) n
      ∙ ap (take (j - i)) (sym (drop-drop i at (put d at s)))
      ∙ ap (λ (l : List ℕ). take (j - i) (drop i l)) (drop_put_front d at s fits)
      ∙ ap (take (j - i)) (drop-append-le i s rest (omega arith))
      ∙ take-append-le (j - i) (drop i s) rest m
