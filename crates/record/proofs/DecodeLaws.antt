-- What a walk over a span s with right size fields knows: its tree by the number n of the root's children, and that a
-- child's span r falls by the size field and has right size fields too. n and r are given with what they are equal to,
-- as the readers' contracts give them.
use mathlib.Core.Path.{◌≡◌, sym, ◌∙◌}
use Prim.Native.Nat.{ℕ, ◌-◌, ◌*◌, ◌≤◌, ◌<◌}
use native.Mathlib.Omega.{arith}
use native.Mathlib.Decide.{dec_lt}
use mathlib.Core.List.{List}
use mathlib.Core.Bool.{true}
use lib.ListN.{length}
use Rattle.record.specs.Fields.{kind, amount, size, arity}
use Rattle.record.specs.Tree.Tree.{Unary, Binary}
use Rattle.record.specs.Span.{cut, body, left, right, sized}
use Rattle.record.specs.Decode.{leaf, decode}
use Rattle.record.proofs.SpanLaws.{cut_le, length_body, length_left, length_right, fold_leaf, fold_one, fold_two}
use Rattle.record.proofs.FieldsLaws.{arity_zero_of_lt}
use Rattle.record.proofs.SizedLaws.{sized_big, sized_length, sized_body, sized_left, sized_right}

-- what a walk asks of a child's span
pub record Child (s r : List ℕ) : Type 0 where
  pub falls : size r < size s
  pub ok : sized r ≡ true

module _ (s : List ℕ) (ok : sized s ≡ true) {n : ℕ} (e : n ≡ arity (kind s)) where
  pub decode_leaf : n ≡ 0 → decode s ≡ leaf s
  decode_leaf h = fold_leaf _ _ _ _ s (sized_big s ok) (sym e ∙ h)

  pub decode_one : n ≡ 1 → {r : List ℕ} → r ≡ body s → decode s ≡ Unary (kind s) (amount s) (decode r)
  decode_one h p = rw p (fold_one _ _ _ _ s (sized_big s ok) (sym e ∙ h))

  pub decode_two : (n ≡ 0 → ⊥) → (n ≡ 1 → ⊥) → {l r : List ℕ} → l ≡ left s → r ≡ right s
      → decode s ≡ Binary (kind s) (decode l) (decode r)
  decode_two p q hl hr =
      rw (hl, hr) (fold_two _ _ _ _ s (sized_big s ok) (λ h. p (e ∙ h)) (λ h. q (e ∙ h)))

  pub kind_inner : (n ≡ 0 → ⊥) → 2 ≤ kind s
  kind_inner p = go (dec_lt (kind s) 2)
    where
      go : Dec (kind s < 2) → 2 ≤ kind s
      go (yes h) = absurd (p (e ∙ arity_zero_of_lt (kind s) h))
      go (no h) = omega arith

  pub child_body : n ≡ 1 → {r : List ℕ} → r ≡ body s → Child s r
  child_body h p =
      let sb = sized_body s ok (sym e ∙ h) in
      let lb : size (body s) * 16 ≡ length s - 16 = sized_length (body s) sb ∙ length_body s in
      rw p (record { falls = omega (arith, sized_length s ok, sized_big s ok); ok = sb })

  pub child_left : (n ≡ 0 → ⊥) → (n ≡ 1 → ⊥) → {r : List ℕ} → r ≡ left s → Child s r
  child_left p q hr =
      let sl = sized_left s ok (λ h. p (e ∙ h)) (λ h. q (e ∙ h)) in
      let ll : size (left s) * 16 ≡ cut s = sized_length (left s) sl ∙ length_left s in
      rw hr (record { falls = omega (arith, sized_length s ok, sized_big s ok, cut_le s); ok = sl })

  pub child_right : (n ≡ 0 → ⊥) → (n ≡ 1 → ⊥) → {r : List ℕ} → r ≡ right s → Child s r
  child_right p q hr =
      let sr = sized_right s ok (λ h. p (e ∙ h)) (λ h. q (e ∙ h)) in
      let lr : size (right s) * 16 ≡ length s - 16 - cut s = sized_length (right s) sr ∙ length_right s in
      rw hr (record { falls = omega (arith, sized_length s ok, sized_big s ok); ok = sr })
