-- Laws of spans of a file (specs/Spans.antt): how many records a span holds, where its children's spans lie,
-- and that these are accepted where it is.
use mathlib.Core.Path.{◌≡◌, refl, ap, sym, subst, ◌∙◌}
use Prim.Native.Nat.{ℕ, ◌+◌, ◌-◌, ◌*◌, ◌≤◌, ◌<◌}
use native.Mathlib.Omega.{arith}
use mathlib.Core.List.{List}
use mathlib.Core.Bool.{true, false}
use lib.ListN.{length}
use Rattle.record.specs.Fields.{kind, size, amount, arity}
use Rattle.record.specs.Tree.{Tree, size_of}
use Rattle.record.specs.Tree.Tree.{Unary, Binary}
use Rattle.record.specs.Span.{cut, body, left, right, sized}
use Rattle.record.specs.Decode.{leaf, decode}
use Rattle.record.proofs.SpanLaws.{cut_le, length_body, length_left, length_right, span_ind, fold_leaf, fold_one}
use Rattle.record.proofs.SpanLaws.{fold_two}
use Rattle.record.proofs.DecodeLaws.{decode_leaf, decode_one, decode_two}
use Rattle.base.proofs.BoolLaws.{false_true}
use Rattle.record.proofs.SizedLaws.{sized_big, sized_length, sized_leaf, sized_body, sized_left}
use Rattle.record.proofs.SizedLaws.{sized_right}
use Rattle.record.proofs.LeafLaws.{leaf_both}
use Rattle.expr_refusal.specs.Refusal.{tree_refusal}
use Rattle.expr_refusal.proofs.RefusalLaws.{accepted_big, accepted_root, accepted_body, accepted_left, accepted_right}
use Rattle.expr_refusal.proofs.RefusalLaws.{sized_accepted}
use Rattle.ways.specs.Spans.{span_of, Accepted}
use Rattle.ways.specs.Sides.{is_binary}
use Rattle.ways.proofs.PartLaws.{length_span, span_span, take_span}

-- ---- the records of a span

Counted : List ℕ → Type 0
Counted s = sized s ≡ true → size_of (decode s) * 16 ≡ length s

counted_none : (s : List ℕ) → length s < 16 → Counted s
unfolding Counted
counted_none s h ok = absurd (omega (arith, sized_big s ok))

counted_leaf : (s : List ℕ) → 16 ≤ length s → arity (kind s) ≡ 0 → Counted s
unfolding Counted size_of
counted_leaf s big a ok =
    let d : size_of (decode s) ≡ 1 =
    ap size_of (fold_leaf _ _ _ _ s big a) ∙ leaf_both (λ (t : Tree). size_of t ≡ 1) s refl refl in
    omega (arith, sized_leaf s ok a)

counted_one : (s : List ℕ) → 16 ≤ length s → arity (kind s) ≡ 1 → Counted (body s) → Counted s
unfolding Counted size_of
counted_one s big a below ok =
    let d : size_of (decode s) ≡ size_of (decode (body s)) + 1 = ap size_of (fold_one _ _ _ _ s big a) in
    omega (arith, below (sized_body s ok a), length_body s)

counted_two : (s : List ℕ) → 16 ≤ length s → (arity (kind s) ≡ 0 → ⊥) → (arity (kind s) ≡ 1 → ⊥)
    → Counted (left s) → Counted (right s) → Counted s
unfolding Counted size_of
counted_two s big p q below-l below-r ok =
    let d : size_of (decode s) ≡ size_of (decode (left s)) + size_of (decode (right s)) + 1 =
    ap size_of (fold_two _ _ _ _ s big p q) in
    let l = below-l (sized_left s ok p q) in
    let r = below-r (sized_right s ok p q) in
    omega (arith, l, r, length_left s, length_right s, cut_le s)

-- a span with right size fields has 16 bytes for each record, and its root's size field counts them
module _ (s : List ℕ) (ok : sized s ≡ true) where
  length_sized : size_of (decode s) * 16 ≡ length s
  unfolding Counted
  length_sized = span_ind Counted counted_none counted_leaf counted_one counted_two s ok

  pub size_sized : size s ≡ size_of (decode s)
  size_sized = omega (arith, length_sized, sized_length s ok)

-- the size fields of a root and of its children's spans; n is how many children it has
module _ (s : List ℕ) (ok : sized s ≡ true) {n : ℕ} (e : n ≡ arity (kind s)) where
  pub size_two : (n ≡ 0 → ⊥) → (n ≡ 1 → ⊥) → {l r : List ℕ} → l ≡ left s → r ≡ right s → size l + size r + 1 ≡ size s
  size_two p q hl hr =
      let a = sized_length (left s) (sized_left s ok (λ h. p (e ∙ h)) (λ h. q (e ∙ h))) in
      let b = sized_length (right s) (sized_right s ok (λ h. p (e ∙ h)) (λ h. q (e ∙ h))) in
      let len = sized_length s ok in
      rw (hl, hr) (omega (arith, a, b, length_left s, length_right s, cut_le s, len, sized_big s ok))

-- the spans of the children of a span of the file
module _ (file : List ℕ) (start end : ℕ) (rising : start ≤ end) (inside : end ≤ length file)
    (big : 16 ≤ length (span_of file start end)) where
  abbrev here : List ℕ
  here = span_of file start end

  len : length here ≡ end - start
  len = length_span file start end inside

  body_span : body here ≡ span_of file start (end - 16)
  unfolding body
  body_span =
      take_span file start end (length here - 16) (end - 16) (omega (arith, len, big)) (omega (arith, len, big))

  pub left_span : left here ≡ span_of file start (start + cut here)
  unfolding left
  left_span = take_span file start end (cut here) (start + cut here) (omega (arith, len, cut_le here)) refl

  pub right_span : right here ≡ span_of file (start + cut here) (end - 16)
  unfolding right span_of
  right_span =
      span_span file start end (cut here) (length here - 16) (cut_le here) (omega (arith, len, big))
      ∙ ap (span_of file (start + cut here)) (omega (arith, len, big))

-- ---- accepted spans

module _ {w : ℕ} {file : List ℕ} {start end : ℕ} (ok : Accepted w file start end) where
  abbrev span : List ℕ
  span = span_of file start end

  pub span_length : length span ≡ end - start
  span_length = length_span file start end ok.inside

  pub span_big : 16 ≤ length span
  span_big = accepted_big w span ok.tree

  pub span_end : start + 16 ≤ end
  span_end = omega (arith, span_length, span_big)

  pub span_sized : sized span ≡ true
  span_sized = sized_accepted w span ok.tree

  pub span_records : end - start ≡ size_of (decode span) * 16
  span_records = sym span_length ∙ sym (length_sized span span_sized)

  pub span_kind : kind span ≤ 9
  span_kind = (accepted_root w span ok.tree).known

  -- a root with two children
  pub binary_zero : is_binary (decode span) ≡ true → arity (kind span) ≡ 0 → ⊥
  unfolding is_binary
  binary_zero e h =
      let no : is_binary (leaf span) ≡ false = leaf_both (λ (t : Tree). is_binary t ≡ false) span refl refl in
      false_true (sym (ap is_binary (decode_leaf span span_sized refl h) ∙ no) ∙ e)

  pub binary_one : is_binary (decode span) ≡ true → arity (kind span) ≡ 1 → ⊥
  unfolding is_binary
  binary_one e h = false_true (sym (ap is_binary (decode_one span span_sized refl h refl)) ∙ e)

  module _ {n : ℕ} (e : n ≡ arity (kind span)) where
    pub body_accepted : n ≡ 1 → Accepted w file start (end - 16)
    body_accepted h =
        record {
          rising = omega (arith, span_length, span_big);
          inside = omega (arith, ok.inside);
          tree =
              subst (λ (s : List ℕ). tree_refusal w s ≡ 0) (body_span file start end ok.rising ok.inside span_big)
              (accepted_body w span ok.tree (sym e ∙ h));
        }

    pub left_accepted : (n ≡ 0 → ⊥) → (n ≡ 1 → ⊥) → Accepted w file start (start + cut span)
    left_accepted p q =
        record {
          rising = omega arith;
          inside = omega (arith, span_length, span_big, cut_le span, ok.inside);
          tree =
              subst (λ (s : List ℕ). tree_refusal w s ≡ 0) (left_span file start end ok.rising ok.inside span_big)
              (accepted_left w span ok.tree (λ h. p (e ∙ h)) (λ h. q (e ∙ h)));
        }

    pub right_accepted : (n ≡ 0 → ⊥) → (n ≡ 1 → ⊥) → Accepted w file (start + cut span) (end - 16)
    right_accepted p q =
        record {
          rising = omega (arith, span_length, span_big, cut_le span);
          inside = omega (arith, ok.inside);
          tree =
              subst (λ (s : List ℕ). tree_refusal w s ≡ 0) (right_span file start end ok.rising ok.inside span_big)
              (accepted_right w span ok.tree (λ h. p (e ∙ h)) (λ h. q (e ∙ h)));
        }

    pub tree_leaf : n ≡ 0 → decode span ≡ leaf span
    tree_leaf h = decode_leaf span span_sized e h

    pub tree_one : n ≡ 1 → decode span ≡ Unary (kind span) (amount span) (decode (span_of file start (end - 16)))
    tree_one h =
        decode_one span span_sized e h (sym (body_span file start end ok.rising ok.inside span_big))

    pub tree_two : (n ≡ 0 → ⊥) → (n ≡ 1 → ⊥)
        → decode span
        ≡ Binary (kind span) (decode (span_of file start (start + cut span)))
        (decode (span_of file (start + cut span) (end - 16)))
    tree_two p q =
        decode_two span span_sized e p q (sym (left_span file start end ok.rising ok.inside span_big))
        (sym (right_span file start end ok.rising ok.inside span_big))

  pub binary_two : arity (kind span) ≡ 2 → is_binary (decode span) ≡ true
  unfolding is_binary
  binary_two a = ap is_binary (tree_two refl (omega arith) (omega arith))

-- the kind of the root of s, where k is read from t
pub kind_read : {s t : List ℕ} {k n : ℕ} → t ≡ s → k ≡ kind t → k ≡ n → kind s ≡ n
kind_read et ek e = sym (ek ∙ ap kind et) ∙ e
