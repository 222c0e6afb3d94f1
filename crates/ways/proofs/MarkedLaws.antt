-- What `mark_traits` writes: the mark of a root behind the marks of its children is the marks of its tree.
use mathlib.Core.Path.{◌≡◌, refl, ap, ap₂, sym, ◌∙◌}
use Prim.Native.Nat.{ℕ, ◌+◌, ◌-◌, ◌≤◌}
use native.Mathlib.Omega.{arith}
use mathlib.Core.List.{List, [], ◌∷◌}
use mathlib.Core.Bool.{true}
use lib.ListN.{length}
use lib.Bits.{bit_or}
use Rattle.record.specs.Fields.{kind, size, arity}
use Rattle.record.specs.Tree.{Tree, size_of}
use Rattle.record.specs.Span.{body, left, right, sized}
use Rattle.record.specs.Decode.{leaf, decode}
use Rattle.base.specs.Put.{put}
use Rattle.record.proofs.SizedLaws.{sized_big, sized_length}
use Rattle.record.proofs.DecodeLaws.{decode_leaf, decode_one, decode_two, kind_inner, child_left}
use Rattle.base.proofs.PutLaws.{put_then, put_then_then}
use Rattle.record.proofs.LeafLaws.{leaf_both}
use Rattle.ways.specs.Marks.{mark_of, root_mark, marks_of, Marked}
use Rattle.ways.proofs.MarksLaws.{length_marks, mark_one, mark_two}
use Rattle.ways.proofs.SpanOfLaws.{size_sized}

leaf_marks : (s : List ℕ) → marks_of (leaf s) ≡ mark_of (leaf s) ∷ []
unfolding marks_of
leaf_marks s = leaf_both (λ (t : Tree). marks_of t ≡ mark_of t ∷ []) s refl refl

pub size_pos : (s : List ℕ) → sized s ≡ true → 1 ≤ size s
size_pos s ok = omega (arith, sized_length s ok, sized_big s ok)

-- n is how many children the root of s has, k its kind, and y its mark, which is put at i
module _ (s : List ℕ) (ok : sized s ≡ true) {n : ℕ} (e : n ≡ arity (kind s)) (at : ℕ) (d : List ℕ)
    (room : at + size s ≤ length d) {y z : ℕ} (same : z ≡ y) where
  pub marked_leaf : n ≡ 0 → y ≡ mark_of (leaf s) → {f : List ℕ} → f ≡ put d at (y ∷ [])
      → Marked (decode s) at d f z
  marked_leaf h ey ef =
      rw (decode_leaf s ok e h)
      (record {
        own = same ∙ ey;
        written = ef ∙ ap (put d at) (ap (λ (m : ℕ). m ∷ []) ey ∙ sym (leaf_marks s));
      })

  module _ {k i : ℕ} (ek : k ≡ kind s) (ei : i ≡ at + size s - 1) where
    pub marked_one : n ≡ 1 → {r : List ℕ} → r ≡ body s → {x : ℕ} {g f : List ℕ} → Marked (decode r) at d g x
        → y ≡ root_mark k x → f ≡ put g i (y ∷ []) → Marked (decode s) at d f z
    unfolding size_of marks_of
    marked_one h {r} hr {x} {g} {f} m ey ef =
        let tree = decode_one s ok e h hr in
        let size_is : size s ≡ size_of (decode r) + 1 = size_sized s ok ∙ ap size_of tree in
        let holds =
        ey ∙ ap₂ root_mark ek m.own ∙ mark_one _ _ _ (kind_inner s ok e (omega arith)) in
        rw tree
        (record {
          own = same ∙ holds;
          written =
              ef
              ∙ ap₂ (λ (b : List ℕ) (v : ℕ). put b i (v ∷ [])) m.written holds
              ∙ put_then d at (marks_of (decode r)) _ i (omega (arith, length_marks (decode r)))
              (omega (arith, length_marks (decode r)));
        })

    pub marked_two : (n ≡ 0 → ⊥) → (n ≡ 1 → ⊥) → {l r : List ℕ} → l ≡ left s → r ≡ right s → {x u j : ℕ}
        {g f o : List ℕ} → Marked (decode l) at d g x → j ≡ at + size (left s) → Marked (decode r) j g o u
        → y ≡ root_mark k (bit_or x u) → f ≡ put o i (y ∷ []) → Marked (decode s) at d f z
    unfolding size_of marks_of
    marked_two p q {l} {r} hl hr {x} {u} {j} {g} {f} {o} ml ej mr ey ef =
        let tree = decode_two s ok e p q hl hr in
        let size-l : size (left s) ≡ size_of (decode l) =
        ap size (sym hl) ∙ size_sized l (child_left s ok e p q hl).ok in
        let size_is : size s ≡ size_of (decode l) + size_of (decode r) + 1 = size_sized s ok ∙ ap size_of tree in
        let holds =
        ey
        ∙ ap₂ root_mark ek (ap₂ bit_or ml.own mr.own)
        ∙ mark_two _ _ _ (kind_inner s ok e p) in
        let nl : length (marks_of (decode l)) ≡ size_of (decode l) = length_marks (decode l) in
        let nr : length (marks_of (decode r)) ≡ size_of (decode r) = length_marks (decode r) in
        let over =
        mr.written ∙ ap (λ (b : List ℕ). put b j (marks_of (decode r))) ml.written in
        rw tree
        (record {
          own = same ∙ holds;
          written =
              ef
              ∙ ap₂ (λ (b : List ℕ) (v : ℕ). put b i (v ∷ [])) over holds
              ∙ put_then_then d at (marks_of (decode l)) (marks_of (decode r)) _ j i (omega arith) (omega arith)
              (omega arith);
        })
