-- A record's number, times 16, is its byte place: the mark with the number n of a tree is that of the record which
-- stands 16 n bytes behind the tree's first, so that of the subtree under this record.
use mathlib.Core.Path.{◌≡◌, refl, ap, ap₂, sym, ◌∙◌}
use Prim.Native.Nat.{ℕ, zero, suc, ◌+◌, ◌-◌, ◌*◌, ◌^◌, ◌≤◌, ◌<◌}
use native.Mathlib.Omega.{arith}
use native.Mathlib.Decide.{dec_lt, ℕ_discrete}
use mathlib.Core.List.{List}
use lib.ListN.{length, get_or}
use Rattle.record.specs.Fields.{u16, kind, amount, size, arity}
use Rattle.record.specs.Tree.{Tree, size_of}
use Rattle.record.specs.Span.{cut}
use Rattle.record.specs.Decode.{decode}
use Rattle.record.proofs.LeafLaws.{leaf_both}
use Rattle.ways.specs.declared.side.Spot.{Spot}
use Rattle.ways.specs.Marks.{mark_of, marks_of}
use Rattle.ways.specs.Spans.{span_of, span_under, Accepted}
use Rattle.ways.specs.Sides.{AtSpot}
use Rattle.ways.proofs.MarksLaws.{root_mark_lem, mark_in_child, mark_in_left, mark_in_right}
use Rattle.ways.proofs.PartLaws.{get_or_span}
use Rattle.ways.proofs.SpanOfLaws.{size_sized, span_length, span_big, span_sized, span_records, body_accepted}
use Rattle.ways.proofs.SpanOfLaws.{left_accepted, right_accepted, tree_leaf, tree_one, tree_two}
use Rattle.ways.proofs.SideLaws.{spot_marks}

-- the mark of the record with the number n in the tree from start to end
abbrev MarkAt : List ℕ → ℕ → ℕ → ℕ → Type 0
MarkAt file start end n =
    get_or (marks_of (decode (span_of file start end))) n 0 ≡ mark_of (decode (span_under file (start + 16 * n)))

module _ {w : ℕ} {file : List ℕ} where
  -- the root: its size field leads back to the tree's first record
  module _ {start end : ℕ} (ok : Accepted w file start end) where
    abbrev span : List ℕ
    span = span_of file start end

    size_read : (p : ℕ) → p + 16 ≡ end → u16 file (p + 2) ≡ size span
    unfolding u16 size
    size_read p e =
        let len : length span ≡ end - start = span_length ok in
        let big : 16 ≤ length span = span_big ok in
        ap₂ (λ (a b : ℕ). a + b * 2 ^ 8)
        (ap (λ (i : ℕ). get_or file i 0) (omega arith)
        ∙ sym (get_or_span file start end (length span - 14) (omega arith)))
        (ap (λ (i : ℕ). get_or file i 0) (omega arith)
        ∙ sym (get_or_span file start end (length span - 14 + 1) (omega arith)))

    module _ (n : ℕ) (e : n + 1 ≡ size_of (decode span)) where
      stop : start + 16 * n + 16 ≡ end
      stop = omega (arith, span_records ok, ok.rising)

      root_under : span_under file (start + 16 * n) ≡ span
      unfolding span_under
      root_under =
          let field : u16 file (start + 16 * n + 2) ≡ n + 1 =
          size_read (start + 16 * n) stop ∙ size_sized span (span_sized ok) ∙ sym e in
          let from : start + 16 * n + 16 - 16 * u16 file (start + 16 * n + 2) ≡ start = omega (arith, field) in
          rw (from, stop) refl

      root_place : MarkAt file start end n
      root_place = root_mark_lem (decode span) n e ∙ ap (λ (t : List ℕ). mark_of (decode t)) (sym root_under)

  -- a record below the root, where it holds of the records of its children
  module _ {start end : ℕ} (ok : Accepted w file start end) where
    abbrev k : ℕ
    k = kind (span_of file start end)

    abbrev here : Tree
    here = decode (span_of file start end)

    module _ (a : arity k ≡ 1) where
      abbrev child : Tree
      child = decode (span_of file start (end - 16))

      one_size : size_of here ≡ size_of child + 1
      unfolding size_of
      one_size = ap size_of (tree_one ok refl a)

      one_place : (n : ℕ) → n < size_of child → MarkAt file start (end - 16) n → MarkAt file start end n
      one_place n h below =
          ap (λ (t : Tree). get_or (marks_of t) n 0) (tree_one ok refl a)
          ∙ mark_in_child k (amount (span_of file start end)) child n h
          ∙ below

    module _ (p : arity k ≡ 0 → ⊥) (q : arity k ≡ 1 → ⊥) where
      abbrev middle : ℕ
      middle = start + cut (span_of file start end)

      abbrev l : Tree
      l = decode (span_of file start middle)

      abbrev r : Tree
      r = decode (span_of file middle (end - 16))

      two_size : size_of here ≡ size_of l + size_of r + 1
      unfolding size_of
      two_size = ap size_of (tree_two ok refl p q)

      left_place : (n : ℕ) → n < size_of l → MarkAt file start middle n → MarkAt file start end n
      left_place n h below =
          ap (λ (t : Tree). get_or (marks_of t) n 0) (tree_two ok refl p q) ∙ mark_in_left k l r n h ∙ below

      right_place : (n i : ℕ) → n ≡ size_of l + i → i < size_of r → MarkAt file middle (end - 16) i → MarkAt file start end n
      right_place n i e h below =
          let at : middle + 16 * i ≡ start + 16 * n = omega (arith, span_records (left_accepted ok refl p q)) in
          ap (λ (t : Tree). get_or (marks_of t) n 0) (tree_two ok refl p q)
          ∙ mark_in_right k l r n i e h
          ∙ below
          ∙ ap (λ (j : ℕ). mark_of (decode (span_under file j))) at

-- any record of a tree of at most m records
abbrev AllMarksTo : ℕ → List ℕ → ℕ → Type 0
AllMarksTo w file m =
    (start end : ℕ) → Accepted w file start end → size_of (decode (span_of file start end)) ≤ m → (n : ℕ)
    → n < size_of (decode (span_of file start end)) → MarkAt file start end n

module _ {w : ℕ} {file : List ℕ} where
  module _ (m : ℕ) (below : AllMarksTo w file m) {start end : ℕ} (ok : Accepted w file start end)
      (few : size_of (decode (span_of file start end)) ≤ m + 1) (n : ℕ)
      (lt : n < size_of (decode (span_of file start end))) where
    two_at : (p : arity (k ok) ≡ 0 → ⊥) (q : arity (k ok) ≡ 1 → ⊥) → n + 1 < size_of (here ok) → Dec (n < size_of (l ok p q))
        → MarkAt file start end n
    two_at p q inner (yes less) =
        left_place ok p q n less (below _ _ (left_accepted ok refl p q) (omega (arith, two_size ok p q)) n less)
    two_at p q inner (no more) =
        let less : n - size_of (l ok p q) < size_of (r ok p q) = omega (arith, two_size ok p q) in
        right_place ok p q n (n - size_of (l ok p q)) (omega arith) less
        (below _ _ (right_accepted ok refl p q) (omega (arith, two_size ok p q)) (n - size_of (l ok p q)) less)

    place_at_lem : Dec (n + 1 < size_of (here ok)) → Dec (arity (k ok) ≡ 0) → Dec (arity (k ok) ≡ 1) → MarkAt file start end n
    unfolding size_of
    place_at_lem (no inner) a b = root_place ok n (omega arith)
    place_at_lem (yes inner) (yes a) b =
        let one : size_of (here ok) ≡ 1 =
        ap size_of (tree_leaf ok refl a) ∙ leaf_both (λ (t : Tree). size_of t ≡ 1) (span_of file start end) refl refl in
        absurd (omega arith)
    place_at_lem (yes inner) (no p) (yes a) =
        let less : n < size_of (child ok a) = omega (arith, one_size ok a) in
        one_place ok a n less (below _ _ (body_accepted ok refl a) (omega (arith, one_size ok a)) n less)
    place_at_lem (yes inner) (no p) (no q) = two_at p q inner (dec_lt n (size_of (l ok p q)))

  place_to : (m : ℕ) → AllMarksTo w file m
  place_to zero start end ok few n lt = absurd (omega arith)
  place_to (suc m) start end ok few n lt =
      place_at_lem m (place_to m) ok (omega arith) n lt (dec_lt (n + 1) (size_of (here ok))) (ℕ_discrete (arity (k ok)) 0)
      (ℕ_discrete (arity (k ok)) 1)

  -- the marks of a spot
  pub mark_place : {marks : List ℕ} {x : Spot} → AtSpot w file marks x → (n : ℕ) → n < length marks
      → get_or marks n 0 ≡ mark_of (decode (span_under file (x.start + 16 * n)))
  mark_place {marks} at n h =
      ap (λ (m : List ℕ). get_or m n 0) at.marks_are
      ∙ place_to (length marks) _ _ at.span (omega (arith, spot_marks at)) n (omega (arith, spot_marks at))
