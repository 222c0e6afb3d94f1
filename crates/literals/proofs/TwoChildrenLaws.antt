-- What `fold_literals` knows at a root with two children, and writes there: one folded child behind the other, and the
-- root behind both.
use mathlib.Core.Path.{◌≡◌, refl, ap, ap₂, sym, ◌∙◌}
use Prim.Native.Nat.{ℕ, ◌+◌, ◌-◌, ◌*◌, ◌≤◌, ◌<◌}
use native.Mathlib.Omega.{arith}
use mathlib.Core.List.{List}
use mathlib.Core.Bool.{Bool}
use lib.ListN.{length, take, drop}
use Rattle.base.specs.Put.{put}
use Rattle.base.proofs.PutLaws.{put_then_then}
use Rattle.record.specs.Fields.{kind, byte1, size, literal, arity}
use Rattle.record.specs.Span.{cut, left, right}
use Rattle.record.specs.Tree.{Tree, size_of, record_bytes, encode}
use Rattle.record.specs.Tree.Tree.{Binary}
use Rattle.record.specs.Decode.{decode}
use Rattle.record.proofs.FieldsLaws.{kind_of_arity_two}
use Rattle.record.proofs.SpanLaws.{length_left, length_right, cut_le}
use Rattle.record.proofs.EncodeLaws.{length_encode}
use Rattle.record.proofs.DecodeLaws.{decode_two, child_left, child_right}
use Rattle.expr_refusal.proofs.RefusalLaws.{fields_byte1, accepted_root, accepted_left, accepted_right}
use Rattle.ways.specs.Marks.{marks_of}
use Rattle.ways.proofs.MarksLaws.{left_marks, right_marks}
use Rattle.rules_laws.specs.Rules.{fold_literals}
use Rattle.literals.specs.Folding.{FoldRoom, Folded, RootRoom, RootPut}
use Rattle.literals.proofs.FoldingLaws.{is_folded, fold_binary, fold_size}
use Rattle.literals.proofs.RootLaws.{sized_records, whole, marks_count, length_folded, Kept}

-- a root that is no literal, over two children; the left one is l, of so many records as `number` says
pub record TwoChildren (w : ℕ) (s marks : List ℕ) (at : ℕ) (d : List ℕ) (below deeper : Bool) (l : List ℕ)
    (number : ℕ) : Type 0 where
  pub kept : Kept w s marks at d below deeper
  pub two : arity (kind s) ≡ 2
  pub number_is : 16 * number ≡ cut s
  pub child : l ≡ left s

module _ {w : ℕ} {s marks : List ℕ} {at : ℕ} {d : List ℕ} {below deeper : Bool} {l : List ℕ} {number : ℕ}
    (x : TwoChildren w s marks at d below deeper l number) where
  abbrev given : FoldRoom w s marks at d
  given = x.kept.room

  not_none : arity (kind s) ≡ 0 → ⊥
  not_none e = omega (arith, x.two)

  not_one : arity (kind s) ≡ 1 → ⊥
  not_one e = omega (arith, x.two)

  -- such a root has no use for byte 1
  no_byte1 : byte1 s ≡ 0
  no_byte1 =
      let root = accepted_root w s given.accepted in
      let low = kind_of_arity_two (kind s) x.two (omega (arith, root.known)) in
      fields_byte1 (kind s) (byte1 s) (literal s) root.fields (λ e. omega (arith, low.0)) (omega (arith, low.1))

  left_count : number ≡ size_of (decode l)
  left_count =
      let first = child_left s (whole given) refl not_none not_one x.child in
      omega (arith, x.number_is, ap length x.child, length_left s, sized_records l first.ok)

  tree : {r : List ℕ} → r ≡ right s → decode s ≡ Binary (kind s) (decode l) (decode r)
  tree = decode_two s (whole given) refl not_none not_one x.child

  records : {r : List ℕ} → r ≡ right s → size_of (decode l) * 16 + size_of (decode r) * 16 + 16 ≡ length s
  unfolding size_of
  records er = omega (arith, ap size_of (tree er), sized_records s (whole given))

  -- the marks of the left child end before the root's
  pub number_le : number ≤ length marks - 1
  unfolding size_of
  number_le = omega (arith, left_count, marks_count given, ap size_of (tree refl))

  -- the children are smaller
  pub left_falls : size l < size s
  left_falls = (child_left s (whole given) refl not_none not_one x.child).falls

  pub right_falls : {r : List ℕ} → r ≡ right s → size r < size s
  right_falls er = (child_right s (whole given) refl not_none not_one er).falls

  -- the left one is accepted, and its marks are the first
  pub left_room : {m : List ℕ} → m ≡ take number marks → FoldRoom w l m at d
  left_room em =
      let long : length l ≡ cut s = ap length x.child ∙ length_left s in
      record {
        accepted = rw x.child (accepted_left w s given.accepted not_none not_one);
        long = omega (arith, long, cut_le s, given.long);
        marked =
            em
            ∙ ap (take number) (given.marked ∙ ap marks_of (tree refl))
            ∙ left_marks (kind s) (decode l) (decode (right s)) number left_count;
        room = omega (arith, long, cut_le s, given.room);
      }

  -- the left child is folded: g is what is written, to i; the right one is r
  module _ {g : List ℕ} {i : ℕ} (first : Folded w deeper (decode l) at d g i) {r : List ℕ} (er : r ≡ right s) where
    pub first_length : length g ≡ length d
    first_length = length_folded first (omega (arith, records er, given.room))

    -- the right one is accepted, and its marks stand between the left one's and the root's
    pub right_room : {m : List ℕ} {last : ℕ} → last ≡ length marks - 1 → m ≡ take (last - number) (drop number marks)
        → FoldRoom w r m i g
    unfolding size_of
    right_room {m} {last} el em =
        let long : length r ≡ length s - 16 - cut s = ap length er ∙ length_right s in
        let small = fold_size w deeper (decode l) in
        let rest : last - number ≡ size_of (decode r) =
        omega (arith, el, left_count, marks_count given, ap size_of (tree er)) in
        record {
          accepted = rw er (accepted_right w s given.accepted not_none not_one);
          long = omega (arith, long, given.long);
          marked =
              em
              ∙ ap (λ (n : ℕ). take (last - number) (drop n marks)) left_count
              ∙ ap (λ (n : List ℕ). take (last - number) (drop (size_of (decode l)) n))
              (given.marked ∙ ap marks_of (tree er))
              ∙ right_marks (kind s) (decode l) (decode r) (last - number) rest;
          room = omega (arith, long, x.number_is, left_count, cut_le s, small, first.ends, first_length, given.room);
        }

    -- the right one too: o is what is written, to j
    module _ {o : List ℕ} {j : ℕ} (second : Folded w deeper (decode r) i g o j) where
      -- the root has room behind them
      pub two_root : RootRoom at j o
      two_root =
          let small-l = fold_size w deeper (decode l) in
          let small_r = fold_size w deeper (decode r) in
          let same =
          length_folded second (omega (arith, first.ends, small-l, records er, first_length, given.room)) in
          record {
            room =
                omega (
                  arith,
                  first.ends,
                  second.ends,
                  small-l,
                  small_r,
                  records er,
                  same,
                  first_length,
                  given.room,
                );
            rising = omega (arith, first.ends, second.ends);
            long = omega (arith, first.ends, second.ends, small-l, small_r, records er, given.long);
            whole = omega (arith, first.ends, second.ends);
          }

      -- and there it makes up the folded tree
      pub folded_two : {k a : ℕ} → k ≡ kind s → a ≡ byte1 s → {f : List ℕ} {n : ℕ} → RootPut k a at j w o f n
          → Folded w below (decode s) at d f n
      unfolding encode size_of
      folded_two ek ea root =
          let u : Tree = fold_literals w deeper (decode l) in
          let v : Tree = fold_literals w deeper (decode r) in
          let same : fold_literals w below (decode s) ≡ Binary (kind s) u v =
          ap (fold_literals w below) (tree er)
          ∙ fold_binary w below (kind s) (decode l) (decode r) (ap (is_folded below) (sym (tree er)) ∙ x.kept.off)
          ∙ ap (λ (b : Bool). Binary (kind s) (fold_literals w b (decode l)) (fold_literals w b (decode r)))
          (sym x.kept.deeper_is) in
          let root-bytes : List ℕ = record_bytes (kind s) 0 (size_of u + size_of v + 1) w 0 in
          let bytes-l = length_encode w u in
          let bytes-r = length_encode w v in
          let small-l = fold_size w deeper (decode l) in
          let small_r = fold_size w deeper (decode r) in
          record {
            written =
                root.written (size_of u + size_of v) (omega (arith, first.ends, second.ends))
                ∙ ap₂ (λ (y z : ℕ). put o j (record_bytes y z (size_of u + size_of v + 1) w 0)) ek (ea ∙ no_byte1)
                ∙ ap (λ (b : List ℕ). put b j root-bytes) second.written
                ∙ ap (λ (b : List ℕ). put (put b i (encode w v)) j root-bytes) first.written
                ∙ put_then_then d at (encode w u) (encode w v) root-bytes i j
                (omega (arith, bytes-l, bytes-r, small-l, small_r, records er, given.room))
                (omega (arith, bytes-l, first.ends))
                (omega (arith, bytes-l, bytes-r, first.ends, second.ends))
                ∙ sym (ap (λ (y : Tree). put d at (encode w y)) same);
            ends = omega (arith, root.ends, first.ends, second.ends, ap size_of same);
          }
