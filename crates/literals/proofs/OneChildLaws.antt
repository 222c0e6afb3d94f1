-- What `fold_literals` knows at a root with one child, and writes there: the folded child, and the root behind it. The
-- child lies where the right one of two does, behind no record.
use mathlib.Core.Path.{◌≡◌, refl, ap, ap₂, sym, ◌∙◌}
use Prim.Native.Nat.{ℕ, ◌+◌, ◌-◌, ◌*◌, ◌^◌, ◌≤◌, ◌<◌}
use native.Mathlib.Omega.{arith}
use mathlib.Core.List.{List}
use mathlib.Core.Bool.{Bool, true}
use lib.ListN.{length, get_or, take, drop}
use lib.Seq.{get_or-take}
use borrow.Author.Tests.{le-ltb}
use Rattle.base.specs.Put.{put}
use Rattle.base.proofs.PutLaws.{put_then}
use Rattle.record.specs.Fields.{u16, kind, byte1, amount, size, arity}
use Rattle.record.specs.Span.{cut, body, right, sized}
use Rattle.record.specs.Tree.{Tree, size_of, record_bytes, encode}
use Rattle.record.specs.Tree.Tree.{Unary}
use Rattle.record.specs.Decode.{decode}
use Rattle.record.proofs.SpanLaws.{length_body}
use Rattle.record.proofs.SizedLaws.{sized_big, sized_length, sized_body}
use Rattle.record.proofs.EncodeLaws.{length_encode}
use Rattle.record.proofs.DecodeLaws.{decode_one, child_body}
use Rattle.expr_refusal.proofs.RefusalLaws.{accepted_body}
use Rattle.ways.specs.Marks.{marks_of}
use Rattle.ways.proofs.MarksLaws.{body_marks}
use Rattle.rules_laws.specs.Rules.{fold_literals}
use Rattle.literals.specs.Folding.{FoldRoom, Folded, RootRoom, RootPut}
use Rattle.literals.proofs.FoldingLaws.{is_folded, fold_unary, fold_size}
use Rattle.literals.proofs.RootLaws.{sized_records, whole, marks_count, length_folded, Kept}

-- ---- the only child as the right one

byte_body : (s : List ℕ) (i : ℕ) → i < length s - 16 → get_or (body s) i 0 ≡ get_or s i 0
unfolding body
byte_body s i h = get_or-take (length s - 16) s i 0 h

-- its size field, read from the whole span
size_body : (s : List ℕ) → 32 ≤ length s → size (body s) ≡ u16 s (length s - 30)
unfolding size u16
size_body s big =
    ap (u16 (body s)) (omega (arith, length_body s))
    ∙ ap₂ (λ (x y : ℕ). x + y * 2 ^ 8) (byte_body s (length s - 30) (omega arith))
    (byte_body s (length s - 30 + 1) (omega arith))

pub cut_one : (s : List ℕ) → sized s ≡ true → arity (kind s) ≡ 1 → cut s ≡ 0
unfolding cut
cut_one s ok one =
    let below = sized_body s ok one in
    let big : 32 ≤ length s = omega (arith, sized_big (body s) below, length_body s) in
    simp (le-ltb (length s) 32 big)
    (omega (arith, size_body s big, sized_length (body s) below, length_body s))

-- the part from m to n, where m is 0
part_front : (m n : ℕ) (l : List ℕ) → m ≡ 0 → take (n - m) (drop m l) ≡ take n l
part_front m n l e =
    let same : n - 0 ≡ n = omega arith in
    ap (λ (k : ℕ). take (n - k) (drop k l)) e ∙ ap (λ (k : ℕ). take k l) same

right_body : (s : List ℕ) → cut s ≡ 0 → right s ≡ body s
unfolding right body
right_body s e = part_front (cut s) (length s - 16) s e

-- ---- the root

-- a root that is no literal, over one child, r; `number` is how many records of the span stand before it, none
pub record OneChild (w : ℕ) (s marks : List ℕ) (at : ℕ) (d : List ℕ) (below deeper : Bool) (r : List ℕ) (number : ℕ)
    : Type 0 where
  pub kept : Kept w s marks at d below deeper
  pub one : arity (kind s) ≡ 1
  pub number_is : 16 * number ≡ cut s
  pub child : r ≡ right s

module _ {w : ℕ} {s marks : List ℕ} {at : ℕ} {d : List ℕ} {below deeper : Bool} {r : List ℕ} {number : ℕ}
    (x : OneChild w s marks at d below deeper r number) where
  abbrev given : FoldRoom w s marks at d
  given = x.kept.room

  none_before : cut s ≡ 0
  none_before = cut_one s (whole given) x.one

  only : r ≡ body s
  only = x.child ∙ right_body s none_before

  tree : decode s ≡ Unary (kind s) (amount s) (decode r)
  tree = decode_one s (whole given) refl x.one only

  records : size_of (decode r) * 16 + 16 ≡ length s
  unfolding size_of
  records = omega (arith, ap size_of tree, sized_records s (whole given))

  -- the child is smaller
  pub one_falls : size r < size s
  one_falls = (child_body s (whole given) refl x.one only).falls

  pub one_number_le : number ≤ length marks - 1
  one_number_le = omega (arith, x.number_is, none_before)

  -- it is accepted, and its marks are all but the last
  pub one_room : {m : List ℕ} {last : ℕ} → last ≡ length marks - 1 → m ≡ take (last - number) (drop number marks)
      → FoldRoom w r m at d
  unfolding size_of
  one_room {m} {last} el em =
      let count : last ≡ size_of (decode r) = omega (arith, el, marks_count given, ap size_of tree) in
      let long : length r ≡ length s - 16 = ap length only ∙ length_body s in
      record {
        accepted = rw only (accepted_body w s given.accepted x.one);
        long = omega (arith, long, given.long);
        marked =
            em
            ∙ part_front number last marks (omega (arith, x.number_is, none_before))
            ∙ ap (take last) (given.marked ∙ ap marks_of tree)
            ∙ body_marks (kind s) (amount s) (decode r) last count;
        room = omega (arith, long, given.room);
      }

  -- the child is folded: g is what is written, to i
  module _ {g : List ℕ} {i : ℕ} (first : Folded w deeper (decode r) at d g i) where
    -- the root has room behind it
    pub one_root : RootRoom at i g
    one_root =
        let small = fold_size w deeper (decode r) in
        let same = length_folded first (omega (arith, records, given.room)) in
        record {
          room = omega (arith, first.ends, small, records, same, given.room);
          rising = omega (arith, first.ends);
          long = omega (arith, first.ends, small, records, given.long);
          whole = omega (arith, first.ends);
        }

    -- and there it makes up the folded tree
    pub folded_one : {k a : ℕ} → k ≡ kind s → a ≡ byte1 s → {f : List ℕ} {j : ℕ} → RootPut k a at i w g f j
        → Folded w below (decode s) at d f j
    unfolding encode size_of amount
    folded_one ek ea root =
        let u : Tree = fold_literals w deeper (decode r) in
        let same : fold_literals w below (decode s) ≡ Unary (kind s) (amount s) u =
        ap (fold_literals w below) tree
        ∙ fold_unary w below (kind s) (amount s) (decode r) (ap (is_folded below) (sym tree) ∙ x.kept.off)
        ∙ ap (λ (b : Bool). Unary (kind s) (amount s) (fold_literals w b (decode r))) (sym x.kept.deeper_is) in
        let bytes = length_encode w u in
        let small = fold_size w deeper (decode r) in
        record {
          written =
              root.written (size_of u) first.ends
              ∙ ap₂ (λ (y z : ℕ). put g i (record_bytes y z (size_of u + 1) w 0)) ek ea
              ∙ ap (λ (b : List ℕ). put b i (record_bytes (kind s) (amount s) (size_of u + 1) w 0)) first.written
              ∙ put_then d at (encode w u) _ i (omega (arith, bytes, small, records, given.room))
              (omega (arith, bytes, first.ends))
              ∙ sym (ap (λ (y : Tree). put d at (encode w y)) same);
          ends = omega (arith, root.ends, first.ends, ap size_of same);
        }
