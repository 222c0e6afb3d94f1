-- What `fold_literals` knows at a root (specs/Folding.antt), and what it writes there without going to a child: a
-- literal, or a leaf as it stands. `Kept` is what it knows of a root that is no literal.
use mathlib.Core.Path.{◌≡◌, refl, ap, sym, ◌∙◌}
use Prim.Native.Nat.{ℕ, ◌+◌, ◌-◌, ◌*◌, ◌≤◌}
use native.Mathlib.Omega.{arith}
use mathlib.Core.List.{List, []}
use mathlib.Core.Bool.{Bool, true, false, ◌||◌}
use lib.ListN.{length}
use Rattle.base.specs.Put.{put}
use Rattle.base.proofs.PutLaws.{length_put}
use Rattle.record.specs.Fields.{kind, arity}
use Rattle.record.specs.Span.{sized}
use Rattle.record.specs.Tree.{Tree, size_of, record_bytes, encode, IsBytes}
use Rattle.record.specs.Decode.{decode}
use Rattle.record.proofs.SizedLaws.{sized_length, sized_leaf}
use Rattle.record.proofs.EncodeLaws.{length_encode, size_of_pos}
use Rattle.record.proofs.DecodeLaws.{decode_leaf}
use Rattle.expr_refusal.proofs.RefusalLaws.{accepted_big, sized_accepted}
use Rattle.expr.specs.Value.{value}
use Rattle.expr.proofs.AcceptLaws.{accept_encode}
use Rattle.ways.proofs.MarksLaws.{length_marks}
use Rattle.ways.proofs.SpanOfLaws.{size_sized}
use Rattle.rules_laws.specs.Rules.{is_bitwise, fold_literals}
use Rattle.literals.specs.Folding.{FoldRoom, Folded, RootPut}
use Rattle.literals.proofs.FoldingLaws.{is_folded, fold_literal, fold_leaf, fold_size}

-- the bytes of a sized span, by its records
pub sized_records : (s : List ℕ) → sized s ≡ true → size_of (decode s) * 16 ≡ length s
sized_records s ok = omega (arith, sized_length s ok, size_sized s ok)

-- the record of a root, by its size
pub root_put : {k a at end w : ℕ} {before after : List ℕ} (n : ℕ) → at ≤ end → 16 * n ≡ end - at
    → after ≡ put before end (record_bytes k a (n + 1) w 0) → RootPut k a at end w before after (end + 16)
root_put {k} {a} {at} {end} {w} {before} {after} n le en ef =
    record {
      written = λ m em.
          let same : n ≡ m = omega (arith, en, em) in
          ef ∙ ap (λ (x : ℕ). put before end (record_bytes k a (x + 1) w 0)) same;
      ends = refl;
    }

module _ {w : ℕ} {s marks : List ℕ} {at : ℕ} {d : List ℕ} (room : FoldRoom w s marks at d) where
  pub whole : sized s ≡ true
  whole = sized_accepted w s room.accepted

  pub span_big : 16 ≤ length s
  span_big = accepted_big w s room.accepted

  pub marks_count : length marks ≡ size_of (decode s)
  marks_count = ap length room.marked ∙ length_marks (decode s)

  pub marks_some : 1 ≤ length marks
  marks_some = omega (arith, marks_count, size_of_pos (decode s))

  -- room for one record
  pub record_room : at + 16 ≤ length d
  record_room = omega (arith, span_big, room.room)

  -- the literal is put
  pub folded_literal : {below : Bool} → is_folded below (decode s) ≡ true → {v : ℕ} → v ≡ value w [] (decode s)
      → {f : List ℕ} → f ≡ put d at (record_bytes 0 0 1 w v) → Folded w below (decode s) at d f (at + 16)
  unfolding encode size_of
  folded_literal {below} on ev ef =
      let same = fold_literal w below (decode s) on in
      record {
        written =
            ef
            ∙ ap (λ (v : ℕ). put d at (record_bytes 0 0 1 w v)) ev
            ∙ sym (ap (λ (x : Tree). put d at (encode w x)) same);
        ends = sym (ap (λ (x : Tree). at + 16 * size_of x) same);
      }

  -- the bytes of a root without children are put as they stand
  pub folded_leaf : IsBytes s → {below : Bool} → is_folded below (decode s) ≡ false → arity (kind s) ≡ 0
      → {f : List ℕ} → f ≡ put d at s → Folded w below (decode s) at d f (at + 16)
  folded_leaf bytes {below} off none ef =
      let tree = decode_leaf s whole refl none in
      let same : fold_literals w below (decode s) ≡ decode s =
      ap (fold_literals w below) tree ∙ fold_leaf w below s (ap (is_folded below) (sym tree) ∙ off) ∙ sym tree in
      record {
        written =
            ef ∙ ap (put d at) (sym (accept_encode w s bytes room.accepted) ∙ sym (ap (encode w) same));
        ends = omega (arith, ap size_of same, sized_records s whole, sized_leaf s whole none);
      }

-- what is folded into room for the tree leaves the lent bytes as long as they were
pub length_folded : {w : ℕ} {b : Bool} {t : Tree} {at : ℕ} {d g : List ℕ} {i : ℕ} → Folded w b t at d g i
    → at + size_of t * 16 ≤ length d → length g ≡ length d
length_folded {w} {b} {t} {at} {d} first room =
    ap length first.written
    ∙ length_put d at (encode w (fold_literals w b t))
    (omega (arith, length_encode w (fold_literals w b t), fold_size w b t, room))

-- a root that is no literal; `deeper` says that a bitwise operator stands above its children
pub record Kept (w : ℕ) (s marks : List ℕ) (at : ℕ) (d : List ℕ) (below deeper : Bool) : Type 0 where
  pub room : FoldRoom w s marks at d
  pub off : is_folded below (decode s) ≡ false
  pub deeper_is : deeper ≡ below || is_bitwise (kind s)
