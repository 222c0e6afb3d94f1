-- The tree of a spot as bytes at the start of a lent slice (descent/specs/Spots.antt, `Built` of specs/Index.antt): a
-- copy of the subtree, or that and the records of a literal and of an And.
use mathlib.Core.Path.{◌≡◌, refl, ap, sym, ◌∙◌}
use Prim.Native.Nat.{ℕ, ◌+◌, ◌^◌, ◌≤◌, ◌<◌}
use native.Mathlib.Omega.{arith}
use native.Mathlib.Nat.{lt_of_lt_of_le}
use mathlib.Core.List.{List, [], ◌++◌}
use mathlib.Core.Bool.{true}
use lib.Pow.{pow_mono}
use lib.ListN.{length, take}
use Rattle.std.specs.Prelude.{None, Some}
use Rattle.record.specs.Fields.{size}
use Rattle.record.specs.Tree.{Tree, size_of, record_bytes, encode, IsBytes}
use Rattle.record.specs.Tree.Tree.{Constant, Binary}
use Rattle.record.specs.Decode.{decode}
use Rattle.base.specs.Put.{put}
use Rattle.record.proofs.BytesLaws.{length_record}
use Rattle.record.proofs.SizedLaws.{sized_length}
use Rattle.base.proofs.PutLaws.{length_put, take_put, put_then_then}
use Rattle.expr_refusal.specs.Refusal.{tree_refusal, is_expr}
use Rattle.expr_refusal.proofs.RefusalLaws.{accepted_root, sized_accepted}
use Rattle.expr.proofs.IsExprLaws.{expr_of_constant, expr_of_binary, decode_encode}
use Rattle.expr.proofs.AcceptLaws.{accept_encode, accept_expr, size_accepted, expr_accept}
use Rattle.descent.specs.Spots.{spot_tree}
use Rattle.register.specs.Index.{Built}

-- the bytes s of an accepted tree, put at the start
module _ (w : ℕ) (s before : List ℕ) (fits : length s ≤ length before) (ok : tree_refusal w s ≡ 0) where
  built_start : {after : List ℕ} {r : ℕ} {x : Tree} → after ≡ put before 0 s → r ≡ length s → decode s ≡ x
      → Built w x before after r
  built_start {after} {r} {x} e n d =
      let z : r ≡ 0 + length s = omega (arith, n) in
      let fit : 0 + length s ≤ length before = omega arith in
      let start : take r after ≡ s =
      ap (take r) e ∙ ap (λ (k : ℕ). take k (put before 0 s)) z ∙ take_put before 0 s fit in
      let len : length after ≡ length before = ap length e ∙ length_put before 0 s fit in
      record {
        inside = omega (arith, n, len);
        same_length = len;
        accepted = rw start ok;
        tree_is = rw start d;
      }

module _ (w : ℕ) (t : List ℕ) (bytes : IsBytes t) (ok : tree_refusal w t ≡ 0) where
  pub built_plain : {before after : List ℕ} → length t ≤ length before
      → after ≡ put before 0 t → Built w (spot_tree (decode t) None) before after (length t)
  unfolding spot_tree
  built_plain {before} fits e = built_start w t before fits ok e refl refl

  module _ (v : ℕ) where
    -- the And of the tree and the literal
    abbrev both : Tree
    both = Binary 4 (decode t) (Constant v)

    abbrev both_bytes : List ℕ
    both_bytes = (t ++ record_bytes 0 0 1 w v) ++ record_bytes 4 0 (size t + 2) w 0

    both_bytes_lem : encode w both ≡ both_bytes
    unfolding encode size_of
    both_bytes_lem =
        let n : size_of (decode t) + 1 + 1 ≡ size t + 2 =
        omega (arith, size_accepted w t bytes ok, sized_length t (sized_accepted w t ok)) in
        rw (accept_encode w t bytes ok, n)

    length_both : length both_bytes ≡ length t + 32
    length_both =
        let a = length_record t 0 0 1 w v in
        let b = length_record (t ++ record_bytes 0 0 1 w v) 4 0 (size t + 2) w 0 in
        omega (arith, a, b)

    module _ (hv : v < 2 ^ w) where
      both_expr : is_expr both ≡ true
      both_expr =
          expr_of_binary 4 (decode t) (Constant v)
          record {
            low = omega arith;
            high = omega arith;
            child_l = accept_expr w t bytes ok;
            child_r = expr_of_constant v (lt_of_lt_of_le hv (pow_mono (accepted_root w t ok).width_le));
          }

      both_accepted : tree_refusal w both_bytes ≡ 0
      both_accepted =
          let ro = accepted_root w t ok in
          rw both_bytes_lem at (expr_accept w ro.width_pos ro.width_le both both_expr)

      both_decoded : decode both_bytes ≡ both
      both_decoded = rw both_bytes_lem at (decode_encode w both both_expr)

      pub built_masked : {n : ℕ} {before one two after : List ℕ}
          → length t + 32 ≤ length before → n ≡ size t → one ≡ put before 0 t
          → two ≡ put one (length t) (record_bytes 0 0 1 w v)
          → after ≡ put two (length t + 16) (record_bytes 4 0 (n + 2) w 0)
          → Built w (spot_tree (decode t) (Some v)) before after (length t + 32)
      unfolding spot_tree
      built_masked {n} {before} fits hn e f g =
          let k = length_record [] 0 0 1 w v in
          let all =
          put_then_then before 0 t (record_bytes 0 0 1 w v) (record_bytes 4 0 (size t + 2) w 0) (length t) (length t + 16)
          (omega (arith, k)) (omega arith) (omega (arith, k)) in
          built_start w both_bytes before (omega (arith, length_both)) both_accepted (rw (g, f, e, hn) all)
          (sym length_both) both_decoded
