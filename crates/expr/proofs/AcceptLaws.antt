-- The refusals both ways: no refusal applies to bytes just where they are the encoding of an expression at a width
-- from 1 to 64, and they decode to that expression; and so for whole files, of at most 1,024 records.
use Rattle.std.proofs.Common.{◌≡◌, ℕ, ◌+◌, ◌-◌, ◌*◌, ◌%◌, ◌^◌, ◌<◌, ◌≤◌, true, ◌↔◌, List, [], ◌++◌, length, drop, sym, refl, ap, ◌∙◌, arith, lit<, length-append, eq-eqb, ne_eqb}
use native.Mathlib.Decide.{ℕ_discrete}
use Rattle.record.specs.Fields.{kind, byte1, var_index, amount, size, width, literal, arity}
use Rattle.record.specs.Tree.{Tree, size_of, record_bytes, variable_bytes, encode, IsBytes}
use Rattle.record.specs.Tree.Tree.{Constant, Variable, Unary, Binary}
use Rattle.record.specs.Span.{body, left, right}
use Rattle.record.specs.Decode.{leaf, decode}
use Rattle.record.proofs.FieldsLaws.{kind_of_arity_zero, kind_of_arity_one, kind_of_arity_two}
use Rattle.record.proofs.FieldsLaws.{arity_two}
use Rattle.record.proofs.SpanLaws.{cut_le, length_body, length_left, length_right, split_one, split_two}
use Rattle.record.proofs.SpanLaws.{fold_leaf, fold_one, fold_two, span_ind}
use Rattle.record.proofs.BytesLaws.{length_record, record_big, kind_record, byte1_record, size_record, width_record}
use Rattle.record.proofs.BytesLaws.{spare_record, literal_record, body_record, last_record}
use Rattle.record.proofs.VariableLaws.{length_variable, kind_variable, size_variable, width_variable}
use Rattle.record.proofs.VariableLaws.{spare_high_variable, literal_variable, variable_record}
use Rattle.record.proofs.BytesLaws.{bytes_body, bytes_left, bytes_right, literal_lt, var_index_lt}
use Rattle.record.proofs.EncodeLaws.{length_encode, width_encode, left_joined, right_joined, size_of_pos}
use Rattle.expr_refusal.specs.Refusal.{uses_byte1, fields_ok, unused, root_refusal, tree_refusal, expr_refusal, is_expr}
use Rattle.expr.specs.Value.{value}
use Rattle.expr.specs.ExprValue.{expr_value}
use Rattle.expr_refusal.proofs.RefusalLaws.{lowest_none, Root, root_spare, fields_literal, fields_byte1, fields_inner}
use Rattle.expr_refusal.proofs.RefusalLaws.{zero_of_root}
use Rattle.expr_refusal.proofs.RefusalLaws.{accepted_big, accepted_root, accepted_body, accepted_left, accepted_right}
use Rattle.expr.proofs.IsExprLaws.{constant_of_expr, expr_of_constant, expr_of_variable}
use Rattle.expr.proofs.IsExprLaws.{unary_of_expr, expr_of_unary, unary_arity}
use Rattle.expr.proofs.IsExprLaws.{binary_of_expr, expr_of_binary, binary_arity, decode_encode}
use Rattle.expr.proofs.ExprValueLaws.{accepted_tree, accepted_length, refusal_tree, expr_value_accepted}

-- ---- accepted bytes are the encoding of an expression

-- what is shown of an accepted span
record Meant (w : ℕ) (s : List ℕ) : Type 0 where
  same : encode w (decode s) ≡ s
  expr : is_expr (decode s) ≡ true

meant_size : (w : ℕ) (s : List ℕ) → Meant w s → size_of (decode s) * 16 ≡ length s
meant_size w s m = sym (length_encode w (decode s)) ∙ ap length m.same

module _ (w : ℕ) where
  Sound : List ℕ → Type 0
  Sound s = IsBytes s → tree_refusal w s ≡ 0 → Meant w s

  sound_none : (s : List ℕ) → length s < 16 → Sound s
  unfolding Sound
  sound_none s small h e = absurd (omega (arith, accepted_big w s e))

  sound_leaf : (s : List ℕ) → 16 ≤ length s → arity (kind s) ≡ 0 → Sound s
  unfolding Sound encode leaf unused
  sound_leaf s big a h e = go (ℕ_discrete (kind s) 0)
    where
      ro : Root w s
      ro = accepted_root w s e

      low : kind s < 2
      low = kind_of_arity_zero (kind s) a

      len : length s ≡ 16
      len = ro.leaf_length low

      one : size s ≡ 1
      one = omega (arith, len, ro.length_size)

      go : Dec (kind s ≡ 0) → Meant w s
      go (yes k0) =
          let d : decode s ≡ Constant (literal s) = fold_leaf _ _ _ _ s big a ∙ simp (eq-eqb _ _ k0) in
          let b : byte1 s ≡ 0 = fields_byte1 _ _ _ ro.fields (omega arith) (omega arith) in
          let z = root_spare w s ro (λ k1. omega arith) in
          let all : record_bytes (kind s) (byte1 s) (size s) (width s) (literal s) ≡ s =
          rw len at (last_record s big h z) in
          record { same = rw d (cc (all, k0, b, one, ro.wide)); expr = rw d (expr_of_constant _ (literal_lt s h)) }
      go (no p) =
          let d : decode s ≡ Variable (var_index s) = fold_leaf _ _ _ _ s big a ∙ simp (ne_eqb _ _ p) in
          let k1 : kind s ≡ 1 = omega (arith, low) in
          let v : literal s ≡ 0 = fields_literal _ _ _ ro.fields p in
          let z = simp (eq-eqb (kind s) 1 k1) at ro.clear in
          let all : variable_bytes (width s) (var_index s) ≡ s =
          variable_record s record { long = len; bytes = h; is_variable = k1; one = one; unused = z; none = v } in
          record { same = rw d (cc (all, ro.wide)); expr = rw d (expr_of_variable _ (var_index_lt s h)) }

  sound_one : (s : List ℕ) → 16 ≤ length s → arity (kind s) ≡ 1 → Sound (body s) → Sound s
  unfolding Sound encode amount
  sound_one s big a below h e =
      let ro = accepted_root w s e in
      let m = below (bytes_body s h) (accepted_body w s e a) in
      let d : decode s ≡ Unary (kind s) (amount s) (decode (body s)) = fold_one _ _ _ _ s big a in
      let k : 7 ≤ kind s = kind_of_arity_one _ a in
      let v : literal s ≡ 0 = fields_literal _ _ _ ro.fields (omega arith) in
      let n : size_of (decode (body s)) + 1 ≡ size s =
      omega (arith, meant_size w _ m, length_body s, ro.length_size) in
      let last : record_bytes (kind s) (byte1 s) (size s) w 0 ≡ drop (length s - 16) s =
      rw (v, ro.wide) at (last_record s big h (root_spare w s ro (λ k1. omega arith))) in
      let plain : kind s < 9 → byte1 s ≡ 0 = fields_byte1 _ _ _ ro.fields (omega arith) in
      record {
        same = rw (d, m.same, n, last) (split_one s);
        expr =
            rw d
            (expr_of_unary _ _ _
            record { low = k; high = ro.known; plain = plain; shr = ro.shift; child = m.expr });
      }

  sound_two : (s : List ℕ) → 16 ≤ length s → (arity (kind s) ≡ 0 → ⊥) → (arity (kind s) ≡ 1 → ⊥)
      → Sound (left s) → Sound (right s) → Sound s
  unfolding Sound encode
  sound_two s big p q below-l below-r h e =
      let ro = accepted_root w s e in
      let ml = below-l (bytes_left s h) (accepted_left w s e p q) in
      let mr = below-r (bytes_right s h) (accepted_right w s e p q) in
      let d : decode s ≡ Binary (kind s) (decode (left s)) (decode (right s)) = fold_two _ _ _ _ s big p q in
      let k = kind_of_arity_two (kind s) (arity_two _ p q) (omega (arith, ro.known)) in
      let v : literal s ≡ 0 = fields_literal _ _ _ ro.fields (omega arith) in
      let b : byte1 s ≡ 0 = fields_byte1 _ _ _ ro.fields (omega arith) (omega arith) in
      let n : size_of (decode (left s)) + size_of (decode (right s)) + 1 ≡ size s =
      omega (arith, meant_size w _ ml, meant_size w _ mr, length_left s, length_right s, cut_le s, ro.length_size) in
      let last : record_bytes (kind s) 0 (size s) w 0 ≡ drop (length s - 16) s =
      rw (v, b, ro.wide) at (last_record s big h (root_spare w s ro (λ k1. omega arith))) in
      record {
        same = rw (d, ml.same, mr.same, n, last) (split_two s);
        expr =
            rw d
            (expr_of_binary _ _ _
            record { low = k.0; high = k.1; child_l = ml.expr; child_r = mr.expr });
      }

  sound : (s : List ℕ) → IsBytes s → tree_refusal w s ≡ 0 → Meant w s
  unfolding Sound
  sound = span_ind Sound sound_none sound_leaf sound_one sound_two

module _ (w : ℕ) (s : List ℕ) (h : IsBytes s) (e : tree_refusal w s ≡ 0) where
  pub accept_encode : encode w (decode s) ≡ s
  accept_encode = (sound w s h e).same

  pub accept_expr : is_expr (decode s) ≡ true
  accept_expr = (sound w s h e).expr

  pub size_accepted : size_of (decode s) * 16 ≡ length s
  size_accepted = meant_size w s (sound w s h e)

-- ---- the encoding of an expression is accepted

module _ (w : ℕ) (pos : 1 ≤ w) (le : w ≤ 64) where
  -- no refusal applies to the root of a span that ends in a record
  root_accept : (f : List ℕ) (k a n v : ℕ) → k ≤ 9 → (k ≡ 1 → ⊥) → n * 16 ≡ length f + 16 → (k < 2 → length f ≡ 0)
      → v < 2 ^ 64 → fields_ok k a v ≡ true → (k ≡ 9 → a < 64) → root_refusal w (f ++ record_bytes k a n w v) ≡ 0
  unfolding amount unused
  root_accept f k a n v known other sized short h fields shr =
      let hk = kind_record f k a n w v in
      let ha = byte1_record f k a n w v in
      let len = length_record f k a n w v in
      zero_of_root w (f ++ record_bytes k a n w v)
      record {
        known = rw hk known;
        length_size = rw (size_record f k a n w v, len) sized;
        leaf_length = rw (hk, len) (λ l. rw (short l));
        wide = width_record f k a n w v;
        width_pos = pos;
        width_le = le;
        clear = simp (hk, ne_eqb k 1 other) (spare_record f k a n w v);
        fields = rw (hk, ha, literal_record f k a n w v h) fields;
        shift = rw (hk, ha) shr;
      }

  literal_accept : (v : ℕ) → v < 2 ^ 64 → tree_refusal w (record_bytes 0 0 1 w v) ≡ 0
  unfolding arity fields_ok uses_byte1
  literal_accept v h =
      fold_leaf _ _ _ _ (record_bytes 0 0 1 w v) (record_big [] 0 0 1 w v) (ap arity (kind_record [] 0 0 1 w v))
      ∙ root_accept [] 0 0 1 v (omega arith) (λ e. omega arith) refl (λ _. refl) h refl (λ e. absurd (omega arith))

  variable_accept : (i : ℕ) → tree_refusal w (variable_bytes w i) ≡ 0
  unfolding arity amount unused fields_ok uses_byte1
  variable_accept i =
      let s : List ℕ = variable_bytes w i in
      let len : length s ≡ 16 = length_variable w i in
      let hk : kind s ≡ 1 = kind_variable w i in
      let hn : size s ≡ 1 = size_variable w i [] in
      fold_leaf _ _ _ _ s (omega arith) (ap arity hk)
      ∙ zero_of_root w s
      record {
        known = omega arith;
        length_size = omega arith;
        leaf_length = λ _. len;
        wide = width_variable w i;
        width_pos = pos;
        width_le = le;
        clear = simp hk (spare_high_variable w i);
        fields = simp (hk, literal_variable w i);
        shift = λ e. absurd (omega arith);
      }

  -- the root of an encoding with children below it
  inner_accept : (f : List ℕ) (k a n : ℕ) → 2 ≤ k → k ≤ 9 → n * 16 ≡ length f + 16 → (k < 9 → a ≡ 0)
      → (k ≡ 9 → a < 64) → root_refusal w (f ++ record_bytes k a n w 0) ≡ 0
  inner_accept f k a n low known sized plain shr =
      root_accept f k a n 0 known (λ e. omega arith) sized (λ h. absurd (omega arith)) (lit< tt)
      (fields_inner k a known plain) shr

  pub expr_accept : (t : Tree) → is_expr t ≡ true → tree_refusal w (encode w t) ≡ 0
  unfolding encode
  expr_accept (Constant v) e = literal_accept v (constant_of_expr v e)
  expr_accept (Variable i) e = variable_accept i
  expr_accept (Unary k a t) e =
      let u = unary_of_expr k a t e in
      let n : ℕ = size_of t + 1 in
      let f : List ℕ = encode w t in
      let s : List ℕ = f ++ record_bytes k a n w 0 in
      let ar : arity (kind s) ≡ 1 = ap arity (kind_record f k a n w 0) ∙ unary_arity k a t u in
      let ok : root_refusal w s ≡ 0 =
      inner_accept f k a n (omega (arith, u.low)) u.high (omega (arith, length_encode w t)) u.plain u.shr in
      fold_one _ _ _ _ s (record_big f k a n w 0) ar
      ∙ simp (ok, body_record f k a n w 0, expr_accept t u.child, lowest_none)
  expr_accept (Binary k l r) e =
      let b = binary_of_expr k l r e in
      let n : ℕ = size_of l + size_of r + 1 in
      let f : List ℕ = encode w l ++ encode w r in
      let s : List ℕ = f ++ record_bytes k 0 n w 0 in
      let ar : arity (kind s) ≡ 2 = ap arity (kind_record f k 0 n w 0) ∙ binary_arity k l r b in
      let len : n * 16 ≡ length f + 16 =
      omega (arith, length-append (encode w l) (encode w r), length_encode w l, length_encode w r) in
      let ok : root_refusal w s ≡ 0 =
      inner_accept f k 0 n b.low (omega (arith, b.high)) len (λ _. refl) (λ _. lit< tt) in
      let below-l = expr_accept l b.child_l in
      let below-r = expr_accept r b.child_r in
      fold_two _ _ _ _ s (record_big f k 0 n w 0) (omega arith) (omega arith)
      ∙ simp (ok, left_joined w l r k n, right_joined w l r k n, below-l, below-r, lowest_none)

-- ---- both ways

-- no refusal applies to a span just where it is the encoding of an expression
pub accepts : (w : ℕ) (s : List ℕ) → IsBytes s
    → (tree_refusal w s ≡ 0) ↔ ((1 ≤ w) × (w ≤ 64) × (t : Tree) × (is_expr t ≡ true) × (encode w t ≡ s))
accepts w s h = (
  λ e.
      let ro = accepted_root w s e in
      (ro.width_pos, ro.width_le, decode s, accept_expr w s h e, accept_encode w s h e),
  λ p. rw p.4 at (expr_accept w p.0 p.1 p.2 p.3),
)

-- the encoding of an expression of at most 1,024 records, at a width from 1 to 64
module _ (w : ℕ) (pos : 1 ≤ w) (le : w ≤ 64) (t : Tree) (e : is_expr t ≡ true) (few : size_of t ≤ 1024) where
  pub file_accept : expr_refusal (encode w t) ≡ 0
  file_accept =
      let len = length_encode w t in
      refusal_tree (encode w t) (omega (arith, size_of_pos t)) (omega arith) (omega arith)
      ∙ rw width_encode (expr_accept w pos le t e)

  pub expr_value_encode : (vars : List ℕ) → expr_value (encode w t) vars ≡ value w vars t
  expr_value_encode vars =
      expr_value_accepted (encode w t) vars file_accept (sym (width_encode w t))
      ∙ ap (value w vars) (decode_encode w t e)

-- a file is accepted just where it is such an encoding
pub file_accepts : (s : List ℕ) → IsBytes s
    → (expr_refusal s ≡ 0)
    ↔ ((w : ℕ) × (1 ≤ w) × (w ≤ 64) × (t : Tree) × (is_expr t ≡ true) × (size_of t ≤ 1024) × (encode w t ≡ s))
file_accepts s h = (
  λ e.
      let p = (accepts (width s) s h).0 (accepted_tree s e) in
      let few : size_of p.2 ≤ 1024 =
      omega (arith, length_encode (width s) p.2, ap length p.4, accepted_length s e) in
      (width s, p.0, p.1, p.2, p.3, few, p.4),
  λ p. rw p.6 at (file_accept p.0 p.1 p.2 p.3 p.4 p.5),
)

-- such a file has 16 to 16,384 bytes, a multiple of 16
pub file_length : (s : List ℕ) → expr_refusal s ≡ 0 → (16 ≤ length s) × (length s ≤ 2 ^ 14) × (length s % 16 ≡ 0)
file_length s e =
    let ok = accepted_tree s e in
    let n : size s * 16 ≡ length s = (accepted_root (width s) s ok).length_size in
    (accepted_big (width s) s ok, accepted_length s e, omega arith)
