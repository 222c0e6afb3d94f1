-- Laws of specs/Decompose.antt and specs/Basis.antt: the view of a span by its root's kind, and a split on its way.
use mathlib.Core.Path.{◌≡◌, refl, ap, sym, ◌∙◌}
use Prim.Native.Nat.{ℕ, ◌+◌, ◌-◌, ◌^◌, ◌≤◌, ◌<◌}
use native.Mathlib.Omega.{arith}
use native.Mathlib.Nat.{sub-zero, add-zero}
use native.Mathlib.Decide.{ℕ_discrete}
use mathlib.Core.List.{List, []}
use mathlib.Core.Bool.{Bool, true, false, not, ◌||◌, or-false}
use lib.ListN.{length, take, drop, length-take, length-drop}
use lib.Seq.{take-length}
use lib.Bits.{bit_and, and_comm}
use lib.Pow.{pow_pos}
use lib.Dec.{eqb}
use borrow.Author.Tests.{eq-eqb, ne_eqb, not-true, not-false}
use Rattle.arith.specs.Width.{bitmask}
use Rattle.arith.proofs.WidthLaws.{bitmask_ones}
use Rattle.arith.proofs.MaskLaws.{and_assoc, and_below, and_full}
use Rattle.base.proofs.BoolLaws.{false_true}
use Rattle.base.proofs.PartLaws.{part_part}
use Rattle.record.specs.Fields.{kind, var_index, arity}
use Rattle.record.specs.Span.{cut, left, right, sized}
use Rattle.record.specs.Tree.{Tree}
use Rattle.record.specs.Tree.Tree.{Variable}
use Rattle.record.specs.Decode.{leaf, decode}
use Rattle.record.proofs.FieldsLaws.{arity_zero_of_lt, arity_two_of_le, kind_of_arity_zero}
use Rattle.record.proofs.SpanLaws.{cut_le}
use Rattle.record.proofs.SizedLaws.{sized_big, sized_left, sized_right}
use Rattle.record.proofs.DecodeLaws.{decode_leaf, decode_one, decode_two}
use Rattle.expr_refusal.specs.Refusal.{tree_refusal}
use Rattle.expr_refusal.proofs.RefusalLaws.{accepted_left, accepted_right}
use Rattle.expr_utils.specs.Utils.{has_kind, has_var_dep, is_constant_subtree}
use Rattle.expr.specs.Value.{value}
use Rattle.expr.proofs.ValueLaws.{value_lt}
use Rattle.decompose.specs.declared.Basis.{Basis}
use Rattle.decompose.specs.Decompose.{Decomposed, no_basis, masked, under_mask, decompose_and, decompose_atom}
use Rattle.decompose.specs.declared.Side.{Side}
use Rattle.decompose.specs.declared.Side.TheVariants.{Left, Right}
use Rattle.std.specs.Prelude.{None, Some}
use Rattle.std.proofs.lemmas.Option.{none-some, same_Some}
use Rattle.base.specs.Choice.{when}
use Rattle.decompose.specs.Basis.{basis_span, free_side, BasisOf, Part, SplitTo, Splits, unsplit_view}

-- ---- the view of a span, by its root's kind

module _ (w : ℕ) (s : List ℕ) (ok : sized s ≡ true) where
  decoded_variable : kind s ≡ 1 → decode s ≡ Variable (var_index s)
  unfolding leaf
  decoded_variable hk =
      let a : arity (kind s) ≡ 0 = arity_zero_of_lt (kind s) (omega arith) in
      decode_leaf s ok refl a ∙ simp (ne_eqb (kind s) 0 (omega arith))

  -- a root that is neither
  view_other : (kind s ≡ 1 → ⊥) → (kind s ≡ 4 → ⊥) → decompose_atom w (decode s) ≡ no_basis
  unfolding decompose_atom leaf
  view_other p q = go (ℕ_discrete (arity (kind s)) 0) (ℕ_discrete (arity (kind s)) 1)
    where
      go : Dec (arity (kind s) ≡ 0) → Dec (arity (kind s) ≡ 1) → decompose_atom w (decode s) ≡ no_basis
      go (yes a) d =
          let z : kind s ≡ 0 = omega (arith, kind_of_arity_zero (kind s) a) in
          rw (decode_leaf s ok refl a) (simp (eq-eqb (kind s) 0 z))
      go (no n) (yes a) = rw (decode_one s ok refl a refl)
      go (no n) (no m) = rw (decode_two s ok refl n m refl refl) (simp (ne_eqb (kind s) 4 q))

  -- an And, by what is known of its sides
  module _ (hk : kind s ≡ 4) where
    two : arity (kind s) ≡ 2
    two = arity_two_of_le (kind s) (omega arith) (omega arith)

    not_zero : arity (kind s) ≡ 0 → ⊥
    not_zero e = omega (arith, two)

    not_one : arity (kind s) ≡ 1 → ⊥
    not_one e = omega (arith, two)

    sides : decompose_atom w (decode s)
        ≡ decompose_and w (decode (left s)) (decode (right s)) (decompose_atom w (decode (left s)))
        (decompose_atom w (decode (right s)))
    unfolding decompose_atom
    sides = rw (decode_two s ok refl not_zero not_one refl refl) (simp (eq-eqb (kind s) 4 hk))

    pub sized_sides : (sized (left s) ≡ true) × (sized (right s) ≡ true)
    sized_sides = (sized_left s ok not_zero not_one, sized_right s ok not_zero not_one)

    accepted_sides : tree_refusal w s ≡ 0 → (tree_refusal w (left s) ≡ 0) × (tree_refusal w (right s) ≡ 0)
    accepted_sides e = (accepted_left w s e not_zero not_one, accepted_right w s e not_zero not_one)

    -- both sides have a variable
    view_neither : is_constant_subtree (decode (left s)) ≡ false → is_constant_subtree (decode (right s)) ≡ false
        → decompose_atom w (decode s) ≡ no_basis
    unfolding decompose_and
    view_neither hl hr = sides ∙ simp (hl, hr)

    view_left : is_constant_subtree (decode (left s)) ≡ false → is_constant_subtree (decode (right s)) ≡ true
        → decompose_atom w (decode s)
        ≡ under_mask (value w [] (decode (right s))) (decode (left s)) (decompose_atom w (decode (left s)))
    unfolding decompose_and
    view_left hl hr = sides ∙ simp (hl, hr)

    view_right : is_constant_subtree (decode (left s)) ≡ true → is_constant_subtree (decode (right s)) ≡ false
        → decompose_atom w (decode s)
        ≡ under_mask (value w [] (decode (left s))) (decode (right s)) (decompose_atom w (decode (right s)))
    unfolding decompose_and
    view_right hl hr = sides ∙ simp (hl, hr)

    -- where the tree has a variable and one side has none, the other has one
    module _ (hv : has_var_dep (decode s) ≡ true) where
      either : has_var_dep (decode (left s)) || has_var_dep (decode (right s)) ≡ true
      unfolding has_kind
      either =
          let d = decode_two s ok refl not_zero not_one refl refl in
          simp (ne_eqb (kind s) 1 (omega arith)) at (rw d at hv)

      pub right_open : is_constant_subtree (decode (left s)) ≡ true → is_constant_subtree (decode (right s)) ≡ false
      right_open e = ap not (simp (not-true (has_var_dep (decode (left s))) e) at either)

      pub left_open : is_constant_subtree (decode (right s)) ≡ true → is_constant_subtree (decode (left s)) ≡ false
      left_open e =
          ap not
          (sym (or-false (has_var_dep (decode (left s))))
          ∙ simp (not-true (has_var_dep (decode (right s))) e) at either)

-- ---- a split on its way

under_under : (m v : ℕ) (t l : Tree) (d : Decomposed) → under_mask m t (under_mask v l d) ≡ under_mask (bit_and m v) l d
unfolding under_mask
under_under m v t l no_basis = refl
under_under m v t l (masked b n) = ap (masked b) (sym (and_assoc m v n))

is_left : Side → Bool
is_left Left = true
is_left Right = false

sides_differ : Left ≡ Right → ⊥
unfolding is_left
sides_differ e = false_true (sym (ap is_left e))

-- x is a split of s on its way: its part, under its mask, has the view of s
pub record Splitting (w : ℕ) (s : List ℕ) (x : Basis) : Type 0 where
  pub part : Part w s x
  pub view : under_mask x.mask (decode (basis_span s x)) (decompose_atom w (decode (basis_span s x)))
      ≡ decompose_atom w (decode s)

-- the whole tree, under the full mask
module _ (w : ℕ) (s : List ℕ) (hw : w ≤ 64) (ok : sized s ≡ true) (hv : has_var_dep (decode s) ≡ true) {m : ℕ}
    (em : m ≡ bitmask w) where
  abbrev whole : Basis
  whole = record { start = 0; end = length s; mask = m }

  ones : m ≡ 2 ^ w - 1
  ones = em ∙ bitmask_ones w hw

  all : basis_span s whole ≡ s
  unfolding basis_span
  all = rw sub-zero (take-length s)

  pub whole_part : Part w s whole
  whole_part =
      record {
        start_le = omega arith;
        end_le = omega arith;
        ok = rw all ok;
        accepted = λ e. rw all e;
        variable = rw all hv;
        mask_lt = omega (arith, ones, pow_pos w);
      }

  -- a variable
  pub whole_variable : kind s ≡ 1 → BasisOf w s whole
  unfolding decompose_atom
  whole_variable hk =
      record {
        view = rw all (rw (decoded_variable w s ok hk) (ap (masked (Variable (var_index s))) (sym ones)));
        start_le = omega arith;
        end_le = omega arith;
        ok = rw all ok;
        accepted = λ e. rw all e;
      }

  -- no variable, and no mask
  pub whole_none : (kind s ≡ 1 → ⊥) → Splits w s whole None → decompose_atom w (decode s) ≡ no_basis
  unfolding unsplit_view
  whole_none n h =
      let h' : decompose_atom w (decode s) ≡ when (eqb (kind s) 1) (λ _. masked (decode s) (2 ^ w - 1)) (λ _. no_basis) = rw all at h in
      h' ∙ simp (ne_eqb (kind s) 1 n)

  pub whole_some : (y : Basis) → SplitTo w s whole y → Splitting w s y
  whole_some y h =
      record {
        part = h.part;
        view =
            ap (λ (n : ℕ). under_mask n (decode (basis_span s y)) (decompose_atom w (decode (basis_span s y))))
            (h.mask ∙ ap (λ (n : ℕ). bit_and n h.by) ones ∙ and_comm (2 ^ w - 1) h.by ∙ and_full w h.by h.by_lt)
            ∙ sym h.view
            ∙ ap (λ (l : List ℕ). decompose_atom w (decode l)) all;
      }

module _ (w : ℕ) (s : List ℕ) (x : Basis) where
  abbrev b : List ℕ
  b = basis_span s x

  -- one mask more
  pub split_on : (y : Basis) → Splitting w s x → SplitTo w s x y → Splitting w s y
  split_on y h t =
      record {
        part = t.part;
        view =
            ap (λ (n : ℕ). under_mask n (decode (basis_span s y)) (decompose_atom w (decode (basis_span s y)))) t.mask
            ∙ sym (under_under x.mask t.by (decode b) (decode (basis_span s y)) (decompose_atom w (decode (basis_span s y))))
            ∙ ap (under_mask x.mask (decode b)) (sym t.view)
            ∙ h.view;
      }

  -- no more: what is left is the basis
  pub split_end : Splitting w s x → Splits w s x None → BasisOf w s x
  unfolding unsplit_view under_mask
  split_end h e =
      record {
        view = sym h.view ∙ ap (under_mask x.mask (decode b)) e ∙ go (eqb (kind b) 1) refl;
        start_le = h.part.start_le;
        end_le = h.part.end_le;
        ok = h.part.ok;
        accepted = h.part.accepted;
      }
    where
      go : (y : Bool) → eqb (kind b) 1 ≡ y
          → under_mask x.mask (decode b) (when (eqb (kind b) 1) (λ _. masked (decode b) (2 ^ w - 1)) (λ _. no_basis))
          ≡ masked (decode b) x.mask
      go true k = simp k (ap (masked (decode b)) (and_full w x.mask h.part.mask_lt))
      go false k = simp k

module _ (w : ℕ) (s : List ℕ) (x : Basis) (h : Part w s x) where
  abbrev c : List ℕ
  c = basis_span s x

  c_length : length c ≡ x.end - x.start
  unfolding basis_span
  c_length = length-take (x.end - x.start) (drop x.start s) ∙ omega (arith, length-drop x.start s, h.end_le)

  pub basis_big : 16 ≤ length c
  basis_big = sized_big c h.ok

  pub span_end : 16 ≤ x.end
  span_end = omega (arith, c_length, basis_big)

  -- no And
  pub split_other : (kind c ≡ 4 → ⊥) → Splits w s x None
  unfolding unsplit_view decompose_atom
  split_other q = go (ℕ_discrete (kind c) 1)
    where
      go : Dec (kind c ≡ 1) → decompose_atom w (decode c) ≡ when (eqb (kind c) 1) (λ _. masked (decode c) (2 ^ w - 1)) (λ _. no_basis)
      go (yes e) = simp (eq-eqb (kind c) 1 e) (rw (decoded_variable w c h.ok e) refl)
      go (no p) = simp (ne_eqb (kind c) 1 p) (view_other w c h.ok p q)

  module _ (hk : kind c ≡ 4) where
    pub split_sized : (sized (left c) ≡ true) × (sized (right c) ≡ true)
    split_sized = sized_sides w c h.ok hk

    -- what the free side says
    free_none : free_side (decode (left c)) (decode (right c)) ≡ None
        → (is_constant_subtree (decode (left c)) ≡ false) × (is_constant_subtree (decode (right c)) ≡ false)
    unfolding free_side
    free_none e = go (is_constant_subtree (decode (left c))) (is_constant_subtree (decode (right c))) refl refl
      where
        go : (y z : Bool) → is_constant_subtree (decode (left c)) ≡ y → is_constant_subtree (decode (right c)) ≡ z
            → (is_constant_subtree (decode (left c)) ≡ false) × (is_constant_subtree (decode (right c)) ≡ false)
        go true z p q = absurd (none-some Left (sym e ∙ simp p))
        go false true p q = absurd (none-some Right (sym e ∙ simp (p, q)))
        go false false p q = (p, q)

    free_left : free_side (decode (left c)) (decode (right c)) ≡ Some Left → is_constant_subtree (decode (left c)) ≡ true
    unfolding free_side
    free_left e = go (is_constant_subtree (decode (left c))) (is_constant_subtree (decode (right c))) refl refl
      where
        go : (y z : Bool) → is_constant_subtree (decode (left c)) ≡ y → is_constant_subtree (decode (right c)) ≡ z
            → is_constant_subtree (decode (left c)) ≡ true
        go true z p q = p
        go false true p q = absurd (sides_differ (same_Some Left Right (sym e ∙ simp (p, q))))
        go false false p q = absurd (none-some Left (sym (sym e ∙ simp (p, q))))

    free_right : free_side (decode (left c)) (decode (right c)) ≡ Some Right
        → (is_constant_subtree (decode (left c)) ≡ false) × (is_constant_subtree (decode (right c)) ≡ true)
    unfolding free_side
    free_right e = go (is_constant_subtree (decode (left c))) (is_constant_subtree (decode (right c))) refl refl
      where
        go : (y z : Bool) → is_constant_subtree (decode (left c)) ≡ y → is_constant_subtree (decode (right c)) ≡ z
            → (is_constant_subtree (decode (left c)) ≡ false) × (is_constant_subtree (decode (right c)) ≡ true)
        go true z p q = absurd (sides_differ (sym (same_Some Right Left (sym e ∙ simp p))))
        go false true p q = (p, q)
        go false false p q = absurd (none-some Right (sym (sym e ∙ simp (p, q))))

    pub split_neither : free_side (decode (left c)) (decode (right c)) ≡ None → Splits w s x None
    unfolding unsplit_view
    split_neither e =
        let f = free_none e in
        view_neither w c h.ok hk f.0 f.1 ∙ sym (simp (ne_eqb (kind c) 1 (λ k. absurd (omega (arith, hk, k)))))

    -- where the sides stand in s
    span_left : (m : ℕ) → basis_span s (record { start = x.start; end = x.start + cut c; mask = m }) ≡ left c
    unfolding basis_span left
    span_left m =
        sym
        (ap (λ (n : ℕ). take n c) (sym (sub-zero (cut c)))
        ∙ part_part s x.start (x.end - x.start) 0 (cut c) (omega arith) (omega (arith, cut_le c, c_length))
        ∙ rw (add-zero) refl)

    span_right : (m : ℕ) → basis_span s (record { start = x.start + cut c; end = x.end - 16; mask = m }) ≡ right c
    unfolding basis_span right
    span_right m =
        let e : x.start + (length c - 16) ≡ x.end - 16 = omega (arith, c_length, basis_big, h.start_le) in
        sym
        (part_part s x.start (x.end - x.start) (cut c) (length c - 16) (cut_le c) (omega (arith, c_length))
        ∙ rw e refl)

    -- a side of the And, under the value v of the other one too
    module _ (side : List ℕ) (start end v : ℕ) where
      abbrev part : Basis
      part = record { start = start; end = end; mask = bit_and x.mask v }

      goes_on : basis_span s part ≡ side → start ≤ end → end ≤ length s → end - start < x.end - x.start
          → sized side ≡ true → is_constant_subtree (decode side) ≡ false → v < 2 ^ w
          → (tree_refusal w c ≡ 0 → tree_refusal w side ≡ 0)
          → decompose_atom w (decode c) ≡ under_mask v (decode side) (decompose_atom w (decode side)) → SplitTo w s x part
      goes_on span le inside less ok var lt accepted e =
          record {
            part =
                record {
                  start_le = le;
                  end_le = inside;
                  ok = rw span ok;
                  accepted = λ r. rw span (accepted (h.accepted r));
                  variable = rw span (not-false _ var);
                  mask_lt = and_below w x.mask v lt;
                };
            less = less;
            by = v;
            by_lt = lt;
            mask = refl;
            view = rw span e;
          }

    pub split_left : {d v : ℕ} → free_side (decode (left c)) (decode (right c)) ≡ Some Right → d ≡ cut c
        → v ≡ value w [] (decode (right c))
        → SplitTo w s x (record { start = x.start; end = x.start + d; mask = bit_and x.mask v })
    split_left {d} {v} f hc hv =
        let g = free_right f in
        rw (hc, hv)
        (goes_on (left c) x.start (x.start + cut c) (value w [] (decode (right c))) (span_left _) (omega arith)
        (omega (arith, cut_le c, c_length, h.start_le, h.end_le)) (omega (arith, cut_le c, c_length, basis_big))
        split_sized.0 g.0 (value_lt w [] (decode (right c)))
        (λ r. (accepted_sides w c h.ok hk r).0) (view_left w c h.ok hk g.0 g.1))

    pub split_right : {d v : ℕ} → free_side (decode (left c)) (decode (right c)) ≡ Some Left → d ≡ cut c
        → v ≡ value w [] (decode (left c))
        → SplitTo w s x (record { start = x.start + d; end = x.end - 16; mask = bit_and x.mask v })
    split_right {d} {v} f hc hv =
        let hl = free_left f in
        let hr = right_open w c h.ok hk h.variable hl in
        rw (hc, hv)
        (goes_on (right c) (x.start + cut c) (x.end - 16) (value w [] (decode (left c))) (span_right _)
        (omega (arith, cut_le c, c_length, basis_big, h.start_le)) (omega (arith, h.end_le))
        (omega (arith, cut_le c, c_length, basis_big)) split_sized.1 hr (value_lt w [] (decode (left c)))
        (λ r. (accepted_sides w c h.ok hk r).1) (view_right w c h.ok hk hl hr))
