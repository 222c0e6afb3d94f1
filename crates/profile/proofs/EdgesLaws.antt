-- Laws of edges (specs/Edges.antt): where an atom has no edge its profile word is that of the place before.
use mathlib.Core.Path.{◌≡◌, refl, ap, ap₂, sym, ◌∙◌}
use Prim.Native.Nat.{ℕ, zero, suc, ◌+◌, ◌-◌, ◌*◌, ◌/◌, ◌%◌, ◌^◌, ◌≤◌, ◌<◌}
use native.Mathlib.Omega.{arith}
use native.Mathlib.Decide.{ℕ_discrete}
use mathlib.Core.List.{List}
use mathlib.Core.Bool.{Bool, true, false, not, ◌&&◌}
use lib.ListN.{length}
use lib.Dec.{eqb, ltb}
use lib.Bits.{bit_or, bit_xor, differ}
use borrow.Author.Tests.{eq-eqb, ne_eqb, lt-ltb}
use Rattle.arith.specs.Bit.{bit_at}
use Rattle.arith.proofs.BitLaws.{bit_or_lem, bit_xor_lem, bit_suc, bit_mod, bit_zero, bit_lt}
use Rattle.base.specs.Choice.{when}
use Rattle.record.specs.Tree.{Tree}
use Rattle.record.specs.Tree.Tree.{Constant, Variable, Unary, Binary}
use Rattle.base.proofs.BoolLaws.{false_true, or_false}
use Rattle.expr_refusal.specs.Refusal.{is_expr}
use Rattle.expr.specs.Vars.{support}
use Rattle.expr.proofs.IsExprLaws.{unary_of_expr, binary_of_expr}
use Rattle.truth.specs.Truth.{has_shift, bit_binary, bit_of, row_bits, table_f, table}
use Rattle.partition_laws.specs.Partition.{is_opaque, profile_word}
use Rattle.profile.specs.Edges.{edges_of, atom_edges}
use Rattle.partition_laws.proofs.ProfileLaws.{tabled, profile_word_tabled, profile_word_opaque}

-- ---- literals

differ_zero : (x y : ℕ) → differ x y ≡ 0 → x ≡ y
differ_zero zero y e = sym e
differ_zero (suc x) zero e = e
differ_zero (suc x) (suc y) e = ap suc (differ_zero x y e)

-- no edge at p + 1: the bits at p + 1 and p are the same
literal_still : (v p : ℕ) → suc p < 64 → bit_at (bit_xor v (v * 2 ^ 1 % 2 ^ 64)) (suc p) ≡ 0 → bit_at v (suc p) ≡ bit_at v p
literal_still v p h e =
    let half : v * 2 ^ 1 / 2 ≡ v = omega arith in
    let below : bit_at (v * 2 ^ 1 % 2 ^ 64) (suc p) ≡ bit_at v p =
    bit_mod (v * 2 ^ 1) 64 (suc p) h ∙ bit_suc (v * 2 ^ 1) p ∙ ap (λ (x : ℕ). bit_at x p) half in
    differ_zero (bit_at v (suc p)) (bit_at v p)
    (ap (differ (bit_at v (suc p))) (sym below) ∙ sym (bit_xor_lem v (v * 2 ^ 1 % 2 ^ 64) (suc p)) ∙ e)

-- ---- trees

-- a root with one child of an expression without non-zero shifts has no amount
no_amount : (k a : ℕ) (t : Tree) → is_expr (Unary k a t) ≡ true → has_shift (Unary k a t) ≡ false → a ≡ 0
unfolding has_shift
no_amount k a t e s = go (ℕ_discrete k 9) (ℕ_discrete a 0)
  where
    shift : k ≡ 9 → (a ≡ 0 → ⊥) → eqb k 9 && not (eqb a 0) ≡ true
    shift p q = simp (eq-eqb k 9 p, ne_eqb a 0 q)

    go : Dec (k ≡ 9) → Dec (a ≡ 0) → a ≡ 0
    go p (yes z) = z
    go (yes p) (no q) =
        false_true (sym (or_false (eqb k 9 && not (eqb a 0)) (has_shift t) s).0 ∙ shift p q)
    go (no p) (no q) =
        let u = unary_of_expr k a t e in
        u.plain (omega (arith, u.high))

module _ (w p : ℕ) (hp : suc p < w) (hw : w ≤ 64) (b : ℕ → ℕ) where
  pub bit_still : (t : Tree) → is_expr t ≡ true → has_shift t ≡ false → bit_at (edges_of t) (suc p) ≡ 0
      → bit_of w (suc p) b t ≡ bit_of w p b t
  unfolding bit_of edges_of has_shift
  bit_still (Constant v) e s z = literal_still v p (omega arith) z
  bit_still (Variable i) e s z = refl
  bit_still (Unary k a t) e s z =
      let below = bit_still t (unary_of_expr k a t e).child (child_shift s) z in
      go below (no_amount k a t e s) (eqb k 7)
    where
      child_shift : has_shift (Unary k a t) ≡ false → has_shift t ≡ false
      child_shift s = (or_false (eqb k 9 && not (eqb a 0)) (has_shift t) s).1

      here : (q : ℕ) → q < w → a ≡ 0
          → when (ltb (q + a) w) (λ _. bit_of w (q + a) b t) (λ _. 0) ≡ bit_of w q b t
      here q h n =
          let m : q + a ≡ q = omega arith in
          rw m (simp (lt-ltb q w h))

      go : bit_of w (suc p) b t ≡ bit_of w p b t → a ≡ 0 → (c : Bool)
          → when c (λ _. 1 - bit_of w (suc p) b t)
          (λ _. when (ltb (suc p + a) w) (λ _. bit_of w (suc p + a) b t) (λ _. 0))
          ≡ when c (λ _. 1 - bit_of w p b t) (λ _. when (ltb (p + a) w) (λ _. bit_of w (p + a) b t) (λ _. 0))
      go below n true = ap (λ (x : ℕ). 1 - x) below
      go below n false = here (suc p) hp n ∙ below ∙ sym (here p (omega arith) n)
  bit_still (Binary k l r) e s z =
      let u = binary_of_expr k l r e in
      let m = bit_or_lem (edges_of l) (edges_of r) (suc p) in
      let zl : bit_at (edges_of l) (suc p) ≡ 0 = omega arith in
      let zr : bit_at (edges_of r) (suc p) ≡ 0 = omega arith in
      ap₂ (bit_binary k) (bit_still l u.child_l (sides s).0 zl) (bit_still r u.child_r (sides s).1 zr)
    where
      sides : has_shift (Binary k l r) ≡ false → (has_shift l ≡ false) × (has_shift r ≡ false)
      sides s = or_false (has_shift l) (has_shift r) s

module _ (w p : ℕ) (hp : suc p < w) (hw : w ≤ 64) (t : Tree) (e : is_expr t ≡ true) where
  rows_still : (n : ℕ) (vs : List ℕ) → has_shift t ≡ false → bit_at (edges_of t) (suc p) ≡ 0
      → table_f n w (suc p) vs t ≡ table_f n w p vs t
  unfolding table_f
  rows_still zero vs s z = refl
  rows_still (suc n) vs s z =
      ap₂ (λ (x y : ℕ). x + 2 ^ n * y) (rows_still n vs s z) (bit_still w p hp hw (row_bits 0 vs n) t e s z)

  -- no edge at p + 1: the profile word is that at p
  pub word_still : (i : ℕ) → bit_at (atom_edges t) (suc p) ≡ 0 → profile_word w (suc p) i t ≡ profile_word w p i t
  unfolding atom_edges table
  word_still i z = go (is_opaque t) refl z
    where
      go : (c : Bool) → is_opaque t ≡ c
          → bit_at (when c (λ _. 1) (λ _. bit_or (edges_of t) 1)) (suc p) ≡ 0
          → profile_word w (suc p) i t ≡ profile_word w p i t
      go true o z = profile_word_opaque w (suc p) i t o ∙ sym (profile_word_opaque w p i t o)
      go false o z =
          let m = bit_or_lem (edges_of t) 1 (suc p) in
          let low : bit_at (edges_of t) (suc p) ≡ 0 = omega arith in
          profile_word_tabled w (suc p) i t o
          ∙ rows_still (2 ^ length (support t)) (support t) (tabled t o).no_shift low
          ∙ sym (profile_word_tabled w p i t o)

-- place 0 is always an edge
pub edge_start : (t : Tree) → bit_at (atom_edges t) 0 ≡ 1
unfolding atom_edges
edge_start t = go (is_opaque t)
  where
    go : (c : Bool) → bit_at (when c (λ _. 1) (λ _. bit_or (edges_of t) 1)) 0 ≡ 1
    go true = bit_zero 1
    go false =
        bit_or_lem (edges_of t) 1 0 ∙ omega (arith, bit_zero 1, bit_lt (edges_of t) 0)
