-- Laws of specs/Refusal.antt: what it says of a root and of a span that no refusal applies.
use mathlib.Core.Path.{◌≡◌, refl, sym, ◌∙◌}
use Prim.Native.Nat.{ℕ, suc, ◌*◌, ◌≤◌, ◌<◌, min}
use native.Mathlib.Omega.{arith}
use native.Mathlib.Decide.{dec_lt, ℕ_discrete}
use mathlib.Core.List.{List}
use mathlib.Core.Bool.{Bool, true, false, not, ◌&&◌, ◌||◌, or-true}
use lib.Dec.{eqb, ltb, leb}
use lib.ListN.{length}
use borrow.Author.Tests.{eqb-true, leb-true, ltb-false, eq-eqb, ne_eqb, le-ltb, lt-ltb, le-leb}
use Rattle.base.specs.Choice.{when}
use Rattle.record.specs.Fields.{kind, byte1, size, width, amount, literal, spare, arity}
use Rattle.record.specs.Span.{body, left, right, sized}
use Rattle.record.proofs.SpanLaws.{fold_none, fold_leaf, fold_one, fold_two, span_ind}
use Rattle.base.proofs.BoolLaws.{false_true, and_true}
use Rattle.record.proofs.FieldsLaws.{kind_of_arity_zero}
use Rattle.expr_refusal.specs.Refusal.{lowest, uses_byte1, fields_ok, unused, size_ok, form_ok, width_ok}
use Rattle.expr_refusal.specs.Refusal.{root_refusal, tree_refusal}

-- neither of two refusals
pub lowest_zero : (a b : ℕ) → lowest a b ≡ 0 → (a ≡ 0) × (b ≡ 0)
unfolding lowest
lowest_zero a b e = go (ℕ_discrete a 0) (ℕ_discrete b 0)
  where
    go : Dec (a ≡ 0) → Dec (b ≡ 0) → (a ≡ 0) × (b ≡ 0)
    go (yes p) (yes q) = (p, q)
    go (yes p) (no q) = (p, simp (eq-eqb a 0 p) at e)
    go (no p) (yes q) = let z : a ≡ 0 = simp (ne_eqb a 0 p, eq-eqb b 0 q) at e in (z, q)
    go (no p) (no q) =
        let z : min a b ≡ 0 = simp (ne_eqb a 0 p, ne_eqb b 0 q) at e in
        absurd (omega arith)

pub lowest_none : lowest 0 0 ≡ 0
unfolding lowest
lowest_none = refl

-- what it says of a root that no refusal applies to it
pub record Root (w : ℕ) (s : List ℕ) : Type 0 where
  pub known : kind s ≤ 9
  pub length_size : size s * 16 ≡ length s
  pub leaf_length : kind s < 2 → length s ≡ 16
  pub wide : width s ≡ w
  pub width_pos : 1 ≤ w
  pub width_le : w ≤ 64
  pub clear : unused s ≡ 0
  pub fields : fields_ok (kind s) (byte1 s) (literal s) ≡ true
  pub shift : kind s ≡ 9 → amount s < 64

-- the bytes 5 to 7 of a root that is no variable
pub root_spare : (w : ℕ) (s : List ℕ) → Root w s → (kind s ≡ 1 → ⊥) → spare s ≡ 0
unfolding unused
root_spare w s r h = simp (ne_eqb (kind s) 1 h) at r.clear

or_false_l : (a b : Bool) → a ≡ false → a || b ≡ true → b ≡ true
or_false_l a b p e = simp p at e

-- the literal and byte 1 of a kind that has no use for them
pub fields_literal : (k a v : ℕ) → fields_ok k a v ≡ true → (k ≡ 0 → ⊥) → v ≡ 0
unfolding fields_ok
fields_literal k a v e h =
    eqb-true v 0
    (or_false_l (eqb k 0) (eqb v 0) (ne_eqb k 0 h) (and_true (eqb k 0 || eqb v 0) (uses_byte1 k || eqb a 0) e).0)

pub fields_byte1 : (k a v : ℕ) → fields_ok k a v ≡ true → (k ≡ 1 → ⊥) → k < 9 → a ≡ 0
unfolding fields_ok uses_byte1
fields_byte1 k a v e h l =
    let unused : uses_byte1 k ≡ false = simp (ne_eqb k 1 h, le-ltb 8 k (omega arith)) in
    eqb-true a 0
    (or_false_l (uses_byte1 k) (eqb a 0) unused (and_true (eqb k 0 || eqb v 0) (uses_byte1 k || eqb a 0) e).1)

-- and back, for the kinds with children
pub fields_inner : (k a : ℕ) → k ≤ 9 → (k < 9 → a ≡ 0) → fields_ok k a 0 ≡ true
unfolding fields_ok uses_byte1
fields_inner k a h plain = go (ℕ_discrete k 9)
  where
    go : Dec (k ≡ 9) → fields_ok k a 0 ≡ true
    go (yes p) = rw p
    go (no p) = simp (plain (omega arith), or-true)

-- the four tests of a root, all passed
record Passed (w : ℕ) (s : List ℕ) : Type 0 where
  form : form_ok s ≡ true
  wide : width_ok w (width s) ≡ true
  plain : ltb 9 (kind s) ≡ false
  shift : eqb (kind s) 9 && ltb 63 (amount s) ≡ false

three_zero : {A : Type 0} {n : ℕ} → suc n ≡ 0 → A
three_zero e = absurd (omega arith)

passed : (w : ℕ) (s : List ℕ) → root_refusal w s ≡ 0 → Passed w s
unfolding root_refusal
passed w s e =
    go (form_ok s) (width_ok w (width s)) (ltb 9 (kind s)) (eqb (kind s) 9 && ltb 63 (amount s)) refl refl refl refl e
  where
    go : (a b c d : Bool) → form_ok s ≡ a → width_ok w (width s) ≡ b → ltb 9 (kind s) ≡ c
        → eqb (kind s) 9 && ltb 63 (amount s) ≡ d
        → ◌≡◌ {A = ℕ}
        (when (not a) (λ _. 3) (λ _. when (not b) (λ _. 4) (λ _. when c (λ _. 5) (λ _. when d (λ _. 6) (λ _. 0))))) 0
        → Passed w s
    go true true false false p q r t z = record { form = p; wide = q; plain = r; shift = t }
    go false b c d p q r t z = three_zero z
    go true false c d p q r t z = three_zero z
    go true true true d p q r t z = three_zero z
    go true true false true p q r t z = three_zero z

shift_lt : (s : List ℕ) → eqb (kind s) 9 && ltb 63 (amount s) ≡ false → kind s ≡ 9 → amount s < 64
shift_lt s e h =
    let z : ltb 63 (amount s) ≡ false = simp (eq-eqb (kind s) 9 h) at e in
    omega (arith, ltb-false 63 (amount s) z)

leaf_size : (s : List ℕ) → not (ltb (kind s) 2) || eqb (length s) 16 ≡ true → kind s < 2 → length s ≡ 16
leaf_size s e h = eqb-true _ _ (simp (lt-ltb (kind s) 2 h) at e)

not_eqb : (v : ℕ) → not (eqb v 0) ≡ true → 1 ≤ v
not_eqb v e = go (ℕ_discrete v 0)
  where
    go : Dec (v ≡ 0) → 1 ≤ v
    go (yes p) = false_true (simp (eq-eqb v 0 p) at e)
    go (no p) = omega arith

pub root_of_zero : (w : ℕ) (s : List ℕ) → root_refusal w s ≡ 0 → Root w s
unfolding form_ok size_ok width_ok
root_of_zero w s e =
    let p = passed w s e in
    let fo : Bool = fields_ok (kind s) (byte1 s) (literal s) in
    let f1 = and_true (leb (kind s) 13) (size_ok s && (eqb (unused s) 0 && fo)) p.form in
    let f2 = and_true (size_ok s) (eqb (unused s) 0 && fo) f1.1 in
    let f3 = and_true (eqb (unused s) 0) fo f2.1 in
    let z = and_true (eqb (size s * 16) (length s)) (not (ltb (kind s) 2) || eqb (length s) 16) f2.0 in
    let v1 = and_true (not (eqb (width s) 0)) (leb (width s) 64 && eqb (width s) w) p.wide in
    let v2 = and_true (leb (width s) 64) (eqb (width s) w) v1.1 in
    let same : width s ≡ w = eqb-true _ _ v2.1 in
    record {
      known = ltb-false _ _ p.plain;
      length_size = eqb-true _ _ z.0;
      leaf_length = leaf_size s z.1;
      wide = same;
      width_pos = omega (arith, not_eqb (width s) v1.0);
      width_le = omega (arith, leb-true (width s) 64 v2.0);
      clear = eqb-true _ _ f3.0;
      fields = f3.1;
      shift = shift_lt s p.shift;
    }

-- and back
pub zero_of_root : (w : ℕ) (s : List ℕ) → Root w s → root_refusal w s ≡ 0
unfolding root_refusal form_ok size_ok width_ok
zero_of_root w s h =
    simp (
      le-leb (kind s) 13 (omega (arith, h.known)),
      eq-eqb (size s * 16) (length s) h.length_size,
      leaf (dec_lt (kind s) 2),
      eq-eqb (unused s) 0 h.clear,
      h.fields,
      h.wide,
      ne_eqb w 0 (omega (arith, h.width_pos)),
      le-leb w 64 h.width_le,
      eq-eqb w w refl,
      le-ltb 9 (kind s) h.known,
      low (ℕ_discrete (kind s) 9),
    )
  where
    leaf : Dec (kind s < 2) → not (ltb (kind s) 2) || eqb (length s) 16 ≡ true
    leaf (yes l) = simp (eq-eqb (length s) 16 (h.leaf_length l), or-true)
    leaf (no l) = simp (le-ltb (kind s) 2 (omega arith))

    low : Dec (kind s ≡ 9) → eqb (kind s) 9 && ltb 63 (amount s) ≡ false
    low (yes l) = simp (eq-eqb (kind s) 9 l, le-ltb 63 (amount s) (omega (arith, h.shift l)))
    low (no l) = simp (ne_eqb (kind s) 9 l)

-- a span to which no refusal applies: its root's, and its children's
module _ (w : ℕ) (s : List ℕ) (e : tree_refusal w s ≡ 0) where
  pub accepted_big : 16 ≤ length s
  accepted_big = go (dec_lt (length s) 16)
    where
      go : Dec (length s < 16) → 16 ≤ length s
      go (yes h) = three_zero (sym (fold_none _ _ _ _ s h) ∙ e)
      go (no h) = omega arith

  pub accepted_leaf : arity (kind s) ≡ 0 → Root w s
  accepted_leaf a = root_of_zero w s (sym (fold_leaf _ _ _ _ s accepted_big a) ∙ e)

  one_parts : arity (kind s) ≡ 1 → (root_refusal w s ≡ 0) × (tree_refusal w (body s) ≡ 0)
  one_parts a = lowest_zero _ _ (sym (fold_one _ _ _ _ s accepted_big a) ∙ e)

  two_parts : (arity (kind s) ≡ 0 → ⊥) → (arity (kind s) ≡ 1 → ⊥)
      → (root_refusal w s ≡ 0) × (lowest (tree_refusal w (left s)) (tree_refusal w (right s)) ≡ 0)
  two_parts p q = lowest_zero _ _ (sym (fold_two _ _ _ _ s accepted_big p q) ∙ e)

  pub accepted_root : Root w s
  accepted_root = go (ℕ_discrete (arity (kind s)) 0) (ℕ_discrete (arity (kind s)) 1)
    where
      go : Dec (arity (kind s) ≡ 0) → Dec (arity (kind s) ≡ 1) → Root w s
      go (yes a) d = accepted_leaf a
      go (no p) (yes a) = root_of_zero w s (one_parts a).0
      go (no p) (no q) = root_of_zero w s (two_parts p q).0

  pub accepted_body : arity (kind s) ≡ 1 → tree_refusal w (body s) ≡ 0
  accepted_body a = (one_parts a).1

  pub accepted_left : (arity (kind s) ≡ 0 → ⊥) → (arity (kind s) ≡ 1 → ⊥) → tree_refusal w (left s) ≡ 0
  accepted_left p q = (lowest_zero _ _ (two_parts p q).1).0

  pub accepted_right : (arity (kind s) ≡ 0 → ⊥) → (arity (kind s) ≡ 1 → ⊥) → tree_refusal w (right s) ≡ 0
  accepted_right p q = (lowest_zero _ _ (two_parts p q).1).1

-- the size fields of an accepted span are right: the walks below the validator may be called
module _ (w : ℕ) where
  Fit : List ℕ → Type 0
  Fit s = tree_refusal w s ≡ 0 → sized s ≡ true

  fit_none : (s : List ℕ) → length s < 16 → Fit s
  unfolding Fit
  fit_none s h e = absurd (omega (arith, accepted_big w s e))

  fit_leaf : (s : List ℕ) → 16 ≤ length s → arity (kind s) ≡ 0 → Fit s
  unfolding Fit
  fit_leaf s big a e =
      let ro = accepted_leaf w s e a in
      fold_leaf _ _ _ _ s big a
      ∙ simp (eq-eqb _ _ ro.length_size, eq-eqb _ _ (ro.leaf_length (kind_of_arity_zero _ a)))

  fit_one : (s : List ℕ) → 16 ≤ length s → arity (kind s) ≡ 1 → Fit (body s) → Fit s
  unfolding Fit
  fit_one s big a below e =
      fold_one _ _ _ _ s big a
      ∙ simp (eq-eqb _ _ (accepted_root w s e).length_size, below (accepted_body w s e a))

  fit_two : (s : List ℕ) → 16 ≤ length s → (arity (kind s) ≡ 0 → ⊥) → (arity (kind s) ≡ 1 → ⊥)
      → Fit (left s) → Fit (right s) → Fit s
  unfolding Fit
  fit_two s big p q below-l below-r e =
      fold_two _ _ _ _ s big p q
      ∙ simp (
        eq-eqb _ _ (accepted_root w s e).length_size,
        below-l (accepted_left w s e p q),
        below-r (accepted_right w s e p q),
      )

  pub sized_accepted : (s : List ℕ) → tree_refusal w s ≡ 0 → sized s ≡ true
  unfolding Fit
  sized_accepted = span_ind Fit fit_none fit_leaf fit_one fit_two
