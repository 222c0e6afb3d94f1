-- Laws of specs/Valid.antt: what each test says, both ways, and the equations of the recursion over terms.
use mathlib.Core.Path.{◌≡◌, refl, sym, ap, ◌∙◌}
use Prim.Native.Nat.{ℕ, zero, suc, ◌+◌, ◌^◌, ◌≤◌, ◌<◌}
use native.Mathlib.Omega.{arith}
use native.Mathlib.Nat.{le_refl}
use mathlib.Core.List.{List, [], ◌∷◌}
use mathlib.Core.Bool.{Bool, true, false, not, ◌&&◌}
use lib.ListN.{length, drop, length-drop}
use lib.Dec.{eqb, ltb, leb}
use Rattle.std.specs.Prelude.{None, Some}
use borrow.Author.Tests.{eqb-true, eqb-false, leb-true, ltb-true, eq-eqb, ne_eqb, le-leb, lt-ltb, not-true}
use Rattle.record.specs.Fields.{kind, byte1, size, width, literal, spare}
use Rattle.record.specs.Span.{body, sized}
use Rattle.record.specs.Decode.{decode}
use Rattle.base.proofs.BoolLaws.{false_true, and_true}
use Rattle.expr_refusal.specs.Refusal.{tree_refusal}
use Rattle.expr_refusal.proofs.RefusalLaws.{sized_accepted}
use Rattle.expr_utils.specs.Utils.{has_var_dep, has_arith}
use Rattle.expr.specs.Hash.{structural_hash}
use Rattle.bitwise.specs.declared.Checked.{Checked}
use Rattle.bitwise.specs.Bitwise.{bitwise_ok, checked}
use Rattle.bitwise.proofs.BitwiseLaws.{found_none, found_some}
use Rattle.semilinear.specs.Items.{provenance, front_number, front_width, front_spare, front_word, tree_span}
use Rattle.semilinear.specs.Items.{is_atom, after_atom, atom_count, atom_records, after_atoms, is_term}
use Rattle.semilinear.specs.Valid.{atom_tree_ok, tree_ok, atom_ok, atoms_ok, term_ok, terms_ok_f, terms_ok, sum_ok, front_ok}
use Rattle.semilinear.specs.Valid.{is_semilinear}
use Rattle.semilinear.specs.DecodeForm.{has_term}
use Rattle.semilinear.proofs.ItemsLaws.{fold_atom, term_big}

-- ---- the atom at the front

no_and : (a c v b : Bool) → a && not c ≡ false → (a && (v && not c)) && b ≡ false
no_and false c v b e = refl
no_and true true true b e = refl
no_and true true false b e = refl
no_and true false v b e = false_true (sym e)

bare_and : (a c v b : Bool) → v ≡ false → (a && (v && c)) && b ≡ false
bare_and false c v b e = refl
bare_and true c v b e = rw e

all_and : (a c v b : Bool) → a && not c ≡ true → v ≡ true → b ≡ (a && (v && not c)) && b
all_and false c v b e f = false_true e
all_and true true v b e f = false_true e
all_and true false v b e f = rw f

-- one walk of its tree says whether it is all right
module _ (w : ℕ) (t : List ℕ) (h : ℕ) where
  pub tree_shut : checked w t ≡ None → false ≡ tree_ok w t h
  unfolding tree_ok atom_tree_ok bitwise_ok
  tree_shut e =
      sym
      (no_and (eqb (tree_refusal w t) 0) (has_arith (decode t)) (has_var_dep (decode t))
      (eqb h (structural_hash (decode t))) (found_none w t e))

  pub tree_bare : (x : Checked) → checked w t ≡ Some x → x.variable ≡ false → false ≡ tree_ok w t h
  unfolding tree_ok atom_tree_ok
  tree_bare x e q =
      let v : has_var_dep (decode t) ≡ false = sym (ap (λ (r : Checked). r.variable) (found_some w t x e).1) ∙ q in
      sym (bare_and (eqb (tree_refusal w t) 0) (not (has_arith (decode t))) (has_var_dep (decode t)) (eqb h (structural_hash (decode t))) v)

  pub tree_open : (x : Checked) → checked w t ≡ Some x → x.variable ≡ true → eqb h x.hash ≡ tree_ok w t h
  unfolding tree_ok atom_tree_ok bitwise_ok
  tree_open x e q =
      let f = found_some w t x e in
      let v : has_var_dep (decode t) ≡ true = sym (ap (λ (r : Checked). r.variable) f.1) ∙ q in
      ap (eqb h) (ap (λ (r : Checked). r.hash) f.1)
      ∙ all_and (eqb (tree_refusal w t) 0) (has_arith (decode t)) (has_var_dep (decode t)) (eqb h (structural_hash (decode t))) f.0 v

pub record AtomParts (w : ℕ) (r : List ℕ) : Type 0 where
  pub known : provenance r ≤ 4
  pub wide : front_width r ≡ w
  pub unused : front_spare r ≡ 0
  pub accepted : tree_refusal w (tree_span r) ≡ 0
  pub bitwise : has_var_dep (decode (tree_span r)) && not (has_arith (decode (tree_span r))) ≡ true
  pub hash : front_word r ≡ structural_hash (decode (tree_span r))

module _ (w : ℕ) (r : List ℕ) where
  pub atom_parts : atom_ok w r ≡ true → AtomParts w r
  unfolding atom_ok tree_ok atom_tree_ok
  atom_parts e =
      let b1 : Bool = eqb (front_width r) w in
      let b2 : Bool = eqb (front_spare r) 0 in
      let b3 : Bool = eqb (tree_refusal w (tree_span r)) 0 in
      let b4 : Bool = has_var_dep (decode (tree_span r)) && not (has_arith (decode (tree_span r))) in
      let b5 : Bool = eqb (front_word r) (structural_hash (decode (tree_span r))) in
      let p0 = and_true (leb (provenance r) 4) (b1 && (b2 && ((b3 && b4) && b5))) e in
      let p1 = and_true b1 (b2 && ((b3 && b4) && b5)) p0.1 in
      let p2 = and_true b2 ((b3 && b4) && b5) p1.1 in
      let p3 = and_true (b3 && b4) b5 p2.1 in
      let p4 = and_true b3 b4 p3.0 in
      record {
        known = leb-true _ _ p0.0;
        wide = eqb-true _ _ p1.0;
        unused = eqb-true _ _ p2.0;
        accepted = eqb-true _ _ p4.0;
        bitwise = p4.1;
        hash = eqb-true _ _ p3.1;
      }

  pub atom_of_parts : AtomParts w r → atom_ok w r ≡ true
  unfolding atom_ok tree_ok atom_tree_ok
  atom_of_parts a =
      simp (
        le-leb _ _ a.known,
        eq-eqb _ _ a.wide,
        eq-eqb _ _ a.unused,
        eq-eqb _ _ a.accepted,
        a.bitwise,
        eq-eqb _ _ a.hash,
      )

-- an atom among good atoms is good, and those after it are
module _ (w : ℕ) (r : List ℕ) (ok : atoms_ok w r ≡ true) (e : is_atom r ≡ true) where
  pub first_atom_ok : atom_ok w r ≡ true
  first_atom_ok = (and_true (atom_ok w r) (atoms_ok w (after_atom r)) (sym (fold_atom _ _ r e) ∙ ok)).0

  pub later_atoms_ok : atoms_ok w (after_atom r) ≡ true
  later_atoms_ok = (and_true (atom_ok w r) (atoms_ok w (after_atom r)) (sym (fold_atom _ _ r e) ∙ ok)).1

  pub first_tree_sized : sized (tree_span r) ≡ true
  first_tree_sized = sized_accepted w (tree_span r) (atom_parts w r first_atom_ok).accepted

  pub first_tree_variable : has_var_dep (decode (tree_span r)) ≡ true
  first_tree_variable = (and_true _ _ (atom_parts w r first_atom_ok).bitwise).0

-- ---- the term at the front

pub record TermParts (w n next : ℕ) (q : List ℕ) : Type 0 where
  pub blank : provenance q ≡ 0
  pub low : next ≤ front_number q
  pub high : front_number q < n
  pub wide : front_width q ≡ w
  pub unused : front_spare q ≡ 0
  pub nonzero : front_word q ≡ 0 → ⊥
  pub fits : front_word q < 2 ^ w

module _ (w n next : ℕ) (q : List ℕ) where
  pub term_parts : term_ok w n next q ≡ true → TermParts w n next q
  unfolding term_ok
  term_parts e =
      let b1 : Bool = leb next (front_number q) in
      let b2 : Bool = ltb (front_number q) n in
      let b3 : Bool = eqb (front_width q) w in
      let b4 : Bool = eqb (front_spare q) 0 in
      let b5 : Bool = not (eqb (front_word q) 0) in
      let b6 : Bool = ltb (front_word q) (2 ^ w) in
      let p0 = and_true (eqb (provenance q) 0) (b1 && (b2 && (b3 && (b4 && (b5 && b6))))) e in
      let p1 = and_true b1 (b2 && (b3 && (b4 && (b5 && b6)))) p0.1 in
      let p2 = and_true b2 (b3 && (b4 && (b5 && b6))) p1.1 in
      let p3 = and_true b3 (b4 && (b5 && b6)) p2.1 in
      let p4 = and_true b4 (b5 && b6) p3.1 in
      let p5 = and_true b5 b6 p4.1 in
      record {
        blank = eqb-true _ _ p0.0;
        low = leb-true _ _ p1.0;
        high = ltb-true _ _ p2.0;
        wide = eqb-true _ _ p3.0;
        unused = eqb-true _ _ p4.0;
        nonzero = eqb-false _ _ (not-true _ p5.0);
        fits = ltb-true _ _ p5.1;
      }

  pub term_of_parts : TermParts w n next q → term_ok w n next q ≡ true
  unfolding term_ok
  term_of_parts t =
      simp (
        eq-eqb _ _ t.blank,
        le-leb _ _ t.low,
        lt-ltb _ _ t.high,
        eq-eqb _ _ t.wide,
        eq-eqb _ _ t.unused,
        ne_eqb _ _ t.nonzero,
        lt-ltb _ _ t.fits,
      )

-- ---- the terms

module _ (w n : ℕ) where
  -- any count that reaches the length gives the same
  terms_ok_f_enough : (k m next : ℕ) (q : List ℕ) → length q ≤ k → length q ≤ m
      → terms_ok_f k w n next q ≡ terms_ok_f m w n next q
  unfolding terms_ok_f
  terms_ok_f_enough zero zero next q h k = refl
  terms_ok_f_enough zero (suc m) next q h k = simp (eq-eqb (length q) 0 (omega arith))
  terms_ok_f_enough (suc k) zero next q h l = simp (eq-eqb (length q) 0 (omega arith))
  terms_ok_f_enough (suc k) (suc m) next q h l =
      go (is_term q) refl
      (λ e. terms_ok_f_enough k m (front_number q + 1) (drop 16 q) (omega (arith, length-drop 16 q, term_big q e))
      (omega (arith, length-drop 16 q, term_big q e)))
    where
      go : (b : Bool) → is_term q ≡ b
          → (is_term q ≡ true
          → terms_ok_f k w n (front_number q + 1) (drop 16 q) ≡ terms_ok_f m w n (front_number q + 1) (drop 16 q))
          → terms_ok_f (suc k) w n next q ≡ terms_ok_f (suc m) w n next q
      go true e below = simp (below e)
      go false e below = simp e

  pub terms_end : (next : ℕ) (q : List ℕ) → length q ≡ 0 → terms_ok w n next q ≡ true
  unfolding terms_ok terms_ok_f
  terms_end next q z =
      terms_ok_f_enough (length q) (suc (length q)) next q (le_refl _) (omega arith)
      ∙ simp (eq-eqb (length q) 0 z)

  pub terms_term : (next : ℕ) (q : List ℕ) → is_term q ≡ true
      → terms_ok w n next q ≡ term_ok w n next q && terms_ok w n (front_number q + 1) (drop 16 q)
  unfolding terms_ok terms_ok_f
  terms_term next q e =
      terms_ok_f_enough (length q) (suc (length q)) next q (le_refl _) (omega arith)
      ∙ simp (
        ne_eqb (length q) 0 (omega (arith, term_big q e)),
        e,
        terms_ok_f_enough (length q) (length (drop 16 q)) (front_number q + 1) (drop 16 q)
            (omega (arith, length-drop 16 q)) (le_refl _),
      )

  pub terms_other : (next : ℕ) (q : List ℕ) → (length q ≡ 0 → ⊥) → is_term q ≡ false
      → terms_ok w n next q ≡ false
  unfolding terms_ok terms_ok_f
  terms_other next q h e =
      terms_ok_f_enough (length q) (suc (length q)) next q (le_refl _) (omega arith)
      ∙ simp (ne_eqb (length q) 0 h, e)

  -- what it says that q is terms, where a term stands at the front and where none does
  pub terms_first : (next : ℕ) (q : List ℕ) → terms_ok w n next q ≡ true → is_term q ≡ true
      → (term_ok w n next q ≡ true) × (terms_ok w n (front_number q + 1) (drop 16 q) ≡ true)
  terms_first next q ok e =
      and_true (term_ok w n next q) (terms_ok w n (front_number q + 1) (drop 16 q)) (sym (terms_term next q e) ∙ ok)

  pub terms_nil : (next : ℕ) (q : List ℕ) → terms_ok w n next q ≡ true → is_term q ≡ false → [] ≡ q
  terms_nil next [] ok e = refl
  terms_nil next (x ∷ q) ok e = false_true (sym (terms_other next (x ∷ q) (omega arith) e) ∙ ok)

  -- terms of atoms from number i on, where the term of atom i is not among them
  pub terms_later : (i : ℕ) (q : List ℕ) → terms_ok w n i q ≡ true → has_term i q ≡ false
      → terms_ok w n (i + 1) q ≡ true
  unfolding has_term
  terms_later i q ok h = go (is_term q) refl
    where
      go : (b : Bool) → is_term q ≡ b → terms_ok w n (i + 1) q ≡ true
      go true e =
          let p = terms_first i q ok e in
          let t = term_parts w n i q p.0 in
          let z : eqb (front_number q) i ≡ false = simp e at h in
          let d : front_number q ≡ i → ⊥ = eqb-false _ _ z in
          let u : TermParts w n (i + 1) q =
          record {
            blank = t.blank;
            low = omega (arith, t.low);
            high = t.high;
            wide = t.wide;
            unused = t.unused;
            nonzero = t.nonzero;
            fits = t.fits;
          } in
          terms_term (i + 1) q e ∙ simp (term_of_parts w n (i + 1) q u, p.1)
      go false e = rw (← terms_nil i q ok e) (terms_end (i + 1) [] refl)

-- ---- the sum record and the whole

pub record SumParts (s : List ℕ) : Type 0 where
  pub big : 16 ≤ length s
  pub kind_sum : kind s ≡ 32
  pub blank : byte1 s ≡ 0
  pub no_size : size s ≡ 0
  pub unused : spare s ≡ 0
  pub width_pos : 1 ≤ width s
  pub width_le : width s ≤ 64
  pub fits : literal s < 2 ^ width s

pub sum_parts : (s : List ℕ) → sum_ok s ≡ true → SumParts s
unfolding sum_ok
sum_parts s e =
    let b1 : Bool = eqb (kind s) 32 in
    let b2 : Bool = eqb (byte1 s) 0 in
    let b3 : Bool = eqb (size s) 0 in
    let b4 : Bool = eqb (spare s) 0 in
    let b5 : Bool = leb 1 (width s) in
    let b6 : Bool = leb (width s) 64 in
    let b7 : Bool = ltb (literal s) (2 ^ width s) in
    let p0 = and_true (leb 16 (length s)) (b1 && (b2 && (b3 && (b4 && (b5 && (b6 && b7)))))) e in
    let p1 = and_true b1 (b2 && (b3 && (b4 && (b5 && (b6 && b7))))) p0.1 in
    let p2 = and_true b2 (b3 && (b4 && (b5 && (b6 && b7)))) p1.1 in
    let p3 = and_true b3 (b4 && (b5 && (b6 && b7))) p2.1 in
    let p4 = and_true b4 (b5 && (b6 && b7)) p3.1 in
    let p5 = and_true b5 (b6 && b7) p4.1 in
    let p6 = and_true b6 b7 p5.1 in
    record {
      big = leb-true _ _ p0.0;
      kind_sum = eqb-true _ _ p1.0;
      blank = eqb-true _ _ p2.0;
      no_size = eqb-true _ _ p3.0;
      unused = eqb-true _ _ p4.0;
      width_pos = leb-true _ _ p5.0;
      width_le = leb-true _ _ p6.0;
      fits = ltb-true _ _ p6.1;
    }

pub record FrontParts (w : ℕ) (f : List ℕ) : Type 0 where
  pub atoms : atoms_ok w f ≡ true
  pub atoms_le : atom_count f ≤ 256
  pub records_le : atom_records f ≤ 3072
  pub terms : terms_ok w (atom_count f) 0 (after_atoms f) ≡ true

pub front_parts : (w : ℕ) (f : List ℕ) → front_ok w f ≡ true → FrontParts w f
unfolding front_ok
front_parts w f e =
    let b1 : Bool = leb (atom_count f) 256 in
    let b2 : Bool = leb (atom_records f) 3072 in
    let b3 : Bool = terms_ok w (atom_count f) 0 (after_atoms f) in
    let p0 = and_true (atoms_ok w f) (b1 && (b2 && b3)) e in
    let p1 = and_true b1 (b2 && b3) p0.1 in
    let p2 = and_true b2 b3 p1.1 in
    record { atoms = p0.0; atoms_le = leb-true _ _ p1.0; records_le = leb-true _ _ p2.0; terms = p2.1 }

pub semilinear_parts : (s : List ℕ) → is_semilinear s ≡ true → SumParts s × FrontParts (width s) (body s)
unfolding is_semilinear
semilinear_parts s e =
    let p = and_true (sum_ok s) (front_ok (width s) (body s)) e in
    (sum_parts s p.0, front_parts (width s) (body s) p.1)
