-- Laws of specs/Scan.antt and of the scans: the test that a number has w bits, and what holds after some atoms, or
-- some terms, were passed.
use mathlib.Core.Path.{◌≡◌, refl, ap, ap₂, sym, ◌∙◌}
use Prim.Native.Nat.{ℕ, ◌+◌, ◌-◌, ◌*◌, ◌^◌, ◌≤◌, ◌<◌}
use native.Mathlib.Omega.{arith}
use native.Mathlib.Decide.{dec_lt}
use native.Mathlib.Nat.{le_of_lt, min-eq_right}
use mathlib.Core.List.{List, [], ◌∷◌}
use mathlib.Core.Bool.{Bool, true, false, ◌&&◌}
use lib.ListN.{length, drop, length-drop}
use lib.Seq.{drop-drop}
use lib.Dec.{ltb, leb}
use lib.Pow.{pow_pos, pow_mono}
use native.Mathlib.Decide.{ℕ_discrete}
use lib.Dec.{eqb}
use Rattle.semilinear.specs.declared.items.Term.{Term}
use Rattle.semilinear.specs.Atoms.{FrontTerm, given_term_ok}
use borrow.Author.Tests.{eq-eqb, ne_eqb, le-leb, lt-leb, lt-ltb, le-ltb}
use Rattle.arith.specs.Width.{bitmask}
use Rattle.arith.proofs.WidthLaws.{bitmask_ones}
use Rattle.semilinear.specs.Items.{front_number, atom_length, is_atom, after_atom, atom_count, atom_records, after_atoms}
use Rattle.semilinear.specs.Items.{is_term, fold_atoms}
use Rattle.std.specs.List.{list_all}
use Rattle.semilinear.specs.declared.items.Atom.{Atom}
use Rattle.semilinear.specs.Atoms.{FrontAtom, given_ok}
use Rattle.semilinear.specs.Valid.{atom_ok, atoms_ok, term_ok, terms_ok}
use Rattle.semilinear.specs.Scan.{IsAtomTable}
use Rattle.semilinear.proofs.ItemsLaws.{atom_room, length_tree_span, fold_atom, fold_done, atoms_ind, term_big}
use Rattle.semilinear.proofs.ValidLaws.{terms_term, terms_end, terms_other}

-- ---- numbers of w bits

bitmask_word : (w : ℕ) → 64 < w → bitmask w ≡ 2 ^ 64 - 1
unfolding bitmask
bitmask_word w h = ap (λ (k : ℕ). 2 ^ k - 1) (min-eq_right (le_of_lt h))

-- a 64-bit word has w bits where it is at most the mask of w bits, also for a width above 64
pub leb_bitmask : (x w : ℕ) → x < 2 ^ 64 → leb x (bitmask w) ≡ ltb x (2 ^ w)
leb_bitmask x w h = go (dec_lt 64 w) (dec_lt x (2 ^ w))
  where
    go : Dec (64 < w) → Dec (x < 2 ^ w) → leb x (bitmask w) ≡ ltb x (2 ^ w)
    go (yes p) d =
        le-leb x (bitmask w) (omega (arith, bitmask_word w p))
        ∙ sym (lt-ltb x (2 ^ w) (omega (arith, pow_mono (le_of_lt p))))
    go (no p) (yes q) =
        le-leb x (bitmask w) (omega (arith, bitmask_ones w (omega arith))) ∙ sym (lt-ltb x (2 ^ w) q)
    go (no p) (no q) =
        lt-leb x (bitmask w) (omega (arith, bitmask_ones w (omega arith), pow_pos w))
        ∙ sym (le-ltb x (2 ^ w) (omega arith))

-- ---- atoms

-- the bytes f after atoms of `at` bytes, so many of them, with so many tree records: r is left
pub record Scanned (f : List ℕ) (at count records : ℕ) (r : List ℕ) : Type 0 where
  pub inside : at ≤ length f
  pub left : r ≡ drop at f
  pub bytes : at ≡ 16 * (count + records)
  pub number : atom_count f ≡ count + atom_count r
  pub trees : atom_records f ≡ records + atom_records r
  pub rest : after_atoms f ≡ after_atoms r

pub passed_none : (f : List ℕ) → Scanned f 0 0 0 f
passed_none f =
    record { inside = omega arith; left = refl; bytes = refl; number = omega arith; trees = omega arith; rest = refl }

pub passed_table : (f : List ℕ) (at count records : ℕ) {r : List ℕ} → Scanned f at count records r → is_atom r ≡ false
    → IsAtomTable f (record { at = at; count = count; records = records })
passed_table f at count records {r} h e =
    record {
      end = record { inside = h.inside; rest = sym h.left ∙ sym (h.rest ∙ fold_done _ _ r e) };
      place = h.bytes;
      number = omega (arith, h.number, fold_done (λ r. 0) (λ r n. 1 + n) r e);
      trees = omega (arith, h.trees, fold_done (λ r. 0) (λ r n. front_number r + n) r e);
    }

-- an atom stands at the front of r, which stands from the place `at` on
pub atom_inside : (f : List ℕ) (at : ℕ) (r : List ℕ) → r ≡ drop at f → is_atom r ≡ true → at ≤ length f
    → at + atom_length r ≤ length f
unfolding atom_length
atom_inside f at r er ea h = omega (arith, (atom_room r ea).fits, ap length er, length-drop at f)

-- the walk gives the atom a at the front of r
module _ {r t : List ℕ} {a : Atom} (g : FrontAtom r a t) where
  -- the bytes of the atom
  pub given_length : 16 + length a.tree.now ≡ atom_length r
  unfolding atom_length
  given_length = ap (λ (n : ℕ). 16 + n) (ap length g.tree ∙ length_tree_span r g.stands)

  -- it is as it must be where that of r is
  pub given_atom_ok : (w : ℕ) → given_ok w a ≡ atom_ok w r
  unfolding atom_ok
  given_atom_ok w = simp (g.provenance, g.width, g.spare, g.tree, g.hash)

  -- the place behind it
  pub given_after : (f : List ℕ) (at : ℕ) → r ≡ drop at f → t ≡ drop (at + (16 + length a.tree.now)) f
  unfolding after_atom
  given_after f at er =
      g.rest ∙ ap (drop (atom_length r)) er ∙ drop-drop (atom_length r) at f
      ∙ ap (λ (n : ℕ). drop (at + n) f) (sym given_length)

  pub passed_atom : (f : List ℕ) (at count records : ℕ) → Scanned f at count records r
      → Scanned f (at + (16 + length a.tree.now)) (count + 1) (records + a.size) t
  unfolding atom_length
  passed_atom f at count records h =
      record {
        inside = omega (arith, given_length, atom_inside f at r h.left g.stands h.inside);
        left = given_after f at h.left;
        bytes = omega (arith, h.bytes, given_length, g.size);
        number = omega (arith, h.number, fold_atom (λ r. 0) (λ r n. 1 + n) r g.stands, ap atom_count g.rest);
        trees =
            omega (
              arith,
              h.trees,
              g.size,
              fold_atom (λ r. 0) (λ r n. front_number r + n) r g.stands,
              ap atom_records g.rest,
            );
        rest = h.rest ∙ fold_atom _ _ r g.stands ∙ ap after_atoms (sym g.rest);
      }

-- which of the atoms at the front are as they must be, and that all are
abbrev pub oks : ℕ → List ℕ → List Bool
oks w = fold_atoms (λ r. []) (λ r l. atom_ok w r ∷ l)

pub oks_done : (w : ℕ) (r : List ℕ) → is_atom r ≡ false → length (oks w r) ≡ 0
oks_done w r e = ap length (fold_done (λ r. []) (λ r l. atom_ok w r ∷ l) r e)

pub oks_atom : (w : ℕ) (r : List ℕ) (a : Atom) (t : List ℕ) → FrontAtom r a t → oks w r ≡ given_ok w a ∷ oks w t
oks_atom w r a t g =
    fold_atom _ _ r g.stands ∙ ap₂ (λ (b : Bool) (l : List Bool). b ∷ l) (sym (given_atom_ok g w)) (ap (oks w) (sym g.rest))

pub all_oks : (w : ℕ) (f : List ℕ) → list_all (λ b. b) (oks w f) ≡ atoms_ok w f
all_oks w =
    atoms_ind (λ f. list_all (λ b. b) (oks w f) ≡ atoms_ok w f)
    (λ r e. ap (list_all (λ b. b)) (fold_done _ _ r e) ∙ sym (fold_done _ _ r e))
    (λ r e below.
    ap (list_all (λ b. b)) (fold_atom _ _ r e)
    ∙ ap (λ (b : Bool). atom_ok w r && b) below
    ∙ sym (fold_atom _ _ r e))

-- ---- terms

-- the walk gives the term x at the front of q
module _ {q t : List ℕ} {x : Term} (g : FrontTerm q x t) where
  pub given_term : (w n next : ℕ) → given_term_ok w n next x ≡ term_ok w n next q
  unfolding term_ok
  given_term w n next = simp (g.byte1, g.number, g.width, g.spare, g.coeff)

  -- after it, and where it is as it must not be
  pub terms_ok_next : (w n next : ℕ) → given_term_ok w n next x ≡ true
      → terms_ok w n next q ≡ terms_ok w n (x.number + 1) t
  terms_ok_next w n next ok =
      terms_term w n next q g.stands
      ∙ (simp (sym (given_term w n next) ∙ ok))
      ∙ ap₂ (λ (k : ℕ) (l : List ℕ). terms_ok w n (k + 1) l) (sym g.number) (sym g.rest)

  pub terms_ok_stop : (w n next : ℕ) → given_term_ok w n next x ≡ false → terms_ok w n next q ≡ false
  terms_ok_stop w n next ok = terms_term w n next q g.stands ∙ simp (sym (given_term w n next) ∙ ok)

  pub term_rest : 16 + length t ≡ length q
  term_rest = omega (arith, term_big q g.stands, ap length g.rest, length-drop 16 q)

-- no term stands at the front: nothing more is left, or something that is none
pub terms_left : (w n next : ℕ) (q : List ℕ) (at long : ℕ) → is_term q ≡ false → at + length q ≡ long
    → eqb at long ≡ terms_ok w n next q
terms_left w n next q at long e h = go (ℕ_discrete (length q) 0)
  where
    go : Dec (length q ≡ 0) → eqb at long ≡ terms_ok w n next q
    go (yes z) = eq-eqb at long (omega (arith, h, z)) ∙ sym (terms_end w n next q z)
    go (no z) = ne_eqb at long (λ p. z (omega (arith, h, p))) ∙ sym (terms_other w n next q z e)
