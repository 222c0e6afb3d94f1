-- What a walk over the atoms at the front of some bytes gives at each step.
use Rattle.std.specs.Prelude.{◌≡◌, ℕ, ◌+◌, List, drop, Option, Some, None, MatchOption, Bool, ◌&&◌, true, false, eqb, ltb, leb, not, ◌^◌}
use Rattle.semilinear.specs.declared.items.Atom.{Atom}
use Rattle.semilinear.specs.declared.items.Term.{Term}
use Rattle.semilinear.specs.declared.items.FormRow.{FormRow}
use Rattle.semilinear.specs.Items.{is_atom, provenance, front_number, front_width, front_spare, front_word, tree_span}
use Rattle.semilinear.specs.Items.{after_atom, is_term}
use Rattle.semilinear.specs.DecodeForm.{has_term, after_term}
use Rattle.base.specs.Choice.{when}
use Rattle.base.specs.Limits.{record_length}
use Rattle.semilinear.specs.Valid.{tree_ok}

-- a is the atom at the front of r, and t stands after it
pub record FrontAtom (r : List ℕ) (a : Atom) (t : List ℕ) : Type 0 where
  pub stands : is_atom r ≡ true
  pub provenance : a.provenance ≡ provenance r
  pub size : a.size ≡ front_number r
  pub width : a.width ≡ front_width r
  pub spare : a.spare ≡ front_spare r
  pub hash : a.hash ≡ front_word r
  pub tree : a.tree.now ≡ tree_span r
  pub rest : t ≡ after_atom r

-- the walk that has r left gives the atom at its front, if one stands there, and has t left
abbrev pub NextAtom : List ℕ → Option Atom → List ℕ → Type 0
NextAtom r x t = MatchOption x ((is_atom r ≡ false) × (t ≡ r)) (λ a. FrontAtom r a t)

-- the atom is as it must be at width w
abbrev pub given_ok : ℕ → Atom → Bool
given_ok w a = leb a.provenance 4 && (eqb a.width w && (eqb a.spare 0 && tree_ok w a.tree.now a.hash))

-- x is the term at the front of q, and t stands after it
pub record FrontTerm (q : List ℕ) (x : Term) (t : List ℕ) : Type 0 where
  pub stands : is_term q ≡ true
  pub byte1 : x.byte1 ≡ provenance q
  pub number : x.number ≡ front_number q
  pub width : x.width ≡ front_width q
  pub spare : x.spare ≡ front_spare q
  pub coeff : x.coeff ≡ front_word q
  pub rest : t ≡ drop record_length q

-- the walk that has q left gives the term at its front, if one stands there, and has t left
abbrev pub NextTerm : List ℕ → Option Term → List ℕ → Type 0
NextTerm q x t = MatchOption x ((is_term q ≡ false) × (t ≡ q)) (λ a. FrontTerm q a t)

-- the coefficient of atom i, where q are the terms from i on, if it has one
unfoldable pub term_of : ℕ → List ℕ → Option ℕ
term_of i q = when (has_term i q) (λ _. Some (front_word q)) (λ _. None)

-- what a walk over rows has left: the number of the next atom, the atoms from it on, and their terms
pub record RowsLeft : Type 0 where
  pub number : ℕ
  pub atoms : List ℕ
  pub terms : List ℕ

-- x is the row at the front of s, and t is left after it
pub record FrontRow (s : RowsLeft) (x : FormRow) (t : RowsLeft) : Type 0 where
  pub atom : FrontAtom s.atoms x.atom t.atoms
  pub number : x.number ≡ s.number
  pub coeff : x.coeff ≡ term_of s.number s.terms
  pub after : t.number ≡ s.number + 1
  pub terms : t.terms ≡ after_term s.number s.terms

abbrev pub NextRow : RowsLeft → Option FormRow → RowsLeft → Type 0
NextRow s x t = MatchOption x ((is_atom s.atoms ≡ false) × (t ≡ s)) (λ a. FrontRow s a t)

-- the term is as it must be: its atom is one of n, and not below `next`
abbrev pub given_term_ok : ℕ → ℕ → ℕ → Term → Bool
given_term_ok w n next x =
    eqb x.byte1 0
    && (leb next x.number
    && (ltb x.number n
    && (eqb x.width w && (eqb x.spare 0 && (not (eqb x.coeff 0) && ltb x.coeff (2 ^ w))))))
