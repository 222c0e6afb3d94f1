-- A row for the bits of a variable (specs/Flattening.antt): the bytes of its basis, and the table and the coefficients
-- with it, whether or not there is a place for its coefficient.
use Rattle.made.specs.declared.Made.{Made}
use mathlib.Core.Path.{◌≡◌, refl, ap, sym, ◌∙◌}
use Prim.Native.Nat.{ℕ, ◌≤◌, ◌<◌}
use native.Mathlib.Omega.{arith}
use mathlib.Core.List.{List, [], ◌∷◌, ◌++◌}
use mathlib.Core.Bool.{true}
use lib.ListN.{length, get_or, set, replicate, length-append, length-set}
use borrow.Author.Tests.{eq-eqb, ne_eqb}
use Rattle.base.specs.Put.{put, padded}
use Rattle.record.specs.Span.{sized}
use Rattle.base.specs.Limits.{var_limit}
use Rattle.record.specs.Tree.{variable_bytes, encode, Encodable}
use Rattle.record.specs.Tree.Tree.{Variable}
use Rattle.record.specs.Decode.{decode}
use Rattle.base.proofs.PutLaws.{length_padded}
use Rattle.record.proofs.EncodeLaws.{Encoded, encoded}
use Rattle.expr.specs.Hash.{structural_hash}
use Rattle.semilinear.specs.Form.{Row, fits_table, new_row}
use Rattle.atom_table.specs.Terms.{coeffs_of}
use Rattle.atom_table.proofs.TermsLaws.{length_coeffs, coeffs_append}
use Rattle.made.specs.Rows.{create_row, masked_tree, create_masked}
use Rattle.made.specs.Made.{Room, Held, Grew, Basis}
use Rattle.structure_laws.specs.FlattenComplexAtoms.{flat_row}
use Rattle.made.specs.Shown.{Shown}
use Rattle.flatten.specs.Flattening.{bare_row, Extended}
use Rattle.made.proofs.CoeffsLaws.{fits_length, fits_less}
use Rattle.flatten.proofs.ShownLaws.{set_behind}
use Rattle.flatten.proofs.ShownLaws.{held_other}

-- the bytes of a variable, as they are written to an array
module _ (w v : ℕ) (hv : v < var_limit) {b : List ℕ} (e : b ≡ put (replicate 16 0) 0 (encode w (Variable v))) where
  variable_bytes_lem : b ≡ encode w (Variable v)
  unfolding put encode variable_bytes
  variable_bytes_lem = e

  variable_encoded : Encoded w (Variable v)
  unfolding Encodable
  variable_encoded = encoded w (Variable v) hv

  pub variable_back : decode b ≡ Variable v
  variable_back = ap decode variable_bytes_lem ∙ variable_encoded.back

  pub variable_sized : sized b ≡ true
  variable_sized = ap sized variable_bytes_lem ∙ variable_encoded.ok

  pub variable_basis_lem : {h : ℕ} → h ≡ structural_hash (decode b) → Basis w h b
  unfolding Encodable
  variable_basis_lem eh =
      record {
        same = ap (encode w) variable_back ∙ sym variable_bytes_lem;
        encodable = rw variable_back hv;
        hashed = eh;
      }

-- no bits: nothing is added
pub extended_none : (w v m c : ℕ) (made : Made) (out coeffs : List ℕ) → Room made out → m ≡ 0
    → Extended w 1 (flat_row w v m c) (λ k. k) made out coeffs made out coeffs
unfolding flat_row
extended_none w v m c made out coeffs r e =
    record {
      room = r;
      rows_le = omega arith;
      constant = refl;
      long = refl;
      wide = refl;
      shown = λ l h. simp (eq-eqb m 0 e) h;
    }

-- an atom more, for the bits m of variable v
module _ (w v m c : ℕ) (some : m ≡ 0 → ⊥) {made : Made} {out : List ℕ} {made' : Made} {out' : List ℕ}
    (g : Grew w 1 (create_masked w (Variable v) m) made out made' out') where
  abbrev new : ℕ → Row
  new x = new_row (masked_tree w (Variable v) m) x

  flat_some : (l : List Row) → flat_row w v m c l ≡ l ++ (new c ∷ [])
  unfolding flat_row
  flat_some l = simp (ne_eqb m 0 some)

  held_some : (l : List Row) → Held w made out l → Held w made' out' (l ++ (new c ∷ []))
  unfolding create_masked create_row bare_row
  held_some l h = held_other (new 0) (new c) refl [] w made' out' l (g.held l h)

  module _ (coeffs : List ℕ) where
    extended_some : (coeffs' : List ℕ) → length coeffs' ≡ length coeffs
        → ((l : List Row) → Shown w made out coeffs l → fits_table (l ++ (new c ∷ [])) ≡ true
        → coeffs' ≡ padded 256 (coeffs_of (l ++ (new c ∷ []))))
        → Extended w 1 (flat_row w v m c) (λ k. k) made out coeffs made' out' coeffs'
    extended_some coeffs' wide put =
        record {
          room = g.room;
          rows_le = g.later.rows_le;
          constant = g.later.constant;
          long = g.long;
          wide = wide;
          shown = λ l h. rw (flat_some l) (record { held = held_some l h.held; terms = put l h });
        }

    -- the coefficients of rows that keep the limits with one more, and the count of those rows
    shown_length : (l : List Row) → Shown w made out coeffs l → fits_table (l ++ (new c ∷ [])) ≡ true
        → (made.rows ≡ length l) × (length l < 256) × (length coeffs ≡ 256)
    shown_length l h fit =
        let n : length l < 256 = omega (arith, fits_length (l ++ (new c ∷ [])) fit, length-append l (new c ∷ [])) in
        let k : length (coeffs_of l) ≤ 256 = omega (arith, length_coeffs l) in
        (h.held.rows, n, ap length (h.terms (fits_less l (new c ∷ []) fit)) ∙ length_padded 256 (coeffs_of l) k)

    -- there is no place for the coefficient: the rows pass a limit
    pub extended_past : length coeffs ≤ made.rows
        → Extended w 1 (flat_row w v m c) (λ k. k) made out coeffs made' out' coeffs
    extended_past full =
        extended_some coeffs refl (λ l h fit. let p = shown_length l h fit in absurd (omega (arith, p.0, p.1, p.2)))

    pub extended_put : (coeffs' : List ℕ) → coeffs' ≡ set coeffs made.rows c
        → Extended w 1 (flat_row w v m c) (λ k. k) made out coeffs made' out' coeffs'
    unfolding coeffs_of
    extended_put coeffs' e =
        extended_some coeffs' (ap length e ∙ length-set coeffs made.rows c) λ l h fit.
        let p = shown_length l h fit in
        e
        ∙ ap (λ (d : List ℕ). set d made.rows c) (h.terms (fits_less l (new c ∷ []) fit))
        ∙ set_behind (coeffs_of l) c 256 made.rows (p.0 ∙ sym (length_coeffs l))
        (omega (arith, p.1, length_coeffs l))
        ∙ ap (padded 256) (sym (coeffs_append l (new c ∷ [])))
