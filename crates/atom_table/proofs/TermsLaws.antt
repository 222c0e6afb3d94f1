-- Laws of the terms that are put (specs/Terms.antt): one by one they are those of the coefficients, and the coefficients
-- of the rows give the terms of the rows.
use mathlib.Core.Path.{◌≡◌, refl, ap, sym, ◌∙◌}
use Prim.Native.Nat.{ℕ, zero, suc, ◌+◌, ◌*◌, ◌≤◌}
use native.Mathlib.Omega.{arith}
use native.Mathlib.Nat.{add-zero}
use native.Mathlib.Decide.{ℕ_discrete}
use mathlib.Core.List.{List, [], ◌∷◌, ◌++◌, append_assoc, append-nil}
use mathlib.Core.Bool.{Bool, true, false}
use lib.ListN.{length, get_or, length-append}
use lib.Dec.{eqb}
use borrow.Author.Tests.{eq-eqb, ne_eqb}
use Rattle.base.specs.Choice.{when}
use Rattle.base.specs.Put.{put}
use Rattle.base.proofs.PutLaws.{length_put, put_then}
use Rattle.atom_table.specs.declared.table.Written.{Written}
use Rattle.semilinear.specs.Form.{Row, term_count, term_bytes, terms_bytes}
use Rattle.atom_table.specs.Terms.{coeffs_of, coeffs_in, row_term, row_terms, coeff_terms, coeff_count, TermPut}
use Rattle.atom_table.specs.Terms.{TermsPut}
use Rattle.atom_table.proofs.TermLengthLaws.{length_term, put_none}

-- ---- one term

module _ (w i c : ℕ) where
  row_term_none : c ≡ 0 → row_term w i c ≡ []
  unfolding row_term
  row_term_none e = simp (eq-eqb c 0 e)

  row_term_some : (c ≡ 0 → ⊥) → row_term w i c ≡ term_bytes w i c
  unfolding row_term
  row_term_some e = simp (ne_eqb c 0 e)

  row_term_le : length (row_term w i c) ≤ 16
  row_term_le = go (ℕ_discrete c 0)
    where
      go : Dec (c ≡ 0) → length (row_term w i c) ≤ 16
      go (yes e) = omega (arith, ap length (row_term_none e))
      go (no e) = omega (arith, ap length (row_term_some e), length_term w i c)

row_terms_none : (c : ℕ) → c ≡ 0 → row_terms c ≡ 0
unfolding row_terms
row_terms_none c e = simp (eq-eqb c 0 e)

row_terms_some : (c : ℕ) → (c ≡ 0 → ⊥) → row_terms c ≡ 1
unfolding row_terms
row_terms_some c e = simp (ne_eqb c 0 e)

row_terms_le : (c : ℕ) → row_terms c ≤ 1
row_terms_le c = go (ℕ_discrete c 0)
  where
    go : Dec (c ≡ 0) → row_terms c ≤ 1
    go (yes e) = omega (arith, row_terms_none c e)
    go (no e) = omega (arith, row_terms_some c e)

module _ (w i c : ℕ) (x : Written) where
  pub term_put_none : c ≡ 0 → (d : List ℕ) → TermPut w i c x d d x
  term_put_none e d =
      record {
        place = omega (arith, ap length (row_term_none w i c e));
        count = omega (arith, row_terms_none c e);
        written = put_none d x.used ∙ ap (put d x.used) (sym (row_term_none w i c e));
      }

  pub term_put_some : (c ≡ 0 → ⊥) → {d e : List ℕ} → e ≡ put d x.used (term_bytes w i c)
      → TermPut w i c x d e (record { used = x.used + 16; terms = x.terms + 1 })
  term_put_some h {d} {e} p =
      record {
        place = omega (arith, ap length (row_term_some w i c h), length_term w i c);
        count = omega (arith, row_terms_some c h);
        written = p ∙ ap (put d x.used) (sym (row_term_some w i c h));
      }

pub length_term_put : {w i c : ℕ} {x y : Written} {d e : List ℕ} → x.used + 16 ≤ length d → TermPut w i c x d e y
    → length e ≡ length d
length_term_put {w} {i} {c} {x} {y} {d} h t =
    ap length t.written ∙ length_put d x.used (row_term w i c) (omega (arith, row_term_le w i c))

-- ---- the terms of coefficients

-- one coefficient more
terms_more : (w c j : ℕ) (l : List ℕ) → coeff_terms w j (l ++ (c ∷ [])) ≡ coeff_terms w j l ++ row_term w (j + length l) c
unfolding coeff_terms
terms_more w c j [] = append-nil (row_term w j c) ∙ ap (λ (k : ℕ). row_term w k c) (sym (add-zero j))
terms_more w c j (x ∷ l) =
    let place : j + 1 + length l ≡ j + suc (length l) = omega arith in
    ap (λ (b : List ℕ). row_term w j x ++ b)
    (terms_more w c (j + 1) l ∙ ap (λ (k : ℕ). coeff_terms w (j + 1) l ++ row_term w k c) place)
    ∙ sym (append_assoc (row_term w j x) (coeff_terms w (j + 1) l) (row_term w (j + suc (length l)) c))

count_more : (c : ℕ) (l : List ℕ) → coeff_count (l ++ (c ∷ [])) ≡ coeff_count l + row_terms c
unfolding coeff_count
count_more c [] = omega arith
count_more c (x ∷ l) = omega (arith, count_more c l)

-- how long they are, and how many
terms_le : (w i : ℕ) (l : List ℕ) → length (coeff_terms w i l) ≤ 16 * length l
unfolding coeff_terms
terms_le w i [] = omega arith
terms_le w i (x ∷ l) =
    omega (arith, length-append (row_term w i x) (coeff_terms w (i + 1) l), row_term_le w i x, terms_le w (i + 1) l)

count_le : (l : List ℕ) → coeff_count l ≤ length l
unfolding coeff_count
count_le [] = omega arith
count_le (x ∷ l) = omega (arith, row_terms_le x, count_le l)

pub length_coeffs_in : (step : ℕ) (words : List ℕ) (n : ℕ) → length (coeffs_in step words n) ≡ n
unfolding coeffs_in
length_coeffs_in step words zero = refl
length_coeffs_in step words (suc n) =
    omega (
      arith,
      length-append (coeffs_in step words n) (get_or words (step * n) 0 ∷ []),
      length_coeffs_in step words n,
    )

-- those of the rows are the terms of the rows
pub terms_coeffs : (w i : ℕ) (l : List Row) → coeff_terms w i (coeffs_of l) ≡ terms_bytes w i l
unfolding coeff_terms coeffs_of row_term terms_bytes
terms_coeffs w i [] = refl
terms_coeffs w i (x ∷ l) = go (eqb x.coeff 0) (terms_coeffs w (i + 1) l)
  where
    go : (b : Bool) → coeff_terms w (i + 1) (coeffs_of l) ≡ terms_bytes w (i + 1) l
        → when b (λ _. []) (λ _. term_bytes w i x.coeff) ++ coeff_terms w (i + 1) (coeffs_of l)
        ≡ when b (λ _. terms_bytes w (i + 1) l) (λ _. term_bytes w i x.coeff ++ terms_bytes w (i + 1) l)
    go true h = h
    go false h = ap (λ (b : List ℕ). term_bytes w i x.coeff ++ b) h

pub count_coeffs : (l : List Row) → coeff_count (coeffs_of l) ≡ term_count l
unfolding coeff_count coeffs_of row_terms term_count
count_coeffs [] = refl
count_coeffs (x ∷ l) = go (eqb x.coeff 0) (count_coeffs l)
  where
    go : (b : Bool) → coeff_count (coeffs_of l) ≡ term_count l
        → when b (λ _. 0) (λ _. 1) + coeff_count (coeffs_of l) ≡ when b (λ _. term_count l) (λ _. 1 + term_count l)
    go true h = omega (arith, h)
    go false h = omega (arith, h)

pub length_coeffs : (l : List Row) → length (coeffs_of l) ≡ length l
unfolding coeffs_of
length_coeffs [] = refl
length_coeffs (x ∷ l) = ap suc (length_coeffs l)

pub coeffs_append : (l m : List Row) → coeffs_of (l ++ m) ≡ coeffs_of l ++ coeffs_of m
unfolding coeffs_of
coeffs_append [] m = refl
coeffs_append (x ∷ l) m = ap (λ (r : List ℕ). x.coeff ∷ r) (coeffs_append l m)

-- ---- the loop that puts them

module _ (w to step : ℕ) (words out : List ℕ) where
  abbrev Put : ℕ → List ℕ → Written → Type 0
  Put i d x = TermsPut w to (coeffs_in step words i) out d x

  pub terms_put_start : Put 0 out (record { used = to; terms = 0 })
  unfolding coeffs_in coeff_terms coeff_count
  terms_put_start = record { place = omega arith; count = refl; written = put_none out to }

  -- how far the terms of i coefficients reach
  pub terms_put_room : (i : ℕ) (d : List ℕ) (x : Written) → Put i d x → (x.used ≤ to + 16 * i) × (x.terms ≤ i)
  terms_put_room i d x h =
      let l : List ℕ = coeffs_in step words i in
      let n : length (coeffs_in step words i) ≡ i = length_coeffs_in step words i in
      (omega (arith, h.place, terms_le w 0 (coeffs_in step words i)), omega (arith, h.count, count_le (coeffs_in step words i)))

  pub terms_put_next : (i : ℕ) (d e : List ℕ) (x y : Written) → to + 16 * i ≤ length out → Put i d x
      → (at : ℕ) → at ≡ step * i → TermPut w i (get_or words at 0) x d e y → Put (i + 1) e y
  unfolding coeffs_in
  terms_put_next i d e x y fits h at place t =
      let l : List ℕ = coeffs_in step words i in
      let c : ℕ = get_or words (step * i) 0 in
      let n : length (coeffs_in step words i) ≡ i = length_coeffs_in step words i in
      let one : i + 1 ≡ suc i = omega arith in
      let place₀ : 0 + length (coeffs_in step words i) ≡ i = omega (arith, n) in
      let t' : TermPut w i c x d e y = rw place at t in
      let bytes : coeff_terms w 0 (l ++ (c ∷ [])) ≡ coeff_terms w 0 l ++ row_term w i c =
      terms_more w c 0 l ∙ ap (λ (k : ℕ). coeff_terms w 0 l ++ row_term w k c) place₀ in
      let room = terms_put_room i d x h in
      rw one
      (record {
        place = omega (arith, ap length bytes, length-append (coeff_terms w 0 l) (row_term w i c), t'.place, h.place);
        count = t'.count ∙ ap (λ (k : ℕ). k + row_terms c) h.count ∙ sym (count_more c l);
        written =
            t'.written
            ∙ ap (λ (b : List ℕ). put b x.used (row_term w i c)) h.written
            ∙ put_then out to (coeff_terms w 0 l) (row_term w i c) x.used (omega (arith, room.0, h.place))
            (sym h.place)
            ∙ ap (put out to) (sym bytes);
      })
