-- The terms of a form as they are put behind its atoms: from the coefficients of the rows, which stand in lent words;
-- and what the begin and the end of a pass leave.
use Rattle.std.specs.Prelude.{◌≡◌, ℕ, zero, suc, ◌+◌, ◌*◌, ◌≤◌, List, [], ◌∷◌, ◌++◌, Bool, true, false, length, get_or, eqb, Result}
use Rattle.base.specs.Choice.{when}
use Rattle.base.specs.declared.refusal.Refusal.{Refusal}
use Rattle.base.specs.Put.{put}
use Rattle.atom_table.specs.declared.table.Written.{Written}
use Rattle.semilinear.specs.declared.outcome.Answer.{Answer}
use Rattle.atom_table.specs.declared.table.Table.{Table}
use Rattle.semilinear.specs.Form.{Row, Form, term_bytes, fits_table}
use Rattle.semilinear.specs.Answers.{GivesForm}
use Rattle.semilinear.specs.PassOutcome.{limit_outcome}
use Rattle.atom_table.specs.Table.{Placed, Holds, Clean}
use Rattle.base.specs.Limits.{atom_limit, form_bytes, record_length}

-- ---- the coefficients

-- those of the rows
unfoldable pub coeffs_of : List Row → List ℕ
coeffs_of [] = []
coeffs_of (x ∷ l) = x.coeff ∷ coeffs_of l

-- those in n words that stand `step` apart
unfoldable pub coeffs_in : ℕ → List ℕ → ℕ → List ℕ
coeffs_in step words zero = []
coeffs_in step words (suc n) = coeffs_in step words n ++ (get_or words (step * n) 0 ∷ [])

-- ---- the terms

-- the bytes of the term of atom i, none where its coefficient c is 0
unfoldable pub row_term : ℕ → ℕ → ℕ → List ℕ
row_term w i c = when (eqb c 0) (λ _. []) (λ _. term_bytes w i c)

-- how many terms that is
unfoldable pub row_terms : ℕ → ℕ
row_terms c = when (eqb c 0) (λ _. 0) (λ _. 1)

-- the terms of coefficients, numbered from i on, and how many they are
unfoldable pub coeff_terms : ℕ → ℕ → List ℕ → List ℕ
coeff_terms w i [] = []
coeff_terms w i (c ∷ l) = row_term w i c ++ coeff_terms w (i + 1) l

unfoldable pub coeff_count : List ℕ → ℕ
coeff_count [] = 0
coeff_count (c ∷ l) = row_terms c + coeff_count l

-- this term is put behind those that x says
pub record TermPut (w i c : ℕ) (x : Written) (before after : List ℕ) (r : Written) : Type 0 where
  pub place : r.used ≡ x.used + length (row_term w i c)
  pub count : r.terms ≡ x.terms + row_terms c
  pub written : after ≡ put before x.used (row_term w i c)

-- the terms of the coefficients are put into the bytes from `to` on; r says where they end and how many there are
pub record TermsPut (w to : ℕ) (coeffs before after : List ℕ) (r : Written) : Type 0 where
  pub place : r.used ≡ to + length (coeff_terms w 0 coeffs)
  pub count : r.terms ≡ coeff_count coeffs
  pub written : after ≡ put before to (coeff_terms w 0 coeffs)

-- what `put_terms` asks: n coefficients `step` words apart, and room for their terms from `to` on
pub record TermsRoom (step n to : ℕ) (words out : List ℕ) : Type 0 where
  pub inside : step * n ≤ length words
  pub step_pos : 1 ≤ step
  pub step_le : step ≤ 16
  pub most : n ≤ atom_limit
  pub room : to + record_length * n ≤ length out

-- ---- the begin and the end of a pass

-- the atoms of the form stand at the start of the slice, with zeros behind
pub record Copied (f : Form) (tab : Table) (out : List ℕ) : Type 0 where
  pub holds : Holds f.bitwidth tab out f.rows
  pub clean : Clean tab out
  pub more : tab.full ≡ false
  pub long : length out ≡ form_bytes

-- what `finish` asks of a table that is not full: its place, and a coefficient for each of its atoms
pub record FinishRoom (tab : Table) (step : ℕ) (words out : List ℕ) : Type 0 where
  pub placed : tab.full ≡ false → Placed tab (length out)
  pub long : length out ≡ form_bytes
  pub coeffs : tab.full ≡ false → step * tab.count ≤ length words
  pub step_pos : 1 ≤ step
  pub step_le : step ≤ 16

-- a table at its end, the words with the coefficients and the bytes stand for the rows l; where it is full, these
-- pass a limit
pub record Ends (w : ℕ) (tab : Table) (step : ℕ) (words out : List ℕ) (l : List Row) : Type 0 where
  pub holds : tab.full ≡ false → Holds w tab out l
  pub clean : tab.full ≡ false → Clean tab out
  pub coeffs : tab.full ≡ false → coeffs_in step words (length l) ≡ coeffs_of l
  pub past : tab.full ≡ true → fits_table l ≡ false

-- for every rows that they stand for: their form, or 9 where they pass a limit
pub record Finished (w : ℕ) (tab : Table) (step : ℕ) (words : List ℕ) (c : ℕ) (flag : Bool) (out : List ℕ)
    (r : Result Answer Refusal) (out' : List ℕ) : Type 0 where
  pub gives : (l : List Row) → Ends w tab step words out l
      → GivesForm (limit_outcome (record { bitwidth = w; constant = c; rows = l }) flag) form_bytes r out'
