-- The form that is written (specs/Index.antt, Registers): the table at its end, its index and the bytes stand for the
-- rows that were registered, and what the end of a pass gives for those is the outcome of the descent.
use mathlib.Core.Path.{◌≡◌, refl, ap, sym, ◌∙◌}
use Prim.Native.Nat.{ℕ, zero, suc, ◌*◌, ◌≤◌, ◌<◌}
use native.Mathlib.Omega.{arith}
use mathlib.Core.List.{List, []}
use mathlib.Core.Bool.{false}
use lib.ListN.{length, get_or}
use Rattle.std.specs.Prelude.{Result}
use Rattle.base.specs.declared.refusal.Refusal.{Refusal}
use Rattle.semilinear.specs.declared.outcome.Answer.{Answer}
use Rattle.atom_table.specs.declared.table.Table.{Table}
use Rattle.semilinear.specs.Answers.{GivesForm}
use Rattle.atom_table.specs.Table.{Placed}
use Rattle.atom_table.specs.Terms.{coeffs_of, coeffs_in, Ends, Finished}
use Rattle.atom_table.proofs.TermsLaws.{coeffs_append}
use Rattle.normalizer_laws.specs.Collect.{Emitted, linear}
use Rattle.normalizer_laws.specs.Register.{register_all}
use Rattle.register.specs.declared.index.Entry.{Entry}
use Rattle.register.specs.Index.{entry_at, entry_row, index_rows, Registers, CoeffsPut}
use Rattle.normalizer_laws.specs.Normalize.{collected_form, collected_outcome}
use Rattle.register.proofs.IndexLaws.{length_rows_in}

-- the coefficients of the rows
coeffs_rows_in : (index : List Entry) (out coeffs : List ℕ) (n : ℕ)
    → ((i : ℕ) → i < n → get_or coeffs i 0 ≡ (entry_at index i).coeff)
    → coeffs_of (index_rows index out n) ≡ coeffs_in 1 coeffs n
unfolding index_rows entry_row coeffs_in coeffs_of
coeffs_rows_in index out coeffs zero same = refl
coeffs_rows_in index out coeffs (suc n) same =
    let at : 1 * n ≡ n = omega arith in
    coeffs_append (index_rows index out n) _
    ∙ rw (coeffs_rows_in index out coeffs n (λ i h. same i (omega arith)), at, same n (omega arith)) refl

module _ (w : ℕ) (l : List Emitted) {index : List Entry} {out : List ℕ} {tab : Table}
    (reg : Registers w (register_all w l []) index out tab) where
  pub table_placed : tab.full ≡ false → Placed tab (length out)
  table_placed more = (reg.indexed more).holds.placed

  pub atoms_le : tab.full ≡ false → tab.count ≤ 256
  atoms_le more = (table_placed more).atoms_le

  module _ {before coeffs : List ℕ} (put : CoeffsPut index before coeffs) (long : length before ≡ 256) where
    registered_ends : Ends w tab 1 coeffs out (register_all w l [])
    registered_ends =
        record {
          holds = λ more. rw (reg.rows_are more) at (reg.indexed more).holds;
          clean = λ more. (reg.indexed more).clean;
          coeffs = λ more.
              ap (coeffs_in 1 coeffs)
              (sym (ap length (reg.rows_are more)) ∙ length_rows_in index out tab.count)
              ∙ sym
              (coeffs_rows_in index out coeffs tab.count
              (λ i h.
              put.written i (omega (arith, h, (reg.indexed more).room)) (omega (arith, h, long, atoms_le more))))
              ∙ ap coeffs_of (reg.rows_are more);
          past = reg.past;
        }

    pub gives_collected : (c : ℕ) (r : Result Answer Refusal) {e : List ℕ} → Finished w tab 1 coeffs c false out r e
        → GivesForm (collected_outcome w (linear c l)) 57360 r e
    unfolding collected_outcome collected_form
    gives_collected c r f = f.gives (register_all w l []) registered_ends
