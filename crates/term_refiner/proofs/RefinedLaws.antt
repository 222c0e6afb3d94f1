-- The end of refining (specs/Refining.antt): what the end of a pass gives of the refined rows is the refined form.
use Rattle.made.specs.declared.Made.{Made}
use mathlib.Core.Path.{◌≡◌}
use Prim.Native.Nat.{ℕ}
use mathlib.Core.List.{List}
use mathlib.Core.Bool.{true, false}
use lib.ListN.{length}
use Rattle.record.specs.Fields.{width, literal}
use Rattle.record.specs.Span.{body}
use Rattle.record.specs.Tree.{IsBytes}
use Rattle.std.specs.Prelude.{Result}
use Rattle.base.specs.declared.refusal.Refusal.{Refusal}
use Rattle.semilinear.specs.declared.outcome.Answer.{Answer}
use Rattle.atom_table.specs.declared.table.Table.{Table}
use Rattle.semilinear.specs.Form.{Row}
use Rattle.semilinear.specs.Items.{after_atoms}
use Rattle.semilinear.specs.Valid.{is_semilinear}
use Rattle.semilinear.specs.DecodeForm.{decode_form, read_form, read_rows}
use Rattle.semilinear.specs.Answers.{GivesForm}
use Rattle.semilinear.specs.PassOutcome.{limit_outcome}
use Rattle.atom_table.specs.Terms.{Copied, FinishRoom, Finished}
use Rattle.semilinear.proofs.RetiredLaws.{read_valid}
use Rattle.group.proofs.PassLaws.{held_form, pass_room}
use Rattle.group.proofs.ShownLaws.{begun, shown_ends}
use Rattle.refiner_laws.specs.RefineTerms.{refine_form}
use Rattle.refiner_laws.specs.Refining.{RowsRefined}
use Rattle.refiner_laws.proofs.RefineFormLaws.{all_fair}

module _ (s : List ℕ) (bytes : IsBytes s) (ok : is_semilinear s ≡ true) where
  -- the end gives the refined form, or 9
  pub refine_end : {w c k : ℕ} {b : List ℕ} → w ≡ width s → c ≡ literal s → b ≡ body s → {tab : Table} {out : List ℕ}
      → Copied (read_form s) tab out → {made : Made} {out' coeffs : List ℕ}
      → RowsRefined w (read_rows 0 b (after_atoms b)) (begun tab k) out made out' coeffs
      → {end : Table} → end ≡ made.table → (r : Result Answer Refusal) {out'' : List ℕ}
      → Finished w end 1 coeffs c false out' r out''
      → GivesForm (limit_outcome (refine_form (read_form s)) false) 57360 r out''
  unfolding refine_form decode_form
  refine_end {w} {c} {k} {b} ew ec eb {tab} {out} h {made} {out'} {coeffs} refined et r finished =
      let own = rw (ew, eb) at refined in
      let shown = own.shown (all_fair (read_form s) (read_valid s bytes ok)) (held_form s bytes ok k h) in
      let end = rw (ew, ec, et) at finished in
      end.gives _ (shown_ends (width s) made out' coeffs _ shown)

-- the end has room for all terms
pub refine_room : {w : ℕ} {rows : List Row} {before : Made} {out : List ℕ} {made : Made} {out' coeffs : List ℕ}
    → RowsRefined w rows before out made out' coeffs → {tab : Table} → tab ≡ made.table → length out ≡ 57360
    → FinishRoom tab 1 coeffs out'
refine_room {out = out} {coeffs = coeffs} r et e = pass_room out coeffs r.room r.long r.wide et e
