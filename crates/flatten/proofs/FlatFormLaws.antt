-- The begin and the end of flattening (specs/Flattening.antt): the words of the copied table hold the form's rows, and
-- what the end of a pass gives of the flattened rows is the flattened form.
use Rattle.made.specs.declared.Made.{Made}
use mathlib.Core.Path.{◌≡◌, refl, ◌∙◌}
use Prim.Native.Nat.{ℕ, ◌≤◌}
use native.Mathlib.Omega.{arith}
use mathlib.Core.List.{List}
use mathlib.Core.Bool.{Bool, true}
use lib.ListN.{length, get_or, replicate}
use Rattle.record.specs.Fields.{width, literal}
use Rattle.record.specs.Span.{body}
use Rattle.record.specs.Tree.{IsBytes}
use Rattle.std.specs.Prelude.{Result}
use Rattle.base.specs.declared.refusal.Refusal.{Refusal}
use Rattle.semilinear.specs.declared.outcome.Answer.{Answer}
use Rattle.atom_table.specs.declared.table.Table.{Table}
use Rattle.semilinear.specs.Form.{Row}
use Rattle.semilinear.specs.Items.{after_atoms}
use Rattle.semilinear.specs.Valid.{is_semilinear}
use Rattle.semilinear.specs.DecodeForm.{decode_form, read_form, read_rows}
use Rattle.semilinear.specs.Answers.{GivesForm}
use Rattle.semilinear.specs.PassOutcome.{limit_outcome}
use Rattle.atom_table.specs.Table.{Placed}
use Rattle.atom_table.specs.Terms.{Copied, FinishRoom, Finished}
use Rattle.atom_table.proofs.PassLaws.{semilinear_front}
use Rattle.semilinear.proofs.ValidLaws.{semilinear_parts}
use Rattle.group.proofs.ShownLaws.{begun, held_copied, copied_end, shown_ends}
use Rattle.structure_laws.specs.FlattenComplexAtoms.{flattened, flatten_form}
use Rattle.flatten.specs.Flattening.{FrontReady, flat_rows, RowsFlattened}

-- ---- the begin

-- what the rows are flattened with, as the code reads it
pub flatten_begin : (s : List ℕ) → IsBytes s → is_semilinear s ≡ true → {w k : ℕ} {b : List ℕ} → w ≡ width s → b ≡ body s
    → {tab : Table} {out : List ℕ} → Copied (read_form s) tab out
    → FrontReady w b tab.at (begun tab k) (replicate 256 0) out
unfolding decode_form
flatten_begin s bytes ok {w} {k} {b} ew eb {tab} {out} h =
    rw (ew, eb) (
    record {
      width = (semilinear_parts s ok).0.width_le;
      front_ok_lem = semilinear_front s ok;
      ends = copied_end s bytes ok tab out h;
      clear = refl;
      held = held_copied (read_form s) tab out k h;
    }
    )

-- ---- the end

module _ {w k len : ℕ} {l : List Row} {g : Bool} {made : Made} {out coeffs : List ℕ} {tab : Table}
    (h : RowsFlattened w l k len g made out coeffs) (et : tab ≡ made.table) where
  -- the end has room for all terms
  pub flatten_room : len ≡ 57360 → FinishRoom tab 1 coeffs out
  flatten_room e =
      let placed : Placed tab (length out) = rw et h.room.placed in
      record {
        placed = λ _. placed;
        long = h.long ∙ e;
        coeffs = λ _. omega (arith, placed.atoms_le, h.wide);
        step_pos = omega arith;
        step_le = omega arith;
      }

  -- and gives the flattened rows, or 9
  flatten_gives : (r : Result Answer Refusal) {out' : List ℕ} → Finished w tab 1 coeffs made.constant g out r out'
      → GivesForm
      (limit_outcome
      (record { bitwidth = w; constant = (flat_rows w l k).constant; rows = (flat_rows w l k).added })
      (flat_rows w l k).flag) 57360 r out'
  flatten_gives r finished =
      let x = h.works in
      let end = rw (et, x.constant, x.flag) at finished in
      end.gives (flat_rows w l k).added (shown_ends w made out coeffs (flat_rows w l k).added x.shown)

-- of the rows of a form it is the flattened form
pub flatten_end : (s : List ℕ) {w k len : ℕ} {b : List ℕ} → w ≡ width s → k ≡ literal s → b ≡ body s
    → {g : Bool} {made : Made} {out coeffs : List ℕ} → RowsFlattened w (read_rows 0 b (after_atoms b)) k len g made out coeffs
    → {tab : Table} → tab ≡ made.table → (r : Result Answer Refusal) {out' : List ℕ}
    → Finished w tab 1 coeffs made.constant g out r out'
    → GivesForm (limit_outcome (flatten_form (read_form s)) (flattened (read_form s)).flag) 57360 r out'
unfolding flatten_form flattened flat_rows decode_form
flatten_end s ew ek eb h et r finished = rw (ew, ek, eb) at (flatten_gives h et r finished)
