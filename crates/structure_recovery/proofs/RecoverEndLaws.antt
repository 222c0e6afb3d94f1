-- The begin and the end of recovering (recover_pair/specs/Recovering.antt): the words of the copied table hold the rows
-- of the form, and what the end of a pass gives of the recovered rows is the recovered form, or 9.
use Rattle.made.specs.declared.Made.{Made}
use mathlib.Core.Path.{◌≡◌, refl, ap, ap₂, sym}
use Prim.Native.Nat.{ℕ}
use mathlib.Core.List.{List, [], ◌∷◌}
use mathlib.Core.Bool.{Bool, true, false}
use lib.ListN.{length, get_or}
use Rattle.record.specs.Fields.{width, literal}
use Rattle.record.specs.Span.{body}
use Rattle.record.specs.Tree.{Tree, IsBytes}
use Rattle.std.specs.Prelude.{Result}
use Rattle.base.specs.declared.refusal.Refusal.{Refusal}
use Rattle.semilinear.specs.declared.outcome.Answer.{Answer}
use Rattle.atom_table.specs.declared.table.Table.{Table}
use Rattle.semilinear.specs.Form.{Row, Form, fits_table}
use Rattle.semilinear.specs.Items.{after_atoms}
use Rattle.semilinear.specs.Valid.{is_semilinear}
use Rattle.semilinear.specs.DecodeForm.{decode_form, read_form, read_rows}
use Rattle.semilinear.specs.Answers.{GivesForm}
use Rattle.semilinear.specs.PassOutcome.{limit_outcome}
use Rattle.atom_table.specs.Terms.{Copied, FinishRoom, Finished}
use Rattle.semilinear.proofs.RetiredLaws.{read_valid}
use Rattle.group.proofs.PassLaws.{held_form, pass_room}
use Rattle.group.proofs.ShownLaws.{begun}
use Rattle.structure_laws.specs.RecoverStructure.{recover_all, recover_form}
use Rattle.pairing.specs.Recovering.{ShowsForm, rows_recovered, RowsRecovered}
use Rattle.pairing.proofs.RecoverLaws.{all_fair}
use Rattle.bare.proofs.ShowsLaws.{shows_ends}

-- forms of the same rows that pass a limit
limit_past : (f h : Form) (flag : Bool) → fits_table f.rows ≡ false → fits_table h.rows ≡ false
    → limit_outcome f flag ≡ limit_outcome h flag
unfolding limit_outcome
limit_past f h flag p q = simp (p, q)

-- the form with the constant among the words
module _ {w : ℕ} {made : Made} {out coeffs : List ℕ} (f : Form) (wide : f.bitwidth ≡ w) (s : ShowsForm w made out coeffs f) where
  abbrev ended : Form
  ended = record { bitwidth = w; constant = made.constant; rows = f.rows }

  limit_same : limit_outcome ended false ≡ limit_outcome f false
  limit_same = go made.table.full refl
    where
      go : (b : Bool) → made.table.full ≡ b → limit_outcome ended false ≡ limit_outcome f false
      go true e = limit_past ended f false (s.shows.past e) (s.shows.past e)
      go false e =
          ap (λ (h : Form). limit_outcome h false)
          (ap₂ (λ (a b : ℕ). record { bitwidth = a; constant = b; rows = f.rows }) (sym wide) (s.constant e))

  shows_gives : {end : Table} {c : ℕ} → end ≡ made.table → c ≡ made.constant → (r : Result Answer Refusal) {out' : List ℕ}
      → Finished w end 1 coeffs c false out r out' → GivesForm (limit_outcome f false) 57360 r out'
  shows_gives et ec r {out'} finished =
      let end = rw (et, ec) at finished in
      rw limit_same at (end.gives f.rows (shows_ends s.shows))

all_width : (w : ℕ) (before : List Row) (bases : List Tree) (l : List Row) (c : ℕ)
    → (recover_all w before bases l c).bitwidth ≡ w
unfolding recover_all
all_width w before [] l c = refl
all_width w before (b ∷ bases) l c = all_width w before bases _ _

-- ---- the form

module _ (s : List ℕ) (bytes : IsBytes s) (ok : is_semilinear s ≡ true) where
  -- the end gives the recovered form, or 9
  pub recover_end : {w k : ℕ} {b : List ℕ} → w ≡ width s → k ≡ literal s → b ≡ body s → {tab : Table} {out : List ℕ}
      → Copied (read_form s) tab out → {made : Made} {out' coeffs : List ℕ}
      → RowsRecovered w (read_rows 0 b (after_atoms b)) (begun tab k) out made out' coeffs
      → {end : Table} {c : ℕ} → end ≡ made.table → c ≡ made.constant → (r : Result Answer Refusal) {out'' : List ℕ}
      → Finished w end 1 coeffs c false out' r out''
      → GivesForm (limit_outcome (recover_form (read_form s)) false) 57360 r out''
  unfolding recover_form decode_form
  recover_end {w} {k} {b} ew ek eb {tab} {out} h {made} {out'} {coeffs} recovered et ec r finished =
      let own = rw (ew, eb, ek) at recovered in
      let end = rw ew at finished in
      let rows : List Row = read_rows 0 (body s) (after_atoms (body s)) in
      let shown = own.shown (all_fair (read_form s) (read_valid s bytes ok)) (held_form s bytes ok (literal s) h) in
      shows_gives (rows_recovered (width s) rows (literal s)) (all_width (width s) rows _ _ (literal s)) shown et ec r end

-- the end has room for all terms
pub recover_room : {w : ℕ} {rows : List Row} {before : Made} {out : List ℕ} {made : Made} {out' coeffs : List ℕ}
    → RowsRecovered w rows before out made out' coeffs → {tab : Table} → tab ≡ made.table → length out ≡ 57360
    → FinishRoom tab 1 coeffs out'
recover_room {out = out} {coeffs = coeffs} r et e = pass_room out coeffs r.room r.long r.wide et e
