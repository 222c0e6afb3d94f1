-- The rows of a form coalesced, and the end of coalescing (specs/Coalescing.antt): what the end of a pass gives of the
-- coalesced rows is the coalesced form.
use Rattle.made.specs.declared.Made.{Made}
use mathlib.Core.Path.{◌≡◌, ◌∙◌}
use Prim.Native.Nat.{ℕ, ◌≤◌}
use native.Mathlib.Omega.{arith}
use mathlib.Core.List.{List, []}
use mathlib.Core.Bool.{true, false}
use lib.ListN.{length}
use Rattle.record.specs.Fields.{width, literal}
use Rattle.base.specs.Put.{padded}
use Rattle.record.specs.Span.{body}
use Rattle.record.specs.Tree.{IsBytes}
use Rattle.std.specs.Prelude.{Result}
use Rattle.base.specs.declared.refusal.Refusal.{Refusal}
use Rattle.semilinear.specs.declared.outcome.Answer.{Answer}
use Rattle.atom_table.specs.declared.table.Table.{Table}
use Rattle.semilinear.specs.Form.{Row}
use Rattle.semilinear.specs.Items.{atom_count, after_atoms}
use Rattle.semilinear.specs.Valid.{is_semilinear}
use Rattle.semilinear.specs.DecodeForm.{decode_form, read_form, read_rows}
use Rattle.semilinear.specs.Answers.{GivesForm}
use Rattle.semilinear.specs.PassOutcome.{limit_outcome}
use Rattle.atom_table.specs.Terms.{Copied, FinishRoom, Finished}
use Rattle.views.specs.Grouping.{variable_basis, bases_of, ungrouped}
use Rattle.std.specs.Prelude.{Option}
use Rattle.views.specs.declared.View.{View}
use Rattle.views.specs.Views.{only_of, Views, ViewsRead}
use Rattle.group.proofs.ExtendsLaws.{ungrouped_length}
use Rattle.group.proofs.PassLaws.{held_form, pass_room, read_wide, read_shown}
use Rattle.group.proofs.ShownLaws.{begun}
use Rattle.views.proofs.SplitLaws.{only_variable}
use Rattle.structure_laws.specs.CoalesceTerms.{coalesce_all, coalesce_form}
use Rattle.carried.specs.Coalescing.{Coalesced, RowsCoalesced}
use Rattle.bare.proofs.ShowsLaws.{shows_shown, shows_ends}

-- ---- the rows

module _ {w : ℕ} {f coeffs : List ℕ} {views : List (Option View)} {coeffs' : List ℕ} {n : ℕ}
    (v : ViewsRead (only_of true) w f (read_rows 0 f (after_atoms f)) coeffs views coeffs' n) where
  abbrev rows : List Row
  rows = read_rows 0 f (after_atoms f)

  read_own : ViewsRead variable_basis w f rows coeffs views coeffs' n
  read_own = rw only_variable at v

  pub read_variable : Views variable_basis w f views rows
  read_variable = read_own.views

  -- all groups coalesced, of the rows without their terms
  pub rows_coalesced : coeffs ≡ padded 256 [] → atom_count f ≤ 256 → {made : Made} {out : List ℕ} {made' : Made} {out' coeffs'' : List ℕ}
      → Coalesced w n 16384 (coalesce_all w rows (bases_of variable_basis w rows [])) made out coeffs' made' out' coeffs''
      → RowsCoalesced w rows made out made' out' coeffs''
  rows_coalesced e most r =
      record {
        room = r.room;
        long = r.long;
        wide = r.wide ∙ read_wide read_own e most;
        shows = λ held.
            r.shows (ungrouped variable_basis w rows)
            (omega (arith, read_own.number, ungrouped_length variable_basis w rows))
            (shows_shown (read_shown read_own e held));
      }

-- ---- the end

-- the end gives the coalesced form, or 9
pub coalesce_end : (s : List ℕ) → IsBytes s → is_semilinear s ≡ true → {w c k : ℕ} {b : List ℕ} → w ≡ width s → c ≡ literal s
    → b ≡ body s → {tab : Table} {out : List ℕ} → Copied (read_form s) tab out → {made : Made} {out' coeffs : List ℕ}
    → RowsCoalesced w (read_rows 0 b (after_atoms b)) (begun tab k) out made out' coeffs
    → {end : Table} → end ≡ made.table → (r : Result Answer Refusal) {out'' : List ℕ}
    → Finished w end 1 coeffs c false out' r out''
    → GivesForm (limit_outcome (coalesce_form (read_form s)) false) 57360 r out''
unfolding coalesce_form decode_form
coalesce_end s bytes ok {w} {c} {k} {b} ew ec eb {tab} {out} h {made} {out'} {coeffs} coalesced et r finished =
    let own = rw (ew, eb) at coalesced in
    let end = rw (ew, ec, et) at finished in
    end.gives _ (shows_ends (own.shows (held_form s bytes ok k h)))

-- the end has room for all terms
pub coalesce_room : {w : ℕ} {rows : List Row} {before : Made} {out : List ℕ} {made : Made} {out' coeffs : List ℕ}
    → RowsCoalesced w rows before out made out' coeffs → {tab : Table} → tab ≡ made.table → length out ≡ 57360
    → FinishRoom tab 1 coeffs out'
coalesce_room {out = out} {coeffs = coeffs} r et e = pass_room out coeffs r.room r.long r.wide et e
