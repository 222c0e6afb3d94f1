-- Laws of the loop over the groups (recover_pair/specs/Recovering.antt): the loop of group/proofs/TurnsLaws.antt, with a
-- turn that recovers a group and settles it; a table that is full ends it, and then what all groups make passes a limit.
use Rattle.made.specs.declared.Made.{Made}
use mathlib.Core.Path.{◌≡◌, refl, sym, subst, ◌∙◌}
use Prim.Native.Nat.{ℕ, ◌+◌, ◌≤◌}
use mathlib.Core.List.{List, [], ◌∷◌}
use mathlib.Core.Bool.{true, false}
use lib.ListN.{get_or, drop}
use Rattle.base.specs.Put.{padded}
use Rattle.record.specs.Tree.{Tree}
use Rattle.base.proofs.BoolLaws.{false_true}
use Rattle.semilinear.specs.Form.{Row, Form, fits_table}
use Rattle.semilinear.specs.Items.{atom_count, after_atoms}
use Rattle.semilinear.specs.DecodeForm.{read_rows}
use Rattle.group.specs.declared.Group.{Group}
use Rattle.group.specs.Group.{empty_group, group_of}
use Rattle.views.specs.Grouping.{any_basis, bases_of, ungrouped}
use Rattle.made.specs.Made.{Room}
use Rattle.made.specs.Shown.{Shown}
use Rattle.std.specs.Prelude.{Option}
use Rattle.views.specs.declared.View.{View}
use Rattle.views.specs.Views.{only_of, Views, ViewsRead}
use Rattle.group.specs.Turns.{in_turn}
use Rattle.group.proofs.PassLaws.{read_wide, read_shown}
use Rattle.group.proofs.ShownLaws.{settle_fits}
use Rattle.group.proofs.TurnsLaws as turns
use Rattle.views.proofs.SplitLaws.{only_any}
use Rattle.structure_laws.specs.RecoverStructure.{recover_group, recover_all}
use Rattle.pairing.specs.Recovering.{recovery, FairRecovery, settled_form, ShowsForm, GroupRecovered, one_recovered}
use Rattle.pairing.specs.Recovering.{recover_turn, FairTurn, AllRecovered, RowsRecovered}
use Rattle.pairing.proofs.RecoveredLaws.{past_group}
use Rattle.bare.proofs.ShowsLaws.{shows_shown}

module _ (w : ℕ) (before : List Row) where
  -- the form of the rows l and the constant c
  abbrev form_of : List Row → ℕ → Form
  form_of l c = record { bitwidth = w; constant = c; rows = l }

  all_in_turn : (bases : List Tree) (l : List Row) (c : ℕ)
      → in_turn (recover_turn w before) bases (form_of l c) ≡ recover_all w before bases l c
  unfolding in_turn recover_turn recover_all settled_form
  all_in_turn [] l c = refl
  all_in_turn (b ∷ bases) l c =
      let x = one_recovered w before b l c in
      all_in_turn bases (settled_form w x).rows x.constant

  -- rows that pass a limit pass it whatever is recovered
  past_all : (bases : List Tree) (x : Form) → fits_table x.rows ≡ false
      → fits_table (in_turn (recover_turn w before) bases x).rows ≡ false
  unfolding in_turn recover_turn settled_form
  past_all [] x h = h
  past_all (b ∷ bases) x h =
      let y = one_recovered w before b x.rows x.constant in
      past_all bases (recover_turn w before b x)
      (settle_fits w y.group y.rows
      ∙ past_group w b (recovery (group_of any_basis w b 0 before empty_group) x.rows x.constant) h)

  module _ (bases : List Tree) where
    abbrev pub Going : (k : ℕ) (made₀ : Made) (out₀ coeffs₀ : List ℕ) (made : Made) (out coeffs : List ℕ) → Type 0
    Going = turns.Going (recover_turn w before) (FairTurn w before) (ShowsForm w) 256 bases

    pub going_start : (made : Made) (out coeffs : List ℕ) → Room made out → Going 0 made out coeffs made out coeffs
    going_start = turns.turns_start (recover_turn w before) (FairTurn w before) (ShowsForm w) 256 bases

    -- what is shown of the first rows
    shown_form : {made : Made} {out coeffs : List ℕ} {l : List Row} → Shown w made out coeffs l
        → ShowsForm w made out coeffs (form_of l made.constant)
    shown_form h = record { shows = shows_shown h; constant = λ _. refl }

    module _ (k : ℕ) {made₀ : Made} {out₀ coeffs₀ : List ℕ} {made : Made} {out coeffs : List ℕ} (g : Going k made₀ out₀ coeffs₀ made out coeffs) where
      -- one group more
      pub going_next : made.table.full ≡ false → {b : Tree} {h : Group} {made' : Made} {out' coeffs' : List ℕ}
          → drop k bases ≡ b ∷ drop (k + 1) bases → h ≡ group_of any_basis w b 0 before empty_group
          → GroupRecovered w 256 b h made out coeffs made' out' coeffs'
          → Going (k + 1) made₀ out₀ coeffs₀ made' out' coeffs'
      unfolding recover_turn FairTurn
      going_next more {b} {made' = made'} {out'} {coeffs'} next own r =
          turns.turns_next (recover_turn w before) (FairTurn w before) (ShowsForm w) 256 bases k g next r.room
          r.rows_le r.long r.wide
          (λ x fair s.
          let q : Group = group_of any_basis w b 0 before empty_group in
          let turn = rw own at (r.shown x.rows) in
          let same =
          subst
          (λ (c : ℕ).
          FairRecovery x.rows (recover_group w b (recovery q x.rows c)) → Shown w made out coeffs x.rows
          → ShowsForm w made' out' coeffs' (settled_form w (recover_group w b (recovery q x.rows c))))
          (s.constant more) turn in
          same fair (s.shows.shown more))

      -- the table is full
      pub going_stop : made.table.full ≡ true → AllRecovered w before bases made₀ out₀ coeffs₀ made out coeffs
      going_stop full =
          record {
            room = g.room;
            long = g.long;
            wide = g.wide;
            shown = λ l fair shown.
                let last = g.still (form_of l made₀.constant) fair (shown_form shown) in
                let same = last.same ∙ all_in_turn bases l made₀.constant in
                record {
                  shows = record {
                    shown = λ more. false_true (sym more ∙ full);
                    past = λ _.
                        subst (λ (f : Form). fits_table f.rows ≡ false) same
                        (past_all (drop k bases) last.state (last.shown.shows.past full));
                  };
                  constant = λ more. false_true (sym more ∙ full);
                };
          }

      -- no more groups
      pub going_done : drop k bases ≡ [] → AllRecovered w before bases made₀ out₀ coeffs₀ made out coeffs
      going_done none =
          record {
            room = g.room;
            long = g.long;
            wide = g.wide;
            shown = λ l fair shown.
                rw (← all_in_turn bases l made₀.constant)
                (turns.turns_done (recover_turn w before) (FairTurn w before) (ShowsForm w) 256 bases k g none
                (form_of l made₀.constant) fair (shown_form shown));
          }

-- ---- the rows of a form

module _ {w : ℕ} {f coeffs : List ℕ} {views : List (Option View)} {coeffs' : List ℕ} {n : ℕ}
    (v : ViewsRead (only_of false) w f (read_rows 0 f (after_atoms f)) coeffs views coeffs' n) where
  pub read_any : Views any_basis w f views (read_rows 0 f (after_atoms f))
  read_any = rw only_any at v.views

  -- all groups recovered, of the rows without their terms
  pub rows_recovered_lem : coeffs ≡ padded 256 [] → atom_count f ≤ 256 → {made : Made} {out : List ℕ} {made' : Made} {out' coeffs'' : List ℕ}
      → AllRecovered w (read_rows 0 f (after_atoms f)) (bases_of any_basis w (read_rows 0 f (after_atoms f)) []) made out coeffs'
      made' out' coeffs''
      → RowsRecovered w (read_rows 0 f (after_atoms f)) made out made' out' coeffs''
  rows_recovered_lem e most r =
      record {
        room = r.room;
        long = r.long;
        wide = r.wide ∙ read_wide v e most;
        shown = λ fair held.
            r.shown (ungrouped any_basis w (read_rows 0 f (after_atoms f))) fair (rw only_any at (read_shown v e held));
      }
