-- Laws of the loop over the groups (specs/Refining.antt): the loop of group/proofs/TurnsLaws.antt, with a turn that
-- refines a group and settles it.
use Rattle.made.specs.declared.Made.{Made}
use mathlib.Core.Path.{◌≡◌, refl}
use Prim.Native.Nat.{ℕ, ◌+◌}
use mathlib.Core.List.{List, [], ◌∷◌}
use lib.ListN.{drop}
use Rattle.record.specs.Tree.{Tree}
use Rattle.semilinear.specs.Form.{Row}
use Rattle.group.specs.declared.Group.{Group}
use Rattle.group.specs.Group.{empty_group, group_of}
use Rattle.views.specs.Grouping.{any_basis}
use Rattle.made.specs.Made.{Room}
use Rattle.made.specs.Shown.{Shown}
use Rattle.group.specs.Turns.{in_turn}
use Rattle.group.proofs.TurnsLaws as turns
use Rattle.refiner_laws.specs.RefineTerms.{refine_all}
use Rattle.refiner_laws.specs.Refining.{settled_rows, GroupRefined, refine_turn, FairTurn, AllRefined}

module _ (w : ℕ) (before : List Row) (bases : List Tree) where
  all_in_turn : (l : List Tree) (rows : List Row) → in_turn (refine_turn w before) l rows ≡ refine_all w before l rows
  unfolding in_turn refine_turn refine_all settled_rows
  all_in_turn [] rows = refl
  all_in_turn (b ∷ l) rows = all_in_turn l (refine_turn w before b rows)

  abbrev pub Going : (k : ℕ) (made₀ : Made) (out₀ coeffs₀ : List ℕ) (made : Made) (out coeffs : List ℕ) → Type 0
  Going = turns.Going (refine_turn w before) (FairTurn w before) (Shown w) 262144 bases

  pub going_start : (made : Made) (out coeffs : List ℕ) → Room made out → Going 0 made out coeffs made out coeffs
  going_start = turns.turns_start (refine_turn w before) (FairTurn w before) (Shown w) 262144 bases

  module _ (k : ℕ) {made₀ : Made} {out₀ coeffs₀ : List ℕ} {made : Made} {out coeffs : List ℕ} (g : Going k made₀ out₀ coeffs₀ made out coeffs) where
    -- one group more
    pub going_next : {b : Tree} {h : Group} {made' : Made} {out' coeffs' : List ℕ} → drop k bases ≡ b ∷ drop (k + 1) bases
        → h ≡ group_of any_basis w b 0 before empty_group
        → GroupRefined w 262144 b h made out coeffs made' out' coeffs'
        → Going (k + 1) made₀ out₀ coeffs₀ made' out' coeffs'
    unfolding refine_turn FairTurn
    going_next next own r =
        turns.turns_next (refine_turn w before) (FairTurn w before) (Shown w) 262144 bases k g next r.room
        r.later.rows_le r.long r.wide (λ l. rw own at (r.shown l))

    -- no more groups
    pub going_done : drop k bases ≡ [] → AllRefined w before bases made₀ out₀ coeffs₀ made out coeffs
    going_done none =
        record {
          room = g.room;
          long = g.long;
          wide = g.wide;
          shown = λ l fair shown.
              rw (← all_in_turn bases l)
              (turns.turns_done (refine_turn w before) (FairTurn w before) (Shown w) 262144 bases k g none l fair shown);
        }
