-- A group of fresh entries beside a table that holds the rows of the one that it was made of: its entries owe what they
-- come to, and settling them adds that.
use mathlib.Core.Path.{◌≡◌, sym, ap, ◌∙◌}
use Prim.Native.Nat.{ℕ, ◌*◌, ◌≤◌, ◌<◌}
use native.Mathlib.Omega.{arith}
use mathlib.Core.List.{List}
use mathlib.Core.Bool.{true}
use Rattle.arith.proofs.CongruenceLaws.{eqm_of_eq}
use Rattle.record.specs.Tree.{Tree}
use Rattle.expr.specs.Value.{value}
use Rattle.entries.specs.declared.Mark.TheVariants.{Live}
use Rattle.entries.specs.Marks.{not_consumed}
use Rattle.group.specs.declared.Group.{Group}
use Rattle.semilinear.specs.Form.{Row}
use Rattle.group.specs.Group.{Entry, at, is_live, settle}
use Rattle.group.proofs.TotalLaws.{sum_to, sum_ext, worth, worth_live, total}
use Rattle.group.proofs.SettleLaws.{owed, owed_live, settled}
use Rattle.group.proofs.GroupOfLaws.{Fresh}
use Rattle.group.proofs.WorkLaws.{Extends, Added, added_eqm}

-- an entry without a mark is live
pub live_fresh : (e : Entry) → e.mark ≡ Live → is_live e ≡ true
unfolding is_live
live_fresh e h = ap not_consumed h

module _ (w : ℕ) (hw : w ≤ 64) (vars : List ℕ) (b : Tree) (before : List Row) (g : Group)
    (fresh : (k : ℕ) → k < g.len → Fresh w vars b before (at g k)) where
  owed_fresh : (rows : List Row) → Extends w vars before rows → (k : ℕ) → k < g.len
      → owed w vars rows (at g k) ≡ worth (value w vars b) (at g k)
  owed_fresh rows f k l =
      let e = fresh k l in
      let live = live_fresh (at g k) e.unmarked in
      owed_live w vars rows (at g k) live
      ∙ ap (λ (n : ℕ). (at g k).coeff * n) (f.older (at g k).atom e.atom_lt ∙ e.atom_value)
      ∙ sym (worth_live (value w vars b) (at g k) live)

  -- what they owe
  pub owed_total : (rows : List Row) → Extends w vars before rows
      → sum_to (λ (k : ℕ). owed w vars rows (at g k)) g.len ≡ total (value w vars b) g
  unfolding total
  owed_total rows f =
      sum_ext (λ (k : ℕ). owed w vars rows (at g k)) (λ k. worth (value w vars b) (at g k)) g.len (owed_fresh rows f)

  -- settling them adds what they come to
  pub added_settled : (rows : List Row) → Extends w vars before rows
      → Added w vars (total (value w vars b) g) rows (settle w g rows)
  added_settled rows f =
      added_eqm w vars (eqm_of_eq (owed_total rows f))
      (settled w vars hw g rows (λ i l live. let e = fresh i l in omega (arith, e.atom_lt, f.longer)))
