-- What every step of refining keeps of a group beside its table: the sum of the live entries modulo 2 ^ w, the rows
-- that were there, and that a live entry's atom is the basis b under the entry's mask.
use mathlib.Core.Path.{◌≡◌, refl, sym, subst, ◌∙◌}
use mathlib.Core.Logic.{◌≢◌}
use Prim.Native.Nat.{ℕ, ◌+◌, ◌^◌, ◌<◌}
use mathlib.Core.List.{List}
use mathlib.Core.Bool.{true}
use Rattle.arith.specs.Congruence.{Eqm}
use Rattle.arith.proofs.CongruenceLaws.{eqm_refl, eqm_trans}
use Rattle.record.specs.Tree.{Tree}
use Rattle.expr.specs.Value.{value}
use Rattle.group.specs.declared.Group.{Group}
use Rattle.semilinear.specs.Form.{Row, sum_rows, rows_ok}
use Rattle.group.specs.Group.{Entry, at, put_entry, is_live, Work, work}
use Rattle.group.proofs.EntryLaws.{Sized, sized_put}
use Rattle.group.proofs.TotalLaws.{worth, total, len_put, sum_one, sum_two, sum_three}
use Rattle.group.proofs.WorkLaws.{Grown, grown_refl, grown_trans}
use Rattle.group.proofs.FitsLaws.{Fits, AllFit, all_extends, all_put}

-- in refining the row of every live entry is the basis under its mask
abbrev pub any_entry : Entry → Type 0
any_entry e = Unit {0}

-- ---- the state

pub record KeptWork (w : ℕ) (vars : List ℕ) (b : Tree) (g0 : Group) (rows0 : List Row) (x : Work) : Type 0 where
  pub sized : Sized x.group
  pub len_same : x.group.len ≡ g0.len
  pub total_same : Eqm (2 ^ w) (total (value w vars b) x.group) (total (value w vars b) g0)
  pub all_fit : AllFit w vars b any_entry x.group x.rows
  pub grown : Grown w vars rows0 x.rows

module _ (w : ℕ) (vars : List ℕ) (b : Tree) (g0 : Group) (rows0 : List Row) where
  pub kept_rows_ok : (x : Work) → KeptWork w vars b g0 rows0 x → rows_ok w rows0 ≡ true → rows_ok w x.rows ≡ true
  kept_rows_ok x h ok = h.grown.extends.ok ok

  pub kept_sum_rows : (x : Work) → KeptWork w vars b g0 rows0 x → sum_rows w vars x.rows ≡ sum_rows w vars rows0
  kept_sum_rows x h = h.grown.sum_same

  pub kept_start : Sized g0 → AllFit w vars b any_entry g0 rows0 → KeptWork w vars b g0 rows0 (work g0 rows0)
  unfolding work
  kept_start s a =
      record {
        sized = s;
        len_same = refl;
        total_same = eqm_refl (total (value w vars b) g0);
        all_fit = a;
        grown = grown_refl w vars rows0;
      }

  -- one, two and three entries put beside a table that has grown
  module _ (x : Work) (h : KeptWork w vars b g0 rows0 x) (l : List Row) (more : Grown w vars x.rows l) where
    abbrev v : ℕ
    v = value w vars b

    abbrev g : Group
    g = x.group

    fitting : AllFit w vars b any_entry g l
    fitting = all_extends w vars b any_entry x.group more.extends h.all_fit

    within : {i : ℕ} → i < g0.len → i < g.len
    within {i} li = subst (λ (n : ℕ). i < n) (sym h.len_same) li

    -- a group that is sized, of the same length and sum, and fits
    kept_with : (r : Group) → Sized r → r.len ≡ g.len → Eqm (2 ^ w) (total v r) (total v g)
        → AllFit w vars b any_entry r l → KeptWork w vars b g0 rows0 (work r l)
    unfolding work
    kept_with r s n t a =
        record {
          sized = s;
          len_same = n ∙ h.len_same;
          total_same = eqm_trans t h.total_same;
          all_fit = a;
          grown = grown_trans w vars h.grown more;
        }

    pub kept_one : (i : ℕ) (e : Entry) → i < g0.len → Eqm (2 ^ w) (worth v e) (worth v (at g i))
        → (is_live e ≡ true → Fits w vars b any_entry l e) → KeptWork w vars b g0 rows0 (work (put_entry g i e) l)
    kept_one i e li t f =
        kept_with (put_entry g i e) (sized_put g i e h.sized) (len_put g i e)
        (sum_one (2 ^ w) v g h.sized i e (within li) t)
        (all_put w vars b any_entry g h.sized l fitting i e (within li) f)

    module _ (i j : ℕ) (e f : Entry) (ne : j ≢ i) (li : i < g0.len) (lj : j < g0.len)
        (fe : is_live e ≡ true → Fits w vars b any_entry l e) (ff : is_live f ≡ true → Fits w vars b any_entry l f) where
      abbrev r : Group
      r = put_entry (put_entry g i e) j f

      sized_two : Sized r
      sized_two = sized_put (put_entry g i e) j f (sized_put g i e h.sized)

      len_two : r.len ≡ g.len
      len_two = len_put (put_entry g i e) j f ∙ len_put g i e

      fit_two : AllFit w vars b any_entry r l
      fit_two =
          all_put w vars b any_entry (put_entry g i e) (sized_put g i e h.sized) l
          (all_put w vars b any_entry g h.sized l fitting i e (within li) fe) j f (rw (len_put g i e) (within lj)) ff

      pub kept_two : Eqm (2 ^ w) (worth v e + worth v f) (worth v (at g i) + worth v (at g j))
          → KeptWork w vars b g0 rows0 (work r l)
      kept_two t =
          kept_with r sized_two len_two (sum_two (2 ^ w) v g h.sized i j e f ne (within li) (within lj) t) fit_two

      pub kept_three : (k : ℕ) (d : Entry) → k ≢ i → k ≢ j → k < g0.len
          → (is_live d ≡ true → Fits w vars b any_entry l d)
          → Eqm (2 ^ w) (worth v e + worth v f + worth v d) (worth v (at g i) + worth v (at g j) + worth v (at g k))
          → KeptWork w vars b g0 rows0 (work (put_entry r k d) l)
      kept_three k d ki kj lk fd t =
          kept_with (put_entry r k d) (sized_put r k d sized_two) (len_put r k d ∙ len_two)
          (sum_three (2 ^ w) v g h.sized i j e f ne (within li) (within lj) k d ki kj (within lk) t)
          (all_put w vars b any_entry r sized_two l fit_two k d (rw len_two (within lk)) fd)
