-- Laws of specs/Refining.antt: the stages of a group in turn are `refine_group`, where a stage is not taken it is the
-- identity, and a group that was refined and settled shows its rows.
use Rattle.made.specs.declared.Made.{Made}
use mathlib.Core.Path.{◌≡◌, refl, ap, sym, subst, ◌∙◌}
use Prim.Native.Nat.{ℕ, ◌≤◌}
use native.Mathlib.Omega.{arith}
use mathlib.Core.List.{List}
use lib.ListN.{length}
use Rattle.record.specs.Tree.{Tree}
use Rattle.semilinear.specs.Form.{Row}
use Rattle.group.specs.declared.Group.{Group}
use Rattle.std.specs.Prelude.{Option}
use Rattle.collapse_search.specs.declared.find.Three.{Three}
use Rattle.group.specs.Group.{Entry, used, Work, work, on_group}
use Rattle.group.specs.Collapse.{three_term_collapse}
use Rattle.made.specs.Made.{Room}
use Rattle.group.specs.Made.{Stepped}
use Rattle.group.specs.Stages.{cut_and_drop, merge_all}
use Rattle.entries.specs.Tests.{NoSingle, NoMerge}
use Rattle.collapse_search.specs.Links.{lent, FoundThree}
use Rattle.views.specs.declared.View.{View}
use Rattle.group.specs.Gathered.{add_word, settle_words}
use Rattle.lone.specs.Lone.{lone_group, Stays}
use Rattle.made.specs.Shown.{Shown}
use Rattle.collapse_search.proofs.FindLaws.{found_used}
use Rattle.group.proofs.SettleWordsLaws.{length_words}
use Rattle.group.proofs.ShownLaws.{shown_settle}
use Rattle.lone.proofs.LoneLaws.{settle_lone, refined_lone}
use Rattle.refiner_laws.specs.RefineTerms.{refine_group}
use Rattle.refiner_laws.specs.Refining.{FairWork, settled_rows, GroupRefined}

-- ---- what is known of lent entries is known of the group

module _ {w v : ℕ} {es : List Entry} (g : Group) (ew : v ≡ w) (ee : es ≡ used g) where
  pub single_at : NoSingle v es → NoSingle w (used g)
  single_at h = rw (ew, ee) at h

  pub merge_at : NoMerge v es → NoMerge w (used g)
  merge_at h = rw (ew, ee) at h

  pub found_at : (o : Option Three) → FoundThree v (lent es) o → FoundThree w g o
  found_at o h = found_used w g o (rw (ew, ee) at h)

-- ---- the stages in turn

abbrev pub merged : ℕ → Tree → Work → Work
merged w t x = merge_all w t (cut_and_drop w t x)

abbrev pub collapsed : ℕ → Tree → Work → Work
collapsed w t x = three_term_collapse w t (merged w t x)

refined_is : (w : ℕ) (t : Tree) (x : Work) → collapsed w t x ≡ refine_group w t x
unfolding refine_group merge_all cut_and_drop on_group
refined_is w t x = refl

-- ---- a group refined and settled

module _ {w n : ℕ} (t : Tree) {g r : Group} {made : Made} {out : List ℕ} {made' : Made} {out' coeffs coeffs' : List ℕ} (hw : w ≤ 64)
    (few : n ≤ 262144) (s : Stepped w n (collapsed w t) g made out r made' out')
    (e : coeffs' ≡ settle_words w (used r) coeffs) where
  shown_rows : (l : List Row) → FairWork l (refine_group w t (work g l)) → Shown w made out coeffs l
      → Shown w made' out' coeffs' (settled_rows w (refine_group w t (work g l)))
  unfolding settled_rows work
  shown_rows l fair shown =
      let x : Work = refine_group w t (work g l) in
      let stands = s.stands (work g l) (record { same = refl; held = shown.held }) in
      let stood = subst (λ (y : Work). (r ≡ y.group)) (refined_is w t (work g l)) stands.same in
      let held = rw (refined_is w t (work g l)) at stands.held in
      let words : coeffs' ≡ settle_words w (used x.group) coeffs =
      e ∙ ap (λ (q : Group). settle_words w (used q) coeffs) stood in
      shown_settle w x.group x.rows hw fair.atoms held
      (λ f. shown.terms (fair.fits f) ∙ sym (fair.coeffs f)) words

  of_group : GroupRefined w 262144 t g made out coeffs made' out' coeffs'
  of_group =
      record {
        room = s.room;
        later = record { rows_le = omega (arith, s.later.rows_le, few); constant = s.later.constant };
        long = s.long;
        wide = ap length e ∙ length_words w (used r) coeffs;
        shown = shown_rows;
      }

  -- the same of the group by its name
  pub group_refined : {h : Group} → g ≡ h → GroupRefined w 262144 t h made out coeffs made' out' coeffs'
  group_refined q = subst (λ (h : Group). GroupRefined w 262144 t h made out coeffs made' out' coeffs') q of_group

-- a row that is alone in its group and stays as it is
pub lone_refined : {w : ℕ} (t : Tree) {g : Group} (v : View) (i : ℕ) {made : Made} {out coeffs coeffs' : List ℕ} → w ≤ 64
    → Room made out → g ≡ lone_group v i → Stays w v.coeff v.mask → coeffs' ≡ add_word w v.coeff i coeffs
    → GroupRefined w 262144 t g made out coeffs made out coeffs'
lone_refined {w} t v i {coeffs = coeffs} hw room lone stays e =
    group_refined t hw (omega arith) (refined_lone v i stays t room)
    (e ∙ sym (settle_lone v i w coeffs)) (sym lone)
