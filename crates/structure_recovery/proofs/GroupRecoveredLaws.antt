-- Laws of a group recovered and settled (recover_pair/specs/Recovering.antt): a group without partners, and what the
-- table shows afterwards, full or not.
use Rattle.made.specs.declared.Made.{Made}
use mathlib.Core.Path.{◌≡◌, refl, ap, ap₂, sym, subst, ◌∙◌}
use Prim.Native.Nat.{ℕ, ◌+◌, ◌-◌, ◌^◌, ◌≤◌}
use native.Mathlib.Omega.{arith}
use mathlib.Core.List.{List}
use mathlib.Core.Bool.{true}
use lib.ListN.{length, get_or}
use Rattle.record.specs.Tree.{Tree}
use Rattle.base.proofs.BoolLaws.{false_true}
use Rattle.base.proofs.LoopLaws.{first_from}
use Rattle.semilinear.specs.Form.{Row}
use Rattle.group.specs.declared.Group.{Group}
use Rattle.entries.specs.Marks.{blank}
use Rattle.group.specs.Group.{Entry, used}
use Rattle.made.specs.Made.{Room}
use Rattle.views.specs.declared.View.{View}
use Rattle.group.specs.Gathered.{add_word, settle_words}
use Rattle.lone.specs.Lone.{lone_group}
use Rattle.made.specs.Shown.{Shown}
use Rattle.group.proofs.SettleWordsLaws.{length_words}
use Rattle.group.proofs.ShownLaws.{settle_fits, shown_settle}
use Rattle.lone.proofs.LoneLaws.{lone_len, lone_used, settle_lone}
use Rattle.structure_laws.specs.RecoverStructure.{Recovery, recover_group}
use Rattle.pairing.specs.Recovering.{partner_fits, NoPartner, StandsRecovery, Recovers, Recovered}
use Rattle.pairing.specs.Recovering.{recovery, FairRecovery}
use Rattle.pairing.specs.Recovering.{settled_form, ShowsForm, GroupRecovered}
use Rattle.recover_pair.proofs.PairingLaws.{group_alone}
use Rattle.pairing.proofs.RecoveredLaws.{recovers_of}

-- ---- the group

pub recovered_none : {w : ℕ} (t : Tree) {g : Group} {made : Made} {out : List ℕ} {f : ℕ} → f ≡ 2 ^ w - 1
    → NoPartner f (used g) → Room made out
    → Recovered w 256 (recover_group w t) g made out g made out
recovered_none {w} t {g} {made} {out} ef none room =
    record {
      room = room;
      rows_le = omega arith;
      long = refl;
      len = refl;
      recovers = λ x s. subst (Recovers w g made out) (group_alone w t g ef none x s.same) (recovers_of s);
    }

-- what the code knows where its ways meet
pub recovered_met : {w n : ℕ} {f : Recovery → Recovery} {g r q : Group} {made : Made} {out : List ℕ} {made' : Made} {out' : List ℕ} {made'' : Made} {out'' : List ℕ}
    → made'' ≡ made' → out'' ≡ out' → q ≡ r → Recovered w n f g made out r made' out'
    → Recovered w n f g made out q made'' out''
recovered_met em eo er p = rw (em, eo, er) p

-- ---- settled

module _ {w : ℕ} (t : Tree) {g r : Group} {made : Made} {out : List ℕ} {made' : Made} {out' : List ℕ}
    (s : Recovered w 256 (recover_group w t) g made out r made' out') where
  -- the work that a table which shows l begins with
  abbrev begun : List Row → Recovery
  begun l = recovery g l made.constant

  begins : {coeffs : List ℕ} (l : List Row) → Shown w made out coeffs l → StandsRecovery w g made out (begun l)
  begins l shown = record { same = refl; held = shown.held; constant = refl }

  -- a full table
  past_settled : made'.table.full ≡ true → {coeffs coeffs' : List ℕ} (l : List Row) → Shown w made out coeffs l
      → ShowsForm w made' out' coeffs' (settled_form w (recover_group w t (begun l)))
  unfolding settled_form
  past_settled full l shown =
      let x : Recovery = recover_group w t (begun l) in
      record {
        shows = record {
          shown = λ more. false_true (sym more ∙ full);
          past = λ _. settle_fits w x.group x.rows ∙ (s.recovers (begun l) (begins l shown)).past full;
        };
        constant = λ more. false_true (sym more ∙ full);
      }

  pub group_past : made'.table.full ≡ true → (coeffs : List ℕ)
      → {h : Group} → g ≡ h → GroupRecovered w 256 t h made out coeffs made' out' coeffs
  group_past full coeffs e =
      subst (λ (h : Group). GroupRecovered w 256 t h made out coeffs made' out' coeffs) e
      (record {
        room = s.room;
        rows_le = s.rows_le;
        long = s.long;
        wide = refl;
        shown = λ l fair shown. past_settled full l shown;
      })

  module _ (hw : w ≤ 64) {coeffs coeffs' : List ℕ}
      (e : coeffs' ≡ settle_words w (used r) coeffs) where
    shown_settled : (l : List Row) → FairRecovery l (recover_group w t (begun l)) → Shown w made out coeffs l
        → ShowsForm w made' out' coeffs' (settled_form w (recover_group w t (begun l)))
    unfolding settled_form
    shown_settled l fair shown =
        let x : Recovery = recover_group w t (begun l) in
        let done = s.recovers (begun l) (begins l shown) in
        let words : r ≡ x.group → coeffs' ≡ settle_words w (used x.group) coeffs =
        λ same. e ∙ ap (λ (q : Group). settle_words w (used q) coeffs) same in
        record {
          shows = record {
            shown = λ more.
                shown_settle w x.group x.rows hw fair.atoms (done.stands more).held
                (λ f. shown.terms (fair.fits f) ∙ sym (fair.coeffs f)) (words (done.stands more).same);
            past = λ full. settle_fits w x.group x.rows ∙ done.past full;
          };
          constant = λ more. (done.stands more).constant;
        }

    pub group_settled : {h : Group} → g ≡ h → GroupRecovered w 256 t h made out coeffs made' out' coeffs'
    group_settled q =
        subst (λ (h : Group). GroupRecovered w 256 t h made out coeffs made' out' coeffs') q
        (record {
          room = s.room;
          rows_le = s.rows_le;
          long = s.long;
          wide = ap length e ∙ length_words w (used r) coeffs;
          shown = shown_settled;
        })

-- ---- a row that is alone in its group

no_partner : (f : ℕ) (v : View) (i : ℕ) → NoPartner f (used (lone_group v i))
no_partner f v i k lt =
    let es = used (lone_group v i) in
    omega (
      arith,
      lone_used v i,
      lone_len v i,
      first_from (partner_fits (f - (get_or es k blank).mask) es) (k + 1) (length es),
    )

-- it is not paired, and settling adds its coefficient to its row
pub lone_recovered : {w : ℕ} (t : Tree) {g : Group} (v : View) (i : ℕ) {made : Made} {out coeffs coeffs' : List ℕ} → w ≤ 64
    → Room made out → g ≡ lone_group v i → coeffs' ≡ add_word w v.coeff i coeffs
    → GroupRecovered w 256 t g made out coeffs made out coeffs'
lone_recovered {w} t v i {coeffs = coeffs} hw room lone e =
    group_settled t (recovered_none t {f = 2 ^ w - 1} refl (no_partner (2 ^ w - 1) v i) room) hw
    (e ∙ sym (settle_lone v i w coeffs)) (sym lone)

-- ---- what is known of lent entries is known of the group

module _ {w v : ℕ} {es : List Entry} (g : Group) (ew : v ≡ w) (ee : es ≡ used g) where
  pub settled_at : (coeffs : List ℕ) → settle_words v es coeffs ≡ settle_words w (used g) coeffs
  settled_at coeffs = ap₂ (λ (k : ℕ) (l : List Entry). settle_words k l coeffs) ew ee

pub alone_at : (full : ℕ) {es : List Entry} (g : Group) → es ≡ used g → NoPartner full es → NoPartner full (used g)
alone_at full g ee h = rw ee at h
