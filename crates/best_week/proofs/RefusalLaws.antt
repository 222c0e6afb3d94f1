-- The refusals of a run, one law for each way that the code takes, and what each number says.
use mathlib.Core.Path.{◌≡◌, refl, ap, sym, subst, ◌∙◌}
use Prim.Native.Nat.{ℕ, zero, suc, ◌+◌, ◌-◌, ◌*◌, ◌%◌, ◌≤◌, ◌<◌}
use native.Mathlib.Omega.{arith}
use mathlib.Core.Bool.{Bool, true, false, not}
use mathlib.Core.List.{List}
use lib.ListN.{length, get_or}
use lib.Dec.{eqb, leb, lit<}
use borrow.Author.Tests.{le-leb, lt-leb, eq-eqb, ne_eqb, eqb-true, leb-true, leb-false, not-false}
use Rattle.base.specs.Choice.{when}
use Rattle.base.specs.Limits.{record_length}
use Rattle.base.specs.Loop.{first_in}
use Rattle.record.specs.Fields.{u16, u32, u64}
use Rattle.base.proofs.BoolLaws.{and_true}
use Rattle.base.proofs.SearchLaws.{first_past}
use Rattle.best_week.specs.Run.{run_records, records, day, rest, none_in, filled, falls, well_formed, run_refusal}
use Rattle.best_week.specs.Told.{Rises}
use Rattle.best_week.proofs.SearchLaws.{none_at, none_fails}
use Rattle.best_week.proofs.WeekLaws.{both_true, second_false}

-- the records are as many as the bytes that they take say
pub records_are : (s : List ℕ) {n : ℕ} → record_length * n ≡ length s → n ≡ records s
records_are s e = omega arith

-- ---- the tests of a record

module _ (s : List ℕ) (i : ℕ) where
  pub filled_yes : {r : ℕ} → r ≡ rest s i → (r ≡ 0 → ⊥) → filled s i ≡ true
  unfolding filled
  filled_yes e h = ap not (ne_eqb (rest s i) 0 (λ z. h (e ∙ z)))

  pub filled_no : {r : ℕ} → r ≡ rest s i → r ≡ 0 → filled s i ≡ false
  unfolding filled
  filled_no e z = ap not (eq-eqb (rest s i) 0 (sym e ∙ z))

  pub falls_yes : {d b : ℕ} → d ≡ day s i → b ≡ day s (i - 1) → d ≤ b → falls s i ≡ true
  unfolding falls
  falls_yes e f l = le-leb (day s i) (day s (i - 1)) (omega arith)

  pub falls_no : {d b : ℕ} → d ≡ day s i → b ≡ day s (i - 1) → b < d → falls s i ≡ false
  unfolding falls
  falls_no e f l = lt-leb (day s i) (day s (i - 1)) (omega arith)

module _ (s : List ℕ) where
  -- 20 comes first: whatever the days
  pub twenty_first : well_formed s ≡ false → run_refusal s ≡ 20
  unfolding run_refusal
  twenty_first e = simp e

  -- ---- the ways of the code

  pub run_long : record_length * run_records < length s → run_refusal s ≡ 20
  unfolding well_formed
  run_long l = let e : leb (length s) (record_length * run_records) ≡ false = lt-leb (length s) (record_length * run_records) l in twenty_first (simp e)

  pub run_odd : (length s % record_length ≡ 0 → ⊥) → run_refusal s ≡ 20
  unfolding well_formed
  run_odd h =
      let e : eqb (length s % record_length) 0 ≡ false = ne_eqb (length s % record_length) 0 h in
      twenty_first (second_false (leb (length s) (record_length * run_records)) (simp e))

  module _ {n : ℕ} (count : n ≡ records s) where
    search : (p : ℕ → Bool) (a : ℕ) {t : Bool} → leb n (first_in p a n) ≡ t → none_in p a (records s) ≡ t
    unfolding none_in
    search p a {t} e = subst (λ (k : ℕ). leb k (first_in p a k) ≡ t) count e

    pub run_filled : first_in (filled s) 0 n < n → run_refusal s ≡ 20
    unfolding well_formed
    run_filled l =
        twenty_first
        (second_false (leb (length s) (record_length * run_records))
        (second_false (eqb (length s % record_length) 0)
        (search (filled s) 0 (lt-leb n (first_in (filled s) 0 n) l))))

    module _ (few : length s ≤ record_length * run_records) (whole : length s % record_length ≡ 0)
        (zeros : n ≤ first_in (filled s) 0 n) where
      well : well_formed s ≡ true
      unfolding well_formed
      well =
          both_true (le-leb (length s) (record_length * run_records) few)
          (both_true (eq-eqb (length s % record_length) 0 whole)
          (search (filled s) 0 (le-leb n (first_in (filled s) 0 n) zeros)))

      pub run_falls : first_in (falls s) 1 n < n → run_refusal s ≡ 21
      unfolding run_refusal
      run_falls l =
          let e = well in
          let f : none_in (falls s) 1 (records s) ≡ false =
          search (falls s) 1 (lt-leb n (first_in (falls s) 1 n) l) in
          simp (e, f)

      pub run_accepted : n ≤ first_in (falls s) 1 n → run_refusal s ≡ 0
      unfolding run_refusal
      run_accepted l =
          let e = well in
          let f : none_in (falls s) 1 (records s) ≡ true =
          search (falls s) 1 (le-leb n (first_in (falls s) 1 n) l) in
          simp (e, f)

-- ---- what the numbers say

-- a number of eight bytes is 0 where they are
module _ (s : List ℕ) (n : ℕ) where
  byte_at : (a b : ℕ) → a ≡ b → get_or s b 0 ≡ 0 → get_or s a 0 ≡ 0
  byte_at a b e z = rw e z

  bytes_zero : u64 s n ≡ 0 → (k : ℕ) → k < 8 → get_or s (n + k) 0 ≡ 0
  unfolding u64 u32 u16
  bytes_zero e zero l = byte_at (n + 0) (n) (omega arith) (omega arith)
  bytes_zero e (suc zero) l = byte_at (n + 1) (n + 1) (omega arith) (omega arith)
  bytes_zero e (suc (suc zero)) l = byte_at (n + 2) (n + 2) (omega arith) (omega arith)
  bytes_zero e (suc (suc (suc zero))) l = byte_at (n + 3) (n + 2 + 1) (omega arith) (omega arith)
  bytes_zero e (suc (suc (suc (suc zero)))) l = byte_at (n + 4) (n + 4) (omega arith) (omega arith)
  bytes_zero e (suc (suc (suc (suc (suc zero))))) l = byte_at (n + 5) (n + 4 + 1) (omega arith) (omega arith)
  bytes_zero e (suc (suc (suc (suc (suc (suc zero)))))) l = byte_at (n + 6) (n + 4 + 2) (omega arith) (omega arith)
  bytes_zero e (suc (suc (suc (suc (suc (suc (suc zero))))))) l = byte_at (n + 7) (n + 4 + 2 + 1) (omega arith) (omega arith)
  bytes_zero e (suc (suc (suc (suc (suc (suc (suc (suc k)))))))) l = absurd (omega arith)

  number_zero : ((k : ℕ) → k < 8 → get_or s (n + k) 0 ≡ 0) → u64 s n ≡ 0
  unfolding u64 u32 u16
  number_zero h =
      omega (
        arith,
        byte_at (n) (n + 0) (omega arith) (h 0 (lit< tt)),
        byte_at (n + 1) (n + 1) (omega arith) (h 1 (lit< tt)),
        byte_at (n + 2) (n + 2) (omega arith) (h 2 (lit< tt)),
        byte_at (n + 2 + 1) (n + 3) (omega arith) (h 3 (lit< tt)),
        byte_at (n + 4) (n + 4) (omega arith) (h 4 (lit< tt)),
        byte_at (n + 4 + 1) (n + 5) (omega arith) (h 5 (lit< tt)),
        byte_at (n + 4 + 2) (n + 6) (omega arith) (h 6 (lit< tt)),
        byte_at (n + 4 + 2 + 1) (n + 7) (omega arith) (h 7 (lit< tt)),
      )

module _ (s : List ℕ) where
  zeros_of : (i : ℕ) → filled s i ≡ false → (k : ℕ) → k < 8 → get_or s (record_length * i + 8 + k) 0 ≡ 0
  unfolding filled rest
  zeros_of i e = bytes_zero s (record_length * i + 8) (eqb-true (rest s i) 0 (not-false (eqb (rest s i) 0) e))

  of_zeros : (i : ℕ) → ((k : ℕ) → k < 8 → get_or s (record_length * i + 8 + k) 0 ≡ 0) → rest s i ≡ 0
  unfolding rest
  of_zeros i h = number_zero s (record_length * i + 8) h

  rises_of : (i : ℕ) → falls s i ≡ false → day s (i - 1) < day s i
  unfolding falls
  rises_of i e = leb-false (day s i) (day s (i - 1)) e

  parts : run_refusal s ≡ 0 → (well_formed s ≡ true) × (none_in (falls s) 1 (records s) ≡ true)
  unfolding run_refusal
  parts = go (well_formed s) (none_in (falls s) 1 (records s))
    where
      go : (a b : Bool) → when {A = ℕ} a (λ _. when b (λ _. 0) (λ _. 21)) (λ _. 20) ≡ 0 → (a ≡ true) × (b ≡ true)
      go true true e = (refl, refl)
      go true false e = absurd (omega arith)
      go false b e = absurd (omega arith)

  -- an accepted run is all that is asked of one
  pub accepted_rises : run_refusal s ≡ 0 → Rises s
  unfolding well_formed
  accepted_rises e =
      let both = and_true (eqb (length s % record_length) 0) (none_in (filled s) 0 (records s)) in
      let all = and_true (leb (length s) (record_length * run_records)) _ (parts e).0 in
      record {
        few = leb-true (length s) (record_length * run_records) all.0;
        whole = eqb-true (length s % record_length) 0 (both all.1).0;
        zeros = λ i l. zeros_of i (none_at (filled s) 0 (records s) (both all.1).1 i (omega arith) l);
        rising = λ i a l. rises_of i (none_at (falls s) 1 (records s) (parts e).1 i a l);
      }

  -- and every run that is so is accepted
  pub rises_accepted : Rises s → run_refusal s ≡ 0
  rises_accepted r =
      run_accepted s refl r.few r.whole
      (first_past (filled s) 0 (records s) (λ i _ l. filled_no s i refl (of_zeros i (r.zeros i l))))
      (first_past (falls s) 1 (records s) (λ i a l. falls_no s i refl refl (r.rising i a l)))

  -- 21 for a day that is not above the one before, where all else is right
  pub twenty_one : well_formed s ≡ true → (i : ℕ) → 1 ≤ i → i < records s → day s i ≤ day s (i - 1) → run_refusal s ≡ 21
  unfolding run_refusal
  twenty_one e i a l d =
      let f : none_in (falls s) 1 (records s) ≡ false =
      none_fails (falls s) 1 (records s) i a l (falls_yes s i refl refl d) in
      simp (e, f)
