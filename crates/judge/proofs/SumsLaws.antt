-- The sums of a place on their way (specs/Sums.antt): a coefficient added row by row, and the rows of a form one by
-- one.
use mathlib.Core.Path.{◌≡◌, refl, ap, ap₂, sym, ◌∙◌}
use Prim.Native.Nat.{ℕ, ◌+◌, ◌*◌, ◌/◌, ◌%◌, ◌^◌, ◌≤◌, ◌<◌}
use native.Mathlib.Nat.{mod-eq_of_lt, mod-lt, add-zero, zero-add, zero-mul, add_assoc, mul-zero, mul-one, div-one, mod-add-mod}
use native.Mathlib.Decide.{ℕ_discrete, dec_lt}
use native.Mathlib.Omega.{arith}
use mathlib.Core.List.{List}
use mathlib.Core.Bool.{true, false}
use Rattle.std.specs.Prelude.{None, Some}
use lib.ListN.{length, get_or, set, drop, replicate, length-set, length-replicate, get_or-replicate, get_or-eq_default}
use lib.Seq.{get_or-set_same, get_or-set_other}
use lib.Pow.{shr-shr, pow_pos}
use Rattle.arith.specs.Bit.{bit_at}
use Rattle.arith.specs.Width.{mod_add}
use Rattle.arith.proofs.BitLaws.{bit_lt}
use Rattle.arith.proofs.WidthLaws.{mod_add_lem}
use Rattle.record.specs.Decode.{decode}
use Rattle.truth.specs.Truth.{bit_of, row_bits, table_f}
use Rattle.truth.proofs.TruthLaws.{table_f_bit}
use Rattle.semilinear.specs.Form.{Row}
use Rattle.semilinear.specs.declared.items.FormRow.{FormRow}
use Rattle.semilinear.specs.Atoms.{RowsLeft, FrontRow}
use Rattle.semilinear.specs.Items.{is_atom, tree_span}
use Rattle.semilinear.specs.Valid.{atoms_ok}
use Rattle.semilinear.specs.DecodeForm.{coeff_at, row_at, rows_of}
use Rattle.semilinear.specs.Scan.{AtomsEnd}
use Rattle.semilinear.proofs.WalkLaws.{rows_left, left_none, left_row, left_ok, row_coeff_none, row_coeff_some}
use Rattle.judge_laws.specs.PlaceSum.{place_sum}
use Rattle.judge.specs.Sums.{AllBelow, CoeffAdded, form_rows}

-- ---- a coefficient

-- the first i sums have it, and `left` are the rows from i on
pub record Adding (w rows c : ℕ) (before sums : List ℕ) (left i : ℕ) : Type 0 where
  pub inside : i ≤ length before
  pub long : length sums ≡ length before
  pub rest : left ≡ rows / 2 ^ i
  pub done : (k : ℕ) → k < i → get_or sums k 0 ≡ (get_or before k 0 + c * bit_at rows k) % 2 ^ w
  pub todo : (k : ℕ) → i ≤ k → get_or sums k 0 ≡ get_or before k 0

module _ (w rows c : ℕ) (before : List ℕ) where
  pub adding_start : Adding w rows c before before rows 0
  adding_start =
      record {
        inside = omega arith;
        long = refl;
        rest = sym (div-one rows);
        done = λ k h. absurd (omega arith);
        todo = λ k h. refl;
      }

  module _ (sums : List ℕ) (left i : ℕ) (h : Adding w rows c before sums left i) where
    bit_left : left % 2 ≡ bit_at rows i
    unfolding bit_at
    bit_left = ap (λ (n : ℕ). n % 2) h.rest

    halved : left / 2 ≡ rows / 2 ^ (i + 1)
    halved = ap (λ (n : ℕ). n / 2) h.rest ∙ shr-shr rows i 1

    next : i < length before → (after : List ℕ) → length after ≡ length sums
        → ((k : ℕ) → (k ≡ i → ⊥) → get_or after k 0 ≡ get_or sums k 0)
        → get_or after i 0 ≡ (get_or before i 0 + c * bit_at rows i) % 2 ^ w
        → Adding w rows c before after (left / 2) (i + 1)
    next l after same others here =
        record {
          inside = omega arith;
          long = same ∙ h.long;
          rest = halved;
          done = λ k u. go k u (ℕ_discrete k i);
          todo = λ k u. others k (omega arith) ∙ h.todo k (omega arith);
        }
      where
        go : (k : ℕ) → k < i + 1 → Dec (k ≡ i) → get_or after k 0 ≡ (get_or before k 0 + c * bit_at rows k) % 2 ^ w
        go k u (yes e) = rw e here
        go k u (no n) = others k n ∙ h.done k (omega arith)

    -- the row is not set
    pub adding_skip : i < length before → AllBelow w before → (left % 2 ≡ 1 → ⊥)
        → Adding w rows c before sums (left / 2) (i + 1)
    adding_skip l fits n =
        let none : bit_at rows i ≡ 0 = omega (arith, bit_left, bit_lt rows i) in
        next l sums refl (λ k _. refl)
        (h.todo i (omega arith)
        ∙ sym (ap (λ (d : ℕ). (get_or before i 0 + c * d) % 2 ^ w) none
        ∙ ap (λ (d : ℕ). (get_or before i 0 + d) % 2 ^ w) (mul-zero c)
        ∙ ap (λ (d : ℕ). d % 2 ^ w) (add-zero (get_or before i 0))
        ∙ mod-eq_of_lt (fits i)))

    -- the row is set
    pub adding_set : w ≤ 64 → i < length before → left % 2 ≡ 1 → {v : ℕ} → v ≡ mod_add (get_or sums i 0) c w
        → Adding w rows c before (set sums i v) (left / 2) (i + 1)
    adding_set hw l e {v} ev =
        let one : bit_at rows i ≡ 1 = sym bit_left ∙ e in
        next l (set sums i v) (length-set sums i v) (λ k n. get_or-set_other sums i k v 0 n)
        (get_or-set_same sums i v 0 (omega (arith, h.long))
        ∙ ev
        ∙ mod_add_lem (get_or sums i 0) c w hw
        ∙ ap (λ (n : ℕ). (n + c) % 2 ^ w) (h.todo i (omega arith))
        ∙ ap (λ (n : ℕ). (get_or before i 0 + n) % 2 ^ w) (sym (ap (λ (d : ℕ). c * d) one ∙ mul-one c)))

    pub adding_done : length before ≤ i → CoeffAdded w rows c before sums
    adding_done l = record { long = h.long; sum = λ k u. h.done k (omega arith) }

-- ---- the rows of a form

-- n sums, which with the rows that are left make those of place p
pub record Summing (w p : ℕ) (vs f : List ℕ) (n : ℕ) (sums : List ℕ) (s : RowsLeft) : Type 0 where
  pub atoms : atoms_ok w s.atoms ≡ true
  pub long : length sums ≡ n
  pub fits : AllBelow w sums
  pub sum : (i : ℕ) → i < n
      → (get_or sums i 0 + place_sum w p vs i (rows_left s)) % 2 ^ w ≡ place_sum w p vs i (form_rows f) % 2 ^ w

-- all sums have w bits where those of the slice have
fits_all : (w : ℕ) (l : List ℕ) → ((i : ℕ) → i < length l → get_or l i 0 < 2 ^ w) → AllBelow w l
fits_all w l h i = go (dec_lt i (length l))
  where
    go : Dec (i < length l) → get_or l i 0 < 2 ^ w
    go (yes u) = h i u
    go (no u) = rw (get_or-eq_default l 0 {n = i} (omega arith)) (pow_pos w)

module _ (w p : ℕ) (vs f : List ℕ) (n : ℕ) where
  pub summing_start : (terms : ℕ) → atoms_ok w f ≡ true → AtomsEnd f terms → {sums : List ℕ} → sums ≡ replicate n 0
      → Summing w p vs f n sums (record { number = 0; atoms = f; terms = drop terms f })
  summing_start terms ok end {sums} e =
      let none : (i : ℕ) → i < n → get_or sums i 0 ≡ 0 =
      λ i h. ap (λ (l : List ℕ). get_or l i 0) e ∙ get_or-replicate n i 0 0 h in
      let size : length sums ≡ n = ap length e ∙ length-replicate n 0 in
      record {
        atoms = ok;
        long = size;
        fits = fits_all w sums (λ i h. rw (none i (omega (arith, size))) (pow_pos w));
        sum =
            λ i h.
            ap (λ (k : ℕ). (k + place_sum w p vs i (rows_of 0 f (drop terms f))) % 2 ^ w) (none i h)
            ∙ ap (λ (k : ℕ). k % 2 ^ w) (zero-add (place_sum w p vs i (rows_of 0 f (drop terms f))))
            ∙ ap (λ (q : List ℕ). place_sum w p vs i (rows_of 0 f q) % 2 ^ w) end.rest;
      }

  module _ (sums : List ℕ) {s : RowsLeft} (h : Summing w p vs f n sums s) where
    pub summing_end : is_atom s.atoms ≡ false → (i : ℕ) → i < n
        → get_or sums i 0 ≡ place_sum w p vs i (form_rows f) % 2 ^ w
    unfolding place_sum
    summing_end e i l =
        let all : (get_or sums i 0 + 0) % 2 ^ w ≡ place_sum w p vs i (form_rows f) % 2 ^ w =
        ap (λ (m : List Row). (get_or sums i 0 + place_sum w p vs i m) % 2 ^ w) (sym (left_none s e)) ∙ h.sum i l in
        sym (mod-eq_of_lt (h.fits i)) ∙ ap (λ (k : ℕ). k % 2 ^ w) (sym (add-zero (get_or sums i 0))) ∙ all

    module _ {t : RowsLeft} {x : FormRow} (g : FrontRow s x t) where
      -- the row adds k at index i
      all : (i : ℕ) → i < n → (k : ℕ)
          → coeff_at s.number s.terms * bit_of w p (row_bits 0 vs i) (decode (tree_span s.atoms)) ≡ k
          → (get_or sums i 0 + (k + place_sum w p vs i (rows_left t))) % 2 ^ w
          ≡ place_sum w p vs i (form_rows f) % 2 ^ w
      unfolding place_sum row_at
      all i u k e =
          ap (λ (m : ℕ). (get_or sums i 0 + (m + place_sum w p vs i (rows_left t))) % 2 ^ w) (sym e)
          ∙ ap (λ (l : List Row). (get_or sums i 0 + place_sum w p vs i l) % 2 ^ w) (sym (left_row g))
          ∙ h.sum i u

      pub summing_without : x.coeff ≡ None → Summing w p vs f n sums t
      summing_without e =
          record {
            atoms = left_ok g w h.atoms;
            long = h.long;
            fits = h.fits;
            sum =
                λ i u.
                ap (λ (k : ℕ). (get_or sums i 0 + k) % 2 ^ w) (sym (zero-add (place_sum w p vs i (rows_left t))))
                ∙ all i u 0
                (ap (λ (k : ℕ). k * bit_of w p (row_bits 0 vs i) (decode (tree_span s.atoms))) (row_coeff_none g e)
                ∙ zero-mul _);
          }

      pub summing_with : (c : ℕ) → x.coeff ≡ Some c → n ≤ 64 → {rows : ℕ}
          → rows ≡ table_f 64 w p vs (decode x.atom.tree.now) → {after : List ℕ} → CoeffAdded w rows c sums after
          → Summing w p vs f n after t
      summing_with c e few {rows} er {after} a =
          record {
            atoms = left_ok g w h.atoms;
            long = a.long ∙ h.long;
            fits = fits_all w after (λ i u. rw (a.sum i (omega (arith, a.long))) (mod-lt _ (pow_pos w)));
            sum = go;
          }
        where
          go : (i : ℕ) → i < n
              → (get_or after i 0 + place_sum w p vs i (rows_left t)) % 2 ^ w
              ≡ place_sum w p vs i (form_rows f) % 2 ^ w
          go i u =
              let b : ℕ = bit_of w p (row_bits 0 vs i) (decode x.atom.tree.now) in
              let r : ℕ = place_sum w p vs i (rows_left t) in
              let eb : bit_at rows i ≡ b =
              ap (λ (m : ℕ). bit_at m i) er ∙ table_f_bit w p vs (decode x.atom.tree.now) 64 i (omega arith) in
              ap (λ (k : ℕ). (k + r) % 2 ^ w)
              (a.sum i (omega (arith, h.long)) ∙ ap (λ (d : ℕ). (get_or sums i 0 + c * d) % 2 ^ w) eb)
              ∙ mod-add-mod (get_or sums i 0 + c * b) (2 ^ w) r
              ∙ ap (λ (k : ℕ). k % 2 ^ w) (add_assoc (get_or sums i 0) (c * b) r)
              ∙ all i u (c * b)
              (ap₂ (λ (k : ℕ) (l : List ℕ). k * bit_of w p (row_bits 0 vs i) (decode l)) (row_coeff_some g c e)
              (sym g.atom.tree))
