-- Laws of registering (normalizer_laws/specs/Register.antt): what a row more and a row's coefficient change, and that
-- rows past a limit stay past it.
use mathlib.Core.Path.{◌≡◌, refl, ap, sym, ◌∙◌}
use Prim.Native.Nat.{ℕ, zero, suc, ◌+◌, ◌≤◌, ◌<◌}
use native.Mathlib.Omega.{arith}
use native.Mathlib.Numerals.{add-one}
use native.Mathlib.Decide.{ℕ_discrete}
use mathlib.Core.List.{List, [], ◌∷◌, ◌++◌}
use mathlib.Core.Bool.{Bool, true, false}
use lib.ListN.{length}
use lib.Dec.{leb}
use borrow.Author.Tests.{le-leb, leb-true}
use Rattle.base.proofs.BoolLaws.{false_true, and_true}
use Rattle.semilinear.specs.Form.{Row, tree_records, fits_table}
use Rattle.atom_table.proofs.HoldsLaws.{bare_rows}
use Rattle.normalizer_laws.specs.Collect.{Emitted}
use Rattle.normalizer_laws.specs.Register.{shared_row, add_row, register_atom, register_all}
use Rattle.descent.specs.declared.collect.Atom.{Atom}
use Rattle.descent.specs.Spots.{spot_at, spots_in}
use Rattle.register.specs.Index.{appended_row}

-- ---- a coefficient that grows, or a row more

module _ (w : ℕ) (new : Row) where
  records_add_row : (j : ℕ) (l : List Row) → tree_records l ≤ tree_records (add_row w new j l)
  unfolding add_row tree_records
  records_add_row j [] = omega arith
  records_add_row zero (x ∷ l) = omega arith
  records_add_row (suc j) (x ∷ l) = omega (arith, records_add_row j l)

  length_add_row : (j : ℕ) (l : List Row) → length l ≤ length (add_row w new j l)
  unfolding add_row
  length_add_row j [] = omega arith
  length_add_row zero (x ∷ l) = omega arith
  length_add_row (suc j) (x ∷ l) = omega (arith, length_add_row j l)

  -- one row more at most
  add_row_le : (j : ℕ) (l : List Row) → length (add_row w new j l) ≤ length l + 1
  unfolding add_row
  add_row_le j [] = omega arith
  add_row_le zero (x ∷ l) = omega arith
  add_row_le (suc j) (x ∷ l) = omega (arith, add_row_le j l)

  -- only the coefficient changes
  pub bare_add_row : (j : ℕ) (l : List Row) → j < length l → bare_rows l ≡ bare_rows (add_row w new j l)
  unfolding add_row bare_rows
  bare_add_row j [] h = absurd (omega arith)
  bare_add_row zero (x ∷ l) h = refl
  bare_add_row (suc j) (x ∷ l) h = rw (bare_add_row j l (omega arith))

  add_row_last : (j : ℕ) (l : List Row) → length l ≤ j → add_row w new j l ≡ l ++ (new ∷ [])
  unfolding add_row
  add_row_last j [] h = refl
  add_row_last zero (x ∷ l) h = absurd (omega arith)
  add_row_last (suc j) (x ∷ l) h = rw (add_row_last j l (omega arith))

register_le : (w : ℕ) (e : Emitted) (l : List Row) → length (register_atom w e l) ≤ length l + 1
unfolding register_atom
register_le w e l = add_row_le w (appended_row e) (shared_row w e.tree l) l

-- a tree that shares row j, or none
module _ (w : ℕ) (e : Emitted) (l : List Row) {j : ℕ} (shared : shared_row w e.tree l ≡ j) where
  pub register_shared : register_atom w e l ≡ add_row w (appended_row e) j l
  unfolding register_atom
  register_shared = rw shared

  pub register_more : length l ≤ j → register_atom w e l ≡ l ++ (appended_row e ∷ [])
  register_more h = register_shared ∙ add_row_last w (appended_row e) j l h

-- ---- rows past a limit

-- rows that pass a limit, and others that are as many and have as many tree records
past_least : (l m : List Row) → length l ≤ length m → tree_records l ≤ tree_records m → fits_table l ≡ false
    → fits_table m ≡ false
unfolding fits_table
past_least l m a r e = go (fits_table m) refl
  where
    go : (b : Bool) → fits_table m ≡ b → b ≡ false
    go false f = refl
    go true f =
        let p = and_true (leb (length m) 256) (leb (tree_records m) 3072) f in
        let n : length l ≤ 256 = omega (arith, leb-true (length m) 256 p.0) in
        let k : tree_records l ≤ 3072 = omega (arith, leb-true (tree_records m) 3072 p.1) in
        let z : fits_table l ≡ true = simp (le-leb (length l) 256 n, le-leb (tree_records l) 3072 k) in
        false_true (sym e ∙ z)

past_register : (w : ℕ) (e : Emitted) (l : List Row) → fits_table l ≡ false → fits_table (register_atom w e l) ≡ false
unfolding register_atom
past_register w e l =
    let j : ℕ = shared_row w e.tree l in
    past_least l (add_row w (appended_row e) j l) (length_add_row w (appended_row e) j l) (records_add_row w (appended_row e) j l)

-- ---- all that was emitted

register_all_more : (w : ℕ) (e : Emitted) (m : List Emitted) (l : List Row)
    → register_all w (m ++ (e ∷ [])) l ≡ register_atom w e (register_all w m l)
unfolding register_all
register_all_more w e [] l = refl
register_all_more w e (x ∷ m) l = register_all_more w e m (register_atom w x l)

module _ (w : ℕ) (file : List ℕ) (spots : List Atom) where
  -- the rows of the first n spots
  abbrev pub spot_rows : ℕ → List Row
  spot_rows n = register_all w (spots_in file spots n) []

  pub spot_rows_more : (n : ℕ) → spot_rows (n + 1) ≡ register_atom w (spot_at file spots n) (spot_rows n)
  unfolding spots_in
  spot_rows_more n = rw (add-one n) (register_all_more w (spot_at file spots n) (spots_in file spots n) [])

  -- at most a row for each spot
  pub spot_rows_le : (n : ℕ) → length (spot_rows n) ≤ n
  unfolding spots_in register_all
  spot_rows_le zero = omega arith
  spot_rows_le (suc n) =
      let more : length (spot_rows (suc n)) ≡ length (register_atom w (spot_at file spots n) (spot_rows n)) =
      ap (λ (k : ℕ). length (spot_rows k)) (sym (add-one n)) ∙ ap length (spot_rows_more n) in
      omega (arith, more, register_le w (spot_at file spots n) (spot_rows n), spot_rows_le n)

  pub past_spots : (m n : ℕ) → m ≤ n → fits_table (spot_rows m) ≡ false → fits_table (spot_rows n) ≡ false
  past_spots m zero h e = let z : m ≡ 0 = omega arith in rw z at e
  past_spots m (suc n) h e = go (ℕ_discrete m (suc n)) (past_spots m n)
    where
      go : Dec (m ≡ suc n) → (m ≤ n → fits_table (spot_rows m) ≡ false → fits_table (spot_rows n) ≡ false)
          → fits_table (spot_rows (suc n)) ≡ false
      go (yes p) below = rw p at e
      go (no p) below =
          ap fits_table (ap spot_rows (sym (add-one n)) ∙ spot_rows_more n)
          ∙ past_register w (spot_at file spots n) (spot_rows n) (below (omega arith) e)
