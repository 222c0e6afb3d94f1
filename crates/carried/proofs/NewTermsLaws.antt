-- Laws of the new terms of a group (specs/Coalescing.antt): rows that pass a limit go on passing it, rows do not get fewer,
-- and steps follow each other.
use Rattle.made.specs.declared.Made.{Made}
use Rattle.bare.proofs.ShowsLaws.{shows_shown}
use Rattle.std.proofs.Common.{◌≡◌, ℕ, ◌+◌, ◌-◌, ◌^◌, ◌<◌, ◌≤◌, Bool, true, false, eqb, ltb, List, [], ◌∷◌, ◌++◌, length, get_or, sym, refl, ap, ◌∙◌, arith, length-set, ltb-true, eq-eqb, ne_eqb}
use Rattle.base.specs.Choice.{when}
use Rattle.base.specs.Put.{padded}
use Rattle.record.specs.Tree.{Tree}
use Rattle.base.proofs.BoolLaws.{false_true}
use Rattle.base.proofs.LoopLaws.{when_both}
use Rattle.semilinear.specs.Form.{Row, new_row, eq_tree, fits_table}
use Rattle.atom_table.specs.Terms.{coeffs_of}
use Rattle.made.specs.Rows.{create_row, masked_tree, create_masked, add_coeff}
use Rattle.made.specs.Made.{Room, Grew}
use Rattle.group.specs.Gathered.{add_word}
use Rattle.made.proofs.CoeffsLaws.{length_create, create_past, coeffs_create, fits_length, fits_less}
use Rattle.group.proofs.SettleLaws.{add_length}
use Rattle.group.proofs.ShownLaws.{add_fits, shown_add}
use Rattle.structure_laws.specs.RecoverStructure.{row_with, with_bare}
use Rattle.structure_laws.specs.Carried.{Carried}
use Rattle.structure_laws.specs.CoalesceTerms.{carried_rows}
use Rattle.bare.specs.Showing.{BareFound}
use Rattle.carried.specs.Coalescing.{carried_in, pairs, carried_row, Coalesced}
use Rattle.carried.proofs.CarriedInLaws.{in_next}

-- ---- a row more

module _ (t : Tree) (l : List Row) where
  create_fits : fits_table (create_row t l) ≡ true → fits_table l ≡ true
  unfolding create_row
  create_fits h = fits_less l (new_row t 0 ∷ []) h

  create_coeffs : fits_table (create_row t l) ≡ true
      → padded 256 (coeffs_of (create_row t l)) ≡ padded 256 (coeffs_of l)
  create_coeffs h = coeffs_create 256 t l (omega (arith, length_create t l, fits_length (create_row t l) h))

-- ---- the row of the basis alone

module _ (w : ℕ) (t : Tree) where
  with_le : (l : List Row) (i : ℕ) → row_with w t i l ≤ i + length l
  unfolding row_with
  with_le [] i = omega arith
  with_le (x ∷ l) i =
      when_both (λ (n : ℕ). n ≤ i + length (x ∷ l)) (eq_tree w x.tree t) i (row_with w t (i + 1) l) (λ _. omega arith)
      (λ _. omega (arith, with_le l (i + 1)))

  module _ (l : List Row) where
    bare_past : fits_table l ≡ false → fits_table (with_bare w t l) ≡ false
    unfolding with_bare
    bare_past h =
        when_both (λ (m : List Row). fits_table m ≡ false) (ltb (row_with w t 0 l) (length l)) l (create_row t l) (λ _. h)
        (λ _. create_past t l h)

    bare_fits : fits_table (with_bare w t l) ≡ true → fits_table l ≡ true
    unfolding with_bare
    bare_fits =
        when_both (λ (m : List Row). fits_table m ≡ true → fits_table l ≡ true) (ltb (row_with w t 0 l) (length l)) l
        (create_row t l) (λ _ h. h) (λ _. create_fits t l)

    bare_coeffs : fits_table (with_bare w t l) ≡ true → padded 256 (coeffs_of (with_bare w t l)) ≡ padded 256 (coeffs_of l)
    unfolding with_bare
    bare_coeffs =
        when_both
        (λ (m : List Row). fits_table m ≡ true → padded 256 (coeffs_of m) ≡ padded 256 (coeffs_of l))
        (ltb (row_with w t 0 l) (length l)) l (create_row t l) (λ _ h. refl) (λ _. create_coeffs t l)

    bare_lt : row_with w t 0 l < length (with_bare w t l)
    unfolding with_bare
    bare_lt =
        when_both (λ (m : List Row). row_with w t 0 l < length m) (ltb (row_with w t 0 l) (length l)) l (create_row t l)
        (λ e. ltb-true _ _ e) (λ _. omega (arith, with_le l 0, length_create t l))

    bare_longer : length l ≤ length (with_bare w t l)
    unfolding with_bare
    bare_longer =
        when_both (λ (m : List Row). length l ≤ length m) (ltb (row_with w t 0 l) (length l)) l (create_row t l)
        (λ _. omega arith) (λ _. omega (arith, length_create t l))

-- ---- the new terms

module _ (w : ℕ) (t : Tree) where
  module _ (c m : ℕ) (l : List Row) where
    abbrev bare : List Row
    bare = add_coeff w c (row_with w t 0 l) (with_bare w t l)

    abbrev masked : List Row
    masked = add_coeff w c (length l) (create_masked w t m l)

    row_bare : m ≡ 2 ^ w - 1 → carried_row w t c m l ≡ bare
    unfolding carried_row
    row_bare e = simp (eq-eqb m (2 ^ w - 1) e)

    row_masked : (m ≡ 2 ^ w - 1 → ⊥) → carried_row w t c m l ≡ masked
    unfolding carried_row
    row_masked n = simp (ne_eqb m (2 ^ w - 1) n)

    pub row_past : fits_table l ≡ false → fits_table (carried_row w t c m l) ≡ false
    unfolding carried_row create_masked
    row_past h =
        when_both (λ (r : List Row). fits_table r ≡ false) (eqb m (2 ^ w - 1)) bare masked
        (λ _. add_fits w c (row_with w t 0 l) (with_bare w t l) ∙ bare_past w t l h)
        (λ _. add_fits w c (length l) (create_masked w t m l) ∙ create_past (masked_tree w t m) l h)

    row_longer : w ≤ 64 → length l ≤ length (carried_row w t c m l)
    unfolding carried_row create_masked
    row_longer hw =
        when_both (λ (r : List Row). length l ≤ length r) (eqb m (2 ^ w - 1)) bare masked
        (λ _. omega (arith, add_length w [] hw c (row_with w t 0 l) (with_bare w t l), bare_longer w t l))
        (λ _. omega (
          arith,
          add_length w [] hw c (length l) (create_masked w t m l),
          length_create (masked_tree w t m) l,
        ))

  rows_first : (x : Carried) (l : List Carried) (rows : List Row)
      → carried_rows w t (x ∷ l) rows ≡ carried_rows w t l (carried_row w t x.coeff x.mask rows)
  unfolding carried_rows carried_row
  rows_first x l rows = go (eqb x.mask (2 ^ w - 1))
    where
      go : (s : Bool)
          → when s (λ _. carried_rows w t l (bare x.coeff x.mask rows))
          (λ _. carried_rows w t l (masked x.coeff x.mask rows))
          ≡ carried_rows w t l
          (when s (λ _. bare x.coeff x.mask rows) (λ _. masked x.coeff x.mask rows))
      go true = refl
      go false = refl

  rows_last : (l : List Carried) (x : Carried) (rows : List Row)
      → carried_rows w t (l ++ (x ∷ [])) rows ≡ carried_row w t x.coeff x.mask (carried_rows w t l rows)
  unfolding carried_rows
  rows_last [] x rows = rows_first x [] rows
  rows_last (y ∷ l) x rows =
      rows_first y (l ++ (x ∷ [])) rows
      ∙ rows_last l x (carried_row w t y.coeff y.mask rows)
      ∙ ap (carried_row w t x.coeff x.mask) (sym (rows_first y l rows))

  pub rows_past : (l : List Carried) (rows : List Row) → fits_table rows ≡ false
      → fits_table (carried_rows w t l rows) ≡ false
  unfolding carried_rows
  rows_past [] rows h = h
  rows_past (x ∷ l) rows h =
      ap fits_table (rows_first x l rows) ∙ rows_past l _ (row_past x.coeff x.mask rows h)

  pub rows_longer : w ≤ 64 → (l : List Carried) (rows : List Row) → length rows ≤ length (carried_rows w t l rows)
  unfolding carried_rows
  rows_longer hw [] rows = omega arith
  rows_longer hw (x ∷ l) rows =
      let r : List Row = carried_row w t x.coeff x.mask rows in
      omega (
        arith,
        ap length (rows_first x l rows),
        rows_longer hw l r,
        row_longer x.coeff x.mask rows hw,
      )

-- a full table is left as it is
pub coalesced_full : {w m n : ℕ} {F : List Row → List Row} {made : Made} {out coeffs : List ℕ} → Room made out
    → made.table.full ≡ true → ((l : List Row) → fits_table l ≡ false → fits_table (F l) ≡ false)
    → Coalesced w m n F made out coeffs made out coeffs
coalesced_full room full keeps =
    record {
      room = room;
      rows_le = omega arith;
      long = refl;
      wide = refl;
      shows = λ l _ s.
          record { shown = λ more. false_true (sym more ∙ full); past = λ _. keeps l (s.past full) };
    }

pub coalesced_then : {w m a b : ℕ} {F G : List Row → List Row}
    {made : Made} {out coeffs : List ℕ} {made' : Made} {out' coeffs' : List ℕ} {made'' : Made} {out'' coeffs'' : List ℕ}
    → ((l : List Row) → m ≤ length l → m ≤ length (F l)) → Coalesced w m a F made out coeffs made' out' coeffs'
    → Coalesced w m b G made' out' coeffs' made'' out'' coeffs''
    → Coalesced w m (a + b) (λ l. G (F l)) made out coeffs made'' out'' coeffs''
coalesced_then {F = F} longer p q =
    record {
      room = q.room;
      rows_le = omega (arith, p.rows_le, q.rows_le);
      long = q.long ∙ p.long;
      wide = q.wide ∙ p.wide;
      shows = λ l le s. q.shows (F l) (longer l le) (p.shows l le s);
    }

-- the same turn under another name, and said for fewer rows
pub coalesced_as : {w m n m' n' : ℕ} {F G : List Row → List Row} {made : Made} {out coeffs : List ℕ} {made' : Made} {out' coeffs' : List ℕ}
    → m ≤ m' → n ≤ n' → ((l : List Row) → F l ≡ G l) → Coalesced w m n F made out coeffs made' out' coeffs'
    → Coalesced w m' n' G made out coeffs made' out' coeffs'
coalesced_as lm ln e p =
    record {
      room = p.room;
      rows_le = omega (arith, p.rows_le);
      long = p.long;
      wide = p.wide;
      shows = λ l le s. rw (← (e l)) (p.shows l (omega arith) s);
    }

-- ---- one new term

add_wide : (w c j : ℕ) (coeffs : List ℕ) {coeffs' : List ℕ} → coeffs' ≡ add_word w c j coeffs
    → length coeffs' ≡ length coeffs
unfolding add_word
add_wide w c j coeffs e = ap length e ∙ length-set coeffs j _

module _ (w c m : ℕ) (t : Tree) (hw : w ≤ 64) {made : Made} {out coeffs : List ℕ} {made' : Made} {out' coeffs' : List ℕ}
    (more : made.table.full ≡ false) where
  pub term_bare : (r : ℕ) → m ≡ 2 ^ w - 1 → BareFound w t r made out made' out' → coeffs' ≡ add_word w c r coeffs
      → Coalesced w 0 1 (carried_row w t c m) made out coeffs made' out' coeffs'
  term_bare r em found e =
      record {
        room = found.room;
        rows_le = found.later.rows_le;
        long = found.long;
        wide = add_wide w c r coeffs e;
        shows = λ l _ s.
            let h = s.shown more in
            let at_row = e ∙ ap (λ (j : ℕ). add_word w c j coeffs) (found.found more l h.held) in
            rw (row_bare w t c m l em)
            (shows_shown
            (shown_add w c (row_with w t 0 l) (with_bare w t l) hw (bare_lt w t l) (found.held more l h.held)
            (λ f. h.terms (bare_fits w t l f) ∙ sym (bare_coeffs w t l f)) at_row));
      }

  pub term_masked : (m ≡ 2 ^ w - 1 → ⊥) → Grew w 1 (create_masked w t m) made out made' out'
      → coeffs' ≡ add_word w c made.rows coeffs
      → Coalesced w 0 1 (carried_row w t c m) made out coeffs made' out' coeffs'
  unfolding create_masked
  term_masked nm g e =
      record {
        room = g.room;
        rows_le = g.later.rows_le;
        long = g.long;
        wide = add_wide w c made.rows coeffs e;
        shows = λ l _ s.
            let h = s.shown more in
            let at_row = e ∙ ap (λ (j : ℕ). add_word w c j coeffs) h.held.rows in
            let u : Tree = masked_tree w t m in
            rw (row_masked w t c m l nm)
            (shows_shown
            (shown_add w c (length l) (create_masked w t m l) hw (omega (arith, length_create u l)) (g.held l h.held)
            (λ f. h.terms (create_fits u l f) ∙ sym (create_coeffs u l f)) at_row));
      }

-- ---- the new terms in turn

module _ (w : ℕ) (t : Tree) (carried bits : List ℕ) {made₀ : Made} {out₀ coeffs₀ : List ℕ} where
  pub terms_none : Room made₀ out₀
      → Coalesced w 0 0 (carried_rows w t (carried_in 0 carried bits)) made₀ out₀ coeffs₀ made₀ out₀ coeffs₀
  unfolding carried_in pairs carried_rows
  terms_none room =
      record { room = room; rows_le = omega arith; long = refl; wide = refl; shows = λ l _ s. s }

  pub terms_next : (k : ℕ) → k < length carried → k < length bits → {made : Made} {out coeffs : List ℕ} {made' : Made} {out' coeffs' : List ℕ}
      → Coalesced w 0 k (carried_rows w t (carried_in k carried bits)) made₀ out₀ coeffs₀ made out coeffs
      → Coalesced w 0 1 (carried_row w t (get_or carried k 0) (get_or bits k 0)) made out coeffs made' out' coeffs'
      → Coalesced w 0 (k + 1) (carried_rows w t (carried_in (k + 1) carried bits)) made₀ out₀ coeffs₀ made' out' coeffs'
  terms_next k lc lb p q =
      coalesced_as (omega arith) (omega arith)
      (λ l. sym (ap (λ (x : List Carried). carried_rows w t x l) (in_next k carried bits lc lb)
      ∙ rows_last w t (carried_in k carried bits) _ l))
      (coalesced_then (λ l le. omega arith) p q)

  pub terms_done : (k n : ℕ) → k ≤ n → n ≤ k → {made : Made} {out coeffs : List ℕ}
      → Coalesced w 0 k (carried_rows w t (carried_in k carried bits)) made₀ out₀ coeffs₀ made out coeffs
      → Coalesced w 0 n (carried_rows w t (carried_in n carried bits)) made₀ out₀ coeffs₀ made out coeffs
  terms_done k n a b p = let e : n ≡ k = omega arith in rw e p
