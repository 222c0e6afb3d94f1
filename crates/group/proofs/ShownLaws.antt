-- Laws of a table with its coefficients (made/specs/Shown.antt): the words of the copied table at the begin of a pass,
-- a group settled, and what the end of a pass reads off.
use Rattle.made.specs.declared.Made.{Made}
use mathlib.Core.Path.{◌≡◌, refl, ap, ap₂, sym, ◌∙◌}
use Prim.Native.Nat.{ℕ, zero, suc, ◌+◌, ◌≤◌, ◌<◌}
use native.Mathlib.Omega.{arith}
use native.Mathlib.Nat.{one-mul}
use mathlib.Core.List.{List, [], ◌∷◌, ◌++◌}
use mathlib.Core.Bool.{Bool, true, false}
use lib.ListN.{length, get_or, take, drop, length-append}
use lib.Seq.{take-suc, drop_at}
use Rattle.record.specs.Fields.{width}
use Rattle.base.specs.Put.{padded}
use Rattle.record.specs.Span.{body}
use Rattle.record.specs.Tree.{IsBytes, size_of}
use Rattle.base.proofs.LoopLaws.{when_both, for_keeps}
use Rattle.base.proofs.PutLaws.{take_padded, length_padded}
use Rattle.atom_table.specs.declared.table.Table.{Table}
use Rattle.semilinear.specs.Form.{Row, Form, atoms_bytes, tree_records, fits_table}
use Rattle.semilinear.specs.Items.{after_atoms}
use Rattle.semilinear.specs.Valid.{is_semilinear}
use Rattle.semilinear.specs.DecodeForm.{decode_form, read_form, rows_of, retired_rows}
use Rattle.semilinear.specs.Scan.{AtomsEnd}
use Rattle.atom_table.specs.Terms.{coeffs_of, coeffs_in, Copied, Ends}
use Rattle.semilinear.proofs.AcceptLaws.{written}
use Rattle.semilinear.proofs.FormLaws.{length_atoms}
use Rattle.semilinear.proofs.RetiredLaws.{length_retired, records_retired}
use Rattle.atom_table.proofs.HoldsLaws.{at_holds, bare_rows, holds_bare}
use Rattle.atom_table.proofs.TermsLaws.{length_coeffs}
use Rattle.group.specs.declared.Group.{Group}
use Rattle.group.specs.Group.{used, at, is_live, settle_at, settle}
use Rattle.made.specs.Rows.{add_coeff}
use Rattle.made.specs.Made.{made_of, Held}
use Rattle.made.specs.Shown.{Shown}
use Rattle.group.specs.Gathered.{add_word, settle_words}
use Rattle.made.proofs.CoeffsLaws.{fits_length}
use Rattle.group.proofs.SettleWordsLaws.{add_padded, settle_words_lem}
use Rattle.made.proofs.WordsLaws.{held_start}

-- ---- the begin

-- a copied table, with as many rows as atoms
abbrev pub begun : Table → ℕ → Made
begun tab k = made_of tab tab.count k

pub held_copied : (f : Form) (tab : Table) (out : List ℕ) (k : ℕ) → Copied f tab out
    → Held f.bitwidth (begun tab k) out f.rows
held_copied f tab out k h = record { holds = h.holds; clean = h.clean; rows = (h.holds.kept h.more).count }

-- the atoms end where the terms begin
pub copied_end : (s : List ℕ) → IsBytes s → is_semilinear s ≡ true → (tab : Table) (out : List ℕ)
    → Copied (read_form s) tab out → AtomsEnd (body s) tab.at
unfolding decode_form
copied_end s bytes ok tab out h =
    let rows : List Row = rows_of 0 (body s) (after_atoms (body s)) in
    let atoms : List ℕ = atoms_bytes (width s) rows in
    let all : atoms ++ after_atoms (body s) ≡ body s = (written s bytes ok).atoms in
    let at : tab.at ≡ length atoms =
    omega (
      arith,
      at_holds (width s) tab out (retired_rows rows) h.holds h.more,
      length_atoms (width s) (retired_rows rows),
      length_atoms (width s) rows,
      length_retired rows,
      records_retired rows,
    ) in
    record {
      inside = omega (arith, at, ap length all, length-append atoms (after_atoms (body s)));
      rest = ap (drop tab.at) (sym all) ∙ drop_at atoms (after_atoms (body s)) tab.at (sym at);
    }

-- ---- the end

-- words that stand side by side
coeffs_in_one : (words : List ℕ) (n : ℕ) → n ≤ length words → coeffs_in 1 words n ≡ take n words
unfolding coeffs_in
coeffs_in_one words zero h = refl
coeffs_in_one words (suc n) h =
    ap₂ (λ (l : List ℕ) (i : ℕ). l ++ (get_or words i 0 ∷ [])) (coeffs_in_one words n (omega arith)) (one-mul n)
    ∙ sym (take-suc words n 0 (omega arith))

shown_coeffs : (w : ℕ) (made : Made) (out coeffs : List ℕ) (l : List Row) → Shown w made out coeffs l
    → made.table.full ≡ false → coeffs_in 1 coeffs (length l) ≡ coeffs_of l
shown_coeffs w made out coeffs l h more =
    let fit = (h.held.holds.kept more).fits in
    let n : length (coeffs_of l) ≡ length l = length_coeffs l in
    let most : length l ≤ 256 = fits_length l fit in
    let same : coeffs ≡ padded 256 (coeffs_of l) = h.terms fit in
    let len : length coeffs ≡ 256 = ap length same ∙ length_padded 256 (coeffs_of l) (omega arith) in
    coeffs_in_one coeffs (length l) (omega arith)
    ∙ ap₂ (λ (k : ℕ) (d : List ℕ). take k d) (sym n) same
    ∙ take_padded 256 (coeffs_of l)

pub shown_ends : (w : ℕ) (made : Made) (out coeffs : List ℕ) (l : List Row) → Shown w made out coeffs l
    → Ends w made.table 1 coeffs out l
shown_ends w made out coeffs l h =
    record {
      holds = λ _. h.held.holds;
      clean = λ _. h.held.clean;
      coeffs = shown_coeffs w made out coeffs l h;
      past = h.held.holds.past;
    }

-- ---- a group settled

module _ (w : ℕ) where
  -- l has the atoms of m
  record Alike (l m : List Row) : Type 0 where
    bare : bare_rows l ≡ bare_rows m
    count : length l ≡ length m
    records : tree_records l ≡ tree_records m

  add_alike : (c j : ℕ) (l : List Row) → Alike (add_coeff w c j l) l
  unfolding add_coeff bare_rows tree_records
  add_alike c j [] = record { bare = refl; count = refl; records = refl }
  add_alike c zero (x ∷ l) = record { bare = refl; count = refl; records = refl }
  add_alike c (suc j) (x ∷ l) =
      let h = add_alike c j l in
      record {
        bare = ap (λ (m : List Row). record { provenance = x.provenance; tree = x.tree; coeff = 0 } ∷ m) h.bare;
        count = ap suc h.count;
        records = ap (λ (n : ℕ). size_of x.tree + n) h.records;
      }

  alike_then : {l m n : List Row} → Alike l m → Alike m n → Alike l n
  alike_then p q =
      record { bare = p.bare ∙ q.bare; count = p.count ∙ q.count; records = p.records ∙ q.records }

  alike_fits : {l m : List Row} → Alike l m → fits_table l ≡ fits_table m
  unfolding fits_table
  alike_fits h = rw (h.count, h.records) refl

  alike_held : {l m : List Row} → Alike m l → {made : Made} {out : List ℕ} → Held w made out l → Held w made out m
  alike_held {l} {m} a {made} {out} h =
      record {
        holds = holds_bare l m (sym a.bare) w made.table out h.holds;
        clean = h.clean;
        rows = h.rows ∙ sym a.count;
      }

  -- c added to the coefficient of a row
  module _ (c j : ℕ) (l : List Row) where
    pub add_fits : fits_table (add_coeff w c j l) ≡ fits_table l
    add_fits = alike_fits (add_alike c j l)

    pub shown_add : w ≤ 64 → j < length l → {made : Made} {out coeffs coeffs' : List ℕ} → Held w made out l
        → (fits_table l ≡ true → coeffs ≡ padded 256 (coeffs_of l)) → coeffs' ≡ add_word w c j coeffs
        → Shown w made out coeffs' (add_coeff w c j l)
    shown_add hw lt held terms e =
        record {
          held = alike_held (add_alike c j l) held;
          terms = λ f. e ∙ ap (add_word w c j) (terms (sym add_fits ∙ f)) ∙ add_padded w hw c 256 l j lt;
        }

  module _ (g : Group) (l : List Row) where
    settle_alike : Alike (settle w g l) l
    unfolding settle settle_at
    settle_alike =
        for_keeps (λ (t : List Row). Alike t l) (settle_at w g) 0 g.len l
        (λ i t _ _ h.
        when_both (λ (r : List Row). Alike r l) (is_live (at g i)) (add_coeff w (at g i).coeff (at g i).atom t) t
        (λ _. alike_then (add_alike (at g i).coeff (at g i).atom t) h) (λ _. h))
        (record { bare = refl; count = refl; records = refl })

    pub settle_fits : fits_table (settle w g l) ≡ fits_table l
    settle_fits = alike_fits settle_alike

    pub settle_length : length (settle w g l) ≡ length l
    settle_length = settle_alike.count

    -- every live entry has an atom of the table: the words are those of the settled rows
    pub shown_settle : w ≤ 64 → ((i : ℕ) → i < g.len → is_live (at g i) ≡ true → (at g i).atom < length l)
        → {made : Made} {out coeffs coeffs' : List ℕ} → Held w made out l
        → (fits_table l ≡ true → coeffs ≡ padded 256 (coeffs_of l))
        → coeffs' ≡ settle_words w (used g) coeffs
        → Shown w made out coeffs' (settle w g l)
    shown_settle hw has held terms e =
        record {
          held = alike_held settle_alike held;
          terms = λ f. e ∙ settle_words_lem w hw g 256 l has (terms (sym settle_fits ∙ f));
        }
