-- Laws of the end of a pass in words (specs/Gathered.antt): a turn of the loop, and that the coefficients of rows
-- become those of the settled rows (specs/Group.antt).
use mathlib.Core.Path.{◌≡◌, refl, ap, sym, ◌∙◌}
use Prim.Native.Nat.{ℕ, zero, suc, ◌-◌, ◌≤◌, ◌<◌}
use native.Mathlib.Omega.{arith}
use mathlib.Core.List.{List, [], ◌∷◌, ◌++◌}
use mathlib.Core.Bool.{Bool, true, false}
use lib.ListN.{length, get_or, replicate, length-set}
use Rattle.base.specs.Choice.{when}
use Rattle.base.specs.Loop.{for_in}
use Rattle.base.specs.Put.{padded}
use Rattle.base.proofs.LoopLaws.{for_ind, for_keeps, for_none, for_more}
use Rattle.semilinear.specs.Form.{Row}
use Rattle.atom_table.specs.Terms.{coeffs_of}
use Rattle.atom_table.proofs.TermsLaws.{length_coeffs}
use Rattle.entries.specs.Marks.{blank}
use Rattle.group.specs.declared.Group.{Group}
use Rattle.group.specs.Group.{Entry, used, at, is_live, settle_at, settle}
use Rattle.made.specs.Rows.{add_coeff}
use Rattle.group.specs.Gathered.{add_word, settle_word, settle_word_at, settle_words}
use Rattle.group.proofs.EntryLaws.{used_at, length_used}
use Rattle.group.proofs.SearchLaws.{for_below}
use Rattle.group.proofs.SettleLaws.{add_length}

module _ (w : ℕ) (e : Entry) (l : List ℕ) where
  pub word_consumed : is_live e ≡ false → settle_word w e l ≡ l
  unfolding settle_word
  word_consumed h = simp h

  pub word_live : is_live e ≡ true → settle_word w e l ≡ add_word w e.coeff e.atom l
  unfolding settle_word
  word_live h = simp h

  length_word : length (settle_word w e l) ≡ length l
  unfolding add_word
  length_word = go (is_live e) refl
    where
      go : (b : Bool) → is_live e ≡ b → length (settle_word w e l) ≡ length l
      go false h = ap length (word_consumed h)
      go true h = ap length (word_live h) ∙ length-set l e.atom _

module _ (w : ℕ) (es : List Entry) where
  pub length_settle : (n : ℕ) (l : List ℕ) → length (for_in (settle_word_at w es) 0 n l) ≡ length l
  length_settle n l =
      for_keeps (λ (t : List ℕ). length t ≡ length l) (settle_word_at w es) 0 n l
      (λ i t a u h. length_word w (get_or es i blank) t ∙ h) refl

  pub length_words : (l : List ℕ) → length (settle_words w es l) ≡ length l
  unfolding settle_words
  length_words l = length_settle (length es) l

-- ---- the rows

-- the coefficients of rows, with z behind them
add_word_lem : (w c : ℕ) (z : List ℕ) (l : List Row) (j : ℕ) → j < length l
    → add_word w c j (coeffs_of l ++ z) ≡ coeffs_of (add_coeff w c j l) ++ z
unfolding add_word coeffs_of add_coeff
add_word_lem w c z [] j h = absurd (omega (arith, h))
add_word_lem w c z (x ∷ l) zero h = refl
add_word_lem w c z (x ∷ l) (suc j) h = ap (λ (m : List ℕ). x.coeff ∷ m) (add_word_lem w c z l j (omega (arith, h)))

-- the same with zeros behind them
pub add_padded : (w : ℕ) → w ≤ 64 → (c m : ℕ) (l : List Row) (j : ℕ) → j < length l
    → add_word w c j (padded m (coeffs_of l)) ≡ padded m (coeffs_of (add_coeff w c j l))
unfolding padded
add_padded w hw c m l j h =
    let long : length (coeffs_of l) ≡ length (coeffs_of (add_coeff w c j l)) =
    length_coeffs l ∙ sym (add_length w [] hw c j l) ∙ sym (length_coeffs (add_coeff w c j l)) in
    add_word_lem w c (replicate (m - length (coeffs_of l)) 0) l j h
    ∙ ap (λ (k : ℕ). coeffs_of (add_coeff w c j l) ++ replicate (m - k) 0) long

module _ (w : ℕ) (hw : w ≤ 64) (g : Group) (m : ℕ) (l : List Row) where
  -- as many rows as before, and the words are their coefficients
  record Words (t : List Row) (s : List ℕ) : Type 0 where
    count : length t ≡ length l
    words : s ≡ padded m (coeffs_of t)

  module _ (has : (i : ℕ) → i < g.len → is_live (at g i) ≡ true → (at g i).atom < length l) where
    words_turn : (i : ℕ) (t : List Row) (s : List ℕ) → i < g.len → Words t s
        → Words (settle_at w g i t) (settle_word w (at g i) s)
    unfolding settle_at settle_word
    words_turn i t s lt h = go (is_live (at g i)) refl
      where
        e : Entry
        e = at g i

        go : (b : Bool) → is_live (at g i) ≡ b
            → Words (when b (λ _. add_coeff w e.coeff e.atom t) (λ _. t)) (when b (λ _. add_word w e.coeff e.atom s) (λ _. s))
        go false _ = h
        go true live =
            let low : e.atom < length t = omega (arith, has i lt live, h.count) in
            record {
              count = add_length w [] hw e.coeff e.atom t ∙ h.count;
              words = ap (add_word w e.coeff e.atom) h.words ∙ add_padded w hw e.coeff m t e.atom low;
            }

    -- the words of the settled rows
    pub settle_words_lem : {s : List ℕ} → s ≡ padded m (coeffs_of l)
        → settle_words w (used g) s ≡ padded m (coeffs_of (settle w g l))
    unfolding settle_words settle
    settle_words_lem {s} e =
        ap (λ (k : ℕ). for_in (settle_word_at w (used g)) 0 k s) (length_used g)
        ∙ for_below (settle_word_at w (used g)) (λ (i : ℕ). settle_word w (at g i)) 0 g.len s
        (λ i t _ u. ap (λ (x : Entry). settle_word w x t) (used_at g i u))
        ∙ (for_ind
        (λ (k : ℕ) (t : List ℕ). Words (for_in (settle_at w g) 0 k l) t)
        (λ (i : ℕ). settle_word w (at g i)) 0 s g.len (omega arith)
        (λ i t a u h. rw (for_more (settle_at w g) 0 i l (omega arith))
        (words_turn i (for_in (settle_at w g) 0 i l) t u h))
        (rw (for_none (settle_at w g) 0 0 l (omega arith)) (record { count = refl; words = e }))).words
