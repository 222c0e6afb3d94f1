-- What the code asks of one entry and of two entries of a group.
use Rattle.std.specs.Prelude.{ℕ, ◌-◌, ◌^◌, ◌<◌, ◌≡◌, List, Bool, false, not, length, get_or, eqb, Option, Some, None}
use Rattle.std.specs.Int.Bits.{bit_and}
use Rattle.arith.specs.Effective.{reduce_mask, can_change_coefficient_to}
use Rattle.base.specs.Choice.{when}
use Rattle.entries.specs.declared.Entry.{Entry}
use Rattle.entries.specs.Marks.{blank, is_live}

-- the mask of an entry, cut to the bits that count
unfoldable pub cut_of : Entry → ℕ → ℕ
cut_of e w = when (is_live e) (λ _. reduce_mask e.coeff e.mask w) (λ _. e.mask)

-- whether a live entry's coefficient may as well be 0
unfoldable pub drops_of : Entry → ℕ → Bool
drops_of e w = when (is_live e) (λ _. can_change_coefficient_to e.coeff 0 e.mask w) (λ _. false)

-- whether a live entry's coefficient is not 2 ^ w - 1 and may become it
unfoldable pub becomes_minus_one : Entry → ℕ → Bool
becomes_minus_one e w =
    when (is_live e)
    (λ _. when (eqb e.coeff (2 ^ w - 1)) (λ _. false) (λ _. can_change_coefficient_to e.coeff (2 ^ w - 1) e.mask w))
    (λ _. false)

-- the coefficient at which the entries e and f become one
unfoldable pub pair_of : Entry → Entry → ℕ → Option ℕ
pair_of e f w =
    when (not (is_live e)) (λ _. None)
    (λ _. when (not (is_live f)) (λ _. None)
    (λ _. when (not (eqb (bit_and e.mask f.mask) 0)) (λ _. None)
    (λ _. when (eqb e.coeff f.coeff) (λ _. Some e.coeff)
    (λ _. when (can_change_coefficient_to f.coeff e.coeff f.mask w) (λ _. Some e.coeff)
    (λ _. when (can_change_coefficient_to e.coeff f.coeff e.mask w) (λ _. Some f.coeff) (λ _. None))))))

-- the same of two entries by their numbers
abbrev pub pair_in : List Entry → ℕ → ℕ → ℕ → Option ℕ
pair_in es w i j = pair_of (get_or es i blank) (get_or es j blank) w

-- no entry is cut or dropped
pub record NoSingle (w : ℕ) (es : List Entry) : Type 0 where
  pub no_cut : (k : ℕ) → k < length es → cut_of (get_or es k blank) w ≡ (get_or es k blank).mask
  pub no_drop : (k : ℕ) → k < length es → drops_of (get_or es k blank) w ≡ false

-- no two entries join, and no coefficient becomes 2 ^ w - 1
pub record NoMerge (w : ℕ) (es : List Entry) : Type 0 where
  pub no_pair : (i j : ℕ) → i < j → j < length es → pair_in es w i j ≡ None
  pub no_minus_one : (k : ℕ) → k < length es → becomes_minus_one (get_or es k blank) w ≡ false
