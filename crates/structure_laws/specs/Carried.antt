-- Terms of one basis, each a coefficient and a mask: the coefficient of each bit, and the bits of each coefficient
-- (structure_recovery.rs 382-400). No atom and no mark is asked for.
use Rattle.std.specs.Prelude.{ℕ, ◌+◌, ◌^◌, List, [], ◌∷◌, length, get_or, eqb, ltb}
use Rattle.arith.specs.Bit.{bit_at}
use Rattle.arith.specs.Width.{mod_add}
use Rattle.base.specs.Choice.{when}
use Rattle.base.specs.Loop.{for_in}
use Rattle.entries.specs.Marks.{blank}
use Rattle.group.specs.Group.{Entry}

-- a coefficient and the mask of the bits that carry it
pub record Carried : Type 0 where
  pub coeff : ℕ
  pub mask : ℕ

-- the sum of the coefficients whose masks have the bit p
unfoldable pub bit_coeff_at : ℕ → List Entry → ℕ → ℕ → ℕ → ℕ
bit_coeff_at w es p i sum =
    when (eqb (bit_at (get_or es i blank).mask p) 1) (λ _. mod_add sum (get_or es i blank).coeff w) (λ _. sum)

unfoldable pub bit_coeff : ℕ → List Entry → ℕ → ℕ
bit_coeff w es p = for_in (bit_coeff_at w es p) 0 (length es) 0

-- the bit p joined to its coefficient, by rising coefficient; 0 carries nothing
unfoldable pub carry : ℕ → ℕ → List Carried → List Carried
carry c p [] = record { coeff = c; mask = 2 ^ p } ∷ []
carry c p (x ∷ l) =
    when (eqb x.coeff c) (λ _. record { coeff = c; mask = x.mask + 2 ^ p } ∷ l)
    (λ _. when (ltb c x.coeff) (λ _. record { coeff = c; mask = 2 ^ p } ∷ x ∷ l) (λ _. x ∷ carry c p l))

unfoldable pub carry_at : ℕ → List Entry → ℕ → List Carried → List Carried
carry_at w es p l = when (eqb (bit_coeff w es p) 0) (λ _. l) (λ _. carry (bit_coeff w es p) p l)

unfoldable pub carried_of : ℕ → List Entry → List Carried
carried_of w es = for_in (carry_at w es) 0 w []
