-- Equality modulo M. A record, so that M, a and b are found from the type of a proof.
use Rattle.std.specs.Prelude.{◌≡◌, ℕ, ◌%◌}

-- a and b leave the same remainder by M
pub record Eqm (M a b : ℕ) : Type 0 where
  pub eqm : a % M ≡ b % M
