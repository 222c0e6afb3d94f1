-- Two entries whose coefficients add to 0 modulo 2 ^ w become an Xor (specs/RecoverStructure.antt), also where each
-- coefficient is its own negative, as 128 is at 8 bits.
use mathlib.Core.Path.{◌≡◌}
use Prim.Native.Nat.{ℕ}
use mathlib.Core.Bool.{true}
use lib.Dec.{leb}
use borrow.Author.Tests.{eq-eqb}
use Rattle.arith.specs.Width.{mod_add}
use Rattle.record.specs.Tree.{Tree}
use Rattle.group.specs.Group.{at}
use Rattle.structure_laws.specs.RecoverStructure.{Recovery, recover_xor, count_ones, recover_pair}

-- the mask of fewer ones is the literal; a tie takes the first entry's
pub opposite_xor : (w : ℕ) (b : Tree) (i j : ℕ) (x : Recovery)
    → mod_add (at x.group i).coeff (at x.group j).coeff w ≡ 0
    → leb (count_ones (at x.group i).mask) (count_ones (at x.group j).mask) ≡ true
    → recover_pair w b i j x ≡ recover_xor w b i j x
unfolding recover_pair
opposite_xor w b i j x e fewer = simp (eq-eqb (mod_add (at x.group i).coeff (at x.group j).coeff w) 0 e, fewer)
