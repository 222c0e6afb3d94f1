-- The three-term collapse (term_refiner.rs 134-184): the first pair, and for it the first third term, whose coefficient
-- is the pair's sum and whose mask meets neither of theirs. One collapse to a group.
use Rattle.std.specs.Prelude.{ℕ, ◌+◌, Bool, not, ◌&&◌, length, eqb, ltb}
use Rattle.std.specs.Int.Bits.{bit_and, bit_or}
use Rattle.arith.specs.Width.{mod_add}
use Rattle.base.specs.Choice.{when}
use Rattle.record.specs.Tree.{Tree}
use Rattle.group.specs.declared.Group.{Group}
use Rattle.base.specs.Loop.{first_in}
use Rattle.group.specs.Group.{at, put_entry, is_live, consumed, Work, work}
use Rattle.made.specs.Rows.{create_masked}
use Rattle.group.specs.Steps.{remasked}

unfoldable pub third_fits : ℕ → Group → ℕ → ℕ → ℕ → Bool
third_fits w g i j k =
    not (eqb k i)
    && (not (eqb k j)
    && (is_live (at g k)
    && (eqb (at g k).coeff (mod_add (at g i).coeff (at g j).coeff w)
    && (eqb (bit_and (at g i).mask (at g k).mask) 0 && eqb (bit_and (at g j).mask (at g k).mask) 0))))

-- the third entry for i and j, the second for i, the first; the group's length where there is none
unfoldable pub find_third : ℕ → Group → ℕ → ℕ → ℕ
find_third w g i j = first_in (third_fits w g i j) 0 g.len

unfoldable pub second_fits : ℕ → Group → ℕ → ℕ → Bool
second_fits w g i j = is_live (at g j) && ltb (find_third w g i j) g.len

unfoldable pub find_second : ℕ → Group → ℕ → ℕ
find_second w g i = first_in (second_fits w g i) (i + 1) g.len

unfoldable pub first_fits : ℕ → Group → ℕ → Bool
first_fits w g i = is_live (at g i) && ltb (find_second w g i) g.len

unfoldable pub find_first : ℕ → Group → ℕ
find_first w g = first_in (first_fits w g) 0 g.len

-- entries i and j take the bits of entry k, each with a new atom; k is consumed
unfoldable pub collapse_at : ℕ → Tree → ℕ → ℕ → ℕ → Work → Work
collapse_at w b i j k x =
    work
    (put_entry
    (put_entry (put_entry x.group i (remasked (at x.group i) ac (length x.rows)))
    j (remasked (at x.group j) bc (length x.rows + 1)))
    k (consumed (at x.group k)))
    (create_masked w b bc (create_masked w b ac x.rows))
  where
    ac : ℕ
    ac = bit_or (at x.group i).mask (at x.group k).mask

    bc : ℕ
    bc = bit_or (at x.group j).mask (at x.group k).mask

unfoldable pub three_term_collapse : ℕ → Tree → Work → Work
three_term_collapse w b x =
    when (ltb i x.group.len) (λ _. collapse_at w b i j (find_third w x.group i j) x) (λ _. x)
  where
    i : ℕ
    i = find_first w x.group

    j : ℕ
    j = find_second w x.group (find_first w x.group)
