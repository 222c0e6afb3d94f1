-- The group of a basis, and the end of a pass on it, by what stands in the lent arrays: the views
-- (views/specs/Views.antt) and the words of the coefficients. That they are `group_of` and `settle` (specs/Group.antt) is a law.
use Rattle.std.specs.Prelude.{ℕ, List, length, get_or, set, Option}
use Rattle.arith.specs.Width.{mod_add}
use Rattle.base.specs.Choice.{when}
use Rattle.base.specs.Loop.{for_in}
use Rattle.group.specs.declared.Group.{Group}
use Rattle.entries.specs.Marks.{blank}
use Rattle.group.specs.Group.{Entry, is_live, empty_group, push_entry}
use Rattle.views.specs.declared.View.{View}
use Rattle.views.specs.Views.{found_at, view_at, has_basis}

-- row i, where it has this basis
unfoldable pub gather_at : List ℕ → List (Option View) → ℕ → List ℕ → ℕ → Group → Group
gather_at f views hash b i g =
    when (has_basis f (found_at views i) hash b) (λ _. push_entry g (view_at views i).coeff (view_at views i).mask i)
    (λ _. g)

-- the rows, of n, that have this basis
unfoldable pub gathered : List ℕ → List (Option View) → ℕ → List ℕ → ℕ → Group
gathered f views hash b n = for_in (gather_at f views hash b) 0 n empty_group

-- c added to word j
unfoldable pub add_word : ℕ → ℕ → ℕ → List ℕ → List ℕ
add_word w c j l = set l j (mod_add (get_or l j 0) c w)

-- an entry added to its word, unless it is consumed
unfoldable pub settle_word : ℕ → Entry → List ℕ → List ℕ
settle_word w e l = when (is_live e) (λ _. add_word w e.coeff e.atom l) (λ _. l)

-- entry i
abbrev pub settle_word_at : ℕ → List Entry → ℕ → List ℕ → List ℕ
settle_word_at w es i l = settle_word w (get_or es i blank) l

-- every entry that is not consumed added to its word
unfoldable pub settle_words : ℕ → List Entry → List ℕ → List ℕ
settle_words w es l = for_in (settle_word_at w es) 0 (length es) l
