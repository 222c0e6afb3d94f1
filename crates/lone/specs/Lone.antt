-- A basis that one row alone has, and an entry that refining leaves as it is where it is alone in its group.
use Rattle.std.specs.Prelude.{ℕ, ◌<◌, ◌≡◌, List, true, false, Option}
use Rattle.group.specs.declared.Group.{Group}
use Rattle.views.specs.declared.View.{View}
use Rattle.entries.specs.declared.Mark.TheVariants.{Live}
use Rattle.group.specs.Group.{Entry, empty_group, push_entry}
use Rattle.entries.specs.Tests.{cut_of, drops_of, becomes_minus_one}
use Rattle.views.specs.Views.{found_at, view_at, has_basis, Readable}
use Rattle.views.specs.Bases.{NoneBefore}
use Rattle.group.specs.Gathered.{gathered}

-- row x, of n, has the basis b with this hash
pub record LoneReady (f : List ℕ) (views : List (Option View)) (hash : ℕ) (b : List ℕ) (x n : ℕ) : Type 0 where
  pub readable : Readable f views n
  pub within : x < n
  pub has_basis_lem : has_basis f (found_at views x) hash b ≡ true

-- and no row before it has it
pub record FirstReady (f : List ℕ) (views : List (Option View)) (hash : ℕ) (b : List ℕ) (x n : ℕ) : Type 0 where
  pub lone : LoneReady f views hash b x n
  pub none_before : NoneBefore f views hash b x

-- the group of row i alone
unfoldable pub lone_group : View → ℕ → Group
lone_group v i = push_entry empty_group v.coeff v.mask i

-- a live entry of row i
abbrev pub live_entry : ℕ → ℕ → ℕ → Entry
live_entry c m i = record { coeff = c; mask = m; atom = i; mark = Live }

-- the mask is not cut, the term not dropped, and the coefficient does not become 2 ^ w - 1
pub record Stays (w c m : ℕ) : Type 0 where
  pub no_cut : cut_of (live_entry c m 0) w ≡ m
  pub no_drop : drops_of (live_entry c m 0) w ≡ false
  pub no_minus_one : becomes_minus_one (live_entry c m 0) w ≡ false

pub record StaysAlone (w : ℕ) (f : List ℕ) (views : List (Option View)) (hash : ℕ) (b : List ℕ) (n first : ℕ)
    : Type 0 where
  pub stays : Stays w (view_at views first).coeff (view_at views first).mask
  pub lone : gathered f views hash b n ≡ lone_group (view_at views first) first
