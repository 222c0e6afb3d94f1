-- What the functions of a pass ask, from the form down to one step of a group, for the three passes that go by groups.
use Rattle.made.specs.declared.Made.{Made}
use Rattle.std.specs.Prelude.{◌≡◌, ◌≢◌, ℕ, ◌+◌, ◌^◌, ◌<◌, ◌≤◌, List, [], Bool, true, length, get_or, Option, Some}
use Rattle.base.specs.Limits.{atom_limit, group_entries}
use Rattle.base.specs.Put.{padded}
use Rattle.record.specs.Tree.{Tree}
use Rattle.semilinear.specs.Items.{atom_count, after_atoms}
use Rattle.semilinear.specs.Valid.{atoms_ok}
use Rattle.semilinear.specs.DecodeForm.{read_rows}
use Rattle.semilinear.specs.Scan.{AtomsEnd}
use Rattle.made.specs.Made.{Room, Makes}
use Rattle.views.specs.declared.View.{View}
use Rattle.views.specs.Views.{found_at, view_at, basis_bytes, InGroup, Views, Readable}
use Rattle.views.specs.Bases.{first_rows, FirstAre, NoneBefore}
use Rattle.group.specs.declared.Group.{Group}

-- ---- the form

-- f is at most `limit` atoms as they must be and, from `terms` on, terms; no coefficient is set, and the table is copied
pub record FormReady (w limit : ℕ) (f : List ℕ) (terms : ℕ) (coeffs : List ℕ) (made : Made) (out : List ℕ) : Type 0 where
  pub width : w ≤ 64
  pub atoms_ok_lem : atoms_ok w f ≡ true
  pub ends : AtomsEnd f terms
  pub few : atom_count f ≤ limit
  pub clear : coeffs ≡ padded atom_limit []
  pub room : Room made out
  pub made_few : made.rows ≤ atom_limit

-- ---- the groups

-- the views of all n rows of f were read, and `count` bases found
pub record BasesFound (only : Tree → Bool) (w : ℕ) (f : List ℕ) (views : List (Option View)) (bases : List ℕ)
    (n count : ℕ) : Type 0 where
  pub few : n ≤ atom_limit
  pub number : n ≡ length (read_rows 0 f (after_atoms f))
  pub viewed : Views only w f views (read_rows 0 f (after_atoms f))
  pub first : FirstAre (first_rows f views n) bases bases count

-- the same, with a table to work on
pub record AllReady (only : Tree → Bool) (w : ℕ) (f : List ℕ) (views : List (Option View)) (bases : List ℕ)
    (n count : ℕ) (made : Made) (out : List ℕ) : Type 0 where
  pub width : w ≤ 64
  pub found : BasesFound only w f views bases n count
  pub room : Room made out
  pub made_few : made.rows ≤ atom_limit

-- row x, of n, names a basis, over which k atoms can be made
pub record AtReady (w k : ℕ) (f : List ℕ) (views : List (Option View)) (x n : ℕ) (made : Made) (out : List ℕ) : Type 0 where
  pub width : w ≤ 64
  pub readable : Readable f views n
  pub few : n ≤ atom_limit
  pub within : x < n
  pub some : found_at views x ≡ Some (view_at views x)
  pub in_group : InGroup w f (view_at views x)
  pub room : Room made out
  pub more : made.rows + k < 2 ^ 64

-- and no row before it has this basis
pub record AtFirst (w k : ℕ) (f : List ℕ) (views : List (Option View)) (x n : ℕ) (made : Made) (out : List ℕ) : Type 0 where
  pub ready : AtReady w k f views x n made out
  pub none_before : NoneBefore f views (view_at views x).hash (basis_bytes f (view_at views x)) x

-- n rows can be gathered, and k atoms made over the basis b
pub record GroupReady (w k hash : ℕ) (b f : List ℕ) (views : List (Option View)) (n : ℕ) (made : Made) (out : List ℕ)
    : Type 0 where
  pub makes : Makes w k hash b made out
  pub readable : Readable f views n
  pub few : n ≤ atom_limit

-- ---- a step of a group

-- n atoms can be made for the entries of g
pub record StepReady (w n hash : ℕ) (b : List ℕ) (g : Group) (made : Made) (out : List ℕ) : Type 0 where
  pub makes : Makes w n hash b made out
  pub few : g.len ≤ group_entries

-- an atom can be made for entry i, which entry j joins
pub record JoinReady (w i j hash : ℕ) (b : List ℕ) (made : Made) (out : List ℕ) : Type 0 where
  pub makes : Makes w 1 hash b made out
  pub less : i < j
  pub within : j < group_entries

-- atoms can be made for entries i and j, which take the bits of entry k
pub record CollapseReady (w i j k hash : ℕ) (b : List ℕ) (made : Made) (out : List ℕ) : Type 0 where
  pub makes : Makes w 2 hash b made out
  pub i_lt : i < group_entries
  pub j_lt : j < group_entries
  pub k_lt : k < group_entries
  pub k_not_i : k ≢ i
  pub k_not_j : k ≢ j
