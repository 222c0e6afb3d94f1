-- What a step makes of a group, the words of the atom table and its bytes. The rows of the table without limits stand in
-- no word: a step is said for every group and rows that the words and bytes stand for.
use Rattle.made.specs.declared.Made.{Made}
use Rattle.made.specs.Made.{Room, Later, Held}
use Rattle.std.specs.Prelude.{ℕ, ◌≡◌, List, length}
use Rattle.group.specs.declared.Group.{Group}
use Rattle.group.specs.Group.{Work}

-- a group, the words and the bytes stand for the work x
pub record Stands (w : ℕ) (g : Group) (made : Made) (out : List ℕ) (x : Work) : Type 0 where
  pub same : g ≡ x.group
  pub held : Held w made out x.rows

-- a step of a group beside the table: f on the work
pub record Stepped (w n : ℕ) (f : Work → Work) (g : Group) (made : Made) (out : List ℕ) (r : Group) (made' : Made) (out' : List ℕ)
    : Type 0 where
  pub room : Room made' out'
  pub later : Later n made made'
  pub long : length out' ≡ length out
  pub len : r.len ≡ g.len
  pub stands : (x : Work) → Stands w g made out x → Stands w r made' out' (f x)
