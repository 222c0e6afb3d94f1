-- Where the descent stands in the file and where it can go on from there: a subtree with its marks, the sides of a root
-- with two children, and how what is collected below makes up what is collected here.
use Rattle.std.specs.Prelude.{◌≡◌, ℕ, ◌+◌, ◌-◌, ◌*◌, ◌^◌, ◌≤◌, ◌<◌, List, [], Bool, true, false, ◌&&◌, length, eqb, Option, None, Some}
use Rattle.arith.specs.Width.{mod_mul}
use Rattle.base.specs.Choice.{when}
use Rattle.record.specs.Tree.{Tree, size_of}
use Rattle.record.specs.Tree.Tree.{Constant, Variable, Unary, Binary}
use Rattle.record.specs.Fields.{kind, size, arity}
use Rattle.record.specs.Span.{cut, left, sized}
use Rattle.record.specs.Decode.{decode}
use Rattle.expr_utils.specs.Utils.{has_var_dep, has_arith}
use Rattle.expr.specs.Value.{value}
use Rattle.ways.specs.declared.side.Spot.{Spot}
use Rattle.ways.specs.declared.side.Side.{Side}
use Rattle.ways.specs.declared.side.Way.{Way}
use Rattle.ways.specs.declared.side.Way.TheVariants.{End, Child, Both}
use Rattle.normalizer_laws.specs.Collect.{Collected, nonlinear, linear, join_collected, collect_atom}
use Rattle.normalizer_laws.specs.Collect.{collect_and, and_coeff}
use Rattle.rules_laws.specs.Descend.{descend}
use Rattle.ways.specs.Marks.{marks_of, mark_arith}
use Rattle.ways.specs.Spans.{span_of, Accepted}
use Rattle.base.specs.Limits.{record_length}

-- ---- where the descent stands

-- the subtree of a spot
abbrev pub tree_at : List ℕ → Spot → Tree
tree_at file x = decode (span_of file x.start x.end)

-- a spot of the file, with its marks
pub record AtSpot (w : ℕ) (file marks : List ℕ) (x : Spot) : Type 0 where
  pub span : Accepted w file x.start x.end
  pub marks_are : marks ≡ marks_of (tree_at file x)

-- what a way on from a root of kind k asks: a variable below it, a coefficient other than 0, and no Add
pub record AtRoot (w : ℕ) (file marks : List ℕ) (x : Spot) (k : ℕ) : Type 0 where
  pub spot : AtSpot w file marks x
  pub width_le : w ≤ 64
  pub some : eqb x.coeff 0 ≡ false
  pub variable : has_var_dep (tree_at file x) ≡ true
  pub kind_is : k ≡ kind (span_of file x.start x.end)
  pub no_add : eqb k 2 ≡ false

-- ---- the sides of a root

-- what `left_side` and `right_side` ask: the bytes of a root with two children
pub record TwoSides (file : List ℕ) (x : Spot) : Type 0 where
  pub rising : x.start ≤ x.end
  pub inside : x.end ≤ length file
  pub whole : sized (span_of file x.start x.end) ≡ true
  pub two : arity (kind (span_of file x.start x.end)) ≡ 2

-- the records of a side by number, counted from the byte `start` of the file on: a number, times 16, is the byte place
pub record Places (start : ℕ) (b : Side) : Type 0 where
  pub from_place : start + record_length * b.from ≡ b.start
  pub to_place : start + record_length * b.to ≡ b.end

-- the side b of a root whose bytes begin at `start`: a part of the file with its marks
pub record SideAt (w : ℕ) (file marks : List ℕ) (start : ℕ) (b : Side) : Type 0 where
  pub span : Accepted w file b.start b.end
  pub from_le : b.from ≤ b.to
  pub to_le : b.to ≤ length marks
  pub marks_are : span_of marks b.from b.to ≡ marks_of (decode (span_of file b.start b.end))
  pub places : Places start b

-- the tree of a side
abbrev pub side_tree : List ℕ → Side → Tree
side_tree file b = decode (span_of file b.start b.end)

-- what x ^ v and x | v have beside x: the value v of the literal's side, and the And of x and v
unfoldable pub collect_literal : ℕ → ℕ → ℕ → Tree → ℕ → Collected
collect_literal w k c t v =
    join_collected w (linear (mod_mul c v w) []) (collect_and w (and_coeff w k c) t (Constant v))

-- the root has two children
unfoldable pub is_binary : Tree → Bool
is_binary (Constant v) = false
is_binary (Variable i) = false
is_binary (Unary k a t) = false
is_binary (Binary k l r) = true

-- the left child of a root with two
unfoldable pub left_of : Tree → Tree
left_of (Constant v) = Constant v
left_of (Variable i) = Variable i
left_of (Unary k a t) = Unary k a t
left_of (Binary k l r) = l

-- the right child of a root with two
unfoldable pub right_of : Tree → Tree
right_of (Constant v) = Constant v
right_of (Variable i) = Variable i
right_of (Unary k a t) = Unary k a t
right_of (Binary k l r) = r

-- where the left child of a root with two stands in the file, and its marks
unfoldable pub left_side : List ℕ → Spot → Side
left_side file x =
    record {
      start = x.start;
      end = x.start + cut (span_of file x.start x.end);
      from = 0;
      to = size (left (span_of file x.start x.end));
      value = 0;
    }

-- where the right child stands, and its marks
unfoldable pub right_side : List ℕ → List ℕ → Spot → Side
right_side file marks x =
    record {
      start = x.start + cut (span_of file x.start x.end);
      end = x.end - record_length;
      from = size (left (span_of file x.start x.end));
      to = length marks - 1;
      value = 0;
    }

-- the root is an And
abbrev pub IsAnd : Tree → Type 0
IsAnd t = t ≡ Binary 4 (left_of t) (right_of t)

-- the side with a variable of a root over l and r, where the other has none; the root's bytes begin at `start`
pub data OneSide (w : ℕ) (file marks : List ℕ) (start : ℕ) (l r : Tree) (b : Side) : Type 0 where
  at_right : has_var_dep l ≡ false → side_tree file b ≡ r → b.value ≡ value w [] l → SideAt w file marks start b
      → OneSide w file marks start l r b
  at_left : has_var_dep l ≡ true → has_var_dep r ≡ false → side_tree file b ≡ l → b.value ≡ value w [] r
      → SideAt w file marks start b → OneSide w file marks start l r b

-- that side, or none where both have a variable
abbrev pub SideOf : ℕ → List ℕ → List ℕ → ℕ → Tree → Tree → Option Side → Type 0
SideOf w file marks start l r None = (has_var_dep l ≡ true) × (has_var_dep r ≡ true)
SideOf w file marks start l r (Some b) = OneSide w file marks start l r b

-- the rule for Not is taken at a root of kind k and of the mark m
unfoldable pub is_turned : Bool → ℕ → ℕ → Bool
is_turned nots k m = nots && (eqb k 7 && mark_arith m)

-- what a tree with a variable is collected as where the descent ends at it
unfoldable pub collect_whole : ℕ → ℕ → Tree → Collected
collect_whole w c (Constant v) = collect_atom c (Constant v)
collect_whole w c (Variable i) = collect_atom c (Variable i)
collect_whole w c (Unary k a t) =
    when (has_arith (Unary k a t)) (λ _. nonlinear) (λ _. collect_atom c (Unary k a t))
collect_whole w c (Binary k l r) =
    when (has_arith (Binary k l r)) (λ _. nonlinear)
    (λ _. when (eqb k 4) (λ _. collect_and w c l r) (λ _. collect_atom c (Binary k l r)))

-- what is collected of a child with the coefficient d, from a Not that is turned with the constant d besides
unfoldable pub join_turned : ℕ → Bool → ℕ → Collected → Collected
join_turned w turned d x = when turned (λ _. join_collected w (linear d []) x) (λ _. x)

-- the descent goes from a tree t under a coefficient c to the one child b under the coefficient d; the tree's bytes begin
-- at `start`
pub record Goes (nots : Bool) (w : ℕ) (file marks : List ℕ) (start c : ℕ) (t : Tree) (d : ℕ) (turned : Bool)
    (b : Side) : Type 0 where
  pub side : SideAt w file marks start b
  pub smaller : size_of (side_tree file b) < size_of t
  pub cut : turned ≡ true → d < 2 ^ w
  pub same : descend nots w c t ≡ join_turned w turned d (descend nots w d (side_tree file b))

-- it goes from a tree t of kind k to the child b and then to the And of it and a literal
pub record Masks (nots : Bool) (w : ℕ) (file marks : List ℕ) (start k c : ℕ) (t : Tree) (b : Side) : Type 0 where
  pub side : SideAt w file marks start b
  pub smaller : size_of (side_tree file b) < size_of t
  pub variable : has_var_dep (side_tree file b) ≡ true
  pub same :
      descend nots w c t
      ≡ join_collected w (descend nots w c (side_tree file b)) (collect_literal w k c (side_tree file b) b.value)
  pub value_lt : b.value < 2 ^ w

-- how the descent, with the rule for Not or without it, goes on at a tree t of kind k with a variable that is no Add,
-- under a coefficient c other than 0
abbrev pub WayOf : Bool → ℕ → List ℕ → List ℕ → ℕ → ℕ → ℕ → Tree → Way → Type 0
WayOf nots w file marks start k c t End = descend nots w c t ≡ collect_whole w c t
WayOf nots w file marks start k c t (Child d turned b) = Goes nots w file marks start c t d turned b
WayOf nots w file marks start k c t (Both b) = Masks nots w file marks start k c t b

-- at a tree with a variable under a coefficient other than 0 the descent ends
abbrev pub EndsHere : Bool → ℕ → ℕ → Tree → Type 0
EndsHere nots w c t = eqb c 0 ≡ false → has_var_dep t ≡ true → descend nots w c t ≡ collect_whole w c t

-- a tree with a variable under a coefficient other than 0
pub record Collectable (file : List ℕ) (x : Spot) : Type 0 where
  pub some : eqb x.coeff 0 ≡ false
  pub variable : has_var_dep (tree_at file x) ≡ true

-- the child b, under the same coefficient, is the left side of an Add, or stands beside a literal
pub data FirstOf (nots : Bool) (w : ℕ) (file marks : List ℕ) (x : Spot) (b : Side) : Type 0 where
  sum : kind (span_of file x.start x.end) ≡ 2 → Collectable file x → b ≡ left_side file x → Places x.start b
      → FirstOf nots w file marks x b
  masks : eqb (kind (span_of file x.start x.end)) 2 ≡ false → Collectable file x
      → Masks nots w file marks x.start (kind (span_of file x.start x.end)) x.coeff (tree_at file x) b
      → FirstOf nots w file marks x b

-- how the descent goes on at any spot: it ends there, or goes to one child of a root that is no Add, or first to one child
-- of two
abbrev pub WayDown : Bool → ℕ → List ℕ → List ℕ → Spot → Way → Type 0
WayDown nots w file marks x End = EndsHere nots w x.coeff (tree_at file x)
WayDown nots w file marks x (Child d turned b) =
    (eqb (kind (span_of file x.start x.end)) 2 ≡ false) × Collectable file x
    × Goes nots w file marks x.start x.coeff (tree_at file x) d turned b
WayDown nots w file marks x (Both b) = FirstOf nots w file marks x b
