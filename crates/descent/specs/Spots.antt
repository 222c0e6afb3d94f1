-- The descent as the code runs it: atoms are named by the bytes of the file that hold their trees, in a lent slice; a
-- view gives what they stand for.
use Rattle.std.specs.Prelude.{◌≡◌, ℕ, zero, suc, ◌+◌, ◌^◌, ◌≤◌, ◌<◌, List, [], ◌∷◌, ◌++◌, Bool, true, false, not, length, get_or, set, eqb, Option, None, Some, IfSome}
use Rattle.arith.specs.Width.{mod_add, mod_mul, mod_neg}
use Rattle.base.specs.Choice.{when}
use Rattle.record.specs.Tree.{Tree}
use Rattle.record.specs.Tree.Tree.{Constant, Binary}
use Rattle.record.specs.Decode.{decode}
use Rattle.expr_utils.specs.Utils.{has_var_dep}
use Rattle.expr.specs.Value.{value}
use Rattle.ways.specs.declared.side.Spot.{Spot}
use Rattle.ways.specs.Spans.{span_of, Accepted}
use Rattle.ways.specs.Sides.{tree_at, AtSpot, collect_whole}
use Rattle.descent.specs.declared.collect.Atom.{Atom}
use Rattle.descent.specs.declared.collect.Descent.{Descent}
use Rattle.normalizer_laws.specs.Collect.{Emitted, Collected, nonlinear, linear, join_collected}

-- an atom of nothing, for places where none stands
abbrev pub no_atom : Atom
no_atom = record { spot = record { coeff = 0; start = 0; end = 0 }; literal = None }

-- the tree of an atom: the subtree, or the And of it and the literal
unfoldable pub spot_tree : Tree → Option ℕ → Tree
spot_tree t None = t
spot_tree t (Some literal) = Binary 4 t (Constant literal)

-- what an atom stands for
unfoldable pub atom_of : List ℕ → Atom → Emitted
atom_of file a =
    record { coeff = a.spot.coeff; tree = spot_tree (decode (span_of file a.spot.start a.spot.end)) a.literal }

-- the atom of number i
unfoldable pub spot_at : List ℕ → List Atom → ℕ → Emitted
spot_at file spots i = atom_of file (get_or spots i no_atom)

-- the first n atoms
unfoldable pub spots_in : List ℕ → List Atom → ℕ → List Emitted
spots_in file spots zero = []
spots_in file spots (suc n) = spots_in file spots n ++ (spot_at file spots n ∷ [])

-- what a descent has collected so far, or that it was not linear
unfoldable pub collected_in : List ℕ → List Atom → Option Descent → Collected
collected_in file spots None = nonlinear
collected_in file spots (Some d) = linear d.constant (spots_in file spots d.count)

-- an atom names an accepted part of the file, and its literal has w bits
pub record AtomOk (w : ℕ) (file : List ℕ) (a : Atom) : Type 0 where
  pub span : Accepted w file a.spot.start a.spot.end
  pub literal_lt : IfSome a.literal (λ v. v < 2 ^ w)

-- each of the first n atoms does
abbrev pub SpotsOk : ℕ → List ℕ → List Atom → ℕ → Type 0
SpotsOk w file spots n = (i : ℕ) → i < n → AtomOk w file (get_or spots i no_atom)

-- ---- the steps

-- where a step from d to r, over atoms before and after, of a tree of n records leaves off
pub record Stepped (w : ℕ) (file : List ℕ) (n : ℕ) (before : List Atom) (d : Descent) (after : List Atom) (r : Descent)
    : Type 0 where
  pub few : r.count ≤ d.count + n
  pub fits : r.constant < 2 ^ w
  pub spots : SpotsOk w file before d.count → SpotsOk w file after r.count

-- the step collects x
pub record Collects (w : ℕ) (file : List ℕ) (n : ℕ) (x : Collected) (before : List Atom) (d : Descent)
    (after : List Atom) (r : Option Descent) : Type 0 where
  pub collected : collected_in file after r ≡ join_collected w (linear d.constant (spots_in file before d.count)) x
  pub stepped : IfSome r (Stepped w file n before d after)
  pub same_length : length after ≡ length before

-- the atom a more, and the constant is now n
pub record Pushed (n : ℕ) (a : Atom) (before : List Atom) (d : Descent) (after : List Atom) (r : Descent) : Type 0 where
  pub state : r ≡ record { constant = n; count = d.count + 1 }
  pub written : after ≡ set before d.count a

-- the atom of ~x & v, with x from start to end of the file
unfoldable pub not_atom : ℕ → ℕ → ℕ → ℕ → ℕ → Atom
not_atom w c start end v = record { spot = record { coeff = mod_neg c w; start = start; end = end }; literal = Some v }

-- what a step asks of where it is: room for n atoms more
pub record Ready (w : ℕ) (n : ℕ) (spots : List Atom) (d : Descent) : Type 0 where
  pub width : w ≤ 64
  pub fits : d.constant < 2 ^ w
  pub room : d.count + n ≤ length spots

-- from a Not that is turned: the coefficient c is added to the constant
unfoldable pub turn_by : Bool → ℕ → ℕ → Descent → Descent
turn_by turned c w d =
    when turned (λ _. record { constant = mod_add d.constant c w; count = d.count }) (λ _. d)

-- what is collected of a tree where the descent ends: nothing under the coefficient 0, a constant of a tree without a
-- variable, or the tree as it stands
unfoldable pub collect_end : ℕ → ℕ → Tree → Collected
collect_end w c t =
    when (eqb c 0) (λ _. linear 0 [])
    (λ _. when (not (has_var_dep t)) (λ _. linear (mod_mul c (value w [] t) w) []) (λ _. collect_whole w c t))

-- where the descent ends at a tree with a variable, under a coefficient other than 0
pub record AtEnd (w : ℕ) (file marks : List ℕ) (x : Spot) (spots : List Atom) (d : Descent) : Type 0 where
  pub spot : AtSpot w file marks x
  pub ready : Ready w 1 spots d
  pub some : eqb x.coeff 0 ≡ false
  pub variable : has_var_dep (tree_at file x) ≡ true

-- a tree with a variable, from start to end of the file, that stands beside the literal v
pub record BesideLiteral (w : ℕ) (file : List ℕ) (start end v : ℕ) (spots : List Atom) (d : Descent) : Type 0 where
  pub span : Accepted w file start end
  pub ready : Ready w 1 spots d
  pub value_lt : v < 2 ^ w
  pub variable : has_var_dep (decode (span_of file start end)) ≡ true
