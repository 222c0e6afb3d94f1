-- The tree that bytes stand for. Every list of bytes has one: what is no record is the literal 0.
use Rattle.std.specs.Prelude.{ℕ, List, eqb}
use Rattle.base.specs.Choice.{when}
use Rattle.record.specs.Fields.{kind, var_index, amount, literal}
use Rattle.record.specs.Span.{fold}
use Rattle.record.specs.Tree.{Tree}
use Rattle.record.specs.Tree.Tree.{Constant, Variable, Unary, Binary}

-- the tree of a root without children
unfoldable pub leaf : List ℕ → Tree
leaf s = when (eqb (kind s) 0) (λ _. Constant (literal s)) (λ _. Variable (var_index s))

-- the tree of a span
abbrev pub decode : List ℕ → Tree
decode = fold (Constant 0) leaf (λ s x. Unary (kind s) (amount s) x) (λ s x y. Binary (kind s) x y)
