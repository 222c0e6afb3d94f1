-- What normalising gives by the rules that its caller names (document 02, request #109). Rules 1 are those of document
-- 01. Under rules 2 a variable-free subtree below a bitwise operator first becomes one literal, cut to w bits; then ~e
-- counts as -e - 1 where e has an Add, Mul or Neg; and rules 1 are given the tree so rewritten, whatever its size.
use Rattle.std.specs.Prelude.{ℕ, ◌-◌, ◌^◌, List, [], Bool, true, false, not, ◌&&◌, ◌||◌, eqb}
use Rattle.base.specs.Choice.{when}
use Rattle.base.specs.Limits.{form_bytes}
use Rattle.base.specs.Outcome.{Outcome, refused}
use Rattle.record.specs.Fields.{width}
use Rattle.record.specs.Tree.{Tree}
use Rattle.record.specs.Tree.Tree.{Constant, Variable, Unary, Binary}
use Rattle.record.specs.Decode.{decode}
use Rattle.expr_refusal.specs.Refusal.{expr_refusal}
use Rattle.expr_utils.specs.Utils.{has_var_dep, has_arith}
use Rattle.expr.specs.Value.{value}
use Rattle.normalizer_laws.specs.Normalize.{normalize_tree}

-- And, Or, Xor and Not
unfoldable pub is_bitwise : ℕ → Bool
is_bitwise k = eqb k 4 || (eqb k 5 || (eqb k 6 || eqb k 7))

-- t where it holds a variable or stands below no bitwise operator, else one literal, cut to w bits
unfoldable pub literal_or : ℕ → Bool → Tree → Tree → Tree
literal_or w below t u = when (below && not (has_var_dep t)) (λ _. Constant (value w [] t)) (λ _. u)

-- the variable-free subtrees below a bitwise operator as literals; `below` says that t stands below one
unfoldable pub fold_literals : ℕ → Bool → Tree → Tree
fold_literals w below (Constant v) = literal_or w below (Constant v) (Constant v)
fold_literals w below (Variable i) = Variable i
fold_literals w below (Unary k a t) =
    literal_or w below (Unary k a t) (Unary k a (fold_literals w (below || is_bitwise k) t))
fold_literals w below (Binary k l r) =
    literal_or w below (Binary k l r)
    (Binary k (fold_literals w (below || is_bitwise k) l) (fold_literals w (below || is_bitwise k) r))

-- a Not, where what it stands over, e as it was and f as it is rewritten, has an Add, Mul or Neg: -f - 1
unfoldable pub not_rule : ℕ → ℕ → ℕ → Tree → Tree → Tree
not_rule w k a e f =
    when (eqb k 7 && has_arith e) (λ _. Binary 2 (Unary 8 0 f) (Constant (2 ^ w - 1))) (λ _. Unary k a f)

-- each Not with an Add, Mul or Neg below it
unfoldable pub rewrite_nots : ℕ → Tree → Tree
rewrite_nots w (Constant v) = Constant v
rewrite_nots w (Variable i) = Variable i
rewrite_nots w (Unary k a t) = not_rule w k a t (rewrite_nots w t)
rewrite_nots w (Binary k l r) = Binary k (rewrite_nots w l) (rewrite_nots w r)

-- the tree that rules 1 are given in place of t: under rules 1 t itself, under rules 2 t rewritten
unfoldable pub ruled_tree : Bool → ℕ → Tree → Tree
ruled_tree false w t = t
ruled_tree true w t = rewrite_nots w (fold_literals w false t)

-- of the bytes s of an expression, with a result slice of len bytes, by either rules; `two` says that they are rules 2.
-- Refusals 1 to 6 are of the bytes as they are given
unfoldable pub normalize_ruled : Bool → List ℕ → ℕ → Outcome
normalize_ruled two s len =
    when (eqb (expr_refusal s) 1) (λ _. refused 1)
    (λ _. when (not (eqb len form_bytes)) (λ _. refused 2)
    (λ _. when (not (eqb (expr_refusal s) 0)) (λ _. refused (expr_refusal s))
    (λ _. normalize_tree (width s) (ruled_tree two (width s) (decode s)))))

-- the rules by number: 18 for other numbers than 1 and 2, before all else
unfoldable pub normalize_by_rules : ℕ → List ℕ → ℕ → Outcome
normalize_by_rules rules s len =
    when (eqb rules 1) (λ _. normalize_ruled false s len)
    (λ _. when (eqb rules 2) (λ _. normalize_ruled true s len) (λ _. refused 18))
