-- Variables of one byte (ticket #101): the trees whose variables are below 256, and the bytes that trees and sheets had
-- while byte 1 alone held a variable's number.
use Rattle.std.specs.Prelude.{ℕ, ◌+◌, List, [], ◌∷◌, ◌++◌, Bool, true, ◌&&◌, ltb}
use Rattle.record.specs.Tree.{Tree, size_of, record_bytes}
use Rattle.record.specs.Tree.Tree.{Constant, Variable, Unary, Binary}
use Rattle.expr.specs.Hash.{structural_hash}
use Rattle.semilinear.specs.Form.{Row, Form, terms_bytes, sum_bytes}

-- every variable has a number of one byte
unfoldable pub byte_vars : Tree → Bool
byte_vars (Constant v) = true
byte_vars (Variable i) = ltb i 256
byte_vars (Unary k a t) = byte_vars t
byte_vars (Binary k l r) = byte_vars l && byte_vars r

unfoldable pub byte_rows : List Row → Bool
byte_rows [] = true
byte_rows (x ∷ l) = byte_vars x.tree && byte_rows l

-- the bytes of a tree of width w as they were
unfoldable pub old_encode : ℕ → Tree → List ℕ
old_encode w (Constant v) = record_bytes 0 0 1 w v
old_encode w (Variable i) = record_bytes 1 i 1 w 0
old_encode w (Unary k a t) = old_encode w t ++ record_bytes k a (size_of t + 1) w 0
old_encode w (Binary k l r) = (old_encode w l ++ old_encode w r) ++ record_bytes k 0 (size_of l + size_of r + 1) w 0

-- the bytes of a form as they were
unfoldable pub old_atoms : ℕ → List Row → List ℕ
old_atoms w [] = []
old_atoms w (x ∷ l) =
    (record_bytes 33 x.provenance (size_of x.tree) w (structural_hash x.tree) ++ old_encode w x.tree)
    ++ old_atoms w l

unfoldable pub old_form : Form → List ℕ
old_form f =
    (old_atoms f.bitwidth f.rows ++ terms_bytes f.bitwidth 0 f.rows) ++ sum_bytes f.bitwidth f.constant
