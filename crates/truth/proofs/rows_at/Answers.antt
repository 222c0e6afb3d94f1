-- `rows_at` meets its contract: at a root without children by the law of a leaf; otherwise place and width are the
-- halves of one number.
use Rattle.record.proofs.SizedLaws.{sized_big}
use Rattle.record.proofs.DecodeLaws.{decode_leaf}
use native.Mathlib.Omega.{arith}
use Rattle.truth.proofs.HalvesLaws.{halves}
use Rattle.truth.proofs.rows_at.Goals as goal

pub root_arity-requires : goal.root_arity-requires
root_arity-requires c = sized_big _ c.requires

pub leaf_rows-requires : goal.leaf_rows-requires
leaf_rows-requires c = sized_big _ c.requires

pub returns-then-root_arity-eq0 : goal.returns-then-root_arity-eq0
returns-then-root_arity-eq0 c =
    rw (decode_leaf _ c.requires c.root_arity.ensures c.if-root_arity-eq0.true)
    (c.leaf_rows.ensures c.args.w)

pub returns : goal.returns
returns c =
    let a = c.args in
    let h = halves a.place a.w (omega arith) in
    rw (h.0, h.1) at c.rows_in.ensures
