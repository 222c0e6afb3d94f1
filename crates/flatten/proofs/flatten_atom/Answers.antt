-- `flatten_atom` meets its contract: the constant, then the row of the bits passed, then that of the bits inverted.
use native.Mathlib.Omega.{arith}
use Rattle.expr.proofs.ValueLaws.{value_lt}
use Rattle.structure_laws.proofs.OneVarLaws.{at_ones_lt}
use Rattle.flatten.proofs.FlatTurnLaws.{flat_constant_lem, flat_atom}
use Rattle.flatten.proofs.flatten_atom.Goals as goal

pub bits_without-passed-requires : goal.bits_without-passed-requires
bits_without-passed-requires c =
    (c.requires.1.width, rw c.constant_value-zeroed.ensures (value_lt _ _ _))

pub bits_without-inverted-requires : goal.bits_without-inverted-requires
bits_without-inverted-requires c =
    (c.requires.1.width, rw c.at_ones-raised.ensures (at_ones_lt _ _ _))

pub flat_row-requires : goal.flat_row-requires
flat_row-requires c =
    let s =
    flat_constant_lem _ _ c.args.c c.args.coeffs.now c.requires.1.room
    c.constant_value-zeroed.ensures c.mod_mul.ensures c.add_constant.ensures in
    record {
      width = c.requires.1.width;
      within = rw c.next_var-v.ensures.0 c.requires.1.within;
      room = s.room;
      more = omega (arith, s.rows_le, c.requires.1.more);
    }

pub flat_row-requires-2 : goal.flat_row-requires-2
flat_row-requires-2 c =
    let s =
    flat_constant_lem _ _ c.args.c c.args.coeffs.now c.requires.1.room
    c.constant_value-zeroed.ensures c.mod_mul.ensures c.add_constant.ensures in
    record {
      width = c.requires.1.width;
      within = rw c.next_var-v.ensures.0 c.requires.1.within;
      room = c.flat_row.ensures.room;
      more = omega (arith, c.flat_row.ensures.rows_le, s.rows_le, c.requires.1.more);
    }

pub returns : goal.returns
returns c =
    let zeroed = c.constant_value-zeroed.ensures in
    flat_atom _ _ _ c.next_var-v.ensures.0 zeroed c.at_ones-raised.ensures
    c.bits_without-passed.ensures c.bits_without-inverted.ensures c.mod_neg-negated.ensures
    (flat_constant_lem _ _ c.args.c c.args.coeffs.now c.requires.1.room zeroed
    c.mod_mul.ensures c.add_constant.ensures) c.flat_row.ensures
    c.flat_row-2.ensures
