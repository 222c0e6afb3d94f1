-- The examples of rules 2 hold (specs/Examples.antt), by computing.
use mathlib.Core.Path.{◌≡◌, refl}
use mathlib.Core.Bool.{true}
use Rattle.arith.specs.Width.{bitmask, wrapping_mul, mod_add, mod_mul, mod_neg}
use Rattle.arith.specs.Bit.{bit_at}
use Rattle.base.specs.Lists.{eq_list}
use Rattle.record.specs.Tree.{size_of, record_bytes, variable_bytes, encode}
use Rattle.expr_utils.specs.Utils.{has_kind, is_arith, has_arith}
use Rattle.expr.specs.Value.{unary, binary, value}
use Rattle.expr.specs.Vars.{next_var, support_f, support, same_vars}
use Rattle.expr.specs.Hash.{mix_hash, tag_hash, var_hash, structural_hash}
use Rattle.truth.specs.Key.{is_pure, same_table}
use Rattle.truth.specs.Truth.{bit_binary, bit_of, row_bits, table_f, table}
use Rattle.semilinear.specs.Form.{term_count, atom_bytes, atoms_bytes, term_bytes, terms_bytes, sum_bytes, encode_form}
use Rattle.semilinear.specs.Form.{eq_tree, tree_records, fits_table}
use Rattle.semilinear.specs.Outcome.{form_outcome}
use Rattle.semilinear.specs.PassOutcome.{limit_outcome}
use Rattle.normalizer_laws.specs.Collect.{join_collected, collect_atom, collect_constant, is_not, operand}
use Rattle.normalizer_laws.specs.Collect.{collect_not, is_masked_not, collect_and, and_coeff, collect_masked, collect_terms}
use Rattle.normalizer_laws.specs.Register.{same_slot, newest_row, first_row, has_tree, shared_row, add_row}
use Rattle.normalizer_laws.specs.Register.{register_atom, register_all}
use Rattle.normalizer_laws.specs.Normalize.{collected_form, collected_outcome, normalize_tree}
use Rattle.rules_laws.specs.Rules.{is_bitwise, literal_or, fold_literals, not_rule, rewrite_nots, ruled_tree}
use Rattle.rules_laws.specs.Examples.{is_answer, holds, all_hold, rules_two}

pub rules_hold : all_hold rules_two ≡ true
unfolding bitmask wrapping_mul mod_add mod_mul mod_neg bit_at eq_list size_of record_bytes variable_bytes encode
    has_kind is_arith has_arith unary binary value next_var support_f support same_vars
    mix_hash tag_hash var_hash structural_hash term_count atom_bytes atoms_bytes term_bytes terms_bytes sum_bytes encode_form
    eq_tree tree_records fits_table form_outcome join_collected collect_atom collect_constant is_not operand
    collect_not is_masked_not collect_and and_coeff collect_masked collect_terms bit_binary bit_of row_bits table_f table
    is_pure same_table same_slot newest_row first_row has_tree shared_row add_row
    register_atom register_all collected_form limit_outcome collected_outcome normalize_tree is_bitwise literal_or
    fold_literals not_rule rewrite_nots ruled_tree is_answer holds all_hold
rules_hold = refl
