-- The pairs of specs/Examples.antt have their verdicts, by computing.
use mathlib.Core.Path.{◌≡◌, refl}
use mathlib.Core.Bool.{true}
use Rattle.arith.specs.Width.{bitmask, wrapping_mul, mod_add, mod_mul, mod_neg}
use Rattle.arith.specs.Bit.{bit_at}
use Rattle.base.specs.Lists.{eq_list}
use Rattle.base.specs.Loop.{first_f, first_in}
use Rattle.base.specs.Outcome.{refusal_of}
use Rattle.record.specs.Fields.{u16, u32, u64, kind, byte1, byte5, var_index, amount, size, width, spare_high, spare}
use Rattle.record.specs.Fields.{literal, arity}
use Rattle.record.specs.Span.{cut, body, left, right, step, steps_f, fold}
use Rattle.record.specs.Tree.{size_of, record_bytes, variable_bytes, encode}
use Rattle.record.specs.Decode.{leaf}
use Rattle.expr_refusal.specs.Refusal.{lowest, uses_byte1, fields_ok, unused, size_ok, form_ok, width_ok, root_refusal}
use Rattle.expr_refusal.specs.Refusal.{expr_refusal}
use Rattle.expr_utils.specs.Utils.{has_kind, is_arith, has_arith}
use Rattle.expr.specs.Value.{unary, binary, value}
use Rattle.expr.specs.ExprValue.{expr_value}
use Rattle.expr.specs.Vars.{next_var, support_f, support, same_vars}
use Rattle.expr.specs.Hash.{mix_hash, tag_hash, var_hash, structural_hash}
use Rattle.truth.specs.Key.{is_pure, same_table}
use Rattle.truth.specs.Truth.{shifts_var, bit_binary, bit_of, row_bits, table_f, table}
use Rattle.semilinear.specs.Form.{term_count, atom_bytes, atoms_bytes, term_bytes, terms_bytes, sum_bytes, encode_form}
use Rattle.semilinear.specs.Form.{eq_tree, tree_records, fits_table, sum_rows, form_value}
use Rattle.semilinear.specs.Items.{front_kind, provenance, front_number, front_width, front_spare, front_word, atom_length}
use Rattle.semilinear.specs.Items.{is_atom, tree_span, after_atom, atoms_f, fold_atoms, is_term}
use Rattle.semilinear.specs.Valid.{atom_tree_ok, tree_ok, atom_ok, term_ok, terms_ok_f, terms_ok, sum_ok, front_ok, is_semilinear}
use Rattle.semilinear.specs.Valid.{length_refused, semilinear_refusal}
use Rattle.semilinear.specs.DecodeForm.{has_term, coeff_at, after_term, row_at, rows_f, rows_of, decode_form}
use Rattle.semilinear.specs.Outcome.{form_outcome}
use Rattle.semilinear.specs.PassOutcome.{limit_outcome}
use Rattle.semilinear_value.specs.Value.{semilinear_value}
use Rattle.normalizer_laws.specs.Collect.{join_collected, collect_atom, collect_constant, is_not, operand, collect_not}
use Rattle.normalizer_laws.specs.Collect.{is_masked_not, collect_and, and_coeff, collect_masked, collect_terms}
use Rattle.normalizer_laws.specs.Register.{same_slot, newest_row, first_row, has_tree, shared_row, add_row, register_atom}
use Rattle.normalizer_laws.specs.Register.{register_all}
use Rattle.normalizer_laws.specs.Normalize.{collected_form, collected_outcome, normalize_tree, normalize_to_semilinear}
use Rattle.judge_laws.specs.Judge.{atoms_tree, joint_vars, judge_refusal, words, above, single, differs, indices}
use Rattle.judge_laws.specs.Judge.{first_index, differs_at, first_place, compared, judge_sides}
use Rattle.judge_laws.specs.Examples.{is_verdict, holds, all_hold, verdicts, refusals, sheets}

pub exprs_hold : (all_hold verdicts ≡ true) × (all_hold refusals ≡ true)
unfolding bitmask wrapping_mul mod_add mod_mul mod_neg bit_at eq_list first_f first_in refusal_of
    u16 u32 u64 kind byte1 byte5 var_index amount size width spare_high spare literal arity cut body left right step
    steps_f fold size_of record_bytes variable_bytes encode leaf
    lowest uses_byte1 fields_ok unused size_ok form_ok width_ok root_refusal expr_refusal
    has_kind is_arith has_arith unary binary value expr_value next_var support_f support same_vars
    mix_hash tag_hash var_hash structural_hash is_pure same_table shifts_var bit_binary bit_of row_bits table_f table
    term_count atom_bytes atoms_bytes term_bytes terms_bytes sum_bytes encode_form eq_tree tree_records fits_table form_outcome
    limit_outcome join_collected collect_atom collect_constant is_not operand collect_not is_masked_not collect_and and_coeff
    collect_masked collect_terms same_slot newest_row first_row has_tree shared_row add_row register_atom register_all
    collected_form collected_outcome normalize_tree normalize_to_semilinear
    joint_vars judge_refusal words above single differs indices first_index differs_at first_place compared judge_sides
    is_verdict holds all_hold
exprs_hold = (refl, refl)

pub sheets_hold : all_hold sheets ≡ true
unfolding bitmask wrapping_mul mod_add mod_mul mod_neg bit_at eq_list first_f first_in
    u16 u32 u64 kind byte1 byte5 var_index amount size width spare_high spare literal arity cut body left right step
    steps_f fold size_of record_bytes variable_bytes encode leaf
    lowest uses_byte1 fields_ok unused size_ok form_ok width_ok root_refusal
    has_kind is_arith has_arith unary binary value next_var support_f support
    mix_hash tag_hash var_hash structural_hash shifts_var row_bits
    atom_bytes atoms_bytes term_bytes terms_bytes sum_bytes encode_form sum_rows form_value
    front_kind provenance front_number front_width front_spare front_word atom_length is_atom tree_span after_atom atoms_f fold_atoms
    is_term atom_tree_ok tree_ok atom_ok term_ok terms_ok_f terms_ok sum_ok front_ok is_semilinear length_refused semilinear_refusal
    has_term coeff_at after_term row_at rows_f rows_of decode_form semilinear_value
    atoms_tree joint_vars judge_refusal words above single differs indices first_index differs_at first_place compared judge_sides
    is_verdict holds all_hold
sheets_hold = refl
