-- The worked examples hold, by computing.
use mathlib.Core.Path.{◌≡◌, refl}
use mathlib.Core.Bool.{true}
use lib.Count.{count_trailing_zeros, ones_in}
use Rattle.arith.specs.Bit.{bit_at}
use Rattle.arith.specs.Effective.{effective_mask, reduce_mask, can_change_coefficient_to}
use Rattle.arith.specs.Width.{bitmask, mod_add, mod_sub, mod_mul, mod_neg}
use Rattle.base.specs.Lists.{eq_list}
use Rattle.record.specs.Tree.{size_of, record_bytes, variable_bytes, encode}
use Rattle.record.specs.Fields.{u16, u32, u64, kind, byte1, byte5, var_index, amount, size, width, spare_high, spare}
use Rattle.record.specs.Fields.{literal, arity}
use Rattle.record.specs.Span.{cut, body, left, right, step, steps_f, fold}
use Rattle.record.specs.Decode.{leaf}
use Rattle.expr_refusal.specs.Refusal.{lowest, uses_byte1, fields_ok, unused, size_ok, form_ok, width_ok, root_refusal}
use Rattle.expr_refusal.specs.Refusal.{expr_refusal}
use Rattle.expr.specs.Hash.{mix_hash, tag_hash, var_hash, structural_hash}
use Rattle.expr_utils.specs.Utils.{has_kind, is_arith, has_arith}
use Rattle.expr.specs.Value.{unary, binary, value}
use Rattle.expr.specs.Vars.{next_var, support_f, support, same_vars}
use Rattle.truth.specs.Key.{is_pure, same_table}
use Rattle.truth.specs.Truth.{has_shift, bit_binary, bit_of, row_bits, table_f, table}
use Rattle.decompose.specs.Decompose.{under_mask, decompose_and, decompose_atom}
use Rattle.semilinear.specs.Form.{term_count, atom_bytes, atoms_bytes, term_bytes, terms_bytes, sum_bytes, encode_form}
use Rattle.semilinear.specs.Form.{eq_tree, tree_records, fits_table}
use Rattle.semilinear.specs.Items.{front_kind, provenance, front_number, front_width, front_spare, front_word}
use Rattle.semilinear.specs.Items.{atom_length, is_atom, tree_span, after_atom, atoms_f, fold_atoms, is_term}
use Rattle.semilinear.specs.Valid.{atom_tree_ok, tree_ok, atom_ok, term_ok, terms_ok_f, terms_ok, sum_ok, front_ok}
use Rattle.semilinear.specs.Valid.{is_semilinear, length_refused}
use Rattle.semilinear.specs.DecodeForm.{has_term, coeff_at, after_term, row_at, rows_f, rows_of, decode_form}
use Rattle.semilinear.specs.DecodeForm.{retired_rows}
use Rattle.compaction.specs.Compact.{used_rows, compact_form, compact_atom_table}
use Rattle.group.specs.Group.{first_entries, at, put_entry, empty_group, push_entry, is_live, consumed, work, on_group}
use Rattle.made.specs.Rows.{create_row}
use Rattle.made.specs.Rows.{masked_tree, create_masked}
use Rattle.views.specs.Grouping.{view_row, any_basis, variable_basis, insert_basis, bases_of}
use Rattle.group.specs.Group.{group_of}
use Rattle.views.specs.Grouping.{ungrouped}
use Rattle.made.specs.Rows.{add_coeff}
use Rattle.group.specs.Group.{settle_at, settle}
use Rattle.base.specs.Loop.{turns_f, for_in, first_f, first_in}
use Rattle.semilinear.specs.Outcome.{form_outcome}
use Rattle.semilinear.specs.PassOutcome.{pass_outcome, limit_outcome}
use Rattle.normalizer_laws.specs.Collect.{join_collected, collect_atom, collect_constant, is_not, operand}
use Rattle.normalizer_laws.specs.Collect.{collect_not, is_masked_not, collect_and, and_coeff, collect_masked}
use Rattle.normalizer_laws.specs.Collect.{collect_terms}
use Rattle.normalizer_laws.specs.Normalize.{collected_form, collected_outcome, normalize_tree, normalize_to_semilinear}
use Rattle.normalizer_laws.specs.Register.{same_slot, newest_row}
use Rattle.normalizer_laws.specs.Register.{first_row, has_tree, shared_row, add_row, register_atom, register_all}
use Rattle.group.specs.Collapse.{third_fits, find_third, second_fits, find_second, first_fits, find_first}
use Rattle.group.specs.Collapse.{collapse_at, three_term_collapse}
use Rattle.refiner_laws.specs.RefineTerms.{refine_group, refine_all, refine_form, refine_terms}
use Rattle.group.specs.Steps.{remasked, cut_at, cut_masks, drop_at, drop_zero, join_at, slot_fits, place_at}
use Rattle.group.specs.Steps.{place_bucket, insert_key, key_at, bucket_keys, place_buckets, bucket_merge, pair_at, pair_merge}
use Rattle.group.specs.Steps.{minus_one_at, to_minus_one}
use Rattle.structure_laws.specs.Carried.{bit_coeff_at, bit_coeff, carry, carry_at, carried_of}
use Rattle.structure_laws.specs.CoalesceTerms.{carried_rows, coalesce_group, coalesce_all, coalesce_form, coalesce_terms}
use Rattle.structure_laws.specs.FlattenComplexAtoms.{is_plain, is_complex, at_zero, at_ones, flat_row, flatten_row}
use Rattle.structure_laws.specs.FlattenComplexAtoms.{flatten_rows, kept_rows, flattened, flatten_form}
use Rattle.structure_laws.specs.FlattenComplexAtoms.{flatten_complex_atoms}
use Rattle.structure_laws.specs.RecoverStructure.{row_with, with_bare, recover_xor, eliminate_mask, recover_pair}
use Rattle.structure_laws.specs.RecoverStructure.{is_partner, partner_of, recover_at, recover_group, recover_all}
use Rattle.structure_laws.specs.RecoverStructure.{recover_form, recover_structure}
use Rattle.partition_laws.specs.Partition.{is_opaque, opaque_word, profile_word, profile_from, join_class, classes_f}
use Rattle.partition_laws.specs.Partition.{classes_of, class_words, partitions_outcome, compute_partitions}
use Rattle.claims.specs.Calls.{pass_gives, use_of, after_call, in_use}
use Rattle.claims.specs.Example.{same_outcome, all_hold}
use Rattle.claims.specs.Examples.{starred, tricky}
use Rattle.claims.specs.Slips.{slips}
use Rattle.claims.specs.Masks.{masks}
use Rattle.claims.specs.Wide.{wide_normal, wide_passes, wide}
use Rattle.claims.specs.OnBytes.{on_bytes, saved_heads, past_byte, written_sums, refusals, orders}

-- all that computing an example opens
opened : Unit {0}
unfolding count_trailing_zeros ones_in bit_at effective_mask reduce_mask can_change_coefficient_to bitmask mod_add mod_sub
    mod_mul mod_neg eq_list size_of record_bytes variable_bytes encode mix_hash tag_hash var_hash structural_hash has_kind is_arith
    has_arith unary binary value next_var support_f support same_vars under_mask decompose_and decompose_atom
    term_count atom_bytes atoms_bytes term_bytes terms_bytes sum_bytes encode_form eq_tree tree_records fits_table first_entries at put_entry
    empty_group push_entry is_live consumed work on_group create_row masked_tree create_masked view_row any_basis variable_basis
    insert_basis bases_of group_of ungrouped add_coeff settle_at settle turns_f for_in first_f first_in form_outcome limit_outcome
    join_collected collect_atom collect_constant is_not operand collect_not is_masked_not collect_and and_coeff collect_masked
    collect_terms collected_form collected_outcome normalize_tree is_pure same_table same_slot
    newest_row first_row has_tree shared_row add_row register_atom register_all has_shift bit_binary bit_of row_bits table_f
    table third_fits find_third second_fits find_second first_fits find_first collapse_at three_term_collapse refine_group
    refine_all refine_form remasked cut_at cut_masks drop_at drop_zero join_at slot_fits place_at place_bucket insert_key key_at
    bucket_keys place_buckets bucket_merge pair_at pair_merge minus_one_at to_minus_one bit_coeff_at bit_coeff carry carry_at
    carried_of carried_rows coalesce_group coalesce_all coalesce_form is_plain is_complex at_zero at_ones flat_row flatten_row
    flatten_rows kept_rows flattened flatten_form row_with with_bare recover_xor eliminate_mask recover_pair is_partner
    partner_of recover_at recover_group recover_all recover_form is_opaque opaque_word profile_word profile_from join_class
    classes_f classes_of class_words partitions_outcome
    same_outcome all_hold
opened = tt

starred_hold : all_hold starred ≡ true
unfolding opened starred
starred_hold = refl

tricky_hold : all_hold tricky ≡ true
unfolding opened tricky
tricky_hold = refl

slips_hold : all_hold slips ≡ true
unfolding opened slips
slips_hold = refl

masks_hold : all_hold masks ≡ true
unfolding opened masks
masks_hold = refl

wide_hold : all_hold wide ≡ true
unfolding opened wide_normal wide_passes wide
wide_hold = refl

-- what reading and writing bytes opens besides
opened_bytes : Unit {0}
unfolding opened u16 u32 u64 kind byte1 byte5 var_index amount size width spare_high spare literal arity cut body left
    right step steps_f fold leaf lowest uses_byte1 fields_ok unused size_ok form_ok width_ok root_refusal expr_refusal front_kind
    provenance front_number front_width front_spare front_word atom_length is_atom tree_span after_atom atoms_f fold_atoms is_term atom_tree_ok tree_ok
    atom_ok term_ok terms_ok_f terms_ok sum_ok front_ok is_semilinear length_refused has_term coeff_at after_term row_at rows_f
    rows_of decode_form retired_rows used_rows compact_form pass_outcome compact_atom_table normalize_to_semilinear
    refine_terms coalesce_terms flatten_complex_atoms recover_structure compute_partitions pass_gives use_of after_call in_use
opened_bytes = tt

on_bytes_hold : all_hold on_bytes ≡ true
unfolding opened_bytes on_bytes
on_bytes_hold = refl

past_byte_hold : all_hold past_byte ≡ true
unfolding opened_bytes past_byte
past_byte_hold = refl

saved_heads_hold : all_hold saved_heads ≡ true
unfolding opened_bytes saved_heads
saved_heads_hold = refl

written_sums_hold : all_hold written_sums ≡ true
unfolding opened_bytes written_sums
written_sums_hold = refl

refusals_hold : all_hold refusals ≡ true
unfolding opened_bytes refusals
refusals_hold = refl

orders_hold : all_hold orders ≡ true
unfolding opened_bytes orders
orders_hold = refl
