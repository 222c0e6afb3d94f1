-- Demand 3 on the exported functions (Trace.antt): one record, one theorem.
use Rattle.hogzelt.proofs.Trace.{AnyCalls}
use Rattle.hogzelt.proofs.TraceLaws.{parted_columns, trace_cut, trace_claimed}
use Rattle.hogzelt.proofs.ExistsLaws.{started, started_by, traced}
use Rattle.hogzelt.proofs.RunLaws.{run_claimed}
use Rattle.hogzelt.proofs.hogzelt_normalize_to_semilinear.Met as normalize-thm
use Rattle.hogzelt.proofs.hogzelt_normalize_by_rules.Met as ruled-thm
use Rattle.hogzelt.proofs.hogzelt_refine_terms.Met as refine-thm
use Rattle.hogzelt.proofs.hogzelt_recover_structure.Met as recover-thm
use Rattle.hogzelt.proofs.hogzelt_coalesce_terms.Met as coalesce-thm
use Rattle.hogzelt.proofs.hogzelt_flatten_complex_atoms.Met as flatten-thm
use Rattle.hogzelt.proofs.hogzelt_compact_atom_table.Met as compact-thm
use Rattle.hogzelt.proofs.hogzelt_compute_partitions.Met as partitions-thm
use Rattle.hogzelt.proofs.hogzelt_run_passes.Met as run-thm

pub any_calls : {M : Type 1} → AnyCalls M
any_calls =
    record {
      normalize_meets = normalize-thm.met;
      ruled_meets = ruled-thm.met;
      refine_meets = refine-thm.met;
      recover_meets = recover-thm.met;
      coalesce_meets = coalesce-thm.met;
      flatten_meets = flatten-thm.met;
      compact_meets = compact-thm.met;
      partitions_meets = partitions-thm.met;
      run_meets = run-thm.met;
      lists = trace_claimed;
      beginnings = λ a tr n. trace_claimed a (trace_cut n tr);
      starts = started;
      starts_by = started_by;
      traces = traced;
      runs = λ h k. run_claimed k h;
      columns = parted_columns;
    }
