-- The count of classes is handed over.
use Rattle.hogzelt.proofs.hogzelt_compute_partitions.Goals as goal

pub returns : goal.returns
returns c =
    let said = c.report_value.ensures in rw (said.number, said.beside) c.compute_partitions.ensures
