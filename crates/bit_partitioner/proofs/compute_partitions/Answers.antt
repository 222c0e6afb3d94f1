-- `compute_partitions` meets its contract: the front door, and then the form.
use Rattle.base.proofs.RefusalLaws.{passed_on}
use Rattle.bit_partitioner.proofs.EntryLaws.{call_shut, call_open, call_zeros, call_given}
use Rattle.bit_partitioner.proofs.compute_partitions.Goals as goal

pub returns-in_err-open_words : goal.returns-in_err-open_words
returns-in_err-open_words c = call_shut _ _ c.in_err-open_words.ensures (passed_on c.from_residual.ensures)

pub partition_form-requires : goal.partition_form-requires
partition_form-requires c =
    let door = c.in_ok-open_words.ensures in ((call_open _ _ door).form, call_zeros _ _ door)

pub returns : goal.returns
returns c = call_given _ _ c.in_ok-open_words.ensures c.partition_form.ensures
