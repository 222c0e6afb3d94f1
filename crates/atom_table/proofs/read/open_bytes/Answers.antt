-- `open_bytes` meets its contract: the bytes are cleared, and the refusal is that of the front door.
use Rattle.atom_table.proofs.ReadLaws.{gives_open}
use Rattle.atom_table.proofs.read.open_bytes.Goals as goal

pub returns : goal.returns
returns c = gives_open _ _ _ _ _ c.read_refusal.ensures (c.fill.ensures.after (λ _ e. e))
