-- Compacting the atom table (semilinear.rs 292-318): atoms without a term go, the others are renumbered in order.
use Rattle.std.specs.Prelude.{◌≡◌, ℕ, zero, suc, ◌+◌, ◌*◌, List, [], ◌∷◌, ◌++◌, false, length, drop, eqb}
use Rattle.base.specs.Choice.{when}
use Rattle.base.specs.Put.{put, padded}
use Rattle.atom_table.specs.declared.table.Written.{Written}
use Rattle.semilinear.specs.Form.{Row, Form, term_count, atoms_bytes, term_bytes, terms_bytes}
use Rattle.semilinear.specs.Items.{is_term, front_word}
use Rattle.base.specs.Outcome.{Outcome}
use Rattle.semilinear.specs.Outcome.{form_outcome}
use Rattle.semilinear.specs.PassOutcome.{pass_outcome}
use Rattle.base.specs.Limits.{record_length}

-- the rows that have a term
unfoldable pub used_rows : List Row → List Row
used_rows [] = []
used_rows (x ∷ l) = when (eqb x.coeff 0) (λ _. used_rows l) (λ _. x ∷ used_rows l)

unfoldable pub compact_form : Form → Form
compact_form f = record { bitwidth = f.bitwidth; constant = f.constant; rows = used_rows f.rows }

-- what `compact_atom_table` gives for the bytes s and a result slice of len bytes
unfoldable pub compact_atom_table : List ℕ → ℕ → Outcome
compact_atom_table = pass_outcome (λ f. form_outcome (compact_form f) false)

-- ---- how the bytes are made

-- the terms at the front of q, numbered from j on in their order
unfoldable pub renumber_f : ℕ → ℕ → ℕ → List ℕ → List ℕ
renumber_f zero w j q = []
renumber_f (suc n) w j q =
    when (is_term q) (λ _. term_bytes w j (front_word q) ++ renumber_f n w (j + 1) (drop record_length q)) (λ _. [])

unfoldable pub renumber : ℕ → ℕ → List ℕ → List ℕ
renumber w j q = renumber_f (length q) w j q

-- the terms q are put into the bytes from `to` on, renumbered; r says where they end and how many there are
pub record TermsCopied (w to : ℕ) (q before after : List ℕ) (r : Written) : Type 0 where
  pub place : r.used ≡ to + length (renumber w 0 q)
  pub count : record_length * r.terms ≡ length (renumber w 0 q)
  pub written : after ≡ put before to (renumber w 0 q)

-- the rows that have a term, atoms and terms, from the start of a cleared slice on
pub record FrontCopied (w len : ℕ) (rows : List Row) (after : List ℕ) (r : Written) : Type 0 where
  pub place : r.used ≡ length (atoms_bytes w (used_rows rows) ++ terms_bytes w 0 (used_rows rows))
  pub count : r.terms ≡ term_count (used_rows rows)
  pub written : after ≡ padded len (atoms_bytes w (used_rows rows) ++ terms_bytes w 0 (used_rows rows))
