-- `write_form` meets its contract: the table, then its terms and the sum record, or 9 where it is full.
use mathlib.Core.Path.{ap, ◌∙◌}
use Prim.Native.Nat.{ℕ}
use native.Mathlib.Omega.{arith}
use lib.ListN.{replicate}
use Rattle.base.proofs.PutLaws.{padded_nil}
use Rattle.semilinear_normalizer.proofs.WrittenLaws.{table_placed, atoms_le, gives_collected}
use Rattle.semilinear_normalizer.proofs.form.write_form.Goals as goal

pub register_all-table-requires : goal.register_all-table-requires
register_all-table-requires c = (
  c.requires.0,
  c.fill.ensures.after (λ _ e. e) ∙ ap (λ (n : ℕ). replicate n 0) c.requires.1 ∙ padded_nil 57360,
)

pub finish-requires : goal.finish-requires
finish-requires c =
    let reg = c.register_all-table.ensures in
    record {
      placed = table_placed _ _ reg;
      long = c.out-2-1.given ∙ c.out-1.given ∙ c.requires.1;
      coeffs = λ more. omega (arith, atoms_le _ _ reg more, c.put_coeffs.ensures.same_length);
      step_pos = omega arith;
      step_le = omega arith;
    }

pub returns : goal.returns
returns c =
    let finished = c.finish in
    gives_collected _ _ c.register_all-table.ensures c.put_coeffs.ensures (omega arith) _ finished.result finished.ensures
