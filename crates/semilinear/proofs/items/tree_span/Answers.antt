-- `tree_span` meets its contract: the atom without its head.
use Rattle.semilinear.specs.Items.{tree_span, atom_length, front_number}
use native.Mathlib.Omega.{arith}
use mathlib.Core.Path.{◌≡◌, ap}
use Prim.Native.Nat.{ℕ, ◌-◌, ◌*◌}
use lib.ListN.{take, drop}
use Rattle.semilinear.proofs.items.tree_span.Goals as goal

pub returns : goal.returns
unfolding tree_span atom_length
returns c =
    let e : c.atom_length-end.result - 16 ≡ 16 * front_number c.args.r.now =
    omega (arith, c.atom_length-end.ensures.0) in
    ap (λ (n : ℕ). take n (drop 16 c.args.r.now)) e
