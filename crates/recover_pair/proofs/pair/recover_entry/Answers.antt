-- `recover_entry` meets its contract: the entry does not look, has no partner, or makes a pair.
use mathlib.Core.Path.{ap, sym, ◌∙◌}
use Rattle.arith.specs.Width.{bitmask}
use Prim.Native.Nat.{◌+◌}
use native.Mathlib.Omega.{arith}
use mathlib.Core.List.{List}
use Rattle.arith.proofs.WidthLaws.{bitmask_ones}
use Rattle.record.specs.Decode.{decode}
use Rattle.entries.proofs.FoundLaws.{is_below, is_past}
use Rattle.group.specs.Group.{Entry, at}
use Rattle.pairing.specs.Recovering.{partner_in}
use Rattle.recover_pair.proofs.PairingLaws.{at_mark, at_alone, at_pair, partner_other}
use Rattle.recover_pair.proofs.TurnedLaws.{turned_as, turned_none}
use Rattle.recover_pair.proofs.pair.recover_entry.Goals as goal

pub returns-then-not-looks : goal.returns-then-not-looks
unfolding at
returns-then-not-looks c =
    let a = c.args in
    turned_as (at_mark a.w (decode a.b.bytes.now) a.i _ (sym c.looks.ensures ∙ c.if-not-looks.true))
    (turned_none c.requires.makes.room)

pub recover_pair-requires : goal.recover_pair-requires
recover_pair-requires c =
    let pre = c.requires in
    let found = is_below (sym c.partner_of.ensures ∙ c.in-Some.is) in
    record {
      makes = pre.makes;
      i_lt = omega (arith, pre.within, pre.few);
      j_lt = omega (arith, found.1, c.used.ensures.1, pre.few);
      apart = partner_other c.args.i _ _ found.0;
      not_full = pre.not_full;
    }

pub returns-in-Some : goal.returns-in-Some
unfolding at
returns-in-Some c =
    let a = c.args in
    let taken = c.used.ensures in
    let found = is_below (sym c.partner_of.ensures ∙ c.in-Some.is) in
    turned_as
    (at_pair a.w (decode a.b.bytes.now) a.i _ (c.bitmask.ensures ∙ ap bitmask c.from.ensures ∙ bitmask_ones a.w c.requires.makes.width)
    c.complement-wanted.ensures (sym c.looks.ensures ∙ c.if-not-looks.false)
    (found.0 ∙ ap (λ (es : List Entry). partner_in c.complement-wanted.result es (a.i + 1)) taken.0)
    (omega (arith, found.1, taken.1)))
    c.recover_pair.ensures

pub returns-in_default : goal.returns-in_default
unfolding at
returns-in_default c =
    let a = c.args in
    let taken = c.used.ensures in
    let none = is_past (sym c.partner_of.ensures ∙ c.in_default.is) in
    turned_as
    (at_alone a.w (decode a.b.bytes.now) a.i _ (c.bitmask.ensures ∙ ap bitmask c.from.ensures ∙ bitmask_ones a.w c.requires.makes.width)
    c.complement-wanted.ensures
    (omega (
      arith,
      none,
      taken.1,
      ap (λ (es : List Entry). partner_in c.complement-wanted.result es (a.i + 1)) taken.0,
    )))
    (turned_none c.requires.makes.room)
