-- `append_atom` meets its contract: the atom's bytes and entry are appended, or the table would pass a limit.
use mathlib.Core.Path.{refl}
use native.Mathlib.Omega.{arith}
use Rattle.expr_refusal.proofs.RefusalLaws.{sized_accepted}
use Rattle.register.proofs.AppendedLaws.{registers_past, room_more, registers_more}
use Rattle.register.proofs.append_atom.Goals as goal

pub create_atom-more-requires : goal.create_atom-more-requires
create_atom-more-requires c =
    (c.requires.0.indexed.holds.placed, sized_accepted _ _ c.requires.0.accepted, c.requires.1)

pub returns-then-more : goal.returns-then-more
returns-then-more c =
    let a = c.args in
    let p = c.requires in
    registers_past a.w a.table a.index.now a.out.now p.0.indexed p.0.room a.c a.t.now
    (λ i. (c.shared_slice_known-1.given i).fits) p.0.accepted
    c.create_atom-more.ensures
    c.if-more.true

pub bounds-index-n : goal.bounds-index-n
bounds-index-n c =
    let a = c.args in
    let p = c.requires in
    omega (
      arith,
      room_more a.w a.table a.index.now a.out.now p.0.indexed p.0.room a.c a.t.now
          (λ i. (c.shared_slice_known-1.given i).fits) p.0.accepted c.create_atom-more.ensures c.if-more.false,
    )

pub returns : goal.returns
returns c =
    let a = c.args in
    let p = c.requires in
    registers_more a.w a.table a.index.now a.out.now p.0.indexed p.0.room a.c a.t.now
    (λ i. (c.shared_slice_known-1.given i).fits) p.0.accepted
    c.create_atom-more.ensures
    c.if-more.false (refl, refl) (refl, p.1, p.2) refl
