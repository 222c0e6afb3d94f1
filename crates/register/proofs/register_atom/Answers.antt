-- `register_atom` meets its contract: what the two searches find is the row that the tree shares.
use mathlib.Core.Path.{sym}
use native.Mathlib.Omega.{arith}
use Rattle.expr_refusal.proofs.RefusalLaws.{sized_accepted}
use Rattle.register.proofs.AppendedLaws.{index_room}
use Rattle.register.proofs.SharedLaws.{shared_lt, key_lt}
use Rattle.register.proofs.StepLaws.{searchable_indexed, registers_by_hash, registers_by_key}
use Rattle.register.proofs.StepLaws.{registers_new}
use Rattle.register.proofs.register_atom.Goals as goal

pub structural_hash-hash-requires : goal.structural_hash-hash-requires
structural_hash-hash-requires c = sized_accepted _ _ c.requires.accepted

pub row_by_hash-requires : goal.row_by_hash-requires
row_by_hash-requires c =
    (sized_accepted _ _ c.requires.accepted, searchable_indexed _ _ _ _ c.requires.indexed)

pub add_coeff-requires : goal.add_coeff-requires
add_coeff-requires c =
    let low = shared_lt _ _ _ _ _ (sym c.in-Some.ensures) in
    omega (arith, index_room _ _ _ _ c.requires.indexed, low)

pub returns-in-Some : goal.returns-in-Some
returns-in-Some c =
    let a = c.args in
    let p = c.requires in
    registers_by_hash a.w a.table a.index.now a.out.now p.indexed a.c a.t.now
    (λ i. (c.shared_slice_known-1.given i).fits) (λ i. (c.slice_known-1.given i).fits)
    p.accepted
    c.structural_hash-hash.ensures c.in-Some.ensures c.add_coeff.ensures

pub key_of-key-requires : goal.key_of-key-requires
key_of-key-requires c =
    sized_accepted _ _ c.requires.accepted

pub row_by_key-requires : goal.row_by_key-requires
row_by_key-requires c =
    index_room _ _ _ _ c.requires.indexed

pub add_coeff-requires-in-Some-row_by_key : goal.add_coeff-requires-in-Some-row_by_key
add_coeff-requires-in-Some-row_by_key c =
    let room = index_room _ _ _ _ c.requires.indexed in
    omega (arith, room, key_lt _ _ _ room (sym c.in-Some-row_by_key.ensures))

pub returns-in-Some-row_by_key : goal.returns-in-Some-row_by_key
returns-in-Some-row_by_key c =
    let a = c.args in
    let p = c.requires in
    registers_by_key a.w a.table a.index.now a.out.now p.indexed a.c a.t.now
    (λ i. (c.shared_slice_known-1.given i).fits) (λ i. (c.slice_known-1.given i).fits)
    p.accepted
    c.structural_hash-hash.ensures c.in_default.ensures c.key_of-key.ensures
    c.in-Some-row_by_key.ensures c.add_coeff-in-Some-row_by_key.ensures

pub append_atom-requires : goal.append_atom-requires
append_atom-requires c =
    (c.requires, c.structural_hash-hash.ensures, c.key_of-key.ensures)

pub returns : goal.returns
returns c =
    let a = c.args in
    let p = c.requires in
    registers_new a.w a.table a.index.now a.out.now p.indexed a.c a.t.now
    (λ i. (c.shared_slice_known-1.given i).fits) (λ i. (c.slice_known-1.given i).fits)
    p.accepted
    c.structural_hash-hash.ensures c.in_default.ensures c.key_of-key.ensures
    c.in_default-row_by_key.ensures c.append_atom.ensures
