-- `put_tree` meets its contract: the tree alone, or with the records of the literal and the And behind it.
use native.Mathlib.Omega.{arith}
use Rattle.record.proofs.SizedLaws.{sized_length}
use Rattle.expr_refusal.proofs.RefusalLaws.{accepted_big, sized_accepted}
use Rattle.register.proofs.BuiltLaws.{built_plain, built_masked}
use borrow.Author.Rules.{rules}
use Rattle.register.proofs.put_tree.Goals as goal

pub returns-in_default : goal.returns-in_default
returns-in_default c =
    let plain = built_plain c.args.w c.args.t.now (λ i. (c.shared_slice_known-1.given i).fits) c.requires.accepted
    (omega (arith, c.requires.room)) c.put.ensures in
    rw c.in_default.is plain

pub size-requires : goal.size-requires
size-requires c =
    accepted_big _ _ c.requires.accepted

pub put_record-requires-2 : goal.put_record-requires-2
put_record-requires-2 c =
    let n = sized_length c.args.t.now (sized_accepted _ _ c.requires.accepted) in
    (search rules, omega (arith, n, c.requires.long, c.size.ensures.0))

pub returns : goal.returns
returns c =
    let masked = built_masked c.args.w c.args.t.now (λ i. (c.shared_slice_known-1.given i).fits) c.requires.accepted
    c.in-Some.v (rw c.in-Some.is at c.requires.literal_lt) c.requires.room c.size.ensures.0 c.put.ensures
    c.put_record.ensures c.put_record-2.ensures in
    rw c.in-Some.is masked
