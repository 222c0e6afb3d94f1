-- Call by call, the rest of the list makes of the bytes in use what the whole list makes of the first.
use mathlib.Core.Path.{ap}
use Prim.Native.Nat.{◌*◌, ◌/◌, ◌<◌, ◌≤◌}
use native.Mathlib.Omega.{arith}
use native.Mathlib.Decide.{dec_lt}
use lib.ListN.{length}
use Rattle.claims.specs.Calls.{Call}
use Rattle.runner.proofs.ListLaws.{list_read, chunk_in}
use Rattle.runner.proofs.RunLaws.{running_next, running_lies, running_turn, running_end}
use Rattle.runner.proofs.run_list.Goals as goal

pub unwrap-requires : goal.unwrap-requires
unwrap-requires c =
    let v = c.loop-call.invariant in
    let words = c.args.words.now in
    let i = c.loop-call.call-index in
    let h : i * 2 < length words = omega (arith, c.as_chunks.ensures.front_len) in
    let chunk = chunk_in words c.as_chunks.result.0.now (length words / 2) i c.as_chunks.ensures.front (omega (arith, c.as_chunks.ensures.front_len)) in
    (list_read words (i * 2) _ _ _ chunk h v.list _ c.read_call.ensures).some

pub turn-x-requires : goal.turn-x-requires
turn-x-requires c =
    let v = c.loop-call.invariant in
    let words = c.args.words.now in
    let i = c.loop-call.call-index in
    let h : i * 2 < length words = omega (arith, c.as_chunks.ensures.front_len) in
    let chunk = chunk_in words c.as_chunks.result.0.now (length words / 2) i c.as_chunks.ensures.front (omega (arith, c.as_chunks.ensures.front_len)) in
    let read = list_read words (i * 2) _ _ _ chunk h v.list _ c.read_call.ensures in
    let call = read.call _ c.unwrap.ensures in
    let len = ap (λ (x : Call). x.len) call in
    let n = running_next v h in
    (omega (arith, len, n.fits_a, v.sheet_length), omega (arith, len, n.fits_b, v.spare_length), running_lies v)

pub loop-call-preserved : goal.loop-call-preserved
loop-call-preserved c =
    let v = c.loop-call.invariant in
    let words = c.args.words.now in
    let i = c.loop-call.call-index in
    let h : i * 2 < length words = omega (arith, c.as_chunks.ensures.front_len) in
    let chunk = chunk_in words c.as_chunks.result.0.now (length words / 2) i c.as_chunks.ensures.front (omega (arith, c.as_chunks.ensures.front_len)) in
    let read = list_read words (i * 2) _ _ _ chunk h v.list _ c.read_call.ensures in
    let call = read.call _ c.unwrap.ensures in
    let turn = c.turn-x in
    running_turn v h (rw call at turn.ensures) turn.auto.sheet turn.auto.spare (omega arith)

pub returns : goal.returns
returns c =
    let v = c.loop-call.invariant in
    running_end v (at_end (dec_lt (c.loop-call.call-index * 2) (length c.args.words.now)))
  where
    at_end : Dec (c.loop-call.call-index * 2 < length c.args.words.now) → length c.args.words.now ≤ c.loop-call.call-index * 2
    at_end (yes h) =
        let n = running_next c.loop-call.invariant h in
        omega (arith, n.two_words, c.as_chunks.ensures.front_len)
    at_end (no n) = omega arith
