-- The words are looked at two by two.
use mathlib.Core.Path.{◌≡◌, ap, sym, ◌∙◌}
use Prim.Native.Nat.{◌+◌, ◌*◌, ◌<◌, ◌≤◌, ◌/◌}
use native.Mathlib.Omega.{arith}
use lib.ListN.{length, drop}
use Rattle.runner.specs.RunPasses.{is_list}
use Rattle.runner.proofs.ListLaws.{chunk_in, chunk_passed, chunk_stops, list_last}
use Rattle.runner.proofs.is_list.Goals as goal

pub returns-then-not-is_call : goal.returns-then-not-is_call
returns-then-not-is_call c =
    let words = c.args.words.now in
    let i = c.loop-call.call-index in
    let two : i * 2 + 2 ≤ length words = omega (arith, c.as_chunks.ensures.front_len) in
    let chunk = chunk_in words c.as_chunks.result.0.now (length words / 2) i c.as_chunks.ensures.front (omega (arith, c.as_chunks.ensures.front_len)) in
    sym (sym c.loop-call.invariant
    ∙ chunk_stops words (i * 2) c.args.a c.args.b _ chunk two (sym c.is_call.ensures ∙ c.if-not-is_call.true))

pub loop-call-preserved : goal.loop-call-preserved
loop-call-preserved c =
    let words = c.args.words.now in
    let i = c.loop-call.call-index in
    let two : i * 2 + 2 ≤ length words = omega (arith, c.as_chunks.ensures.front_len) in
    let next : i * 2 + 2 ≡ (i + 1) * 2 = omega arith in
    let chunk = chunk_in words c.as_chunks.result.0.now (length words / 2) i c.as_chunks.ensures.front (omega (arith, c.as_chunks.ensures.front_len)) in
    ap (λ n. is_list c.args.a c.args.b (drop n words)) (sym next)
    ∙ sym (chunk_passed words (i * 2) c.args.a c.args.b _ chunk two (sym c.is_call.ensures ∙ c.if-not-is_call.false))
    ∙ c.loop-call.invariant

pub returns : goal.returns
returns c =
    let words = c.args.words.now in
    let i = c.loop-call.call-index in
    let left = length c.as_chunks.result.1.now in
    let whole : length words ≡ i * 2 + left = omega (arith, c.as_chunks.ensures.front_len, c.as_chunks.ensures.back_len) in
    let few : left < 2 = omega (arith, c.as_chunks.ensures.back_len) in
    c.is_empty.ensures ∙ sym (list_last words (i * 2) c.args.a c.args.b left whole few) ∙ c.loop-call.invariant
