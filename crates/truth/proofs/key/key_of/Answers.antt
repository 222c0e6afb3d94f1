-- `key_of` meets its contract: no key for a literal, a Shr or too many variables, else the low rows and the variables.
use Rattle.truth.proofs.KeyLaws.{key_literal, key_shr, key_vars, key_words}
use Rattle.truth.proofs.key.key_of.Goals as goal

pub returns-then-found : goal.returns-then-found
returns-then-found c = key_literal _ c.traits_of-found.ensures c.if-found.true

pub returns-then-found-2 : goal.returns-then-found-2
returns-then-found-2 c = key_shr _ c.traits_of-found.ensures c.if-found-2.true

pub returns-then-n-gt5 : goal.returns-then-n-gt5
returns-then-n-gt5 c =
    key_vars _ c.traits_of-found.ensures c.collect_vars.ensures
    c.place_of-n.ensures c.if-n-gt5.true

pub returns : goal.returns
returns c =
    key_words _ c.traits_of-found.ensures c.collect_vars.ensures
    c.place_of-n.ensures c.if-found.false c.if-found-2.false c.if-n-gt5.false
    c.rows_at.ensures c.bitmask.ensures
