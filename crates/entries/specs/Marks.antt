-- The marks of the entries of a group.
use Rattle.std.specs.Prelude.{Bool, true, false}
use Rattle.entries.specs.declared.Mark.{Mark}
use Rattle.entries.specs.declared.Mark.TheVariants.{Live, Consumed, Widened, Rewritten}
use Rattle.entries.specs.declared.Entry.{Entry}

-- an entry without a term, past the end of a group
abbrev pub blank : Entry
blank = record { coeff = 0; mask = 0; atom = 0; mark = Live }

-- what is not consumed
abbrev pub not_consumed : Mark → Bool
not_consumed Live = true
not_consumed Consumed = false
not_consumed Widened = true
not_consumed Rewritten = true

-- an entry that is not consumed
unfoldable pub is_live : Entry → Bool
is_live e = not_consumed e.mark
