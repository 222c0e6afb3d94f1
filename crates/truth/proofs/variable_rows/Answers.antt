-- `variable_rows` meets its contract: the rows of the variable's place, or none.
use Rattle.std.proofs.Common.{refl, sym, ◌∙◌, arith, rules}
use Rattle.truth.proofs.PlaceLaws.{place_some, place_none}
use Rattle.truth.proofs.RowsLaws.{rows_none, rows_place}
use Rattle.truth.proofs.variable_rows.Goals as goal

pub returns-in-Some : goal.returns-in-Some
returns-in-Some c w p =
    let at = place_some _ _ _ (sym c.place_in.ensures ∙ c.in-Some.is) in
    rows_place 64 _ _ at.0 (λ e. absurd (omega (arith, at.1, e))) c.column.result (search rules) c.column.ensures w p

pub returns-in-None : goal.returns-in-None
returns-in-None c w p =
    rows_none 64 _ _ (sym (place_none _ _ (sym c.place_in.ensures ∙ c.in-None.is))) refl w p
