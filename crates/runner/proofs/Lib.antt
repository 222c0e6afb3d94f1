-- Laws of running a list: its words, one call, the whole, and from an expression.
mod ListLaws
mod TurnLaws
mod RunLaws
mod EntryLaws
