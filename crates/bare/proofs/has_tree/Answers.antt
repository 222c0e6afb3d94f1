-- `has_tree` meets its contract: another hash, or the bytes decide.
use Rattle.semilinear.proofs.ItemsLaws.{atom_room}
use Rattle.bare.proofs.SearchLaws.{tree_other, tree_same}
use Rattle.bare.proofs.has_tree.Goals as goal

pub front_word-requires : goal.front_word-requires
front_word-requires c = (atom_room _ c.requires).big

pub returns-then-front_word-hash : goal.returns-then-front_word-hash
returns-then-front_word-hash c =
    tree_same _ c.args.t.now _ c.front_word.ensures
    c.if-front_word-hash.true c.tree_span.ensures c.same_bytes.ensures

pub returns-else-front_word-hash : goal.returns-else-front_word-hash
returns-else-front_word-hash c = tree_other _ c.args.t.now _ c.front_word.ensures c.if-front_word-hash.false
