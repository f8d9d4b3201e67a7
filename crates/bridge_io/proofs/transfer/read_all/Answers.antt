use Rattle.std.proofs.Common.{[], sym, subst}
use Rattle.bridge_io.specs.Outside.{Takes}
use Rattle.bridge_io.proofs.transfer.read_all.Goals as goal

pub returns-clause-ok : goal.returns-clause-ok
returns-clause-ok g c =
    let given = c.in_ok-read_into.ensures.ok in
    let same = c.bytes.ensures.stands given.0 (given.2.fed [] c.new-whole.ensures.stands) in
    subst (Takes (g.H.Shelf.left c.args.shelf.now) (g.H.Shelf.left c.read_into.new.shelf) c.args.name.now) (sym same) given.2.taken
