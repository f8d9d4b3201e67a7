use Rattle.std.proofs.lemmas.Result.{IfOk-weaker}
use Rattle.op_trees.specs.Tree.{tree}
use Rattle.expr_store.specs.Alike.{IsMade}
use Rattle.expr_store.specs.Nodes.{Stands}
use Rattle.expr_store.specs.Views.{nodes}
use Rattle.prism_names.specs.Names.{see}
use Rattle.prism_tree.specs.Operators.{prism_meaning}
use Rattle.prism_instance.specs.Views.{places_in}
use Rattle.prism_instance.proofs.Preparing.{seen_put}
use Rattle.prism_instance.proofs.state_names.put.Goals as goal

pub returns : goal.returns
returns c =
    let places = places_in c.args.names.now in
    let old = nodes c.args.store.now in
    let new = nodes c.put.new.self in
    IfOk-weaker c.put.result (λ id. Stands prism_meaning places new id.number (tree c.args.e.now)) (λ id. IsMade prism_meaning places old new (λ at. at id) (λ seen. see (tree c.args.e.now) seen))
    (λ id s. seen_put places old new id (tree c.args.e.now) c.put.ensures.grows s) c.put.ensures.stands
