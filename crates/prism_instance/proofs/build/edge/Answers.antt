use Rattle.std.proofs.Common.{List, None, map, subst}
use Rattle.op_trees.specs.Seen.{Seen}
use Rattle.process_core.specs.Ready.{Ready, Update}
use Rattle.expr_store.specs.Alike.{IsMade, made_both}
use Rattle.expr_store.specs.Views.{nodes}
use Rattle.prism_tree.specs.Operators.{prism_meaning}
use Rattle.prism_tree.specs.Syntax as syntax
use Rattle.op_trees.specs.Tree.{tree}
use Rattle.prism_names.specs.Names.{see}
use Rattle.network.specs.Views.{update_at}
use Rattle.prism_instance.specs.Shapes.{update_under}
use Rattle.prism_instance.specs.Views.{columns_in, places_in}
use Rattle.prism_instance.proofs.build.edge.Goals as goal

pub returns : goal.returns
returns c =
    let places = places_in c.args.names.now in
    let cs = columns_in c.args.names.now in
    let k = c.args.command.now in
    let now = nodes c.put.new.store in
    let end = nodes c.destinations.new.store in
    let us = c.in_ok-destinations.destinations.items in
    let whole : Seen → List Update → Ready = λ s l. record { action = None; guard = s; updates = l } in
    made_both whole (λ at. at c.in_ok-guard.guard) (λ seen. see (tree k.guard) seen)
    (λ at. map (λ u. update_at cs at u) us) (λ seen. map (λ b. update_under cs seen b) (map syntax.branch_of k.branches))
    c.in_ok-guard.ensures
    (subst (λ l. IsMade prism_meaning places now end (λ at. map (λ u. update_at cs at u) us) (λ seen. map (λ b. update_under cs seen b) (map syntax.branch_of l))) c.as_slice.ensures c.in_ok-destinations.ensures)
