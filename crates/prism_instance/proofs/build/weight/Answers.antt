use Rattle.std.proofs.Common.{None, subst, sym}
use Rattle.std.specs.Option.{option_map}
use Rattle.op_trees.specs.Tree.{tree}
use Rattle.expr_store.specs.Alike.{IsMade}
use Rattle.expr_store.specs.Views.{nodes}
use Rattle.network.specs.Views.{weight_as}
use Rattle.prism_check.specs.Moment.{weight_seen}
use Rattle.prism_tree.specs.Operators.{prism_meaning}
use Rattle.prism_instance.proofs.Preparing.{made_same}
use Rattle.prism_instance.specs.Views.{places_in}
use Rattle.prism_instance.proofs.build.weight.Goals as goal

pub returns-in-None : goal.returns-in-None
returns-in-None c =
    subst (λ o. IsMade prism_meaning (places_in c.args.names.now) (nodes c.args.store.now) (nodes c.args.store.now) (λ at. weight_as (option_map at None)) (λ seen. weight_seen seen (option_map tree o))) (sym c.in-None.is)
    (made_same (places_in c.args.names.now) (nodes c.args.store.now) _)
