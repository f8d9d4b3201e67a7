use Rattle.std.proofs.Common.{Some, map, refl, sym, ap}
use Rattle.std.specs.List.{flat_map}
use Rattle.op_trees.specs.Tree.{tree}
use Rattle.expr_store.specs.Views.{nodes}
use Rattle.network.specs.Views.{first_else, giver_values, own_value}
use Rattle.prism_names.specs.Names.{see}
use Rattle.prism_instance.proofs.Preparing.{made_agree}
use Rattle.prism_instance.specs.Views.{places_in}
use Rattle.prism_instance.proofs.build.valued.Goals as goal

pub returns : goal.returns
returns c = λ s.
    made_agree (places_in c.args.names.now) (nodes c.args.store.now) (nodes c.put.new.store)
    (λ at. at c.in_ok-id.id) _ (λ seen. see (tree c.args.body.now) seen) _
    (λ at. ap (λ l. first_else (own_value at (Some c.in_ok-id.id)) (map at (flat_map (giver_values s) l))) (sym c.new.ensures.items)) (λ seen. refl) c.in_ok-id.ensures
