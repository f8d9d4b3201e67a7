use Rattle.std.proofs.Common.{map, take}
use Rattle.expr_store.specs.Alike.{IsMade}
use Rattle.expr_store.specs.Views.{nodes}
use Rattle.prism_tree.specs.Operators.{prism_meaning}
use Rattle.prism_instance.specs.Views.{places_in}
use Rattle.process_core.specs.Ready.{Values}
use Rattle.network.specs.Views.{value_by}
use Rattle.prism_names.specs.Names.{see}
use Rattle.prism_tree.specs.Syntax.{label_of}
use Rattle.prism_instance.proofs.build.labels.Given as goal

abbrev pub invariant-loop-label : goal.invariant-loop-label
invariant-loop-label l =
    (s : Values) → IsMade prism_meaning (places_in l.names) (nodes l.fn.store) (nodes l.store) (λ at. map (λ x. value_by at s x) l.all.items)
    (λ seen. map (λ x. see x.body seen) (map (label_of) (take l.label-index l.labels)))
