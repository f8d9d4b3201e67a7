use Rattle.std.proofs.Common.{◌∙◌, ap, ap₂, map, List}
use Rattle.std.specs.Prelude.{Bool}
use Rattle.prism_tree.specs.Syntax as prism
use Rattle.jani_tree.specs.Syntax as jani
use Rattle.jani_tree.specs.declared.syntax.JaniDestination.{JaniDestination}
use Rattle.prism_targets.specs.Modules.{branch}
use Rattle.module_parts.specs.Code.{file_in, names_in, element_of, is_one}
use Rattle.module_parts.proofs.Singles.{one_is_single}
use Rattle.prism_modules.proofs.commands.command.Goals as goal

pub returns : goal.returns
returns c =
    let f = file_in c.args.names.now in
    let n = names_in c.args.names.now in
    let el = element_of c.args.el.now in
    let ds = c.args.e.now.destinations in
    ap₂ {C = prism.Command} (λ g bs. record { action = c.args.action; guard = g; branches = bs }) c.in_ok-guard.ensures
    (c.in_ok-branches.ensures
    ∙ ap (λ (l : List JaniDestination). map (branch f n el (is_one l)) (map jani.destination_of l)) c.as_slice.ensures
    ∙ ap (λ (b : Bool). map (branch f n el b) (map jani.destination_of ds)) (one_is_single f n el ds))
