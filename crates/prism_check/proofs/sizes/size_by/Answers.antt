use Rattle.std.specs.Prelude.{◌+◌, max, List, map}
use Rattle.std.specs.List.{flat_map}
use Rattle.std.proofs.Common.{◌∙◌, ap}
use Rattle.op_trees.specs.Tree.{capped}
use Rattle.prism_tree.specs.declared.syntax.PrismModule.{PrismModule}
use Rattle.prism_tree.specs.Syntax.{file_of, module_of}
use Rattle.prism_check.specs.Counted.{size_in, nodes_in, height_in, nodes_of, highest, own_demands, copied_demands}
use Rattle.prism_check.specs.Tables.{named_module}
use Rattle.prism_check.specs.Views.{demand_by}
use Rattle.prism_check.proofs.Modular.{file_nodes, file_height}
use Rattle.prism_check.proofs.sizes.size_by.Goals as goal

pub returns-clause-nodes : goal.returns-clause-nodes
returns-clause-nodes c =
    let f = nodes_in c.args.formulas.now in
    file_nodes (file_of c.args.file.now) (size_in c.args.formulas.now) c.requires _ _ _
    (c.measure_all-outer.ensures.nodes ∙ ap (λ ds. capped (nodes_of f ds)) (ap (map demand_by) c.deref.ensures.value ∙ c.in_ok-demands.ensures))
    (c.in_ok-modules.ensures.nodes
    ∙ ap (λ (ms : List PrismModule). capped (nodes_of f (flat_map own_demands (map module_of ms)) + nodes_of f (flat_map (copied_demands (named_module ms)) (map module_of ms))))
    c.as_slice.ensures)
    c.beside.ensures.nodes

pub returns-clause-height : goal.returns-clause-height
returns-clause-height c =
    let f = height_in c.args.formulas.now in
    file_height (file_of c.args.file.now) (size_in c.args.formulas.now) c.requires _ _ _
    (c.measure_all-outer.ensures.height ∙ ap (λ ds. capped (highest f ds)) (ap (map demand_by) c.deref.ensures.value ∙ c.in_ok-demands.ensures))
    (c.in_ok-modules.ensures.height
    ∙ ap (λ (ms : List PrismModule). capped (max (highest f (flat_map own_demands (map module_of ms))) (highest f (flat_map (copied_demands (named_module ms)) (map module_of ms)))))
    c.as_slice.ensures)
    c.beside.ensures.height
