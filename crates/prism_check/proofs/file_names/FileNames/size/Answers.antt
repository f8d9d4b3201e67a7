use Rattle.std.specs.Prelude.{◌≡◌, length}
use Rattle.std.proofs.Common.{◌∙◌, ap}
use Rattle.op_trees.specs.Tree.{capped, tree}
use Rattle.op_trees.specs.SeenLaws.{names_all}
use Rattle.prism_flat.specs.Names.{formula_body}
use Rattle.prism_flat.specs.Order.{whole_height, whole_nodes}
use Rattle.prism_flat.specs.Sizes.{name_height, name_nodes}
use Rattle.prism_check.specs.Checked.{Checked}
use Rattle.prism_check.specs.Counted.{height_in, nodes_in}
use Rattle.prism_check.proofs.Capping.{height_capped_on, nodes_capped_on}
use Rattle.prism_check.proofs.file_names.FileNames.size.Goals as goal

pub returns-clause-nodes : goal.returns-clause-nodes
returns-clause-nodes c =
    let e = tree c.args.e.now in
    let file = c.self.inside.checked.now.file in
    let counts = nodes_in c.self.inside.names.sizes in
    let counted = name_nodes (formula_body file) (length file.formulas) in
    c.measure.ensures.nodes
    ∙ nodes_capped_on counts counted e (names_all (λ x. counts x ≡ capped (counted x)) c.self.invariant.names.sizes.nodes e)
    ∙ ap (λ (k : Checked). capped (whole_nodes k.file e)) c.self.view_is

pub returns-clause-height : goal.returns-clause-height
returns-clause-height c =
    let e = tree c.args.e.now in
    let file = c.self.inside.checked.now.file in
    let heights = height_in c.self.inside.names.sizes in
    let measured = name_height (formula_body file) (length file.formulas) in
    c.measure.ensures.height
    ∙ height_capped_on heights measured e (names_all (λ x. heights x ≡ capped (measured x)) c.self.invariant.names.sizes.height e)
    ∙ ap (λ (k : Checked). capped (whole_height k.file e)) c.self.view_is
