use Rattle.std.specs.Prelude.{map}
use Rattle.std.proofs.Common.{arith}
use Rattle.prism_tree.specs.Syntax.{module_of}
use Rattle.prism_check.specs.Counted.{height_in, nodes_in}
use Rattle.prism_check.specs.Tables.{named_module}
use Rattle.name_rules.specs.Names.{under}
use Rattle.prism_check.proofs.Modular.{copies_height, copies_nodes}
use Rattle.prism_check.proofs.module_sizes.modules_size.Goals as goal

pub returns-clause-nodes : goal.returns-clause-nodes
returns-clause-nodes c =
    let all = c.args.all.now in
    let f = nodes_in c.args.formulas.now in
    let g = height_in c.args.formulas.now in
    let copies = copies_nodes f g (named_module all) (under c.in_ok-own.own.named) c.in_ok-own.ensures.named (map module_of all) in
    omega (arith, copies, c.in_ok-own.ensures.nodes, c.copies_size.ensures.nodes, c.beside-size.ensures.nodes)

pub returns-clause-height : goal.returns-clause-height
returns-clause-height c =
    let all = c.args.all.now in
    let f = nodes_in c.args.formulas.now in
    let g = height_in c.args.formulas.now in
    let copies = copies_height f g (named_module all) (under c.in_ok-own.own.named) c.in_ok-own.ensures.named (map module_of all) in
    omega (arith, copies, c.in_ok-own.ensures.height, c.copies_size.ensures.height, c.beside-size.ensures.height)
