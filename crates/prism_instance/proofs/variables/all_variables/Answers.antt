use Rattle.std.proofs.Common.{◌+◌, ◌++◌, ◌∙◌, ap, map, sym, take}
use Rattle.std.specs.List.{flat_map}
use Rattle.prism_tree.specs.Syntax.{var_of, module_of}
use Rattle.gathering.proofs.Loops.{flat_seen}
use Rattle.prism_instance.specs.Variables.{own_variables, vars_of}
use Rattle.prism_instance.proofs.variables.all_variables.Goals as goal

pub loop-one-preserved : goal.loop-one-preserved
loop-one-preserved c =
    let first = map var_of c.args.file.now.globals in
    let i = c.loop-one.one-index in
    let same = c.as_slice-one-items.ensures in
    flat_seen own_variables module_of c.as_slice-one-items.result.now i c.one-item.result first (vars_of c.loop-one.all.items) (vars_of c.add_own.new.all.items)
    c.loop-one-test.true c.one-item.is (c.loop-one.invariant ∙ ap (λ ms. first ++ flat_map own_variables (map module_of (take i ms))) (sym same)) c.in_ok-add_own.ensures
    ∙ ap (λ ms. first ++ flat_map own_variables (map module_of (take (i + 1) ms))) same
