use Rattle.std.specs.Prelude.{[], ◌++◌, map, not, if◌then◌else◌}
use Rattle.std.specs.List.{flat_map}
use Rattle.std.proofs.Common.{◌∙◌, sym, ap}
use Rattle.basics.specs.Options.{is_some-map}
use Rattle.op_trees.specs.Tree.{tree}
use Rattle.prism_tree.specs.Syntax.{file_of, module_of, var_of}
use Rattle.name_rules.specs.Least.{soonest}
use Rattle.name_rules.proofs.Append.{soonest_then}
use Rattle.prism_check.specs.NameFaults.{own_start, own_starts}
use Rattle.prism_check.proofs.starts.judge_starts.Goals as goal

pub returns : goal.returns
returns c =
    let f = file_of c.args.file.now in
    let globals = c.judge_vars-globals.ensures ∙ ap (λ xs. soonest c.args.before (flat_map own_start (map var_of xs))) c.as_slice.ensures in
    c.judge_modules.ensures
    ∙ ap (λ ms. soonest c.judge_vars-globals.result (flat_map own_starts (map module_of ms))) c.as_slice-2.ensures
    ∙ soonest_then c.args.before c.judge_vars-globals.result (flat_map own_start f.globals) (flat_map own_starts f.modules) globals
    ∙ sym (ap (λ b. soonest c.args.before (if b then flat_map own_start f.globals ++ flat_map own_starts f.modules else []))
    (is_some-map tree c.args.file.now.init ∙ c.is_none.ensures ∙ ap not c.if-is_none.false))
