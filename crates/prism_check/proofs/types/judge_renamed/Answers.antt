use Rattle.std.specs.Prelude.{map}
use Rattle.std.specs.Option.{option_map}
use Rattle.std.proofs.Common.{◌∙◌, ap}
use Rattle.std.proofs.lemmas.List.{length-map}
use Rattle.prism_tree.specs.Syntax.{command_of, file_of, formula_of, module_of, var_of}
use Rattle.prism_flat.proofs.Contents.{if_ok}
use Rattle.prism_check.specs.Tables.{module_under, pair_for}
use Rattle.prism_check.proofs.Renamed.{renamed_is}
use Rattle.prism_check.proofs.types.judge_renamed.Goals as goal

pub returns : goal.returns
returns c =
    let f = c.args.file.now in
    let m = c.args.m.now in
    if_ok _ _
    (λ best h. renamed_is (file_of f) (length-map f.formulas formula_of ∙ c.requires.formulas) c.args.names.now
    (record { ref_ptr = _; now = c.in_ok-renaming.renaming }) c.requires.names c.args.spot.number m
    (option_map (λ k. module_of k.now) c.called-from.result) c.args.spot.place (map var_of c.vars_in.result.now) (map command_of c.commands_in.result.now)
    c.args.before best (λ x. c.in_ok-renaming.ensures x ∙ ap (λ ps. pair_for ps x) c.as_slice.ensures) c.requires.place
    (c.called-from.ensures ∙ ap (module_under c.args.modules.now) c.as_str.ensures ∙ c.requires.modules m.from.name) c.vars_in.ensures c.commands_in.ensures h)
    c.judge_contents-judged.result c.judge_contents-judged.ensures
