use Rattle.std.proofs.Common.{◌∙◌, [], ap, map, sym}
use Rattle.basics.specs.Options.{is_some-map}
use Rattle.op_trees.specs.Tree.{tree}
use Rattle.std.proofs.Math.Path.{fun_ext}
use Rattle.op_trees.specs.Seen.{known}
use Rattle.prism_tree.specs.Syntax.{const_of, file_of, Var}
use Rattle.prism_check.specs.Scene.{column, has_condition}
use Rattle.prism_check.proofs.Contents.{if_ok}
use Rattle.prism_names.specs.Names.{unchanged}
use Rattle.process_core.specs.Instance.{Column}
use Rattle.instance_start.specs.Columns.{trimmed_column, value_at}
use Rattle.prism_instance.specs.Places.{constant_place}
use Rattle.prism_instance.specs.Variables.{all_variables, vars_of}
use Rattle.prism_instance.specs.Views.{names_by}
use Rattle.prism_instance.proofs.start.known_variables.Goals as goal

pub returns : goal.returns
returns c =
    let table = c.args.table.now in
    let by = names_by c.in_ok-places.places table in
    let kept = has_condition (file_of c.args.file.now) in
    if_ok _ _
    (λ all made names h. made
    ∙ ap (λ b. map {A = Var} {B = Column} (λ x. trimmed_column (column b unchanged by x)) (vars_of c.as_slice-2.result.now)) (c.is_some.ensures ∙ sym (is_some-map tree c.args.file.now.init))
    ∙ ap (λ l. map {A = Var} {B = Column} (λ x. trimmed_column (column kept unchanged by x)) (vars_of l)) c.as_slice-2.ensures.value
    ∙ ap (map {A = Var} {B = Column} (λ x. trimmed_column (column kept unchanged by x))) c.in_ok-variables.ensures
    ∙ ap (λ n. map {A = Var} {B = Column} (λ x. trimmed_column (column kept unchanged n x)) (all_variables (file_of c.args.file.now)))
    (fun_ext (λ x. ap (λ p. known (value_at [] table p)) (c.in_ok-places.ensures x ∙ ap (λ l. constant_place 0 (map const_of l) x) c.as_slice.ensures) ∙ h x)))
    c.variables_by.result c.variables_by.ensures
