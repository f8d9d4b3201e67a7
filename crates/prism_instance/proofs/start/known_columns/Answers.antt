use Rattle.std.proofs.Common.{◌∙◌, [], sym, ap, subst, map}
use Rattle.std.specs.Prelude.{MatchResult}
use Rattle.basics.specs.Options.{is_some-map}
use Rattle.op_trees.specs.Seen.{known}
use Rattle.op_trees.specs.Tree.{tree}
use Rattle.process_core.specs.Product.{map-map}
use Rattle.prism_tree.specs.Syntax.{file_of}
use Rattle.prism_check.specs.Scene.{column, constant, constant_names, has_condition, scene}
use Rattle.prism_names.specs.Names.{unchanged}
use Rattle.state_choices.specs.Trimmed.{trimmed_seen}
use Rattle.state_choices.specs.Views.{seen_of}
use Rattle.instance_start.specs.Columns.{AreColumns, column_of, trimmed_column, variable_of}
use Rattle.instance_start.specs.Given.{given_by}
use Rattle.instance_start.specs.Started.{FailsIn}
use Rattle.prism_instance.specs.Variables.{all_variables}
use Rattle.prism_instance.proofs.StartLaws.{columns_are, narrow_trimmed}
use Rattle.prism_instance.proofs.Whole.{reads_plainly}
use Rattle.prism_instance.proofs.start.known_columns.Goals as goal

pub returns : goal.returns
returns c =
    let file = file_of c.args.file.now in
    let v = given_by c.args.given.now in
    let names = constant_names file v unchanged in
    subst (λ cs. MatchResult c.columns.result (λ xs. AreColumns (scene file v) (map column_of xs.items)) (FailsIn cs (scene file v))) c.requires.opens
    (c.columns.ensures (scene file v) (c.is_some.ensures ∙ sym (is_some-map tree c.args.file.now.init))
    (ap (map seen_of) c.as_slice.ensures.value ∙ c.in-Ok.ensures ∙ sym (narrow_trimmed c.args.table.now) ∙ ap (map trimmed_seen) c.requires.constants.values)
    (ap (map variable_of) c.as_slice-in-Ok-known_variables.ensures.value
    ∙ c.in-Ok-known_variables.ensures names (λ x. ap known (c.requires.constants.names [] x) ∙ sym (ap (λ f. f x) (reads_plainly file c.requires.flat.form.formulas (λ y. known (constant file v y)))))
    ∙ sym (map-map trimmed_column (column (has_condition file) unchanged names) (all_variables file))
    ∙ ap (map trimmed_column) (columns_are file v c.requires.flat.form)))
