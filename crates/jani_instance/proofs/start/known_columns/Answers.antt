use Rattle.std.proofs.Common.{◌∙◌, ap, subst, map}
use Rattle.std.specs.Prelude.{MatchResult}
use Rattle.state_choices.specs.Trimmed.{computed}
use Rattle.state_choices.specs.Views.{seen_of}
use Rattle.instance_start.specs.Columns.{AreColumns, column_of, variable_of}
use Rattle.name_rules.specs.Names.{under}
use Rattle.instance_start.specs.Started.{FailsIn}
use Rattle.jani_tree.specs.Syntax.{const_of, file_of}
use Rattle.jani_meaning.specs.Scene.{scene}
use Rattle.jani_instance.specs.Constants.{round_of}
use Rattle.jani_instance.specs.Parts.{automaton_at, owned_at}
use Rattle.jani_instance.proofs.StartLaws.{alone_names, constants_seen, same_columns}
use Rattle.jani_instance.proofs.start.known_columns.Goals as goal

pub returns : goal.returns
returns c =
    let file = file_of c.args.file.now in
    let v = under c.args.given.now in
    let table = c.args.table.now in
    let listed = c.requires.listed in
    subst (λ cs. MatchResult c.columns.result (λ xs. AreColumns (scene file v) (map column_of xs.items)) (FailsIn cs (scene file v))) c.requires.opens
    (c.columns.ensures (scene file v) listed.condition_is
    (ap (map seen_of) (c.as_slice-in-Ok-variables_of.ensures.value ∙ c.in-Ok.ensures ∙ ap (λ l. map computed (round_of (map const_of l) v table)) c.as_slice.ensures)
    ∙ constants_seen file v table c.requires.constants)
    (ap (map variable_of) c.as_slice-in-Ok-variables_of-2.ensures
    ∙ c.in-Ok-variables_of.ensures
    ∙ same_columns _ _ _ _ _ _
    (ap (map automaton_at) c.as_slice-2.ensures.value ∙ listed.parts_are)
    (c.constants_alone-run.ensures ∙ alone_names file v c.args.listed.now.constants table listed.constants_at c.requires.constants)
    (ap (map owned_at) c.as_slice-3.ensures.value ∙ listed.kinds_are.lasting_are)))
