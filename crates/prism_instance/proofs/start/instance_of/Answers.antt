use Rattle.std.proofs.Common.{◌≡◌, ◌∙◌, sym, ap, map, length}
use Rattle.std.proofs.lemmas.List.{length-map}
use Rattle.basics.specs.Options.{is_some-map}
use Rattle.op_trees.specs.Tree.{tree}
use Rattle.process_core.specs.Instance.{Column}
use Rattle.process_core.specs.Ready.{Name, Values}
use Rattle.prism_check.specs.Moment.{value_in}
use Rattle.prism_check.specs.Scene.{constant, has_condition}
use Rattle.prism_tree.specs.Syntax.{rewards_of}
use Rattle.instance_start.specs.Columns.{column_of, value_at}
use Rattle.instance_start.specs.Given.{given_by}
use Rattle.name_rules.specs.Names.{under}
use Rattle.expr_store.specs.Views.{nodes}
use Rattle.prism_instance.specs.Places.{constant_place}
use Rattle.prism_instance.proofs.Built.{label_count}
use Rattle.prism_instance.proofs.Combined.{sound_is}
use Rattle.prism_instance.proofs.StartLaws.{values_are}
use Rattle.prism_instance.proofs.Whole.{names_are}
use Rattle.prism_instance.proofs.start.instance_of.Goals as goal

pub invariant_of-result : goal.invariant_of-result
invariant_of-result c = record { sound = record { faultless = c.requires.known.columns.sound; begin = c.requires.begin } }

pub invariant_of-result-2 : goal.invariant_of-result-2
invariant_of-result-2 c =
    let file = c.args.flat.now in
    let v = given_by c.args.given.now in
    let known = c.args.known in
    let fixed = c.args.fixed in
    let is = c.requires.fixed in
    let cols = known.columns.items in
    let cs = map column_of cols in
    let table = known.constants.items in
    let places = λ (x : Name). under known.places x in
    let form = c.file-file.ensures.flat.form in
    let rewards = c.file-file.result.now.rewards in
    let values = λ (s : Values) (x : Name) (l : length s ≡ length cols). ap (value_at s table) (c.requires.known.places x)
    ∙ values_are s table cs x (constant_place 0 file.constants x) (constant file v) (l ∙ sym (length-map cols column_of)) (c.requires.known.constants.names s x)
    ∙ ap (λ k. value_in k s (constant file v) x) c.requires.known.columns.columns in
    let names = λ (s : Values) (l : length s ≡ length cols). names_are file v s form (λ x. value_at s table (under known.places x)) (λ x. values s x l) in
    record {
      sound = sound_is file v _ places
          (record {
            components = is.parts.choosing.components;
            vectors = λ shared. is.parts.choosing.vectors _ shared;
            silent = is.parts.choosing.silent;
            summed = is.parts.marking.summed;
            labelled = is.parts.marking.labelled;
            condition = is.parts.marking.condition;
            counted = c.len.ensures ∙ sym (length-map rewards rewards_of) ∙ ap (λ f. length f.rewards) c.file-file.ensures.tree;
            labels = label_count file places (nodes fixed.parts.store) fixed.parts.marking is.parts.marking;
            structures = c.new.ensures.items;
            starts = c.new-2.ensures.items;
          })
          form c.requires.known.columns.columns names
          (is.texts ∙ ap (map (λ (k : Column). k.name)) c.requires.known.columns.columns)
          is.marks
          (c.is_some.ensures ∙ sym (is_some-map tree c.file-file.result.now.init) ∙ ap has_condition c.file-file.ensures.tree);
    }
