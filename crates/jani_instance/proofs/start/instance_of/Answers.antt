use Rattle.std.proofs.Common.{◌∙◌, map}
use Rattle.instance_start.specs.Given.{given_by}
use Rattle.jani_tree.specs.Syntax.{file_of}
use Rattle.jani_instance.specs.Actions.{actions_of}
use Rattle.jani_instance.specs.Initial.{table_in}
use Rattle.jani_instance.proofs.Whole.{condition_is, right}
use Rattle.jani_meaning.specs.LoopLaws.{element_count}
use Rattle.jani_instance.proofs.start.instance_of.Goals as goal

pub invariant_of-result : goal.invariant_of-result
invariant_of-result c =
    let file = file_of c.args.checked.now in
    let v = given_by c.args.given.now in
    let known = c.requires.known in
    let built = c.requires.built in
    let made = c.args.built.prepared in
    record {
      sound = record {
        faultless = known.columns_are.sound;
        begin = c.requires.begin;
        columns_are = known.columns_are.columns;
        elements_are = built.elements_are.count ∙ element_count file;
        labels_are = built.labels_are;
        names_are = built.names_are;
        condition_is = built.condition_is;
        condition = λ s state.
            condition_is file v actions_of made.store c.args.known.constants.items c.args.known.columns.items made.elements.items
            known.columns_are.columns known.constants_are built.elements_are.count built.elements_are.built s state
            c.args.known.places known.places_are (map table_in c.args.built.initial_locations.items) built.initial_are;
        right = λ s state.
            right file v actions_of made.store c.args.known.constants.items c.args.known.columns.items made.elements.items
            known.columns_are.columns known.constants_are built.elements_are.count built.elements_are.built s state
            c.args.built.vectors.items c.args.built.labels made.transients.items built.vectors_are built.labelling built.rewarding;
      };
    }
