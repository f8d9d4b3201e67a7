use Rattle.std.specs.Prelude.{map}
use Rattle.std.proofs.Common.{◌∙◌, refl, sym, ap, subst}
use Rattle.jani_tree.specs.Syntax.{file_of}
use Rattle.prop_trees.specs.Syntax.{jani_property_of}
use Rattle.jani_props.specs.Model.{numbers_of, things_of}
use Rattle.jani_props.specs.Reading.{AreRead}
use Rattle.jani_props.specs.Syntax.{written_of}
use Rattle.jani_props.proofs.Filed.{all_read}
use Rattle.jani_props.proofs.Refusing.{shape_clean, meaning_as, filed_as, meaning_first, meaning_none}
use Rattle.jani_props.proofs.read.read_by.Goals as goal

pub properties-requires : goal.properties-requires
properties-requires c = shape_clean (file_of c.args.file.now) c.requires.shape

pub returns-in-Some-clause-err : goal.returns-in-Some-clause-err
returns-in-Some-clause-err c =
    let file = file_of c.args.file.now in
    let ps = map written_of c.in_ok-written.written.items in
    meaning_first file ps c.requires.shape c.in_ok-written.ensures c.in-Some.fault
    (
    sym
    (
    meaning_as file (things_of c.args.names.now) (numbers_of c.args.names.now) (map written_of c.deref.result.now) ps c.requires.things c.requires.numbers
    (ap (map written_of) c.deref.ensures.value) c.in_ok-least.least c.in_ok-least.ensures
    )
    ∙ c.in-Some.is
    )

pub returns-in_ok-list-in-None-clause-ok : goal.returns-in_ok-list-in-None-clause-ok
returns-in_ok-list-in-None-clause-ok c =
    let file = file_of c.args.file.now in
    let ps = map written_of c.in_ok-written.written.items in
    let none =
    meaning_none file ps
    (
    sym
    (
    meaning_as file (things_of c.args.names.now) (numbers_of c.args.names.now) (map written_of c.deref.result.now) ps c.requires.things c.requires.numbers
    (ap (map written_of) c.deref.ensures.value) c.in_ok-least.least c.in_ok-least.ensures
    )
    ∙ c.in-None.is
    ) in
    subst (AreRead file)
    (
    filed_as file (things_of c.args.names.now) (numbers_of c.args.names.now) ps ps c.requires.things c.requires.numbers refl
    (map jani_property_of c.in_ok-list-in-None.list) c.in_ok-list-in-None.ensures
    )
    (all_read file c.requires.checked ps c.requires.shape c.in_ok-written.ensures none.0 none.1)
