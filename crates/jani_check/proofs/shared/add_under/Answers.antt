use Rattle.std.specs.Prelude.{bytes_eq}
use Rattle.gathering.specs.Lists.{list_under}
use Rattle.jani_check.specs.NameLists.{names_under}
use Rattle.jani_check.proofs.Growing.{name_added, none_under, one_under}
use Rattle.jani_check.proofs.shared.add_under.Goals as goal

pub loop-name-preserved : goal.loop-name-preserved
loop-name-preserved c = λ x.
    one_under c.args.key.now x c.args.names.now c.loop-name.name-index (names_under c.loop-name.lists x) (names_under c.add.new.self x) _ c.loop-name-test.true
    (name_added (bytes_eq c.args.key.now x) (list_under c.loop-name.lists x) (list_under c.add.new.self x) _ (c.in_ok-add.ensures x)) (c.loop-name.invariant x)

pub returns : goal.returns
returns c = λ x. none_under c.args.key.now x c.args.names.now c.loop-name.name-index (names_under c.loop-name.lists x) _ c.loop-name-test.false (c.loop-name.invariant x)
