use Rattle.std.specs.Prelude.{◌||◌, map}
use Rattle.std.proofs.Common.{ap, refl}
use Rattle.op_trees.specs.Names.{is_called}
use Rattle.name_rules.specs.Names.{has_name, is_among, named_by}
use Rattle.name_rules.proofs.Clashes.{no_entry}
use Rattle.name_rules.proofs.Maps.{none_in, one_in}
use Rattle.name_rules.proofs.names.NameSet.of.Goals as goal

pub loop-entry-init : goal.loop-entry-init
loop-entry-init c = ap (λ has. λ x. has x || is_among (map named_by c.args.entries.now) x) c.new-set.ensures

pub loop-entry-preserved : goal.loop-entry-preserved
loop-entry-preserved c =
    one_in named_by (λ n x. is_called x n) (has_name c.loop-entry.set) (has_name c.add.new.self) _ c.args.entries.now c.loop-entry.entry-index no_entry _
    c.loop-entry-test.true refl c.in_ok-add.ensures c.loop-entry.invariant

pub returns : goal.returns
returns c =
    none_in named_by (λ n x. is_called x n) (has_name c.loop-entry.set) c.args.entries.now c.loop-entry.entry-index _ c.loop-entry-test.false c.loop-entry.invariant
