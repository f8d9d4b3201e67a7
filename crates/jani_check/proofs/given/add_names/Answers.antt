use Rattle.std.proofs.Common.{refl}
use Rattle.op_trees.specs.Names.{is_called}
use Rattle.name_rules.specs.Names.{has_name, named_by}
use Rattle.name_rules.proofs.Clashes.{no_entry}
use Rattle.name_rules.proofs.Maps.{none_in, one_in}
use Rattle.jani_check.proofs.given.add_names.Goals as goal

pub loop-n-preserved : goal.loop-n-preserved
loop-n-preserved c =
    one_in named_by (λ n x. is_called x n) (has_name c.loop-n.earlier) (has_name c.add.new.self) _ c.args.given.now c.loop-n.n-index no_entry _
    c.loop-n-test.true refl c.in_ok-add.ensures c.loop-n.invariant

pub returns : goal.returns
returns c =
    none_in named_by (λ n x. is_called x n) (has_name c.loop-n.earlier) c.args.given.now c.loop-n.n-index _ c.loop-n-test.false c.loop-n.invariant
