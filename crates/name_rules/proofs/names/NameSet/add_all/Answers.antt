use Rattle.std.specs.Prelude.{bytes_eq}
use Rattle.std.proofs.Common.{refl}
use Rattle.name_rules.specs.Names.{has_name}
use Rattle.name_rules.proofs.Maps.{no_str, none_in, one_in}
use Rattle.name_rules.proofs.names.NameSet.add_all.Goals as goal

pub loop-name-preserved : goal.loop-name-preserved
loop-name-preserved c =
    one_in (λ s. s.now) (λ y x. bytes_eq y x) (has_name c.loop-name.self) (has_name c.add.new.self) _ c.args.names.now c.loop-name.name-index no_str _
    c.loop-name-test.true refl c.in_ok-add.ensures c.loop-name.invariant

pub returns : goal.returns
returns c =
    none_in (λ s. s.now) (λ y x. bytes_eq y x) (has_name c.loop-name.self) c.args.names.now c.loop-name.name-index _ c.loop-name-test.false c.loop-name.invariant
