use Rattle.jani_table.specs.Node.{node}
use Rattle.jani_props.specs.Clean.{IsClean, part_form}
use Rattle.jani_props.proofs.Cleaned.{part_clean}
use Rattle.jani_props.proofs.Parts.{if_there}
use Rattle.jani_props.proofs.access.optional.Goals as goal

pub returns-clause-clean : goal.returns-clause-clean
returns-clause-clean c =
    if_there (λ w. IsClean (part_form c.args.kind c.args.key) w) _ _ c.part.ensures
    (λ w e. part_clean c.args.kind c.args.key (node c.args.value.now) w c.requires.known c.requires.clean e)
