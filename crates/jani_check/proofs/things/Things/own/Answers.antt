use Rattle.std.specs.Prelude.{map}
use Rattle.std.specs.Option.{option_map, option_or}
use Rattle.std.proofs.Common.{◌∙◌, ap}
use Rattle.jani_tree.specs.Syntax.{var_of}
use Rattle.name_rules.proofs.Maps.{at}
use Rattle.jani_check.specs.Things.{var_called, var_thing}
use Rattle.jani_check.proofs.things.Things.own.Goals as goal

pub returns : goal.returns
returns c = λ x.
    c.in_ok-add_vars.ensures x ∙ ap (λ o. option_or o (option_map var_thing (var_called (map var_of c.args.vars.now) x))) (at c.new-first.ensures x)
