use Rattle.std.specs.Prelude.{map}
use Rattle.std.specs.Option.{option_map, option_or}
use Rattle.std.proofs.Common.{◌∙◌, ap, ap₂}
use Rattle.jani_tree.specs.Syntax.{const_of, var_of}
use Rattle.name_rules.proofs.Maps.{at}
use Rattle.jani_check.specs.Scopes.{const_in}
use Rattle.jani_check.specs.Things.{const_thing, var_called, var_thing}
use Rattle.jani_check.proofs.things.Things.global.Goals as goal

pub returns : goal.returns
returns c = λ x.
    c.in_ok-add_vars.ensures x
    ∙ ap (λ o. option_or o (option_map var_thing (var_called (map var_of c.as_slice-2.result.now) x)))
    (c.in_ok-add_constants.ensures x ∙ ap (λ o. option_or o (option_map const_thing (const_in (map const_of c.as_slice.result.now) x))) (at c.new-first.ensures x))
    ∙ ap₂ (λ cs vs. option_or (option_map const_thing (const_in (map const_of cs) x)) (option_map var_thing (var_called (map var_of vs) x))) c.as_slice.ensures c.as_slice-2.ensures
