use Rattle.std.specs.Option.{option_map}
use Rattle.std.proofs.Common.{◌∙◌, ap, ap₂}
use Rattle.prop_trees.specs.Syntax.{ask_of, path_of}
use Rattle.prop_check.proofs.filing.filed_property.Goals as goal

pub returns : goal.returns
returns c =
    ap (λ n. record { name = n; ask = ask_of c.in_ok-ask.ask; path = path_of c.in_ok-path.path }) c.in_ok-name.ensures
    ∙ ap₂ (λ a p. record { name = option_map (λ n. n.name) c.args.p.now.name; ask = a; path = p }) c.in_ok-ask.ensures c.in_ok-path.ensures
