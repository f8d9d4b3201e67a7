use Rattle.std.proofs.Common.{Bool, ap, sym, ◌∙◌}
use Rattle.std.specs.Prelude.{None, if◌then◌else◌}
use Rattle.std.specs.Borrow.{Bor}
use Rattle.std.specs.Option.{option_map}
use Rattle.prism_tree.specs.Grammar.{unquoted}
use Rattle.prop_trees.specs.Trees.{Name}
use Rattle.prop_to_jani.specs.Code.{new_in}
use Rattle.prop_to_jani.proofs.names.PropertyNames.label.Goals as goal

pub returns : goal.returns
returns c =
    ap (option_map (λ (n : Bor Name). n.now)) c.get.ensures
    ∙ ap (new_in c.args.self.now.labels) c.in_ok-between.ensures.0
    ∙ sym (ap (λ (b : Bool). if b then new_in c.args.self.now.labels (unquoted c.args.text.now) else None) c.in_ok-between.ensures.1)
