use Rattle.std.proofs.Common.{◌≡◌, map, take}
use Rattle.jani_tree.specs.Syntax.{const_of}
use Rattle.state_choices.specs.Trimmed.{computed}
use Rattle.jani_meaning.specs.Scene.{constant_seen}
use Rattle.name_rules.specs.Names.{under}
use Rattle.jani_instance.specs.Views.{seen_in}
use Rattle.jani_instance.proofs.constants.each_value.Given as goal

abbrev pub invariant-loop-constant : goal.invariant-loop-constant
invariant-loop-constant l = l.all.items ≡ map (λ c. computed (constant_seen (under l.given c.name.name) (seen_in l.run) c.value)) (map const_of (take l.constant-index l.constants))
