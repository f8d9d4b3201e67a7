use Rattle.std.proofs.Common.{◌≡◌, map, take}
use Rattle.name_rules.specs.Names.{has_name}
use Rattle.jani_automata.specs.Code.{names_in}
use Rattle.jani_automata.specs.Parts.{made}
use Rattle.jani_automata.specs.Translated.{part_if}
use Rattle.prism_to_jani.proofs.syncs.module_parts.Given as goal

abbrev pub invariant-loop-m : goal.invariant-loop-m
invariant-loop-m l = l.parts ≡ map (λ t. part_if (has_name t l.a) (made ((names_in l.names).action l.a))) (take l.m-index l.modules)
