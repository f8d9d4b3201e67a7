-- The initial condition of a translated file (this project's own rule; PRISM manual, "The PRISM Language": "Multiple Initial States";
-- jani-model specification, version 1: "Models", "Automata", on initial states).
use Rattle.std.specs.Prelude.{List, [], ◌∷◌, ◌++◌, map, Option, Some, None, if◌then◌else◌}
use Rattle.std.specs.List.{flat_map}
use Rattle.op_trees.specs.Tree.{Name as At, Two}
use Rattle.basics.specs.Options.{if_some}
use Rattle.process_core.specs.Instance.{only_if}
use Rattle.prism_tree.specs.declared.operator.PrismOp.TheVariants.{Equal, Or}
use Rattle.prism_tree.specs.Syntax as prism
use Rattle.prism_flat.specs.Joined.{joined}
use Rattle.jani_tree.specs.Syntax.{File}
use Rattle.jani_meaning.specs.Elements.{location_number}
use Rattle.jani_meaning.specs.Scene.{has_condition}
use Rattle.jani_images.specs.Image.{image}
use Rattle.name_table.specs.PrismAsks.{NewNames, name_at, outside, value_name}
use Rattle.prism_translation.specs.Elements.{Element, Lasting, elements, has_several, lasting_variables}
use Rattle.prism_translation.specs.Modules.{all_of, truth}
use Rattle.prism_translation.specs.Parts.{is_there, scope_of}

-- one of these, joined from the left; true where there is none
abbrev pub some_of : List prism.Expression → prism.Expression
some_of [] = truth
some_of (e ∷ es) = joined Or e es

module _ (file : File) (names : NewNames) where
  -- an element with several locations is at one of its initial ones
  abbrev pub places : Element → List prism.Expression
  places el = map (λ n. is_there file names el.number (location_number el.automaton n.name)) el.automaton.initial

  abbrev pub location_part : Element → List prism.Expression
  location_part el = only_if (has_several el) (some_of (places el))

  -- a variable with "initial-value" has that value
  abbrev pub start_part : Lasting → List prism.Expression
  start_part x = map (λ e. Two 0 Equal (At 0 (name_at names.variables x.number)) (image (value_name file names (scope_of file names x.owned)) e)) (if_some x.owned.var.start)

  -- "restrict-initial" holds
  abbrev pub restriction_part : List prism.Expression
  restriction_part = map (image (value_name file names (outside file))) (if_some file.restrict)

  abbrev pub condition_parts : List prism.Expression
  condition_parts = flat_map location_part (elements file) ++ (flat_map start_part (lasting_variables file) ++ restriction_part)

  abbrev pub condition : Option prism.Expression
  condition = if has_condition file then Some (all_of condition_parts) else None
