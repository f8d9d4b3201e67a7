-- The parts of a translated file under its new names.
use Rattle.std.specs.Prelude.{List, [], ◌∷◌, map}
use Rattle.std.specs.List.{zip}
use Rattle.prism_tree.specs.Syntax as prism
use Rattle.prism_tree.specs.Syntax.{plain}
use Rattle.jani_tree.specs.Syntax.{File}
use Rattle.jani_meaning.specs.Elements as jani
use Rattle.process_core.specs.Instance.{numbered}
use Rattle.name_table.specs.PrismAsks.{NewNames, name_at}
use Rattle.prism_translation.specs.Elements.{elements, shared}
use Rattle.prism_translation.specs.Parts.{constant, variable}
use Rattle.prism_translation.specs.Modules.{module_of}
use Rattle.prism_translation.specs.Marks.{label, structure}

module _ (file : File) (names : NewNames) where
  abbrev pub constants_in : List prism.Const
  constants_in = map (λ p. constant file names p.0 p.1.name) (zip file.constants names.constants)

  abbrev pub globals_in : List prism.Var
  globals_in = map (variable file names) (shared file)

  abbrev pub modules_in : List prism.Module
  modules_in = map (λ el. plain (module_of file names el)) (elements file)

  abbrev pub labels_in : List prism.Label
  labels_in = map (λ p. label file names p.0 p.1.name) (zip (jani.labels file) names.labels)

  abbrev pub rewards_in : List prism.Rewards
  rewards_in = numbered (λ j o. structure file names j o (name_at names.rewards j) ∷ []) 0 (jani.structures file)
