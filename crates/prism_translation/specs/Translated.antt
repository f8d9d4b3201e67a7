-- The PRISM file that a JANI file is translated to (this project's own rule; PRISM manual, "The PRISM Language").
use Rattle.std.specs.Prelude.{[], ◌∷◌, map}
use Rattle.std.specs.List.{zip}
use Rattle.prism_tree.specs.Syntax as prism
use Rattle.prism_tree.specs.Syntax.{plain}
use Rattle.process_core.specs.Instance.{numbered}
use Rattle.jani_tree.specs.Syntax.{File}
use Rattle.jani_meaning.specs.Elements.{labels, structures}
use Rattle.name_table.specs.PrismAsks.{NewNames, name_at}
use Rattle.prism_translation.specs.Elements.{elements, shared}
use Rattle.prism_translation.specs.Names.{new_names}
use Rattle.prism_translation.specs.Conditions.{condition}
use Rattle.prism_translation.specs.Parts.{constant, variable}
use Rattle.prism_translation.specs.Modules.{module_of}
use Rattle.prism_translation.specs.Marks.{label, structure}

abbrev pub translated_by : NewNames → File → prism.File
translated_by names file = record {
  constants = map (λ p. constant file names p.0 p.1.name) (zip file.constants names.constants);
  globals = map (variable file names) (shared file);
  formulas = [];
  modules = map (λ el. plain (module_of file names el)) (elements file);
  labels = map (λ p. label file names p.0 p.1.name) (zip (labels file) names.labels);
  rewards = numbered (λ j o. structure file names j o (name_at names.rewards j) ∷ []) 0 (structures file);
  init = condition file names;
  end = 0;
}

-- a JANI file translated
abbrev pub translated : File → prism.File
translated file = translated_by (new_names file) file
