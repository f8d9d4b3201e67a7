-- The names that the code asks for: those of targets.
use Rattle.std.specs.Prelude.{Option}
use Rattle.jani_tree.specs.Syntax.{Vector}
use Rattle.name_table.specs.declared.class.NameClass.TheVariants.{Action}
use Rattle.name_table.specs.Entries.{Ask}
use Rattle.prism_translation.specs.Targets.{old_name_by}
use Rattle.prism_targets.specs.declared.targets.Target.{Target}
use Rattle.prism_targets.specs.Code.{target_view}

-- the vector of a target
abbrev pub vector_in : Target → Option Vector
vector_in t = (target_view t).vector

-- a target of a vector asks for this one's result
abbrev pub vector_ask : Option Vector → Ask
vector_ask v = (Action, old_name_by v)
