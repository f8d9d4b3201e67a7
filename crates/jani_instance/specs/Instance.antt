-- The process that an instance is, and the groups of combinations that it has at a state.
-- (This project's own rule.)
use Rattle.std.specs.Prelude.{List, map}
use Rattle.process_core.specs.Steps.{Process}
use Rattle.state_choices.specs.Groups.{Group}
use Rattle.state_choices.specs.Views as choices
use Rattle.jani_tree.specs.Syntax.{file_of}
use Rattle.instance_start.specs.Given.{given_by}
use Rattle.jani_instance.specs.Described.{described}
use Rattle.jani_instance.specs.Views.{groups_of, member_of}
use Rattle.jani_instance.specs.declared.data.EvaluatedElements.{EvaluatedElements}
use Rattle.jani_instance.specs.declared.instance.JaniInstance.{JaniInstance}

abbrev pub process_of : JaniInstance → Process
process_of i = described (file_of i.checked.now) (given_by i.given.now)

-- from what they come out as there
abbrev pub groups_at : JaniInstance → EvaluatedElements → List Group
groups_at i e = groups_of (map choices.sum_of e.rewards) (map member_of e.members.items) i.vectors.items
