-- The process that a PRISM file describes under a valuation, as it is seen by whoever steps it (PRISM manual, "The PRISM
-- Language": "Modules And Variables", "Formulas and Labels", "Costs and Rewards").
use Rattle.std.specs.Prelude.{◌≡◌, List, [], map, length, ◌++◌, Option, Some, None, is_none}
use Rattle.bridge_io.specs.declared.reason.Named.{Named}
use Rattle.process_core.specs.Ready.{Name}
use Rattle.process_core.specs.Instance.{Valuation, is_state, is_initial, first_values, is_wide_initial}
use Rattle.instance_start.specs.Description.{Constant, Description}
use Rattle.prism_tree.specs.Syntax.{Const, File}
use Rattle.prism_names.specs.Flat.{flat}
use Rattle.prism_print.specs.Same.{bare_file}
use Rattle.prism_flat.specs.Scene.{scene}
use Rattle.prism_flat.specs.Moment.{moment}
use Rattle.prism_flat.specs.Process.{choices, excess, marks, has_wide_mark}
use Rattle.process_core.specs.Steps.{Process}

-- the name of a reward structure, empty where it has none
abbrev pub structure_name : Option Named → Name
structure_name None = []
structure_name (Some n) = n.name

-- the labels, then the reward structures
abbrev pub mark_names : File → List Name
mark_names file = map (λ l. l.name.name) file.labels ++ map (λ r. structure_name r.name) file.rewards

abbrev pub described : File → Valuation → Process
described file v = record {
  columns = map (λ c. c.name) (scene file v).columns;
  mark_names = mark_names file;
  labels = length file.labels;
  is_state = is_state (scene file v).columns;
  is_initial = λ s. is_initial (scene file v).columns (moment file v s).condition s;
  has_wide_initial = λ s. is_wide_initial (scene file v).columns (moment file v s).condition s;
  has_condition = (scene file v).has_condition;
  first = first_values (scene file v);
  choices = λ s. choices (moment file v s) s;
  excess = λ s. excess (moment file v s);
  marks = λ s. marks (moment file v s);
  has_wide_mark = λ s. has_wide_mark (moment file v s);
}

abbrev pub opened : Const → Constant
opened c = record { name = c.name.name; ty = c.ty; is_open = is_none c.value }

-- its constants, of which those without a value are left open, and what it comes out as and describes under a valuation
abbrev pub prism_description : File → Description
prism_description file = record {
  constants = map opened file.constants;
  scene = scene file;
  process = described file;
}

-- a file that is another one written out, but for the places that their trees keep, is described as that one
abbrev pub DescribedAlike : Type 0
DescribedAlike = (f g : File) → bare_file f ≡ bare_file (flat g) → prism_description f ≡ prism_description g
