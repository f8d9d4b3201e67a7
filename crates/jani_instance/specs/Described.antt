-- The process that a JANI file describes under a valuation, as it is seen by whoever steps it (jani-model specification, version
-- 1: "Models", "Automata", "Transient variables"). The texts of columns are this project's own rule: the location of the element
-- k is `@k`, the variable i among those that last is `#i`, both counted from 0.
use Rattle.std.specs.Prelude.{ℕ, zero, suc, ◌+◌, List, [], ◌∷◌, ◌++◌, map, length, is_none, codes}
use Rattle.std.specs.Fmt.{decimal}
use Rattle.process_core.specs.Ready.{Name}
use Rattle.process_core.specs.Instance.{Valuation, is_state, is_initial, first_values, is_wide_initial}
use Rattle.process_core.specs.Steps.{Process}
use Rattle.jani_tree.specs.Syntax.{File, element_names}
use Rattle.jani_meaning.specs.Elements.{labels, structures, lasting}
use Rattle.jani_meaning.specs.Scene.{scene}
use Rattle.jani_meaning.specs.Moment.{moment}
use Rattle.jani_meaning.specs.Process.{choices, excess, marks, has_wide_mark}
use Rattle.instance_start.specs.Description.{Description}

-- so many texts from a number on, each a mark and a number
abbrev pub texts_from : List ℕ → ℕ → ℕ → List Name
texts_from mark i zero = []
texts_from mark i (suc n) = (mark ++ decimal i) ∷ texts_from mark (i + 1) n

abbrev pub column_texts : File → List Name
column_texts file = texts_from (codes "@") 0 (length (element_names file)) ++ texts_from (codes "#") 0 (length (lasting file))

-- the labels, then the reward structures
abbrev pub mark_names : File → List Name
mark_names file = map (λ o. o.var.name.name) (labels file) ++ map (λ o. o.var.name.name) (structures file)

abbrev pub described : File → Valuation → Process
described file v = record {
  columns = column_texts file;
  mark_names = mark_names file;
  labels = length (labels file);
  is_state = is_state (scene file v).columns;
  is_initial = λ s. is_initial (scene file v).columns (moment file v s).condition s;
  has_wide_initial = λ s. is_wide_initial (scene file v).columns (moment file v s).condition s;
  has_condition = (scene file v).has_condition;
  first = first_values (scene file v);
  choices = λ s. choices (moment file v s) s;
  excess = λ s. excess (moment file v s);
  marks = λ s. marks (moment file v s);
  has_wide_mark = λ s. has_wide_mark (moment file v s);
}

abbrev pub jani_description : File → Description
jani_description file = record {
  constants = map (λ c. record { name = c.name.name; ty = c.ty; is_open = is_none c.value }) file.constants;
  scene = scene file;
  process = described file;
}
