-- Comment lines that are certain to stand.
use Rattle.std.specs.Prelude.{ℕ, List, ◌++◌, codes, map, Option, Some}
use Rattle.std.specs.List.{flat_map}
use Rattle.process_core.specs.Ready.{Name}
use Rattle.decimal_json.specs.Text.{quoted}
use Rattle.jani_tree.specs.Syntax.{Location, File, element_names}
use Rattle.jani_meaning.specs.Elements.{Owned}
use Rattle.name_table.specs.PrismAsks.{NewNames}
use Rattle.prism_translation.specs.Elements.{Element}
use Rattle.prism_translation.specs.Lines.{space, old_text, joined, name_lines, location_line, called}
use Rattle.prism_translation.specs.Targets.{old_name_by}
use Rattle.prism_targets.specs.declared.targets.Target.{Target}
use Rattle.jani_to_prism.specs.Asks.{vector_in}

-- that of a made name
abbrev pub made_line : List ℕ → Name → Option Name → List ℕ
made_line what name old = codes "// " ++ (what ++ (space ++ (name ++ (space ++ old_text old))))

-- that of an element with several locations
abbrev pub several_line : Name → List Location → List ℕ
several_line name locations = codes "// location " ++ (name ++ (space ++ (codes "[" ++ (joined (map (λ l. quoted l.name.name) locations) ++ codes "]"))))

-- the old name of a target
abbrev pub old_of : Target → Option Name
old_of t = old_name_by (vector_in t)

-- ---- lines in the order of the entries
-- those of constants, variables and elements with several locations
abbrev pub value_lines : NewNames → File → List Owned → List Element → List (List ℕ)
value_lines names file vars els =
    name_lines (codes "constant") names.constants (map (λ c. Some c.name.name) file.constants)
    ++ (name_lines (codes "variable") names.variables (map called vars) ++ flat_map (location_line names) els)

-- those of modules and actions
abbrev pub moving_lines : NewNames → File → List (Option Name) → List (List ℕ)
moving_lines names file olds =
    name_lines (codes "module") names.modules (map (λ n. Some n.name) (element_names file)) ++ name_lines (codes "action") names.actions olds

-- those of labels and reward structures
abbrev pub mark_lines : NewNames → List Owned → List Owned → List (List ℕ)
mark_lines names labels structures =
    name_lines (codes "label") names.labels (map called labels) ++ name_lines (codes "reward") names.rewards (map called structures)
