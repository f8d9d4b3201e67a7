-- The comment lines before a translated file, which tell the old names of things (this project's own rule).
use Rattle.std.specs.Prelude.{ℕ, List, [], ◌∷◌, ◌++◌, map, codes, not, Option, Some, None}
use Rattle.std.specs.List.{flat_map, zip}
use Rattle.decimal_json.specs.Text.{quoted}
use Rattle.process_core.specs.Ready.{Name}
use Rattle.process_core.specs.Instance.{only_if}
use Rattle.jani_tree.specs.Syntax.{File, element_names}
use Rattle.jani_meaning.specs.Elements.{Owned, lasting, labels, structures}
use Rattle.name_table.specs.declared.entry.Entry.{Entry}
use Rattle.name_table.specs.PrismAsks.{NewNames, name_at}
use Rattle.prism_translation.specs.Elements.{Element, elements, has_several}
use Rattle.prism_translation.specs.Targets.{targets, old_name}
use Rattle.prism_translation.specs.Names.{new_names}

abbrev pub space : List ℕ
space = codes " "

-- a JSON string, or that there was no name
abbrev pub old_text : Option Name → List ℕ
old_text None = codes "none"
old_text (Some x) = quoted x

-- of a made name: what it names, the name, and the old one; a name that was kept has no line
abbrev pub name_line : List ℕ → Entry → Option Name → List (List ℕ)
name_line what e old = only_if (not e.kept) (codes "// " ++ (what ++ (space ++ (e.name ++ (space ++ old_text old)))))

abbrev pub name_lines : List ℕ → List Entry → List (Option Name) → List (List ℕ)
name_lines what es olds = flat_map (λ p. name_line what p.0 p.1) (zip es olds)

-- the names of an element's locations, as a JSON list
abbrev pub joined : List (List ℕ) → List ℕ
joined [] = []
joined (x ∷ []) = x
joined (x ∷ y ∷ ys) = x ++ (codes "," ++ joined (y ∷ ys))

abbrev pub location_line : NewNames → Element → List (List ℕ)
location_line names el =
    only_if (has_several el)
    (codes "// location " ++ (name_at names.locations el.number ++ (space ++ (codes "[" ++ (joined (map (λ l. quoted l.name.name) el.automaton.locations) ++ codes "]")))))

abbrev pub called : Owned → Option Name
called o = Some o.var.name.name

-- in the order of the entries
abbrev pub lines_by : NewNames → File → List (List ℕ)
lines_by names file =
    name_lines (codes "constant") names.constants (map (λ c. Some c.name.name) file.constants)
    ++ (name_lines (codes "variable") names.variables (map called (lasting file))
    ++ (flat_map (location_line names) (elements file)
    ++ (name_lines (codes "module") names.modules (map (λ n. Some n.name) (element_names file))
    ++ (name_lines (codes "action") names.actions (map old_name (targets file))
    ++ (name_lines (codes "label") names.labels (map called (labels file))
    ++ name_lines (codes "reward") names.rewards (map called (structures file)))))))

abbrev pub lines : File → List (List ℕ)
lines file = lines_by (new_names file) file
