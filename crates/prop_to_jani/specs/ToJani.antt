-- The properties of a PRISM model as those of the JANI model that it is translated to (this project's own rule). Formulas are
-- written out; names are those of the model's translation, and behind the model's entries each property has one.
use Rattle.std.specs.Prelude.{List, ◌++◌, map, length, drop, Option, Some, None, if◌then◌else◌}
use Rattle.std.specs.List.{zip}
use Rattle.std.specs.Option.{option_map}
use Rattle.op_trees.specs.Tree.{written_out, renamed}
use Rattle.prism_tree.specs.Syntax.{Expression, File}
use Rattle.prism_tree.specs.Grammar.{unquoted}
use Rattle.prism_names.specs.Names.{formula_body}
use Rattle.prism_names.specs.Flat.{flat}
use Rattle.jani_table.specs.Node.{Node}
use Rattle.jani_tree.specs.Syntax as jani
use Rattle.name_table.specs.declared.class.NameClass.TheVariants.{Property as OfProperty}
use Rattle.name_table.specs.declared.class.Target.TheVariants.{Jani}
use Rattle.name_table.specs.declared.entry.Entry.{Entry}
use Rattle.name_table.specs.Entries.{Ask, entries_of}
use Rattle.name_table.specs.Asks.{asks, new_name, new_names, variables}
use Rattle.prism_images.specs.Image.{image}
use Rattle.prop_grammar.specs.Grammar.{has_quotes}
use Rattle.prop_trees.specs.Trees.{Name, PrismProperty, JaniProperty, ask_with, path_with}
use Rattle.prop_trees.specs.Names.{marked, Meant, of_model, is_initial, is_deadlock, nothing, meant}
use Rattle.prop_trees.specs.Agree.{Naming}
use Rattle.prop_trees.specs.JaniText.{properties_node}

-- ---- names; the model's formulas and copies are written out

abbrev pub label_names : File → List Name
label_names file = map (λ l. l.name.name) file.labels

-- the new name of a name of the model
abbrev pub new_model_name : File → Name → Name
new_model_name file x = if has_quotes x then new_name (label_names file) (new_names file).labels (unquoted x) else (new_names file).value x

abbrev pub new_meant : File → Name → Meant → Name
new_meant file x (of_model y) = marked (new_model_name file y)
new_meant file x is_initial = x
new_meant file x is_deadlock = x
new_meant file x nothing = x

abbrev pub new_property_name : File → Name → Name
new_property_name file x = new_meant file x (meant x)

abbrev pub paired : List Name → List Entry → List (Name × Name)
paired xs es = zip xs (map (λ e. e.name) es)

-- what a file's constants, variables and labels are called in its translation
abbrev pub naming : File → Naming
naming file = record {
  values = paired (map (λ c. c.name.name) file.constants) (new_names file).constants ++ paired (map (λ x. x.name.name) (variables file)) (new_names file).variables;
  labels = paired (label_names file) (new_names file).labels;
}

-- the names of reward structures, which stand for their numbers
abbrev pub reward_names : File → List Name
reward_names file = map (λ e. e.name) (new_names file).rewards

-- ---- expressions

-- the body of a formula, its names marked as those of the model
abbrev pub body_meant : File → Meant → Option Expression
body_meant file (of_model x) = option_map (renamed marked) (formula_body file x)
body_meant file is_initial = None
body_meant file is_deadlock = None
body_meant file nothing = None

abbrev pub body_of : File → Name → Option Expression
body_of file x = body_meant file (meant x)

-- an expression of a property with the formulas of the model written out
abbrev pub whole : File → Expression → Expression
whole file e = written_out (body_of file) (length file.formulas) e

abbrev pub translated_expression : File → Expression → jani.Expression
translated_expression file e = image (new_property_name (flat file)) (whole file e)

-- ---- properties

abbrev pub property_asks : List PrismProperty → List Ask
property_asks ps = map (λ p. (OfProperty, p.name)) ps

-- the entries of a file that is written out, and behind them those of its properties
abbrev pub all_entries : File → List PrismProperty → List Entry
all_entries file ps = entries_of Jani (asks file ++ property_asks ps)

abbrev pub property_entries : File → List PrismProperty → List Entry
property_entries file ps = drop (length (asks file)) (all_entries file ps)

-- reward structures keep their numbers
abbrev pub translated_property : File → PrismProperty → Entry → JaniProperty
translated_property file p e = record {
  name = Some e.name;
  ask = ask_with (translated_expression file) (λ i. i) p.ask;
  path = path_with (translated_expression file) p.path;
}

-- the translation of the properties of a file
abbrev pub to_jani : File → List PrismProperty → List JaniProperty
to_jani file ps = map (λ p. translated_property file p.0 p.1) (zip ps (property_entries (flat file) ps))

-- its value
abbrev pub to_jani_node : File → List PrismProperty → Node
to_jani_node file ps = properties_node (reward_names (flat file)) (to_jani file ps)
