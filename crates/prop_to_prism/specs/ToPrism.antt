-- The properties of a JANI model as those of the PRISM model that it is translated to (this project's own rule). Names are those of the
-- model's translation, and properties have entries behind all others.
use Rattle.std.specs.Prelude.{List, [], ◌∷◌, ◌++◌, map, length, drop, Option, Some, None, is_none}
use Rattle.std.specs.List.{filter, position, zip}
use Rattle.jani_tree.specs.Syntax as jani
use Rattle.jani_tree.specs.Syntax.{Const, File}
use Rattle.op_trees.specs.Names.{is_called}
use Rattle.jani_meaning.specs.Elements.{Owned, lasting, labels}
use Rattle.name_table.specs.declared.class.NameClass.TheVariants.{Property as OfProperty}
use Rattle.name_table.specs.declared.class.Target.TheVariants.{Prism}
use Rattle.name_table.specs.declared.entry.Entry.{Entry}
use Rattle.name_table.specs.Entries.{Ask, entries_of}
use Rattle.name_table.specs.PrismAsks.{NewNames, asks, entries, names_by, name_at_some, value_name, outside}
use Rattle.prism_tree.specs.Syntax.{Expression}
use Rattle.jani_images.specs.Image.{image}
use Rattle.prop_trees.specs.Trees.{Name, PrismProperty, JaniProperty, ask_with, path_with}
use Rattle.prop_trees.specs.Names.{quoted, marked, Meant, of_model, is_initial, is_deadlock, nothing, meant}
use Rattle.prop_trees.specs.Agree.{Naming}

-- ---- names
-- under these new names of the model
module _ (file : File) (names : NewNames) where
  -- the new name of a label, a boolean transient variable
  abbrev pub label_name : Name → Option Name
  label_name x = name_at_some names.labels (position (λ o. is_called x o.var.name) (labels file))

  abbrev pub label_or : Option Name → Name → Name
  label_or (Some l) v = quoted l
  label_or None v = v

  -- a name of the model: a label has quotes; any other is a constant or a variable
  abbrev pub model_name : Name → Name
  model_name x = label_or (label_name x) (value_name file names (outside file) x)

  abbrev pub new_meant : Name → Meant → Name
  new_meant x (of_model y) = marked (model_name y)
  new_meant x is_initial = x
  new_meant x is_deadlock = x
  new_meant x nothing = x

  abbrev pub new_property_name : Name → Name
  new_property_name x = new_meant x (meant x)

-- ---- pairs of a new name and its old one
abbrev pub paired : List Const → List Entry → List (Name × Name)
paired cs es = map (λ p. (p.1.name, p.0.name.name)) (zip cs es)

-- those of the global variables among some
abbrev pub paired_global : List Owned → List Entry → List (Name × Name)
paired_global os es = map (λ p. (p.1.name, p.0.var.name.name)) (filter (λ p. is_none p.0.owner) (zip os es))

-- ---- properties
abbrev pub property_asks : List JaniProperty → List Ask
property_asks ps = map (λ p. (OfProperty, p.name)) ps

module _ (file : File) where
  -- the new names of the model
  abbrev pub new_names : NewNames
  new_names = names_by file (entries file)

  -- What the names of the translation are called in the file, of those that properties may read: constants, global variables that are not
  -- transient, and global labels.
  abbrev pub naming : Naming
  naming = record {
    values = paired file.constants new_names.constants ++ paired_global (lasting file) new_names.variables;
    labels = paired_global (labels file) new_names.labels;
  }

  -- the new names of the reward structures, which stand for their numbers
  abbrev pub reward_names : List Name
  reward_names = map (λ e. e.name) new_names.rewards

  abbrev pub translated_expression : jani.Expression → Expression
  translated_expression e = image (new_property_name file new_names) e

  -- all entries: those of the model, and behind them those of the properties
  abbrev pub all_entries : List JaniProperty → List Entry
  all_entries ps = entries_of Prism (asks file ++ property_asks ps)

  abbrev pub property_entries : List JaniProperty → List Entry
  property_entries ps = drop (length (asks file)) (all_entries ps)

  abbrev pub translated_property : JaniProperty → Entry → PrismProperty
  translated_property p e = record { name = Some e.name; ask = ask_with translated_expression (λ i. i) p.ask; path = path_with translated_expression p.path }

  abbrev pub with_entries : List JaniProperty → List Entry → List PrismProperty
  with_entries [] es = []
  with_entries (p ∷ ps) [] = []
  with_entries (p ∷ ps) (e ∷ es) = translated_property p e ∷ with_entries ps es

  -- the translation of the properties of the file
  abbrev pub to_prism : List JaniProperty → List PrismProperty
  to_prism ps = with_entries ps (property_entries ps)
