-- What the values that the code holds stand for, and the text as it goes about it.
use Rattle.std.specs.Prelude.{◌≡◌, ℕ, List, [], ◌∷◌, ◌++◌, map, Option, Some, None, bytes_eq, if◌then◌else◌, slice_get, unwrap_or, nat_eq}
use Rattle.std.specs.List.{position}
use Rattle.jani_tree.specs.Syntax.{File}
use Rattle.op_trees.specs.Names.{is_called}
use Rattle.jani_meaning.specs.Elements.{Owned}
use Rattle.name_table.specs.declared.entry.Entry.{Entry}
use Rattle.name_rules.specs.Names.{under}
use Rattle.name_table.specs.PrismAsks.{NewNames, names_by, outside}
use Rattle.jani_images.specs.Image.{image}
use Rattle.module_parts.specs.declared.entries.Names.{Names}
use Rattle.module_parts.specs.Code.{file_in, value_in}
use Rattle.prop_trees.specs.Trees.{Name, JaniProperty, ask_with, path_with}
use Rattle.prop_trees.specs.Names.{quoted, initial_name, deadlock_name}
use Rattle.prop_to_prism.specs.declared.names.PropertyNames.{PropertyNames}
use Rattle.prop_trees.specs.Text.{plain_name, line, ask_text, path_text}
use Rattle.prop_to_prism.specs.ToPrism.{new_property_name}

-- the names of entries
abbrev pub names_of : List Entry → List Name
names_of es = map (λ e. e.name) es

-- the text of this place, that of the empty name where there is none
abbrev pub text_at : List Name → ℕ → Name
text_at texts i = unwrap_or (slice_get texts i) (quoted [])

-- ---- names, as they are written
abbrev pub plain_given : Name → Name
plain_given x = if bytes_eq x initial_name then quoted initial_name else if bytes_eq x deadlock_name then quoted deadlock_name else []

abbrev pub label_text : List Name → Option ℕ → Name → Name
label_text texts None x = x
label_text texts (Some i) x = text_at texts i

unfoldable pub model_name_in : PropertyNames → Name → Name
model_name_in n x = label_text n.quoted.items (under n.labels x) (value_in n.values.now (outside (file_in n.values.now)) x)

unfoldable pub name_in : PropertyNames → Name → Name
name_in n [] = []
name_in n (b ∷ x) = if nat_eq b 46 then model_name_in n x else plain_given (b ∷ x)

-- the numbers are those of these labels, and the texts are those of their new names
pub record IsReadyFor (n : PropertyNames) (values : Names) (owned : List Owned) : Type 0 where
  pub same : n.values.now ≡ values
  pub numbers : (x : Name) → under n.labels x ≡ position (λ o. is_called x o.var.name) owned
  pub texts : n.quoted.items ≡ map (λ e. quoted e.name) values.entries.labels.now

-- ---- texts
abbrev pub written_property : (Name → Name) → List Name → Name → JaniProperty → List ℕ
written_property new rewards name p =
    line (Some name) (ask_text rewards (ask_with (image new) (λ i. i) p.ask)) (path_text (path_with (image new) p.path))

-- the text of a property, if it has an entry
abbrev pub at_entry : (Name → Name) → List Name → Option Entry → JaniProperty → List ℕ
at_entry new rewards None p = []
at_entry new rewards (Some e) p = written_property new rewards e.name p

abbrev pub all_written : (Name → Name) → List Name → List JaniProperty → List Entry → List ℕ
all_written new rewards [] es = []
all_written new rewards (p ∷ ps) [] = []
all_written new rewards (p ∷ ps) (e ∷ es) = written_property new rewards e.name p ++ all_written new rewards ps es

-- a name of a property under these new names of the model, as it is written
abbrev pub plain_new : File → NewNames → Name → Name
plain_new file names x = plain_name (new_property_name file names x)

-- the properties of a file under these new names, where those of the properties stand behind those of the file
abbrev pub written_by : File → NewNames → List JaniProperty → List ℕ
written_by file names ps = all_written (plain_new file names) (names_of names.rewards) ps names.actions

abbrev pub text_by : File → List Entry → List JaniProperty → List ℕ
text_by file es ps = written_by file (names_by file es) ps
