-- What the code's values stand for.
use Rattle.std.specs.Prelude.{◌≡◌, ℕ, List, [], ◌∷◌, map, Option, Some, None, bytes_eq, unwrap_or, if◌then◌else◌}
use Rattle.std.specs.Borrow.{Bor}
use Rattle.std.specs.Option.{option_map}
use Rattle.std.specs.Str.{is_utf8}
use Rattle.bridge_io.specs.declared.reason.Named.{Named}
use Rattle.op_trees.specs.Walk.{Node, TruthNode, NumberNode, NameNode, OneNode, TwoNode, ThreeNode}
use Rattle.op_trees.specs.Tree.{Truth, Number, Name as At, One, Two, Three, renamed, replaced, substituted}
use Rattle.prism_tree.specs.declared.operator.PrismOp.{PrismOp}
use Rattle.prism_tree.specs.Syntax.{Expression, File}
use Rattle.prism_tree.specs.Grammar.{unquoted}
use Rattle.prism_names.specs.Flat.{flat}
use Rattle.std.specs.List.{AllByRecursion as Each}
use Rattle.prism_print.specs.Printable.{IsPrintableLabel}
use Rattle.prism_print.specs.Same.{bare_file}
use Rattle.prism_rewriter.specs.declared.bodies.BodyTable.{BodyTable}
use Rattle.prism_rewriter.specs.Tables.{body_in}
use Rattle.jani_table.specs.Node as json
use Rattle.jani_tree.specs.Syntax as jani
use Rattle.name_table.specs.declared.entry.Entry.{Entry}
use Rattle.name_rules.specs.declared.map.NameMap.{NameMap}
use Rattle.name_rules.specs.Names.{under}
use Rattle.prism_images.specs.Image.{image}
use Rattle.prop_grammar.specs.Grammar.{has_quotes}
use Rattle.prop_trees.specs.Trees.{Name, PrismProperty, JaniProperty, ask_with, path_with}
use Rattle.prop_trees.specs.Names.{marked, Meant, of_model, is_initial, is_deadlock, nothing, meant}
use Rattle.prop_grammar.specs.Property.{Ask, Path}
use Rattle.prop_trees.specs.JaniText.{key, bound_member, property_node}
use Rattle.prop_to_jani.specs.declared.expressions.Translator.{Translator}
use Rattle.prop_to_jani.specs.declared.names.PropertyNames.{PropertyNames}

-- a member whose key stands at offset 0
abbrev pub member : Name → json.Node → Named × json.Node
member k v = (key k, v)

-- ---- names

-- the name of the model that a name is
abbrev pub model_part : Meant → Option Name
model_part (of_model y) = Some y
model_part is_initial = None
model_part is_deadlock = None
model_part nothing = None

-- the new name of the first old one that is this one
abbrev pub found : List Name → List Name → Name → Option Name
found [] news x = None
found (y ∷ ys) [] x = None
found (y ∷ ys) (n ∷ ns) x = if bytes_eq y x then Some n else found ys ns x

-- what stands under a name
abbrev pub new_in : NameMap (Bor Name) → Name → Option Name
new_in m x = option_map (λ n. n.now) (under m x)

-- labels are texts
abbrev pub label_in : PropertyNames → Name → Option Name
label_in n y = if is_utf8 y then new_in n.labels y else None

abbrev pub model_in : PropertyNames → Name → Name
model_in n y = unwrap_or (if has_quotes y then label_in n (unquoted y) else new_in n.values y) (marked [])

abbrev pub meant_in : PropertyNames → Name → Meant → Name
meant_in n x (of_model y) = model_in n y
meant_in n x is_initial = x
meant_in n x is_deadlock = x
meant_in n x nothing = x

-- what a name in a property becomes
abbrev pub name_in : PropertyNames → Name → Name
name_in n x = meant_in n x (meant x)

-- ---- expressions

-- one node, whose name is marked as one of the model
abbrev pub marked_node : Node PrismOp Expression → Expression
marked_node (TruthNode at b) = Truth at b
marked_node (NumberNode at d) = Number at d
marked_node (NameNode at x) = At at (marked x)
marked_node (OneNode at o a) = One at o a
marked_node (TwoNode at o a b) = Two at o a b
marked_node (ThreeNode at o a b c) = Three at o a b c

abbrev pub body_meant_in : BodyTable → Meant → Option Expression
body_meant_in t (of_model y) = option_map (renamed marked) (body_in t y)
body_meant_in t is_initial = None
body_meant_in t is_deadlock = None
body_meant_in t nothing = None

-- the body of a name in a property: that of the formula in a table, its names marked
abbrev pub marked_body_in : BodyTable → Name → Option Expression
marked_body_in t x = body_meant_in t (meant x)

-- one node, whose name is replaced by its body
abbrev pub written_node : BodyTable → Node PrismOp Expression → Expression
written_node t (TruthNode at b) = Truth at b
written_node t (NumberNode at d) = Number at d
written_node t (NameNode at x) = replaced (At at x) (marked_body_in t x)
written_node t (OneNode at o a) = One at o a
written_node t (TwoNode at o a b) = Two at o a b
written_node t (ThreeNode at o a b c) = Three at o a b c

abbrev pub translated_by : Translator → Expression → jani.Expression
translated_by t e = image (name_in t.names.now) (substituted (marked_body_in t.bodies.now) e)

-- ---- properties

-- a property whose expressions are made so, under another name
abbrev pub property_by : (Expression → jani.Expression) → PrismProperty → Name → JaniProperty
property_by f p x = record { name = Some x; ask = ask_with f (λ i. i) p.ask; path = path_with f p.path }

abbrev pub ask_by : Translator → Ask Expression ℕ → Ask jani.Expression ℕ
ask_by t a = ask_with (translated_by t) (λ i. i) a

abbrev pub path_by : Translator → Path Expression → Path jani.Expression
path_by t p = path_with (translated_by t) p

-- the member of a bound of steps
abbrev pub bound_by : Translator → Expression → Named × json.Node
bound_by t k = let m = bound_member (translated_by t k) in member m.0 m.1

-- the names of reward structures
abbrev pub reward_names_in : Translator → List Name
reward_names_in t = map (λ e. e.name) t.rewards.now

-- the value of a property under the name of its entry
abbrev pub entry_node : Translator → PrismProperty → Entry → json.Node
entry_node t p e = property_node (reward_names_in t) (property_by (translated_by t) p e.name)

-- ---- the model

-- The file is the other one written out, places aside, and its labels are texts.
pub record IsFlatOf (file written : File) : Type 0 where
  pub same : bare_file written ≡ bare_file (flat file)
  pub labels : Each IsPrintableLabel written.labels
