-- What holds of translated properties, and of their text: statements, which are proved of the functions of this crate. (This project's own
-- rule.)
use Rattle.std.specs.Prelude.{◌≡◌, ℕ, List, [], map, length, take, Bool, true, false, Option, Some, None, slice_get}
use Rattle.std.specs.List.{AllZip, AllByRecursion as Each}
use Rattle.bridge_io.specs.declared.reason.Reason.{Reason}
use Rattle.bridge_io.specs.declared.reason.Reason.TheVariants.{TooLong, BadNumber, TooDeep, TooLarge}
use Rattle.bridge_io.specs.declared.reason.Fault.{Fault}
use Rattle.op_trees.specs.Tree.{bare}
use Rattle.prism_tree.specs.Syntax as prism
use Rattle.prism_print.specs.Same.{bare_file}
use Rattle.jani_tree.specs.Syntax.{File}
use Rattle.jani_check.specs.Faults.{IsChecked}
use Rattle.jani_meaning.specs.Elements as all
use Rattle.jani_meaning.specs.Elements.{Owned}
use Rattle.name_table.specs.declared.entry.Entry.{Entry}
use Rattle.name_table.specs.Asks.{called}
use Rattle.jani_props.specs.Faults.{structures}
use Rattle.jani_props.specs.Reading.{AreOfJani}
use Rattle.prism_translation.specs.Translated.{translated}
use Rattle.prop_grammar.specs.declared.syntax.Structure.{Structure}
use Rattle.prop_grammar.specs.Syntax.{WrittenProperty}
use Rattle.prop_grammar.specs.Faults.{Spells}
use Rattle.prop_trees.specs.Trees.{JaniProperty, PrismProperty, structure_of, ask_with, path_with}
use Rattle.prop_trees.specs.PrismFaults.{structure_number, name_faults, type_faults, filed}
use Rattle.prop_trees.specs.Agree.{AllAgree}
use Rattle.prop_trees.specs.Text.{properties_text}
use Rattle.prop_check.specs.Read.{FaultsOf, AreProperties}
use Rattle.prop_to_prism.specs.ToPrism.{naming, new_names, reward_names, to_prism}

-- The properties that these are translated to agree with them, one by one, in order.
abbrev pub TranslatedAgree : Type 0
TranslatedAgree = (file : File) → IsChecked file → (ps : List JaniProperty) → AreOfJani file ps → AllAgree (translated file) (naming file) (to_prism file ps) ps

-- ---- reward structures
-- Those of the translated file have these names, in order.
abbrev pub StructuresNamed : Type 0
StructuresNamed = (file : File) → map (λ r. called r.name) (translated file).rewards ≡ map Some (reward_names file)

-- They are those of the file in order, the ones that properties number first: so a property's number is that of the structure.
abbrev pub NumberedFirst : Type 0
NumberedFirst = (file : File) → map (λ o. o.var.name.name) (take (length (structures file)) (all.structures file)) ≡ structures file

-- ---- the text
-- the property with each offset in it 0
abbrev pub bare_property : PrismProperty → PrismProperty
bare_property p = record { name = p.name; ask = ask_with bare (λ r. r) p.ask; path = path_with bare p.path }

-- What the reader of properties files finds in a text against a model, this program's limits aside: the text spells these properties, and no others;
-- they have no fault of names and of types; and as properties of the model they are these, offsets aside.
pub record IsReadAs (model : prism.File) (text : List ℕ) (qs : List PrismProperty) : Type 0 where
  pub written : List WrittenProperty
  pub spells : Spells text written
  pub only : (others : List WrittenProperty) → Spells text others → others ≡ written
  pub names : name_faults model written ≡ []
  pub types : type_faults model written ≡ []
  pub are : map (λ w. bare_property (filed model w)) written ≡ map bare_property qs

-- A query of the structure of this number: the transient variable of the JANI file that has the number, among all its structures too; the entry of
-- its new name, which stands in the query; and the structure of the model that bears this name: it has the number, too.
pub record IsOfStructure (file : File) (model : prism.File) (r : ℕ) (s : Structure) : Type 0 where
  pub transient : Owned
  pub stands : slice_get (all.structures file) r ≡ Some transient
  pub counted : slice_get (structures file) r ≡ Some transient.var.name.name
  pub entry : Entry
  pub entered : slice_get (new_names file).rewards r ≡ Some entry
  pub named : s.name ≡ Some entry.name
  pub bears : slice_get (map (λ t. called t.name) model.rewards) r ≡ Some (Some entry.name)
  pub found : structure_number model s ≡ Some r

-- so it is where a property asks for rewards, and else neither does the other
abbrev pub IfOfStructure : File → prism.File → Option ℕ → Option Structure → Type 0
IfOfStructure file model None None = Unit {0}
IfOfStructure file model (Some r) (Some s) = IsOfStructure file model r s
IfOfStructure file model r s = ⊥

-- this program's own limits on what it reads: of the bytes of a name, of a number, of the tokens of an expression, of the size of all
abbrev pub is_limit : Reason → Bool
is_limit TooLong = true
is_limit BadNumber = true
is_limit TooDeep = true
is_limit TooLarge = true
is_limit r = false

-- Against each tree of the model that the file is translated to, whatever its places, the text is read as the translated properties, one by one, in
-- order, and each query of rewards names the structure that is meant. So whatever the reader makes of the text is these; and if it refuses the text,
-- a limit is passed: it finds no other fault.
pub record IsReadBack (file : File) (ps : List JaniProperty) (model : prism.File) (text : List ℕ) : Type 0 where
  pub read : IsReadAs model text (to_prism file ps)
  pub structures : AllZip (λ p w. IfOfStructure file model (structure_of p.ask) (structure_of w.ask)) ps read.written
  pub reads : (qs : List PrismProperty) → AreProperties text model qs → map bare_property qs ≡ map bare_property (to_prism file ps)
  pub limits : (fs : List Fault) → FaultsOf text model fs → Each (λ f. is_limit f.reason ≡ true) fs

abbrev pub ReadsBack : File → List JaniProperty → List ℕ → Type 0
ReadsBack file ps text = (model : prism.File) → bare_file model ≡ bare_file (translated file) → IsReadBack file ps model text

-- So it is with the canonical text of translated properties.
abbrev pub TextReadBack : Type 0
TextReadBack = (file : File) → IsChecked file → (ps : List JaniProperty) → AreOfJani file ps → ReadsBack file ps (properties_text (reward_names file) (to_prism file ps))

-- ---- what the call promises
-- The text is the canonical one of the translation, which agrees with the properties; and it is read back as the translation.
pub record AreWrittenAs (file : File) (ps : List JaniProperty) (text : List ℕ) : Type 0 where
  pub same : text ≡ properties_text (reward_names file) (to_prism file ps)
  pub agree : AllAgree (translated file) (naming file) (to_prism file ps) ps
  pub back : ReadsBack file ps text
