-- What locations give to transient variables, as the code gathers it.
use Rattle.std.specs.Prelude.{◌≡◌, ℕ, List, [], map, Option, Some, None, slice_get, if◌then◌else◌}
use Rattle.std.specs.List.{flat_map, AllZip}
use Rattle.op_trees.specs.Tree.{Three, tree}
use Rattle.process_core.specs.Ready.{Name}
use Rattle.prism_tree.specs.declared.operator.PrismOp.TheVariants.{Ite}
use Rattle.prism_tree.specs.Syntax as prism
use Rattle.jani_tree.specs.Syntax.{Write, File}
use Rattle.jani_meaning.specs.Elements.{Owned}
use Rattle.name_table.specs.PrismAsks.{NewNames}
use Rattle.prism_translation.specs.Elements.{Element, has_several}
use Rattle.prism_translation.specs.Parts.{is_there}
use Rattle.prism_translation.specs.Marks.{Given, given_by, given_image}
use Rattle.jani_to_prism.specs.declared.given.Given.{Given as CodeGiven}
use Rattle.jani_to_prism.specs.declared.given.GivenTable.{GivenTable}
use Rattle.gathering.specs.declared.name_lists.NameLists.{NameLists}
use Rattle.gathering.specs.Lists.{list_under}
use Rattle.prism_modules.specs.Code.{element_of}

abbrev pub given_of : CodeGiven → Given
given_of g = record { element = element_of g.element.now; location = g.location; value = tree g.value.now }

-- a value that the location of this number gives
abbrev pub given_with : Element → ℕ → Write → Given
given_with el i w = record { element = el; location = i; value = w.value }

-- the list for a name has what the locations of an element give
abbrev pub GivesOf : NameLists CodeGiven → Element → Type 0
GivesOf t el = (x : Name) → map given_of (list_under t x) ≡ given_by x el

-- the list for a name, where there are lists
abbrev pub list_at : {X : Type 0} → Option (NameLists X) → Name → List X
list_at None x = []
list_at (Some t) x = list_under t x

-- what may give something to a variable with this owner
abbrev pub lists_in : GivenTable → Option ℕ → Option (NameLists CodeGiven)
lists_in t None = Some t.all
lists_in t (Some k) = slice_get t.own.items k

-- what the table has for a variable
abbrev pub given_in : GivenTable → Owned → List CodeGiven
given_in t o = list_at (lists_in t o.owner) o.var.name.name

-- the table has what the locations of these elements give
pub record AreGiven (t : GivenTable) (els : List Element) : Type 0 where
  pub all_are : (x : Name) → map given_of (list_under t.all x) ≡ flat_map (given_by x) els
  pub own_are : AllZip GivesOf t.own.items els

-- the value of a location where the element is at it, else another
module _ (file : File) (names : NewNames) where
  abbrev pub label_step : Given → prism.Expression → prism.Expression
  label_step g other =
      if has_several g.element then Three 0 Ite (is_there file names g.element.number g.location) (given_image file names g) other
      else given_image file names g
