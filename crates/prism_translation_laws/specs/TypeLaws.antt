-- What holds of the types of every PRISM file that a JANI file is translated to, and of what its commands write (PRISM manual,
-- "The PRISM Language": "Expressions", "Constants", "Modules and Variables", "Commands", "Global Variables"; what the names of
-- an element stand for: jani-model specification, version 1, "Variables", "Automata"): statements, which are proved of the
-- functions of this crate. The JANI file has no fault; of what is written in modules it is asked, too, that no command with an
-- action would have to write a global variable (reason 34).
use Rattle.std.specs.Prelude.{◌≡◌, ℕ, List, [], Bool, true, false, Some, is_some, slice_get, unwrap_or}
use Rattle.std.specs.List.{flat_map, All}
use Rattle.std.specs.Option.{option_map}
use Rattle.op_trees.specs.declared.tree.Ty.{Ty}
use Rattle.op_trees.specs.Tree.{AllNames}
use Rattle.op_trees.specs.Types.{Types, type_in}
use Rattle.process_core.specs.Ready.{Name}
use Rattle.prism_tree.specs.Operators.{prism_meaning}
use Rattle.prism_tree.specs.Syntax as prism
use Rattle.prism_tree.specs.Syntax.{plain}
use Rattle.prism_names.specs.Names.{part_of}
use Rattle.prism_check.specs.Demands.{outer_demands, part_demands}
use Rattle.prism_check.specs.TypeFaults.{types, is_variable, target, write_faults, demand_faults, repeated_writes, type_faults}
use Rattle.jani_table.specs.Operators.{jani_meaning}
use Rattle.jani_tree.specs.Syntax.{Expression, Var, File}
use Rattle.jani_check.specs.Things.{global_thing, beside, types_by, is_constant, is_transient}
use Rattle.jani_check.specs.Faults.{IsChecked}
use Rattle.jani_meaning.specs.Elements as jani
use Rattle.name_table.specs.PrismAsks.{value_name}
use Rattle.jani_images.specs.Image.{image}
use Rattle.prism_translation.specs.Elements.{elements}
use Rattle.prism_translation.specs.Names.{new_names}
use Rattle.prism_translation.specs.Modules.{module_of, commands}
use Rattle.prism_translation.specs.Translated.{translated}
use Rattle.prism_translation.specs.Refused.{shared_faults}

-- ---- expressions
-- where each new name has the type of its old name, an image has the type of its expression
abbrev pub ImageTypedAlike : Type 0
ImageTypedAlike = (new : Name → Name) (e : Expression) (old types : Types) → AllNames (λ x. types (new x) ≡ old x) e →
    type_in prism_meaning types (image new e) ≡ type_in jani_meaning old e

-- ---- what names stand for
-- the own variables of the element of this number; outside of elements there are none
abbrev pub own_variables : File → ℕ → List Var
own_variables file k = unwrap_or (option_map (λ a. a.variables) (slice_get (jani.elements file) k)) []

-- what names stand for in that element: their types, which are constants', and which are transient variables'
abbrev pub types_in : File → ℕ → Types
types_in file k = types_by (beside (global_thing file) (own_variables file k))

abbrev pub is_constant_in : File → ℕ → Name → Bool
is_constant_in file k x = is_constant (beside (global_thing file) (own_variables file k) x)

abbrev pub is_transient_in : File → ℕ → Name → Bool
is_transient_in file k x = is_transient (beside (global_thing file) (own_variables file k) x)

-- a new name has the type of its old name, if that is no transient variable's
abbrev pub NamesTypedAlike : File → Type 0
NamesTypedAlike file = IsChecked file → (k : ℕ) (x : Name) (t : Ty) → types_in file k x ≡ Some t → is_transient_in file k x ≡ false →
    types (translated file) (value_name file (new_names file) k x) ≡ Some t

-- and the new name of a constant is no variable's
abbrev pub ConstantsStayConstant : File → Type 0
ConstantsStayConstant file = IsChecked file → (k : ℕ) (x : Name) → is_constant_in file k x ≡ true →
    is_variable (translated file) (value_name file (new_names file) k x) ≡ false

-- ---- the faults of types, list by list
-- constants, global variables, labels and reward structures have the types that are wanted, and their values and bounds name
-- no variable where none may occur
abbrev pub OuterTypesFit : File → Type 0
OuterTypesFit file = IsChecked file → flat_map (demand_faults (translated file) 0) (outer_demands (translated file)) ≡ []

-- a command writes variables of its module; one without an action may write global ones, too
abbrev pub WritesAllowed : File → prism.Command → ℕ → prism.Write → Type 0
WritesAllowed file c k w = write_faults (target (translated file) k w.name.name) (is_some c.action) w.name.at ≡ []

abbrev pub CommandsMayWrite : File → Type 0
CommandsMayWrite file = IsChecked file → shared_faults file ≡ [] →
    All (λ el. All (λ c. All (λ b. All (WritesAllowed file c el.number) b.writes) c.branches) (commands file (new_names file) el)) (elements file)

-- what stands in modules has the types that are wanted, and no command writes what it may not
abbrev pub ModuleTypesFit : File → Type 0
ModuleTypesFit file = IsChecked file → shared_faults file ≡ [] →
    All (λ el. flat_map (demand_faults (translated file) el.number) (part_demands (part_of (translated file) (plain (module_of file (new_names file) el)))) ≡ [])
    (elements file)

-- no update writes a variable twice
abbrev pub WrittenOnce : File → Type 0
WrittenOnce file = IsChecked file → All (λ el. flat_map repeated_writes (commands file (new_names file) el) ≡ []) (elements file)

-- ---- all of them
abbrev pub NoTypeFault : File → Type 0
NoTypeFault file = IsChecked file → shared_faults file ≡ [] → type_faults (translated file) ≡ []
