-- What holds of the types of every translated file: statements, which are proved of the functions of this crate. The source
-- has no fault, and its formulas and copies are written out.
use Rattle.std.specs.Prelude.{◌≡◌, [], false}
use Rattle.std.specs.List.{flat_map}
use Rattle.process_core.specs.Ready.{Name}
use Rattle.prism_tree.specs.Syntax as prism
use Rattle.prism_check.specs.TypeFaults as source
use Rattle.prism_check.specs.Flattened.{IsFlat}
use Rattle.jani_check.specs.Things.{global_thing, beside, types_by, is_transient}
use Rattle.jani_check.specs.Demands.{automaton_demands, outer_demands}
use Rattle.jani_check.specs.TypeFaults.{is_variable, var_faults, demand_faults, repeated_writes, clashing_writes, type_faults}
use Rattle.name_table.specs.Asks.{new_names}
use Rattle.jani_translation.specs.Translated.{translated}

-- ---- what names stand for
-- a new name has the type of its old name, and where that has none, it has none
abbrev pub NamesTypedAlike : prism.File → Type 0
NamesTypedAlike file = IsFlat file → (x : Name) → types_by (global_thing (translated file)) ((new_names file).value x) ≡ source.types file x

-- where the old name is no variable's, the new one is none
abbrev pub NamesStayConstant : prism.File → Type 0
NamesStayConstant file = IsFlat file → (x : Name) → source.is_variable file x ≡ false →
    is_variable (global_thing (translated file) ((new_names file).value x)) ≡ false

-- no new name is that of a transient variable
abbrev pub NamesAreNotTransient : prism.File → Type 0
NamesAreNotTransient file = IsFlat file → (x : Name) → is_transient (global_thing (translated file) ((new_names file).value x)) ≡ false

-- ---- the faults of types, list by list
-- no variable has a kind that it may not have; this holds of every file
abbrev pub KindsFit : prism.File → Type 0
KindsFit file = flat_map var_faults (translated file).variables ≡ []

-- values and bounds of constants and variables have the types that are wanted, and name no variable
abbrev pub OuterTypesFit : prism.File → Type 0
OuterTypesFit file = IsFlat file → flat_map (demand_faults (global_thing (translated file))) (outer_demands (translated file)) ≡ []

-- guards, probabilities, and what edges and locations assign have the types that are wanted; no edge assigns to a constant,
-- and locations give values to transient variables alone
abbrev pub AutomataTypesFit : prism.File → Type 0
AutomataTypesFit file = IsFlat file →
    flat_map (λ a. flat_map (demand_faults (beside (global_thing (translated file)) a.variables)) (automaton_demands a)) (translated file).automata ≡ []

-- no location gives, and no destination of an edge assigns, two values to one variable
abbrev pub AutomataWriteOnce : prism.File → Type 0
AutomataWriteOnce file = IsFlat file → flat_map repeated_writes (translated file).automata ≡ []

-- all of them, but those of vectors two of whose participants assign one variable
abbrev pub TypesButShared : prism.File → Type 0
TypesButShared file = IsFlat file → type_faults (translated file) ≡ flat_map (clashing_writes (translated file)) (translated file).vectors

-- no two participants of a vector assign one variable
abbrev pub NoClashingWrites : prism.File → Type 0
NoClashingWrites file = IsFlat file → flat_map (clashing_writes (translated file)) (translated file).vectors ≡ []

-- ---- all of them
abbrev pub NoTypeFault : prism.File → Type 0
NoTypeFault file = IsFlat file → type_faults (translated file) ≡ []
