-- The elements of a JANI file as the modules of a PRISM file (this project's own rule; PRISM manual, "The PRISM Language":
-- "Modules And Variables", "Commands", "Synchronisation"). The places that the trees keep are of no account.
use Rattle.std.specs.Prelude.{ℕ, List, [], ◌∷◌, ◌++◌, map, Bool, true, false, Option, Some, None, if◌then◌else◌}
use Rattle.std.specs.List.{fold, filter, flat_map, zip}
use Rattle.std.specs.Option.{option_map}
use Rattle.op_trees.specs.Tree.{Truth, Two}
use Rattle.basics.specs.Options.{if_some}
use Rattle.process_core.specs.Ready.{Name}
use Rattle.prism_tree.specs.declared.operator.PrismOp.TheVariants.{And}
use Rattle.prism_tree.specs.Syntax as prism
use Rattle.process_core.specs.Instance.{only_if}
use Rattle.jani_tree.specs.Syntax.{Expression, Write, Destination, Edge, File}
use Rattle.jani_meaning.specs.Elements.{location_number, lasting, place_of}
use Rattle.name_table.specs.PrismAsks.{NewNames, name_at, value_name}
use Rattle.jani_images.specs.Image.{image}
use Rattle.prism_translation.specs.Elements.{Element, has_several, Placed, placed_edges, at_home}
use Rattle.prism_translation.specs.Targets.{Target, targets, serves, serves_silently, is_blocked}
use Rattle.prism_translation.specs.Parts.{made, instead, counted, location_name, location_variable, is_there, variable}

-- ---- expressions that are made
abbrev pub truth : prism.Expression
truth = Truth 0 true

abbrev pub falsehood : prism.Expression
falsehood = Truth 0 false

-- all of these, joined from the left; true where there is none
abbrev pub all_of : List prism.Expression → prism.Expression
all_of [] = truth
all_of (e ∷ es) = fold (λ a b. Two 0 And a b) e es

-- a target with its new name
pub record Action : Type 0 where
  pub target : Target
  pub name : Name

module _ (file : File) (names : NewNames) where
  abbrev pub actions : List Action
  actions = map (λ p. record { target = p.0; name = p.1.name }) (zip (targets file) names.actions)

  module _ (el : Element) where
    -- what names in the element's expressions become
    abbrev pub new : Name → Name
    new = value_name file names el.number

    -- ---- edges
    -- the location, and the edge's guard: what is missing is left out
    abbrev pub guard : Edge → prism.Expression
    guard e =
        all_of (only_if (has_several el) (is_there file names el.number (location_number el.automaton e.location.name))
        ++ map (image new) (if_some e.guard))

    -- an assignment to a variable that is not transient
    abbrev pub write_by : Option ℕ → Write → List prism.Write
    write_by None w = []
    write_by (Some i) w = record { name = instead w.target (name_at names.variables i); value = image new w.value } ∷ []

    abbrev pub write : Write → List prism.Write
    write w = write_by (place_of (lasting file) el.number w.target.name) w

    -- the location is written first
    abbrev pub location_write : Destination → List prism.Write
    location_write d =
        only_if (has_several el) (record { name = made (location_name file names el.number); value = counted (location_number el.automaton d.location.name) })

    -- a missing probability is left out for a single destination, else it is 1
    abbrev pub weight : Bool → Option Expression → Option prism.Expression
    weight single (Some e) = Some (image new e)
    weight single None = if single then None else Some (counted 1)

    abbrev pub branch : Bool → Destination → prism.Branch
    branch single d = record { weight = weight single d.weight; writes = location_write d ++ flat_map write d.writes }

    abbrev pub is_single : List Destination → Bool
    is_single [] = false
    is_single (d ∷ []) = true
    is_single (d ∷ e ∷ ds) = false

    -- ---- commands
    -- an edge with an action, or with none
    abbrev pub command : Edge → Option Name → prism.Command
    command e a = record {
      action = option_map made a;
      guard = guard e;
      branches = map (branch (is_single e.destinations)) e.destinations;
    }

    -- one for each target that the edge serves, in the order of targets; one without action, if it serves the empty action
    abbrev pub commands_of : Placed → List prism.Command
    commands_of p =
        map (λ t. command p.edge (Some t.name)) (filter (λ t. serves file t.target p) actions)
        ++ only_if (serves_silently file p) (command p.edge None)

    -- a command that is never enabled
    abbrev pub blocking : Name → prism.Command
    blocking a = record { action = Some (made a); guard = falsehood; branches = record { weight = None; writes = [] } ∷ [] }

    -- those of the edges in order, and then one that blocks each target in which the element takes part and that no edge
    -- of it serves
    abbrev pub commands : List prism.Command
    commands =
        flat_map commands_of (placed_edges el)
        ++ map (λ t. blocking t.name) (filter (λ t. is_blocked file el t.target) actions)

    -- ---- modules: the location, where there are several, and then the variables that are at home there
    abbrev pub module_of : prism.Body
    module_of = record {
      name = made (name_at names.modules el.number);
      vars = only_if (has_several el) (location_variable file names el) ++ map (variable file names) (at_home file el.number);
      commands = commands;
    }
