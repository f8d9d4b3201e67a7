-- The expressions of a JANI file with what each has to be, and what its edges and locations assign (jani-model
-- specification, version 1: "Constants", "Variables", "Automata").
use Rattle.std.specs.Prelude.{List, [], ◌∷◌, ◌++◌, map}
use Rattle.std.specs.List.{flat_map}
use Rattle.basics.specs.Options.{if_some}
use Rattle.jani_tree.specs.Syntax.{Expression, Const, VarKind, boolean, integer, number, real_bounded, one_sided, bounded, Var, Write, Location, Destination, Edge, Automaton, File}
use Rattle.jani_check.specs.Things.{kind_type}
use Rattle.op_trees.specs.declared.wanted.Wanted.{Wanted}
use Rattle.op_trees.specs.declared.wanted.Wanted.TheVariants as W
use Rattle.op_trees.specs.Wanted.{wanted_by}

-- an expression in which no variable may occur, one in which variables may, an assignment of an edge, or a value that a
-- location gives to a transient variable
pub data Demand : Type 0 where
  fixed : Wanted → Expression → Demand
  varying : Wanted → Expression → Demand
  assigned : Write → Demand
  given : Write → Demand

-- ---- constants and variables: both bounds are ints
abbrev pub const_demands : Const → List Demand
const_demands c = map (fixed (wanted_by c.ty)) (if_some c.value)

abbrev pub bound_demands : VarKind → List Demand
bound_demands boolean = []
bound_demands integer = []
bound_demands number = []
bound_demands real_bounded = []
bound_demands one_sided = []
bound_demands (bounded low high) = fixed W.Int low ∷ fixed W.Int high ∷ []

abbrev pub var_demands : Var → List Demand
var_demands x = bound_demands x.kind ++ map (fixed (wanted_by (kind_type x.kind))) (if_some x.start)

-- ---- automata: a guard is a bool, a probability a number
abbrev pub location_demands : Location → List Demand
location_demands l = map given l.values

abbrev pub destination_demands : Destination → List Demand
destination_demands d = map (varying W.Number) (if_some d.weight) ++ map assigned d.writes

abbrev pub edge_demands : Edge → List Demand
edge_demands e = map (varying W.Bool) (if_some e.guard) ++ flat_map destination_demands e.destinations

abbrev pub automaton_demands : Automaton → List Demand
automaton_demands a =
    flat_map var_demands a.variables ++ (flat_map location_demands a.locations ++ flat_map edge_demands a.edges)

-- ---- a file: what stands outside of automata; the condition on the initial states is a bool
abbrev pub outer_demands : File → List Demand
outer_demands file =
    flat_map const_demands file.constants ++ (flat_map var_demands file.variables ++ map (varying W.Bool) (if_some file.restrict))
