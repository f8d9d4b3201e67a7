-- A JANI file specialised to values that are given for some of its constants. (jani-model specification, version 1: "Models", "Automata", "Edges". Which
-- constants count as known, and what is folded, is this project's own rule.)
use Rattle.std.specs.Prelude.{List, map, if◌then◌else◌}
use Rattle.std.specs.Option.{option_map}
use Rattle.process_core.specs.Instance.{Valuation}
use Rattle.jani_table.specs.declared.operator.JaniOp.{JaniOp}
use Rattle.jani_table.specs.Operators.{jani_meaning}
use Rattle.jani_tree.specs.Syntax.{Expression, is_always, Const, VarKind, boolean, integer, number, real_bounded, one_sided, bounded, Var, Write, Location, Destination, Edge, Automaton, File}
use Rattle.constant_folding.specs.Known.{Known}
use Rattle.constant_folding.specs.Folded.{fold}
use Rattle.constant_folding.specs.Constants as folding
use Rattle.constant_folding.specs.Constants.{AnyConst, specialised_value}
use Rattle.specialise_jani.specs.Literal.{jani_literal}

-- ---- known constants
abbrev pub any_const : Const → AnyConst JaniOp
any_const c = record { name = c.name; ty = c.ty; value = c.value }

abbrev pub any_constants : File → List (AnyConst JaniOp)
any_constants file = map any_const file.constants

abbrev pub known_constants : File → Valuation → Known
known_constants file given = folding.known_constants jani_meaning (any_constants file) given

-- ---- the file
module _ (known : Known) where
  abbrev pub folded : Expression → Expression
  folded = fold jani_meaning jani_literal known

  abbrev pub folded_kind : VarKind → VarKind
  folded_kind boolean = boolean
  folded_kind integer = integer
  folded_kind number = number
  folded_kind real_bounded = real_bounded
  folded_kind one_sided = one_sided
  folded_kind (bounded low high) = bounded (folded low) (folded high)

  abbrev pub folded_var : Var → Var
  folded_var x = record {
    name = x.name;
    kind = folded_kind x.kind;
    kind_at = x.kind_at;
    transient = x.transient;
    start = option_map folded x.start;
    note = x.note;
  }

  abbrev pub folded_write : Write → Write
  folded_write w = record { target = w.target; value = folded w.value }

  abbrev pub folded_location : Location → Location
  folded_location l = record { name = l.name; values = map folded_write l.values }

  abbrev pub folded_destination : Destination → Destination
  folded_destination d = record { location = d.location; weight = option_map folded d.weight; writes = map folded_write d.writes }

  abbrev pub folded_edge : Edge → Edge
  folded_edge e = record { location = e.location; action = e.action; guard = option_map folded e.guard; destinations = map folded_destination e.destinations; at = e.at }

  abbrev pub folded_automaton : Automaton → Automaton
  folded_automaton a = record {
    name = a.name;
    variables = map folded_var a.variables;
    locations = map folded_location a.locations;
    initial = a.initial;
    edges = map folded_edge a.edges;
  }

  -- a restriction that is folded to the literal true stays as it is, since a written true restricts nothing
  abbrev pub folded_restriction : Expression → Expression
  folded_restriction e = if is_always (folded e) then e else folded e

-- a constant without an expression gets the literal of the value that is given for it
abbrev pub specialised_const : Valuation → Known → Const → Const
specialised_const given known c = record { name = c.name; ty = c.ty; value = specialised_value jani_meaning jani_literal (given c.name.name) known c.ty c.value; note = c.note }

-- the same declarations, edges and vectors in order, with every expression folded where the known constants are known; "properties" stay
abbrev pub specialised_by : Valuation → Known → File → File
specialised_by given known file = record {
  actions = file.actions;
  constants = map (specialised_const given known) file.constants;
  variables = map (folded_var known) file.variables;
  restrict = option_map (folded_restriction known) file.restrict;
  automata = map (folded_automaton known) file.automata;
  elements = file.elements;
  elements_at = file.elements_at;
  vectors = file.vectors;
  properties = file.properties;
}

abbrev pub specialised : File → Valuation → File
specialised file given = specialised_by given (known_constants file given) file
