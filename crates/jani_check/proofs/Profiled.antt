-- What files of the profile have: places mean nothing, and such a file may be written.
use Rattle.std.specs.Prelude.{◌≡◌, List, [], ◌∷◌, ◌++◌, map, Bool, true, false, Option, Some, None}
use Rattle.std.specs.List.{flat_map, AllByRecursion as OfAll}
use Rattle.std.proofs.Common.{refl}
use Rattle.basics.specs.Each.{empty_each, each_with, each_then}
use Rattle.basics.specs.Lists.{append_right, append_left, IsNotEmpty as HasItems}
use Rattle.bridge_io.specs.declared.reason.Reason.{Reason}
use Rattle.bridge_io.specs.declared.reason.Fault.{Fault}
use Rattle.op_trees.specs.Tree.{Truth, Number, Name, One, Two, Three}
use Rattle.jani_tree.specs.Syntax.{Expression, Const, VarKind, boolean, integer, number, real_bounded, one_sided, bounded, Var, Write, Location, Destination, Edge, Automaton, File}
use Rattle.jani_tree.specs.Canonical.{HasOperands, HasBounds, VarForm, WriteForm, DestinationForm, EdgeForm, ConstForm, LocationForm, AutomatonForm, RestrictionForm}
use Rattle.jani_tree.specs.Form.{ExprForm, KindForm, ConstRead, VarRead, WriteRead, LocationRead, DestinationRead, EdgeRead, AutomatonRead, RestrictionRead}
use Rattle.jani_tree.proofs.BareForm.{form_too, once_too}
use Rattle.name_rules.specs.Least.{fault, or_else}
use Rattle.jani_tree.proofs.Wider.{some_wider}
use Rattle.jani_check.specs.Things.{global_thing}
use Rattle.basics.specs.Options.{if_some, IfAny as OfSome}
use Rattle.jani_check.specs.Demands.{outer_demands}
use Rattle.jani_check.specs.NameFaults.{name_faults}
use Rattle.jani_check.specs.TypeFaults.{kind_fault, var_faults, demand_faults, automaton_faults, clashing_writes, type_faults}
use Rattle.jani_check.specs.ProfileFaults.{profile_faults}
use Rattle.jani_check.specs.Laws.{PlacesAside, CheckedIsWritable}
use Rattle.jani_check.proofs.Bare.{none_too}

pub places_aside : PlacesAside
places_aside f g e h = record { clean = none_too f g e h.clean; form = form_too HasItems f g e h.form; once = once_too f g e h.once }

-- ---- no fault of a kind
pub first_none : (xs ys : List Fault) → or_else xs ys ≡ [] → xs ≡ []
first_none [] ys e = refl
first_none (x ∷ xs) ys e = absurd cc

pub rest_none : (xs ys : List Fault) → or_else xs ys ≡ [] → ys ≡ []
rest_none [] ys e = e
rest_none (x ∷ xs) ys e = absurd cc

-- ---- operands
pub operands : (e : Expression) → ExprForm HasItems e → HasOperands e
operands (Truth at b) p = tt
operands (Number at d) p = tt
operands (Name at x) p = tt
operands (One at o a) p = (p.0, operands a p.1)
operands (Two at o a b) p = (p.0, operands a p.1, operands b p.2)
operands (Three at o a b c) p = (p.0, operands a p.1, operands b p.2, operands c p.3)

some_operands : (e : Option Expression) → OfSome (ExprForm HasItems) e → OfSome HasOperands e
some_operands e p = some_wider (ExprForm HasItems) HasOperands operands e p

-- ---- kinds: a real with bounds and an int with one bound have a fault, whatever the variable is
no_reason : (o : Option Reason) (at : _) → map (fault at) (if_some o) ≡ [] → o ≡ None
no_reason None at e = refl
no_reason (Some r) at e = absurd cc

bounds_of : (t : Bool) (k : VarKind) → kind_fault t k ≡ None → KindForm HasItems k → HasBounds k
bounds_of t boolean e p = tt
bounds_of t integer e p = tt
bounds_of t number e p = tt
bounds_of true real_bounded e p = absurd cc
bounds_of false real_bounded e p = absurd cc
bounds_of true one_sided e p = absurd cc
bounds_of false one_sided e p = absurd cc
bounds_of t (bounded low high) e p = (operands low p.0, operands high p.1)

var_form : (x : Var) → VarRead HasItems x → var_faults x ≡ [] → VarForm x
var_form x p e = record { kind = bounds_of x.transient x.kind (no_reason (kind_fault x.transient x.kind) x.kind_at e) p.kind; start = some_operands x.start p.start }

vars_form : (xs : List Var) → OfAll (VarRead HasItems) xs → flat_map var_faults xs ≡ [] → OfAll VarForm xs
vars_form xs p e = each_with (VarRead HasItems) (λ x. var_faults x ≡ []) VarForm var_form xs p (empty_each var_faults xs e)

-- ---- automata
write_form : (w : Write) → WriteRead HasItems w → WriteForm w
write_form w p = operands w.value p.value

location_form : (l : Location) → LocationRead HasItems l → LocationForm l
location_form l p = each_then (WriteRead HasItems) WriteForm write_form l.values p.values

destination_form : (d : Destination) → DestinationRead HasItems d → DestinationForm d
destination_form d p = record { weight = some_operands d.weight p.weight; writes = each_then (WriteRead HasItems) WriteForm write_form d.writes p.writes }

edge_form : (e : Edge) → EdgeRead HasItems e → EdgeForm e
edge_form e p = record { guard = some_operands e.guard p.guard; destinations = each_then (DestinationRead HasItems) DestinationForm destination_form e.destinations p.destinations }

const_form : (c : Const) → ConstRead HasItems c → ConstForm c
const_form c p = some_operands c.value p.value

restriction_form : (e : Expression) → RestrictionRead HasItems e → RestrictionForm e
restriction_form e p = record { operands = operands e p.expression; restricts = p.restricts }

module _ (file : File) (none : type_faults file ≡ []) where
  later : flat_map (demand_faults (global_thing file)) (outer_demands file) ++ (flat_map (automaton_faults (global_thing file)) file.automata ++ flat_map (clashing_writes file) file.vectors) ≡ []
  later = append_right (flat_map var_faults file.variables) _ none

  automata_none : flat_map (automaton_faults (global_thing file)) file.automata ≡ []
  automata_none =
      append_left (flat_map (automaton_faults (global_thing file)) file.automata) (flat_map (clashing_writes file) file.vectors)
      (append_right (flat_map (demand_faults (global_thing file)) (outer_demands file)) _ later)

  automaton_form : (a : Automaton) → AutomatonRead HasItems a → automaton_faults (global_thing file) a ≡ [] → AutomatonForm a
  automaton_form a p e = record {
    variables = vars_form a.variables p.variables (append_left (flat_map var_faults a.variables) _ e);
    locations = each_then (LocationRead HasItems) LocationForm location_form a.locations p.locations;
    edges = each_then (EdgeRead HasItems) EdgeForm edge_form a.edges p.edges;
  }

pub checked_is_writable : CheckedIsWritable
checked_is_writable f h =
    let types = first_none (type_faults f) (profile_faults f) (rest_none (name_faults f) (or_else (type_faults f) (profile_faults f)) h.clean) in
    record {
      read = h.form;
      types = record {
        constants = each_then (ConstRead HasItems) ConstForm const_form f.constants h.form.constants;
        variables = vars_form f.variables h.form.variables (append_left (flat_map var_faults f.variables) _ types);
        restrict = some_wider (RestrictionRead HasItems) RestrictionForm restriction_form f.restrict h.form.restrict;
        automata =
            each_with (AutomatonRead HasItems) (λ a. automaton_faults (global_thing f) a ≡ []) AutomatonForm (automaton_form f types) f.automata h.form.automata
            (empty_each (automaton_faults (global_thing f)) f.automata (automata_none f types));
      };
      once = h.once;
    }
