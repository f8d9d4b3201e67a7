-- The demands of a specialised file are those of the file, over folded expressions, and those of the literals that constants got.
use Rattle.std.specs.Prelude.{◌≡◌, List, [], ◌∷◌, ◌++◌, map, Option, Some, None, IsTrue}
use Rattle.std.specs.List.{flat_map, AllByRecursion as Each}
use Rattle.std.specs.Option.{option_map}
use Rattle.std.proofs.Common.{refl, sym, subst, ap, ◌∙◌}
use Rattle.basics.specs.Each.{each_flat, each_join, each_map, each_parts}
use Rattle.basics.specs.Lists.{IsNotEmpty as HasItems}
use Rattle.basics.specs.Mapped.{gathered, joined, turned}
use Rattle.basics.specs.Options.{IfAny, if_some}
use Rattle.op_trees.specs.declared.tree.Ty.{Ty}
use Rattle.op_trees.specs.declared.tree.Value.{Value}
use Rattle.op_trees.specs.declared.wanted.Wanted.TheVariants as W
use Rattle.op_trees.specs.Types.{has_type}
use Rattle.op_trees.specs.Wanted.{wanted_by}
use Rattle.process_core.specs.Instance.{Valuation}
use Rattle.jani_table.specs.Operators.{jani_meaning}
use Rattle.jani_tree.specs.Syntax.{Expression, Const, VarKind, boolean, integer, number, real_bounded, one_sided, bounded, Var, Location, Destination, Edge, Automaton, File}
use Rattle.jani_tree.specs.Form.{AutomatonRead, ConstRead, DestinationRead, EdgeRead, ExprForm, FileRead, KindForm, LocationRead, RestrictionRead, VarRead, WriteRead}
use Rattle.jani_check.specs.Things.{kind_type}
use Rattle.jani_check.specs.Demands.{Demand, assigned, automaton_demands, bound_demands, const_demands, destination_demands, edge_demands, fixed, given, location_demands, outer_demands, var_demands, varying}
use Rattle.constant_folding.specs.Constants.{specialised_value}
use Rattle.constant_folding.specs.Known.{Known}
use Rattle.specialise_jani.specs.Literal.{jani_literal}
use Rattle.specialise_jani.specs.Specialised.{folded, folded_automaton, folded_destination, folded_edge, folded_kind, folded_location, folded_var, folded_write, specialised_const}
use Rattle.specialise_jani.proofs.Same.{kind_same}

-- ---- what holds of the expressions of a file holds of those of its demands
abbrev pub value_in : Demand → Expression
value_in (fixed w e) = e
value_in (varying w e) = e
value_in (assigned w) = w.value
value_in (given w) = w.value

abbrev pub HasForm : Demand → Type 0
HasForm d = ExprForm HasItems (value_in d)

optional_form : (f : Expression → Demand) → ((e : Expression) → value_in (f e) ≡ e) → (o : Option Expression) → IfAny (ExprForm HasItems) o → Each HasForm (map f (if_some o))
optional_form f h None p = tt
optional_form f h (Some e) p = (subst (ExprForm HasItems) (sym (h e)) p, tt)

bounds_form : (k : VarKind) → KindForm HasItems k → Each HasForm (bound_demands k)
bounds_form boolean p = tt
bounds_form integer p = tt
bounds_form number p = tt
bounds_form real_bounded p = tt
bounds_form one_sided p = tt
bounds_form (bounded l h) p = (p.0, (p.1, tt))

var_form : (x : Var) → VarRead HasItems x → Each HasForm (var_demands x)
var_form x p =
    each_join HasForm (bound_demands x.kind) (map (fixed (wanted_by (kind_type x.kind))) (if_some x.start)) (bounds_form x.kind p.kind)
    (optional_form (fixed (wanted_by (kind_type x.kind))) (λ e. refl) x.start p.start)

location_form : (l : Location) → LocationRead HasItems l → Each HasForm (location_demands l)
location_form l p = each_map (WriteRead HasItems) HasForm given (λ w q. q.value) l.values p.values

destination_form : (d : Destination) → DestinationRead HasItems d → Each HasForm (destination_demands d)
destination_form d p =
    each_join HasForm (map (varying W.Number) (if_some d.weight)) (map assigned d.writes) (optional_form (varying W.Number) (λ e. refl) d.weight p.weight)
    (each_map (WriteRead HasItems) HasForm assigned (λ w q. q.value) d.writes p.writes)

edge_form : (e : Edge) → EdgeRead HasItems e → Each HasForm (edge_demands e)
edge_form e p =
    each_join HasForm (map (varying W.Bool) (if_some e.guard)) (flat_map destination_demands e.destinations) (optional_form (varying W.Bool) (λ e. refl) e.guard p.guard)
    (each_flat (DestinationRead HasItems) HasForm destination_demands destination_form e.destinations p.destinations)

pub automaton_form : (a : Automaton) → AutomatonRead HasItems a → Each HasForm (automaton_demands a)
automaton_form a p =
    each_join HasForm (flat_map var_demands a.variables) (flat_map location_demands a.locations ++ flat_map edge_demands a.edges)
    (each_flat (VarRead HasItems) HasForm var_demands var_form a.variables p.variables)
    (each_join HasForm (flat_map location_demands a.locations) (flat_map edge_demands a.edges)
    (each_flat (LocationRead HasItems) HasForm location_demands location_form a.locations p.locations)
    (each_flat (EdgeRead HasItems) HasForm edge_demands edge_form a.edges p.edges))

restriction_form : (o : Option Expression) → IfAny (RestrictionRead HasItems) o → Each HasForm (map (varying W.Bool) (if_some o))
restriction_form None p = tt
restriction_form (Some e) p = (p.expression, tt)

pub outer_form : (file : File) → FileRead file → Each HasForm (outer_demands file)
outer_form file p =
    each_join HasForm (flat_map const_demands file.constants) _
    (each_flat (ConstRead HasItems) HasForm const_demands (λ c q. optional_form (fixed (wanted_by c.ty)) (λ e. refl) c.value q.value) file.constants p.constants)
    (each_join HasForm (flat_map var_demands file.variables) (map (varying W.Bool) (if_some file.restrict))
    (each_flat (VarRead HasItems) HasForm var_demands var_form file.variables p.variables) (restriction_form file.restrict p.restrict))

-- ---- a demand with its expression folded
module _ (K : Known) where
  abbrev pub folded_demand : Demand → Demand
  folded_demand (fixed w e) = fixed w (folded K e)
  folded_demand (varying w e) = varying w (folded K e)
  folded_demand (assigned w) = assigned (folded_write K w)
  folded_demand (given w) = given (folded_write K w)

  optional : (f : Expression → Demand) → ((e : Expression) → f (folded K e) ≡ folded_demand (f e)) → (o : Option Expression) →
      map f (if_some (option_map (folded K) o)) ≡ map folded_demand (map f (if_some o))
  optional f h None = refl
  optional f h (Some e) = ap (λ d. d ∷ []) (h e)

  bounds : (k : VarKind) → bound_demands (folded_kind K k) ≡ map folded_demand (bound_demands k)
  bounds boolean = refl
  bounds integer = refl
  bounds number = refl
  bounds real_bounded = refl
  bounds one_sided = refl
  bounds (bounded l h) = refl

  in_var : (x : Var) → var_demands (folded_var K x) ≡ map folded_demand (var_demands x)
  in_var x =
      joined folded_demand (bound_demands (folded_kind K x.kind)) (map (fixed (wanted_by (kind_type (folded_kind K x.kind)))) (if_some (option_map (folded K) x.start))) (bound_demands x.kind)
      (map (fixed (wanted_by (kind_type x.kind))) (if_some x.start)) (bounds x.kind)
      (ap (λ t. map (fixed (wanted_by t)) (if_some (option_map (folded K) x.start))) (kind_same K x.kind) ∙ optional (fixed (wanted_by (kind_type x.kind))) (λ e. refl) x.start)

  pub in_vars : (xs : List Var) → flat_map var_demands (map (folded_var K) xs) ≡ map folded_demand (flat_map var_demands xs)
  in_vars = gathered folded_demand (folded_var K) var_demands var_demands in_var

  in_location : (l : Location) → location_demands (folded_location K l) ≡ map folded_demand (location_demands l)
  in_location l = turned folded_demand (folded_write K) given given (λ w. refl) l.values

  in_destination : (d : Destination) → destination_demands (folded_destination K d) ≡ map folded_demand (destination_demands d)
  in_destination d =
      joined folded_demand (map (varying W.Number) (if_some (option_map (folded K) d.weight))) (map assigned (map (folded_write K) d.writes)) (map (varying W.Number) (if_some d.weight))
      (map assigned d.writes) (optional (varying W.Number) (λ e. refl) d.weight) (turned folded_demand (folded_write K) assigned assigned (λ w. refl) d.writes)

  in_edge : (e : Edge) → edge_demands (folded_edge K e) ≡ map folded_demand (edge_demands e)
  in_edge e =
      joined folded_demand (map (varying W.Bool) (if_some (option_map (folded K) e.guard))) (flat_map destination_demands (map (folded_destination K) e.destinations))
      (map (varying W.Bool) (if_some e.guard)) (flat_map destination_demands e.destinations) (optional (varying W.Bool) (λ e. refl) e.guard)
      (gathered folded_demand (folded_destination K) destination_demands destination_demands in_destination e.destinations)

  pub in_automaton : (a : Automaton) → automaton_demands (folded_automaton K a) ≡ map folded_demand (automaton_demands a)
  in_automaton a =
      joined folded_demand (flat_map var_demands (map (folded_var K) a.variables)) _ (flat_map var_demands a.variables) _ (in_vars a.variables)
      (joined folded_demand (flat_map location_demands (map (folded_location K) a.locations)) _ (flat_map location_demands a.locations) _
      (gathered folded_demand (folded_location K) location_demands location_demands in_location a.locations)
      (gathered folded_demand (folded_edge K) edge_demands edge_demands in_edge a.edges))

  -- what holds of the demands of constants: one keeps its expression, or gets a literal of its type
  module _ (G H : Demand → Type 0) (carry : (d : Demand) → G d → H (folded_demand d)) (values : Valuation)
      (of_literal : (y : Value) (ty : Ty) → IsTrue (has_type ty y) → H (fixed (wanted_by ty) (jani_literal y ty))) where
    value_carried : (g : Option Value) (ty : Ty) (o : Option Expression) → ((y : Value) → g ≡ Some y → IsTrue (has_type ty y)) → Each G (map (fixed (wanted_by ty)) (if_some o)) →
        Each H (map (fixed (wanted_by ty)) (if_some (specialised_value jani_meaning jani_literal g K ty o)))
    value_carried None ty None h p = tt
    value_carried (Some y) ty None h p = (of_literal y ty (h y refl), tt)
    value_carried g ty (Some e) h p = (carry (fixed (wanted_by ty) e) p.0, tt)

    pub consts_carried : (cs : List Const) → Each (λ c. (y : Value) → values c.name.name ≡ Some y → IsTrue (has_type c.ty y)) cs → Each G (flat_map const_demands cs) →
        Each H (flat_map const_demands (map (specialised_const values K) cs))
    consts_carried [] f p = tt
    consts_carried (c ∷ cs) f p =
        let r = each_parts G (const_demands c) (flat_map const_demands cs) p in
        each_join H (const_demands (specialised_const values K c)) (flat_map const_demands (map (specialised_const values K) cs))
        (value_carried (values c.name.name) c.ty c.value f.0 r.0) (consts_carried cs f.1 r.1)
