-- A specialised file has the form of trees, where the file has it, whatever is asked of names.
use Rattle.std.specs.Prelude.{◌≡◌, ℕ, List, [], ◌∷◌, map, Bool, true, false, Option, Some, None, if◌then◌else◌}
use Rattle.std.specs.List.{AllByRecursion as Each}
use Rattle.std.specs.Option.{option_map}
use Rattle.std.proofs.Common.{refl}
use Rattle.basics.specs.Each.{any_map, each_map}
use Rattle.basics.specs.Lists.{IsNotEmpty as HasItems}
use Rattle.basics.specs.Options.{IfAny}
use Rattle.op_trees.specs.declared.tree.Ty.{Ty}
use Rattle.op_trees.specs.declared.tree.Value.{Value}
use Rattle.process_core.specs.Instance.{Valuation}
use Rattle.jani_table.specs.declared.operator.JaniOp.TheVariants.{Div}
use Rattle.jani_table.specs.Operators.{jani_meaning}
use Rattle.jani_tree.specs.Syntax.{Expression, is_always, Const, VarKind, boolean, integer, number, real_bounded, one_sided, bounded, Var, Write, Location, Destination, Edge, Automaton, File}
use Rattle.jani_tree.specs.Form.{AutomatonRead, ConstRead, DestinationRead, EdgeRead, ExprForm, FileWith, IsGiven, KindForm, LocationRead, RestrictionRead, VarRead, WriteRead}
use Rattle.constant_folding.specs.Constants.{specialised_value}
use Rattle.constant_folding.specs.Known.{Known}
use Rattle.constant_folding.specs.ValueLiteralLaws.{literal_holds}
use Rattle.constant_folding.proofs.Kept.{fold_holds}
use Rattle.constant_folding.proofs.WholeNumbers.{whole_normal}
use Rattle.specialise_jani.specs.Literal.{jani_literal, whole_tree}
use Rattle.specialise_jani.specs.LiteralLaws.{jani_literals, whole_holds}
use Rattle.specialise_jani.specs.Specialised.{folded, folded_automaton, folded_destination, folded_edge, folded_kind, folded_location, folded_restriction, folded_var, folded_write, specialised_by, specialised_const}

module _ (IsName : List ℕ → Type 0) where
  abbrev Formed : Expression → Type 0
  Formed = ExprForm IsName

  literal_formed : (v : Value) (ty : Ty) → Formed (jani_literal v ty)
  literal_formed =
      literal_holds whole_tree Div Formed (λ b. tt) (whole_holds Formed (λ r g n. whole_normal r g n)) (λ a b h k. (refl, h, k))

  module _ (K : Known) where
    folded_formed : (e : Expression) → Formed e → Formed (folded K e)
    folded_formed =
        fold_holds jani_meaning jani_literal jani_literals K Formed (λ b. tt) literal_formed
        (λ at o a h. (h.1, λ x k. (h.0, k)))
        (λ at o a b h. (h.1, h.2, λ x y k l. (h.0, k, l)))
        (λ at o a b c h. (h.1, h.2, h.3, λ x y z k l j. (h.0, k, l, j)))

    optional_formed : (o : Option Expression) → IfAny Formed o → IfAny Formed (option_map (folded K) o)
    optional_formed o p = any_map Formed Formed (folded K) folded_formed o p

    kind_formed : (k : VarKind) → KindForm IsName k → KindForm IsName (folded_kind K k)
    kind_formed boolean p = tt
    kind_formed integer p = tt
    kind_formed number p = tt
    kind_formed real_bounded p = tt
    kind_formed one_sided p = tt
    kind_formed (bounded l h) p = (folded_formed l p.0, folded_formed h p.1)

    still_given : (o : Option Expression) → IsGiven o → IsGiven (option_map (folded K) o)
    still_given None p = p
    still_given (Some e) p = tt

    var_formed : (x : Var) → VarRead IsName x → VarRead IsName (folded_var K x)
    var_formed x p = record { name = p.name; kind = kind_formed x.kind p.kind; start = optional_formed x.start p.start; begins = λ t. still_given x.start (p.begins t) }

    write_formed : (w : Write) → WriteRead IsName w → WriteRead IsName (folded_write K w)
    write_formed w p = record { target = p.target; value = folded_formed w.value p.value }

    writes_formed : (ws : List Write) → Each (WriteRead IsName) ws → Each (WriteRead IsName) (map (folded_write K) ws)
    writes_formed = each_map (WriteRead IsName) (WriteRead IsName) (folded_write K) write_formed

    location_formed : (l : Location) → LocationRead IsName l → LocationRead IsName (folded_location K l)
    location_formed l p = record { name = p.name; values = writes_formed l.values p.values }

    destination_formed : (d : Destination) → DestinationRead IsName d → DestinationRead IsName (folded_destination K d)
    destination_formed d p = record { location = p.location; weight = optional_formed d.weight p.weight; writes = writes_formed d.writes p.writes }

    still_some : (ds : List Destination) → HasItems ds → HasItems (map (folded_destination K) ds)
    still_some [] p = p
    still_some (d ∷ ds) p = tt

    edge_formed : (e : Edge) → EdgeRead IsName e → EdgeRead IsName (folded_edge K e)
    edge_formed e p = record {
      location = p.location;
      action = p.action;
      guard = optional_formed e.guard p.guard;
      destinations = each_map (DestinationRead IsName) (DestinationRead IsName) (folded_destination K) destination_formed e.destinations p.destinations;
      some = still_some e.destinations p.some;
    }

    automaton_formed : (a : Automaton) → AutomatonRead IsName a → AutomatonRead IsName (folded_automaton K a)
    automaton_formed a p = record {
      name = p.name;
      variables = each_map (VarRead IsName) (VarRead IsName) (folded_var K) var_formed a.variables p.variables;
      locations = each_map (LocationRead IsName) (LocationRead IsName) (folded_location K) location_formed a.locations p.locations;
      initial = p.initial;
      begins = p.begins;
      edges = each_map (EdgeRead IsName) (EdgeRead IsName) (folded_edge K) edge_formed a.edges p.edges;
    }

    value_formed : (g : Option Value) (ty : Ty) (o : Option Expression) → IfAny Formed o → IfAny Formed (specialised_value jani_meaning jani_literal g K ty o)
    value_formed None ty None h = tt
    value_formed (Some y) ty None h = literal_formed y ty
    value_formed g ty (Some e) h = folded_formed e h

    const_formed : (values : Valuation) (c : Const) → ConstRead IsName c → ConstRead IsName (specialised_const values K c)
    const_formed values c p = record { name = p.name; value = value_formed (values c.name.name) c.ty c.value p.value }

    restriction_formed : (e : Expression) → RestrictionRead IsName e → RestrictionRead IsName (folded_restriction K e)
    restriction_formed e p = by_always (is_always (folded K e)) refl
      where
        by_always : (b : Bool) → is_always (folded K e) ≡ b → RestrictionRead IsName (if b then e else folded K e)
        by_always true h = p
        by_always false h = record { expression = folded_formed e p.expression; restricts = h }

    pub specialised_formed : (values : Valuation) (file : File) → FileWith IsName file → FileWith IsName (specialised_by values K file)
    specialised_formed values file p = record {
      actions = p.actions;
      constants = each_map (ConstRead IsName) (ConstRead IsName) (specialised_const values K) (const_formed values) file.constants p.constants;
      variables = each_map (VarRead IsName) (VarRead IsName) (folded_var K) var_formed file.variables p.variables;
      restrict = any_map (RestrictionRead IsName) (RestrictionRead IsName) (folded_restriction K) restriction_formed file.restrict p.restrict;
      automata = each_map (AutomatonRead IsName) (AutomatonRead IsName) (folded_automaton K) automaton_formed file.automata p.automata;
      elements = p.elements;
      vectors = p.vectors;
      properties = p.properties;
    }
