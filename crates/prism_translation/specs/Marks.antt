-- The transient variables of a JANI file as the labels and reward structures of a PRISM file (this project's own rule; PRISM
-- manual, "The PRISM Language": "Formulas and Labels", "Costs and Rewards"; jani-model specification, version 1: "Transient
-- variables"). The places that the trees keep are of no account.
use Rattle.std.specs.Prelude.{ℕ, List, [], ◌∷◌, ◌++◌, map, Option, Some, None, if◌then◌else◌, unwrap_or}
use Rattle.std.specs.List.{filter, flat_map}
use Rattle.std.specs.Option.{option_map}
use Rattle.op_trees.specs.Tree.{Three}
use Rattle.process_core.specs.Ready.{Name}
use Rattle.prism_tree.specs.declared.operator.PrismOp.TheVariants.{Ite}
use Rattle.prism_tree.specs.declared.syntax.ItemOn.TheVariants as On
use Rattle.prism_tree.specs.Syntax as prism
use Rattle.process_core.specs.Instance.{numbered}
use Rattle.jani_tree.specs.Syntax.{Expression, Write, Destination, File}
use Rattle.op_trees.specs.Names.{is_called}
use Rattle.jani_meaning.specs.Elements.{Owned, structure_number}
use Rattle.name_table.specs.PrismAsks.{NewNames, value_name, outside}
use Rattle.jani_images.specs.Image.{image}
use Rattle.prism_translation.specs.Elements.{Element, elements, has_several, Placed, may_use, is_at}
use Rattle.prism_translation.specs.Parts.{made, instead, counted, is_there}
use Rattle.prism_translation.specs.Modules.{truth, falsehood, Action, actions}

-- ---- what locations give
-- a value that the location of this number of an element gives
pub record Given : Type 0 where
  pub element : Element
  pub location : ℕ
  pub value : Expression

abbrev pub given_by : Name → Element → List Given
given_by x el =
    numbered (λ i l. map (λ w. record { element = el; location = i; value = w.value }) (filter (λ w. is_called x w.target) l.values)) 0
    el.automaton.locations

-- those for a transient variable: the owner's locations alone give values to an own one
abbrev pub given_to : File → Owned → List Given
given_to file o = flat_map (λ el. if may_use el.number o.owner then given_by o.var.name.name el else []) (elements file)

-- ---- what edges assign
abbrev pub first_writes : List Destination → List Write
first_writes [] = []
first_writes (d ∷ ds) = d.writes

-- what an edge assigns to the structure of this number; all its destinations assign the same
abbrev pub assigned_to : File → ℕ → Placed → List Expression
assigned_to file j p =
    map (λ w. w.value) (filter (λ w. is_at j (structure_number file p.element.number w.target.name)) (first_writes p.edge.destinations))

module _ (file : File) (names : NewNames) where
  abbrev pub given_image : Given → prism.Expression
  given_image g = image (value_name file names g.element.number) g.value

  abbrev pub given_where : Given → prism.Expression
  given_where g = if has_several g.element then is_there file names g.element.number g.location else truth

  -- ---- labels
  -- the value of the location that the element is at, else another
  abbrev pub label_body : prism.Expression → List Given → prism.Expression
  label_body other [] = other
  label_body other (g ∷ gs) =
      if has_several g.element then Three 0 Ite (is_there file names g.element.number g.location) (given_image g) (label_body other gs)
      else given_image g

  -- in the end its first value
  abbrev pub first_value : Owned → prism.Expression
  first_value o = unwrap_or (option_map (image (value_name file names (outside file))) o.var.start) falsehood

  abbrev pub label : Owned → Name → prism.Label
  label o x = record { name = instead o.var.name x; body = label_body (first_value o) (given_to file o) }

  -- ---- reward structures
  abbrev pub state_item : Given → prism.Item
  state_item g = record { on = On.InState; guard = given_where g; value = given_image g }

  abbrev pub target_item : Name → Placed → Expression → prism.Item
  target_item a p e = record { on = On.Action (made a); guard = truth; value = image (value_name file names p.element.number) e }

  -- what the edge that the target is made for assigns
  abbrev pub target_items_by : ℕ → Name → Option Placed → List prism.Item
  target_items_by j a None = []
  target_items_by j a (Some p) = map (target_item a p) (assigned_to file j p)

  abbrev pub target_items : ℕ → Action → List prism.Item
  target_items j t = target_items_by j t.name t.target.maker

  -- a structure has an item
  abbrev pub or_nought : List prism.Item → List prism.Item
  or_nought [] = record { on = On.InState; guard = truth; value = counted 0 } ∷ []
  or_nought (i ∷ is) = i ∷ is

  -- that of this number
  abbrev pub structure : ℕ → Owned → Name → prism.Rewards
  structure j o x = record {
    name = Some (instead o.var.name x);
    items = or_nought (map state_item (given_to file o) ++ flat_map (target_items j) (actions file names));
  }
