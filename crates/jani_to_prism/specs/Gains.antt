-- What the edges that targets are made for assign to reward structures, as the code gathers it.
use Rattle.std.specs.Prelude.{◌≡◌, ℕ, List, [], ◌++◌, map, Option, Some, None}
use Rattle.op_trees.specs.Tree.{tree}
use Rattle.process_core.specs.Ready.{Name}
use Rattle.prism_tree.specs.declared.syntax.ItemOn.TheVariants as On
use Rattle.prism_tree.specs.Syntax as prism
use Rattle.jani_tree.specs.Syntax.{Expression, Write, File}
use Rattle.jani_meaning.specs.Elements.{Owned, structure_number}
use Rattle.name_table.specs.PrismAsks.{NewNames, name_at, value_name}
use Rattle.prism_translation.specs.Elements.{Placed}
use Rattle.prism_targets.specs.Image.{image}
use Rattle.prism_translation.specs.Parts.{made, instead}
use Rattle.prism_translation.specs.Modules.{truth}
use Rattle.prism_translation.specs.Marks.{Given, assigned_to, state_item, or_nought}
use Rattle.prism_modules.specs.Places.{Places}
use Rattle.jani_to_prism.specs.declared.gains.Gain.{Gain as CodeGain}
use Rattle.prism_targets.specs.Places.{place_in}

-- a value that a structure gets by the target of this number, whose edge belongs to the element of this number
pub record Gain : Type 0 where
  pub target : ℕ
  pub element : ℕ
  pub value : Expression

abbrev pub gain_of : CodeGain → Gain
gain_of g = record { target = g.target; element = g.element; value = tree g.value.now }

abbrev pub gain_with : ℕ → ℕ → Write → Gain
gain_with i k w = record { target = i; element = k; value = w.value }

abbrev pub gain_by : ℕ → ℕ → Expression → Gain
gain_by i k e = record { target = i; element = k; value = e }

-- what the structure of a number gets by the target of a number, which is made for this edge, if it is made for one
abbrev pub gains_of : File → ℕ → ℕ → Option Placed → List Gain
gains_of file j i None = []
gains_of file j i (Some p) = map (gain_by i p.element.number) (assigned_to file j p)

-- the item of a structure
abbrev pub gain_item : File → NewNames → Gain → prism.Item
gain_item file names g = record {
  on = On.Action (made (name_at names.actions g.target));
  guard = truth;
  value = image (value_name file names g.element) g.value;
}

-- names stand for the structures at these places
pub record ArePlaces (p : Places) (file : File) : Type 0 where
  pub places_are : (k : ℕ) (x : Name) → place_in p k x ≡ structure_number file k x

-- ---- structures
module _ (file : File) (names : NewNames) where
  -- a structure with these values of locations and of edges
  abbrev pub structure_by : Owned → List Given → List Gain → Name → prism.Rewards
  structure_by o given gains x = record {
    name = Some (instead o.var.name x);
    items = or_nought file names (map (state_item file names) given ++ map (gain_item file names) gains);
  }
