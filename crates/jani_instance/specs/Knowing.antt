-- What the program knows of a file before any state: whatever the given constants are, and under them. (This project's own rule.)
use Rattle.std.specs.Prelude.{◌≡◌, ◌+◌, ◌<◌, ◌^◌, List, ◌++◌, map, length, take, drop, true, is_none, Some}
use Rattle.std.specs.List.{AllZip, filter, list_any}
use Rattle.name_rules.specs.Names.{under}
use Rattle.process_core.specs.Ready.{Name}
use Rattle.process_core.specs.Instance.{Valuation}
use Rattle.process_core.specs.declared.data.StartFail.{StartFail}
use Rattle.process_core.specs.declared.data.StartFail.TheVariants.{Memory, Wide, Faults, Word}
use Rattle.jani_tree.specs.Syntax.{Const, File}
use Rattle.jani_meaning.specs.Elements as meaning
use Rattle.jani_meaning.specs.Elements.{elements}
use Rattle.jani_meaning.specs.Scene.{constant_names, has_condition, scene}
use Rattle.instance_start.specs.Columns.{AreColumns, column_of}
use Rattle.instance_start.specs.Description.{Constant}
use Rattle.expr_store.specs.Views.{nodes}
use Rattle.instance_start.specs.declared.data.Place.{Place}
use Rattle.name_rules.specs.declared.map.NameMap.{NameMap}
use Rattle.jani_instance.specs.Actions.{AreElementsOf, AreNamedElementsOf, actions_of}
use Rattle.jani_instance.specs.Built.{IsTransientOf, IsVectorOf, global_place}
use Rattle.jani_instance.specs.Described.{mark_names}
use Rattle.jani_instance.specs.Initial.{initial_table, table_in}
use Rattle.jani_instance.specs.Prepared.{places_at, places_of, see_from}
use Rattle.jani_instance.specs.Shapes.{Lent, located_as, transient_as, transient_at}
use Rattle.jani_instance.specs.Views.{At, look_by}
use Rattle.jani_instance.specs.declared.data.NamedElement.{NamedElement}
use Rattle.jani_instance.specs.declared.data.Transient.{Transient}
use Rattle.jani_instance.specs.declared.start.Prepared.{Prepared}
use Rattle.jani_instance.specs.Constants.{Tabled, constant_place}
use Rattle.jani_instance.specs.Parts.{automaton_at, owned_at}
use Rattle.jani_instance.specs.Transients.{transient_by}
use Rattle.jani_instance.specs.declared.start.Built.{Built}
use Rattle.jani_instance.specs.declared.start.Kinds.{Kinds}
use Rattle.jani_instance.specs.declared.start.Known.{Known}
use Rattle.jani_instance.specs.declared.start.Linked.{Linked}
use Rattle.jani_instance.specs.declared.start.Listed.{Listed}

-- a constant without a value is left open
abbrev pub opened : Const → Constant
opened c = record { name = c.name.name; ty = c.ty; is_open = is_none c.value }

-- variables of each kind
pub record AreKinds (vars : List meaning.Owned) (k : Kinds) : Type 0 where
  pub lasting_are : map owned_at k.lasting.items ≡ filter meaning.is_lasting vars
  pub labels_are : map owned_at k.labels.items ≡ filter meaning.is_label vars
  pub structures_are : map owned_at k.structures.items ≡ filter meaning.is_structure vars

pub record IsListed (file : File) (l : Listed) : Type 0 where
  pub parts_are : map automaton_at l.parts.items ≡ elements file
  pub kinds_are : AreKinds (meaning.variables file) l.kinds
  pub constants_at : (x : Name) → under l.constants x ≡ constant_place file.constants x
  pub condition_is : l.has_condition ≡ has_condition file

-- as many columns as a file has can be counted
abbrev pub HasRoom : File → Type 0
HasRoom file = length (elements file) + length (meaning.lasting file) < 2 ^ 64

pub record IsKnown (file : File) (v : Valuation) (k : Known) : Type 0 where
  pub constants_are : Tabled file v (Some k.constants.items)
  pub columns_are : AreColumns (scene file v) (map column_of k.columns.items)
  pub places_are : (x : Name) → under k.places x ≡ global_place file x
  pub room : HasRoom file

-- ---- elements, vectors, labels and reward structures
-- the elements before names are resolved, the vectors, and the initial locations
pub record AreLinked (file : File) (l : Linked) : Type 0 where
  pub elements_are : AreNamedElementsOf file l.elements.items
  pub vectors_are : AllZip (IsVectorOf file actions_of) file.vectors l.vectors.items
  pub initial_are : map table_in l.initial_locations.items ≡ map initial_table (elements file)

-- the labels and then the reward structures, before names are resolved
abbrev pub AreNamed : File → Valuation → List (Transient Lent) → Type 0
AreNamed file v ts =
    map transient_at ts
    ≡ map (transient_by (elements file) (constant_names file v)) (meaning.labels file)
    ++ map (transient_by (elements file) (constant_names file v)) (meaning.structures file)

-- what the pass that resolves names makes of them
pub record IsPreparedOf (places : NameMap Place) (es : List NamedElement) (ts : List (Transient Lent)) (p : Prepared) : Type 0 where
  pub elements_are : (at : At) → map (λ e. map (located_as (look_by at (nodes p.store))) e.locations.items) p.elements.items
      ≡ map (λ e. map (located_as (see_from (places_of e.own places) at)) e.locations.items) es
  pub transients_are : (at : At) → map (transient_as (λ i. look_by at (nodes p.store))) p.transients.items
      ≡ map (transient_as (λ i. see_from (places_at es places i) at)) ts

pub record IsBuilt (file : File) (v : Valuation) (b : Built) : Type 0 where
  pub elements_are : AreElementsOf file (nodes b.prepared.store) b.prepared.elements.items
  pub vectors_are : AllZip (IsVectorOf file actions_of) file.vectors b.vectors.items
  pub labels_are : b.labels ≡ length (meaning.labels file)
  pub names_are : map (λ t. t.name.now) b.prepared.transients.items ≡ mark_names file
  pub labelling : AllZip (IsTransientOf file v (nodes b.prepared.store)) (meaning.labels file) (take b.labels b.prepared.transients.items)
  pub rewarding : AllZip (IsTransientOf file v (nodes b.prepared.store)) (meaning.structures file) (drop b.labels b.prepared.transients.items)
  pub initial_are : map table_in b.initial_locations.items ≡ map initial_table (elements file)
  pub condition_is : b.has_condition ≡ has_condition file

-- a constant is wide, or memory is wanting
abbrev pub HasWideConstant : File → Valuation → StartFail → Type 0
HasWideConstant file v (Memory e) = Unit {0}
HasWideConstant file v Wide = list_any (λ s. s.wide) (scene file v).constants ≡ true
HasWideConstant file v (Faults fs) = ⊥
HasWideConstant file v (Word i) = ⊥
