-- The constants and variables of a JANI file as those of a PRISM file (this project's own rule; PRISM manual, "The PRISM
-- Language": "Constants", "Modules And Variables"). The places that the trees keep are of no account.
use Rattle.std.specs.Prelude.{ℕ, ◌-◌, pos, length, Bool, true, false, Option, Some, None, unwrap_or}
use Rattle.std.specs.Option.{option_map}
use Rattle.frac_core.specs.declared.decimal.Decimal.{Decimal}
use Rattle.op_trees.specs.Tree.{Number, Name as At, Two}
use Rattle.process_core.specs.Ready.{Name}
use Rattle.prism_tree.specs.declared.operator.PrismOp.TheVariants.{Equal}
use Rattle.prism_tree.specs.Syntax as prism
use Rattle.jani_tree.specs.Syntax.{VarKind, boolean, integer, number, real_bounded, one_sided, bounded, Const, Var, File}
use Rattle.jani_meaning.specs.Elements.{Owned, initial_number}
use Rattle.jani_meaning.specs.Scene.{has_condition}
use Rattle.name_table.specs.PrismAsks.{NewNames, name_at, value_name, outside}
use Rattle.jani_images.specs.Image.{image}
use Rattle.prism_translation.specs.Elements.{Element, Lasting}
pub use Rattle.name_table.specs.Made.{made, instead}

-- ---- expressions that are made
abbrev pub whole_literal : ℕ → Decimal
whole_literal n = record { real = false; negative = false; exponent = pos 0; digits = n }

abbrev pub counted : ℕ → prism.Expression
counted n = Number 0 (whole_literal n)

module _ (file : File) (names : NewNames) where
  -- ---- constants keep their types
  abbrev pub constant : Const → Name → prism.Const
  constant c x = record {
    name = instead c.name x;
    ty = c.ty;
    value = option_map (image (value_name file names (outside file))) c.value;
  }

  -- ---- variables
  -- a bounded variable has a range; a file without fault has no variable of another kind that lasts but boolean ones
  abbrev pub range_of : (Name → Name) → VarKind → Option prism.Range
  range_of new (bounded low high) = Some (record { low = image new low; high = image new high })
  range_of new boolean = None
  range_of new integer = None
  range_of new number = None
  range_of new real_bounded = None
  range_of new one_sided = None

  -- the first value of a variable is that of "initial-value"
  abbrev pub first_of : (Name → Name) → Var → Option prism.Expression
  first_of new x = option_map (image new) x.start

  -- the element that a variable's expressions are read in
  abbrev pub scope_of : Owned → ℕ
  scope_of o = unwrap_or o.owner (outside file)

  -- in a file with an initial condition no variable has one of its own
  abbrev pub start_under : Bool → Option prism.Expression → Option prism.Expression
  start_under true start = None
  start_under false start = start

  abbrev pub variable_by : Bool → (Name → Name) → Var → Name → prism.Var
  variable_by has_condition new x y = record { name = instead x.name y; range = range_of new x.kind; start = start_under has_condition (first_of new x) }

  abbrev pub variable : Lasting → prism.Var
  variable x = variable_by (has_condition file) (value_name file names (scope_of x.owned)) x.owned.var (name_at names.variables x.number)

  -- ---- locations
  abbrev pub location_name : ℕ → Name
  location_name k = name_at names.locations k

  -- the location variable of an element counts its locations from 0 on
  abbrev pub location_variable : Element → prism.Var
  location_variable el = record {
    name = made (location_name el.number);
    range = Some (record { low = counted 0; high = counted (length el.automaton.locations - 1) });
    start = start_under (has_condition file) (Some (counted (initial_number el.automaton)));
  }

  -- the element is at the location of this number
  abbrev pub is_there : ℕ → ℕ → prism.Expression
  is_there k i = Two 0 Equal (At 0 (location_name k)) (counted i)
