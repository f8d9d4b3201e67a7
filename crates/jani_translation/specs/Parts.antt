-- The constants, variables, labels and reward structures of a PRISM file as those of a JANI file (this project's own rule;
-- the members are those of the jani-model specification, version 1: "Models", "Constants", "Variables", "Types"). The
-- places that the trees keep are of no account.
use Rattle.std.specs.Prelude.{ℕ, List, [], ◌++◌, codes, Bool, true, false, Option, Some, None, if◌then◌else◌, unwrap_or}
use Rattle.std.specs.Option.{option_map}
use Rattle.bridge_io.specs.declared.reason.Named.{Named}
use Rattle.op_trees.specs.Tree.{Truth, Number}
use Rattle.process_core.specs.Ready.{Name}
use Rattle.prism_tree.specs.Syntax as prism
use Rattle.jani_tree.specs.Syntax.{Expression, is_always, Const, VarKind, boolean, number, bounded, Var}
use Rattle.name_table.specs.declared.entry.Entry.{Entry}
use Rattle.prism_images.specs.Image.{nought_literal, image}
use Rattle.name_table.specs.Asks.{called}
pub use Rattle.name_table.specs.Made.{made, instead}

-- ---- names
-- the name of a reward structure, at the place of the old one, if it had one
abbrev pub instead_if : Option Named → Name → Named
instead_if None x = made x
instead_if (Some n) x = instead n x

-- The comment of a made name is what it names and its old name; a structure may have had none. A name that was kept has no
-- comment.
abbrev pub note : List ℕ → Option Name → Entry → Option (List ℕ)
note what old e = if e.kept then None else Some (what ++ unwrap_or old [])

-- ---- expressions that are made
abbrev pub nought : Expression
nought = Number 0 nought_literal

abbrev pub falsehood : Expression
falsehood = Truth 0 false

-- a condition: the literal true restricts nothing, and is left out
abbrev pub unless_always : Expression → Option Expression
unless_always e = if is_always e then None else Some e

module _ (new : Name → Name) where
  -- ---- constants keep their types
  abbrev pub constant : prism.Const → Entry → Const
  constant c e = record {
    name = instead c.name e.name;
    ty = c.ty;
    value = option_map (image new) c.value;
    note = note (codes "constant:") (Some c.name.name) e;
  }

  -- ---- variables
  -- a variable with a range is bounded, any other is boolean
  abbrev pub kind_of : Option prism.Range → VarKind
  kind_of None = boolean
  kind_of (Some r) = bounded (image new r.low) (image new r.high)

  -- the first value: that of `init`, else the low bound, else false
  abbrev pub start_of : Option prism.Expression → Option prism.Range → Expression
  start_of (Some e) r = image new e
  start_of None (Some r) = image new r.low
  start_of None None = falsehood

  -- where the file has an initial condition, a variable may begin with any of its values
  abbrev pub start_under : Bool → Option prism.Expression → Option prism.Range → Option Expression
  start_under true e r = None
  start_under false e r = Some (start_of e r)

  abbrev pub variable : Bool → prism.Var → Entry → Var
  variable has_condition x e = record {
    name = instead x.name e.name;
    kind = kind_of x.range;
    kind_at = 0;
    transient = false;
    start = start_under has_condition x.start x.range;
    note = note (codes "variable:") (Some x.name.name) e;
  }

  -- ---- the initial condition
  abbrev pub restriction : Option prism.Expression → Option Expression
  restriction None = None
  restriction (Some e) = unless_always (image new e)

-- ---- labels and reward structures
-- a label is a boolean transient variable, first false
abbrev pub label : prism.Label → Entry → Var
label l e = record {
  name = instead l.name e.name;
  kind = boolean;
  kind_at = 0;
  transient = true;
  start = Some falsehood;
  note = note (codes "label:") (Some l.name.name) e;
}

-- a reward structure is a real transient variable, first 0
abbrev pub structure : prism.Rewards → Entry → Var
structure r e = record {
  name = instead_if r.name e.name;
  kind = number;
  kind_at = 0;
  transient = true;
  start = Some nought;
  note = note (codes "reward:") (called r.name) e;
}
