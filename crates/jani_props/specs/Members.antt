-- The members of the objects of the properties of a JANI file, one list for each object of the jani-model specification (version 1,
-- "Properties"): a member has a key, is required or optional, and has a value of a form. Beside a member stands what holds where it is
-- left out. The members of operators are those that they have in a model (jani_table).
--
-- What the profile of this project adds: a comment may stand in every object. What it leaves out is marked so; where a form has fewer
-- values than the specification, Shape.antt says which.
use Rattle.std.specs.Prelude.{List, [], ◌∷◌}
use Rattle.jani_table.specs.declared.key.Key.TheVariants as Key
use Rattle.jani_table.specs.declared.table.Need.{Need}
use Rattle.jani_table.specs.declared.table.Need.TheVariants.{Required, Optional}
use Rattle.jani_props.specs.declared.words.Side.{Side}
use Rattle.jani_props.specs.declared.table.PropKey.{PropKey}
use Rattle.jani_props.specs.declared.table.PropKey.TheVariants as K
use Rattle.jani_props.specs.declared.table.PropForm.{PropForm}
use Rattle.jani_props.specs.declared.table.PropForm.TheVariants as F

abbrev pub Members : Type 0
Members = List (PropKey × Need × PropForm)

-- ---- "Property"

-- a property (Property)
abbrev pub property : Members
property =
    (K.Of Key.Name, Required, F.Name)
    ∷ (K.Expression, Required, F.Filter)  -- the profile leaves out all expressions but filters
    ∷ (K.Of Key.Comment, Optional, F.Note)  -- nothing
    ∷ []

-- ---- "PropertyExpression"

-- a filter ("op" is "filter")
abbrev pub filter : Members
filter =
    (K.Of Key.Op, Required, F.Chosen)
    ∷ (K.Fun, Required, F.Fun)  -- the profile leaves out all words but "max", "min", "values" and "∀"
    ∷ (K.Values, Required, F.Values)
    ∷ (K.States, Required, F.States)  -- the profile leaves out all states but the initial ones
    ∷ (K.Of Key.Comment, Optional, F.Note)  -- nothing
    ∷ []

-- the greatest or the least probability ("op" is "Pmax" or "Pmin")
abbrev pub probability : Members
probability =
    (K.Of Key.Op, Required, F.Chosen)
    ∷ (K.Of Key.Exp, Required, F.Path)
    ∷ (K.Of Key.Comment, Optional, F.Note)  -- nothing
    ∷ []

-- The greatest or the least expected reward ("op" is "Emax" or "Emin"). In the specification "accumulate" and "reach" are optional, and
-- there are "step-instant", "time-instant" and "reward-instants": the profile reads rewards that are added up until a state is reached, so
-- it has both members required and does not know the others.
abbrev pub reward : Members
reward =
    (K.Of Key.Op, Required, F.Chosen)
    ∷ (K.Of Key.Exp, Required, F.Name)  -- the profile leaves out all expressions but a name
    ∷ (K.Accumulate, Required, F.Sums)
    ∷ (K.Reach, Required, F.Expression)
    ∷ (K.Of Key.Comment, Optional, F.Note)  -- nothing
    ∷ []

-- A comparison of a probability with a bound ("op" is "<", "≤", "≥" or ">"), which is an operator with two operands in the specification.
-- The profile has the probability on the left side alone: the least one with a bound from below, the greatest one with one from above.
abbrev pub comparison : Side → Members
comparison side =
    (K.Of Key.Op, Required, F.Chosen)
    ∷ (K.Of Key.Left, Required, F.Compared side)
    ∷ (K.Of Key.Right, Required, F.Expression)
    ∷ (K.Of Key.Constant, Optional, F.LeftOut)  -- no mathematical constant, as of an operator of a model
    ∷ (K.Of Key.Comment, Optional, F.Note)  -- nothing
    ∷ []

-- A set of paths of one expression ("op" is "F" or "G"). The specification has "time-bounds" and "reward-bounds" too, which the profile
-- does not know.
abbrev pub one_path : Members
one_path =
    (K.Of Key.Op, Required, F.Chosen)
    ∷ (K.Of Key.Exp, Required, F.Expression)
    ∷ (K.StepBounds, Optional, F.Steps)  -- any number of steps; the profile leaves it out of "G"
    ∷ (K.Of Key.Comment, Optional, F.Note)  -- nothing
    ∷ []

-- a set of paths of two expressions ("op" is "U" or "W"), with the like bounds
abbrev pub two_paths : Members
two_paths =
    (K.Of Key.Op, Required, F.Chosen)
    ∷ (K.Of Key.Left, Required, F.Expression)
    ∷ (K.Of Key.Right, Required, F.Expression)
    ∷ (K.StepBounds, Optional, F.Steps)  -- any number of steps; the profile leaves it out of "W"
    ∷ (K.Of Key.Comment, Optional, F.Note)  -- nothing
    ∷ []

-- a label that every model has ("op" is "initial" or "deadlock")
abbrev pub label : Members
label =
    (K.Of Key.Op, Required, F.Chosen)
    ∷ (K.Of Key.Comment, Optional, F.Note)  -- nothing
    ∷ []

-- ---- "PropertyInterval"

-- A bound of steps (the value of "step-bounds"). In the specification "upper" is optional, and there are "lower", "lower-exclusive" and
-- "upper-exclusive": the profile leaves out bounds from below and exclusive ones, so it has "upper" required and does not know the others.
abbrev pub step_bound : Members
step_bound =
    (K.Upper, Required, F.Expression)
    ∷ (K.Of Key.Comment, Optional, F.Note)  -- nothing
    ∷ []
