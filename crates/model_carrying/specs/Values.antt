-- The values that are given for the constants of a model, given to those of its counterpart. (This project's own rule.)
use Rattle.std.specs.Prelude.{◌≡◌, List, [], ◌∷◌, ◌++◌, map, Bool, true, false, Option, Some, None, bytes_eq}
use Rattle.std.specs.List.{AllZip, IsDistinct}
use Rattle.op_trees.specs.declared.tree.Value.{Value}
use Rattle.op_trees.specs.Types.{AgreesWith}
use Rattle.process_core.specs.Ready.{Name}
use Rattle.process_core.specs.Instance.{Valuation}
use Rattle.process_core.specs.declared.data.Given.{Given}
use Rattle.instance_start.specs.Description.{Constant}
use Rattle.instance_start.specs.Given.{given_by, misfit}

-- ---- the constants of two files go with each other by their places
-- the value of an open constant under this name
abbrev pub value_as : Bool → Name → Option Value → List Given
value_as true x (Some v) = record { name = x; value = v } ∷ []
value_as true x None = []
value_as false x o = []

abbrev pub values_there : List Constant → List Constant → Valuation → List Given
values_there [] ds v = []
values_there (c ∷ cs) [] v = []
values_there (c ∷ cs) (d ∷ ds) v = value_as c.is_open d.name (v c.name) ++ values_there cs ds v

-- both have one type, and both are left open or neither
pub record AreLike (c d : Constant) : Type 0 where
  pub types : c.ty ≡ d.ty
  pub opens : c.is_open ≡ d.is_open

abbrev pub names : List Constant → List Name
names cs = map (λ c. c.name) cs

-- The constants of two files go with each other: they are alike place by place, and no name stands twice in either.
pub record GoTogether (cs ds : List Constant) : Type 0 where
  pub alike : AllZip AreLike cs ds
  pub here : IsDistinct bytes_eq (names cs)
  pub there : IsDistinct bytes_eq (names ds)

-- ---- laws
-- values that fit the ones fit the others
abbrev pub ValuesFit : Type 0
ValuesFit = (cs ds : List Constant) (given : List Given) → GoTogether cs ds → misfit cs given ≡ None → misfit ds (values_there cs ds (given_by given)) ≡ None

-- an open constant has the value of its own
abbrev pub IsGivenAs : Valuation → Valuation → Constant → Constant → Type 0
IsGivenAs v w c d = c.is_open ≡ true → w d.name ≡ v c.name

-- and each has so, and the value is of its type
pub record AreGivenAlike (v w : Valuation) (c d : Constant) : Type 0 where
  pub same : IsGivenAs v w c d
  pub typed : c.is_open ≡ true → AgreesWith (Some c.ty) (v c.name)

abbrev pub ValuesAreAlike : Type 0
ValuesAreAlike = (cs ds : List Constant) (given : List Given) → GoTogether cs ds → misfit cs given ≡ None → AllZip (AreGivenAlike (given_by given) (given_by (values_there cs ds (given_by given)))) cs ds
