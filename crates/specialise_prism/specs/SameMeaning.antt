-- A specialised file means the same wherever the given constants have their given values.
-- (PRISM manual, "The PRISM Language": "Constants": a constant that is left undefined is given its value later. That giving it in the file
-- changes nothing else is what is proved.)
use Rattle.std.specs.Prelude.{◌≡◌, ℕ, List, map, false, Some, None, bytes_eq, slice_get}
use Rattle.std.specs.List.{list_any}
use Rattle.op_trees.specs.Seen.{known}
use Rattle.prism_names.specs.Names.{unchanged}
use Rattle.op_trees.specs.declared.tree.Value.{Value}
use Rattle.process_core.specs.Ready.{Values, Name}
use Rattle.process_core.specs.Instance.{Valuation, Fault, is_wide_instance}
use Rattle.prism_tree.specs.Syntax.{Const, File}
use Rattle.prism_flat.specs.Scene.{scene, columns_of, constant_called, constant_names, constant_seen}
use Rattle.prism_flat.specs.Moment.{moment}
use Rattle.prism_flat.specs.Process.{model, excess, has_wide_mark}
use Rattle.prism_flat.specs.Kept.{IsWrittenOut}
use Rattle.constant_folding.specs.Constants.{AreRanked}
use Rattle.constant_folding.specs.Defined.{IsDefined}
use Rattle.constant_folding.specs.Unfit.{Extends, IsSmall}
use Rattle.specialise_prism.specs.Specialised.{any_constants, known_constants, specialised, specialised_const}

-- Under one valuation and at each list of values: the same faults of the instance, the same columns, states and initial states, the same choices and
-- marks in order, and the same passes a bound.
pub record SameMeaningAt (old new : File) (v : Valuation) : Type 0 where
  pub faults : (model new).faults v ≡ (model old).faults v
  pub wide_instance : is_wide_instance (scene new v) ≡ is_wide_instance (scene old v)
  pub columns : map (λ c. c.name) (scene new v).columns ≡ map (λ c. c.name) (scene old v).columns
  pub states : (s : Values) → (model new).is_state v s ≡ (model old).is_state v s
  pub initial : (s : Values) → (model new).is_initial v s ≡ (model old).is_initial v s
  pub choices : (s : Values) → (model new).choices v s ≡ (model old).choices v s
  pub marks : (s : Values) → (model new).marks v s ≡ (model old).marks v s
  pub wide_marks : (s : Values) → has_wide_mark (moment new v s) ≡ has_wide_mark (moment old v s)
  pub excess : (s : Values) → excess (moment new v s) ≡ excess (moment old v s)

-- no variable has the name of a constant
pub record AreApart (file : File) : Type 0 where
  pub apart : (v : Valuation) (x : Name) (c : Const) → constant_called file x ≡ Some c → list_any (λ k. bytes_eq k.name x) (columns_of file v) ≡ false

-- A file that is written out, whose constants lead round in no circle and have names of their own, means the same once it is specialised, under each
-- valuation that gives the given constants their values.
abbrev pub SpecialisedMeansTheSame : Type 0
SpecialisedMeansTheSame = (file : File) (given : Valuation) → IsWrittenOut file → AreRanked (any_constants file) → AreApart file → IsSmall given →
    (v : Valuation) → Extends given v → SameMeaningAt file (specialised file given) v

-- An open constant that is given has its value on both sides, so neither has the fault that it is undefined.
abbrev pub GivenHaveValues : Type 0
GivenHaveValues = (file : File) (given v : Valuation) → IsSmall given → Extends given v → (c : Const) (y : Value) → c.value ≡ None → given c.name.name ≡ Some y →
    (constant_seen (v c.name.name) (constant_names file v unchanged) c.value ≡ known (Some y))
    × (constant_seen (v c.name.name) (constant_names (specialised file given) v unchanged) (specialised_const given (known_constants file given) c).value ≡ known (Some y))

-- Of these constants, no open one that is given is undefined, by these faults of an instance.
abbrev pub GivenDefined : List Const → Valuation → List Fault → Type 0
GivenDefined constants given fs = (i : ℕ) (c : Const) (y : Value) → slice_get constants i ≡ Some c → c.value ≡ None → given c.name.name ≡ Some y → IsDefined fs i

-- So it is under each valuation that gives the given constants their values: of the file, and of a file that means the same then.
abbrev pub GivenAreDefined : Type 0
GivenAreDefined = (file new : File) (given v : Valuation) → Extends given v → SameMeaningAt file new v →
    GivenDefined file.constants given ((model file).faults v) × GivenDefined file.constants given ((model new).faults v)
