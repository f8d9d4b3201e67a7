-- Properties of a model, whatever language its expressions are in: what is asked, and the form of the paths it is asked of
-- (PRISM manual, "Property Specification"; jani-model specification, version 1, property expressions).
use Rattle.std.specs.Prelude.{Option}
use Rattle.prop_grammar.specs.declared.syntax.Compare.{Compare}

-- What is asked: the greatest or the least probability of the paths, whether it is within a bound, or the greatest or the
-- least reward until the paths reach their end. E are expressions, R what stands for a reward structure.
pub data Ask (E R : Type 0) : Type 0 where
  greatest : Ask E R
  least : Ask E R
  bounded : Compare → E → Ask E R
  greatest_reward : R → Ask E R
  least_reward : R → Ask E R

-- F, G, U, W, and F and U within a number of steps, which stands first
pub data Path (E : Type 0) : Type 0 where
  finally : E → Path E
  globally : E → Path E
  until : E → E → Path E
  weak_until : E → E → Path E
  finally_within : E → E → Path E
  until_within : E → E → E → Path E

-- N are names
pub record Property (N E R : Type 0) : Type 0 where
  pub name : Option N
  pub ask : Ask E R
  pub path : Path E
