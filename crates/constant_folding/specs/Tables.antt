-- What the table of known constants stands for.
-- (PRISM manual, "The PRISM Language": "Constants"; jani-model specification, "Models": "constants".)
use Rattle.std.specs.Prelude.{◌≡◌, List, None, unwrap_or}
use Rattle.name_rules.specs.Names.{under}
use Rattle.op_trees.specs.Meaning.{Meaning}
use Rattle.process_core.specs.Instance.{Valuation}
use Rattle.constant_folding.specs.declared.table.KnownTable.{KnownTable}
use Rattle.constant_folding.specs.Known.{Known}
use Rattle.constant_folding.specs.Constants.{AnyConst, known_constants}

-- what is known of a constant
abbrev pub known_in : {N : Type 0} → KnownTable N → Known
known_in t x = unwrap_or (under t.constants x) None

-- what is given for it
abbrev pub given_in : {N : Type 0} → KnownTable N → Valuation
given_in t = under t.given

-- the table of the constants under given values
pub record IsKnownUnder {O N : Type 0} (m : Meaning O) (cs : List (AnyConst O)) (values : Valuation) (t : KnownTable N) : Type 0 where
  pub known : known_in t ≡ known_constants m cs values
  pub given : given_in t ≡ values
