-- A PRISM file that is written out, specialised to values that are given for some of its constants. (PRISM manual, "The PRISM Language": "Constants".
-- Which constants count as known, and what is folded, is this project's own rule.)
use Rattle.std.specs.Prelude.{List, [], map}
use Rattle.std.specs.Option.{option_map}
use Rattle.process_core.specs.Instance.{Valuation}
use Rattle.prism_tree.specs.declared.operator.PrismOp.{PrismOp}
use Rattle.prism_tree.specs.Operators.{prism_meaning}
use Rattle.prism_tree.specs.Syntax.{Expression, Const, Module, plain, copied, File}
use Rattle.prism_names.specs.Names.{unchanged}
use Rattle.prism_rewriter.specs.Rewritten.{Rewriting, rewritten_var, rewritten_body, rewritten_label, rewritten_rewards}
use Rattle.constant_folding.specs.Known.{Known}
use Rattle.constant_folding.specs.Folded.{fold}
use Rattle.constant_folding.specs.Constants as folding
use Rattle.constant_folding.specs.Constants.{AnyConst, specialised_value}
use Rattle.specialise_prism.specs.Literal.{prism_literal}

-- ---- known constants
abbrev pub any_const : Const → AnyConst PrismOp
any_const c = record { name = c.name; ty = c.ty; value = c.value }

abbrev pub any_constants : File → List (AnyConst PrismOp)
any_constants file = map any_const file.constants

abbrev pub known_constants : File → Valuation → Known
known_constants file given = folding.known_constants prism_meaning (any_constants file) given

-- ---- the file
abbrev pub folded : Known → Expression → Expression
folded known = fold prism_meaning prism_literal known

abbrev pub folding_by : Known → Rewriting
folding_by known = record { expression = folded known; name = unchanged; target = unchanged }

-- a constant without an expression gets the literal of the value that is given for it
abbrev pub specialised_const : Valuation → Known → Const → Const
specialised_const given known c = record {
  name = c.name;
  ty = c.ty;
  value = specialised_value prism_meaning prism_literal (given c.name.name) known c.ty c.value;
}

-- a file that is written out has no copies, in whose place nothing would stand
abbrev pub specialised_module : Known → Module → Module
specialised_module known (plain m) = plain (rewritten_body (folding_by known) m.name m.vars m.commands)
specialised_module known (copied m) = plain (record { name = m.name; vars = []; commands = [] })

-- the same declarations, commands and items in order, with every expression folded where the known constants are known
abbrev pub specialised_by : Valuation → Known → File → File
specialised_by given known file = record {
  constants = map (specialised_const given known) file.constants;
  globals = map (rewritten_var (folding_by known)) file.globals;
  formulas = file.formulas;
  modules = map (specialised_module known) file.modules;
  labels = map (rewritten_label (folding_by known)) file.labels;
  rewards = map (rewritten_rewards (folding_by known)) file.rewards;
  init = option_map (folded known) file.init;
  end = file.end;
}

abbrev pub specialised : File → Valuation → File
specialised file given = specialised_by given (known_constants file given) file
