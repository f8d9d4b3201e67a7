-- The variables of a file that is written out: the global ones, then those of its modules. (PRISM manual, "The PRISM Language":
-- "Modules And Variables", "Global Variables".)
use Rattle.std.specs.Prelude.{List, [], map, ◌++◌}
use Rattle.std.specs.List.{flat_map}
use Rattle.std.specs.Borrow.{Bor}
use Rattle.prism_tree.specs.declared.syntax.PrismVar.{PrismVar}
use Rattle.prism_tree.specs.Syntax.{Var, Module, plain, copied, File, var_of}

-- those of a module; of a copy, that isn't written out, none
abbrev pub own_variables : Module → List Var
own_variables (plain m) = m.vars
own_variables (copied m) = []

abbrev pub all_variables : File → List Var
all_variables file = file.globals ++ flat_map own_variables file.modules

abbrev pub vars_of : List (Bor PrismVar) → List Var
vars_of xs = map (λ x. var_of x.now) xs
