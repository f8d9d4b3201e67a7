-- The generated model: modules in a row. Each has a variable that counts up to K, at every step by chance; once it stands there the module
-- hands on to the next one, whose variable counts up, and begins anew at 0. (This project's own model, of which each number of modules gives
-- one; the language is that of the PRISM manual, "The PRISM Language".)
use Rattle.std.specs.Prelude.{ℕ, zero, suc, pos, List, [], ◌∷◌, ◌++◌, map, codes, decimal, Some, None, false}
use Rattle.std.specs.List.{range_with_len}
use Rattle.bridge_io.specs.declared.reason.Named.{Named}
use Rattle.frac_core.specs.Numeral.{literal}
use Rattle.op_trees.specs.declared.tree.Ty.TheVariants as T
use Rattle.op_trees.specs.Tree.{Number, Name, Two}
use Rattle.prism_tree.specs.declared.operator.PrismOp.TheVariants.{Add, Div, Equal, Less}
use Rattle.prism_tree.specs.Syntax.{Expression, Var, Write, Branch, Command, Module, plain, File}
use Rattle.prism_print.specs.Text.{file_text}

-- ---- names, and what is made of them; all places are 0
abbrev pub called : List ℕ → Named
called x = record { name = x; at = 0 }

-- how far each variable counts
abbrev pub limit : List ℕ
limit = codes "K"

-- of the module of this number, its variable, and the action with which it hands on
abbrev pub module_name : ℕ → List ℕ
module_name k = codes "m" ++ decimal k

abbrev pub variable : ℕ → List ℕ
variable k = codes "x" ++ decimal k

abbrev pub action : ℕ → List ℕ
action k = codes "a" ++ decimal k

abbrev pub number : ℕ → Expression
number n = Number 0 (literal false false n (pos 0))

abbrev pub value : List ℕ → Expression
value x = Name 0 x

-- ---- commands of a module with this variable, whose name here is x
-- x < K
abbrev pub is_below : List ℕ → Expression
is_below x = Two 0 Less (value x) (value limit)

-- (x'=x + 1)
abbrev pub counted_up : List ℕ → List Write
counted_up x = record { name = called x; value = Two 0 Add (value x) (number 1) } ∷ []

-- 1 / 2 : ..
abbrev pub by_half : List Write → Branch
by_half ws = record { weight = Some (Two 0 Div (number 1) (number 2)); writes = ws }

abbrev pub surely : List Write → List Branch
surely ws = record { weight = None; writes = ws } ∷ []

-- [] x < K -> 1 / 2 : (x'=x + 1) + 1 / 2 : true;
abbrev pub by_chance : List ℕ → Command
by_chance x = record { action = None; guard = is_below x; branches = by_half (counted_up x) ∷ by_half [] ∷ [] }

-- [a] x < K -> (x'=x + 1);
abbrev pub is_handed : List ℕ → List ℕ → Command
is_handed a x = record { action = Some (called a); guard = is_below x; branches = surely (counted_up x) }

-- [a] x = K -> (x'=0);
abbrev pub hands_on : List ℕ → List ℕ → Command
hands_on a x = record {
  action = Some (called a);
  guard = Two 0 Equal (value x) (value limit);
  branches = surely (record { name = called x; value = number 0 } ∷ []);
}

-- x : [0..3] init 0;
abbrev pub counter : List ℕ → Var
counter x = record { name = called x; range = Some (record { low = number 0; high = number 3 }); start = Some (number 0) }

-- ---- modules
-- the command that goes with the module before, of which the first has none
abbrev pub handed_to : ℕ → List Command
handed_to zero = []
handed_to (suc k) = is_handed (action k) (variable (suc k)) ∷ []

abbrev pub generated_module : ℕ → Module
generated_module k = plain (record {
  name = called (module_name k);
  vars = counter (variable k) ∷ [];
  commands = by_chance (variable k) ∷ (handed_to k ++ hands_on (action k) (variable k) ∷ []);
})

-- const int K = 3; and so many modules, numbered from 0
abbrev pub generated_file : ℕ → File
generated_file modules = record {
  constants = record { name = called limit; ty = T.Int; value = Some (number 3) } ∷ [];
  globals = [];
  formulas = [];
  modules = map generated_module (range_with_len 0 modules);
  labels = [];
  rewards = [];
  init = None;
  end = 0;
}

-- its canonical text
abbrev pub generated_text : ℕ → List ℕ
generated_text modules = file_text (generated_file modules)
