-- How the logic stores what contracts see of a judged file: as a tree that the code could hold, and a list.
use Rattle.std.specs.Prelude.{◌≡◌, ℕ, List, [], ◌∷◌, map, Option, Some, None}
use Rattle.std.specs.Option.{option_map}
use Rattle.std.specs.Coded.{Coded, code_by, coded×, coded_ℕ, coded_list}
use denote.RawPtr.{null_ptr}
use Rattle.std.specs.Global.{Box}
use Rattle.std.proofs.Common.{refl, ap, ap₂, ◌∙◌}
use Rattle.op_trees.specs.Tree.{Tree, Truth, Number, Name, One, Two, Three, tree}
use Rattle.op_trees.specs.declared.tree.Expr.{Expr}
use Rattle.op_trees.specs.declared.tree.Expr.TheVariants as E
use Rattle.prism_tree.specs.declared.syntax.PrismFile.{PrismFile}
use Rattle.prism_tree.specs.declared.syntax.PrismConst.{PrismConst}
use Rattle.prism_tree.specs.declared.syntax.PrismRange.{PrismRange}
use Rattle.prism_tree.specs.declared.syntax.PrismVar.{PrismVar}
use Rattle.prism_tree.specs.declared.syntax.PrismFormula.{PrismFormula}
use Rattle.prism_tree.specs.declared.syntax.PrismLabel.{PrismLabel}
use Rattle.prism_tree.specs.declared.syntax.PrismWrite.{PrismWrite}
use Rattle.prism_tree.specs.declared.syntax.PrismBranch.{PrismBranch}
use Rattle.prism_tree.specs.declared.syntax.PrismCommand.{PrismCommand}
use Rattle.prism_tree.specs.declared.syntax.PrismModule.{PrismModule}
use Rattle.prism_tree.specs.declared.syntax.PrismModule.TheVariants as M
use Rattle.prism_tree.specs.declared.syntax.PlainModule.{PlainModule}
use Rattle.prism_tree.specs.declared.syntax.PrismItem.{PrismItem}
use Rattle.prism_tree.specs.declared.syntax.PrismRewards.{PrismRewards}
use Rattle.prism_tree.specs.contracts.syntax.PrismFile as file
use Rattle.prism_tree.specs.Syntax.{Const, Range, Var, Formula, Label, Write, Branch, Command, Body, Module, plain, copied, Item, Rewards, File, const_of, range_of, var_of, formula_of, label_of, write_of, branch_of, command_of, body_of, module_of, item_of, rewards_of, file_of}
use Rattle.prism_check.specs.Checked.{Checked}

-- a box that stands nowhere
abbrev nowhere : Box (Unit {0})
nowhere = record { ptr = null_ptr; alloc = record { memory = record { seal = tt } }; value = tt }

module _ {O : Type 0} where
  abbrev pub held : Tree O → Expr O
  held (Truth at b) = E.Truth at b
  held (Number at d) = E.Number at d
  held (Name at x) = E.Name at x
  held (One at o a) = E.One' at o nowhere (held a)
  held (Two at o a b) = E.Two' at o nowhere (held a) nowhere (held b)
  held (Three at o a b c) = E.Three' at o nowhere (held a) nowhere (held b) nowhere (held c)

  pub tree-held : (e : Tree O) → tree (held e) ≡ e
  tree-held (Truth at b) = refl
  tree-held (Number at d) = refl
  tree-held (Name at x) = refl
  tree-held (One at o a) = ap (One at o) (tree-held a)
  tree-held (Two at o a b) = ap₂ (Two at o) (tree-held a) (tree-held b)
  tree-held (Three at o a b c) = ap (λ x. Three at o x (tree (held b)) (tree (held c))) (tree-held a) ∙ ap₂ (Three at o a) (tree-held b) (tree-held c)

-- what comes back of each, and of all
module _ {A B : Type 0} (to : A → B) (from : B → A) (back : (a : A) → from (to a) ≡ a) where
  pub map-back : (xs : List A) → map from (map to xs) ≡ xs
  map-back [] = refl
  map-back (x ∷ xs) = ap₂ (λ y ys. y ∷ ys) (back x) (map-back xs)

  pub option-back : (o : Option A) → option_map from (option_map to o) ≡ o
  option-back None = refl
  option-back (Some x) = ap Some (back x)

abbrev pub held_const : Const → PrismConst
held_const c = record { name = c.name; ty = c.ty; value = option_map held c.value }

pub const-back : (c : Const) → const_of (held_const c) ≡ c
const-back c = ap (λ v. record c { value = v }) (option-back held tree tree-held c.value)

abbrev pub held_range : Range → PrismRange
held_range r = record { low = held r.low; high = held r.high }

pub range-back : (r : Range) → range_of (held_range r) ≡ r
range-back r = ap₂ (λ x y. record { low = x; high = y }) (tree-held r.low) (tree-held r.high)

abbrev pub held_var : Var → PrismVar
held_var v = record { name = v.name; range = option_map held_range v.range; start = option_map held v.start }

pub var-back : (v : Var) → var_of (held_var v) ≡ v
var-back v =
    ap₂ (λ r s. record { name = v.name; range = r; start = s }) (option-back held_range range_of range-back v.range) (option-back held tree tree-held v.start)

abbrev pub held_formula : Formula → PrismFormula
held_formula f = record { name = f.name; body = held f.body }

pub formula-back : (f : Formula) → formula_of (held_formula f) ≡ f
formula-back f = ap (λ e. record { name = f.name; body = e }) (tree-held f.body)

abbrev pub held_label : Label → PrismLabel
held_label l = record { name = l.name; body = held l.body }

pub label-back : (l : Label) → label_of (held_label l) ≡ l
label-back l = ap (λ e. record { name = l.name; body = e }) (tree-held l.body)

abbrev pub held_write : Write → PrismWrite
held_write w = record { name = w.name; value = held w.value }

pub write-back : (w : Write) → write_of (held_write w) ≡ w
write-back w = ap (λ e. record { name = w.name; value = e }) (tree-held w.value)

abbrev pub held_branch : Branch → PrismBranch
held_branch b = record { weight = option_map held b.weight; writes = map held_write b.writes }

pub branch-back : (b : Branch) → branch_of (held_branch b) ≡ b
branch-back b =
    ap₂ (λ w ws. record { weight = w; writes = ws }) (option-back held tree tree-held b.weight) (map-back held_write write_of write-back b.writes)

abbrev pub held_command : Command → PrismCommand
held_command c = record { action = c.action; guard = held c.guard; branches = map held_branch c.branches }

pub command-back : (c : Command) → command_of (held_command c) ≡ c
command-back c =
    ap₂ (λ g bs. record { action = c.action; guard = g; branches = bs }) (tree-held c.guard) (map-back held_branch branch_of branch-back c.branches)

abbrev pub held_body : Body → PlainModule
held_body m = record { name = m.name; vars = map held_var m.vars; commands = map held_command m.commands }

pub body-back : (m : Body) → body_of (held_body m) ≡ m
body-back m =
    ap₂ (λ vs cs. record { name = m.name; vars = vs; commands = cs }) (map-back held_var var_of var-back m.vars) (map-back held_command command_of command-back m.commands)

abbrev pub held_module : Module → PrismModule
held_module (plain m) = M.Plain (held_body m)
held_module (copied m) = M.Copied m

pub module-back : (m : Module) → module_of (held_module m) ≡ m
module-back (plain m) = ap plain (body-back m)
module-back (copied m) = refl

abbrev pub held_item : Item → PrismItem
held_item i = record { on = i.on; guard = held i.guard; value = held i.value }

pub item-back : (i : Item) → item_of (held_item i) ≡ i
item-back i = ap₂ (λ g v. record { on = i.on; guard = g; value = v }) (tree-held i.guard) (tree-held i.value)

abbrev pub held_rewards : Rewards → PrismRewards
held_rewards r = record { name = r.name; items = map held_item r.items }

pub rewards-back : (r : Rewards) → rewards_of (held_rewards r) ≡ r
rewards-back r = ap (λ is. record { name = r.name; items = is }) (map-back held_item item_of item-back r.items)

abbrev pub held_file : File → PrismFile
held_file f = record {
  constants = map held_const f.constants;
  globals = map held_var f.globals;
  formulas = map held_formula f.formulas;
  modules = map held_module f.modules;
  labels = map held_label f.labels;
  rewards = map held_rewards f.rewards;
  init = option_map held f.init;
  end = f.end;
}

pub file-back : (f : File) → file_of (held_file f) ≡ f
file-back f =
    let g = file_of (held_file f) in
    ap₂ (λ xs ys. record g { constants = xs; globals = ys }) (map-back held_const const_of const-back f.constants) (map-back held_var var_of var-back f.globals)
    ∙ ap₂ (λ xs ys. record g { constants = f.constants; globals = f.globals; formulas = xs; modules = ys })
    (map-back held_formula formula_of formula-back f.formulas) (map-back held_module module_of module-back f.modules)
    ∙ ap₂ (λ xs ys. record f { labels = xs; rewards = ys; init = option_map tree (option_map held f.init) }) (map-back held_label label_of label-back f.labels) (map-back held_rewards rewards_of rewards-back f.rewards)
    ∙ ap (λ o. record f { init = o }) (option-back held tree tree-held f.init)

abbrev pub checked_code : Coded Checked
checked_code =
    code_by (PrismFile × List ℕ) (coded× file.the_row.coded (coded_list coded_ℕ))
    (λ c. (held_file c.file, c.order)) (λ p. record { file = file_of p.0; order = p.1 })
    (λ c. ap (λ f. record { file = f; order = c.order }) (file-back c.file))
