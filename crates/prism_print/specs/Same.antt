-- The same file, offsets aside, and the texts that spell it.
use Rattle.std.specs.Prelude.{◌≡◌, ℕ, List, map}
use Rattle.std.specs.Option.{option_map}
use Rattle.op_trees.specs.Tree.{bare}
use Rattle.op_trees.specs.Names.{bare_name}
use Rattle.prism_tree.specs.declared.syntax.CopiedModule.{CopiedModule}
use Rattle.prism_tree.specs.declared.syntax.NamePair.{NamePair}
use Rattle.prism_tree.specs.declared.syntax.ItemOn.{ItemOn}
use Rattle.prism_tree.specs.declared.syntax.ItemOn.TheVariants.{InState, Silent, Action}
use Rattle.prism_tree.specs.Syntax.{Const, Range, Var, Formula, Label, Write, Branch, Command, Body, Module, plain, copied, Item, Rewards, File}
use Rattle.prism_tree.specs.Faults.{Spells}

-- Two files are the same where they are equal with every offset 0.
abbrev pub bare_const : Const → Const
bare_const c = record { name = bare_name c.name; ty = c.ty; value = option_map bare c.value }

abbrev pub bare_range : Range → Range
bare_range r = record { low = bare r.low; high = bare r.high }

abbrev pub bare_var : Var → Var
bare_var v = record { name = bare_name v.name; range = option_map bare_range v.range; start = option_map bare v.start }

abbrev pub bare_formula : Formula → Formula
bare_formula f = record { name = bare_name f.name; body = bare f.body }

abbrev pub bare_label : Label → Label
bare_label l = record { name = bare_name l.name; body = bare l.body }

abbrev pub bare_write : Write → Write
bare_write w = record { name = bare_name w.name; value = bare w.value }

abbrev pub bare_branch : Branch → Branch
bare_branch b = record { weight = option_map bare b.weight; writes = map bare_write b.writes }

abbrev pub bare_command : Command → Command
bare_command c = record { action = option_map bare_name c.action; guard = bare c.guard; branches = map bare_branch c.branches }

abbrev pub bare_body : Body → Body
bare_body m = record { name = bare_name m.name; vars = map bare_var m.vars; commands = map bare_command m.commands }

abbrev pub bare_pair : NamePair → NamePair
bare_pair p = record { old = bare_name p.old; new = bare_name p.new }

abbrev pub bare_copy : CopiedModule → CopiedModule
bare_copy m = record { name = bare_name m.name; from = bare_name m.from; pairs = map bare_pair m.pairs }

abbrev pub bare_module : Module → Module
bare_module (plain m) = plain (bare_body m)
bare_module (copied m) = copied (bare_copy m)

abbrev pub bare_on : ItemOn → ItemOn
bare_on InState = InState
bare_on Silent = Silent
bare_on (Action a) = Action (bare_name a)

abbrev pub bare_item : Item → Item
bare_item i = record { on = bare_on i.on; guard = bare i.guard; value = bare i.value }

abbrev pub bare_rewards : Rewards → Rewards
bare_rewards r = record { name = option_map bare_name r.name; items = map bare_item r.items }

-- the file with every offset 0, the length of its text too
abbrev pub bare_file : File → File
bare_file f = record {
  constants = map bare_const f.constants;
  globals = map bare_var f.globals;
  formulas = map bare_formula f.formulas;
  modules = map bare_module f.modules;
  labels = map bare_label f.labels;
  rewards = map bare_rewards f.rewards;
  init = option_map bare f.init;
  end = 0;
}

-- The text spells a file that is the same as this one, offsets aside.
abbrev pub SpellsFile : List ℕ → File → Type 0
SpellsFile text f = (g : File) × Spells text g × (bare_file g ≡ bare_file f)
