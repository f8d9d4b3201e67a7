-- A file with its formulas and its copies of modules written out (PRISM manual, "The PRISM Language": "Formulas and
-- Labels", "Module Renaming"). It has no formula, and each of its modules has its own contents.
use Rattle.std.specs.Prelude.{[], map, length}
use Rattle.std.specs.Option.{option_map}
use Rattle.bridge_io.specs.declared.reason.Named.{Named}
use Rattle.op_trees.specs.Tree.{written_out, renamed}
use Rattle.process_core.specs.Ready.{Name}
use Rattle.prism_tree.specs.Syntax.{Expression, Const, Range, Var, Label, Write, Branch, Command, Module, plain, Item, Rewards, File}
use Rattle.prism_names.specs.Names.{formula_body, unchanged, written_name, module_name, Part, part_of}

module _ (file : File) where
  -- an expression with its formulas written out, and its names then replaced
  abbrev pub flat_expression : (Name → Name) → Expression → Expression
  flat_expression rename e = renamed rename (written_out (formula_body file) (length file.formulas) e)

  abbrev pub flat_name : (Name → Name) → Named → Named
  flat_name rename n = record { name = rename n.name; at = n.at }

  abbrev pub flat_range : (Name → Name) → Range → Range
  flat_range rename r = record { low = flat_expression rename r.low; high = flat_expression rename r.high }

  abbrev pub flat_var : (Name → Name) → Var → Var
  flat_var rename x = record {
    name = flat_name rename x.name;
    range = option_map (flat_range rename) x.range;
    start = option_map (flat_expression rename) x.start;
  }

  abbrev pub flat_write : (Name → Name) → Write → Write
  flat_write rename w = record { name = flat_name (written_name file rename) w.name; value = flat_expression rename w.value }

  abbrev pub flat_branch : (Name → Name) → Branch → Branch
  flat_branch rename b = record { weight = option_map (flat_expression rename) b.weight; writes = map (flat_write rename) b.writes }

  abbrev pub flat_command : (Name → Name) → Command → Command
  flat_command rename c = record {
    action = option_map (flat_name rename) c.action;
    guard = flat_expression rename c.guard;
    branches = map (flat_branch rename) c.branches;
  }

  abbrev pub plain_from : Named → Part → Module
  plain_from n p = plain (record { name = n; vars = map (flat_var p.rename) p.vars; commands = map (flat_command p.rename) p.commands })

  abbrev pub flat_module : Module → Module
  flat_module m = plain_from (module_name m) (part_of file m)

  abbrev pub flat_constant : Const → Const
  flat_constant c = record { name = c.name; ty = c.ty; value = option_map (flat_expression unchanged) c.value }

  abbrev pub flat_label : Label → Label
  flat_label l = record { name = l.name; body = flat_expression unchanged l.body }

  abbrev pub flat_item : Item → Item
  flat_item i = record { on = i.on; guard = flat_expression unchanged i.guard; value = flat_expression unchanged i.value }

  abbrev pub flat_rewards : Rewards → Rewards
  flat_rewards r = record { name = r.name; items = map flat_item r.items }

abbrev pub flat : File → File
flat file = record {
  constants = map (flat_constant file) file.constants;
  globals = map (flat_var file unchanged) file.globals;
  formulas = [];
  modules = map (flat_module file) file.modules;
  labels = map (flat_label file) file.labels;
  rewards = map (flat_rewards file) file.rewards;
  init = option_map (flat_expression file unchanged) file.init;
  end = file.end;
}
