-- Written out, a file whose names are short asks for short names.
use Rattle.std.proofs.Common.{Bool, true, false, cond, not, List, [], ◌∷◌, ◌++◌, map, flat_map, Option, Some, None, bytes_eq}
use Rattle.std.specs.List.{AllByRecursion as Each}
use Rattle.basics.specs.Each.{each_map, each_join, each_flat, each_filter, each_found, any_map}
use Rattle.basics.specs.Options.{if_some, IfAny}
use Rattle.bridge_io.specs.declared.reason.Named.{Named}
use Rattle.op_trees.specs.Names.{is_called}
use Rattle.process_core.specs.Ready.{Name, firsts}
use Rattle.prism_tree.specs.declared.syntax.NamePair.{NamePair}
use Rattle.prism_tree.specs.Syntax.{Var, Command, Body, Module, plain, copied, File}
use Rattle.prism_names.specs.Names.{Part, copy_of, part_of, module_name, module_called, renaming, unchanged}
use Rattle.prism_names.specs.Flat.{flat, flat_constant, flat_var, flat_command, flat_module, flat_label, flat_rewards}
use Rattle.name_table.specs.Entries.{Ask}
use Rattle.name_table.specs.declared.class.NameClass.TheVariants.{Constant, Variable, Label as OfLabel, Reward, Module as OfModule, Action}
use Rattle.name_table.specs.Asks.{ask, called, action_of, bodies, variables, actions, constant_asks, variable_asks, label_asks, reward_asks, module_asks, action_asks}
use Rattle.short_names.specs.ShortNames.{IsShort, ShortNamed, ShortConst, ShortVar, ShortCommand, ShortLabel, ShortPair, ShortModule, ShortRewards, HasShortNames}
use Rattle.short_names.specs.TranslationLaws.{AsksAreShort, FlatNamesAreShort}

abbrev IsShortAsk : Ask → Type 0
IsShortAsk a = IfAny IsShort a.1

abbrev IsShortVar : Var → Type 0
IsShortVar v = ShortNamed v.name

abbrev IsShortCommand : Command → Type 0
IsShortCommand c = IfAny ShortNamed c.action

-- the names that a module asks for
record IsShortBody (m : Body) : Type 0 where
  name : ShortNamed m.name
  vars : Each IsShortVar m.vars
  commands : Each IsShortCommand m.commands

-- ---- parts of modules

-- a renaming keeps names short
abbrev KeepsShort : (Name → Name) → Type 0
KeepsShort rename = (x : Name) → IsShort x → IsShort (rename x)

renaming_short : (ps : List NamePair) → Each ShortPair ps → KeepsShort (renaming ps)
renaming_short [] e x h = h
renaming_short (p ∷ ps) e x h = by_test (is_called x p.old) (renaming_short ps e.1 x h)
  where
    by_test : (b : Bool) → IsShort (renaming ps x) → IsShort (cond b p.new.name (renaming ps x))
    by_test true k = e.0.1
    by_test false k = k

record IsShortPart (p : Part) : Type 0 where
  rename : KeepsShort p.rename
  vars : Each ShortVar p.vars
  commands : Each ShortCommand p.commands

copy_short : (rename : Name → Name) → KeepsShort rename → (o : Option Module) → IfAny ShortModule o → IsShortPart (copy_of rename o)
copy_short rename k None s = record { rename = k; vars = tt; commands = tt }
copy_short rename k (Some (plain m)) s = record { rename = k; vars = s.1; commands = s.2 }
copy_short rename k (Some (copied m)) s = record { rename = k; vars = tt; commands = tt }

module _ (file : File) (short : HasShortNames file) where
  part_short : (m : Module) → ShortModule m → IsShortPart (part_of file m)
  part_short (plain m) s = record { rename = λ x h. h; vars = s.1; commands = s.2 }
  part_short (copied m) s =
      copy_short (renaming m.pairs) (renaming_short m.pairs s.2) (module_called file m.from.name) (each_found ShortModule (λ u. is_called m.from.name (module_name u)) file.modules short.modules)

  name_short : (m : Module) → ShortModule m → ShortNamed (module_name m)
  name_short (plain m) s = s.0
  name_short (copied m) s = s.0

  command_short : (rename : Name → Name) → KeepsShort rename → (c : Command) → ShortCommand c → IsShortCommand (flat_command file rename c)
  command_short rename k c s = any_map ShortNamed ShortNamed (λ n. record { name = rename n.name; at = n.at }) (λ n h. k n.name h) c.action s.0

  abbrev body_of : Module → Body
  body_of m = record { name = module_name m; vars = map (flat_var file (part_of file m).rename) (part_of file m).vars; commands = map (flat_command file (part_of file m).rename) (part_of file m).commands }

  body_short : (m : Module) → ShortModule m → IsShortBody (body_of m)
  body_short m s =
      let p = part_short m s in
      record {
        name = name_short m s;
        vars = each_map ShortVar IsShortVar (flat_var file (part_of file m).rename) (λ v h. p.rename v.name.name h.0) (part_of file m).vars p.vars;
        commands = each_map ShortCommand IsShortCommand (flat_command file (part_of file m).rename) (command_short (part_of file m).rename p.rename) (part_of file m).commands p.commands;
      }

  bodies_short : (ms : List Module) → Each ShortModule ms → Each IsShortBody (bodies (record { constants = []; globals = []; formulas = []; modules = map (flat_module file) ms; labels = []; rewards = []; init = None; end = 0 }))
  bodies_short [] s = tt
  bodies_short (m ∷ ms) s = (body_short m s.0, bodies_short ms s.1)

  all_bodies : Each IsShortBody (bodies (flat file))
  all_bodies = bodies_short file.modules short.modules

  -- ---- asks
  constants_short : AsksAreShort (constant_asks (flat file))
  constants_short =
      each_map (λ c. ShortNamed c.name) IsShortAsk (λ c. ask Constant c.name.name) (λ c h. h) (flat file).constants
      (each_map ShortConst (λ c. ShortNamed c.name) (flat_constant file) (λ c h. h.0) file.constants short.constants)

  variables_short : AsksAreShort (variable_asks (flat file))
  variables_short =
      each_map IsShortVar IsShortAsk (λ x. ask Variable x.name.name) (λ x h. h) (variables (flat file))
      (each_join IsShortVar (flat file).globals (flat_map (λ m. m.vars) (bodies (flat file)))
      (each_map ShortVar IsShortVar (flat_var file unchanged) (λ v h. h.0) file.globals short.globals)
      (each_flat IsShortBody IsShortVar (λ m. m.vars) (λ m h. h.vars) (bodies (flat file)) all_bodies))

  labels_short : AsksAreShort (label_asks (flat file))
  labels_short =
      each_map (λ l. ShortNamed l.name) IsShortAsk (λ l. ask OfLabel l.name.name) (λ l h. h) (flat file).labels
      (each_map ShortLabel (λ l. ShortNamed l.name) (flat_label file) (λ l h. h.0) file.labels short.labels)

  rewards_short : AsksAreShort (reward_asks (flat file))
  rewards_short =
      each_map (λ r. IfAny IsShort (called r.name)) IsShortAsk (λ r. (Reward, called r.name)) (λ r h. h) (flat file).rewards
      (each_map ShortRewards (λ r. IfAny IsShort (called r.name)) (flat_rewards file) (λ r h. any_map ShortNamed IsShort (λ x. x.name) (λ x k. k) r.name h.0) file.rewards short.rewards)

  modules_short : AsksAreShort (module_asks (flat file))
  modules_short = each_map IsShortBody IsShortAsk (λ m. ask OfModule m.name.name) (λ m h. h.name) (bodies (flat file)) all_bodies

  firsts_short : (xs : List Name) → Each IsShort xs → Each IsShort (firsts bytes_eq xs)
  firsts_short [] h = tt
  firsts_short (x ∷ xs) h = (h.0, each_filter IsShort (λ y. not (bytes_eq x y)) (firsts bytes_eq xs) (firsts_short xs h.1))

  action_short : (o : Option Named) → IfAny ShortNamed o → Each IsShort (if_some (called o))
  action_short None h = tt
  action_short (Some a) h = (h, tt)

  actions_short : AsksAreShort (action_asks (flat file))
  actions_short =
      each_map IsShort IsShortAsk (ask Action) (λ x h. h) (actions (flat file))
      (firsts_short (flat_map (λ m. flat_map (λ c. if_some (action_of c)) m.commands) (bodies (flat file)))
      (each_flat IsShortBody IsShort (λ m. flat_map (λ c. if_some (action_of c)) m.commands)
      (λ m h. each_flat IsShortCommand IsShort (λ c. if_some (action_of c)) (λ c k. action_short c.action k) m.commands h.commands) (bodies (flat file)) all_bodies))

pub flat_names : FlatNamesAreShort
flat_names file short =
    let cs = constant_asks (flat file) in
    let vs = variable_asks (flat file) in
    let ls = label_asks (flat file) in
    let rs = reward_asks (flat file) in
    let ms = module_asks (flat file) in
    let as_ = action_asks (flat file) in
    each_join IsShortAsk cs (vs ++ (ls ++ (rs ++ (ms ++ as_)))) (constants_short file short)
    (each_join IsShortAsk vs (ls ++ (rs ++ (ms ++ as_))) (variables_short file short)
    (each_join IsShortAsk ls (rs ++ (ms ++ as_)) (labels_short file short)
    (each_join IsShortAsk rs (ms ++ as_) (rewards_short file short) (each_join IsShortAsk ms as_ (modules_short file short) (actions_short file short)))))
