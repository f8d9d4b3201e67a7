-- A PRISM file whose parts may be spelled, and whose names are declared: it may be spelled, and it has no unknown name.
use Rattle.std.specs.Prelude.{◌≡◌, List, [], ◌++◌, map, Bool, true, not, Option, Some, None, is_some}
use Rattle.std.specs.List.{flat_map, AllByRecursion as Each}
use Rattle.std.proofs.Common.{ap, sym, subst}
use Rattle.basics.specs.Lists.{append_both}
use Rattle.basics.specs.Each.{each_then, each_map, each_join, each_empty, each_flat}
use Rattle.bridge_io.specs.declared.reason.Reason.TheVariants.{Unknown}
use Rattle.op_trees.specs.declared.tree.Ty.{Ty}
use Rattle.op_trees.specs.Names.{names_of}
use Rattle.name_rules.proofs.Plain.{fault_none}
use Rattle.basics.specs.Options.{if_some, IfAny}
use Rattle.process_core.specs.Ready.{Name}
use Rattle.prism_tree.specs.Syntax.{Expression, Const, Range, Var, Label, Write, Branch, Command, Body, Module, plain, copied, Item, Rewards, File}
use Rattle.prism_print.specs.Printable.{IsIdentifier, IsTitle, IsPrintableExpression, IsPrintableConst, IsPrintableRange, IsPrintableVar, IsPrintableFormula, IsPrintableLabel, IsPrintableWrite, IsPrintableBranch, AreBranches, IsPrintableCommand, IsPrintableModule, IsPrintableOn, IsPrintableItem, IsPrintableRewards, IsPrintable}
use Rattle.op_trees.specs.Wanted.{wanted_by}
use Rattle.prism_check.specs.Demands.{Demand, fixed, written, type_by, const_demands, range_demands, var_demands, branch_demands, command_demands, label_demands, item_demands, rewards_demands, formula_demands, init_demands, outer_demands}
use Rattle.prism_check.specs.NameFaults.{is_among, values, unless_known, unknown_by, unknown, unknown_in, unknown_names}
use Rattle.prism_translation_laws.proofs.Lists.{any_then}

module _ (known : Name → Bool) where
  -- all its names are known
  abbrev pub Clean : Expression → Type 0
  Clean e = flat_map (unless_known known) (names_of e) ≡ []

  -- ---- parts that may be spelled, with names that are known
  abbrev pub Good : Expression → Type 0
  Good e = IsPrintableExpression e × Clean e

  abbrev pub GoodConst : Const → Type 0
  GoodConst c = IsIdentifier c.name × IfAny Good c.value

  abbrev pub GoodRange : Range → Type 0
  GoodRange r = Good r.low × Good r.high

  abbrev pub GoodVar : Var → Type 0
  GoodVar x = IsIdentifier x.name × IfAny GoodRange x.range × IfAny Good x.start

  abbrev pub GoodLabel : Label → Type 0
  GoodLabel l = IsTitle l.name × Good l.body

  abbrev pub GoodWrite : Write → Type 0
  GoodWrite w = IsIdentifier w.name × (known w.name.name ≡ true) × Good w.value

  abbrev pub GoodBranch : Branch → Type 0
  GoodBranch b = IfAny Good b.weight × Each GoodWrite b.writes

  abbrev pub GoodCommand : Command → Type 0
  GoodCommand c = IfAny IsIdentifier c.action × Good c.guard × AreBranches c.branches × Each GoodBranch c.branches

  abbrev pub GoodBody : Body → Type 0
  GoodBody m = IsIdentifier m.name × Each GoodVar m.vars × Each GoodCommand m.commands

  -- there are no copies
  abbrev pub GoodModule : Module → Type 0
  GoodModule (plain m) = GoodBody m
  GoodModule (copied m) = ⊥

  abbrev pub GoodItem : Item → Type 0
  GoodItem i = IsPrintableOn i.on × Good i.guard × Good i.value

  abbrev pub GoodRewards : Rewards → Type 0
  GoodRewards r = IfAny IsTitle r.name × Each GoodItem r.items

  -- ---- they may be spelled
  print_range : (r : Range) → GoodRange r → IsPrintableRange r
  print_range r g = (g.0.0, g.1.0)

  print_const : (c : Const) → GoodConst c → IsPrintableConst c
  print_const c g = (g.0, any_then Good IsPrintableExpression (λ e h. h.0) c.value g.1)

  print_var : (x : Var) → GoodVar x → IsPrintableVar x
  print_var x g = (g.0, any_then GoodRange IsPrintableRange print_range x.range g.1, any_then Good IsPrintableExpression (λ e h. h.0) x.start g.2)

  print_label : (l : Label) → GoodLabel l → IsPrintableLabel l
  print_label l g = (g.0, g.1.0)

  print_write : (w : Write) → GoodWrite w → IsPrintableWrite w
  print_write w g = (g.0, g.2.0)

  print_branch : (b : Branch) → GoodBranch b → IsPrintableBranch b
  print_branch b g = (any_then Good IsPrintableExpression (λ e h. h.0) b.weight g.0, each_then GoodWrite IsPrintableWrite print_write b.writes g.1)

  print_command : (c : Command) → GoodCommand c → IsPrintableCommand c
  print_command c g = (g.0, g.1.0, g.2, each_then GoodBranch IsPrintableBranch print_branch c.branches g.3)

  print_module : (m : Module) → GoodModule m → IsPrintableModule m
  print_module (plain m) g = (g.0, each_then GoodVar IsPrintableVar print_var m.vars g.1, each_then GoodCommand IsPrintableCommand print_command m.commands g.2)
  print_module (copied m) g = absurd g

  print_item : (i : Item) → GoodItem i → IsPrintableItem i
  print_item i g = (g.0, g.1.0, g.2.0)

  print_rewards : (r : Rewards) → GoodRewards r → IsPrintableRewards r
  print_rewards r g = (g.0, each_then GoodItem IsPrintableItem print_item r.items g.1)

  -- ---- no name in what they demand is unknown
  abbrev Fine : Demand → Type 0
  Fine d = unknown_by known d ≡ []

  fine_value : (t : Ty) (o : Option Expression) → IfAny Good o → Each Fine (map (fixed (wanted_by t)) (if_some o))
  fine_value t None g = tt
  fine_value t (Some e) g = (g.1, tt)

  fine_const : (c : Const) → GoodConst c → Each Fine (const_demands c)
  fine_const c g = fine_value c.ty c.value g.1

  fine_range : (r : Option Range) → IfAny GoodRange r → Each Fine (range_demands r)
  fine_range None g = tt
  fine_range (Some r) g = (g.0.1, (g.1.1, tt))

  fine_var : (x : Var) → GoodVar x → Each Fine (var_demands x)
  fine_var x g =
      each_join Fine (range_demands x.range) (map (fixed (wanted_by (type_by x.range))) (if_some x.start)) (fine_range x.range g.1)
      (fine_value (type_by x.range) x.start g.2)

  fine_label : (l : Label) → GoodLabel l → Each Fine (label_demands l)
  fine_label l g = (g.1.1, tt)

  fine_item : (i : Item) → GoodItem i → Each Fine (item_demands i)
  fine_item i g = (g.1.1, (g.2.1, tt))

  fine_rewards : (r : Rewards) → GoodRewards r → Each Fine (rewards_demands r)
  fine_rewards r g = each_flat GoodItem Fine item_demands fine_item r.items g.1

  fine_write : (acts : Bool) (w : Write) → GoodWrite w → Fine (written acts w)
  fine_write acts w g =
      append_both (unless_known known w.name) (flat_map (unless_known known) (names_of w.value))
      (fault_none (not (known w.name.name)) w.name.at Unknown (ap not g.1)) g.2.1

  fine_branch : (acts : Bool) (o : Option Expression) (ws : List Write) → IfAny Good o → Each GoodWrite ws → Each Fine (branch_demands acts (record { weight = o; writes = ws }))
  fine_branch acts None ws g h = each_map GoodWrite Fine (written acts) (fine_write acts) ws h
  fine_branch acts (Some e) ws g h = (g.1, each_map GoodWrite Fine (written acts) (fine_write acts) ws h)

  fine_command : (c : Command) → GoodCommand c → Each Fine (command_demands c)
  fine_command c g = (
    g.1.1,
    each_flat GoodBranch Fine (branch_demands (is_some c.action)) (λ b h. fine_branch (is_some c.action) b.weight b.writes h.0 h.1) c.branches g.3,
  )

  fine_body : (m : Body) → GoodBody m → Each Fine (flat_map var_demands m.vars ++ flat_map command_demands m.commands)
  fine_body m g =
      each_join Fine (flat_map var_demands m.vars) (flat_map command_demands m.commands) (each_flat GoodVar Fine var_demands fine_var m.vars g.1)
      (each_flat GoodCommand Fine command_demands fine_command m.commands g.2)

  fine_init : (o : Option Expression) → IfAny Good o → Each Fine (init_demands o)
  fine_init None g = tt
  fine_init (Some e) g = (g.1, tt)

-- ---- a file
abbrev pub is_value : File → Name → Bool
is_value file = is_among (values file)

pub record IsGood (file : File) : Type 0 where
  pub constants : Each (GoodConst (is_value file)) file.constants
  pub globals : Each (GoodVar (is_value file)) file.globals
  pub formulas : file.formulas ≡ []
  pub modules : Each (GoodModule (is_value file)) file.modules
  pub labels : Each (GoodLabel (is_value file)) file.labels
  pub rewards : Each (GoodRewards (is_value file)) file.rewards
  pub init : IfAny (Good (is_value file)) file.init

pub good_printable : (file : File) → IsGood file → IsPrintable file
good_printable file g =
    let known = is_value file in
    record {
      constants = each_then (GoodConst known) IsPrintableConst (print_const known) file.constants g.constants;
      globals = each_then (GoodVar known) IsPrintableVar (print_var known) file.globals g.globals;
      formulas = subst (λ fs. Each IsPrintableFormula fs) (sym g.formulas) tt;
      modules = each_then (GoodModule known) IsPrintableModule (print_module known) file.modules g.modules;
      labels = each_then (GoodLabel known) IsPrintableLabel (print_label known) file.labels g.labels;
      rewards = each_then (GoodRewards known) IsPrintableRewards (print_rewards known) file.rewards g.rewards;
      init = any_then (Good known) IsPrintableExpression (λ e h. h.0) file.init g.init;
    }

known_in : (file : File) (m : Module) → GoodModule (is_value file) m → unknown_in file m ≡ []
known_in file (plain m) g = each_empty (unknown file) (flat_map var_demands m.vars ++ flat_map command_demands m.commands) (fine_body (is_value file) m g)
known_in file (copied m) g = absurd g

pub good_known : (file : File) → IsGood file → unknown_names file ≡ []
good_known file g =
    let known = is_value file in
    let F : Demand → Type 0 = λ d. unknown file d ≡ [] in
    append_both (flat_map (unknown file) (outer_demands file)) (flat_map (unknown file) (flat_map formula_demands file.formulas) ++ flat_map (unknown_in file) file.modules)
    (each_empty (unknown file) (outer_demands file)
    (each_join F (flat_map const_demands file.constants) (flat_map var_demands file.globals ++ (flat_map label_demands file.labels ++ (flat_map rewards_demands file.rewards ++ init_demands file.init)))
    (each_flat (GoodConst known) F const_demands (fine_const known) file.constants g.constants)
    (each_join F (flat_map var_demands file.globals) (flat_map label_demands file.labels ++ (flat_map rewards_demands file.rewards ++ init_demands file.init))
    (each_flat (GoodVar known) F var_demands (fine_var known) file.globals g.globals)
    (each_join F (flat_map label_demands file.labels) (flat_map rewards_demands file.rewards ++ init_demands file.init)
    (each_flat (GoodLabel known) F label_demands (fine_label known) file.labels g.labels)
    (each_join F (flat_map rewards_demands file.rewards) (init_demands file.init)
    (each_flat (GoodRewards known) F rewards_demands (fine_rewards known) file.rewards g.rewards) (fine_init known file.init g.init))))))
    (append_both (flat_map (unknown file) (flat_map formula_demands file.formulas)) (flat_map (unknown_in file) file.modules)
    (ap (λ fs. flat_map (unknown file) (flat_map formula_demands fs)) g.formulas)
    (each_empty (unknown_in file) file.modules (each_then (GoodModule known) (λ m. unknown_in file m ≡ []) (known_in file) file.modules g.modules)))
