-- What is known of a PRISM file that has no fault and is written out: its expressions may be spelled, and their names are those
-- of its constants and variables.
use Rattle.std.specs.Prelude.{◌≡◌, List, [], ◌∷◌, ◌++◌, map, Bool, true, not, Option, Some, None, is_some, bytes_eq}
use Rattle.std.specs.List.{flat_map, list_any, list_all, AllByRecursion as Each}
use Rattle.std.proofs.Common.{sym, ap, ◌∙◌}
use Rattle.std.proofs.lemmas.Bool.{and_parts, not-false}
use Rattle.basics.specs.Lists.{append_parts}
use Rattle.basics.specs.Each.{each_then, each_with, map_each, each_join, each_parts, each_of, empty_each}
use Rattle.bridge_io.specs.declared.reason.Named.{Named}
use Rattle.bridge_io.specs.declared.reason.Reason.TheVariants.{Unknown}
use Rattle.op_trees.specs.declared.tree.Ty.{Ty}
use Rattle.op_trees.specs.Tree.{AllNames}
use Rattle.op_trees.specs.Names.{names_of}
use Rattle.name_rules.proofs.Plain.{no_fault, among_names}
use Rattle.basics.specs.Options.{if_some, IfAny}
use Rattle.process_core.specs.Ready.{Name}
use Rattle.prism_tree.specs.Syntax.{Expression, Const, Range, Var, Label, Write, Branch, Command, Body, Module, plain, copied, Item, Rewards, File}
use Rattle.prism_names.specs.Names.{part_of}
use Rattle.prism_flat.specs.Kept.{is_plain, IsWrittenOut}
use Rattle.prism_print.specs.Printable.{IsPrintableExpression, IsPrintableConst, IsPrintableRange, IsPrintableVar, IsPrintableLabel, IsPrintableWrite, IsPrintableBranch, AreBranches, IsPrintableCommand, IsPrintableModule, IsPrintableItem, IsPrintableRewards}
use Rattle.op_trees.specs.Wanted.{wanted_by}
use Rattle.prism_check.specs.Demands.{Demand, fixed, written, var_type, const_demands, range_demands, var_demands, branch_demands, command_demands, part_demands, label_demands, item_demands, rewards_demands, formula_demands, init_demands, outer_demands}
use Rattle.prism_check.specs.NameFaults.{is_among, values, unless_known, unknown, unknown_in}
use Rattle.prism_check.proofs.NamesIn.{listed_names}
use Rattle.prism_check.specs.Flattened.{IsFlat}
use Rattle.jani_translation.specs.Asks.{contents, bodies, variables, value_names}
use Rattle.jani_translation.proofs.Clean.{value_names_are}
use Rattle.prism_check.proofs.Typed.{no_name_fault}

-- ---- what is known
-- some constant or variable has the name
abbrev pub is_known : File → Name → Bool
is_known file x = list_any (λ y. bytes_eq y x) (value_names file)

abbrev pub IsKnown : File → Name → Type 0
IsKnown file x = is_known file x ≡ true

module _ (file : File) where
  -- an expression that may be spelled, with names that are known
  abbrev pub Good : Expression → Type 0
  Good e = IsPrintableExpression e × AllNames (IsKnown file) e

  abbrev pub GoodConst : Const → Type 0
  GoodConst c = IfAny Good c.value

  abbrev pub GoodRange : Range → Type 0
  GoodRange r = Good r.low × Good r.high

  abbrev pub GoodVar : Var → Type 0
  GoodVar x = IfAny GoodRange x.range × IfAny Good x.start

  abbrev pub GoodLabel : Label → Type 0
  GoodLabel l = Good l.body

  abbrev pub GoodWrite : Write → Type 0
  GoodWrite w = IsKnown file w.name.name × Good w.value

  abbrev pub GoodBranch : Branch → Type 0
  GoodBranch b = IfAny Good b.weight × Each GoodWrite b.writes

  abbrev pub GoodCommand : Command → Type 0
  GoodCommand c = Good c.guard × AreBranches c.branches × Each GoodBranch c.branches

  abbrev pub GoodBody : Body → Type 0
  GoodBody m = Each GoodVar m.vars × Each GoodCommand m.commands

  abbrev pub GoodItem : Item → Type 0
  GoodItem i = Good i.guard × Good i.value

  abbrev pub GoodRewards : Rewards → Type 0
  GoodRewards r = Each GoodItem r.items

pub record IsGood (file : File) : Type 0 where
  pub constants : Each (GoodConst file) file.constants
  pub variables : Each (GoodVar file) (variables file)
  pub bodies : Each (GoodBody file) (bodies file)
  pub labels : Each (GoodLabel file) file.labels
  pub rewards : Each (GoodRewards file) file.rewards
  pub init : IfAny (Good file) file.init

-- ---- the names of constants and variables

-- ---- expressions
module _ (file : File) (w : IsWrittenOut file) where
  known_one : (n : Named) → unless_known (is_among (values file)) n ≡ [] → IsKnown file n.name
  known_one n e =
      ap (λ ns. list_any (λ y. bytes_eq y n.name) ns) (sym (value_names_are file w)) ∙ sym (among_names (values file) n.name)
      ∙ not-false (is_among (values file) n.name) (no_fault (not (is_among (values file) n.name)) n.at Unknown e)

  good : (e : Expression) → IsPrintableExpression e → flat_map (unless_known (is_among (values file))) (names_of e) ≡ [] → Good file e
  good e p k = (
    p,
    listed_names (IsKnown file) e
        (each_then (λ n. unless_known (is_among (values file)) n ≡ []) (λ n. IsKnown file n.name) known_one (names_of e)
        (empty_each (unless_known (is_among (values file))) (names_of e) k)),
  )

  abbrev Fine : Demand → Type 0
  Fine d = unknown file d ≡ []

  optional : (t : Ty) (o : Option Expression) → IfAny IsPrintableExpression o → Each Fine (map (fixed (wanted_by t)) (if_some o)) → IfAny (Good file) o
  optional t None p k = tt
  optional t (Some e) p k = good e p k.0

  good_const : (c : Const) → IsPrintableConst c → Each Fine (const_demands c) → GoodConst file c
  good_const c p k = optional c.ty c.value p.1 k

  good_range : (r : Option Range) → IfAny IsPrintableRange r → Each Fine (range_demands r) → IfAny (GoodRange file) r
  good_range None p k = tt
  good_range (Some r) p k = (good r.low p.0 k.0, good r.high p.1 k.1.0)

  good_var : (x : Var) → IsPrintableVar x → Each Fine (var_demands x) → GoodVar file x
  good_var x p k =
      let r = each_parts Fine (range_demands x.range) (map (fixed (wanted_by (var_type x))) (if_some x.start)) k in
      (good_range x.range p.1 r.0, optional (var_type x) x.start p.2 r.1)

  good_init : (o : Option Expression) → IfAny IsPrintableExpression o → Each Fine (init_demands o) → IfAny (Good file) o
  good_init None p k = tt
  good_init (Some e) p k = good e p k.0

  good_label : (l : Label) → IsPrintableLabel l → Each Fine (label_demands l) → GoodLabel file l
  good_label l p k = good l.body p.1 k.0

  good_item : (i : Item) → IsPrintableItem i → Each Fine (item_demands i) → GoodItem file i
  good_item i p k = (good i.guard p.1 k.0, good i.value p.2 k.1.0)

  good_rewards : (r : Rewards) → IsPrintableRewards r → Each Fine (rewards_demands r) → GoodRewards file r
  good_rewards r p k =
      each_with IsPrintableItem (λ i. Each Fine (item_demands i)) (GoodItem file) good_item r.items p.1 (each_of Fine item_demands r.items k)

  good_write : (acts : Bool) (x : Write) → IsPrintableWrite x → Fine (written acts x) → GoodWrite file x
  good_write acts x p k =
      let r = append_parts (unless_known (is_among (values file)) x.name) (flat_map (unless_known (is_among (values file))) (names_of x.value)) k in
      (known_one x.name r.0, good x.value p.1 r.1)

  good_writes : (acts : Bool) (xs : List Write) → Each IsPrintableWrite xs → Each Fine (map (written acts) xs) → Each (GoodWrite file) xs
  good_writes acts xs p k = each_with IsPrintableWrite (λ x. Fine (written acts x)) (GoodWrite file) (good_write acts) xs p (map_each Fine (written acts) xs k)

  branch_parts : (acts : Bool) (o : Option Expression) (xs : List Write) → IfAny IsPrintableExpression o → Each IsPrintableWrite xs →
      Each Fine (branch_demands acts (record { weight = o; writes = xs })) → IfAny (Good file) o × Each (GoodWrite file) xs
  branch_parts acts None xs p q k = (tt, good_writes acts xs q k)
  branch_parts acts (Some e) xs p q k = (good e p k.0, good_writes acts xs q k.1)

  good_branch : (acts : Bool) (b : Branch) → IsPrintableBranch b → Each Fine (branch_demands acts b) → GoodBranch file b
  good_branch acts b p k = branch_parts acts b.weight b.writes p.0 p.1 k

  good_command : (c : Command) → IsPrintableCommand c → Each Fine (command_demands c) → GoodCommand file c
  good_command c p k = (
    good c.guard p.1 k.0,
    p.2,
    each_with IsPrintableBranch (λ b. Each Fine (branch_demands (is_some c.action) b)) (GoodBranch file) (good_branch (is_some c.action)) c.branches p.3
        (each_of Fine (branch_demands (is_some c.action)) c.branches k.1),
  )

  good_body : (m : Module) → is_plain m ≡ true → IsPrintableModule m → unknown_in file m ≡ [] → GoodBody file (contents m)
  good_body (plain m) q p k =
      let r = each_parts Fine (flat_map var_demands m.vars) (flat_map command_demands m.commands) (empty_each (unknown file) (part_demands (part_of file (plain m))) k) in (
        each_with IsPrintableVar (λ x. Each Fine (var_demands x)) (GoodVar file) good_var m.vars p.1 (each_of Fine var_demands m.vars r.0),
        each_with IsPrintableCommand (λ c. Each Fine (command_demands c)) (GoodCommand file) good_command m.commands p.2
            (each_of Fine command_demands m.commands r.1),
      )
  good_body (copied m) q p k = absurd cc

  good_bodies : (ms : List Module) → list_all is_plain ms ≡ true → Each IsPrintableModule ms → Each (λ m. unknown_in file m ≡ []) ms → Each (GoodBody file) (map contents ms)
  good_bodies [] q p k = tt
  good_bodies (m ∷ ms) q p k =
      let r = and_parts (is_plain m) (list_all is_plain ms) q in
      (good_body m r.0 p.0 k.0, good_bodies ms r.1 p.1 k.1)

  body_vars : (ms : List Body) → Each (GoodBody file) ms → Each (GoodVar file) (flat_map (λ m. m.vars) ms)
  body_vars [] h = tt
  body_vars (m ∷ ms) h = each_join (GoodVar file) m.vars (flat_map (λ m. m.vars) ms) h.0.0 (body_vars ms h.1)

pub is_good : (file : File) → IsFlat file → IsGood file
is_good file h =
    let w = h.form in
    let p = h.checked.form in
    let u = append_parts (flat_map (unknown file) (outer_demands file)) (flat_map (unknown file) (flat_map formula_demands file.formulas) ++ flat_map (unknown_in file) file.modules) (no_name_fault file h).unknown in
    let v = append_parts (flat_map (unknown file) (flat_map formula_demands file.formulas)) (flat_map (unknown_in file) file.modules) u.1 in
    let F : Demand → Type 0 = λ d. unknown file d ≡ [] in
    let a = each_parts F (flat_map const_demands file.constants) (flat_map var_demands file.globals ++ (flat_map label_demands file.labels ++ (flat_map rewards_demands file.rewards ++ init_demands file.init))) (empty_each (unknown file) (outer_demands file) u.0) in
    let b = each_parts F (flat_map var_demands file.globals) _ a.1 in
    let c = each_parts F (flat_map label_demands file.labels) _ b.1 in
    let d = each_parts F (flat_map rewards_demands file.rewards) (init_demands file.init) c.1 in
    let bs = good_bodies file w file.modules w.modules p.modules (empty_each (unknown_in file) file.modules v.1) in
    record {
      constants = each_with IsPrintableConst (λ x. Each F (const_demands x)) (GoodConst file) (good_const file w) file.constants p.constants (each_of F const_demands file.constants a.0);
      variables =
          each_join (GoodVar file) file.globals (flat_map (λ m. m.vars) (bodies file))
          (each_with IsPrintableVar (λ x. Each F (var_demands x)) (GoodVar file) (good_var file w) file.globals p.globals (each_of F var_demands file.globals b.0))
          (body_vars file w (bodies file) bs);
      bodies = bs;
      labels = each_with IsPrintableLabel (λ x. Each F (label_demands x)) (GoodLabel file) (good_label file w) file.labels p.labels (each_of F label_demands file.labels c.0);
      rewards = each_with IsPrintableRewards (λ x. Each F (rewards_demands x)) (GoodRewards file) (good_rewards file w) file.rewards p.rewards (each_of F rewards_demands file.rewards d.0);
      init = good_init file w file.init p.init d.1;
    }
