-- The faults of a file without its places are its faults without theirs, so files that are the same but for places have faults or
-- none alike.
use Rattle.std.specs.Prelude.{◌≡◌, ℕ, zero, suc, max, List, [], ◌∷◌, ◌++◌, map, length, Bool, true, false, not, ◌&&◌, ◌||◌, Option, Some, None, is_some, nat_eq, bytes_eq, if◌then◌else◌, ◌+◌, ◌*◌, nat_lt}
use Rattle.std.specs.List.{flat_map, filter, list_any, fold, sum, sum_by, find}
use Rattle.std.specs.Option.{option_map, option_or as or_other}
use Rattle.std.proofs.Common.{refl, ap, ap₂, ◌∙◌, sym}
use Rattle.std.proofs.lemmas.List.{length-map}
use Rattle.std.proofs.Math.Path.{fun_ext}
use Rattle.basics.specs.Lists.{empty_map}
use Rattle.basics.specs.Options.{is_some-map, if_some, if_some-map}
use Rattle.bridge_io.specs.declared.reason.Reason.{Reason}
use Rattle.bridge_io.specs.declared.reason.Reason.TheVariants.{TwiceNamed, Unknown, Cycle, RenameMissing, RenameOfRenamed, Nothing, TooLarge, WrongType, NotConstant, SyncGlobalWrite, WrittenTwice, TwoInits}
use Rattle.bridge_io.specs.declared.reason.Fault.{Fault}
use Rattle.op_trees.specs.Tree.{Truth, Number, Name as At, One, Two, Three, bare, node_count, height_of}
use Rattle.op_trees.specs.Types.{Types, type_in, types_looked_up}
use Rattle.op_trees.specs.TypeLaws.{type-bare, noughts, misfit-bare}
use Rattle.op_trees.specs.Names.{offset_of, names_of, some_name, bare_name, is_called}
use Rattle.op_trees.specs.NameLaws.{offset-bare, some_name-bare, names-bare}
use Rattle.process_core.specs.Ready.{Name, firsts}
use Rattle.process_core.specs.Often.{sum_by-map}
use Rattle.prism_tree.specs.declared.syntax.NamePair.{NamePair}
use Rattle.prism_tree.specs.declared.syntax.CopiedModule.{CopiedModule}
use Rattle.prism_tree.specs.Syntax.{Expression, Const, Range, Var, Formula, Branch, Command, Module, plain, copied, Rewards, File}
use Rattle.prism_tree.specs.Operators.{prism_meaning}
use Rattle.prism_flat.specs.Names.{renaming, module_name, module_called, Part, part_of, parts, formula_body}
use Rattle.prism_flat.specs.Order.{whole}
use Rattle.prism_flat.specs.Flat.{flat}
use Rattle.prism_flat.specs.Laws.{flat_part}
use Rattle.prism_flat.specs.Same.{bare_const, bare_range, bare_var, bare_formula, bare_label, bare_write, bare_branch, bare_command, bare_pair, bare_copy, bare_module, bare_item, bare_rewards, bare_file}
use Rattle.prism_check.specs.Demands.{Demand, fixed, varying, written, const_demands, formula_demands, range_demands, type_by, var_type, var_demands, branch_demands, command_demands, part_demands, label_demands, item_demands, rewards_demands, outer_demands, all_demands, expression_of}
use Rattle.name_rules.specs.Least.{fault_if, fault, moved_to}
use Rattle.name_rules.specs.Names.{is_among}
use Rattle.prism_check.specs.NameFaults.{has_pair, renamed_var, module_vars, values, given_labels, doubled_pairs, doubled_names, names_used, unknown, some_used, is_lost, loses_name, unknown_in, unknown_names, declarations, circles, is_copy, copy_faults, own_start, own_starts, two_inits, name_faults}
use Rattle.name_rules.specs.Uses.{used}
use Rattle.name_rules.specs.Unknown.{unless_known}
use Rattle.name_rules.proofs.Placeless.{placeless, at_nought, tested, first-bare, doubled-bare, among-bare, unknown-bare as unless_known-bare}
use Rattle.name_rules.specs.Circles.{Declared, uses_of, leads_to, is_circular, circular}
use Rattle.prism_check.specs.SizeFaults.{nodes, height, command_count, part_actions, action_count, has_long_rewards, has_many_vectors, height_limit, passes_limit, size_faults}
use Rattle.op_trees.specs.Wanted.{is_unwanted, wanted_by}
use Rattle.prism_check.specs.TypeFaults.{part_variables, numbered_variables, variables, variable_called, declared_types, types, misfits, type_faults_of, is_variable, has_variable, Target, own, global, foreign, target_of, target, wanted_at, write_faults, demand_faults, repeated_writes, part_faults, module_faults, numbered_faults, type_faults}
use Rattle.prism_check.specs.Faults.{faults}
use Rattle.prism_check.proofs.NoFaults.{no_faults, no_name_faults}
use Rattle.prism_flat.specs.FlatLaws.{found_after}
use Rattle.basics.specs.Mapped.{chosen_mapped, some_mapped, kept_mapped, any_mapped, joined, turned, gathered, mapped, walked}
use Rattle.prism_check.proofs.SameNames.{bare_part, module_name-bare, renaming-bare, is_formula-bare, called-bare, part-bare, parts-bare, bodies-bare}
use Rattle.prism_check.proofs.Flat.{whole-bare, flat-bare, contents-bare}
use Rattle.prism_check.proofs.Trees.{count-bare, height-bare, types-bare}
use Rattle.prism_check.proofs.Form.{printable_too}
use Rattle.prism_check.proofs.Order.{order_too}
use Rattle.prism_check.specs.PlacesLaws.{NamesFaultAlike, SizesFaultAlike, TypesFaultAlike, FaultsAlike, CommandsAlike, CleanAlike, CheckedAlike}

-- ---- names that are declared twice
has_pair-bare : (ps : List NamePair) → has_pair (map bare_pair ps) ≡ has_pair ps
has_pair-bare ps = fun_ext (λ x. any_mapped bare_pair _ _ (λ p. refl) ps)

pub renamed_var-bare : (m : CopiedModule) (x : Var) → renamed_var (bare_copy m) (bare_var x) ≡ map bare_name (renamed_var m x)
renamed_var-bare m x =
    ap₂ (λ (p : Name → Bool) (r : Name → Name). if p x.name.name then record { name = r x.name.name; at = 0 } ∷ [] else []) (has_pair-bare m.pairs) (renaming-bare m.pairs)
    ∙ chosen_mapped (map bare_name) (has_pair m.pairs x.name.name) (record { name = renaming m.pairs x.name.name; at = m.name.at } ∷ []) []

doubled_pairs-bare : (m : Module) → doubled_pairs (bare_module m) ≡ map placeless (doubled_pairs m)
doubled_pairs-bare (plain m) = refl
doubled_pairs-bare (copied m) = doubled-bare TwiceNamed _ _ (turned bare_name bare_pair _ _ (λ p. refl) m.pairs)

module _ (file : File) where
  module_vars-bare : (m : Module) → module_vars (bare_file file) (bare_module m) ≡ map bare_name (module_vars file m)
  module_vars-bare (plain m) = turned bare_name bare_var _ _ (λ x. refl) m.vars
  module_vars-bare (copied m) =
      ap (λ p. flat_map (renamed_var (bare_copy m)) p.vars) (part-bare file (copied m))
      ∙ gathered bare_name bare_var _ _ (renamed_var-bare m) (part_of file (copied m)).vars

  values-bare : values (bare_file file) ≡ map bare_name (values file)
  values-bare =
      joined bare_name _ _ _ _ (turned bare_name bare_const _ _ (λ c. refl) file.constants)
      (joined bare_name _ _ _ _ (turned bare_name bare_formula _ _ (λ f. refl) file.formulas)
      (joined bare_name _ _ _ _ (turned bare_name bare_var _ _ (λ x. refl) file.globals)
      (gathered bare_name bare_module _ _ module_vars-bare file.modules)))

  known-bare : is_among (values (bare_file file)) ≡ is_among (values file)
  known-bare = among-bare (values (bare_file file)) (values file) values-bare

  doubled_names-bare : doubled_names (bare_file file) ≡ map placeless (doubled_names file)
  doubled_names-bare =
      joined placeless _ _ _ _ (doubled-bare TwiceNamed (values (bare_file file)) (values file) values-bare)
      (joined placeless _ _ _ _ (doubled-bare TwiceNamed (map module_name (map bare_module file.modules)) (map module_name file.modules)
      (turned bare_name bare_module _ _ module_name-bare file.modules))
      (joined placeless _ _ _ _ (doubled-bare TwiceNamed (given_labels ++ map (λ l. l.name) (map bare_label file.labels)) (given_labels ++ map (λ l. l.name) file.labels)
      (joined bare_name given_labels _ given_labels _ refl (turned bare_name bare_label (λ l. l.name) (λ l. l.name) (λ l. refl) file.labels)))
      (joined placeless _ _ _ _ (doubled-bare TwiceNamed (flat_map (λ r. if_some r.name) (map bare_rewards file.rewards)) (flat_map (λ r. if_some r.name) file.rewards)
      (gathered bare_name bare_rewards _ _ (λ r. if_some-map bare_name r.name) file.rewards))
      (gathered placeless bare_module _ _ doubled_pairs-bare file.modules))))

-- ---- demands
abbrev bare_demand : Demand → Demand
bare_demand (fixed w e) = fixed w (bare e)
bare_demand (varying w e) = varying w (bare e)
bare_demand (written acts w) = written acts (bare_write w)

optional-bare : (f : Expression → Demand) → ((e : Expression) → f (bare e) ≡ bare_demand (f e)) → (o : Option Expression) → map f (if_some (option_map bare o)) ≡ map bare_demand (map f (if_some o))
optional-bare f h None = refl
optional-bare f h (Some e) = ap (λ d. d ∷ []) (h e)

const_demands-bare : (c : Const) → const_demands (bare_const c) ≡ map bare_demand (const_demands c)
const_demands-bare c = optional-bare (fixed (wanted_by c.ty)) (λ e. refl) c.value

range_demands-bare : (r : Option Range) → range_demands (option_map bare_range r) ≡ map bare_demand (range_demands r)
range_demands-bare None = refl
range_demands-bare (Some r) = refl

pub var_type-bare : (x : Var) → var_type (bare_var x) ≡ var_type x
var_type-bare x = of_range x.range
  where
    of_range : (r : Option Range) → type_by (option_map bare_range r) ≡ type_by r
    of_range None = refl
    of_range (Some r) = refl

var_demands-bare : (x : Var) → var_demands (bare_var x) ≡ map bare_demand (var_demands x)
var_demands-bare x =
    joined bare_demand _ _ _ _ (range_demands-bare x.range)
    (ap (λ t. map (fixed (wanted_by t)) (if_some (option_map bare x.start))) (var_type-bare x) ∙ optional-bare (fixed (wanted_by (var_type x))) (λ e. refl) x.start)

branch_demands-bare : (acts : Bool) (b : Branch) → branch_demands acts (bare_branch b) ≡ map bare_demand (branch_demands acts b)
branch_demands-bare acts b =
    joined bare_demand _ _ _ _ (optional-bare _ (λ e. refl) b.weight) (turned bare_demand bare_write _ _ (λ w. refl) b.writes)

command_demands-bare : (c : Command) → command_demands (bare_command c) ≡ map bare_demand (command_demands c)
command_demands-bare c =
    ap₂ (λ d ds. d ∷ ds) refl
    (ap (λ acts. flat_map (branch_demands acts) (map bare_branch c.branches)) (is_some-map bare_name c.action)
    ∙ gathered bare_demand bare_branch _ _ (branch_demands-bare (is_some c.action)) c.branches)

part_demands-bare : (p : Part) → part_demands (bare_part p) ≡ map bare_demand (part_demands p)
part_demands-bare p =
    joined bare_demand _ _ _ _ (gathered bare_demand bare_var _ _ var_demands-bare p.vars)
    (gathered bare_demand bare_command command_demands command_demands command_demands-bare p.commands)

rewards_demands-bare : (r : Rewards) → rewards_demands (bare_rewards r) ≡ map bare_demand (rewards_demands r)
rewards_demands-bare r = gathered bare_demand bare_item item_demands item_demands (λ i. refl) r.items

formula_demands-bare : (fs : List Formula) → flat_map formula_demands (map bare_formula fs) ≡ map bare_demand (flat_map formula_demands fs)
formula_demands-bare fs = gathered bare_demand bare_formula formula_demands formula_demands (λ f. refl) fs

outer_demands-bare : (file : File) → outer_demands (bare_file file) ≡ map bare_demand (outer_demands file)
outer_demands-bare file =
    joined bare_demand _ _ _ _ (gathered bare_demand bare_const _ _ const_demands-bare file.constants)
    (joined bare_demand _ _ _ _ (gathered bare_demand bare_var _ _ var_demands-bare file.globals)
    (joined bare_demand _ _ _ _ (gathered bare_demand bare_label label_demands label_demands (λ l. refl) file.labels)
    (joined bare_demand _ _ _ _ (gathered bare_demand bare_rewards rewards_demands rewards_demands rewards_demands-bare file.rewards) (optional-bare _ (λ e. refl) file.init))))

all_demands-bare : (file : File) → all_demands (bare_file file) ≡ map bare_demand (all_demands file)
all_demands-bare file =
    joined bare_demand _ _ _ _ (outer_demands-bare file)
    (ap (flat_map part_demands) (parts-bare file) ∙ gathered bare_demand bare_part _ _ part_demands-bare (parts file))

-- what each demand gives
demanded : (g h : Demand → List Fault) → ((d : Demand) → g (bare_demand d) ≡ map placeless (h d)) → (us ds : List Demand) → us ≡ map bare_demand ds → flat_map g us ≡ map placeless (flat_map h ds)
demanded g h e us ds k = ap (flat_map g) k ∙ gathered placeless bare_demand _ _ e ds

-- ---- names that are not declared
used-bare : (d : Demand) → names_used (bare_demand d) ≡ map bare_name (names_used d)
used-bare (fixed w e) = names-bare e
used-bare (varying w e) = names-bare e
used-bare (written acts w) = ap (λ ns. bare_name w.name ∷ ns) (names-bare w.value)

module _ (file : File) where
  unknown-bare : (d : Demand) → unknown (bare_file file) (bare_demand d) ≡ map placeless (unknown file d)
  unknown-bare d =
      ap (λ known. flat_map (unless_known known) (names_used (bare_demand d))) (known-bare file)
      ∙ unless_known-bare (is_among (values file)) (names_used (bare_demand d)) (names_used d) (used-bare d)

  whole_name-bare : (p : Name → Bool) (e : Expression) → some_name p (whole (bare_file file) (bare e)) ≡ some_name p (whole file e)
  whole_name-bare p e = ap (some_name p) (whole-bare file e) ∙ some_name-bare p (whole file e)

  some_used-bare : (p : Name → Bool) (d : Demand) → some_used p (whole (bare_file file)) (bare_demand d) ≡ some_used p (whole file) d
  some_used-bare p (fixed w e) = whole_name-bare p e
  some_used-bare p (varying w e) = whole_name-bare p e
  some_used-bare p (written acts w) = ap (λ b. p w.name.name || b) (whole_name-bare p w.value)

  is_lost-bare : (rename : Name → Name) → is_lost (bare_file file) rename ≡ is_lost file rename
  is_lost-bare rename =
      ap₂ {C = Name → Bool} (λ formula known x. not (formula x) && (formula (rename x) || not (known (rename x)))) (is_formula-bare file) (known-bare file)

  loses_name-bare : (p : Part) → loses_name (bare_file file) (bare_part p) ≡ loses_name file p
  loses_name-bare p =
      ap₂ (λ lost ds. list_any (some_used lost (whole (bare_file file))) ds) (is_lost-bare p.rename) (part_demands-bare p)
      ∙ any_mapped bare_demand _ _ (some_used-bare (is_lost file p.rename)) (part_demands p)

  unknown_in-bare : (m : Module) → unknown_in (bare_file file) (bare_module m) ≡ map placeless (unknown_in file m)
  unknown_in-bare (plain m) =
      demanded (unknown (bare_file file)) (unknown file) unknown-bare _ (part_demands (part_of file (plain m))) (part_demands-bare (part_of file (plain m)))
  unknown_in-bare (copied m) =
      joined placeless _ _ _ _ (tested _ _ m.from.at Unknown (ap (λ o. not (is_some o)) (called-bare file m.from.name) ∙ ap not (is_some-map bare_module (module_called file m.from.name))))
      (tested _ _ m.name.at Unknown (ap (loses_name (bare_file file)) (part-bare file (copied m)) ∙ loses_name-bare (part_of file (copied m))))

  unknown_names-bare : unknown_names (bare_file file) ≡ map placeless (unknown_names file)
  unknown_names-bare =
      joined placeless _ _ _ _ (demanded (unknown (bare_file file)) (unknown file) unknown-bare _ (outer_demands file) (outer_demands-bare file))
      (joined placeless _ _ _ _ (demanded (unknown (bare_file file)) (unknown file) unknown-bare _ (flat_map formula_demands file.formulas) (formula_demands-bare file.formulas))
      (gathered placeless bare_module _ _ unknown_in-bare file.modules))

-- ---- constants and formulas that depend on themselves
abbrev bare_declared : Declared → Declared
bare_declared d = record { name = bare_name d.name; uses = d.uses }

all_used-bare : (o : Option Expression) → used (option_map bare o) ≡ used o
all_used-bare None = refl
all_used-bare (Some e) = ap (map (λ n. n.name)) (names-bare e) ∙ mapped bare_name (λ n. n.name) (λ n. n.name) (λ n. refl) (names_of e)

declarations-bare : (file : File) → declarations (bare_file file) ≡ map bare_declared (declarations file)
declarations-bare file =
    joined bare_declared _ _ _ _
    (turned bare_declared bare_const _ _ (λ c. ap (λ names. record { name = bare_name c.name; uses = names }) (all_used-bare c.value)) file.constants)
    (turned bare_declared bare_formula _ _ (λ f. ap (λ names. record { name = bare_name f.name; uses = names }) (all_used-bare (Some f.body))) file.formulas)

uses_of-bare : (ds : List Declared) (x : Name) → uses_of (map bare_declared ds) x ≡ uses_of ds x
uses_of-bare ds x =
    ap (flat_map (λ (d : Declared). d.uses)) (kept_mapped bare_declared _ _ (λ d. refl) ds)
    ∙ walked bare_declared _ _ (λ d. refl) (filter (λ d. is_called x d.name) ds)

leads-bare : (ds : List Declared) (n : ℕ) → leads_to (map bare_declared ds) n ≡ leads_to ds n
leads-bare ds zero = refl
leads-bare ds (suc n) =
    fun_ext (λ x. fun_ext (λ y. ap₂ (λ leads zs. bytes_eq x y || list_any (λ z. leads z y) zs) (leads-bare ds n) (uses_of-bare ds x)))

circular-bare : (ds : List Declared) (d : Declared) → circular (map bare_declared ds) (bare_declared d) ≡ map placeless (circular ds d)
circular-bare ds d =
    tested (is_circular (map bare_declared ds) (bare_declared d)) (is_circular ds d) d.name.at Cycle
    (ap (λ n. list_any (λ x. leads_to (map bare_declared ds) n x d.name.name) d.uses) (length-map ds bare_declared)
    ∙ ap (λ leads. list_any (λ x. leads x d.name.name) d.uses) (leads-bare ds (length ds)))

circles-bare : (file : File) → circles (bare_file file) ≡ map placeless (circles file)
circles-bare file =
    ap (λ ds. flat_map (circular ds) ds) (declarations-bare file)
    ∙ gathered placeless bare_declared _ _ (circular-bare (declarations file)) (declarations file)

-- ---- copies, and the modules
is_copy-bare : (o : Option Module) → is_copy (option_map bare_module o) ≡ is_copy o
is_copy-bare None = refl
is_copy-bare (Some (plain m)) = refl
is_copy-bare (Some (copied m)) = refl

copy_faults-bare : (file : File) (m : Module) → copy_faults (bare_file file) (bare_module m) ≡ map placeless (copy_faults file m)
copy_faults-bare file (plain m) = refl
copy_faults-bare file (copied m) =
    joined placeless _ _ _ _ (tested _ _ m.name.at RenameMissing
    (ap₂ (λ has p. list_any (λ x. not (has x.name.name)) p.vars) (has_pair-bare m.pairs) (part-bare file (copied m))
    ∙ any_mapped bare_var _ _ (λ x. refl) (part_of file (copied m)).vars))
    (tested _ _ m.from.at RenameOfRenamed (ap is_copy (called-bare file m.from.name) ∙ is_copy-bare (module_called file m.from.name)))

own_start-bare : (x : Var) → own_start (bare_var x) ≡ map placeless (own_start x)
own_start-bare x = tested _ _ x.name.at TwoInits (is_some-map bare x.start)

own_starts-bare : (m : Module) → own_starts (bare_module m) ≡ map placeless (own_starts m)
own_starts-bare (plain m) = gathered placeless bare_var _ _ own_start-bare m.vars
own_starts-bare (copied m) = refl

abbrev own_starts_of : File → List Fault
own_starts_of file = flat_map own_start file.globals ++ flat_map own_starts file.modules

two_inits-bare : (file : File) → two_inits (bare_file file) ≡ map placeless (two_inits file)
two_inits-bare file =
    by_test (is_some file.init) (is_some-map bare file.init)
    (joined placeless _ _ _ _ (gathered placeless bare_var _ _ own_start-bare file.globals) (gathered placeless bare_module _ _ own_starts-bare file.modules))
  where
    by_test : (b : Bool) {c : Bool} → c ≡ b → own_starts_of (bare_file file) ≡ map placeless (own_starts_of file) →
        (if c then own_starts_of (bare_file file) else []) ≡ map placeless (if b then own_starts_of file else [])
    by_test true e h = ap (λ c. if c then own_starts_of (bare_file file) else []) e ∙ h
    by_test false e h = ap (λ c. if c then own_starts_of (bare_file file) else []) e

name_faults-bare : (file : File) → name_faults (bare_file file) ≡ map placeless (name_faults file)
name_faults-bare file =
    joined placeless _ _ _ _ (doubled_names-bare file)
    (joined placeless _ _ _ _ (unknown_names-bare file)
    (joined placeless _ _ _ _ (circles-bare file)
    (joined placeless _ _ _ _ (gathered placeless bare_module _ _ (copy_faults-bare file) file.modules)
    (joined placeless _ _ _ _ (tested _ _ file.end Nothing (ap (λ n. nat_eq n 0) (length-map file.modules bare_module)))
    (two_inits-bare file)))))

-- ---- sizes
expression_of-bare : (d : Demand) → expression_of (bare_demand d) ≡ bare (expression_of d)
expression_of-bare (fixed w e) = refl
expression_of-bare (varying w e) = refl
expression_of-bare (written acts w) = refl

actions-bare : (p : Part) → part_actions (bare_part p) ≡ part_actions p
actions-bare p =
    walked bare_command _ _
    (λ c. ap if_some (some_mapped bare_name _ (λ a. p.rename a.name) (λ a. refl) c.action)) p.commands

module _ (file : File) where
  nodes-bare : nodes (bare_file file) ≡ nodes file
  nodes-bare =
      ap sum (ap (map (λ d. node_count (expression_of d))) (all_demands-bare file)
      ∙ mapped bare_demand _ _ (λ d. ap node_count (expression_of-bare d) ∙ count-bare (expression_of d)) (all_demands file))

  tallest-bare : height (bare_file file) ≡ height file
  tallest-bare =
      ap (fold max 0) (ap (map (λ d. height_of (expression_of d))) (all_demands-bare file)
      ∙ mapped bare_demand _ _ (λ d. ap height_of (expression_of-bare d) ∙ height-bare (expression_of d)) (all_demands file))

  command_count-bare : command_count (bare_file file) ≡ command_count file
  command_count-bare =
      ap (sum_by (λ p. length p.commands)) (parts-bare file)
      ∙ sum_by-map (λ p. length p.commands) bare_part (parts file)
      ∙ ap (λ h. sum_by h (parts file)) (fun_ext (λ p. length-map p.commands bare_command))

  action_count-bare : action_count (bare_file file) ≡ action_count file
  action_count-bare =
      ap (λ xs. length (firsts bytes_eq xs)) (ap (flat_map part_actions) (parts-bare file) ∙ walked bare_part _ _ actions-bare (parts file))

  long_rewards-bare : has_long_rewards (bare_file file) ≡ has_long_rewards file
  long_rewards-bare =
      any_mapped bare_rewards _ _ (λ r. ap (nat_lt 1024) (length-map r.items bare_item)) file.rewards

  many_vectors-bare : has_many_vectors (bare_file file) ≡ has_many_vectors file
  many_vectors-bare = ap₂ (λ n k. nat_lt 4000000 ((n + 1) * (n + k))) (length-map file.modules bare_module) action_count-bare

  passes-bare : passes_limit (bare_file file) ≡ passes_limit file
  passes-bare =
      ap₂ (λ n b. nat_lt 2000000 n || b) nodes-bare
      (ap₂ (λ n b. nat_lt height_limit n || b) tallest-bare
      (ap₂ (λ n b. nat_lt 200000 n || b) command_count-bare (ap₂ (λ a b. a || b) long_rewards-bare many_vectors-bare)))

-- a file without its places is as large once it is written out
size_faults-bare : (file : File) → size_faults (bare_file file) ≡ size_faults file
size_faults-bare file = ap (λ b. fault_if b 0 TooLarge) (ap passes_limit (flat-bare file) ∙ passes-bare (flat file))

-- ---- what the names are
part_variables-bare : (i : ℕ) (p : Part) → part_variables i (bare_part p) ≡ part_variables i p
part_variables-bare i p =
    mapped bare_var _ _
    (λ x. ap (λ t. record { owner = Some i; name = p.rename x.name.name; ty = t }) (var_type-bare x)) p.vars

pub numbered_variables-bare : (i : ℕ) (ps : List Part) → numbered_variables i (map bare_part ps) ≡ numbered_variables i ps
numbered_variables-bare i [] = refl
numbered_variables-bare i (p ∷ ps) = ap₂ (λ a b. a ++ b) (part_variables-bare i p) (numbered_variables-bare (i + 1) ps)

variables-bare : (file : File) → variables (bare_file file) ≡ variables file
variables-bare file =
    ap₂ (λ a b. a ++ b)
    (mapped bare_var _ _ (λ x. ap (λ t. record { owner = None; name = x.name.name; ty = t }) (var_type-bare x)) file.globals)
    (ap (numbered_variables 0) (parts-bare file) ∙ numbered_variables-bare 0 (parts file))

variable_called-bare : (file : File) → variable_called (bare_file file) ≡ variable_called file
variable_called-bare file = ap (λ vs x. find (λ v. bytes_eq v.name x) vs) (variables-bare file)

declared-bare : (file : File) → declared_types (bare_file file) ≡ declared_types file
declared-bare file =
    fun_ext (λ x. ap₂ or_other
    (ap (option_map (λ c. c.ty)) (found_after _ _ bare_const (λ c. refl) file.constants)
    ∙ some_mapped bare_const _ (λ c. c.ty) (λ c. refl) (find (λ c. is_called x c.name) file.constants))
    (ap (λ called. option_map (λ v. v.ty) (called x)) (variable_called-bare file)))

name_types-bare : (file : File) → types (bare_file file) ≡ types file
name_types-bare file =
    ap₂ (λ b n. types_looked_up prism_meaning b n (declared_types (bare_file file))) (bodies-bare file) (length-map file.formulas bare_formula)
    ∙ types-bare prism_meaning (formula_body file) (length file.formulas) (declared_types (bare_file file))
    ∙ ap (types_looked_up prism_meaning (formula_body file) (length file.formulas)) (declared-bare file)

-- ---- types of expressions
-- a fault at the offset of an expression
here-bare : (b c : Bool) (r : Reason) (e : Expression) → b ≡ c → fault_if b (offset_of (bare e)) r ≡ map placeless (fault_if c (offset_of e) r)
here-bare b c r e h = ap (λ n. fault_if b n r) (offset-bare e) ∙ tested b c (offset_of e) r h

module _ (ty : Types) where
  some_type-bare : (e : Expression) → is_some (type_in prism_meaning ty (bare e)) ≡ is_some (type_in prism_meaning ty e)
  some_type-bare e = ap is_some (type-bare prism_meaning e ty)

  misfits-bare : (e : Expression) → misfits ty (bare e) ≡ noughts (misfits ty e)
  misfits-bare (Truth at b) = refl
  misfits-bare (Number at d) = refl
  misfits-bare (At at x) = refl
  misfits-bare (One at o a) =
      joined (λ n. 0) _ _ _ _ (misfits-bare a)
      (misfit-bare at _ _ _ _ (some_type-bare a) (type-bare prism_meaning (One at o a) ty))
  misfits-bare (Two at o a b) =
      joined (λ n. 0) _ _ _ _ (misfits-bare a)
      (joined (λ n. 0) _ _ _ _ (misfits-bare b)
      (misfit-bare at _ _ _ _ (ap₂ (λ x y. x && y) (some_type-bare a) (some_type-bare b)) (type-bare prism_meaning (Two at o a b) ty)))
  misfits-bare (Three at o a b c) =
      joined (λ n. 0) _ _ _ _ (misfits-bare a)
      (joined (λ n. 0) _ _ _ _ (misfits-bare b)
      (joined (λ n. 0) _ _ _ _ (misfits-bare c)
      (misfit-bare at _ _ _ _ (ap₂ (λ x y. x && y) (some_type-bare a) (ap₂ (λ x y. x && y) (some_type-bare b) (some_type-bare c))) (type-bare prism_meaning (Three at o a b c) ty))))

  type_faults_of-bare : (w : _) (e : Expression) → type_faults_of ty w (bare e) ≡ map placeless (type_faults_of ty w e)
  type_faults_of-bare w e =
      joined placeless _ _ _ _ (ap (map (λ at. fault at WrongType)) (misfits-bare e) ∙ turned placeless (λ n. 0) _ _ (λ n. refl) (misfits ty e))
      (here-bare _ _ WrongType e (ap (is_unwanted w) (type-bare prism_meaning e ty)))

-- ---- what is written
write_faults-bare : (t : Target) (acts : Bool) (at : ℕ) → write_faults t acts 0 ≡ map placeless (write_faults t acts at)
write_faults-bare (own t) acts at = refl
write_faults-bare (global t) acts at = at_nought acts at SyncGlobalWrite
write_faults-bare (foreign w) acts at = refl

repeated_writes-bare : (c : Command) → repeated_writes (bare_command c) ≡ map placeless (repeated_writes c)
repeated_writes-bare c =
    gathered placeless bare_branch _ _
    (λ b. doubled-bare WrittenTwice _ _ (turned bare_name bare_write _ _ (λ w. refl) b.writes)) c.branches

-- ---- the file
module _ (file : File) where
  is_variable-bare : is_variable (bare_file file) ≡ is_variable file
  is_variable-bare = ap₂ {C = Name → Bool} (λ formula called x. not (formula x) && is_some (called x)) (is_formula-bare file) (variable_called-bare file)

  has_variable-bare : (e : Expression) → has_variable (bare_file file) (bare e) ≡ has_variable file e
  has_variable-bare e = whole_name-bare file (is_variable (bare_file file)) e ∙ ap (λ p. some_name p (whole file e)) is_variable-bare

  target-bare : (i : ℕ) (x : Name) → target (bare_file file) i x ≡ target file i x
  target-bare i x = ap₂ (λ (formula : Name → Bool) called. target_of i (if formula x then None else called x)) (is_formula-bare file) (variable_called-bare file)

  demand_faults-bare : (i : ℕ) (d : Demand) → demand_faults (bare_file file) i (bare_demand d) ≡ map placeless (demand_faults file i d)
  demand_faults-bare i (fixed w e) =
      joined placeless _ _ _ _ (ap (λ t. type_faults_of t w (bare e)) (name_types-bare file) ∙ type_faults_of-bare (types file) w e)
      (here-bare _ _ NotConstant e (has_variable-bare e))
  demand_faults-bare i (varying w e) = ap (λ t. type_faults_of t w (bare e)) (name_types-bare file) ∙ type_faults_of-bare (types file) w e
  demand_faults-bare i (written acts w) =
      joined placeless _ _ _ _ (ap (λ t. write_faults t acts 0) (target-bare i w.name.name) ∙ write_faults-bare (target file i w.name.name) acts w.name.at)
      (ap₂ (λ t u. type_faults_of t (wanted_at u) (bare w.value)) (name_types-bare file) (target-bare i w.name.name)
      ∙ type_faults_of-bare (types file) (wanted_at (target file i w.name.name)) w.value)

  part_faults-bare : (i : ℕ) (p : Part) → part_faults (bare_file file) i (bare_part p) ≡ map placeless (part_faults file i p)
  part_faults-bare i p =
      joined placeless _ _ _ _ (demanded (demand_faults (bare_file file) i) (demand_faults file i) (demand_faults-bare i) _ (part_demands p) (part_demands-bare p))
      (gathered placeless bare_command _ _ repeated_writes-bare p.commands)

  module_faults-bare : (i : ℕ) (m : Module) → module_faults (bare_file file) i (bare_module m) ≡ map placeless (module_faults file i m)
  module_faults-bare i (plain m) = part_faults-bare i (part_of file (plain m))
  module_faults-bare i (copied m) =
      let p = part_of file (copied m) in
      ap (λ q. map (moved_to 0) (part_faults (bare_file file) i (flat_part (bare_file file) q))) (part-bare file (copied m))
      ∙ ap (λ q. map (moved_to 0) (part_faults (bare_file file) i q)) (contents-bare file p)
      ∙ ap (map (moved_to 0)) (part_faults-bare i (flat_part file p))
      ∙ mapped placeless _ _ (λ f. refl) (part_faults file i (flat_part file p))
      ∙ sym (mapped (moved_to m.name.at) _ _ (λ f. refl) (part_faults file i (flat_part file p)))

  numbered_faults-bare : (i : ℕ) (ms : List Module) → numbered_faults (bare_file file) i (map bare_module ms) ≡ map placeless (numbered_faults file i ms)
  numbered_faults-bare i [] = refl
  numbered_faults-bare i (m ∷ ms) =
      joined placeless _ _ _ _ (module_faults-bare i m) (numbered_faults-bare (i + 1) ms)

  type_faults-bare : type_faults (bare_file file) ≡ map placeless (type_faults file)
  type_faults-bare =
      joined placeless _ _ _ _ (demanded (demand_faults (bare_file file) 0) (demand_faults file 0) (demand_faults-bare 0) _ (outer_demands file) (outer_demands-bare file))
      (joined placeless _ _ _ _ (demanded (demand_faults (bare_file file) 0) (demand_faults file 0) (demand_faults-bare 0) _ (flat_map formula_demands file.formulas) (formula_demands-bare file.formulas))
      (numbered_faults-bare 0 file.modules))

faults-bare : (file : File) → faults (bare_file file) ≡ map placeless (faults file)
faults-bare file =
    first-bare (name_faults (bare_file file)) _ (name_faults file) _ (name_faults-bare file)
    (first-bare (size_faults (bare_file file)) _ (size_faults file) _ (size_faults-bare file ∙ at_nought (passes_limit (flat file)) 0 TooLarge) (type_faults-bare file))

-- where the one has no such fault, neither has the other
none_too : (kind : File → List Fault) → ((file : File) → kind (bare_file file) ≡ map placeless (kind file)) → (f g : File) → bare_file f ≡ bare_file g → kind f ≡ [] → kind g ≡ []
none_too kind h f g e n = empty_map placeless (kind g) (sym (h g) ∙ ap kind (sym e) ∙ h f ∙ ap (map placeless) n)

pub names_alike : NamesFaultAlike
names_alike = none_too name_faults name_faults-bare

pub sizes_alike : SizesFaultAlike
sizes_alike f g e = sym (size_faults-bare f) ∙ ap size_faults e ∙ size_faults-bare g

pub types_alike : TypesFaultAlike
types_alike = none_too type_faults type_faults-bare

pub faults_alike : FaultsAlike
faults_alike = none_too faults faults-bare

pub commands_alike : CommandsAlike
commands_alike f g e = sym (command_count-bare f) ∙ ap command_count e ∙ command_count-bare g

pub clean_alike : CleanAlike
clean_alike f g e h = record { printable = printable_too f g e h.printable; names = names_alike f g e h.names; types = types_alike f g e h.types }

pub checked_alike : CheckedAlike
checked_alike f g e order h =
    let sound = faults_alike f g e h.sound in
    let once = (no_name_faults g (no_faults g sound).names).doubled in
    record { form = printable_too f g e h.form; sound = sound; order = order_too f g e once order h.order }
