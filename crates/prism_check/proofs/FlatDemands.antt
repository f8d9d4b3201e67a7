-- The demands of a file that is written out are those of the file, written out.
use Rattle.std.specs.Prelude.{◌≡◌, List, [], ◌∷◌, ◌++◌, map, Bool, Option, Some, None, is_some}
use Rattle.std.specs.List.{flat_map}
use Rattle.std.specs.Option.{option_map}
use Rattle.std.proofs.Common.{refl, ap, ap₂, ◌∙◌, sym}
use Rattle.std.proofs.lemmas.List.{map-append}
use Rattle.basics.specs.Options.{if_some}
use Rattle.process_core.specs.Ready.{Name}
use Rattle.prism_tree.specs.Syntax.{Expression, Const, Range, Var, Label, Write, Branch, Command, Rewards, File}
use Rattle.prism_flat.specs.Names.{unchanged, Part}
use Rattle.prism_flat.specs.Flat.{flat_expression, flat_name, flat_range, flat_var, flat_write, flat_branch, flat_command, flat_constant, flat_label, flat_item, flat_rewards, flat}
use Rattle.prism_flat.specs.Laws.{flat_part}
use Rattle.op_trees.specs.declared.wanted.Wanted.{Wanted}
use Rattle.op_trees.specs.declared.wanted.Wanted.TheVariants as W
use Rattle.op_trees.specs.Wanted.{wanted_by}
use Rattle.prism_check.specs.Demands.{Demand, fixed, varying, written, type_by, const_demands, range_demands, var_demands, branch_demands, command_demands, part_demands, label_demands, item_demands, rewards_demands, init_demands, outer_demands}

-- a demand of what is written out
abbrev pub flat_demand : File → (Name → Name) → Demand → Demand
flat_demand file rename (fixed w e) = fixed w (flat_expression file rename e)
flat_demand file rename (varying w e) = varying w (flat_expression file rename e)
flat_demand file rename (written acts w) = written acts (flat_write file rename w)

module _ (file : File) (rename : Name → Name) where
  abbrev all_flat : List Demand → List Demand
  all_flat ds = map (flat_demand file rename) ds

  joined : (as1 bs cs ds : List Demand) → as1 ≡ all_flat bs → cs ≡ all_flat ds → as1 ++ cs ≡ all_flat (bs ++ ds)
  joined as1 bs cs ds h k = ap₂ (λ x y. x ++ y) h k ∙ sym (map-append (flat_demand file rename) bs ds)

  through : {A : Type 0} (p q : A → List Demand) (f : A → A) → ((x : A) → p (f x) ≡ all_flat (q x)) → (xs : List A) → flat_map p (map f xs) ≡ all_flat (flat_map q xs)
  through p q f h [] = refl
  through p q f h (x ∷ xs) = joined (p (f x)) (q x) (flat_map p (map f xs)) (flat_map q xs) (h x) (through p q f h xs)

  optional_fixed : (v w : Wanted) → v ≡ w → (o : Option Expression) →
      map (fixed v) (if_some (option_map (flat_expression file rename) o)) ≡ all_flat (map (fixed w) (if_some o))
  optional_fixed v w e None = refl
  optional_fixed v w e (Some b) = ap (λ u. fixed u (flat_expression file rename b) ∷ []) e

  optional_varying : (w : Wanted) (o : Option Expression) →
      map (varying w) (if_some (option_map (flat_expression file rename) o)) ≡ all_flat (map (varying w) (if_some o))
  optional_varying w None = refl
  optional_varying w (Some b) = refl

  of_range : (r : Option Range) → range_demands (option_map (flat_range file rename) r) ≡ all_flat (range_demands r)
  of_range None = refl
  of_range (Some r) = refl

  pub same_type : (r : Option Range) → type_by (option_map (flat_range file rename) r) ≡ type_by r
  same_type None = refl
  same_type (Some r) = refl

  of_var : (x : Var) → var_demands (flat_var file rename x) ≡ all_flat (var_demands x)
  of_var x =
      let old = wanted_by (type_by x.range) in
      let new = wanted_by (type_by (option_map (flat_range file rename) x.range)) in
      joined (range_demands (option_map (flat_range file rename) x.range)) (range_demands x.range)
      (map (fixed new) (if_some (option_map (flat_expression file rename) x.start))) (map (fixed old) (if_some x.start))
      (of_range x.range) (optional_fixed new old (ap wanted_by (same_type x.range)) x.start)

  of_writes : (acts : Bool) (ws : List Write) → map (written acts) (map (flat_write file rename) ws) ≡ all_flat (map (written acts) ws)
  of_writes acts [] = refl
  of_writes acts (w ∷ ws) = ap (λ r. written acts (flat_write file rename w) ∷ r) (of_writes acts ws)

  of_branch : (acts : Bool) (b : Branch) → branch_demands acts (flat_branch file rename b) ≡ all_flat (branch_demands acts b)
  of_branch acts b =
      joined (map (varying W.Number) (if_some (option_map (flat_expression file rename) b.weight))) (map (varying W.Number) (if_some b.weight))
      (map (written acts) (map (flat_write file rename) b.writes)) (map (written acts) b.writes)
      (optional_varying W.Number b.weight) (of_writes acts b.writes)

  same_some : {A B : Type 0} (f : A → B) (o : Option A) → is_some (option_map f o) ≡ is_some o
  same_some f None = refl
  same_some f (Some x) = refl

  of_command : (c : Command) → command_demands (flat_command file rename c) ≡ all_flat (command_demands c)
  of_command c =
      ap (λ acts. varying W.Bool (flat_expression file rename c.guard) ∷ flat_map (branch_demands acts) (map (flat_branch file rename) c.branches))
      (same_some (flat_name file rename) c.action)
      ∙ ap (λ r. varying W.Bool (flat_expression file rename c.guard) ∷ r)
      (through (branch_demands (is_some c.action)) (branch_demands (is_some c.action)) (flat_branch file rename) (of_branch (is_some c.action)) c.branches)

pub part-flat : (file : File) (p : Part) → part_demands (flat_part file p) ≡ map (flat_demand file p.rename) (part_demands p)
part-flat file p =
    joined file p.rename (flat_map var_demands (map (flat_var file p.rename) p.vars)) (flat_map var_demands p.vars)
    (flat_map command_demands (map (flat_command file p.rename) p.commands)) (flat_map command_demands p.commands)
    (through file p.rename var_demands var_demands (flat_var file p.rename) (of_var file p.rename) p.vars)
    (through file p.rename command_demands command_demands (flat_command file p.rename) (of_command file p.rename) p.commands)

module _ (file : File) where
  of_const : (c : Const) → const_demands (flat_constant file c) ≡ map (flat_demand file unchanged) (const_demands c)
  of_const c = optional_fixed file unchanged (wanted_by c.ty) (wanted_by c.ty) refl c.value

  of_label : (l : Label) → label_demands (flat_label file l) ≡ map (flat_demand file unchanged) (label_demands l)
  of_label l = refl

  of_rewards : (r : Rewards) → rewards_demands (flat_rewards file r) ≡ map (flat_demand file unchanged) (rewards_demands r)
  of_rewards r = through file unchanged item_demands item_demands (flat_item file) (λ i. refl) r.items

  pub outer-flat : outer_demands (flat file) ≡ map (flat_demand file unchanged) (outer_demands file)
  outer-flat =
      joined file unchanged (flat_map const_demands (map (flat_constant file) file.constants)) (flat_map const_demands file.constants) _ _
      (through file unchanged const_demands const_demands (flat_constant file) of_const file.constants)
      (joined file unchanged (flat_map var_demands (map (flat_var file unchanged) file.globals)) (flat_map var_demands file.globals) _ _
      (through file unchanged var_demands var_demands (flat_var file unchanged) (of_var file unchanged) file.globals)
      (joined file unchanged (flat_map label_demands (map (flat_label file) file.labels)) (flat_map label_demands file.labels) _ _
      (through file unchanged label_demands label_demands (flat_label file) of_label file.labels)
      (joined file unchanged (flat_map rewards_demands (map (flat_rewards file) file.rewards)) (flat_map rewards_demands file.rewards)
      (init_demands (option_map (flat_expression file unchanged) file.init)) (init_demands file.init)
      (through file unchanged rewards_demands rewards_demands (flat_rewards file) of_rewards file.rewards)
      (optional_varying file unchanged W.Bool file.init))))
