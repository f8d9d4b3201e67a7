-- What is measured of the expressions of a file that is written out is measured of the file's, part by part.
use Rattle.std.specs.Prelude.{ℕ, max, List, [], ◌∷◌, ◌++◌, map, Bool, Option, Some, None, is_some}
use Rattle.std.specs.List.{flat_map, fold, sum}
use Rattle.std.specs.Option.{option_map}
use Rattle.std.proofs.Common.{◌≡◌, refl, sym, ap, ap₂, ◌∙◌}
use Rattle.std.proofs.lemmas.List.{map-append}
use Rattle.basics.specs.Options.{if_some}
use Rattle.process_core.specs.Ready.{Name}
use Rattle.prism_tree.specs.Syntax.{Expression, Const, Range, Var, Label, Write, Branch, Command, Item, Rewards, File}
use Rattle.prism_flat.specs.Names.{unchanged, Part, parts}
use Rattle.prism_flat.specs.Flat.{flat_expression, flat_range, flat_var, flat_write, flat_branch, flat_command, flat_constant, flat_label, flat_item, flat_rewards, flat}
use Rattle.prism_flat.specs.Order.{whole_nodes, whole_height, nodes-flat, height-flat}
use Rattle.op_trees.specs.Tree.{node_count, height_of}
use Rattle.prism_check.specs.SizeFaults.{NodesCounted, HeightCounted}
use Rattle.prism_flat.specs.Laws.{flat_part, parts-flat}
use Rattle.op_trees.specs.declared.wanted.Wanted.{Wanted}
use Rattle.op_trees.specs.declared.wanted.Wanted.TheVariants as W
use Rattle.op_trees.specs.Wanted.{wanted_by}
use Rattle.prism_check.specs.Demands.{Demand, fixed, varying, written, expression_of, var_type, const_demands, range_demands, var_demands, branch_demands, command_demands, part_demands, label_demands, item_demands, rewards_demands, init_demands, outer_demands, all_demands}

module _ (file : File) (new old : Expression → ℕ) (same : (rename : Name → Name) (e : Expression) → new (flat_expression file rename e) ≡ old e) where
  abbrev of_new : List Demand → List ℕ
  of_new ds = map (λ d. new (expression_of d)) ds

  abbrev of_old : List Demand → List ℕ
  of_old ds = map (λ d. old (expression_of d)) ds

  -- both measure alike
  pub record Alike (ds es : List Demand) : Type 0 where
    pub alike : of_new ds ≡ of_old es

  then_more : (as1 bs cs ds : List Demand) → Alike as1 bs → Alike cs ds → Alike (as1 ++ cs) (bs ++ ds)
  then_more as1 bs cs ds h k = record {
    alike = map-append (λ d. new (expression_of d)) as1 cs ∙ ap₂ (λ x y. x ++ y) h.alike k.alike ∙ sym (map-append (λ d. old (expression_of d)) bs ds);
  }

  through : {A : Type 0} (p q : A → List Demand) (f : A → A) → ((x : A) → Alike (p (f x)) (q x)) → (xs : List A) → Alike (flat_map p (map f xs)) (flat_map q xs)
  through p q f h [] = record { alike = refl }
  through p q f h (x ∷ xs) = then_more (p (f x)) (q x) (flat_map p (map f xs)) (flat_map q xs) (h x) (through p q f h xs)

  optional_fixed : (v w : Wanted) (rename : Name → Name) (o : Option Expression) →
      Alike (map (fixed v) (if_some (option_map (flat_expression file rename) o))) (map (fixed w) (if_some o))
  optional_fixed v w rename None = record { alike = refl }
  optional_fixed v w rename (Some e) = record { alike = ap (λ n. n ∷ []) (same rename e) }

  optional_varying : (v w : Wanted) (rename : Name → Name) (o : Option Expression) →
      Alike (map (varying v) (if_some (option_map (flat_expression file rename) o))) (map (varying w) (if_some o))
  optional_varying v w rename None = record { alike = refl }
  optional_varying v w rename (Some e) = record { alike = ap (λ n. n ∷ []) (same rename e) }

  of_const : (c : Const) → Alike (const_demands (flat_constant file c)) (const_demands c)
  of_const c = optional_fixed (wanted_by c.ty) (wanted_by c.ty) unchanged c.value

  of_range : (rename : Name → Name) (r : Option Range) → Alike (range_demands (option_map (flat_range file rename) r)) (range_demands r)
  of_range rename None = record { alike = refl }
  of_range rename (Some r) = record { alike = ap₂ (λ a b. a ∷ b ∷ []) (same rename r.low) (same rename r.high) }

  of_var : (rename : Name → Name) (x : Var) → Alike (var_demands (flat_var file rename x)) (var_demands x)
  of_var rename x =
      then_more (range_demands (option_map (flat_range file rename) x.range)) (range_demands x.range)
      (map (fixed (wanted_by (var_type (flat_var file rename x)))) (if_some (option_map (flat_expression file rename) x.start)))
      (map (fixed (wanted_by (var_type x))) (if_some x.start))
      (of_range rename x.range)
      (optional_fixed (wanted_by (var_type (flat_var file rename x))) (wanted_by (var_type x)) rename x.start)

  of_writes : (a b : Bool) (rename : Name → Name) (ws : List Write) → Alike (map (written a) (map (flat_write file rename) ws)) (map (written b) ws)
  of_writes a b rename [] = record { alike = refl }
  of_writes a b rename (w ∷ ws) = record { alike = ap₂ (λ n r. n ∷ r) (same rename w.value) (of_writes a b rename ws).alike }

  of_branch : (a b : Bool) (rename : Name → Name) (x : Branch) → Alike (branch_demands a (flat_branch file rename x)) (branch_demands b x)
  of_branch a b rename x =
      then_more (map (varying W.Number) (if_some (option_map (flat_expression file rename) x.weight))) (map (varying W.Number) (if_some x.weight))
      (map (written a) (map (flat_write file rename) x.writes)) (map (written b) x.writes)
      (optional_varying W.Number W.Number rename x.weight) (of_writes a b rename x.writes)

  of_command : (rename : Name → Name) (c : Command) → Alike (command_demands (flat_command file rename c)) (command_demands c)
  of_command rename c =
      then_more (varying W.Bool (flat_expression file rename c.guard) ∷ []) (varying W.Bool c.guard ∷ [])
      (flat_map (branch_demands (is_some (flat_command file rename c).action)) (map (flat_branch file rename) c.branches)) (flat_map (branch_demands (is_some c.action)) c.branches)
      (record { alike = ap (λ n. n ∷ []) (same rename c.guard) })
      (through (branch_demands (is_some (flat_command file rename c).action)) (branch_demands (is_some c.action)) (flat_branch file rename)
      (of_branch (is_some (flat_command file rename c).action) (is_some c.action) rename) c.branches)

  of_part : (p : Part) → Alike (part_demands (flat_part file p)) (part_demands p)
  of_part p =
      then_more (flat_map var_demands (map (flat_var file p.rename) p.vars)) (flat_map var_demands p.vars)
      (flat_map command_demands (map (flat_command file p.rename) p.commands)) (flat_map command_demands p.commands)
      (through var_demands var_demands (flat_var file p.rename) (of_var p.rename) p.vars)
      (through command_demands command_demands (flat_command file p.rename) (of_command p.rename) p.commands)

  of_label : (l : Label) → Alike (label_demands (flat_label file l)) (label_demands l)
  of_label l = record { alike = ap (λ n. n ∷ []) (same unchanged l.body) }

  of_item : (i : Item) → Alike (item_demands (flat_item file i)) (item_demands i)
  of_item i = record { alike = ap₂ (λ a b. a ∷ b ∷ []) (same unchanged i.guard) (same unchanged i.value) }

  of_rewards : (r : Rewards) → Alike (rewards_demands (flat_rewards file r)) (rewards_demands r)
  of_rewards r = through item_demands item_demands (flat_item file) of_item r.items

  of_outer : Alike (outer_demands (flat file)) (outer_demands file)
  of_outer =
      then_more (flat_map const_demands (map (flat_constant file) file.constants)) (flat_map const_demands file.constants) _ _
      (through const_demands const_demands (flat_constant file) of_const file.constants)
      (then_more (flat_map var_demands (map (flat_var file unchanged) file.globals)) (flat_map var_demands file.globals) _ _
      (through var_demands var_demands (flat_var file unchanged) (of_var unchanged) file.globals)
      (then_more (flat_map label_demands (map (flat_label file) file.labels)) (flat_map label_demands file.labels) _ _
      (through label_demands label_demands (flat_label file) of_label file.labels)
      (then_more (flat_map rewards_demands (map (flat_rewards file) file.rewards)) (flat_map rewards_demands file.rewards)
      (init_demands (option_map (flat_expression file unchanged) file.init)) (init_demands file.init)
      (through rewards_demands rewards_demands (flat_rewards file) of_rewards file.rewards)
      (optional_varying W.Bool W.Bool unchanged file.init))))

  of_parts : Alike (flat_map part_demands (parts (flat file))) (flat_map part_demands (parts file))
  of_parts = record {
    alike = ap (λ ps. of_new (flat_map part_demands ps)) (parts-flat file) ∙ (through part_demands part_demands (flat_part file) of_part (parts file)).alike;
  }

  -- the measures of all expressions
  pub all_alike : of_new (all_demands (flat file)) ≡ of_old (all_demands file)
  all_alike = (then_more (outer_demands (flat file)) (outer_demands file) (flat_map part_demands (parts (flat file))) (flat_map part_demands (parts file)) of_outer of_parts).alike

pub nodes_counted : NodesCounted
nodes_counted file = ap sum (all_alike file node_count (whole_nodes file) (nodes-flat file))

pub height_counted : HeightCounted
height_counted file = ap (fold max 0) (all_alike file height_of (whole_height file) (height-flat file))
