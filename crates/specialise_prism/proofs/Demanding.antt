-- The demands of a specialised file are those of the file, over folded expressions, and those of the literals that constants got.
use Rattle.std.specs.Prelude.{◌≡◌, List, [], ◌∷◌, ◌++◌, map, Bool, Option, Some, None, IsTrue, is_some}
use Rattle.std.specs.List.{flat_map, AllByRecursion as Each}
use Rattle.std.specs.Option.{option_map}
use Rattle.std.proofs.Common.{refl, sym, subst}
use Rattle.basics.specs.Options.{IfAny, if_some}
use Rattle.basics.specs.Each.{each_join, each_parts}
use Rattle.bridge_io.specs.declared.reason.Named.{Named}
use Rattle.op_trees.specs.declared.tree.Ty.{Ty}
use Rattle.op_trees.specs.declared.tree.Value.{Value}
use Rattle.op_trees.specs.declared.wanted.Wanted.{Wanted}
use Rattle.op_trees.specs.declared.wanted.Wanted.TheVariants as W
use Rattle.op_trees.specs.Types.{has_type}
use Rattle.op_trees.specs.Wanted.{wanted_by}
use Rattle.process_core.specs.Instance.{Valuation}
use Rattle.prism_tree.specs.Syntax.{Expression, Const, Range, Var, Label, Write, Branch, Command, Item, Rewards, File}
use Rattle.prism_print.specs.Printable.{IsPrintableExpression, IsPrintableConst, IsPrintableVar, IsPrintableRange, IsPrintableLabel, IsPrintableWrite, IsPrintableBranch, IsPrintableCommand, IsPrintableItem, IsPrintableRewards, IsPrintable}
use Rattle.prism_rewriter.specs.Rewritten.{rewritten_name, rewritten_range, rewritten_var, rewritten_write, rewritten_branch, rewritten_command, rewritten_label, rewritten_item, rewritten_rewards}
use Rattle.prism_check.specs.Demands.{Demand, fixed, varying, written, expression_of, const_demands, range_demands, type_by, var_type, var_demands, branch_demands, command_demands, label_demands, item_demands, rewards_demands, init_demands, outer_demands}
use Rattle.constant_folding.specs.Known.{Known}
use Rattle.specialise_prism.specs.Literal.{prism_literal}
use Rattle.constant_folding.specs.Constants.{specialised_value}
use Rattle.prism_tree.specs.Operators.{prism_meaning}
use Rattle.specialise_prism.specs.Specialised.{folded, folding_by, specialised_const, specialised_by}

-- ---- what holds of the expressions of a file holds of those of its demands
abbrev pub HasForm : Demand → Type 0
HasForm d = IsPrintableExpression (expression_of d)

each_flat_list : {A : Type 0} (P : Demand → Type 0) (Q : A → Type 0) (f : A → List Demand) → ((x : A) → Q x → Each P (f x)) → (xs : List A) → Each Q xs → Each P (flat_map f xs)
each_flat_list P Q f h [] q = tt
each_flat_list P Q f h (x ∷ xs) q = each_join P (f x) (flat_map f xs) (h x q.0) (each_flat_list P Q f h xs q.1)

optional_form : (w : Expression → Demand) → ((e : Expression) → expression_of (w e) ≡ e) → (o : Option Expression) → IfAny IsPrintableExpression o → Each HasForm (map w (if_some o))
optional_form w h None p = tt
optional_form w h (Some e) p = (subst IsPrintableExpression (sym (h e)) p, tt)

range_form : (r : Option Range) → IfAny IsPrintableRange r → Each HasForm (range_demands r)
range_form None p = tt
range_form (Some r) p = (p.0, (p.1, tt))

pub vars_form : (xs : List Var) → Each IsPrintableVar xs → Each HasForm (flat_map var_demands xs)
vars_form =
    each_flat_list HasForm IsPrintableVar var_demands
    (λ x p. each_join HasForm (range_demands x.range) (map (fixed (wanted_by (var_type x))) (if_some x.start)) (range_form x.range p.1) (optional_form (fixed (wanted_by (var_type x))) (λ e. refl) x.start p.2))

writes_form : (acts : Bool) (ws : List Write) → Each IsPrintableWrite ws → Each HasForm (map (written acts) ws)
writes_form acts [] p = tt
writes_form acts (w ∷ ws) p = (p.0.1, writes_form acts ws p.1)

branches_form : (acts : Bool) (bs : List Branch) → Each IsPrintableBranch bs → Each HasForm (flat_map (branch_demands acts) bs)
branches_form acts =
    each_flat_list HasForm IsPrintableBranch (branch_demands acts)
    (λ b p. each_join HasForm (map (varying W.Number) (if_some b.weight)) (map (written acts) b.writes) (optional_form (varying W.Number) (λ e. refl) b.weight p.0) (writes_form acts b.writes p.1))

pub commands_form : (cs : List Command) → Each IsPrintableCommand cs → Each HasForm (flat_map command_demands cs)
commands_form = each_flat_list HasForm IsPrintableCommand command_demands (λ c p. (p.1, branches_form (is_some c.action) c.branches p.3))

pub outer_form : (file : File) → IsPrintable file → Each HasForm (outer_demands file)
outer_form file h =
    each_join HasForm (flat_map const_demands file.constants) _
    (each_flat_list HasForm IsPrintableConst const_demands (λ c p. optional_form (fixed (wanted_by c.ty)) (λ e. refl) c.value p.1) file.constants h.constants)
    (each_join HasForm (flat_map var_demands file.globals) _ (vars_form file.globals h.globals)
    (each_join HasForm (flat_map label_demands file.labels) _
    (each_flat_list HasForm IsPrintableLabel label_demands (λ l p. (p.1, tt)) file.labels h.labels)
    (each_join HasForm (flat_map rewards_demands file.rewards) (init_demands file.init)
    (each_flat_list HasForm IsPrintableRewards rewards_demands (λ r p. each_flat_list HasForm IsPrintableItem item_demands (λ i q. (q.1, (q.2, tt))) r.items p.1) file.rewards h.rewards)
    (optional_form (varying W.Bool) (λ e. refl) file.init h.init))))

-- ---- a demand with its expression folded
module _ (K : Known) where
  abbrev pub folded_demand : Demand → Demand
  folded_demand (fixed w e) = fixed w (folded K e)
  folded_demand (varying w e) = varying w (folded K e)
  folded_demand (written acts w) = written acts (rewritten_write (folding_by K) w)

  -- what holds of folded demands, where this holds of the demands
  module _ (G H : Demand → Type 0) (carry : (d : Demand) → G d → H (folded_demand d)) where
    lists : {A : Type 0} (g : A → List Demand) (h : A → A) → ((x : A) → Each G (g x) → Each H (g (h x))) → (xs : List A) → Each G (flat_map g xs) → Each H (flat_map g (map h xs))
    lists g h k [] p = tt
    lists g h k (x ∷ xs) p =
        let r = each_parts G (g x) (flat_map g xs) p in
        each_join H (g (h x)) (flat_map g (map h xs)) (k x r.0) (lists g h k xs r.1)

    fixed_option : (w : Wanted) (o : Option Expression) → Each G (map (fixed w) (if_some o)) → Each H (map (fixed w) (if_some (option_map (folded K) o)))
    fixed_option w None p = tt
    fixed_option w (Some e) p = (carry (fixed w e) p.0, tt)

    varying_option : (w : Wanted) (o : Option Expression) → Each G (map (varying w) (if_some o)) → Each H (map (varying w) (if_some (option_map (folded K) o)))
    varying_option w None p = tt
    varying_option w (Some e) p = (carry (varying w e) p.0, tt)

    range_carried : (r : Option Range) → Each G (range_demands r) → Each H (range_demands (option_map (rewritten_range (folding_by K)) r))
    range_carried None p = tt
    range_carried (Some r) p = (carry (fixed W.Int r.low) p.0, (carry (fixed W.Int r.high) p.1.0, tt))

    same_type : (r : Option Range) → type_by r ≡ type_by (option_map (rewritten_range (folding_by K)) r)
    same_type None = refl
    same_type (Some r) = refl

    var_carried : (x : Var) → Each G (var_demands x) → Each H (var_demands (rewritten_var (folding_by K) x))
    var_carried x p =
        let r = each_parts G (range_demands x.range) (map (fixed (wanted_by (var_type x))) (if_some x.start)) p in
        each_join H (range_demands (option_map (rewritten_range (folding_by K)) x.range)) _ (range_carried x.range r.0)
        (subst (λ t. Each H (map (fixed (wanted_by t)) (if_some (option_map (folded K) x.start)))) (same_type x.range) (fixed_option (wanted_by (var_type x)) x.start r.1))

    pub vars_carried : (xs : List Var) → Each G (flat_map var_demands xs) → Each H (flat_map var_demands (map (rewritten_var (folding_by K)) xs))
    vars_carried = lists var_demands (rewritten_var (folding_by K)) var_carried

    writes_carried : (acts : Bool) (ws : List Write) → Each G (map (written acts) ws) → Each H (map (written acts) (map (rewritten_write (folding_by K)) ws))
    writes_carried acts [] p = tt
    writes_carried acts (w ∷ ws) p = (carry (written acts w) p.0, writes_carried acts ws p.1)

    branch_carried : (acts : Bool) (b : Branch) → Each G (branch_demands acts b) → Each H (branch_demands acts (rewritten_branch (folding_by K) b))
    branch_carried acts b p =
        let r = each_parts G (map (varying W.Number) (if_some b.weight)) (map (written acts) b.writes) p in
        each_join H (map (varying W.Number) (if_some (option_map (folded K) b.weight))) _ (varying_option W.Number b.weight r.0) (writes_carried acts b.writes r.1)

    same_acting : (a : Option Named) → is_some a ≡ is_some (option_map (rewritten_name (λ x. x)) a)
    same_acting None = refl
    same_acting (Some a) = refl

    command_carried : (c : Command) → Each G (command_demands c) → Each H (command_demands (rewritten_command (folding_by K) c))
    command_carried c p = (
      carry (varying W.Bool c.guard) p.0,
      subst (λ acts. Each H (flat_map (branch_demands acts) (map (rewritten_branch (folding_by K)) c.branches))) (same_acting c.action)
          (lists (branch_demands (is_some c.action)) (rewritten_branch (folding_by K)) (branch_carried (is_some c.action)) c.branches p.1),
    )

    pub commands_carried : (cs : List Command) → Each G (flat_map command_demands cs) → Each H (flat_map command_demands (map (rewritten_command (folding_by K)) cs))
    commands_carried = lists command_demands (rewritten_command (folding_by K)) command_carried

    label_carried : (l : Label) → Each G (label_demands l) → Each H (label_demands (rewritten_label (folding_by K) l))
    label_carried l p = (carry (varying W.Bool l.body) p.0, tt)

    item_carried : (i : Item) → Each G (item_demands i) → Each H (item_demands (rewritten_item (folding_by K) i))
    item_carried i p = (carry (varying W.Bool i.guard) p.0, (carry (varying W.Number i.value) p.1.0, tt))

    rewards_carried : (r : Rewards) → Each G (rewards_demands r) → Each H (rewards_demands (rewritten_rewards (folding_by K) r))
    rewards_carried r p = lists item_demands (rewritten_item (folding_by K)) item_carried r.items p

    -- a constant keeps its expression, or gets a literal of its type
    module _ (given : Valuation) (of_literal : (y : Value) (ty : Ty) → IsTrue (has_type ty y) → H (fixed (wanted_by ty) (prism_literal y ty))) where
      value_carried : (g : Option Value) (ty : Ty) (o : Option Expression) → ((y : Value) → g ≡ Some y → IsTrue (has_type ty y)) → Each G (map (fixed (wanted_by ty)) (if_some o)) →
          Each H (map (fixed (wanted_by ty)) (if_some (specialised_value prism_meaning prism_literal g K ty o)))
      value_carried None ty None h p = tt
      value_carried (Some y) ty None h p = (of_literal y ty (h y refl), tt)
      value_carried g ty (Some e) h p = (carry (fixed (wanted_by ty) e) p.0, tt)

      consts_carried : (cs : List Const) → Each (λ c. (y : Value) → given c.name.name ≡ Some y → IsTrue (has_type c.ty y)) cs → Each G (flat_map const_demands cs) →
          Each H (flat_map const_demands (map (specialised_const given K) cs))
      consts_carried [] f p = tt
      consts_carried (c ∷ cs) f p =
          let r = each_parts G (const_demands c) (flat_map const_demands cs) p in
          each_join H (const_demands (specialised_const given K c)) (flat_map const_demands (map (specialised_const given K) cs))
          (value_carried (given c.name.name) c.ty c.value f.0 r.0) (consts_carried cs f.1 r.1)

      pub outer_carried : (file : File) → Each (λ c. (y : Value) → given c.name.name ≡ Some y → IsTrue (has_type c.ty y)) file.constants →
          Each G (outer_demands file) → Each H (outer_demands (specialised_by given K file))
      outer_carried file f p =
          let a = each_parts G (flat_map const_demands file.constants) (flat_map var_demands file.globals ++ (flat_map label_demands file.labels ++ (flat_map rewards_demands file.rewards ++ init_demands file.init))) p in
          let b = each_parts G (flat_map var_demands file.globals) (flat_map label_demands file.labels ++ (flat_map rewards_demands file.rewards ++ init_demands file.init)) a.1 in
          let c = each_parts G (flat_map label_demands file.labels) (flat_map rewards_demands file.rewards ++ init_demands file.init) b.1 in
          let d = each_parts G (flat_map rewards_demands file.rewards) (init_demands file.init) c.1 in
          each_join H (flat_map const_demands (map (specialised_const given K) file.constants)) _ (consts_carried file.constants f a.0)
          (each_join H (flat_map var_demands (map (rewritten_var (folding_by K)) file.globals)) _ (vars_carried file.globals b.0)
          (each_join H (flat_map label_demands (map (rewritten_label (folding_by K)) file.labels)) _
          (lists label_demands (rewritten_label (folding_by K)) label_carried file.labels c.0)
          (each_join H (flat_map rewards_demands (map (rewritten_rewards (folding_by K)) file.rewards)) _
          (lists rewards_demands (rewritten_rewards (folding_by K)) rewards_carried file.rewards d.0)
          (varying_option W.Bool file.init d.1))))
