use Rattle.std.proofs.Common.{ap, map, refl, sym, ◌∙◌}
use Rattle.process_core.specs.Product.{map-map}
use Rattle.prism_tree.specs.Syntax.{Const, Var, Label, Rewards, Body, file_of, const_of, var_of, label_of, rewards_of, module_of}
use Rattle.name_table.specs.declared.class.NameClass.TheVariants.{Constant, Variable, Label as OfLabel, Reward, Module as OfModule, Action}
use Rattle.name_table.specs.Asks.{ask, called, contents, constant_asks, variable_asks, label_asks, reward_asks, module_asks, action_asks}
use Rattle.name_table.specs.Gathered.{body_in}
use Rattle.name_table.proofs.Joined.{asked, six}
use Rattle.name_table.proofs.asking.ask_file.Goals as goal

pub returns : goal.returns
returns c =
    let file = file_of c.args.file.now in
    six c.args.table.now c.ask_each.new.table c.ask_each-2.new.table c.ask_each-3.new.table c.ask_each-4.new.table c.ask_each-5.new.table c.ask_each-6.new.table
    (constant_asks file) (variable_asks file) (label_asks file) (reward_asks file) (module_asks file) (action_asks file)
    (asked Constant _ (λ (k : Const). ask Constant k.name.name) const_of _ _ _ _ c.in_ok-ask_each.ensures (ap (map const_of) c.as_slice.ensures) (λ x. refl))
    (asked Variable _ (λ (x : Var). ask Variable x.name.name) (λ x. var_of x.now) _ _ _ _ c.in_ok-ask_each-2.ensures c.requires.vars (λ x. refl))
    (asked OfLabel _ (λ (k : Label). ask OfLabel k.name.name) label_of _ _ _ _ c.in_ok-ask_each-3.ensures (ap (map label_of) c.as_slice-2.ensures) (λ x. refl))
    (asked Reward _ (λ (r : Rewards). (Reward, called r.name)) rewards_of _ _ _ _ c.in_ok-ask_each-4.ensures (ap (map rewards_of) c.as_slice-3.ensures) (λ x. refl))
    (asked OfModule _ (λ (m : Body). ask OfModule m.name.name) body_in _ _ _ _ c.in_ok-ask_each-5.ensures
    (ap (map body_in) c.as_slice-4.ensures ∙ sym (map-map contents module_of c.args.file.now.modules)) (λ x. refl))
    (asked Action _ (ask Action) (λ x. x.now) _ _ _ _ c.in_ok-ask_each-6.ensures c.requires.acts (λ x. refl))
