use Rattle.std.proofs.Common.{◌≡◌, ◌++◌, ◌∙◌, ap, map, sym, subst, append-nil, List}
use Rattle.std.specs.Prelude.{ℕ, OnOk}
use Rattle.std.specs.List.{filter, flat_map}
use Rattle.op_trees.specs.Names.{is_called}
use Rattle.gathering.specs.Lists.{list_under}
use Rattle.process_core.specs.Product.{flat_map_agree}
use Rattle.prism_tree.specs.Syntax as prism
use Rattle.jani_tree.specs.Syntax.{Edge, Location, automaton_of}
use Rattle.jani_loops.specs.Looped.{lent_edge, loop_with}
use Rattle.module_parts.specs.Code.{element_of}
use Rattle.prism_modules.specs.Commands.{target_commands}
use Rattle.prism_modules.proofs.ByServing.{no_items, no_targets}
use Rattle.prism_modules.proofs.loops.add_loops_with.Goals as goal

pub returns-then-is_empty : goal.returns-then-is_empty
returns-then-is_empty c =
    let n = c.args.names.now in
    let el = element_of c.args.el.now in
    let ls = (automaton_of c.args.el.now.automaton.automaton.now).locations in
    let made = λ (l : Location). loop_with c.args.action.now l.name (filter (λ (e : Edge). is_called l.name.name e.location) (map lent_edge c.args.edges.now)) in
    let none = no_items c.args.targets.now (sym c.if-is_empty.true ∙ c.is_empty.ensures) in
    sym (append-nil (map prism.command_of c.args.all.now))
    ∙ ap (λ (cs : List prism.Command). map prism.command_of c.args.all.now ++ cs)
    (sym (ap (λ (ts : List ℕ). flat_map (λ (l : Location). target_commands n el (made l) ts) ls) none ∙ no_targets n el made ls))

pub returns : goal.returns
returns c =
    let n = c.args.names.now in
    let el = element_of c.args.el.now in
    let x = c.args.action.now in
    let ts = c.args.targets.now in
    let made = λ (l : Location). target_commands n el (loop_with x l.name (map lent_edge (list_under c.in_ok-here.here l.name.name))) ts in
    let wanted = λ (l : Location). target_commands n el (loop_with x l.name (filter (λ (e : Edge). is_called l.name.name e.location) (map lent_edge c.args.edges.now))) ts in
    subst (λ (cs : List prism.Command). OnOk c.add_loops_at.result (map prism.command_of c.add_loops_at.new.all ≡ map prism.command_of c.args.all.now ++ cs))
    (flat_map_agree made wanted (λ l. ap (λ es. target_commands n el (loop_with x l.name es) ts) (c.in_ok-here.ensures l.name.name)) (automaton_of c.args.el.now.automaton.automaton.now).locations)
    c.add_loops_at.ensures
