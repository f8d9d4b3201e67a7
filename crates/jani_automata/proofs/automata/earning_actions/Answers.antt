use Rattle.std.proofs.Common.{refl, ap, ◌∙◌, ℕ, List, map, take_all}
use Rattle.std.specs.List.{filter, list_any}
use Rattle.std.specs.Borrow.{Bor}
use Rattle.prism_tree.specs.declared.syntax.PrismRewards.{PrismRewards}
use Rattle.prism_tree.specs.Syntax.{Rewards, Item, file_of, rewards_of}
use Rattle.process_core.specs.Ready.{Name}
use Rattle.gathering.proofs.Loops.{kept_step}
use Rattle.name_rules.specs.Names.{has_name}
use Rattle.jani_edges.specs.Automata.{has_items, for_action}
use Rattle.jani_automata.proofs.automata.earning_actions.Goals as goal

pub loop-a-preserved : goal.loop-a-preserved
loop-a-preserved c =
    let a : Name = c.a-item.result.now in
    kept_step (λ (x : Bor (List ℕ)). x.now) (λ (x : Name). has_items (for_action x) (file_of c.args.file.now)) (λ (x : Bor (List ℕ)). x.now) c.args.acts.now c.loop-a.a-index
    _ _ _ _ _ c.loop-a-test.true c.a-item.is c.loop-a.invariant refl
    (c.has.ensures
    ∙ ap (λ (x : Name). has_name c.in_ok-items.items x) c.as_str.ensures
    ∙ c.in_ok-items.ensures a
    ∙ ap (λ (l : List PrismRewards). list_any (λ (r : Rewards). list_any (λ (i : Item). for_action a i.on) r.items) (map rewards_of l)) c.as_slice.ensures)
    c.in_ok-keep_if.ensures

pub returns : goal.returns
returns c =
    let earns : Name → _ = λ x. has_items (for_action x) (file_of c.args.file.now) in
    c.loop-a.invariant
    ∙ ap (λ (l : List (Bor (List ℕ))). filter earns (map (λ (x : Bor (List ℕ)). x.now) l)) (take_all c.loop-a.a-index c.args.acts.now c.loop-a-test.false)
    ∙ ap (filter earns) c.requires
