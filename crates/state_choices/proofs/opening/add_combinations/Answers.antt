use Rattle.std.proofs.Common.{◌≡◌, ◌∙◌, sym, ap, map, List, Vec, Global, ◌++◌, refl}
use Rattle.std.specs.Borrow.{Bor}
use Rattle.std.specs.List.{filter}
use Rattle.state_choices.specs.Counted.{may_hold}
use Rattle.process_core.specs.Choices.{choice_of, choices}
use Rattle.process_core.specs.Bounds.{is_wide_rest}
use Rattle.process_core.specs.Answers.{only_wide}
use Rattle.process_core.specs.Product.{one_of_each}
use Rattle.state_choices.specs.Open.{open_choice}
use Rattle.state_choices.specs.declared.data.Command.{Command}
use Rattle.state_choices.specs.Views.{combination_of, command_of, group_of, participants_of}
use Rattle.state_choices.specs.Groups.{of_group}
use Rattle.state_choices.proofs.Gathered.{any_here, ways_seen}
use Rattle.state_choices.proofs.Gathering.{gathered_none, gathered_more, gathered_all}
use Rattle.state_choices.proofs.Answering.{narrow_then, handed_on}
use Rattle.state_choices.proofs.Loops.{participants_wide, participants_choice, wide_combinations, choices_of_combinations}
use Rattle.state_choices.proofs.opening.add_combinations.Goals as goal

pub returns-in_err-add_choice : goal.returns-in_err-add_choice
returns-in_err-add_choice c s =
    let g = c.args.group.now in
    let Is = λ (u : Unit {0}). map (open_choice s) c.add_choice.new.all ≡ map (open_choice s) c.args.all.now ++ choices s (of_group (group_of g)) in
    let ws = c.as_slice-way-items.result.now in
    let e : map (λ (w : Vec (Bor Command) Global). participants_of w.items) ws ≡ one_of_each (map (filter may_hold) (group_of g).lists) =
    ways_seen (λ (v : Vec (Bor Command) Global). v.items) (λ (r : Bor Command). command_of r.now) ws c.in_ok-lists.lists.items
    (ap (map (λ (v : Vec (Bor Command) Global). v.items)) c.as_slice-way-items.ensures.value ∙ c.in_ok-ways.ensures
    ∙ ap (λ (ls : List (Vec (Bor Command) Global)). one_of_each (map (λ v. v.items) ls)) c.as_slice.ensures.value)
    ∙ ap one_of_each c.in_ok-lists.ensures in
    handed_on Is _ _ c.in_err-add_choice.field-0.0 c.from_residual-in_err-add_choice.result c.from_residual-in_err-add_choice.ensures.1
    (λ w. sym (wide_combinations g ws e)
    ∙ any_here (participants_wide g) ws c.loop-way.way-index c.way-item.result c.loop-way-test.true c.way-item.is (ap (λ rs. is_wide_rest (combination_of g rs)) (sym c.as_slice-in-loop-way.ensures.value) ∙ w))
    (c.in_err-add_choice.ensures s)

pub loop-way-init : goal.loop-way-init
loop-way-init c s =
    gathered_none (participants_wide c.args.group.now) (participants_choice s c.args.group.now) c.as_slice-way-items.result.now (map (open_choice s) c.args.all.now) (map (open_choice s) c.args.all.now) refl

pub loop-way-preserved : goal.loop-way-preserved
loop-way-preserved c s =
    let g = c.args.group.now in
    gathered_more (participants_wide g) (participants_choice s g) c.as_slice-way-items.result.now (map (open_choice s) c.args.all.now) c.loop-way.way-index c.way-item.result
    (map (open_choice s) c.loop-way.all) (map (open_choice s) c.add_choice.new.all) c.loop-way-test.true c.way-item.is
    (ap (λ rs. is_wide_rest (combination_of g rs)) (sym c.as_slice-in-loop-way.ensures.value) ∙ narrow_then _ (c.in_ok-add_choice.ensures s).0)
    ((c.in_ok-add_choice.ensures s).1 ∙ ap (λ rs. map (open_choice s) c.loop-way.all ++ choice_of s (combination_of g rs)) c.as_slice-in-loop-way.ensures.value)
    (c.loop-way.invariant s)

pub returns : goal.returns
returns c s =
    let g = c.args.group.now in
    let ws = c.as_slice-way-items.result.now in
    let all =
    gathered_all (participants_wide g) (participants_choice s g) ws (map (open_choice s) c.args.all.now) c.loop-way.way-index (map (open_choice s) c.loop-way.all) c.loop-way-test.false (c.loop-way.invariant s) in
    let e : map (λ (w : Vec (Bor Command) Global). participants_of w.items) ws ≡ one_of_each (map (filter may_hold) (group_of g).lists) =
    ways_seen (λ (v : Vec (Bor Command) Global). v.items) (λ (r : Bor Command). command_of r.now) ws c.in_ok-lists.lists.items
    (ap (map (λ (v : Vec (Bor Command) Global). v.items)) c.as_slice-way-items.ensures.value ∙ c.in_ok-ways.ensures
    ∙ ap (λ (ls : List (Vec (Bor Command) Global)). one_of_each (map (λ v. v.items) ls)) c.as_slice.ensures.value)
    ∙ ap one_of_each c.in_ok-lists.ensures in
    (ap only_wide (sym (wide_combinations g ws e) ∙ all.0), all.1 ∙ ap (λ l. map (open_choice s) c.args.all.now ++ l) (choices_of_combinations g ws e s))
