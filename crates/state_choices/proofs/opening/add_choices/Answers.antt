use Rattle.std.proofs.Common.{◌≡◌, ◌∙◌, ◌∷◌, [], ◌++◌, List, sym, ap, map}
use Rattle.std.specs.Borrow.{Bor}
use Rattle.state_choices.specs.Open.{open_choice}
use Rattle.state_choices.specs.declared.data.Command.{Command}
use Rattle.state_choices.specs.Views.{command_of, group_of}
use Rattle.state_choices.proofs.Answering.{answer_as}
use Rattle.state_choices.proofs.Gathered.{single}
use Rattle.state_choices.proofs.Loops.{wide_each_alone, choices_each_alone}
use Rattle.state_choices.proofs.opening.add_choices.Goals as goal

pub returns-then-lists-eq1 : goal.returns-then-lists-eq1
returns-then-lists-eq1 c s =
    let g = c.args.group.now in
    let rs = c.index-lists-0.result.now in
    let e : (group_of g).lists ≡ map command_of rs ∷ [] =
    ap (map (λ (l : Bor (List Command)). map command_of l.now)) (sym c.as_slice-lists.ensures.value ∙ single c.as_slice-lists.result.now c.index-lists-0.result c.if-lists-eq1.true c.index-lists-0.is) in
    answer_as (λ (u : Unit {0}). map (open_choice s) c.add_each_alone.new.all) _ _ _ _ c.add_each_alone.result (wide_each_alone g rs e)
    (ap (λ l. map (open_choice s) c.args.all.now ++ l) (choices_each_alone g rs e s)) (c.add_each_alone.ensures s)
