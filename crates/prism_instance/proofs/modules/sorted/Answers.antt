use Rattle.std.proofs.Common.{◌≡◌, ◌∙◌, List, ap, map}
use Rattle.std.specs.List.{flat_map}
use Rattle.instance_start.specs.Numbered.{Numbered}
use Rattle.process_core.specs.Ready.{Name}
use Rattle.prism_tree.specs.Syntax.{Command, command_of}
use Rattle.prism_instance.specs.Sites.{Sorted, acted_by, number_among, texts_of}
use Rattle.prism_instance.proofs.modules.sorted.Goals as goal

same_sorted : (a a' : List Command) (b b' : List (Numbered Command)) (d d' : List Name) → a ≡ a' → b ≡ b' → d ≡ d' →
    ◌≡◌ {A = Sorted} (record { silent = a; acting = b; actions = d }) (record { silent = a'; acting = b'; actions = d' })
same_sorted a a' b b' d d' e f g = cc

pub returns : goal.returns
returns c =
    same_sorted _ _ _ _ _ _ c.in_ok-silent.ensures
    (c.in_ok-acting.ensures ∙ ap (λ l. flat_map (acted_by (number_among l)) (map command_of c.args.commands.now)) (ap texts_of c.as_slice.ensures.value ∙ c.in_ok-actions.ensures))
    c.in_ok-actions.ensures
