use Rattle.std.specs.Prelude.{◌≡◌, ◌++◌, map, drop}
use Rattle.jani_tree.specs.Syntax.{file_of}
use Rattle.jani_check.specs.NameLists.{names_under}
use Rattle.jani_check.specs.Participants.{element_shared}
use Rattle.jani_check.proofs.elements.each_shared.Given as goal

abbrev pub invariant-loop-e : goal.invariant-loop-e
invariant-loop-e l =
    map names_under l.list.items ++ map (λ e. element_shared (file_of l.file) e.name) (drop l.e-index l.e-items) ≡ map (λ e. element_shared (file_of l.file) e.name) l.e-items
