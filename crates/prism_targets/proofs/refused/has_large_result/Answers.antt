use Rattle.std.specs.Prelude.{◌≡◌, ◌||◌, List, Bool, IfOk}
use Rattle.std.proofs.Common.{◌∙◌, ap, ap₂, sym, subst}
use Rattle.jani_tree.specs.Syntax.{Automaton, file_of}
use Rattle.jani_meaning.specs.Elements as jani
use Rattle.jani_meaning.specs.Elements.{Owned, labels}
use Rattle.edge_tables.specs.Counts.{crowded_from, usable_among}
use Rattle.edge_tables.proofs.Crowded.{large_result_is}
use Rattle.prism_targets.proofs.refused.has_large_result.Goals as goal

pub returns-then-branch : goal.returns-then-branch
returns-then-branch c =
    let file = file_of c.args.file.now in
    sym (large_result_is file ∙ ap (λ b. b || crowded_from (usable_among (labels file)) 0 (jani.elements file)) (sym c.in_ok-has_large_modules.ensures ∙ c.if-branch.true))

pub returns : goal.returns
returns c =
    let file = file_of c.args.file.now in
    subst (λ (y : Bool). IfOk c.has_large_labels.result (λ b. b ≡ y))
    (ap₂ (λ (vars : List Owned) (l : List Automaton). crowded_from (usable_among vars) 0 l) c.requires.labels c.requires.automata
    ∙ sym (large_result_is file ∙ ap (λ b. b || crowded_from (usable_among (labels file)) 0 (jani.elements file)) (sym c.in_ok-has_large_modules.ensures ∙ c.if-branch.false)))
    c.has_large_labels.ensures
