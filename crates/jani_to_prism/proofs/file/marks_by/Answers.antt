use Rattle.std.proofs.Common.{◌∙◌, ap, map, List}
use Rattle.std.specs.List.{zip}
use Rattle.jani_meaning.specs.Elements.{Owned}
use Rattle.prism_targets.specs.Marks.{label}
use Rattle.prism_modules.specs.Code.{file_in, names_in}
use Rattle.jani_to_prism.proofs.file.marks_by.Goals as goal

pub returns-clause-labels : goal.returns-clause-labels
returns-clause-labels c =
    let n = c.args.names.now in
    let both = c.in_ok-labels.ensures.ok in
    (rw both.0 at c.labels-labels.ensures) ∙ ap (λ (os : List Owned). map (λ p. label (file_in n) (names_in n) p.0 p.1.name) (zip os (names_in n).labels)) c.requires.labels
