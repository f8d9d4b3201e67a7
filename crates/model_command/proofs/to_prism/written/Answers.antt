use Rattle.std.specs.Prelude.{List, ℕ, ◌++◌}
use Rattle.std.proofs.Common.{ap, ◌∙◌}
use Rattle.prism_tree.specs.Syntax as prism
use Rattle.prism_print.specs.Comments.{lines_text}
use Rattle.prism_print.specs.Text.{file_text}
use Rattle.jani_tree.specs.Syntax.{file_of}
use Rattle.model_command.proofs.ToPrism.{written}
use Rattle.model_command.proofs.to_prism.written.Goals as goal

pub returns-clause-ok : goal.returns-clause-ok
returns-clause-ok c =
    let tree = file_of c.args.checked in
    let model = prism.file_of c.in_ok-model.model.file in (
      c.in_ok-model.ensures.ok.0,
      (
        model,
        written tree model c.in_ok-text.text c.translated_law.ensures c.commented_law.ensures c.one_tree.ensures (c.lines_law.ensures tree) c.in_ok-model.ensures.ok.1
            (c.in_ok-text.ensures ∙ ap (λ (l : List (List ℕ)). lines_text l ++ file_text model) c.in_ok-model.ensures.lines),
      ),
    )
