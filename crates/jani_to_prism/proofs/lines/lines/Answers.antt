use Rattle.std.proofs.Common.{◌++◌, ◌∙◌, ap, List, ℕ}
use Rattle.prism_targets.specs.Lines.{lines_by}
use Rattle.prism_modules.specs.Code.{file_in, names_in}
use Rattle.jani_to_prism.proofs.lines.lines.Goals as goal

pub returns : goal.returns
returns c = c.in_ok-add_lines.ensures ∙ ap (λ (l : List (List ℕ)). l ++ lines_by (names_in c.args.names.now) (file_in c.args.names.now)) c.new-all.ensures
