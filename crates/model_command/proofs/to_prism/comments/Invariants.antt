use Rattle.std.specs.Prelude.{◌≡◌, take}
use Rattle.prism_print.specs.Comments.{lines_text}
use Rattle.model_command.proofs.to_prism.comments.Given as goal

abbrev pub invariant-loop-line : goal.invariant-loop-line
invariant-loop-line l = l.text.items ≡ lines_text (take l.line-index l.lines)
