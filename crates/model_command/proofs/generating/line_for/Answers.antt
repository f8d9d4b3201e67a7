use Rattle.std.proofs.Common.{rules, ◌≡◌, ◌∙◌, ap₂, subst, ◌*◌, ◌-◌}
use Rattle.std.specs.Prelude.{string_bytes}
use Rattle.model_command.specs.Generating.{generated_line}
use Rattle.model_command.specs.ToPrism.{TranslatesToPrism}
use Rattle.model_command.proofs.Generated.{generated}
use Rattle.model_command.proofs.generating.line_for.Goals as goal

pub returns : goal.returns
returns c =
    let line : c.from_vec.result ≡ string_bytes c.in_ok-line.line = search rules in
    generated c.args.modules c.from_vec.result c.in_ok-jani.jani c.in_ok-prism.prism c.in_ok-jani.ensures (subst (λ b. TranslatesToPrism b c.in_ok-prism.prism) c.as_slice.ensures (c.in_ok-prism.ensures c.as_slice.result.now c.jani_in.ensures))
    (line ∙ c.in_ok-line.ensures ∙ ap₂ (λ a b. generated_line c.args.modules (3 * c.args.modules - 1) a b) c.len.ensures c.len-2.ensures)
