use Rattle.std.proofs.Common.{◌∙◌, ap}
use Rattle.prism_check.specs.Tables.{named_module}
use Rattle.prism_check.proofs.types.judge_types.Goals as goal

pub judge_declared-judged-requires : goal.judge_declared-judged-requires
judge_declared-judged-requires c = record {
  order = c.requires;
  modules = λ x. c.in_ok-modules.ensures x ∙ ap (λ ms. named_module ms x) c.as_slice.ensures;
}
