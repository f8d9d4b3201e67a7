use Rattle.std.proofs.Common.{◌∙◌, ap}
use Rattle.prism_check.specs.Tables.{named_module}
use Rattle.prism_check.proofs.sizes.judge_sizes.Goals as goal

pub judge_by-sizes-requires : goal.judge_by-sizes-requires
judge_by-sizes-requires c = record {
  order = c.requires;
  modules = λ x. c.in_ok-modules.ensures x ∙ ap (λ ms. named_module ms x) c.as_slice.ensures;
}
