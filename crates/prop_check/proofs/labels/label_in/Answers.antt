use Rattle.std.proofs.Common.{◌∙◌, sym}
use Rattle.prism_tree.specs.Laws.{unquoted_is}
use Rattle.prop_check.proofs.labels.label_in.Goals as goal

pub returns-in-Some-clause-some : goal.returns-in-Some-clause-some
returns-in-Some-clause-some c = sym (unquoted_is _ _ _ _ _ (sym c.as_bytes.ensures.value ∙ c.in_ok-behind.ensures.cases.0) c.in-Some.ensures.cases.0)
