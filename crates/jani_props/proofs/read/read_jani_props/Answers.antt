use Rattle.std.proofs.Common.{◌∙◌, sym, subst}
use Rattle.jani_tree.specs.Syntax.{file_of}
use Rattle.jani_check.specs.Faults.{IsChecked}
use Rattle.jani_props.specs.Reading.{IsFirst}
use Rattle.jani_props.proofs.Refusing.{shape_first, shape_none}
use Rattle.jani_props.proofs.read.read_jani_props.Goals as goal

pub shaped-requires-clause-checked : goal.shaped-requires-clause-checked
shaped-requires-clause-checked c = subst (λ f. IsChecked (file_of f)) (sym c.file-file.ensures.same) c.file-file.ensures.checked

pub shaped-requires-clause-shape : goal.shaped-requires-clause-shape
shaped-requires-clause-shape c = shape_none (file_of c.file-file.result.now) (sym c.in_ok-least.ensures ∙ c.in-None.is)

pub returns-in-Some-clause-err : goal.returns-in-Some-clause-err
returns-in-Some-clause-err c =
    subst (λ f. IsFirst (file_of f) c.in-Some.fault) c.file-file.ensures.same
    (shape_first (file_of c.file-file.result.now) c.in-Some.fault (sym c.in_ok-least.ensures ∙ c.in-Some.is))
