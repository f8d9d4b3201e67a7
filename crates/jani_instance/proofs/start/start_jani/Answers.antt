use Rattle.std.proofs.Common.{◌∙◌, ap, sym, map}
use Rattle.instance_start.specs.Columns.{constant_of}
use Rattle.instance_start.specs.Given.{misfit}
use Rattle.jani_tree.specs.Syntax.{const_of}
use Rattle.jani_instance.specs.Knowing.{opened}
use Rattle.jani_instance.proofs.start.start_jani.Goals as goal

pub returns-in-Some : goal.returns-in-Some
returns-in-Some c =
    ap (λ cs. misfit cs c.args.given.now)
    (sym (ap (map constant_of) c.as_slice-2.ensures.value ∙ c.in-Ok.ensures ∙ ap (λ l. map opened (map const_of l)) c.as_slice.ensures ∙ ap (λ f. map opened (map const_of f.constants)) c.file-file.ensures.same))
    ∙ sym c.in-Ok-misfit.ensures
    ∙ c.in-Some.is
