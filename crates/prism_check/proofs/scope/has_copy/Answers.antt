use Rattle.std.specs.Prelude.{Some}
use Rattle.std.proofs.Common.{◌∙◌, refl, sym}
use Rattle.prism_tree.specs.Syntax.{module_of}
use Rattle.gathering.proofs.Loops.{any_here, any_left}
use Rattle.prism_check.specs.NameFaults.{is_copy}
use Rattle.prism_check.proofs.scope.has_copy.Goals as goal

pub loop-entry-preserved : goal.loop-entry-preserved
loop-entry-preserved c =
    any_left (λ m. is_copy (Some m)) module_of c.args.all.now c.loop-entry.entry-index c.entry-item.result _ c.loop-entry-test.true c.entry-item.is
    (sym c.is_copy.ensures ∙ c.if-is_copy.false) c.loop-entry.invariant

pub returns-then-is_copy : goal.returns-then-is_copy
returns-then-is_copy c =
    sym
    (any_here (λ m. is_copy (Some m)) module_of c.args.all.now c.loop-entry.entry-index c.entry-item.result _ c.loop-entry-test.true c.entry-item.is
    (sym c.is_copy.ensures ∙ c.if-is_copy.true) c.loop-entry.invariant)
