use Rattle.prism_tree.specs.Syntax.{module_of}
use Rattle.specialise_prism.specs.Specialised.{specialised_module}
use Rattle.constant_folding.specs.Tables.{known_in}
use Rattle.prism_rewriter.proofs.Steps.{mapped_more}
use Rattle.specialise_prism.proofs.file.folded_modules.Goals as goal

pub loop-module-preserved : goal.loop-module-preserved
loop-module-preserved c =
    mapped_more module_of (specialised_module (known_in c.args.table.now)) c.args.modules.now c.loop-module.list c.push.new.self
    c.loop-module.module-index c.module-item.result c.in_ok-folded_module.field-0 c.loop-module-test.true c.module-item.is c.loop-module.invariant
    c.in_ok-folded_module.ensures c.in_ok-push.ensures.ok
