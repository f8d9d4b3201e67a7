use Rattle.constant_folding.specs.Tables.{given_in, known_in}
use Rattle.process_core.specs.Zip.{zip_more}
use Rattle.specialise_jani.proofs.parts.all_folded.Goals as goal

pub loop-part-preserved : goal.loop-part-preserved
loop-part-preserved g c =
    zip_more (g.T.Folded.IsFolded (given_in c.args.table.now) (known_in c.args.table.now)) c.args.parts.now c.loop-part.list c.push.new.self c.loop-part.part-index
    c.part-item.result _ c.loop-part-test.true c.part-item.is c.loop-part.invariant c.in_ok-folded.ensures c.in_ok-push.ensures.ok
