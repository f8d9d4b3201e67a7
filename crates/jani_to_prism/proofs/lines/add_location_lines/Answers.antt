use Rattle.prism_targets.specs.Lines.{location_line}
use Rattle.prism_modules.specs.Code.{names_in, element_of}
use Rattle.gathering.proofs.Loops.{flat_seen}
use Rattle.jani_to_prism.proofs.lines.add_location_lines.Goals as goal

pub loop-el-preserved : goal.loop-el-preserved
loop-el-preserved c =
    flat_seen (location_line (names_in c.args.names.now)) element_of c.args.els.now c.loop-el.el-index c.el-item.result c.args.lines.now c.loop-el.lines c.add_location_line.new.lines
    c.loop-el-test.true c.el-item.is c.loop-el.invariant c.in_ok-add_location_line.ensures
