use Rattle.std.proofs.Common.{[]}
use Rattle.command_words.specs.Words.{request_of}
use Rattle.model_command.specs.Run.{shelf_sides, sink_sides}
use Rattle.model_command.proofs.Causes.{told_end}
use Rattle.model_command.proofs.command.carry_out.Goals as goal

pub returns : goal.returns
returns g c =
    told_end (shelf_sides g.H.Shelf.left g.H.Shelf.faults g.H.Shelf.steady c.args.shelf.now c.judge-end.new.shelf) [] (sink_sides g.K.Sink.taken g.K.Sink.faults c.args.out.now c.tell-2.new.out) (sink_sides g.E.Sink.taken g.E.Sink.faults c.args.err.now c.tell-2.new.err) c.tell-2.result
    (request_of c.args.request.now) _ _ c.judge-end.ensures c.tell-2.ensures
