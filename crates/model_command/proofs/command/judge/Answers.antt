use Rattle.std.proofs.Common.{sym, subst}
use Rattle.command_words.specs.Words.{request_of}
use Rattle.model_command.specs.Run.{IsEnd, names_of, shelf_sides}
use Rattle.model_command.proofs.Halts.{halted_end}
use Rattle.model_command.proofs.command.judge.Goals as goal

pub returns-in-Err : goal.returns-in-Err
returns-in-Err g c =
    subst (λ o. IsEnd (shelf_sides g.H.Shelf.left g.H.Shelf.faults g.H.Shelf.steady c.args.shelf.now c.read_files.new.shelf) (request_of c.args.request.now) c.in-Err.halt.name.now o) (sym c.halted.ensures)
    (halted_end (shelf_sides g.H.Shelf.left g.H.Shelf.faults g.H.Shelf.steady c.args.shelf.now c.read_files.new.shelf) (request_of c.args.request.now) (names_of c.args.names.now) c.in-Err.halt c.requires.names c.in-Err.ensures.halts)
