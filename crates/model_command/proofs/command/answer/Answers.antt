use Rattle.std.proofs.Common.{[], ◌+◌, ap, inl, inr, sym}
use Rattle.std.specs.Prelude.{string_bytes}
use Rattle.std.proofs.lemmas.List.{length-map}
use Rattle.command_words.specs.Words.{request_of, texts}
use Rattle.model_command.specs.declared.outcome.Outcome.TheVariants.{NoMemory, Words}
use Rattle.model_command.specs.Run.{shelf_sides, sink_sides}
use Rattle.model_command.proofs.Causes.{answered, behind}
use Rattle.model_command.proofs.command.answer.Goals as goal

pub carry_out-requires : goal.carry_out-requires
carry_out-requires g c =
    behind (texts c.args.words.now) (request_of c.in-Ok.request) _ c.words_law.ensures.count c.in-Ok.ensures (ap (λ n. n + 1) (sym (length-map c.args.words.now string_bytes)))

pub returns-in-Ok : goal.returns-in-Ok
returns-in-Ok g c =
    let e = c.carry_out.ensures in (e.0, e.1, inr (request_of c.in-Ok.request, c.in-Ok.ensures, e.2), e.3)

pub returns-in-Err-At : goal.returns-in-Err-At
returns-in-Err-At g c =
    answered (shelf_sides g.H.Shelf.left g.H.Shelf.faults g.H.Shelf.steady c.args.shelf.now c.args.shelf.now) _ (sink_sides g.K.Sink.taken g.K.Sink.faults c.args.out.now c.tell.new.out) (sink_sides g.E.Sink.taken g.E.Sink.faults c.args.err.now c.tell.new.err) c.tell.result
    [] (Words c.in-Err-At.k) (inl (rw c.in-Err-At.field-0-is at c.in-Err-At.ensures)) c.tell.ensures

pub returns-in-Err-Memory : goal.returns-in-Err-Memory
returns-in-Err-Memory g c =
    answered (shelf_sides g.H.Shelf.left g.H.Shelf.faults g.H.Shelf.steady c.args.shelf.now c.args.shelf.now) _ (sink_sides g.K.Sink.taken g.K.Sink.faults c.args.out.now c.tell-in-Err-Memory.new.out) (sink_sides g.E.Sink.taken g.E.Sink.faults c.args.err.now c.tell-in-Err-Memory.new.err) c.tell-in-Err-Memory.result
    [] NoMemory (inl tt) c.tell-in-Err-Memory.ensures
