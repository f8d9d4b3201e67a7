use Rattle.std.proofs.Common.{rules, ◌≡◌, ◌⊎◌, ◌∷◌, []}
use Rattle.command_words.specs.Words.{with_properties, carry, check, specialise}
use Rattle.model_command.specs.Outcome.{status_of}
use Rattle.model_command.specs.Run.{shelf_sides, sink_sides}
use Rattle.model_command.proofs.CarriedPaths.{kept_of, lost_of}
use Rattle.model_command.proofs.Causes.{written, of_words, of_read}
use Rattle.model_command.proofs.CertifiedBounds.{certified_of, status_zero}
use Rattle.model_command.proofs.Exact.{exact_words}
use Rattle.model_command.proofs.Fit.{exact_fit}
use Rattle.model_command.proofs.Generated.{tells_of}
use Rattle.model_command.proofs.Paired.{translated_of}
use Rattle.model_command.proofs.SeveralTold.{ended_of}
use Rattle.model_command.proofs.Told.{headline_of, shown_of, written_whole}
use Rattle.model_command.proofs.command.run.Goals as goal

pub returns-clause-written : goal.returns-clause-written
returns-clause-written g c =
    written (shelf_sides g.H.Shelf.left g.H.Shelf.faults g.H.Shelf.steady c.args.shelf.now c.answer.new.shelf) _ (sink_sides g.K.Sink.taken g.K.Sink.faults c.args.out.now c.answer.new.out) (sink_sides g.E.Sink.taken g.E.Sink.faults c.args.err.now c.answer.new.err)
    c.answer.result c.answer.ensures.0 c.answer.ensures.1 c.answer.ensures.2 c.answer.ensures.3

pub returns-clause-words : goal.returns-clause-words
returns-clause-words g c =
    of_words (shelf_sides g.H.Shelf.left g.H.Shelf.faults g.H.Shelf.steady c.args.shelf.now c.answer.new.shelf) _ (sink_sides g.K.Sink.taken g.K.Sink.faults c.args.out.now c.answer.new.out) (sink_sides g.E.Sink.taken g.E.Sink.faults c.args.err.now c.answer.new.err)
    c.answer.result c.answer.ensures.0 c.answer.ensures.1 c.answer.ensures.2 c.answer.ensures.3

pub returns-clause-read_fault : goal.returns-clause-read_fault
returns-clause-read_fault g c =
    of_read (shelf_sides g.H.Shelf.left g.H.Shelf.faults g.H.Shelf.steady c.args.shelf.now c.answer.new.shelf) _ (sink_sides g.K.Sink.taken g.K.Sink.faults c.args.out.now c.answer.new.out) (sink_sides g.E.Sink.taken g.E.Sink.faults c.args.err.now c.answer.new.err)
    c.answer.result c.answer.ensures.0 c.answer.ensures.1 c.answer.ensures.2 c.answer.ensures.3

pub returns-clause-words_exactly : goal.returns-clause-words_exactly
returns-clause-words_exactly g c =
    let status : (c.answer.result ≡ status_of c.answer.ensures.1) ⊎ (c.answer.result ≡ 5) = search rules in
    exact_words (shelf_sides g.H.Shelf.left g.H.Shelf.faults g.H.Shelf.steady c.args.shelf.now c.answer.new.shelf) _ c.answer.ensures.0 c.answer.result c.answer.ensures.1 c.answer.ensures.2 status

pub returns-clause-accepted : goal.returns-clause-accepted
returns-clause-accepted g c = λ lefts task name bytes told had form fit within.
    let status : (c.answer.result ≡ status_of c.answer.ensures.1) ⊎ (c.answer.result ≡ 5) = search rules in
    exact_fit (shelf_sides g.H.Shelf.left g.H.Shelf.faults g.H.Shelf.steady c.args.shelf.now c.answer.new.shelf) _ c.answer.ensures.0 c.answer.result c.words_law.ensures.one lefts task name bytes told had form fit within c.answer.ensures.1 c.answer.ensures.2 status

pub returns-clause-headline : goal.returns-clause-headline
returns-clause-headline g c = λ left task name bytes was said told had held heard form no_read no_write no_memory.
    let e = written_whole (sink_sides g.K.Sink.taken g.K.Sink.faults c.args.out.now c.answer.new.out) (sink_sides g.E.Sink.taken g.E.Sink.faults c.args.err.now c.answer.new.err) c.answer.result was said held heard no_write c.answer.ensures.0 c.answer.ensures.1 c.answer.ensures.3 in
    headline_of (shelf_sides g.H.Shelf.left g.H.Shelf.faults g.H.Shelf.steady c.args.shelf.now c.answer.new.shelf) _ c.answer.ensures.0 c.words_law.ensures.one left told bytes was said _ _ c.answer.result no_read no_memory
    task name had form c.answer.ensures.1 c.answer.ensures.2 e.0 e.1 e.2

pub returns-clause-shown : goal.returns-clause-shown
returns-clause-shown g c = λ left w bytes was said told had held heard form no_read no_write no_memory.
    let e = written_whole (sink_sides g.K.Sink.taken g.K.Sink.faults c.args.out.now c.answer.new.out) (sink_sides g.E.Sink.taken g.E.Sink.faults c.args.err.now c.answer.new.err) c.answer.result was said held heard no_write c.answer.ensures.0 c.answer.ensures.1 c.answer.ensures.3 in
    shown_of (shelf_sides g.H.Shelf.left g.H.Shelf.faults g.H.Shelf.steady c.args.shelf.now c.answer.new.shelf) _ c.answer.ensures.0 c.words_law.ensures.one left told bytes was said _ _ c.answer.result no_read no_memory
    w had form c.answer.ensures.1 c.answer.ensures.2 e.0 e.1 e.2

pub returns-clause-judged : goal.returns-clause-judged
returns-clause-judged g c = λ left k contents was said told held kept heard form no_read no_write no_memory.
    let e = written_whole (sink_sides g.K.Sink.taken g.K.Sink.faults c.args.out.now c.answer.new.out) (sink_sides g.E.Sink.taken g.E.Sink.faults c.args.err.now c.answer.new.err) c.answer.result was said kept heard no_write c.answer.ensures.0 c.answer.ensures.1 c.answer.ensures.3 in
    ended_of (shelf_sides g.H.Shelf.left g.H.Shelf.faults g.H.Shelf.steady c.args.shelf.now c.answer.new.shelf) _ c.answer.ensures.0 c.words_law.ensures.one left told contents was said _ _ c.answer.result no_read no_memory
    (check k) form.names held form c.answer.ensures.1 c.answer.ensures.2 e.0 e.1 e.2

pub returns-clause-with_properties : goal.returns-clause-with_properties
returns-clause-with_properties g c = λ left file properties model second was said told held held_second kept heard form no_read no_write no_memory.
    let e = written_whole (sink_sides g.K.Sink.taken g.K.Sink.faults c.args.out.now c.answer.new.out) (sink_sides g.E.Sink.taken g.E.Sink.faults c.args.err.now c.answer.new.err) c.answer.result was said kept heard no_write c.answer.ensures.0 c.answer.ensures.1 c.answer.ensures.3 in
    translated_of file properties model second was said _ _ c.answer.result c.one_list_of_faults.ensures no_memory
    (ended_of (shelf_sides g.H.Shelf.left g.H.Shelf.faults g.H.Shelf.steady c.args.shelf.now c.answer.new.shelf) _ c.answer.ensures.0 c.words_law.ensures.one left told (model ∷ second ∷ []) was said _ _ c.answer.result no_read no_memory
    (with_properties file properties) form.names (held, (held_second, tt)) form c.answer.ensures.1 c.answer.ensures.2 e.0 e.1 e.2)

pub returns-clause-generated : goal.returns-clause-generated
returns-clause-generated g c = λ modules form.
    tells_of modules (shelf_sides g.H.Shelf.left g.H.Shelf.faults g.H.Shelf.steady c.args.shelf.now c.answer.new.shelf) (sink_sides g.K.Sink.taken g.K.Sink.faults c.args.out.now c.answer.new.out) (sink_sides g.E.Sink.taken g.E.Sink.faults c.args.err.now c.answer.new.err)
    c.answer.result _ c.words_law.ensures.one form c.answer.ensures.0 c.answer.ensures.1 c.answer.ensures.2 c.answer.ensures.3

pub returns-clause-certified : goal.returns-clause-certified
returns-clause-certified g c = λ k form zero.
    let status : (c.answer.result ≡ status_of c.answer.ensures.1) ⊎ (c.answer.result ≡ 5) = search rules in
    certified_of (shelf_sides g.H.Shelf.left g.H.Shelf.faults g.H.Shelf.steady c.args.shelf.now c.answer.new.shelf) _ c.words_law.ensures.one c.certified_law.ensures k form c.answer.ensures.0
    c.answer.ensures.1 c.answer.ensures.2 (status_zero c.answer.result (status_of c.answer.ensures.1) status zero)

pub returns-clause-carried : goal.returns-clause-carried
returns-clause-carried g c = λ left k contents was said told held kept heard form no_read no_write no_memory.
    let e = written_whole (sink_sides g.K.Sink.taken g.K.Sink.faults c.args.out.now c.answer.new.out) (sink_sides g.E.Sink.taken g.E.Sink.faults c.args.err.now c.answer.new.err) c.answer.result was said kept heard no_write c.answer.ensures.0 c.answer.ensures.1 c.answer.ensures.3 in
    ended_of (shelf_sides g.H.Shelf.left g.H.Shelf.faults g.H.Shelf.steady c.args.shelf.now c.answer.new.shelf) _ c.answer.ensures.0 c.words_law.ensures.one left told contents was said _ _ c.answer.result no_read no_memory
    (carry k) form.names held form c.answer.ensures.1 c.answer.ensures.2 e.0 e.1 e.2

pub returns-clause-kept : goal.returns-clause-kept
returns-clause-kept g c = λ k form zero.
    kept_of (shelf_sides g.H.Shelf.left g.H.Shelf.faults g.H.Shelf.steady c.args.shelf.now c.answer.new.shelf) (sink_sides g.K.Sink.taken g.K.Sink.faults c.args.out.now c.answer.new.out) (sink_sides g.E.Sink.taken g.E.Sink.faults c.args.err.now c.answer.new.err)
    c.answer.result _ c.words_law.ensures.one k form c.answer.ensures.0 c.kept_law.ensures.kept c.answer.ensures.1 c.answer.ensures.2 c.answer.ensures.3 zero

pub returns-clause-lost : goal.returns-clause-lost
returns-clause-lost g c = λ k form status.
    lost_of (shelf_sides g.H.Shelf.left g.H.Shelf.faults g.H.Shelf.steady c.args.shelf.now c.answer.new.shelf) (sink_sides g.K.Sink.taken g.K.Sink.faults c.args.out.now c.answer.new.out) (sink_sides g.E.Sink.taken g.E.Sink.faults c.args.err.now c.answer.new.err)
    c.answer.result _ c.words_law.ensures.one k form c.answer.ensures.0 c.kept_law.ensures.lost c.answer.ensures.1 c.answer.ensures.2 c.answer.ensures.3 status

pub returns-clause-specialised : goal.returns-clause-specialised
returns-clause-specialised g c = λ left p bytes was said told held kept heard form no_read no_write no_memory.
    let e = written_whole (sink_sides g.K.Sink.taken g.K.Sink.faults c.args.out.now c.answer.new.out) (sink_sides g.E.Sink.taken g.E.Sink.faults c.args.err.now c.answer.new.err) c.answer.result was said kept heard no_write c.answer.ensures.0 c.answer.ensures.1 c.answer.ensures.3 in
    ended_of (shelf_sides g.H.Shelf.left g.H.Shelf.faults g.H.Shelf.steady c.args.shelf.now c.answer.new.shelf) _ c.answer.ensures.0 c.words_law.ensures.one left told (bytes ∷ []) was said _ _ c.answer.result no_read no_memory
    (specialise p) ((form.file, tt), tt) (held, tt) form c.answer.ensures.1 c.answer.ensures.2 e.0 e.1 e.2
