use Rattle.std.proofs.Common.{arith, ◌+◌, ◌++◌, ◌∷◌, [], ap, sym, subst, take}
use Rattle.std.specs.Prelude.{Err}
use Rattle.model_command.specs.Run.{AreWhole, names_of, shelf_sides}
use Rattle.model_command.proofs.Several.{one_more_whole}
use Rattle.model_command.proofs.Halts.{comes_at, halts_at, one_more_name}
use Rattle.model_command.proofs.reading.read_files.Goals as goal

pub returns-in-Err-clause-halts : goal.returns-in-Err-clause-halts
returns-in-Err-clause-halts g c = (
  g.H.Shelf.left c.loop-name.shelf,
  comes_at _ _ _ c.args.names.now c.loop-name.name-index c.loop-name.files c.loop-name-test.true c.loop-name.invariant.0,
  halts_at (shelf_sides g.H.Shelf.left g.H.Shelf.faults g.H.Shelf.steady c.args.shelf.now c.read_all.new.shelf) (g.H.Shelf.left c.loop-name.shelf) (g.H.Shelf.faults c.loop-name.shelf)
      (g.H.Shelf.steady c.loop-name.shelf) _ c.loop-name.invariant.1 c.loop-name.invariant.2 c.in-Err.fail
      c.in-Err.ensures.too_long (λ e. c.in-Err.ensures.fault (ap Err e)) (λ e. c.in-Err.ensures.not_steady (ap Err e)),
)

pub returns-in-Err-push-clause-halts : goal.returns-in-Err-push-clause-halts
returns-in-Err-push-clause-halts g c = (
  g.H.Shelf.left c.loop-name.shelf,
  comes_at _ _ _ c.args.names.now c.loop-name.name-index c.loop-name.files c.loop-name-test.true c.loop-name.invariant.0,
  tt,
)

pub loop-name-preserved : goal.loop-name-preserved
loop-name-preserved g c =
    let before = g.H.Shelf.left c.args.shelf.now in
    let after = g.H.Shelf.left c.read_all.new.shelf in (
      subst (λ files. AreWhole before after (names_of (take (c.loop-name.name-index + 1) c.args.names.now)) files) (sym c.in_default.ensures.ok)
          (subst (λ names. AreWhole before after names (c.loop-name.files ++ c.in-Ok.bytes ∷ [])) (sym (one_more_name _ c.args.names.now c.loop-name.name-index c.loop-name-test.true))
          (one_more_whole before (g.H.Shelf.left c.loop-name.shelf) after (names_of (take c.loop-name.name-index c.args.names.now)) _ c.loop-name.files c.in-Ok.bytes c.loop-name.invariant.0
          (record { takes = c.in-Ok.ensures.ok; spent = c.in-Ok.ensures.whole; within = c.in-Ok.ensures.within }))),
      (let a = c.loop-name.invariant.1 in let b = c.in-Ok.ensures.count in omega (arith, a, b)),
      λ other s. c.in-Ok.ensures.steady other (c.loop-name.invariant.2 other s),
    )
