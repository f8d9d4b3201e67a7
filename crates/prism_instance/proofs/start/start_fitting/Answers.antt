use Rattle.std.proofs.Common.{subst, map}
use Rattle.instance_start.specs.Given.{given_by}
use Rattle.instance_start.specs.Started.{FailsIn}
use Rattle.prism_check.specs.Scene.{scene}
use Rattle.prism_instance.specs.Described.{opened, prism_description}
use Rattle.prism_instance.specs.Knowing.{IsKnown}
use Rattle.prism_instance.proofs.StartLaws.{fails_start}
use Rattle.prism_instance.proofs.Typed.{begin_right}
use Rattle.prism_instance.proofs.start.start_fitting.Goals as goal

pub returns-in-Err : goal.returns-in-Err
returns-in-Err c =
    fails_start (prism_description c.args.flat.now) c.args.given.now c.in-Err.e c.requires.fits
    (subst (λ f. FailsIn (map opened f.constants) (scene f (given_by c.args.given.now)) c.in-Err.e) c.file-file.ensures.tree c.in-Err.ensures)

pub start_known-requires-clause-known : goal.start_known-requires-clause-known
start_known-requires-clause-known c = subst (λ f. IsKnown f (given_by c.args.given.now) c.in-Ok.known) c.file-file.ensures.tree c.in-Ok.ensures

pub start_known-requires-clause-begin : goal.start_known-requires-clause-begin
start_known-requires-clause-begin c = begin_right c.args.flat.now c.file-file.ensures.flat c.args.given.now c.requires.fits

pub returns-in-Ok-start_known : goal.returns-in-Ok-start_known
returns-in-Ok-start_known c =
    let known = subst (λ f. IsKnown f (given_by c.args.given.now) c.in-Ok.known) c.file-file.ensures.tree c.in-Ok.ensures in
    record {
      fits = c.requires.fits;
      narrow = known.columns.narrow;
      sound = known.columns.sound;
      process = c.in-Ok-start_known.ensures;
    }
