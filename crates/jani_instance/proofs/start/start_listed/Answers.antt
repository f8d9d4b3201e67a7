use Rattle.std.proofs.Common.{subst, sym}
use Rattle.jani_check.specs.Faults.{IsChecked}
use Rattle.instance_start.specs.Given.{given_by}
use Rattle.jani_tree.specs.Syntax.{file_of}
use Rattle.jani_instance.specs.Knowing.{IsBuilt, IsKnown}
use Rattle.jani_instance.proofs.Typed.{begin_right}
use Rattle.jani_instance.proofs.start.start_listed.Goals as goal

pub instance_of-requires-clause-begin : goal.instance_of-requires-clause-begin
instance_of-requires-clause-begin c =
    begin_right (file_of c.args.checked.now) c.file-file.ensures.checked c.args.given.now c.requires.fits

pub returns : goal.returns
returns c =
    let known = subst (λ f. IsKnown (file_of f) (given_by c.args.given.now) c.in-Ok.known) c.file-file.ensures.same c.in-Ok.ensures in
    record {
      fits = c.requires.fits;
      narrow = known.columns_are.narrow;
      sound = known.columns_are.sound;
      process = c.instance_of.ensures;
    }

pub instance_of-requires-clause-built : goal.instance_of-requires-clause-built
instance_of-requires-clause-built c =
    let v = given_by c.args.given.now in
    subst (λ f. IsBuilt (file_of f) v c.in-Ok-what_is_built.built) c.file-file.ensures.same (c.in-Ok-what_is_built.ensures v c.in-Ok.ensures.constants_are)

pub what_is_built-requires-clause-checked : goal.what_is_built-requires-clause-checked
what_is_built-requires-clause-checked c = subst (λ f. IsChecked (file_of f)) (sym c.file-file.ensures.same) c.file-file.ensures.checked
