-- The labels and the states of steps, by which a walk is a path.
-- (That a step is told by its label and its state is this project's own rule.)
use Rattle.std.specs.Prelude.{List, map, Option}
use Rattle.process_core.specs.Ready.{Values, Name}
use Rattle.step_sim.specs.declared.walk.Step.{Step}

abbrev pub moves : List Step → List (Option Name × Values)
moves ts = map (λ t. (t.label, t.target.values)) ts
