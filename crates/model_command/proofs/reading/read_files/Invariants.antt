use Rattle.std.proofs.Common.{◌≤◌, ℕ, List, take}
use Rattle.model_command.specs.Run.{AreWhole, names_of}
use Rattle.model_command.proofs.reading.read_files.Given as goal

abbrev pub invariant-loop-name : goal.invariant-loop-name
invariant-loop-name g l =
    AreWhole (g.H.Shelf.left l.initial.shelf) (g.H.Shelf.left l.shelf) (names_of (take l.name-index l.names)) l.files
    × (g.H.Shelf.faults l.initial.shelf ≤ g.H.Shelf.faults l.shelf)
    × ((other : List ℕ) → g.H.Shelf.steady l.initial.shelf other → g.H.Shelf.steady l.shelf other)
