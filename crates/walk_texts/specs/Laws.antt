-- A job ends in one way: by the process and the words there is one report at most. (This project's own rule.)
use Rattle.std.specs.Prelude.{◌≡◌, ℕ, List, Option}
use Rattle.process_core.specs.Steps.{Process}
use Rattle.walk_texts.specs.Jobs.{IsShown, IsWalkedAlong, IsWalkedBySeed}
use Rattle.walk_texts.specs.declared.report.Report.{Report}

abbrev pub OneShown : Type 0
OneShown = (p : Process) (w : List ℕ) (q r : Report) → IsShown p w q → IsShown p w r → q ≡ r

abbrev pub OneWalkedAlong : Type 0
OneWalkedAlong = (p : Process) (from : Option (List ℕ)) (pairs : List (ℕ × ℕ)) (q r : Report) → IsWalkedAlong p from pairs q → IsWalkedAlong p from pairs r → q ≡ r

abbrev pub OneWalkedBySeed : Type 0
OneWalkedBySeed = (p : Process) (from : Option (List ℕ)) (seed steps : ℕ) (q r : Report) → IsWalkedBySeed p from seed steps q → IsWalkedBySeed p from seed steps r → q ≡ r
