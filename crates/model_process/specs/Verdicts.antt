-- What is written of a verdict on a path, on rows or on bounds. (The texts are this project's own rule.)
use Rattle.std.specs.Prelude.{ℕ, List, [], ◌++◌, codes}
use Rattle.std.specs.Fmt.{decimal}
use Rattle.command_words.specs.Words.{Claim, of_path, of_rows, of_bounds}
use Rattle.model_process.specs.declared.ending.Ending.{Ending}
use Rattle.model_process.specs.declared.ending.Ending.TheVariants as E
use Rattle.model_process.specs.declared.finding.Finding.{Finding}
use Rattle.model_process.specs.declared.finding.Finding.TheVariants.{Judged, Bounds, NoLabel}
use Rattle.row_check.specs.declared.data.Verdict.{Verdict}
use Rattle.row_check.specs.declared.data.Verdict.TheVariants.{Yes, No, Wide, TooMany}
use Rattle.row_check.specs.declared.data.Why.{Why}
use Rattle.value_bound.specs.declared.data.BoundVerdict.{BoundVerdict}
use Rattle.value_bound.specs.declared.data.BoundVerdict.TheVariants as B
use Rattle.row_check.specs.declared.data.Why.TheVariants.{Step, Outside, Repeated, Initial, Target, FaultyState, Choices, Counts}

-- a line with a number in it
abbrev pub numbered_line : List ℕ → ℕ → List ℕ → List ℕ
numbered_line front n back = front ++ (decimal n ++ back)

-- `no WHY`; all numbers count from 0
abbrev pub no_line : Why → List ℕ
no_line (Step k) = numbered_line (codes "no step ") k (codes "\n")
no_line (Outside i) = numbered_line (codes "no state ") i (codes " outside\n")
no_line (Repeated i) = numbered_line (codes "no state ") i (codes " repeated\n")
no_line Initial = codes "no initial\n"
no_line (Target r) = numbered_line (codes "no row ") r (codes " target\n")
no_line (FaultyState s) = numbered_line (codes "no state ") s (codes " bad\n")
no_line (Choices s) = numbered_line (codes "no state ") s (codes " choices\n")
no_line Counts = codes "no counts\n"

-- what is numbered where something passes a bound: the steps of a path, or the listed states
abbrev pub place_word : Claim → List ℕ
place_word (of_path path) = codes "step"
place_word (of_rows states rows) = codes "state"
place_word (of_bounds states rows label bounds) = codes "state"

-- `bridge: WHAT at PLACE K`
abbrev pub passed_line : List ℕ → List ℕ → ℕ → List ℕ
passed_line what place k = codes "bridge: " ++ (what ++ (codes " at " ++ (place ++ (codes " " ++ (decimal k ++ codes "\n")))))

-- of a path or of rows
abbrev pub judged_ending : Claim → Verdict → Ending
judged_ending claim Yes = E.Done (codes "yes\n")
judged_ending claim (No why) = E.No (no_line why)
judged_ending claim (Wide k) = E.Excess [] (passed_line (codes "wide") (place_word claim) k)
judged_ending claim (TooMany k) = E.Excess [] (passed_line (codes "too many") (place_word claim) k)

-- of bounds: where the rows fail, as of rows; else `no state I undefined` or `no state I bound`
abbrev pub bounds_ending : Claim → BoundVerdict → Ending
bounds_ending claim B.Yes = E.Done (codes "yes\n")
bounds_ending claim (B.Rows v) = judged_ending claim v
bounds_ending claim (B.Undefined i) = E.No (numbered_line (codes "no state ") i (codes " undefined\n"))
bounds_ending claim (B.Over i) = E.No (numbered_line (codes "no state ") i (codes " bound\n"))
bounds_ending claim (B.Wide i) = E.Excess [] (passed_line (codes "wide") (place_word claim) i)

-- a label that the process hasn't stands behind five other words
abbrev pub verdict_ending : Claim → Finding → Ending
verdict_ending claim (Judged v) = judged_ending claim v
verdict_ending claim (Bounds v) = bounds_ending claim v
verdict_ending claim NoLabel = E.Word 6
