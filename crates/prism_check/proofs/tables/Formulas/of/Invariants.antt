use Rattle.std.specs.Prelude.{◌≡◌, ℕ, List, drop}
use Rattle.std.specs.Option.{option_or}
use Rattle.prism_check.specs.Tables.{body_in, body_at}
use Rattle.prism_check.proofs.tables.Formulas.of.Given as goal

abbrev pub invariant-loop-formula : goal.invariant-loop-formula
invariant-loop-formula l = (x : List ℕ) → option_or (body_at l.bodies x) (body_in (drop l.formula-index l.formulas) x) ≡ body_in l.formulas x
