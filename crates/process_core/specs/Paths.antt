-- Steps and paths of a process: for walks, and for paths that are read.
-- (PRISM manual, "Debugging Models With The Simulator": paths of a model. That a step is told by its label and its state is this
-- project's own rule.)
use Rattle.std.specs.Prelude.{List, [], ◌∷◌, ◌&&◌, Bool, false, IsTrue, Option, int_lt, pos}
use Rattle.std.specs.List.{list_any}
use Rattle.frac_core.specs.Fraction.{Fraction}
use Rattle.process_core.specs.Process.{Branch, Outcome, Good, Bad, Choice}
use Rattle.process_core.specs.Ready.{Values, Name, same_label}
use Rattle.process_core.specs.Equal.{equal_states}
use Rattle.process_core.specs.Steps.{Process}

abbrev pub is_positive : Fraction → Bool
is_positive x = int_lt (pos 0) x.num

-- a branch of positive probability to this state
abbrev pub any_leads_to : Values → List (Branch Fraction Values) → Bool
any_leads_to t bs = list_any (λ b. is_positive b.probability && equal_states t b.target) bs

abbrev pub leads_to : Values → Outcome Fraction Values → Bool
leads_to t (Good bs) = any_leads_to t bs
leads_to t (Bad k) = false

-- a good choice with this label that leads to this state
abbrev pub is_step : List (Choice Name Fraction Values) → Option Name → Values → Bool
is_step cs l t = list_any (λ c. same_label l c.label && leads_to t c.outcome) cs

-- Labels and states, from a state on: each is a step of the process from the state before it.
abbrev pub IsPathFrom : Process → Values → List (Option Name × Values) → Type 0
IsPathFrom p s [] = Unit {0}
IsPathFrom p s (t ∷ ts) = IsTrue (is_step (p.choices s) t.0 t.1) × IsPathFrom p t.1 ts

-- a path of the process: its first state is initial
abbrev pub IsPath : Process → Values → List (Option Name × Values) → Type 0
IsPath p s ts = IsTrue (p.is_initial s) × IsPathFrom p s ts
