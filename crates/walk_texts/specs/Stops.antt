-- The line that says why a walk, or what is shown of a state, goes no further. (This project's own rule.)
use Rattle.std.specs.Prelude.{ℕ, List, [], ◌++◌, codes, decimal}
use Rattle.process_core.specs.Bounds.{Excess, IsWide, IsTooMany}
use Rattle.process_core.specs.Seen.{seen_kinds}
use Rattle.step_sim.specs.declared.walk.Stop.{Stop}
use Rattle.step_sim.specs.declared.walk.Stop.TheVariants.{Done, Deadlock, NoChoice, NoBranch, Faulty, Wide, TooMany}
use Rattle.walk_texts.specs.Lines.{kinds_text}

abbrev pub stopped_line : ℕ → List ℕ → List ℕ
stopped_line k why = codes "bridge: stopped at step " ++ (decimal k ++ (codes ": " ++ (why ++ codes "\n")))

-- something passes a bound after k steps
abbrev pub excess_line : ℕ → Excess → List ℕ
excess_line k IsWide = codes "bridge: wide at step " ++ (decimal k ++ codes "\n")
excess_line k IsTooMany = codes "bridge: too many at step " ++ (decimal k ++ codes "\n")

-- why a walk of k steps goes no further; nothing where it came to its end
abbrev pub stop_line : ℕ → Stop → List ℕ
stop_line k Done = []
stop_line k Deadlock = []
stop_line k (NoChoice i) = stopped_line k (codes "choice " ++ decimal i)
stop_line k (NoBranch j) = stopped_line k (codes "branch " ++ decimal j)
stop_line k (Faulty bad) = stopped_line k (codes "bad " ++ kinds_text (seen_kinds bad))
stop_line k Wide = excess_line k IsWide
stop_line k TooMany = excess_line k IsTooMany
