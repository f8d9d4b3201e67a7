-- What is written of one state of a process, of a walk through it, and of the faults of an instance, line by line.
-- (The texts are this project's own rule; what states, marks, choices and labels are, is said in the PRISM manual, "The PRISM
-- language", and in the jani-model specification, "Models".)
use Rattle.std.specs.Prelude.{ℕ, List, [], ◌∷◌, ◌++◌, Bool, Option, Some, None, codes, decimal}
use Rattle.std.specs.List.{flat_map}
use Rattle.decimal_json.specs.Text.{with_commas}
use Rattle.frac_core.specs.Fraction.{Fraction}
use Rattle.process_core.specs.Process.{Kinds, Branch, Choice, Outcome, Good, Bad}
use Rattle.process_core.specs.Ready.{Values, Name}
use Rattle.process_core.specs.Instance.{numbered, only_if}
use Rattle.process_core.specs.Steps.{Process}
use Rattle.process_core.specs.declared.data.Mark.{Mark}
use Rattle.process_core.specs.declared.data.Mark.TheVariants.{Truth, Number}
use Rattle.process_core.specs.declared.data.FaultKind.{FaultKind}
use Rattle.process_core.specs.declared.data.FaultKind.TheVariants.{ConstUndef, BoundUndef, EmptyRange, InitUndef, InitOutside}
use Rattle.process_core.specs.declared.data.InstanceFault.{InstanceFault}
use Rattle.process_texts.specs.Texts.{fraction_text, truth_text, state_text, header_text, name_text}
use Rattle.step_sim.specs.declared.walk.Step.{Step}

-- ---- marks
abbrev pub truth_or_undef : Option Bool → List ℕ
truth_or_undef (Some b) = truth_text b
truth_or_undef None = codes "undef"

abbrev pub fraction_or_undef : Option Fraction → List ℕ
fraction_or_undef (Some x) = fraction_text x
fraction_or_undef None = codes "undef"

-- truth marks are labels, the others are rewards
abbrev pub mark_line : Mark → Name → List ℕ
mark_line (Truth b) name = codes "label " ++ (name_text name ++ (codes " " ++ (truth_or_undef b ++ codes "\n")))
mark_line (Number x) name = codes "reward " ++ (name_text name ++ (codes " " ++ (fraction_or_undef x ++ codes "\n")))

-- each mark with its name
abbrev pub mark_lines : List Mark → List Name → List ℕ
mark_lines [] names = []
mark_lines (m ∷ ms) [] = []
mark_lines (m ∷ ms) (name ∷ names) = mark_line m name ++ mark_lines ms names

-- ---- choices
-- a missing label is -
abbrev pub label_text : Option Name → List ℕ
label_text None = codes "-"
label_text (Some name) = name_text name

abbrev pub kinds_text : Kinds → List ℕ
kinds_text k = with_commas (only_if k.undef (codes "undef") ++ (only_if k.range (codes "range") ++ only_if k.weight (codes "weight")))

-- a reward behind a space
abbrev pub reward_text : Fraction → List ℕ
reward_text x = codes " " ++ fraction_text x

abbrev pub branch_line : Branch Fraction Values → List ℕ
branch_line b = codes "  " ++ (fraction_text b.probability ++ (codes " " ++ (state_text b.target ++ (flat_map reward_text b.rewards ++ codes "\n"))))

-- the rest of a choice's line, and the lines of its branches
abbrev pub outcome_text : Outcome Fraction Values → List ℕ
outcome_text (Good bs) = codes " good\n" ++ flat_map branch_line bs
outcome_text (Bad k) = codes " bad " ++ (kinds_text k ++ codes "\n")

-- the choice of this number
abbrev pub choice_lines : ℕ → Choice Name Fraction Values → List ℕ
choice_lines i c = codes "choice " ++ (decimal i ++ (codes " " ++ (label_text c.label ++ outcome_text c.outcome)))

-- ---- the whole
-- the header, and a state below it
abbrev pub head_lines : Process → Values → List ℕ
head_lines p s = header_text p.columns ++ (codes "\n" ++ (state_text s ++ codes "\n"))

-- one state with these marks and choices: the marks by name, the choices by number
abbrev pub marked_text : Process → Values → List Mark → List (Choice Name Fraction Values) → List ℕ
marked_text p s ms cs = head_lines p s ++ (mark_lines ms p.mark_names ++ numbered choice_lines 0 cs)

-- one state
abbrev pub show_text : Process → Values → List ℕ
show_text p s = marked_text p s (p.marks s) (p.choices s)

abbrev pub step_line : Step → List ℕ
step_line t = label_text t.label ++ (codes " " ++ (state_text t.target.values ++ codes "\n"))

-- a walk: its first state, and for each step the label of the choice and the state that it leads to
abbrev pub path_text : Process → Values → List Step → List ℕ
path_text p s ts = head_lines p s ++ flat_map step_line ts

-- ---- instance faults
abbrev pub fault_text : FaultKind → List ℕ
fault_text ConstUndef = codes "ConstUndef"
fault_text BoundUndef = codes "BoundUndef"
fault_text EmptyRange = codes "EmptyRange"
fault_text InitUndef = codes "InitUndef"
fault_text InitOutside = codes "InitOutside"

abbrev pub fault_line : InstanceFault → List ℕ
fault_line f = codes "instance " ++ (fault_text f.kind ++ (codes " " ++ (name_text f.name ++ codes "\n")))

abbrev pub fault_lines : List InstanceFault → List ℕ
fault_lines fs = flat_map fault_line fs
