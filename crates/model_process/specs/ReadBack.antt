-- What is written of a walk, read as a path. (This project's own rule.)
use Rattle.std.specs.Prelude.{◌≡◌, ◌∷◌, nat_eq, map, false, Option, Some, None}
use Rattle.std.specs.List.{All, list_any}
use Rattle.process_core.specs.Ready.{Name}
use Rattle.process_core.specs.Steps.{Process}
use Rattle.process_texts.specs.Laws.{AllWhole}
use Rattle.process_texts.specs.Names.{SpellsName}
use Rattle.process_texts.specs.Texts.{header_text, name_text}
use Rattle.step_sim.specs.declared.walk.Step.{Step}
use Rattle.step_sim.specs.declared.walk.Walk.{Walk}
use Rattle.row_check.specs.declared.data.ReadPath.{ReadPath}
use Rattle.row_check.specs.Forms.{IsPathFile}
use Rattle.walk_texts.specs.Jobs.{IsNarrowWalk}
use Rattle.walk_texts.specs.Lines.{path_text}

-- the path that a walk is: its first state, and the labels and the states of its steps
abbrev pub path_along : Walk → ReadPath
path_along w = record { states = w.first ∷ map (λ t. t.target) w.steps; labels = map (λ t. t.label) w.steps }

-- the text of a label spells it: it is UTF-8, and as an identifier it has at most 255 bytes
abbrev pub SpellsLabel : Option Name → Type 0
SpellsLabel None = Unit {0}
SpellsLabel (Some x) = SpellsName (name_text x) x

pub record IsReadableStep (t : Step) : Type 0 where
  pub whole : AllWhole t.target.values
  pub label : SpellsLabel t.label

-- the header has no line feed, the numbers in the states are whole, and the text of each label spells it
pub record IsReadable (p : Process) (w : Walk) : Type 0 where
  pub header : list_any (nat_eq 10) (header_text p.columns) ≡ false
  pub first : AllWhole w.first.values
  pub steps : All IsReadableStep w.steps

-- what is written of such a walk is a file of a path, the walk's own
abbrev pub WalksReadBack : Type 0
WalksReadBack = (p : Process) (w : Walk) → IsNarrowWalk w → IsReadable p w → IsPathFile p (path_text p w.first.values w.steps) (path_along w)
