-- What is told of a file without fault.
-- (The text is this project's own.)
use Rattle.std.specs.Prelude.{◌≡◌, ℕ, List, [], ◌∷◌, ◌++◌, length, codes}
use Rattle.std.specs.Fmt.{decimal}
use Rattle.prism_tree.specs.Syntax.{File}
use Rattle.prism_check.specs.SizeFaults.{command_count}
use Rattle.jani_tree.specs.Syntax.{File as JaniFile}
use Rattle.jani_check.specs.Faults.{edge_count}
use Rattle.model_files.specs.PrismFile.{IsFaultless}
use Rattle.model_files.specs.JaniFile.{IsFaultlessJani}

-- `ok prism modules M commands C`
abbrev pub prism_line : ℕ → ℕ → List ℕ
prism_line modules commands = codes "ok prism modules " ++ (decimal modules ++ (codes " commands " ++ (decimal commands ++ 10 ∷ [])))

-- The bytes have no fault and spell one tree, and the text tells how many modules it has, and how many commands after copies of
-- modules are written out.
pub record IsCounted (bytes text : List ℕ) (tree : File) : Type 0 where
  pub faultless : IsFaultless bytes tree
  pub told : text ≡ prism_line (length tree.modules) (command_count tree)

abbrev pub Checks : List ℕ → List ℕ → Type 0
Checks bytes text = (tree : File) × IsCounted bytes text tree

-- `ok jani elements E edges G`
abbrev pub jani_line : ℕ → ℕ → List ℕ
jani_line elements edges = codes "ok jani elements " ++ (decimal elements ++ (codes " edges " ++ (decimal edges ++ 10 ∷ [])))

-- The same for JANI: how many automata take part, and how many edges these have.
pub record IsCountedJani (bytes text : List ℕ) (tree : JaniFile) : Type 0 where
  pub faultless : IsFaultlessJani bytes tree
  pub told : text ≡ jani_line (length tree.elements) (edge_count tree)

abbrev pub ChecksJani : List ℕ → List ℕ → Type 0
ChecksJani bytes text = (tree : JaniFile) × IsCountedJani bytes text tree
