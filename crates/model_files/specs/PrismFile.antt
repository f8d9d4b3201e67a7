-- Which bytes are a PRISM file without fault, and the least fault of all others.
-- (The files are those of the PRISM manual, "The PRISM Language"; which fault is the least is this project's own rule.)
use Rattle.std.specs.Prelude.{◌≡◌, ℕ, List, [], Result, Ok, Err}
use Rattle.bridge_io.specs.declared.reason.Fault.{Fault}
use Rattle.bridge_io.specs.declared.reason.Refused.{Refused}
use Rattle.bridge_io.specs.declared.reason.Refused.TheVariants as R
use Rattle.prism_tree.specs.Syntax.{File}
use Rattle.prism_parse.specs.Parsed.{IsSpelled, IsLeastFault}
use Rattle.name_rules.specs.Least.{IsLeast}
use Rattle.prism_check.specs.Checked.{Checked}
use Rattle.prism_check.specs.Faults.{faults as prism_faults}

-- The bytes have no fault of tokens or grammar, they spell this tree and no other, and the tree has no fault of names, size or
-- types.
pub record IsFaultless (bytes : List ℕ) (tree : File) : Type 0 where
  pub read : IsSpelled bytes tree
  pub sound : prism_faults tree ≡ []

-- some tree
abbrev pub HasNoFault : List ℕ → Type 0
HasNoFault bytes = (tree : File) × IsFaultless bytes tree

-- This is the least fault of the first phase that has any: of the tokens, or the grammar; or else of the names, the size or
-- the types of the tree.
pub data IsPrismFault (bytes : List ℕ) (f : Fault) : Type 0 where
  of_text : IsLeastFault bytes f → IsPrismFault bytes f
  of_tree : (tree : File) → IsSpelled bytes tree → IsLeast (prism_faults tree) f → IsPrismFault bytes f

-- want of memory may come at any time
abbrev pub RefusesPrism : List ℕ → Refused → Type 0
RefusesPrism bytes (R.Memory e) = Unit {0}
RefusesPrism bytes (R.At f) = IsPrismFault bytes f

-- what reading the bytes came to: the file that they are, or why there is none
abbrev pub IsReadPrism : List ℕ → Result Checked Refused → Type 0
IsReadPrism bytes (Ok c) = IsFaultless bytes c.file
IsReadPrism bytes (Err refused) = RefusesPrism bytes refused
