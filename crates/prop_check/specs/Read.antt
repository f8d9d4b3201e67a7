-- Which properties the bytes of a PRISM properties file are for a model, and all faults that they have. (The files are those of the PRISM
-- manual, "Property Specification"; which fault is the least is this project's own rule.)
use Rattle.std.specs.Prelude.{◌≡◌, ℕ, List, [], ◌∷◌, map, Result, Ok, Err}
use Rattle.bridge_io.specs.declared.reason.Fault.{Fault}
use Rattle.bridge_io.specs.declared.reason.Refused.{Refused}
use Rattle.bridge_io.specs.declared.reason.Refused.TheVariants as R
use Rattle.name_rules.specs.Least.{IsLeast}
use Rattle.prism_tree.specs.Syntax.{File}
use Rattle.prop_grammar.specs.Syntax.{WrittenProperty}
use Rattle.prop_grammar.specs.Faults.{SyntaxFaults}
use Rattle.prop_reader.specs.Parsed.{IsSpelled}
use Rattle.prop_trees.specs.declared.prism.Property.{Property}
use Rattle.prop_trees.specs.PrismFaults.{faults, filed}
use Rattle.prop_trees.specs.Syntax.{property_of}
use Rattle.prop_trees.specs.Trees.{PrismProperty}

-- These are all faults of the bytes of the first phase that has any: those of tokens, or of grammar; or else, where the bytes spell
-- properties, those of names, of size or of types, and none where these have none.
pub data FaultsOf (bytes : List ℕ) (file : File) : List Fault → Type 0 where
  of_text : (f : Fault) (fs : List Fault) → SyntaxFaults bytes (f ∷ fs) → FaultsOf bytes file (f ∷ fs)
  of_properties : (written : List WrittenProperty) → IsSpelled bytes written → FaultsOf bytes file (faults file written)

-- The bytes have no fault of tokens or grammar, they spell written properties and no others, these have no fault of names, size or types,
-- and as properties of the model they are these.
pub record AreProperties (bytes : List ℕ) (file : File) (ps : List PrismProperty) : Type 0 where
  pub written : List WrittenProperty
  pub spelled : IsSpelled bytes written
  pub sound : faults file written ≡ []
  pub are : ps ≡ map (filed file) written

-- It is the least of all faults of the bytes.
pub record IsLeastOf (bytes : List ℕ) (file : File) (f : Fault) : Type 0 where
  pub all : List Fault
  pub are : FaultsOf bytes file all
  pub least : IsLeast all f

-- What reading answers; want of memory may come at any time.
abbrev pub Reads : List ℕ → File → Result (List Property) Refused → Type 0
Reads bytes file (Ok list) = AreProperties bytes file (map property_of list)
Reads bytes file (Err (R.Memory e)) = Unit {0}
Reads bytes file (Err (R.At f)) = IsLeastOf bytes file f

-- The same of properties that are written.
pub record AreFiled (file : File) (written : List WrittenProperty) (ps : List PrismProperty) : Type 0 where
  pub sound : faults file written ≡ []
  pub are : ps ≡ map (filed file) written

abbrev pub ReadsWritten : File → List WrittenProperty → Result (List Property) Refused → Type 0
ReadsWritten file written (Ok list) = AreFiled file written (map property_of list)
ReadsWritten file written (Err (R.Memory e)) = Unit {0}
ReadsWritten file written (Err (R.At f)) = IsLeast (faults file written) f
