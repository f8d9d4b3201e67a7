-- The laws of every set of operators, each as one statement.
use Rattle.std.specs.Prelude.{◌≡◌, ◌↔◌, ℕ, List, [], Option, Some, IfOk, IsTrue, is_some}
use Rattle.frac_core.specs.Decimal.{is_normal}
use Rattle.op_trees.specs.declared.tree.Ty.{Ty}
use Rattle.op_trees.specs.Tree.{Tree, AllNames, AllNumbers, bare, renamed, substituted, written_out}
use Rattle.op_trees.specs.Meaning.{Meaning, Environment, answer, answered, needs_wide, value_of}
use Rattle.op_trees.specs.Types.{Types, AgreesWith, has_type, misfits, type_in, type_through, types_looked_up}
use Rattle.op_trees.specs.Seen.{FallsTo, IsFalling, Seen, SeesBodies, known_names, looked_up, seen, seen_through}
use Rattle.op_trees.specs.Walk.{Node, walked}
use Rattle.op_trees.specs.Rebuilt.{KeepsAnswers}

module _ {O : Type 0} (m : Meaning O) where
  -- one recursion sees the value and the bound on what it needs, and an evaluation answers by it
  abbrev pub OneRecursion : Type 0
  OneRecursion = (t : Tree O) (env : Environment) →
      (seen m t (known_names env) ≡ record { value = value_of m t env; wide = needs_wide m t env })
      × (answer m t env ≡ answered (seen m t (known_names env)).wide (seen m t (known_names env)).value)

  -- a well-typed expression whose literals are in normal form is undefined or has a value of its
  -- type, under names whose values have their types
  abbrev pub ValueHasType : Type 0
  ValueHasType = (types : Types) (env : Environment) (t : Tree O) →
      AllNumbers (λ d. IsTrue (is_normal d)) t → AllNames (λ x. AgreesWith (types x) (env x)) t →
      AgreesWith (type_in m types t) (value_of m t env)

  -- its evaluation answers Wide, Undef or a value of its type
  abbrev pub AnswerHasType : Types → Environment → Type 0
  AnswerHasType types env = (t : Tree O) (a : Ty) →
      AllNumbers (λ d. IsTrue (is_normal d)) t → type_in m types t ≡ Some a →
      IfOk (answer m t env) (λ v. IsTrue (has_type a v))

  -- an expression has a type exactly where nothing misfits
  abbrev pub TypedWhereNoMisfit : Type 0
  TypedWhereNoMisfit = (types : Types) (t : Tree O) → (misfits m types t ≡ []) ↔ IsTrue (is_some (type_in m types t))

  -- trees that are the same are seen alike, and have the same type
  abbrev pub SameSeenAlike : Type 0
  SameSeenAlike = (t u : Tree O) → bare t ≡ bare u → (env : List ℕ → Seen) → seen m t env ≡ seen m u env

  abbrev pub SameTypedAlike : Type 0
  SameTypedAlike = (t u : Tree O) → bare t ≡ bare u → (types : Types) → type_in m types t ≡ type_in m types u

  -- a tree with names replaced is seen as the tree is where each replaced name is seen as its body
  abbrev pub SubstitutionLooksUp : Type 0
  SubstitutionLooksUp = (bodies : List ℕ → Option (Tree O)) (t : Tree O) (env : List ℕ → Seen) →
      seen m (substituted bodies t) env ≡ seen m t (λ x. seen_through m (bodies x) env (env x))

  -- so where each replaced name is seen as its body already, the tree is seen as before
  abbrev pub SubstitutionKeepsAnswers : Type 0
  SubstitutionKeepsAnswers =
      (bodies : List ℕ → Option (Tree O)) (t : Tree O) → SeesBodies m bodies t (substituted bodies t)

  abbrev pub SubstitutionKeepsTypes : Type 0
  SubstitutionKeepsTypes = (bodies : List ℕ → Option (Tree O)) (t : Tree O) (types : Types) →
      type_in m types (substituted bodies t) ≡ type_in m (λ x. type_through m (bodies x) types (types x)) t

  -- bodies within bodies, written out to any depth, and names then read through a map: seen as with
  -- the bodies looked up
  abbrev pub WritingOutLooksUp : Type 0
  WritingOutLooksUp =
      (new : List ℕ → List ℕ) (env : List ℕ → Seen) (bodies : List ℕ →
      Option (Tree O)) (n : ℕ) (t : Tree O) →
      seen m (renamed new (written_out bodies n t)) env ≡ seen m t (looked_up m bodies n (λ x. env (new x)))

  abbrev pub WritingOutKeepsTypes : Type 0
  WritingOutKeepsTypes =
      (new : List ℕ → List ℕ) (types : Types) (bodies : List ℕ → Option (Tree O)) (n : ℕ) (t : Tree O) →
      type_in m types (renamed new (written_out bodies n t))
      ≡ type_in m (types_looked_up m bodies n (λ x. types (new x))) t

  -- at a depth above its rank, a name whose body leads round in no circle is seen as its body is,
  -- under the same names
  abbrev pub NameSeenAsBody : Type 0
  NameSeenAsBody = (bodies : List ℕ → Option (Tree O)) (rank : List ℕ → ℕ) → IsFalling bodies rank →
      (env : List ℕ → Seen) (n : ℕ) (x : List ℕ) → FallsTo bodies rank n x →
      looked_up m bodies n env x ≡ seen_through m (bodies x) (looked_up m bodies n env) (env x)

  -- renamed names are seen as what they are renamed to
  abbrev pub RenamingLooksUp : Type 0
  RenamingLooksUp =
      (new : List ℕ → List ℕ) (env : List ℕ → Seen) (t : Tree O) → seen m (renamed new t) env
      ≡ seen m t (λ x. env (new x))

  abbrev pub RenamingKeepsTypes : Type 0
  RenamingKeepsTypes =
      (new : List ℕ → List ℕ) (types : Types) (t : Tree O) → type_in m types (renamed new t)
      ≡ type_in m (λ x. types (new x)) t

-- where each rebuilt node is seen as the node, the rebuilt tree is seen as the tree
abbrev pub MappingKeepsAnswers : {O Q : Type 0} → Meaning O → Meaning Q → Type 0
MappingKeepsAnswers {O} {Q} m k =
    (rebuilt : Node O (Tree Q) → Tree Q) (t : Tree O) → KeepsAnswers m k (λ r. r) rebuilt t (walked rebuilt t)
