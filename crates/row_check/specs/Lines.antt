-- The lines of a file, and what is read of them one after another. (This project's own.)
use Rattle.std.specs.Prelude.{◌≡◌, ◌⊎◌, ℕ, ◌+◌, List, [], ◌∷◌, ◌++◌, Option, Some, None, Result, Ok, Err, if◌then◌else◌, nat_eq, length, drop}

-- a line without its line feed, and the offset of its first byte
pub record Line : Type 0 where
  pub at : ℕ
  pub text : List ℕ

-- a last line that no line feed ends
abbrev pub last_line : ℕ → List ℕ → List Line
last_line at [] = []
last_line at (c ∷ line) = record { at = at; text = c ∷ line } ∷ []

-- from the start of a line, of which this much is read
abbrev pub lines_from : ℕ → List ℕ → List ℕ → List Line
lines_from at line [] = last_line at line
lines_from at line (b ∷ bs) = if nat_eq b 10 then record { at = at; text = line } ∷ lines_from (at + length line + 1) [] bs else lines_from at (line ++ b ∷ []) bs

-- The lines of a file. Each ends with a line feed, which the last may lack.
abbrev pub lines : List ℕ → List Line
lines bs = lines_from 0 [] bs

-- those that begin at this offset or behind it
abbrev pub lines_at : List ℕ → ℕ → List Line
lines_at bs at = lines_from at [] (drop at bs)

-- ---- what a text is read as
-- the thing that it is, or nothing, where it is none
abbrev pub ReadsText : {C : Type 0} → (C → Type 0) → Option C → Type 0
ReadsText {C} Is None = (c : C) → ¬ Is c
ReadsText Is (Some c) = Is c

-- ---- line by line
-- What a line may hold depends on what the lines before it held: `Next before text it`.
module _ {C : Type 0} (Next : List C → List ℕ → C → Type 0) where
  -- the lines hold these, one each
  abbrev pub Hold : List C → List Line → List C → Type 0
  Hold before [] cs = cs ≡ []
  Hold before (l ∷ ls) [] = ⊥
  Hold before (l ∷ ls) (c ∷ cs) = Next before l.text c × Hold (before ++ c ∷ []) ls cs

  -- the first line that may hold nothing begins here
  abbrev pub BreakAt : List C → List Line → ℕ → Type 0
  BreakAt before [] at = ⊥
  BreakAt before (l ∷ ls) at = ((c : C) × Next before l.text c × BreakAt (before ++ c ∷ []) ls at) ⊎ (((c : C) → ¬ Next before l.text c) × (at ≡ l.at))

  -- what they are read as: what they hold, or the offset of the first that breaks the form
  abbrev pub AreRead : List Line → Result (List C) ℕ → Type 0
  AreRead ls (Ok cs) = Hold [] ls cs
  AreRead ls (Err at) = BreakAt [] ls at

  -- the same, with something made of what they hold
  abbrev pub AreReadAs : {R : Type 0} → (List C → R) → List Line → Result R ℕ → Type 0
  AreReadAs make ls (Ok r) = (cs : List C) × Hold [] ls cs × (r ≡ make cs)
  AreReadAs make ls (Err at) = BreakAt [] ls at

-- A first line that is something, and the rest, which depends on it. Where it is missing the form breaks at the end.
abbrev pub AreReadBehind : {X R : Type 0} → (List ℕ → X → Type 0) → (X → List Line → Result R ℕ → Type 0) → ℕ → List Line → Result R ℕ → Type 0
AreReadBehind Is Rest end [] (Ok r) = ⊥
AreReadBehind Is Rest end [] (Err at) = at ≡ end
AreReadBehind {X} Is Rest end (l ∷ ls) (Ok r) = (x : X) × Is l.text x × Rest x ls (Ok r)
AreReadBehind {X} Is Rest end (l ∷ ls) (Err at) = (((x : X) → ¬ Is l.text x) × (at ≡ l.at)) ⊎ ((x : X) × Is l.text x × Rest x ls (Err at))
