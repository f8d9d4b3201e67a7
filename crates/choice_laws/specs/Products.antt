-- A product of lists in which one list is split into parts: the ways through the parts are the ways through the whole (plain
-- mathematics). So the combinations of an action may be split by what one participant takes (PRISM manual, "The PRISM Language",
-- "Synchronisation"; jani-model specification, version 1, "Composition").
use Rattle.std.specs.Prelude.{◌≡◌, ◌⊎◌, List, [], ◌∷◌, map}
use Rattle.std.specs.List.{flat_map, All}
use Rattle.process_core.specs.Process.{EquallyOften}

-- a list, and the part of it for each of some things
pub record Place (X T : Type 0) : Type 0 where
  pub all : List X
  pub part : T → List X

-- the product of the lists, and that of their parts for one thing, are over these
abbrev pub wholes : {X T : Type 0} → List (Place X T) → List (List X)
wholes ps = map (λ p. p.all) ps

abbrev pub parts_for : {X T : Type 0} → T → List (Place X T) → List (List X)
parts_for t ps = map (λ p. p.part t) ps

module _ {X T : Type 0} (ts : List T) where
  -- each part is the list itself
  abbrev pub IsWhole : Place X T → Type 0
  IsWhole p = All (λ t. p.part t ≡ p.all) ts

  abbrev pub AreWhole : List (Place X T) → Type 0
  AreWhole [] = Unit {0}
  AreWhole (p ∷ ps) = IsWhole p × AreWhole ps

  -- its members are those of its parts
  abbrev pub IsParted : Place X T → Type 0
  IsParted p = EquallyOften p.all (flat_map p.part ts)

  -- one place is split, all others are whole
  abbrev pub OneIsParted : List (Place X T) → Type 0
  OneIsParted [] = ⊥
  OneIsParted (p ∷ ps) = (IsParted p × AreWhole ps) ⊎ (IsWhole p × OneIsParted ps)
