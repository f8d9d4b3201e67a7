-- What the code's lists of names have.
use Rattle.std.specs.Prelude.{ℕ, List, [], map, bytes_eq, if◌then◌else◌}
use Rattle.std.specs.Borrow.{Bor}
use Rattle.name_rules.specs.Names.{Name}
use Rattle.gathering.specs.declared.name_lists.NameLists.{NameLists}
use Rattle.gathering.specs.Lists.{list_under}

-- the list under a name
abbrev pub names_under : NameLists (Bor (List ℕ)) → List ℕ → List Name
names_under t x = map (λ s. s.now) (list_under t x)

-- these names, under one name alone
abbrev pub under_one : List ℕ → List Name → List ℕ → List Name
under_one key ns x = if bytes_eq key x then ns else []
