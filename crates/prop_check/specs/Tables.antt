-- What the code's tables of the names of a model have. (This project's own.)
use Rattle.std.specs.Prelude.{◌≡◌, ℕ, List, ◌++◌, map, Bool, true, false, Option, Some, None, is_some, bytes_eq}
use Rattle.std.specs.List.{position}
use Rattle.std.specs.BTreeMap.{get_by}
use Rattle.std.specs.Cmp.Lexicographic.{slice_cmp}
use Rattle.std.specs.Ordering.{nat_cmp}
use Rattle.op_trees.specs.declared.tree.Ty.{Ty}
use Rattle.op_trees.specs.Types.{AgreesWith}
use Rattle.name_rules.specs.Names.{Name, is_among, under}
use Rattle.prism_tree.specs.Syntax.{Rewards}
use Rattle.prism_check.specs.NameFaults.{given_labels}
use Rattle.prop_trees.specs.PrismFaults.{is_titled}
use Rattle.prop_check.specs.declared.labels.Labels.{Labels}
use Rattle.prop_check.specs.declared.structures.Structures.{Structures}
use Rattle.prop_check.specs.declared.scope.Scope.TheInside.{Inside}

-- ---- labels
abbrev pub has_label : Labels → Name → Bool
has_label l x = is_some (get_by (λ k. slice_cmp nat_cmp x k.now) l.names)

-- ---- reward structures
abbrev pub first_place : Bool → Option ℕ
first_place true = Some 0
first_place false = None

abbrev pub place_in : Structures → Option Name → Option ℕ
place_in s (Some x) = under s.places x
place_in s None = first_place s.has_any

abbrev pub place_by : List Rewards → Option Name → Option ℕ
place_by rs (Some x) = position (is_titled x) rs
place_by rs None = position (λ r. true) rs

abbrev pub ArePlaced : Structures → List Rewards → Type 0
ArePlaced s rs = (n : Option Name) → place_in s n ≡ place_by rs n

-- ---- all tables of a judged file
pub record IsScope (s : Inside) : Type 0 where
  pub labels : has_label s.labels ≡ is_among (given_labels ++ map (λ l. l.name) s.names.value.file.labels)
  pub structures : ArePlaced s.structures s.names.value.file.rewards

-- a name that has no value has none of a wrong type
pub no_value : {t : Option Ty} → AgreesWith t None
no_value = record { agrees = λ t v e f. absurd cc }
