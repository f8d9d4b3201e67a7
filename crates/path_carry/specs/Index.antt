-- Pairs of labels that are found by their actions and by their labels. (This project's own.)
use Rattle.std.specs.Prelude.{◌≡◌, ℕ, List, map, Bool, Option, Some, None, bytes_eq, slice_get}
use Rattle.std.specs.List.{find, IsDistinct}
use Rattle.name_rules.specs.Names.{under}
use Rattle.process_core.specs.Ready.{Name, same_label}
use Rattle.carry_maps.specs.declared.map.LabelPair.{LabelPair}
use Rattle.path_carry.specs.declared.index.LabelIndex.{LabelIndex}

abbrev pub pair_at : List LabelPair → Option ℕ → Option LabelPair
pair_at ps None = None
pair_at ps (Some k) = slice_get ps k

abbrev pub is_of_action : Name → LabelPair → Bool
is_of_action a p = bytes_eq a p.prism

abbrev pub is_of_label : Name → LabelPair → Bool
is_of_label x p = same_label (Some x) p.jani

-- the place under each name is that of the first pair of this name
abbrev pub ArePlaces : List LabelPair → (Name → LabelPair → Bool) → (Name → Option ℕ) → Type 0
ArePlaces ps is_of places = (x : Name) → pair_at ps (places x) ≡ find (is_of x) ps

-- no action stands twice
pub record IsIndex (i : LabelIndex) : Type 0 where
  pub distinct : IsDistinct bytes_eq (map (λ p. p.prism) i.pairs.now)
  pub actions : ArePlaces i.pairs.now is_of_action (under i.by_action)
  pub labels : ArePlaces i.pairs.now is_of_label (under i.by_label)
