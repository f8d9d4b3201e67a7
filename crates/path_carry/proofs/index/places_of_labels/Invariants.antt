use Rattle.std.proofs.Common.{◌≡◌, ◌<◌, List, ℕ, length, drop, find}
use Rattle.std.specs.Option.{IfSome, option_or}
use Rattle.name_rules.specs.Names.{under}
use Rattle.path_carry.specs.Index.{pair_at, is_of_label}
use Rattle.path_carry.proofs.index.places_of_labels.Given as goal

abbrev pub invariant-loop-i : goal.invariant-loop-i
invariant-loop-i l = record {
  found : (x : List ℕ) → option_or (pair_at l.pairs (under l.places x)) (find (is_of_label x) (drop l.i l.pairs)) ≡ find (is_of_label x) l.pairs;
  below : (x : List ℕ) → IfSome (under l.places x) (λ k. k < length l.pairs);
}
