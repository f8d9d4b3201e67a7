use Rattle.std.proofs.Common.{◌≡◌, ◌≤◌, ◌+◌, List, ℕ, drop, length}
use Rattle.std.specs.Prelude.{bytes_eq, unwrap_or}
use Rattle.std.specs.List.{position_or_len}
use Rattle.name_rules.specs.Names.{under}
use Rattle.prism_instance.specs.Sites.{number_among, texts_of}
use Rattle.prism_instance.proofs.modules.numbers_of.Given as goal

abbrev pub invariant-loop-k : goal.invariant-loop-k
invariant-loop-k l = record {
  within : l.k ≤ length l.actions;
  numbers : (x : List ℕ) → unwrap_or (under l.numbers x) (l.k + position_or_len (bytes_eq x) (texts_of (drop l.k l.actions))) ≡ number_among (texts_of l.actions) x;
}
