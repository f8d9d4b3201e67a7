use Rattle.std.proofs.Common.{◌≡◌, ℕ, List, map, take}
use Rattle.std.specs.Prelude.{bytes_eq}
use Rattle.std.specs.List.{list_any}
use Rattle.name_rules.specs.Names.{has_name}
use Rattle.process_core.specs.Ready.{firsts}
use Rattle.gathering.proofs.choosing.each_once.Given as goal

abbrev pub invariant-loop-name : goal.invariant-loop-name
invariant-loop-name l = record {
  gathered : map (λ x. x.now) l.all.items ≡ firsts bytes_eq (map (λ x. x.now) (take l.name-index l.names));
  known : (x : List ℕ) → has_name l.seen x ≡ list_any (λ y. bytes_eq y x) (map (λ x. x.now) (take l.name-index l.names));
}
