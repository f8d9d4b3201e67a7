use Rattle.std.specs.Prelude.{◌≡◌, Bool, ◌||◌, map, drop}
use Rattle.name_rules.specs.Names.{Name, has_name, is_among, named_by}
use Rattle.jani_check.proofs.given.add_names.Given as goal

abbrev pub invariant-loop-n : goal.invariant-loop-n
invariant-loop-n l =
    ◌≡◌ {A = Name → Bool} (λ x. has_name l.earlier x || is_among (map named_by (drop l.n-index l.given)) x)
    (λ x. has_name l.initial.earlier x || is_among (map named_by l.given) x)
