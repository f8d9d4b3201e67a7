use Rattle.std.specs.Prelude.{◌≡◌, map, drop}
use Rattle.std.specs.List.{list_any}
use Rattle.name_rules.proofs.declarations.some_use.Given as goal

abbrev pub invariant-loop-name : goal.invariant-loop-name
invariant-loop-name g l =
    list_any (g.T.Telling.tells l.test) (map (λ s. s.now) (drop l.name-index l.declaration.uses.items))
    ≡ list_any (g.T.Telling.tells l.test) (map (λ s. s.now) l.declaration.uses.items)
