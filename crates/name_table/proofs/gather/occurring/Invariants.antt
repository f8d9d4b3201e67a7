use Rattle.std.proofs.Common.{◌≡◌, map, take}
use Rattle.std.specs.List.{flat_map}
use Rattle.basics.specs.Options.{if_some}
use Rattle.name_table.specs.Asks.{action_of}
use Rattle.name_table.specs.Gathered.{body_in}
use Rattle.name_table.proofs.gather.occurring.Given as goal

abbrev pub invariant-loop-m : goal.invariant-loop-m
invariant-loop-m l = map (λ x. x.now) l.all.items ≡ flat_map (λ m. flat_map (λ c. if_some (action_of c)) (body_in m).commands) (take l.m-index l.modules)
