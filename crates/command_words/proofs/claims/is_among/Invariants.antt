use Rattle.std.proofs.Common.{◌≢◌, map, take}
use Rattle.std.specs.List.{AllByRecursion}
use Rattle.command_words.proofs.claims.is_among.Given as goal

abbrev pub invariant-loop-other : goal.invariant-loop-other
invariant-loop-other l = AllByRecursion (λ name. l.word ≢ name) (map (λ s. s.now) (take l.other-index l.words))
