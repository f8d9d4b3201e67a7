use Rattle.std.proofs.Common.{◌≡◌, map, drop}
use Rattle.prism_lex.specs.Words.{lookup}
use Rattle.prism_lex.proofs.words.find.Given as goal

abbrev pub invariant-loop-known : goal.invariant-loop-known
invariant-loop-known g l = lookup l.text (map (λ e. (e.0.now, e.1)) (drop l.known-index l.table)) ≡ lookup l.text (map (λ e. (e.0.now, e.1)) l.table)
