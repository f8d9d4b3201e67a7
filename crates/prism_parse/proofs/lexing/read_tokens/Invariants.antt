use Rattle.std.proofs.Common.{◌≤◌, ◌-◌, length, map}
use Rattle.prism_lex.specs.Laws.{Reaches}
use Rattle.prism_exprs.specs.Kept.{lexeme_at}
use Rattle.prism_parse.proofs.lexing.read_tokens.Given as goal

abbrev pub invariant-tokens : goal.invariant-tokens
invariant-tokens l = record {
  within : l.at ≤ length l.bytes;
  room : length l.literals ≤ l.at;
  reaches : Reaches l.bytes 0 (map (lexeme_at l.bytes l.literals) l.found) l.at;
}

abbrev pub decreases-tokens : goal.decreases-tokens
decreases-tokens l = length l.bytes - l.at
