use Rattle.std.proofs.Common.{◌≤◌, ◌-◌, List, length}
use Rattle.prism_lex.specs.Tokens.{Lexeme}
use Rattle.prism_lex.specs.Laws.{Reaches}
use Rattle.prism_lex.specs.Kept.{Keeps}
use Rattle.prism_lex.proofs.reader.read_tokens.Given as goal

abbrev pub invariant-tokens : goal.invariant-tokens
invariant-tokens l = record {
  within : l.at ≤ length l.bytes;
  reached : (ls : List Lexeme) × Reaches l.bytes 0 ls l.at × Keeps l.lexer.lexed ls;
}

abbrev pub decreases-tokens : goal.decreases-tokens
decreases-tokens l = length l.bytes - l.at
