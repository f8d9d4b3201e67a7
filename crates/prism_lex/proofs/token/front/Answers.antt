use Rattle.std.proofs.Common.{refl, sym, ◌∙◌, arith}
use Rattle.prism_lex.specs.declared.automaton.State.TheVariants.{Start}
use Rattle.prism_lex.proofs.Longest.{longest_within}
use Rattle.prism_lex.proofs.LongestSymbol.{best_at}
use Rattle.prism_lex.proofs.FrontLemmas.{begins_symbol, accepted_at, front_given, front_refused, front_none}
use Rattle.prism_lex.proofs.token.front.Goals as goal

pub returns-in-Some-clause-ok : goal.returns-in-Some-clause-ok
returns-in-Some-clause-ok c = (begins_symbol c.args.bytes.now _ _ (sym c.scan-len.ensures.len ∙ c.if-len-eq0.true) (best_at c.args.bytes.now _ c.in-Some.ensures), refl)

pub returns-in-None-clause-err : goal.returns-in-None-clause-err
returns-in-None-clause-err c = front_none c.args.bytes.now (sym c.scan-len.ensures.len ∙ c.if-len-eq0.true) (best_at c.args.bytes.now _ c.in-None.ensures)

pub split_at-requires : goal.split_at-requires
split_at-requires c = let h = longest_within Start c.args.bytes.now in omega arith

pub kind_of-requires-clause-accepted : goal.kind_of-requires-clause-accepted
kind_of-requires-clause-accepted c = accepted_at c.args.bytes.now _ _ c.scan-len.ensures.len (omega arith) c.scan-len.ensures.state

pub returns-in-Ok-clause-ok : goal.returns-in-Ok-clause-ok
returns-in-Ok-clause-ok c = front_given c.args.bytes.now _ _ _ c.scan-len.ensures.len (omega arith) c.split_at.ensures.front c.in-Ok.ensures.ok.0 c.in-Ok.ensures.ok.1

pub returns-in-Err-clause-err : goal.returns-in-Err-clause-err
returns-in-Err-clause-err c = front_refused c.args.bytes.now _ _ _ c.scan-len.ensures.len (omega arith) c.split_at.ensures.front c.in-Err.ensures.err
