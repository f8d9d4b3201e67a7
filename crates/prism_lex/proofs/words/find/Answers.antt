use Rattle.std.specs.Prelude.{map, true, false}
use Rattle.std.proofs.Common.{◌∙◌, sym}
use Rattle.std.proofs.lemmas.List.{at_drop_all}
use Rattle.prism_lex.specs.Words.{lookup}
use Rattle.prism_lex.proofs.Tables.{entry_step}
use Rattle.prism_lex.proofs.words.find.Goals as goal

pub returns-then-eq : goal.returns-then-eq
returns-then-eq g c =
    sym (entry_step (λ e. (e.0.now, e.1)) c.args.text.now c.args.table.now c.loop-known.known-index c.loop-known-item.result true c.loop-known-test.true c.loop-known-item.is
    (sym c.eq.ensures ∙ c.if-eq.true) c.loop-known.invariant)

pub loop-known-preserved : goal.loop-known-preserved
loop-known-preserved g c =
    sym (entry_step (λ e. (e.0.now, e.1)) c.args.text.now c.args.table.now c.loop-known.known-index c.loop-known-item.result false c.loop-known-test.true c.loop-known-item.is
    (sym c.eq.ensures ∙ c.if-eq.false) c.loop-known.invariant)

pub returns : goal.returns
returns g c = sym (at_drop_all (λ es. lookup c.args.text.now (map (λ e. (e.0.now, e.1)) es)) c.args.table.now c.loop-known.known-index c.loop-known-test.false) ∙ c.loop-known.invariant
