use Rattle.std.proofs.Common.{◌∙◌, sym, refl, [], map}
use Rattle.prism_lex.specs.declared.token.TokenKind.TheVariants as K
use Rattle.prism_lex.specs.declared.symbols.Symbol.TheVariants as S
use Rattle.prism_tree.specs.Grammar.{update}
use Rattle.prism_tree.specs.Syntax.{write_of}
use Rattle.prism_exprs.proofs.Laws.{token_one, gives_word}
use Rattle.prism_items.specs.Parts.{in_scope, several_writes, writes_on}
use Rattle.prism_items.proofs.Leading.{step, halt, parses_by}
use Rattle.prism_items.proofs.Choosing.{gives_here, gives_off}
use Rattle.prism_items.proofs.Updating.{update_writes, update_true}
use Rattle.prism_items.proofs.Leading.{halts_by, barred_halts}
use Rattle.prism_exprs.specs.declared.tokens.Cause.TheVariants as C
use Rattle.prism_exprs.proofs.Loops.{starts_ends}
use Rattle.prism_exprs.proofs.Outer.{leaves_in}
use Rattle.prism_items.proofs.updates.parse_update.Goals as goal

pub returns-then-not-word_next : goal.returns-then-not-word_next
returns-then-not-word_next c = parses_by (map write_of) (in_scope update) (in_scope several_writes) writes_on _ _ c.parse_writes.result (λ s. update_writes s _ (sym c.word_next.ensures ∙ c.if-not-word_next.true)) c.parse_writes.ensures

pub returns-in_err-_true : goal.returns-in_err-_true
returns-in_err-_true c = leaves_in _ _ _ _ _ _ c.from_residual.ensures (λ s. halt _ _ s (update_true s _ (sym c.word_next.ensures ∙ c.if-not-word_next.false)) (λ _. gives_word _) _ (c.in_err-_true.ensures s))

pub returns-then-symbol_next : goal.returns-then-symbol_next
returns-then-symbol_next c = λ s. halts_by s C.Form _ (step _ _ (update_true s _ (sym c.word_next.ensures ∙ c.if-not-word_next.false)) (token_one _) (c.in_ok-_true.ensures s)) (barred_halts _ writes_on _ s (gives_word _) (gives_off [] writes_on (K.Symbol S.And) _ refl (sym c.symbol_next.ensures ∙ c.if-symbol_next.true)))

pub returns : goal.returns
returns c = λ s. (step _ _ (update_true s _ (sym c.word_next.ensures ∙ c.if-not-word_next.false)) (token_one _) (c.in_ok-_true.ensures s)).reads _ _ (rw c.new.ensures (gives_here [] writes_on _ (starts_ends writes_on _ (sym c.symbol_next.ensures ∙ c.if-symbol_next.false))))
