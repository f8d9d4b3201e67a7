use Rattle.std.proofs.Common.{◌∙◌, sym, ap, List, [], ◌∷◌, ◌++◌}
use Rattle.prism_lex.specs.declared.token.TokenKind.TheVariants as K
use Rattle.prism_lex.specs.declared.symbols.Symbol.TheVariants as S
use Rattle.prism_tree.specs.Lang.{with_last}
use Rattle.prism_tree.specs.Grammar.{pair}
use Rattle.prism_exprs.specs.Reading.{none, is_kind}
use Rattle.prism_exprs.proofs.Choice.{folding_word}
use Rattle.prism_items.specs.Parts.{further_pair, several_pairs, in_scope}
use Rattle.prism_items.proofs.Leading.{begin, step, halt}
use Rattle.prism_items.proofs.Updating.{read_as}
use Rattle.prism_items.proofs.Building.{map_same, pair_one, further_pair_one, further_pair_begun}
use Rattle.prism_exprs.proofs.Loops.{reads_shorter}
use Rattle.prism_exprs.proofs.Outer.{leaves_in}
use Rattle.prism_items.specs.Files.{plain}
use Rattle.prism_items.proofs.Leading.{listed, pushed, taken_reads, taken_stops, loop_next, loop_stops, loop_done}
use Rattle.prism_items.proofs.modules.parse_pairs.Goals as goal

pub returns-in_err-rest : goal.returns-in_err-rest
returns-in_err-rest c = leaves_in _ _ _ _ _ _ c.from_residual.ensures (λ s. halt _ _ s (begin (in_scope several_pairs s) (is_kind (K.Symbol S.Comma)) _) (λ _. folding_word with_last _ _) _ (taken_stops (λ x. x) (in_scope pair) none _ _ _ c.in_err-rest.ensures.err c.parse_pair.ensures s))

pub each-init : goal.each-init
each-init c = λ s. listed (λ x. x) (in_scope further_pair s) (c.in_ok-rest.ensures.ok.0 ∷ []) _ (c.in_ok-rest.ensures.ok.2 ∙ ap (λ (u : List _). u ++ c.in_ok-rest.ensures.ok.0 ∷ []) c.new-pairs.ensures) (step _ _ (begin (in_scope several_pairs s) (is_kind (K.Symbol S.Comma)) _) (pair_one s) (taken_reads (λ x. x) (in_scope pair) none _ _ c.in_ok-rest.ensures.ok.0 _ c.in_ok-rest.ensures.ok.1 c.parse_pair.ensures s))

pub each-smaller : goal.each-smaller
each-smaller c = let s = plain in reads_shorter _ (further_pair_begun s) (taken_reads (λ x. x) (in_scope further_pair) none _ _ c.in_ok-rest-2.ensures.ok.0 _ c.in_ok-rest-2.ensures.ok.1 c.parse_further_pair.ensures s)

pub each-preserved : goal.each-preserved
each-preserved c = λ s. pushed (λ x. x) (in_scope further_pair s) c.each.pairs _ c.in_ok-rest-2.ensures.ok.0 c.in_ok-rest-2.ensures.ok.2 (loop_next with_last (in_scope further_pair s) _ _ (further_pair_begun s) (further_pair_one s) (c.each.invariant s) (sym c.symbol_next.ensures ∙ c.each-test.true) (taken_reads (λ x. x) (in_scope further_pair) none _ _ c.in_ok-rest-2.ensures.ok.0 _ c.in_ok-rest-2.ensures.ok.1 c.parse_further_pair.ensures s))

pub returns-in_err-rest-2 : goal.returns-in_err-rest-2
returns-in_err-rest-2 c = leaves_in _ _ _ _ _ _ c.from_residual-in_err-rest-2.ensures (λ s. loop_stops with_last (in_scope further_pair s) _ s _ (c.each.invariant s) (sym c.symbol_next.ensures ∙ c.each-test.true) (taken_stops (λ x. x) (in_scope further_pair) none _ _ _ c.in_err-rest-2.ensures.err c.parse_further_pair.ensures s))

pub returns : goal.returns
returns c = λ s. read_as _ (map_same _) (loop_done with_last (in_scope further_pair s) _ (c.each.invariant s) (sym c.symbol_next.ensures ∙ c.each-test.false))
