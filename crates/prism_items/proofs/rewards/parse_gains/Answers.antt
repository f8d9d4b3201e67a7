use Rattle.std.proofs.Common.{refl}
use Rattle.prism_lex.specs.declared.token.TokenKind.TheVariants as K
use Rattle.prism_lex.specs.declared.words.Reserved.TheVariants as W
use Rattle.prism_tree.specs.Syntax.{rewards_of}
use Rattle.prism_exprs.specs.Reading.{none}
use Rattle.prism_exprs.proofs.Laws.{token_word, token_follows, then_word, gives_word}
use Rattle.prism_exprs.proofs.Outer.{leaves_in}
use Rattle.prism_items.specs.Parts.{gains, in_scope, all_but}
use Rattle.prism_items.proofs.Leading.{begin, followed, step_to, halt_at}
use Rattle.prism_items.proofs.Rewarding.{rewards_one}
use Rattle.prism_items.proofs.rewards.parse_gains.Goals as goal

pub returns-in_err-items : goal.returns-in_err-items
unfolding gains
returns-in_err-items c = leaves_in _ _ _ _ _ _ c.from_residual.ensures (λ s. halt_at _ _ s (begin (in_scope (gains c.args.name) s) none _) (λ _. then_word (token_word _) (λ _. gives_word _)) (token_follows (all_but (K.Word W.Endrewards)) (K.Word W.Endrewards) _ none refl) _ (c.in_err-items.ensures s))

pub returns : goal.returns
unfolding gains
returns c =
    followed rewards_of (in_scope (gains c.args.name)) _ (K.Word W.Endrewards) (record { name = c.args.name; items = c.in_ok-items.items }) _ _ c.read_word.result c.followed_by.result
    (λ s. step_to _ _ (begin (in_scope (gains c.args.name) s) none _) (rewards_one s) (token_follows (all_but (K.Word W.Endrewards)) (K.Word W.Endrewards) _ none refl) (c.in_ok-items.ensures s))
    c.read_word.ensures c.followed_by.ensures
