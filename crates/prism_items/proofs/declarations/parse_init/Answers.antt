use Rattle.std.proofs.Common.{refl}
use Rattle.op_trees.specs.Tree.{tree}
use Rattle.prism_lex.specs.declared.token.TokenKind.TheVariants as K
use Rattle.prism_lex.specs.declared.words.Reserved.TheVariants as W
use Rattle.prism_tree.specs.Grammar.{init_item}
use Rattle.prism_exprs.specs.Levels.{goes_on}
use Rattle.prism_exprs.specs.Reading.{none}
use Rattle.prism_exprs.proofs.Laws.{token_one, token_word, token_follows, then_word, gives_word}
use Rattle.prism_exprs.proofs.Outer.{expressions_one, expressions_word, leaves_in}
use Rattle.prism_items.specs.Parts.{in_scope}
use Rattle.prism_items.proofs.Leading.{begin, followed, step, step_to, halt, halt_at}
use Rattle.prism_items.proofs.declarations.parse_init.Goals as goal

pub returns-in_err-_init : goal.returns-in_err-_init
unfolding init_item
returns-in_err-_init c = leaves_in _ _ _ _ _ _ c.from_residual.ensures (λ s. halt _ _ s (begin (in_scope init_item s) none _) (λ _. then_word (expressions_word s) (λ _. then_word (token_word _) (λ _. gives_word _))) _ (c.in_err-_init.ensures s))

pub returns-in_err-condition : goal.returns-in_err-condition
unfolding init_item
returns-in_err-condition c =
    leaves_in _ _ _ _ _ _ c.from_residual-in_err-condition.ensures (λ s. halt_at _ _ s (step _ _ (begin (in_scope init_item s) none _) (token_one _) (c.in_ok-_init.ensures s)) (λ _. then_word (token_word _) (λ _. gives_word _))
    (token_follows goes_on (K.Word W.Endinit) _ none refl) _ (c.in_err-condition.ensures s))

pub returns : goal.returns
unfolding init_item
returns c =
    followed tree (in_scope init_item) _ (K.Word W.Endinit) c.in_ok-condition.condition _ _ c.read_word-2.result c.followed_by.result
    (λ s. step_to _ _ (step _ _ (begin (in_scope init_item s) none _) (token_one _) (c.in_ok-_init.ensures s)) (expressions_one s) (token_follows goes_on (K.Word W.Endinit) _ none refl) (c.in_ok-condition.ensures s))
    c.read_word-2.ensures c.followed_by.ensures
