-- Tokens spell one file at most, and so do bytes.
use Rattle.std.proofs.Common.{◌≡◌, ℕ, List, [], length, refl, subst}
use Rattle.prism_lex.specs.declared.token.TokenKind.TheVariants as K
use Rattle.prism_lex.specs.declared.words.Reserved.TheVariants as W
use Rattle.prism_lex.specs.Tokens.{Lexeme}
use Rattle.prism_lex.specs.Laws.{OneList}
use Rattle.prism_tree.specs.Syntax.{File}
use Rattle.prism_tree.specs.Grammar.{empty, file_over}
use Rattle.prism_tree.specs.Faults.{file}
use Rattle.prism_exprs.proofs.Laws.{IsOne, then_one, step_one, token_one, token_follows}
use Rattle.prism_items.specs.Files.{plain}
use Rattle.prism_items.specs.Sections.{is_item_or_init, items_from}
use Rattle.prism_items.proofs.Listing.{items_one}
use Rattle.prism_parse.specs.Laws.{OneTree}

-- No list begins with two files behind which no item stands: items up to the word mdp, and then items again.
file_one : (end : ℕ) → IsOne (file end) is_item_or_init
unfolding file_over
file_one end =
    then_one is_item_or_init (items_one plain (empty end)) (λ f. step_one _ (token_one _) (λ t. items_one plain f))
    (token_follows is_item_or_init (K.Word W.Mdp) (λ f t. items_from f plain) is_item_or_init refl)

one_file : (end : ℕ) (ts : List Lexeme) (x y : File) → file end ts x → file end ts y → x ≡ y
one_file end ts x y p q = ((file_one end).one ts [] ts [] x y p q refl tt tt).1

pub one_tree : OneList → OneTree
one_tree list bytes x y p q =
    let F : List Lexeme → Type 0 = λ ts. file (length bytes) ts y in
    one_file (length bytes) p.tokens x y p.spelled (subst F (list bytes q.tokens p.tokens q.are_tokens p.are_tokens) q.spelled)
