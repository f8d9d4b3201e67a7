-- Constants, formulas, labels, variables and initial conditions: each is read in one way, and has a word and a first token.
use Rattle.std.proofs.Common.{◌≡◌, Bool, true, false, Option, Some, None, refl, inl, inr}
use Rattle.std.specs.Prelude.{◌⊎◌, ◌||◌}
use Rattle.bridge_io.specs.declared.reason.Named.{Named}
use Rattle.op_trees.specs.declared.tree.Ty.{Ty}
use Rattle.op_trees.specs.declared.tree.Ty.TheVariants as T
use Rattle.prism_lex.specs.declared.token.TokenKind.{TokenKind}
use Rattle.prism_lex.specs.declared.token.TokenKind.TheVariants as K
use Rattle.prism_lex.specs.declared.words.Reserved.TheVariants as W
use Rattle.prism_lex.specs.declared.symbols.Symbol.TheVariants as S
use Rattle.prism_lex.specs.Tokens.{Lexeme}
use Rattle.prism_tree.specs.Syntax.{Expression, Range}
use Rattle.prism_tree.specs.Lang.{Lang, token, gives, never, ◌>>=◌, ◌>>◌, ◌or◌}
use Rattle.prism_tree.specs.Grammar.{word, name, quoted, const_type, const_item, formula_item, label_item, range, var, global_item, init_item, int_too}
use Rattle.prism_exprs.specs.Reading.{none, is_kind}
use Rattle.prism_exprs.specs.Levels.{goes_on}
use Rattle.prism_exprs.specs.Scope.{Scope, expressions, also}
use Rattle.prism_exprs.proofs.Laws.{IsOne, HasWord, Follows, token_follows, then_one, then_word, step_one, token_one, token_word, gives_one, gives_word}
use Rattle.prism_exprs.proofs.Choice.{Opens, token_opens, then_opens, or_opens, or_one, or_word, opens_follows}
use Rattle.prism_exprs.proofs.Cut.{gives_or_one}
use Rattle.prism_exprs.proofs.Outer.{expressions_one, expressions_word}
use Rattle.prism_items.specs.Parts.{in_scope, domain, domain_part, value_part, start_part}
use Rattle.prism_items.proofs.Closing.{same_one, differ, either_way, passes, closed-same, optional_word, ended_one}

-- ---- names

pub name_one : IsOne name none
unfolding name
name_one = step_one _ (token_one _) (λ t. gives_one _ none)

pub name_word : HasWord name
unfolding name
name_word = then_word (token_word _) (λ t. gives_word _)

pub name_opens : Opens name (λ k. k ≡ K.Ident)
unfolding name
name_opens = then_opens _ _ (token_opens K.Ident)

pub quoted_one : IsOne quoted none
unfolding quoted
quoted_one = step_one _ (token_one _) (λ t. gives_one _ none)

pub quoted_word : HasWord quoted
unfolding quoted
quoted_word = then_word (token_word _) (λ t. gives_word _)

pub quoted_opens : Opens quoted (λ k. k ≡ K.Quoted)
unfolding quoted
quoted_opens = then_opens _ _ (token_opens K.Quoted)

-- ---- an expression, and a token behind it

pub expression_closed : {B : Type 0} (s : Scope) (k : TokenKind) (M : Expression → Lexeme → Lang B) (more : TokenKind → Bool) → goes_on k ≡ false → ((e : Expression) (t : Lexeme) → IsOne (M e t) more) → IsOne (expressions s >>= λ e. token k >>= M e) more
expression_closed s k M more h one = then_one goes_on (expressions_one s) (λ e. step_one _ (token_one k) (λ t. one e t)) (token_follows goes_on k M more h)

-- ---- constants

int_opens : Opens (word W.Int >> gives T.Int) (λ k. k ≡ K.Word W.Int)
int_opens = then_opens _ _ (token_opens _)

double_opens : Opens (word W.Double >> gives T.Real) (λ k. k ≡ K.Word W.Double)
double_opens = then_opens _ _ (token_opens _)

bool_opens : Opens (word W.BoolWord >> gives T.Bool) (λ k. k ≡ K.Word W.BoolWord)
bool_opens = then_opens _ _ (token_opens _)

abbrev pub IsType : TokenKind → Type 0
IsType k = (k ≡ K.Word W.Int) ⊎ ((k ≡ K.Word W.Double) ⊎ (k ≡ K.Word W.BoolWord))

abbrev types_on : TokenKind → Bool
types_on k = is_kind (K.Word W.Int) k || (is_kind (K.Word W.Double) k || is_kind (K.Word W.BoolWord) k)

a_type : (k : TokenKind) → IsType k → types_on k ≡ true
a_type k (inl e) = passes types_on _ true refl k e
a_type k (inr (inl e)) = passes types_on _ true refl k e
a_type k (inr (inr e)) = passes types_on _ true refl k e

-- a type that is not left out
abbrev pub given : Lang Ty
given = (word W.Int >> gives T.Int) or ((word W.Double >> gives T.Real) or (word W.BoolWord >> gives T.Bool))

pub given_opens : Opens given IsType
given_opens = or_opens _ _ int_opens (or_opens _ _ double_opens bool_opens)

pub given_one : (more : TokenKind → Bool) → IsOne given more
given_one more =
    or_one _ _ int_opens (or_opens _ _ double_opens bool_opens) (λ k. either_way (differ (K.Word W.Int) (K.Word W.Double) refl refl k) (differ (K.Word W.Int) (K.Word W.BoolWord) refl refl k)) (step_one _ (token_one _) (λ t. gives_one _ more))
    (or_one _ _ double_opens bool_opens (differ (K.Word W.Double) (K.Word W.BoolWord) refl refl) (step_one _ (token_one _) (λ t. gives_one _ more)) (step_one _ (token_one _) (λ t. gives_one _ more)))

type_one : (s : Scope) → IsOne (in_scope const_type s) types_on
unfolding const_type
type_one s = gives_or_one T.Int IsType given_opens a_type (given_one types_on)

pub type_word : (s : Scope) → HasWord (in_scope const_type s)
unfolding const_type
type_word s = or_word _ _ (gives_word T.Int)

type_follows : {A B : Type 0} (M : A → Named → Lang B) → Follows types_on (λ x. name >>= M x) none
type_follows M = opens_follows types_on none (λ x. then_opens _ _ name_opens) (passes types_on K.Ident false refl)

-- [ = E ] ;
pub value_one : (s : Scope) → IsOne (in_scope value_part s) none
value_one s = ended_one s (K.Symbol S.Equal) refl refl

pub const_one : (s : Scope) → IsOne (in_scope const_item s) none
unfolding const_item
const_one s =
    step_one _ (token_one _) (λ t. then_one types_on (type_one s) (λ ty. step_one _ name_one (λ x. same_one (closed-same _ _ _) (step_one _ (value_one s) (λ v. gives_one _ none)))) (type_follows _))

pub const_opens : (s : Scope) → Opens (in_scope const_item s) (λ k. k ≡ K.Word W.Const)
unfolding const_item
const_opens s = then_opens _ _ (token_opens _)

-- ---- formulas and labels

pub formula_one : (s : Scope) → IsOne (in_scope formula_item s) none
unfolding formula_item
formula_one s = step_one _ (token_one _) (λ t. step_one _ name_one (λ x. step_one _ (token_one _) (λ u. expression_closed s _ _ none refl (λ e v. gives_one _ none))))

pub formula_opens : (s : Scope) → Opens (in_scope formula_item s) (λ k. k ≡ K.Word W.Formula)
unfolding formula_item
formula_opens s = then_opens _ _ (token_opens _)

pub label_one : (s : Scope) → IsOne (in_scope label_item s) none
unfolding label_item
label_one s = step_one _ (token_one _) (λ t. step_one _ quoted_one (λ x. step_one _ (token_one _) (λ u. expression_closed s _ _ none refl (λ e v. gives_one _ none))))

pub label_opens : (s : Scope) → Opens (in_scope label_item s) (λ k. k ≡ K.Word W.Label)
unfolding label_item
label_opens s = then_opens _ _ (token_opens _)

-- ---- variables

pub range_one : (s : Scope) → IsOne (in_scope range s) none
unfolding range
range_one s = step_one _ (token_one _) (λ t. expression_closed s _ _ none refl (λ e u. expression_closed s _ _ none refl (λ f v. gives_one _ none)))

pub range_word : (s : Scope) → HasWord (in_scope range s)
unfolding range
range_word s = then_word (token_word _) (λ t. then_word (expressions_word s) (λ e. then_word (token_word _) (λ u. then_word (expressions_word s) (λ f. then_word (token_word _) (λ v. gives_word _)))))

pub bounds_opens : (s : Scope) → Opens (in_scope range s >>= λ r. gives (Some r)) (λ k. k ≡ K.Symbol S.LeftBracket)
unfolding range
bounds_opens s = then_opens _ _ (then_opens _ _ (token_opens _))

pub bounds_word : (s : Scope) → HasWord (in_scope range s >>= λ r. gives (Some r))
bounds_word s = then_word (range_word s) (λ r. gives_word _)

pub truth_opens : Opens {A = Option Range} (word W.BoolWord >> gives None) (λ k. k ≡ K.Word W.BoolWord)
truth_opens = then_opens _ _ (token_opens _)

int_too_opens : (b : Bool) → Opens (int_too b) (λ k. k ≡ K.Word W.Int)
unfolding never
int_too_opens true w a p = then_opens _ _ (token_opens (K.Word W.Int)) w a p
int_too_opens false w a p = absurd p

pub also_opens : (s : Scope) → Opens (also s) (λ k. k ≡ K.Word W.Int)
also_opens s = int_too_opens s.int_too

int_too_one : (b : Bool) → IsOne (int_too b) none
unfolding never
int_too_one true = step_one _ (token_one _) (λ t. gives_one None none)
int_too_one false = record { one = λ w z v y a b p. absurd p }

pub domain_one : (s : Scope) → IsOne (in_scope domain s) none
unfolding domain
domain_one s =
    or_one _ _ (bounds_opens s) (or_opens _ _ truth_opens (also_opens s)) (λ k. either_way (differ (K.Symbol S.LeftBracket) (K.Word W.BoolWord) refl refl k) (differ (K.Symbol S.LeftBracket) (K.Word W.Int) refl refl k)) (step_one _ (range_one s) (λ r. gives_one _ none))
    (or_one _ _ truth_opens (also_opens s) (differ (K.Word W.BoolWord) (K.Word W.Int) refl refl) (step_one _ (token_one _) (λ t. gives_one _ none)) (int_too_one s.int_too))

pub domain_word : (s : Scope) → HasWord (in_scope domain s)
unfolding domain
domain_word s = or_word _ _ (bounds_word s)

pub domain_part_one : (s : Scope) → IsOne (in_scope domain_part s) none
domain_part_one s = step_one _ (token_one _) (λ t. domain_one s)

-- [ init E ] ;
pub start_one : (s : Scope) → IsOne (in_scope start_part s) none
start_one s = ended_one s (K.Word W.Init) refl refl

pub var_one : (s : Scope) → IsOne (in_scope var s) none
unfolding var domain
var_one s = step_one _ name_one (λ x. step_one _ (token_one _) (λ t. step_one _ (domain_one s) (λ r. same_one (closed-same _ _ _) (step_one _ (start_one s) (λ v. gives_one _ none)))))

pub var_word : (s : Scope) → HasWord (in_scope var s)
unfolding var domain
var_word s = then_word name_word (λ x. then_word (token_word _) (λ t. then_word (domain_word s) (λ r. then_word (optional_word _) (λ v. then_word (token_word _) (λ u. gives_word _)))))

pub var_opens : (s : Scope) → Opens (in_scope var s) (λ k. k ≡ K.Ident)
unfolding var
var_opens s = then_opens _ _ name_opens

pub global_one : (s : Scope) → IsOne (in_scope global_item s) none
unfolding global_item
global_one s = step_one _ (token_one _) (λ t. var_one s)

pub global_opens : (s : Scope) → Opens (in_scope global_item s) (λ k. k ≡ K.Word W.Global)
unfolding global_item
global_opens s = then_opens _ _ (token_opens _)

-- ---- initial conditions

pub init_one : (s : Scope) → IsOne (in_scope init_item s) none
unfolding init_item
init_one s = step_one _ (token_one _) (λ t. expression_closed s _ _ none refl (λ e u. gives_one _ none))

pub init_opens : (s : Scope) → Opens (in_scope init_item s) (λ k. k ≡ K.Word W.Init)
unfolding init_item
init_opens s = then_opens _ _ (token_opens _)

pub init_word : (s : Scope) → HasWord (in_scope init_item s)
unfolding init_item
init_word s = then_word (token_word _) (λ t. then_word (expressions_word s) (λ e. then_word (token_word _) (λ u. gives_word _)))
