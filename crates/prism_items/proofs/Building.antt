-- Commands and modules: each is read in one way, and has a word and a first token; and their alternatives.
use Rattle.std.proofs.Common.{◌≡◌, Bool, true, false, List, [], ◌∷◌, Some, None, refl, ap}
use Rattle.std.specs.Prelude.{◌⊎◌}
use Rattle.std.proofs.Common.{map}
use Rattle.std.proofs.lemmas.Bool.{and_right}
use Rattle.bridge_io.specs.declared.reason.Named.{Named}
use Rattle.prism_lex.specs.declared.token.TokenKind.{TokenKind}
use Rattle.prism_lex.specs.declared.token.TokenKind.TheVariants as K
use Rattle.prism_lex.specs.declared.words.Reserved.TheVariants as W
use Rattle.prism_lex.specs.declared.symbols.Symbol.TheVariants as S
use Rattle.prism_lex.specs.Tokens.{Lexeme}
use Rattle.prism_tree.specs.declared.syntax.NamePair.{NamePair}
use Rattle.prism_tree.specs.Syntax.{Command, Var}
use Rattle.prism_tree.specs.Lang.{Lang, gives, ◌>>=◌, optional, many, front, with_last}
use Rattle.prism_tree.specs.Grammar.{symbol, name, var, command, body, pair, copy, module_item}
use Rattle.prism_exprs.specs.Reading.{none, starts, is_kind}
use Rattle.prism_exprs.specs.Scope.{Scope}
use Rattle.prism_exprs.proofs.Laws.{IsOne, HasWord, Follows, token_follows, then_one, then_word, step_one, token_one, token_word, gives_one, gives_word}
use Rattle.prism_exprs.proofs.Choice.{Same, Opens, Repeats, token_opens, then_opens, or_one, or_word, many_one, many_word, many_then_opens, folding_one, folding_word, folding_follows}
use Rattle.prism_exprs.proofs.Furthest.{or_then}
use Rattle.prism_exprs.proofs.Cut.{gives_or_one}
use Rattle.prism_exprs.proofs.Loops.{Begun, kind_begun, begun_repeats, many-folding}
use Rattle.prism_exprs.proofs.Exprs.{gives_follows, then_follows}
use Rattle.prism_exprs.proofs.Grouping.{same_trans, same_sym, same_then, assoc, gives_then}
use Rattle.prism_items.specs.Parts.{in_scope, closed_by, action_part, bracketed_action, equal_name, several_pairs, bracketed_pairs, further_pair, module_rest, all_but, vars_on}
use Rattle.prism_items.proofs.Leading.{Leads, leads_on, same_leads, or_left, or_right}
use Rattle.prism_items.proofs.Closing.{same_one, differ, either_way, opens_in, passes, closed_one, closed_word, closed-same, optional_word}
use Rattle.prism_items.proofs.Declaring.{name_one, name_word, name_opens, expression_closed, var_one, var_opens}
use Rattle.prism_items.proofs.Choosing.{not_here, opens_off, same_opens}
use Rattle.prism_items.proofs.Splitting.{ended_updates_one}

-- ---- an action

optional_name_one : IsOne (optional name) (is_kind K.Ident)
optional_name_one = gives_or_one None (λ k. k ≡ K.Ident) (then_opens _ _ name_opens) (passes (is_kind K.Ident) K.Ident true refl) (step_one _ name_one (λ x. gives_one (Some x) (is_kind K.Ident)))

pub action_one : (s : Scope) → IsOne (in_scope action_part s) none
action_one s = closed_one _ (is_kind K.Ident) optional_name_one refl

pub action_word : (s : Scope) → HasWord (in_scope action_part s)
action_word s = closed_word _ (optional_word _)

pub brackets_one : (s : Scope) → IsOne (in_scope bracketed_action s) none
brackets_one s = step_one _ (token_one _) (λ t. action_one s)

pub action_none : (s : Scope) (ts : List Lexeme) → starts (is_kind (K.Symbol S.RightBracket)) ts ≡ true → Leads none (in_scope action_part s) ts (symbol S.RightBracket >>= λ t. gives None) ts
unfolding closed_by
action_none s ts e =
    leads_on (same_leads none ts (or_then _ _ _))
    (leads_on (or_left _ _ none ts (opens_off _ _ none (K.Symbol S.RightBracket) ts (then_opens _ _ (then_opens _ _ name_opens)) (differ (K.Symbol S.RightBracket) K.Ident refl refl) e))
    (same_leads none ts (gives_then None _)))

pub action_some : (s : Scope) (ts : List Lexeme) → starts (is_kind (K.Symbol S.RightBracket)) ts ≡ false → Leads none (in_scope action_part s) ts (name >>= λ x. symbol S.RightBracket >>= λ t. gives (Some x)) ts
unfolding closed_by
action_some s ts e =
    leads_on (same_leads none ts (or_then _ _ _))
    (leads_on (or_right _ _ none ts (not_here _ none (K.Symbol S.RightBracket) ts (same_opens (λ k. k ≡ K.Symbol S.RightBracket) (gives_then None _) (then_opens _ _ (token_opens _))) refl e))
    (same_leads none ts (same_trans (assoc _ _ _) (same_then _ _ _ (λ x. gives_then (Some x) _)))))

-- ---- commands

pub command_one : (s : Scope) → IsOne (in_scope command s) none
unfolding command
command_one s =
    step_one _ (token_one _) (λ t. same_one (closed-same _ _ _) (step_one _ (action_one s) (λ a. expression_closed s _ _ none refl (λ e u. same_one (closed-same _ _ _) (step_one _ (ended_updates_one s) (λ bs. gives_one _ none))))))

pub command_opens : (s : Scope) → Opens (in_scope command s) (λ k. k ≡ K.Symbol S.LeftBracket)
unfolding command
command_opens s = then_opens _ _ (token_opens _)

-- ---- a module's body

pub vars_begun : (s : Scope) → Begun (in_scope var s) vars_on
vars_begun s = opens_in (λ k. k ≡ K.Ident) (λ k. vars_on k ≡ true) (var_opens s) (passes vars_on K.Ident true refl)

pub commands_begun : (s : Scope) → Begun (in_scope command s) (all_but (K.Word W.Endmodule))
commands_begun s = opens_in (λ k. k ≡ K.Symbol S.LeftBracket) (λ k. all_but (K.Word W.Endmodule) k ≡ true) (command_opens s) (passes (all_but (K.Word W.Endmodule)) (K.Symbol S.LeftBracket) true refl)

pub vars_one : (s : Scope) → IsOne (many (in_scope var s)) vars_on
vars_one s = many_one (vars_begun s) (begun_repeats vars_on) (var_one s)

pub commands_one : (s : Scope) → IsOne (many (in_scope command s)) (all_but (K.Word W.Endmodule))
commands_one s = many_one (commands_begun s) (begun_repeats (all_but (K.Word W.Endmodule))) (command_one s)

commands_repeat : Repeats (λ k. k ≡ K.Symbol S.LeftBracket) vars_on (all_but (K.Word W.Endmodule))
commands_repeat = record {
  again = passes (all_but (K.Word W.Endmodule)) _ true refl;
  apart = passes vars_on _ false refl;
  within = λ k h. and_right (all_but (K.Symbol S.LeftBracket) k) _ h;
}

same_follows : {A B : Type 0} (M N : A → Lang B) (m more : TokenKind → Bool) → ((x : A) → Same (M x) (N x)) → Follows m N more → Follows m M more
same_follows M N m more s f = record { ends = λ x w z y h. f.ends x w z y ((s x).to w y h) }

pub commands_follow : {B : Type 0} (s : Scope) (f : List Var → List Command → B) → Follows vars_on (λ vs. many (in_scope command s) >>= λ cs. gives (f vs cs)) (all_but (K.Word W.Endmodule))
commands_follow s f =
    then_follows (all_but (K.Word W.Endmodule)) (same_follows _ _ vars_on (all_but (K.Word W.Endmodule)) (λ vs. many-folding (in_scope command s)) (folding_follows with_last (command_opens s) commands_repeat (λ vs. [])))
    (λ vs. gives_follows (f vs) (all_but (K.Word W.Endmodule)))

pub body_one : (s : Scope) (x : Named) → IsOne (in_scope (λ E V. body E V x) s) (all_but (K.Word W.Endmodule))
unfolding body
body_one s x = then_one vars_on (vars_one s) (λ vs. then_one (all_but (K.Word W.Endmodule)) (commands_one s) (λ cs. gives_one _ (all_but (K.Word W.Endmodule))) (gives_follows _ (all_but (K.Word W.Endmodule)))) (commands_follow s _)

pub body_word : (s : Scope) (x : Named) → HasWord (in_scope (λ E V. body E V x) s)
unfolding body
body_word s x = then_word (many_word _) (λ vs. then_word (many_word _) (λ cs. gives_word _))

-- ---- a module's copy

pub equal_name_one : (s : Scope) → IsOne (in_scope equal_name s) none
equal_name_one s = step_one _ (token_one _) (λ t. name_one)

pub pair_one : (s : Scope) → IsOne (in_scope pair s) none
unfolding pair
pair_one s = step_one _ name_one (λ x. step_one _ (token_one _) (λ t. step_one _ name_one (λ y. gives_one _ none)))

pub pair_word : (s : Scope) → HasWord (in_scope pair s)
unfolding pair
pair_word s = then_word name_word (λ x. then_word (token_word _) (λ t. then_word name_word (λ y. gives_word _)))

pub further_pair_one : (s : Scope) → IsOne (in_scope further_pair s) none
further_pair_one s = step_one _ (token_one _) (λ t. pair_one s)

pub further_pair_begun : (s : Scope) → Begun (in_scope further_pair s) (is_kind (K.Symbol S.Comma))
further_pair_begun s = kind_begun _ (K.Symbol S.Comma) refl (then_opens _ _ (token_opens _))

pub several_pairs_one : (s : Scope) → IsOne (in_scope several_pairs s) (is_kind (K.Symbol S.Comma))
several_pairs_one s = step_one _ (pair_one s) (λ p. folding_one with_last (p ∷ []) (further_pair_begun s) (begun_repeats (is_kind (K.Symbol S.Comma))) (further_pair_one s))

pub pairs_word : (s : Scope) (p : NamePair) → HasWord (front (in_scope further_pair s) (p ∷ []))
pairs_word s p = folding_word with_last _ _

pub several_pairs_word : (s : Scope) → HasWord (in_scope several_pairs s)
several_pairs_word s = then_word (pair_word s) (λ p. pairs_word s p)

pub brackets_pairs_one : (s : Scope) → IsOne (in_scope bracketed_pairs s) none
brackets_pairs_one s = step_one _ (token_one _) (λ t. closed_one _ (is_kind (K.Symbol S.Comma)) (several_pairs_one s) refl)

pub copy_one : (s : Scope) (x : Named) → IsOne (in_scope (λ E V. copy E V x) s) none
unfolding copy
copy_one s x =
    step_one _ (token_one _) (λ t. step_one _ name_one (λ y. step_one _ (token_one _) (λ u. same_one (same_sym (assoc _ _ _)) (then_one (is_kind (K.Symbol S.Comma)) (several_pairs_one s) (λ ps. step_one _ (token_one _) (λ v. gives_one _ none))
    (token_follows (is_kind (K.Symbol S.Comma)) (K.Symbol S.RightBracket) _ none refl)))))

copy_opens : (s : Scope) (x : Named) → Opens (closed_by (K.Word W.Endmodule) (in_scope (λ E V. copy E V x) s)) (λ k. k ≡ K.Symbol S.Equal)
unfolding copy closed_by
copy_opens s x = then_opens _ _ (then_opens _ _ (token_opens _))

-- ---- the rest of a module behind its name

BeginsBody : TokenKind → Type 0
BeginsBody k = (k ≡ K.Ident) ⊎ ((k ≡ K.Symbol S.LeftBracket) ⊎ (k ≡ K.Word W.Endmodule))

body_opens : (s : Scope) (x : Named) → Opens (closed_by (K.Word W.Endmodule) (in_scope (λ E V. body E V x) s)) BeginsBody
unfolding body closed_by BeginsBody
body_opens s x =
    same_opens _ (same_trans (assoc _ _ _) (same_then _ _ _ (λ vs. same_trans (assoc _ _ _) (same_then _ _ _ (λ cs. gives_then _ _)))))
    (many_then_opens _ _ (var_opens s) (λ vs. many_then_opens _ _ (command_opens s) (λ cs. then_opens _ _ (token_opens _))))

equal_no_body : (k : TokenKind) → k ≡ K.Symbol S.Equal → BeginsBody k → ⊥
unfolding BeginsBody
equal_no_body k = either_way (differ _ _ refl refl k) (either_way (differ _ _ refl refl k) (differ _ _ refl refl k))

pub rest_copy : (s : Scope) (x : Named) (ts : List Lexeme) → starts (is_kind (K.Symbol S.Equal)) ts ≡ true → Leads none (in_scope (module_rest x) s) ts (closed_by (K.Word W.Endmodule) (in_scope (λ E V. copy E V x) s)) ts
unfolding closed_by
rest_copy s x ts e = leads_on (same_leads none ts (or_then _ _ _)) (or_right _ _ none ts (opens_off _ BeginsBody none (K.Symbol S.Equal) ts (body_opens s x) equal_no_body e))

pub rest_body : (s : Scope) (x : Named) (ts : List Lexeme) → starts (is_kind (K.Symbol S.Equal)) ts ≡ false → Leads none (in_scope (module_rest x) s) ts (closed_by (K.Word W.Endmodule) (in_scope (λ E V. body E V x) s)) ts
unfolding closed_by
rest_body s x ts e = leads_on (same_leads none ts (or_then _ _ _)) (or_left _ _ none ts (not_here _ none (K.Symbol S.Equal) ts (copy_opens s x) refl e))

body_no_copy : (k : TokenKind) → BeginsBody k → k ≡ K.Symbol S.Equal → ⊥
body_no_copy k p e = equal_no_body k e p

pub rest_one : (s : Scope) (x : Named) → IsOne (in_scope (module_rest x) s) none
unfolding closed_by
rest_one s x = same_one (or_then _ _ _) (or_one BeginsBody (λ k. k ≡ K.Symbol S.Equal) (body_opens s x) (copy_opens s x) body_no_copy (closed_one _ (all_but (K.Word W.Endmodule)) (body_one s x) refl) (closed_one _ none (copy_one s x) refl))

pub rest_word : (s : Scope) (x : Named) → HasWord (in_scope (module_rest x) s)
rest_word s x = closed_word _ (or_word _ _ (body_word s x))

pub module_one : (s : Scope) → IsOne (in_scope module_item s) none
unfolding module_item closed_by
module_one s = step_one _ (token_one _) (λ t. step_one _ name_one (λ x. rest_one s x))

pub module_opens : (s : Scope) → Opens (in_scope module_item s) (λ k. k ≡ K.Word W.Module)
unfolding module_item
module_opens s = then_opens _ _ (token_opens _)

pub map_same : {A : Type 0} (xs : List A) → xs ≡ map (λ (x : A). x) xs
map_same [] = refl
map_same {A} (x ∷ xs) = ap (λ (u : List A). x ∷ u) (map_same xs)
