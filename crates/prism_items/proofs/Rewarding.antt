-- Rewards: each is read in one way, and has a word and a first token; and their alternatives.
use Rattle.std.proofs.Common.{◌≡◌, Bool, true, false, List, Option, Some, None, refl, ap, ◌∙◌, inl, inr}
use Rattle.std.specs.Prelude.{◌⊎◌, not}
use Rattle.bridge_io.specs.declared.reason.Named.{Named}
use Rattle.prism_lex.specs.declared.token.TokenKind.{TokenKind}
use Rattle.prism_lex.specs.declared.token.TokenKind.TheVariants as K
use Rattle.prism_lex.specs.declared.words.Reserved.TheVariants as W
use Rattle.prism_lex.specs.declared.symbols.Symbol.TheVariants as S
use Rattle.prism_lex.specs.Tokens.{Lexeme}
use Rattle.prism_tree.specs.declared.syntax.ItemOn.{ItemOn}
use Rattle.prism_tree.specs.declared.syntax.ItemOn.TheVariants.{InState}
use Rattle.prism_tree.specs.Syntax.{Item, Rewards}
use Rattle.prism_tree.specs.Lang.{Lang, ◌>>=◌, ◌or◌, optional, many}
use Rattle.prism_tree.specs.Grammar.{word, symbol, name, quoted, on_action, reward, rewards_item}
use Rattle.prism_exprs.specs.Reading.{none, starts, is_kind, same_kind}
use Rattle.prism_exprs.specs.Levels.{begins_prim, CanBegin, operand_itself, minus_sign, not_sign}
use Rattle.prism_exprs.specs.Scope.{Scope}
use Rattle.prism_exprs.proofs.Laws.{IsOne, HasWord, token_follows, then_one, then_word, step_one, token_one, token_word, gives_one, gives_word}
use Rattle.prism_exprs.proofs.Choice.{Same, Opens, token_opens, then_opens, or_opens, or_one, many_one, many_word, many_then_opens}
use Rattle.prism_exprs.proofs.Furthest.{or_then}
use Rattle.prism_exprs.proofs.Loops.{Begun, begun_repeats, same_is}
use Rattle.prism_exprs.proofs.Grouping.{same_trans, same_then, assoc, gives_then}
use Rattle.prism_exprs.proofs.Outer.{expressions_word, expressions_opens}
use Rattle.prism_items.specs.Parts.{in_scope, closed_by, action_part, gain, gains, all_but}
use Rattle.prism_items.proofs.Leading.{Leads, leads_on, same_leads, or_left, or_right}
use Rattle.prism_items.proofs.Closing.{same_one, differ, opens_in, passes, closed-same, optional_word}
use Rattle.prism_items.proofs.Declaring.{quoted_one, quoted_opens, expression_closed}
use Rattle.prism_items.proofs.Choosing.{not_here, opens_off, same_opens}
use Rattle.prism_items.proofs.Building.{action_one}

same_or : {A : Type 0} {L L' M M' : Lang A} → Same L L' → Same M M' → Same (L or M) (L' or M')
unfolding ◌or◌
same_or {A} {L} {L'} {M} {M'} l m = record { to = to; from = from }
  where
    to : (w : List Lexeme) (x : A) → L w x ⊎ M w x → L' w x ⊎ M' w x
    to w x (inl h) = inl (l.to w x h)
    to w x (inr h) = inr (m.to w x h)

    from : (w : List Lexeme) (x : A) → L' w x ⊎ M' w x → L w x ⊎ M w x
    from w x (inl h) = inl (l.from w x h)
    from w x (inr h) = inr (m.from w x h)

-- ---- one reward

pub gain_one : (s : Scope) (on : ItemOn) → IsOne (in_scope (gain on) s) none
unfolding gain
gain_one s on = expression_closed s _ _ none refl (λ e t. expression_closed s _ _ none refl (λ f u. gives_one _ none))

pub gain_word : (s : Scope) (on : ItemOn) → HasWord (in_scope (gain on) s)
unfolding gain
gain_word s on = then_word (expressions_word s) (λ e. then_word (token_word _) (λ t. then_word (expressions_word s) (λ f. then_word (token_word _) (λ u. gives_word _))))

gain_opens : (s : Scope) (on : ItemOn) → Opens (in_scope (gain on) s) (CanBegin 10)
unfolding gain
gain_opens s on = then_opens _ _ (expressions_opens s)

-- '[' [ Ident ] ']' E : E ;
abbrev pub gain_of_action : Scope → Lang Item
gain_of_action s = symbol S.LeftBracket >>= λ t. in_scope action_part s >>= λ a. in_scope (gain (on_action a)) s

pub reward-or : (s : Scope) → Same (in_scope reward s) (in_scope (gain InState) s or gain_of_action s)
unfolding reward gain closed_by
reward-or s =
    same_trans (or_then _ _ _) (same_or (gives_then InState _)
    (same_trans (assoc _ _ _) (same_trans (assoc _ _ _) (same_then _ _ _ (λ t. same_trans (same_then _ _ _ (λ a. same_trans (assoc _ _ _) (same_then _ _ _ (λ u. gives_then (on_action a) _)))) (closed-same (K.Symbol S.RightBracket) (optional name) (λ a. in_scope (gain (on_action a)) s)))))))

bracket_first : (s : Scope) → Opens (gain_of_action s) (λ k. k ≡ K.Symbol S.LeftBracket)
bracket_first s = then_opens _ _ (token_opens _)

begins_other : (kind : TokenKind) → begins_prim kind ≡ false → same_kind (K.Symbol S.Minus) kind ≡ false → same_kind (K.Symbol S.Not) kind ≡ false → same_kind kind kind ≡ true → (k : TokenKind) → k ≡ kind → CanBegin 10 k → ⊥
begins_other kind b m n same k e (operand_itself h) = let f : begins_prim k ≡ false = ap begins_prim e ∙ b in absurd cc
begins_other kind b m n same k e (minus_sign lt h) = differ (K.Symbol S.Minus) kind same m k h e
begins_other kind b m n same k e (not_sign lt h) = differ (K.Symbol S.Not) kind same n k h e

no_bracket : (k : TokenKind) → k ≡ K.Symbol S.LeftBracket → CanBegin 10 k → ⊥
no_bracket = begins_other (K.Symbol S.LeftBracket) refl refl refl refl

pub reward_action : (s : Scope) (ts : List Lexeme) → starts (is_kind (K.Symbol S.LeftBracket)) ts ≡ true → Leads none (in_scope reward s) ts (gain_of_action s) ts
reward_action s ts e = leads_on (same_leads none ts (reward-or s)) (or_right _ _ none ts (opens_off _ (CanBegin 10) none (K.Symbol S.LeftBracket) ts (gain_opens s InState) no_bracket e))

pub reward_state : (s : Scope) (ts : List Lexeme) → starts (is_kind (K.Symbol S.LeftBracket)) ts ≡ false → Leads none (in_scope reward s) ts (in_scope (gain InState) s) ts
reward_state s ts e = leads_on (same_leads none ts (reward-or s)) (or_left _ _ none ts (not_here _ none (K.Symbol S.LeftBracket) ts (bracket_first s) refl e))

pub reward_one : (s : Scope) → IsOne (in_scope reward s) none
reward_one s =
    same_one (reward-or s) (or_one (CanBegin 10) (λ k. k ≡ K.Symbol S.LeftBracket) (gain_opens s InState) (bracket_first s) (λ k p e. no_bracket k e p) (gain_one s InState)
    (step_one _ (token_one _) (λ t. step_one _ (action_one s) (λ a. gain_one s (on_action a)))))

-- what begins a reward
pub BeginsReward : TokenKind → Type 0
BeginsReward k = CanBegin 10 k ⊎ (k ≡ K.Symbol S.LeftBracket)

reward_opens : (s : Scope) → Opens (in_scope reward s) BeginsReward
unfolding BeginsReward
reward_opens s = same_opens _ (reward-or s) (or_opens _ _ (gain_opens s InState) (bracket_first s))

reward_on : (k : TokenKind) → BeginsReward k → all_but (K.Word W.Endrewards) k ≡ true
unfolding BeginsReward
reward_on k (inl p) = by_test (is_kind (K.Word W.Endrewards) k) refl
  where
    by_test : (b : Bool) → is_kind (K.Word W.Endrewards) k ≡ b → not b ≡ true
    by_test true e = absurd (begins_other (K.Word W.Endrewards) refl refl refl refl k (same_is k _ e) p)
    by_test false e = refl
reward_on k (inr p) = passes (all_but (K.Word W.Endrewards)) (K.Symbol S.LeftBracket) true refl k p

pub reward_begun : (s : Scope) → Begun (in_scope reward s) (all_but (K.Word W.Endrewards))
reward_begun s = opens_in BeginsReward (λ k. all_but (K.Word W.Endrewards) k ≡ true) (reward_opens s) reward_on

-- ---- a reward structure

pub rewards_one : (s : Scope) → IsOne (many (in_scope reward s)) (all_but (K.Word W.Endrewards))
rewards_one s = many_one (reward_begun s) (begun_repeats (all_but (K.Word W.Endrewards))) (reward_one s)

pub gains_one : (s : Scope) (x : Option Named) → IsOne (in_scope (gains x) s) none
unfolding gains
gains_one s x = then_one (all_but (K.Word W.Endrewards)) (rewards_one s) (λ items. step_one _ (token_one _) (λ t. gives_one _ none)) (token_follows (all_but (K.Word W.Endrewards)) (K.Word W.Endrewards) _ none refl)

pub gains_word : (s : Scope) (x : Option Named) → HasWord (in_scope (gains x) s)
unfolding gains
gains_word s x = then_word (many_word _) (λ items. then_word (token_word _) (λ t. gives_word _))

BeginsGains : TokenKind → Type 0
BeginsGains k = BeginsReward k ⊎ (k ≡ K.Word W.Endrewards)

gains_opens : (s : Scope) (x : Option Named) → Opens (in_scope (gains x) s) BeginsGains
unfolding gains BeginsGains
gains_opens s x = many_then_opens _ _ (reward_opens s) (λ items. then_opens _ _ (token_opens _))

no_quote : (k : TokenKind) → k ≡ K.Quoted → BeginsGains k → ⊥
unfolding BeginsGains BeginsReward
no_quote k e (inl (inl p)) = begins_other K.Quoted refl refl refl refl k e p
no_quote k e (inl (inr p)) = differ K.Quoted (K.Symbol S.LeftBracket) refl refl k e p
no_quote k e (inr p) = differ K.Quoted (K.Word W.Endrewards) refl refl k e p

-- what stands behind the word `rewards`
abbrev pub titled : Scope → Lang Rewards
titled s = optional quoted >>= λ x. in_scope (gains x) s

abbrev pub given_title : Scope → Lang Rewards
given_title s = quoted >>= λ x. in_scope (gains (Some x)) s

titled-or : (s : Scope) → Same (titled s) (in_scope (gains None) s or given_title s)
titled-or s = same_trans (or_then _ _ _) (same_or (gives_then None _) (same_trans (assoc _ _ _) (same_then _ _ _ (λ x. gives_then (Some x) _))))

title_opens : (s : Scope) → Opens (given_title s) (λ k. k ≡ K.Quoted)
title_opens s = then_opens _ _ quoted_opens

titled_none : (s : Scope) (ts : List Lexeme) → starts (is_kind K.Quoted) ts ≡ false → Leads none (titled s) ts (in_scope (gains None) s) ts
titled_none s ts e = leads_on (same_leads none ts (titled-or s)) (or_left _ _ none ts (not_here _ none K.Quoted ts (title_opens s) refl e))

titled_some : (s : Scope) (ts : List Lexeme) → starts (is_kind K.Quoted) ts ≡ true → Leads none (titled s) ts (given_title s) ts
titled_some s ts e = leads_on (same_leads none ts (titled-or s)) (or_right _ _ none ts (opens_off _ BeginsGains none K.Quoted ts (gains_opens s None) no_quote e))

pub title_none : (s : Scope) {L : Lang Rewards} {ts us : List Lexeme} → Leads none L ts (titled s) us → starts (is_kind K.Quoted) us ≡ false → Leads none L ts (in_scope (gains None) s) us
title_none s l e = leads_on l (titled_none s _ e)

pub title_some : (s : Scope) {L : Lang Rewards} {ts us : List Lexeme} → Leads none L ts (titled s) us → starts (is_kind K.Quoted) us ≡ true → Leads none L ts (given_title s) us
title_some s l e = leads_on l (titled_some s _ e)

titled_one : (s : Scope) → IsOne (titled s) none
titled_one s = same_one (titled-or s) (or_one BeginsGains (λ k. k ≡ K.Quoted) (gains_opens s None) (title_opens s) (λ k p e. no_quote k e p) (gains_one s None) (step_one _ quoted_one (λ x. gains_one s (Some x))))

pub titled_word : (s : Scope) → HasWord (titled s)
titled_word s = then_word (optional_word _) (λ x. gains_word s x)

-- behind its first word
pub rewards-titled : (s : Scope) → Same (in_scope rewards_item s) (word W.Rewards >>= λ t. titled s)
unfolding rewards_item gains
rewards-titled s = record { to = λ w x h. h; from = λ w x h. h }

pub item_one : (s : Scope) → IsOne (in_scope rewards_item s) none
item_one s = same_one (rewards-titled s) (step_one _ (token_one _) (λ t. titled_one s))

pub item_opens : (s : Scope) → Opens (in_scope rewards_item s) (λ k. k ≡ K.Word W.Rewards)
unfolding rewards_item
item_opens s = then_opens _ _ (token_opens _)
