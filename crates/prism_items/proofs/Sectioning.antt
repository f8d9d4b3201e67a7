-- Items: each begins with a word of its own, and behind it no other item can stand.
use Rattle.std.proofs.Common.{◌≡◌, Bool, true, false, List, [], ◌∷◌, ◌++◌, refl, sym, ap, ◌∙◌, append-nil, inl, inr}
use Rattle.std.specs.Prelude.{◌⊎◌, ◌||◌}
use Rattle.std.proofs.Math.Bool.{or-true}
use Rattle.prism_lex.specs.declared.token.TokenKind.{TokenKind}
use Rattle.prism_lex.specs.declared.token.TokenKind.TheVariants as K
use Rattle.prism_lex.specs.declared.words.Reserved.TheVariants as W
use Rattle.prism_lex.specs.declared.symbols.Symbol.TheVariants as S
use Rattle.prism_lex.specs.Tokens.{Lexeme}
use Rattle.prism_tree.specs.Lang.{Lang, token, gives, ◌>>=◌, ◌or◌, with_last, Begins}
use Rattle.prism_tree.specs.Grammar.{Section, a_const, a_global, a_formula, a_module, a_label, a_rewards, word, name, quoted, const_type, const_item, range, var, global_item, formula_item, label_item, write, update, weighted, updates, command, body, pair, copy, module_item, reward, rewards_item, init_item, section, int_too}
use Rattle.prism_exprs.specs.Reading.{none, starts, is_kind, same_kind}
use Rattle.prism_exprs.specs.Scope.{Scope, expressions}
use Rattle.prism_exprs.proofs.Laws.{IsOne, HasWord, then_word, step_one, token_word, gives_one, gives_word}
use Rattle.prism_exprs.proofs.Choice.{Opens, then_opens, or_opens, or_one, or_word, many_word}
use Rattle.prism_exprs.proofs.Loops.{Begun, same_is}
use Rattle.prism_exprs.proofs.Outer.{expressions_word}
use Rattle.prism_items.specs.Parts.{in_scope}
use Rattle.prism_items.specs.Sections.{label_on, module_on, formula_on, global_on, is_item}
use Rattle.prism_items.proofs.Closing.{differ, passes, optional_word, opens_in}
use Rattle.prism_items.proofs.Leading.{Leads, leads_on, or_left, or_right}
use Rattle.prism_items.proofs.Choosing.{opens_off, not_here}
use Rattle.prism_items.proofs.Declaring.{name_word, quoted_word, type_word, const_one, const_opens, formula_one, formula_opens, label_one, label_opens, var_word, global_one, global_opens}
use Rattle.prism_items.proofs.Building.{module_one, module_opens}
use Rattle.prism_items.proofs.Rewarding.{item_one as rewards_one, item_opens as rewards_opens}
use Rattle.prism_items.proofs.Lacking.{Free, Lacks, token_lacks, gives_lacks, never_lacks, then_lacks, or_lacks, many_lacks, folding_lacks, optional_lacks, expressions_lack, module_strange}

-- ---- first words

either_opens : {A : Type 0} {L M : Lang A} (a : TokenKind) (r : TokenKind → Bool) → same_kind a a ≡ true → Opens L (λ k. k ≡ a) → Opens M (λ k. r k ≡ true) → Opens (L or M) (λ k. (is_kind a k || r k) ≡ true)
either_opens {A} {L} {M} a r h o p = opens_in (λ k. (k ≡ a) ⊎ (r k ≡ true)) _ (or_opens _ _ o p) go
  where
    go : (k : TokenKind) → (k ≡ a) ⊎ (r k ≡ true) → (is_kind a k || r k) ≡ true
    go k (inl e) = ap (λ (b : Bool). b || r k) (passes (is_kind a) a true h k e)
    go k (inr e) = ap (λ (b : Bool). is_kind a k || b) e ∙ or-true (is_kind a k)

one_opens : {A : Type 0} {L : Lang A} (a : TokenKind) → same_kind a a ≡ true → Opens L (λ k. k ≡ a) → Opens L (λ k. is_kind a k ≡ true)
one_opens a h o = opens_in (λ k. k ≡ a) _ o (λ k e. passes (is_kind a) a true h k e)

-- a word that is none of some others
not_among : (r : TokenKind → Bool) (a : TokenKind) → r a ≡ false → (k : TokenKind) → k ≡ a → r k ≡ true → ⊥
not_among r a h k e f = let g : r k ≡ false = passes r a false h k e in absurd cc

-- ---- the alternatives, from the last on

abbrev pub A_const : Scope → Lang Section
A_const s = in_scope const_item s >>= λ c. gives (a_const c)

abbrev pub A_global : Scope → Lang Section
A_global s = in_scope global_item s >>= λ v. gives (a_global v)

abbrev pub A_formula : Scope → Lang Section
A_formula s = in_scope formula_item s >>= λ f. gives (a_formula f)

abbrev pub A_module : Scope → Lang Section
A_module s = in_scope module_item s >>= λ m. gives (a_module m)

abbrev pub A_label : Scope → Lang Section
A_label s = in_scope label_item s >>= λ l. gives (a_label l)

abbrev pub A_rewards : Scope → Lang Section
A_rewards s = in_scope rewards_item s >>= λ r. gives (a_rewards r)

abbrev pub R_label : Scope → Lang Section
R_label s = A_label s or A_rewards s

abbrev pub R_module : Scope → Lang Section
R_module s = A_module s or R_label s

abbrev pub R_formula : Scope → Lang Section
R_formula s = A_formula s or R_module s

abbrev pub R_global : Scope → Lang Section
R_global s = A_global s or R_formula s

label_rest_opens : (s : Scope) → Opens (R_label s) (λ k. label_on k ≡ true)
label_rest_opens s = either_opens (K.Word W.Label) (is_kind (K.Word W.Rewards)) refl (then_opens _ _ (label_opens s)) (one_opens (K.Word W.Rewards) refl (then_opens _ _ (rewards_opens s)))

module_rest_opens : (s : Scope) → Opens (R_module s) (λ k. module_on k ≡ true)
module_rest_opens s = either_opens (K.Word W.Module) label_on refl (then_opens _ _ (module_opens s)) (label_rest_opens s)

formula_rest_opens : (s : Scope) → Opens (R_formula s) (λ k. formula_on k ≡ true)
formula_rest_opens s = either_opens (K.Word W.Formula) module_on refl (then_opens _ _ (formula_opens s)) (module_rest_opens s)

global_rest_opens : (s : Scope) → Opens (R_global s) (λ k. global_on k ≡ true)
global_rest_opens s = either_opens (K.Word W.Global) formula_on refl (then_opens _ _ (global_opens s)) (formula_rest_opens s)

pub section_begun : (s : Scope) → Begun (in_scope section s) is_item
unfolding section
section_begun s = either_opens (K.Word W.Const) global_on refl (then_opens _ _ (const_opens s)) (global_rest_opens s)

item_one : {A B : Type 0} {L : Lang A} (f : A → B) → IsOne L none → IsOne (L >>= λ x. gives (f x)) none
item_one f l = step_one _ l (λ x. gives_one (f x) none)

pub section_one : (s : Scope) → IsOne (in_scope section s) none
unfolding section
section_one s =
    or_one _ _ (then_opens _ _ (const_opens s)) (global_rest_opens s) (not_among global_on (K.Word W.Const) refl) (item_one _ (const_one s))
    (or_one _ _ (then_opens _ _ (global_opens s)) (formula_rest_opens s) (not_among formula_on (K.Word W.Global) refl) (item_one _ (global_one s))
    (or_one _ _ (then_opens _ _ (formula_opens s)) (module_rest_opens s) (not_among module_on (K.Word W.Formula) refl) (item_one _ (formula_one s))
    (or_one _ _ (then_opens _ _ (module_opens s)) (label_rest_opens s) (not_among label_on (K.Word W.Module) refl) (item_one _ (module_one s))
    (or_one _ _ (then_opens _ _ (label_opens s)) (then_opens _ _ (rewards_opens s)) (differ (K.Word W.Label) (K.Word W.Rewards) refl refl) (item_one _ (label_one s)) (item_one _ (rewards_one s))))))

-- ---- which item stands next

pub const_leads : (s : Scope) (ts : List Lexeme) → starts (is_kind (K.Word W.Const)) ts ≡ true → Leads none (in_scope section s) ts (A_const s) ts
unfolding section
const_leads s ts e = or_left _ _ none ts (opens_off _ _ none (K.Word W.Const) ts (global_rest_opens s) (not_among global_on (K.Word W.Const) refl) e)

past_const : (s : Scope) (k : TokenKind) (ts : List Lexeme) → same_kind k (K.Word W.Const) ≡ false → starts (is_kind k) ts ≡ true → Leads none (in_scope section s) ts (R_global s) ts
unfolding section
past_const s k ts h e = or_right _ _ none ts (opens_off _ _ none k ts (then_opens _ _ (const_opens s)) (differ k (K.Word W.Const) refl h) e)

past_global : (s : Scope) (k : TokenKind) (ts : List Lexeme) → same_kind k (K.Word W.Global) ≡ false → starts (is_kind k) ts ≡ true → Leads none (R_global s) ts (R_formula s) ts
past_global s k ts h e = or_right _ _ none ts (opens_off _ _ none k ts (then_opens _ _ (global_opens s)) (differ k (K.Word W.Global) refl h) e)

past_formula : (s : Scope) (k : TokenKind) (ts : List Lexeme) → same_kind k (K.Word W.Formula) ≡ false → starts (is_kind k) ts ≡ true → Leads none (R_formula s) ts (R_module s) ts
past_formula s k ts h e = or_right _ _ none ts (opens_off _ _ none k ts (then_opens _ _ (formula_opens s)) (differ k (K.Word W.Formula) refl h) e)

past_module : (s : Scope) (k : TokenKind) (ts : List Lexeme) → same_kind k (K.Word W.Module) ≡ false → starts (is_kind k) ts ≡ true → Leads none (R_module s) ts (R_label s) ts
past_module s k ts h e = or_right _ _ none ts (opens_off _ _ none k ts (then_opens _ _ (module_opens s)) (differ k (K.Word W.Module) refl h) e)

pub global_leads : (s : Scope) (ts : List Lexeme) → starts (is_kind (K.Word W.Global)) ts ≡ true → Leads none (in_scope section s) ts (A_global s) ts
global_leads s ts e =
    leads_on (past_const s (K.Word W.Global) ts refl e) (or_left _ _ none ts (opens_off _ _ none (K.Word W.Global) ts (formula_rest_opens s) (not_among formula_on (K.Word W.Global) refl) e))

pub formula_leads : (s : Scope) (ts : List Lexeme) → starts (is_kind (K.Word W.Formula)) ts ≡ true → Leads none (in_scope section s) ts (A_formula s) ts
formula_leads s ts e =
    leads_on (past_const s (K.Word W.Formula) ts refl e)
    (leads_on (past_global s (K.Word W.Formula) ts refl e) (or_left _ _ none ts (opens_off _ _ none (K.Word W.Formula) ts (module_rest_opens s) (not_among module_on (K.Word W.Formula) refl) e)))

to_module : (s : Scope) (k : TokenKind) (ts : List Lexeme) → same_kind k (K.Word W.Const) ≡ false → same_kind k (K.Word W.Global) ≡ false → same_kind k (K.Word W.Formula) ≡ false → starts (is_kind k) ts ≡ true → Leads none (in_scope section s) ts (R_module s) ts
to_module s k ts f g h e = leads_on (past_const s k ts f e) (leads_on (past_global s k ts g e) (past_formula s k ts h e))

pub module_leads : (s : Scope) (ts : List Lexeme) → starts (is_kind (K.Word W.Module)) ts ≡ true → Leads none (in_scope section s) ts (A_module s) ts
module_leads s ts e =
    leads_on (to_module s (K.Word W.Module) ts refl refl refl e) (or_left _ _ none ts (opens_off _ _ none (K.Word W.Module) ts (label_rest_opens s) (not_among label_on (K.Word W.Module) refl) e))

pub label_leads : (s : Scope) (ts : List Lexeme) → starts (is_kind (K.Word W.Label)) ts ≡ true → Leads none (in_scope section s) ts (A_label s) ts
label_leads s ts e =
    leads_on (to_module s (K.Word W.Label) ts refl refl refl e)
    (leads_on (past_module s (K.Word W.Label) ts refl e) (or_left _ _ none ts (opens_off _ _ none (K.Word W.Label) ts (then_opens _ _ (rewards_opens s)) (differ (K.Word W.Label) (K.Word W.Rewards) refl refl) e)))

pub rewards_leads : (s : Scope) (ts : List Lexeme) → starts (is_kind (K.Word W.Const)) ts ≡ false → starts (is_kind (K.Word W.Global)) ts ≡ false → starts (is_kind (K.Word W.Formula)) ts ≡ false →
    starts (is_kind (K.Word W.Module)) ts ≡ false → starts (is_kind (K.Word W.Label)) ts ≡ false → Leads none (in_scope section s) ts (A_rewards s) ts
unfolding section
rewards_leads s ts c g f m l =
    leads_on (or_right _ _ none ts (not_here _ none (K.Word W.Const) ts (then_opens _ _ (const_opens s)) refl c))
    (leads_on (or_right _ _ none ts (not_here _ none (K.Word W.Global) ts (then_opens _ _ (global_opens s)) refl g))
    (leads_on (or_right _ _ none ts (not_here _ none (K.Word W.Formula) ts (then_opens _ _ (formula_opens s)) refl f))
    (leads_on (or_right _ _ none ts (not_here _ none (K.Word W.Module) ts (then_opens _ _ (module_opens s)) refl m))
    (or_right _ _ none ts (not_here _ none (K.Word W.Label) ts (then_opens _ _ (label_opens s)) refl l)))))

-- ---- one of two tests

pub starts_either : (f g : TokenKind → Bool) (ts : List Lexeme) → starts (λ k. f k || g k) ts ≡ (starts f ts || starts g ts)
starts_either f g [] = refl
starts_either f g (t ∷ ts) = refl

-- ---- no item stands behind the first token of another

abbrev m_word : TokenKind
m_word = K.Word W.Module

tl : (j : TokenKind) → same_kind j m_word ≡ false → Lacks m_word (token j)
tl j h = token_lacks m_word j (λ e. differ j m_word refl h j refl e)

gl : {A : Type 0} (a : A) → Lacks m_word (gives a)
gl a = gives_lacks m_word a

tn : {A B : Type 0} {L : Lang A} (M : A → Lang B) → Lacks m_word L → ((x : A) → Lacks m_word (M x)) → Lacks m_word (L >>= M)
tn M l m = then_lacks m_word M l m

name_l : Lacks m_word name
unfolding name
name_l = tn _ (tl K.Ident refl) (λ t. gl _)

quoted_l : Lacks m_word quoted
unfolding quoted
quoted_l = tn _ (tl K.Quoted refl) (λ t. gl _)

el : (s : Scope) → Lacks m_word (expressions s)
el s = expressions_lack m_word module_strange s

type_l : (s : Scope) → Lacks m_word (in_scope const_type s)
unfolding const_type
type_l s =
    or_lacks m_word (gl _) (or_lacks m_word (tn _ (tl (K.Word W.Int) refl) (λ t. gl _)) (or_lacks m_word (tn _ (tl (K.Word W.Double) refl) (λ t. gl _)) (tn _ (tl (K.Word W.BoolWord) refl) (λ t. gl _))))

also_l : (b : Bool) → Lacks m_word (int_too b)
also_l false = never_lacks m_word
also_l true = tn _ (tl (K.Word W.Int) refl) (λ t. gl _)

range_l : (s : Scope) → Lacks m_word (in_scope range s)
unfolding range
range_l s = tn _ (tl (K.Symbol S.LeftBracket) refl) (λ t. tn _ (el s) (λ e. tn _ (tl (K.Symbol S.Dots) refl) (λ u. tn _ (el s) (λ f. tn _ (tl (K.Symbol S.RightBracket) refl) (λ v. gl _)))))

var_l : (s : Scope) → Lacks m_word (in_scope var s)
unfolding var
var_l s =
    tn _ name_l (λ x. tn _ (tl (K.Symbol S.Colon) refl) (λ t. tn _ (or_lacks m_word (tn _ (range_l s) (λ r. gl _)) (or_lacks m_word (tn _ (tl (K.Word W.BoolWord) refl) (λ u. gl _)) (also_l s.int_too)))
    (λ r. tn _ (optional_lacks m_word (tn _ (tl (K.Word W.Init) refl) (λ u. el s))) (λ v. tn _ (tl (K.Symbol S.Semicolon) refl) (λ w. gl _)))))

write_l : (s : Scope) → Lacks m_word (in_scope write s)
unfolding write
write_l s =
    tn _ (tl (K.Symbol S.LeftParenthesis) refl) (λ t. tn _ name_l (λ x. tn _ (tl (K.Symbol S.Prime) refl) (λ u. tn _ (tl (K.Symbol S.Equal) refl) (λ v. tn _ (el s) (λ e. tn _ (tl (K.Symbol S.RightParenthesis) refl) (λ w. gl _))))))

update_l : (s : Scope) → Lacks m_word (in_scope update s)
unfolding update
update_l s = or_lacks m_word (tn _ (tl (K.Word W.True) refl) (λ t. gl _)) (tn _ (write_l s) (λ w. folding_lacks m_word with_last (w ∷ []) (tn _ (tl (K.Symbol S.And) refl) (λ t. write_l s))))

weighted_l : (s : Scope) → Lacks m_word (in_scope weighted s)
unfolding weighted
weighted_l s = tn _ (el s) (λ e. tn _ (tl (K.Symbol S.Colon) refl) (λ t. tn _ (update_l s) (λ ws. gl _)))

updates_l : (s : Scope) → Lacks m_word (in_scope updates s)
unfolding updates
updates_l s = or_lacks m_word (tn _ (update_l s) (λ ws. gl _)) (tn _ (weighted_l s) (λ b. folding_lacks m_word with_last (b ∷ []) (tn _ (tl (K.Symbol S.Plus) refl) (λ t. weighted_l s))))

command_l : (s : Scope) → Lacks m_word (in_scope command s)
unfolding command
command_l s =
    tn _ (tl (K.Symbol S.LeftBracket) refl) (λ t. tn _ (optional_lacks m_word name_l) (λ a. tn _ (tl (K.Symbol S.RightBracket) refl) (λ u. tn _ (el s) (λ e. tn _ (tl (K.Symbol S.Arrow) refl) (λ v. tn _ (updates_l s) (λ bs. tn _ (tl (K.Symbol S.Semicolon) refl) (λ w. gl _)))))))

pair_l : (s : Scope) → Lacks m_word (in_scope pair s)
unfolding pair
pair_l s = tn _ name_l (λ x. tn _ (tl (K.Symbol S.Equal) refl) (λ t. tn _ name_l (λ y. gl _)))

reward_l : (s : Scope) → Lacks m_word (in_scope reward s)
unfolding reward
reward_l s =
    tn _ (or_lacks m_word (gl _) (tn _ (tn _ (tl (K.Symbol S.LeftBracket) refl) (λ t. optional_lacks m_word name_l)) (λ a. tn _ (tl (K.Symbol S.RightBracket) refl) (λ t. gl _))))
    (λ on. tn _ (el s) (λ g. tn _ (tl (K.Symbol S.Colon) refl) (λ t. tn _ (el s) (λ v. tn _ (tl (K.Symbol S.Semicolon) refl) (λ u. gl _)))))

-- what stands behind the first token has none of this kind
pub record Behind {A : Type 0} (L : Lang A) : Type 0 where
  pub split : (w : List Lexeme) (x : A) → L w x → (t : Lexeme) × (v : List Lexeme) × (w ≡ t ∷ v) × Free m_word v

behind_token : {A : Type 0} (j : TokenKind) (M : Lexeme → Lang A) → ((t : Lexeme) → Lacks m_word (M t)) → Behind (token j >>= M)
unfolding token ◌>>=◌
behind_token j M m = record { split = λ w y h. (h.0, h.2, h.3 ∙ ap (λ (u : List Lexeme). u ++ h.2) h.4.0, (m h.0).free h.2 y h.5) }

behind_gives : {A B : Type 0} {L : Lang A} (f : A → B) → Behind L → Behind (L >>= λ x. gives (f x))
unfolding gives ◌>>=◌
behind_gives f b = record {
  split = λ w y h.
      let n = b.split h.1 h.0 h.4 in
      (n.0, n.1, h.3 ∙ ap (λ (u : List Lexeme). h.1 ++ u) h.5.0 ∙ append-nil h.1 ∙ n.2, n.3);
}

behind_or : {A : Type 0} {L M : Lang A} → Behind L → Behind M → Behind (L or M)
unfolding ◌or◌
behind_or {A} {L} {M} l m = record { split = go }
  where
    go : (w : List Lexeme) (x : A) → L w x ⊎ M w x → (t : Lexeme) × (v : List Lexeme) × (w ≡ t ∷ v) × Free m_word v
    go w x (inl h) = l.split w x h
    go w x (inr h) = m.split w x h

const_b : (s : Scope) → Behind (in_scope const_item s)
unfolding const_item
const_b s = behind_token _ _ (λ t. tn _ (type_l s) (λ ty. tn _ name_l (λ x. tn _ (optional_lacks m_word (tn _ (tl (K.Symbol S.Equal) refl) (λ u. el s))) (λ v. tn _ (tl (K.Symbol S.Semicolon) refl) (λ w. gl _)))))

global_b : (s : Scope) → Behind (in_scope global_item s)
unfolding global_item
global_b s = behind_token _ _ (λ t. var_l s)

formula_b : (s : Scope) → Behind (in_scope formula_item s)
unfolding formula_item
formula_b s = behind_token _ _ (λ t. tn _ name_l (λ x. tn _ (tl (K.Symbol S.Equal) refl) (λ u. tn _ (el s) (λ e. tn _ (tl (K.Symbol S.Semicolon) refl) (λ w. gl _)))))

label_b : (s : Scope) → Behind (in_scope label_item s)
unfolding label_item
label_b s = behind_token _ _ (λ t. tn _ quoted_l (λ x. tn _ (tl (K.Symbol S.Equal) refl) (λ u. tn _ (el s) (λ e. tn _ (tl (K.Symbol S.Semicolon) refl) (λ w. gl _)))))

rewards_b : (s : Scope) → Behind (in_scope rewards_item s)
unfolding rewards_item
rewards_b s = behind_token _ _ (λ t. tn _ (optional_lacks m_word quoted_l) (λ x. tn _ (many_lacks m_word (reward_l s)) (λ is. tn _ (tl (K.Word W.Endrewards) refl) (λ u. gl _))))

module_b : (s : Scope) → Behind (in_scope module_item s)
unfolding module_item body copy
module_b s =
    behind_token _ _ (λ t. tn _ name_l (λ x. tn _
    (or_lacks m_word (tn _ (many_lacks m_word (var_l s)) (λ vs. tn _ (many_lacks m_word (command_l s)) (λ cs. gl _)))
    (tn _ (tl (K.Symbol S.Equal) refl) (λ u. tn _ name_l (λ y. tn _ (tl (K.Symbol S.LeftBracket) refl) (λ v. tn _ (pair_l s) (λ p. tn _ (folding_lacks m_word with_last (p ∷ []) (tn _ (tl (K.Symbol S.Comma) refl) (λ c. pair_l s)))
    (λ ps. tn _ (tl (K.Symbol S.RightBracket) refl) (λ w. gl _))))))))
    (λ m. tn _ (tl (K.Word W.Endmodule) refl) (λ u. gl _))))

pub section_b : (s : Scope) → Behind (in_scope section s)
unfolding section
section_b s =
    behind_or (behind_gives _ (const_b s)) (behind_or (behind_gives _ (global_b s)) (behind_or (behind_gives _ (formula_b s))
    (behind_or (behind_gives _ (module_b s)) (behind_or (behind_gives _ (label_b s)) (behind_gives _ (rewards_b s))))))

pub init_b : (s : Scope) → Behind (in_scope init_item s)
unfolding init_item
init_b s = behind_token _ _ (λ t. tn _ (el s) (λ e. tn _ (tl (K.Word W.Endinit) refl) (λ u. gl _)))

-- ---- each word of an item begins one

begins_word : {A : Type 0} (k : TokenKind) (M : Lexeme → Lang A) (t : Lexeme) → ((u : Lexeme) → HasWord (M u)) → t.kind ≡ k → Begins (token k >>= M) (t ∷ [])
unfolding token ◌>>=◌
begins_word k M t word e = let n = word t in (n.0, n.1, (t, t ∷ [], n.0, refl, (refl, e), n.2))

begins_gives : {A B : Type 0} (L : Lang A) (f : A → B) (u : List Lexeme) → Begins L u → Begins (L >>= λ x. gives (f x)) u
unfolding gives ◌>>=◌
begins_gives L f u b = (b.0, f b.1, (b.1, u ++ b.0, [], sym (append-nil (u ++ b.0)), b.2, (refl, refl)))

begins_left : {A : Type 0} (L M : Lang A) (u : List Lexeme) → Begins L u → Begins (L or M) u
unfolding ◌or◌
begins_left L M u b = (b.0, b.1, inl b.2)

begins_right : {A : Type 0} (L M : Lang A) (u : List Lexeme) → Begins M u → Begins (L or M) u
unfolding ◌or◌
begins_right L M u b = (b.0, b.1, inr b.2)

const_begins : (s : Scope) (t : Lexeme) → t.kind ≡ K.Word W.Const → Begins (in_scope const_item s) (t ∷ [])
unfolding const_item
const_begins s t e = begins_word _ _ t (λ u. then_word (type_word s) (λ ty. then_word name_word (λ x. then_word (optional_word _) (λ v. then_word (token_word _) (λ w. gives_word _))))) e

global_begins : (s : Scope) (t : Lexeme) → t.kind ≡ K.Word W.Global → Begins (in_scope global_item s) (t ∷ [])
unfolding global_item
global_begins s t e = begins_word _ _ t (λ u. var_word s) e

formula_begins : (s : Scope) (t : Lexeme) → t.kind ≡ K.Word W.Formula → Begins (in_scope formula_item s) (t ∷ [])
unfolding formula_item
formula_begins s t e = begins_word _ _ t (λ u. then_word name_word (λ x. then_word (token_word _) (λ v. then_word (expressions_word s) (λ f. then_word (token_word _) (λ w. gives_word _))))) e

label_begins : (s : Scope) (t : Lexeme) → t.kind ≡ K.Word W.Label → Begins (in_scope label_item s) (t ∷ [])
unfolding label_item
label_begins s t e = begins_word _ _ t (λ u. then_word quoted_word (λ x. then_word (token_word _) (λ v. then_word (expressions_word s) (λ f. then_word (token_word _) (λ w. gives_word _))))) e

rewards_begins : (s : Scope) (t : Lexeme) → t.kind ≡ K.Word W.Rewards → Begins (in_scope rewards_item s) (t ∷ [])
unfolding rewards_item
rewards_begins s t e = begins_word _ _ t (λ u. then_word (optional_word _) (λ x. then_word (many_word _) (λ is. then_word (token_word _) (λ w. gives_word _)))) e

module_begins : (s : Scope) (t : Lexeme) → t.kind ≡ K.Word W.Module → Begins (in_scope module_item s) (t ∷ [])
unfolding module_item body
module_begins s t e =
    begins_word _ _ t (λ u. then_word name_word (λ x. then_word (or_word _ _ (then_word (many_word _) (λ vs. then_word (many_word _) (λ cs. gives_word _)))) (λ m. then_word (token_word _) (λ w. gives_word _)))) e

pub init_begins : (s : Scope) (t : Lexeme) → is_kind (K.Word W.Init) t.kind ≡ true → Begins (in_scope init_item s) (t ∷ [])
unfolding init_item
init_begins s t e = begins_word _ _ t (λ u. then_word (expressions_word s) (λ f. then_word (token_word _) (λ w. gives_word _))) (same_is t.kind _ e)

pub section_begins : (s : Scope) (t : Lexeme) → is_item t.kind ≡ true → Begins (in_scope section s) (t ∷ [])
unfolding section
section_begins s t e = const_or (is_kind (K.Word W.Const) t.kind) refl e
  where
    kind_is : (j : TokenKind) → is_kind j t.kind ≡ true → t.kind ≡ j
    kind_is j h = same_is t.kind j h

    label_or : (b : Bool) → is_kind (K.Word W.Label) t.kind ≡ b → (b || is_kind (K.Word W.Rewards) t.kind) ≡ true → Begins (R_label s) (t ∷ [])
    label_or true h f = begins_left (A_label s) (A_rewards s) (t ∷ []) (begins_gives (in_scope label_item s) a_label (t ∷ []) (label_begins s t (kind_is (K.Word W.Label) h)))
    label_or false h f = begins_right (A_label s) (A_rewards s) (t ∷ []) (begins_gives (in_scope rewards_item s) a_rewards (t ∷ []) (rewards_begins s t (kind_is (K.Word W.Rewards) f)))

    module_or : (b : Bool) → is_kind (K.Word W.Module) t.kind ≡ b → (b || label_on t.kind) ≡ true → Begins (R_module s) (t ∷ [])
    module_or true h f = begins_left (A_module s) (R_label s) (t ∷ []) (begins_gives (in_scope module_item s) a_module (t ∷ []) (module_begins s t (kind_is (K.Word W.Module) h)))
    module_or false h f = begins_right (A_module s) (R_label s) (t ∷ []) (label_or (is_kind (K.Word W.Label) t.kind) refl f)

    formula_or : (b : Bool) → is_kind (K.Word W.Formula) t.kind ≡ b → (b || module_on t.kind) ≡ true → Begins (R_formula s) (t ∷ [])
    formula_or true h f = begins_left (A_formula s) (R_module s) (t ∷ []) (begins_gives (in_scope formula_item s) a_formula (t ∷ []) (formula_begins s t (kind_is (K.Word W.Formula) h)))
    formula_or false h f = begins_right (A_formula s) (R_module s) (t ∷ []) (module_or (is_kind (K.Word W.Module) t.kind) refl f)

    global_or : (b : Bool) → is_kind (K.Word W.Global) t.kind ≡ b → (b || formula_on t.kind) ≡ true → Begins (R_global s) (t ∷ [])
    global_or true h f = begins_left (A_global s) (R_formula s) (t ∷ []) (begins_gives (in_scope global_item s) a_global (t ∷ []) (global_begins s t (kind_is (K.Word W.Global) h)))
    global_or false h f = begins_right (A_global s) (R_formula s) (t ∷ []) (formula_or (is_kind (K.Word W.Formula) t.kind) refl f)

    const_or : (b : Bool) → is_kind (K.Word W.Const) t.kind ≡ b → (b || global_on t.kind) ≡ true → Begins (A_const s or R_global s) (t ∷ [])
    const_or true h f = begins_left (A_const s) (R_global s) (t ∷ []) (begins_gives (in_scope const_item s) a_const (t ∷ []) (const_begins s t (kind_is (K.Word W.Const) h)))
    const_or false h f = begins_right (A_const s) (R_global s) (t ∷ []) (global_or (is_kind (K.Word W.Global) t.kind) refl f)
