-- The productions of properties files: each is read in one way, and has a word and a first token; and their alternatives.
use Rattle.std.proofs.Common.{◌≡◌, ℕ, ◌<◌, arith, Bool, true, false, Option, Some, None, refl, ap, ◌∙◌, inl, inr}
use Rattle.std.specs.Prelude.{◌⊎◌}
use Rattle.bridge_io.specs.declared.reason.Named.{Named}
use Rattle.prism_lex.specs.declared.token.TokenKind.{TokenKind}
use Rattle.prism_lex.specs.declared.token.TokenKind.TheVariants as K
use Rattle.prism_lex.specs.declared.words.Reserved.{Reserved}
use Rattle.prism_lex.specs.declared.words.Reserved.TheVariants as W
use Rattle.prism_lex.specs.declared.symbols.Symbol.TheVariants as S
use Rattle.prism_tree.specs.Syntax.{Expression}
use Rattle.prism_tree.specs.Lang.{Lang, token, gives, ◌>>=◌, ◌or◌}
use Rattle.prism_exprs.specs.Reading.{none, same_kind}
use Rattle.prism_exprs.specs.Levels.{begins_prim, goes_on, CanBegin, operand_itself, minus_sign, not_sign}
use Rattle.prism_exprs.specs.Scope.{Scope, expressions}
use Rattle.prism_exprs.proofs.Laws.{IsOne, HasWord, IsClear, Follows, token_follows, token_clear, gives_clear, then_one, then_word, step_one, token_one, token_word}
use Rattle.prism_exprs.proofs.Choice.{Opens, token_opens, then_opens, or_opens, or_one, or_word, opens_follows}
use Rattle.prism_exprs.proofs.Exprs.{gives_follows, one_within}
use Rattle.prism_exprs.proofs.Outer.{expressions_one, expressions_word, expressions_opens}
use Rattle.prism_items.proofs.Closing.{differ, either_way, closed_one, closed_word}
use Rattle.prop_grammar.specs.declared.syntax.Structure.{Structure}
use Rattle.prism_items.specs.Parts.{closed_by}
use Rattle.prop_grammar.specs.Property.{Ask, bounded, Path, finally, globally, weak_until}
use Rattle.prop_grammar.specs.Grammar
use Rattle.prop_reader.specs.Parts
use Rattle.prop_reader.specs.Parts.{in_scope, asking, opens}
use Rattle.prop_reader.proofs.Single.{title_one, title_word, title_opens, comparison_one, comparison_word}
use Rattle.prop_reader.proofs.Bounding.{bound_one, bound_word, within_one, within_word}

-- What is known of a production: it is read in one way before what does not go on with it, and it has a word, and its words open with
-- these kinds.
pub record IsPart {A : Type 0} (L : Lang A) (more : TokenKind → Bool) (P : TokenKind → Type 0) : Type 0 where
  pub one : IsOne L more
  pub word : HasWord L
  pub opens : Opens L P

pub clear : {A : Type 0} {L : Lang A} {more : TokenKind → Bool} {P : TokenKind → Type 0} → IsPart L more P → IsClear L more
clear p = record { unique = p.one; word = p.word }

-- ---- the shapes of productions

pub token_part : (k : TokenKind) → IsPart (token k) none (λ j. j ≡ k)
token_part k = record { one = token_one k; word = token_word k; opens = token_opens k }

-- a part that nothing goes on with, and then others
pub step_part : {A B : Type 0} {L : Lang A} {M : A → Lang B} {more : TokenKind → Bool} {P : TokenKind → Type 0} → IsPart L none P → ((x : A) → IsClear (M x) more) → IsPart (L >>= M) more P
step_part {M = M} {P = P} p q = record { one = step_one M p.one (λ x. (q x).unique); word = then_word p.word (λ x. (q x).word); opens = then_opens M P p.opens }

-- a part that the others do not go on with
pub then_part : {A B : Type 0} {L : Lang A} {M : A → Lang B} (m : TokenKind → Bool) {more : TokenKind → Bool} {P : TokenKind → Type 0} → IsPart L m P → ((x : A) → IsClear (M x) more) → Follows m M more → IsPart (L >>= M) more P
then_part {M = M} m {P = P} p q f = record { one = then_one m p.one (λ x. (q x).unique) f; word = then_word p.word (λ x. (q x).word); opens = then_opens M P p.opens }

-- one part alone, with a value made of its own
pub last_part : {A B : Type 0} {L : Lang A} {m : TokenKind → Bool} {P : TokenKind → Type 0} (f : A → B) → IsPart L m P → IsPart (L >>= λ x. gives (f x)) m P
last_part {m = m} f p = then_part m p (λ x. gives_clear (f x) m) (gives_follows f m)

-- alternatives that open with other kinds
pub or_part : {A : Type 0} {L M : Lang A} {more : TokenKind → Bool} {P Q : TokenKind → Type 0} → IsPart L more P → IsPart M more Q → ((k : TokenKind) → P k → Q k → ⊥) → IsPart (L or M) more (λ k. P k ⊎ Q k)
or_part {L = L} {M = M} {P = P} {Q = Q} p q apart = record { one = or_one P Q p.opens q.opens apart p.one q.one; word = or_word L M p.word; opens = or_opens P Q p.opens q.opens }

-- what nothing goes on with, before more that may follow
pub wider : {A : Type 0} {L : Lang A} {more : TokenKind → Bool} {P : TokenKind → Type 0} → IsPart L none P → IsPart L more P
wider p = record { one = one_within (λ k h. refl) p.one; word = p.word; opens = p.opens }

-- the same behind the first part
clear_step : {A B : Type 0} {L : Lang A} {M : A → Lang B} {more : TokenKind → Bool} → IsClear L none → ((x : A) → IsClear (M x) more) → IsClear (L >>= M) more
clear_step {M = M} p q = record { unique = step_one M p.unique (λ x. (q x).unique); word = then_word p.word (λ x. (q x).word) }

clear_then : {A B : Type 0} {L : Lang A} {M : A → Lang B} (m : TokenKind → Bool) {more : TokenKind → Bool} → IsClear L m → ((x : A) → IsClear (M x) more) → Follows m M more → IsClear (L >>= M) more
clear_then m p q f = record { unique = then_one m p.unique (λ x. (q x).unique) f; word = then_word p.word (λ x. (q x).word) }

clear_last : {A B : Type 0} {L : Lang A} {m : TokenKind → Bool} (f : A → B) → IsClear L m → IsClear (L >>= λ x. gives (f x)) m
clear_last {m = m} f p = clear_then m p (λ x. gives_clear (f x) m) (gives_follows f m)

-- a part, and the token that closes it
closed_clear : {A : Type 0} {L : Lang A} {m : TokenKind → Bool} (k : TokenKind) → IsClear L m → m k ≡ false → IsClear (closed_by k L) none
closed_clear {m = m} k p e = record { unique = closed_one k m p.unique e; word = closed_word k p.word }

clear_token : (k : TokenKind) → IsClear (token k) none
clear_token k = token_clear k none

-- ---- tokens and expressions

pub question : IsClear Grammar.question none
unfolding Grammar.question
question = clear_step (clear_token _) (λ t. clear_step (clear_token _) (λ u. gives_clear tt none))

pub asks : (r : Reserved) → IsPart (Grammar.asks r) none (λ k. k ≡ K.Word r)
unfolding Grammar.asks
asks r = step_part (token_part _) (λ t. clear_step question (λ q. gives_clear t none))

pub title : IsPart Grammar.title none (λ k. k ≡ K.Ident)
title = record { one = title_one; word = title_word; opens = title_opens }

pub comparison : IsClear Grammar.comparison none
comparison = record { unique = comparison_one; word = comparison_word }

expression : (s : Scope) → IsPart (expressions s) goes_on (CanBegin 10)
expression s = record { one = expressions_one s; word = expressions_word s; opens = expressions_opens s }

pub bound : (s : Scope) → IsClear (in_scope Grammar.bound s) opens
bound s = record { unique = bound_one s; word = bound_word s }

within : (s : Scope) → IsClear (in_scope Grammar.within s) goes_on
within s = record { unique = within_one s; word = within_word s }

-- What an expression begins with is none of these.
pub expression_apart : (kind : TokenKind) → begins_prim kind ≡ false → same_kind (K.Symbol S.Minus) kind ≡ false → same_kind (K.Symbol S.Not) kind ≡ false → same_kind kind kind ≡ true → (k : TokenKind) → CanBegin 10 k → k ≡ kind → ⊥
expression_apart kind b m n same k (operand_itself h) e = let f : begins_prim k ≡ false = ap begins_prim e ∙ b in absurd cc
expression_apart kind b m n same k (minus_sign lt h) e = differ (K.Symbol S.Minus) kind same m k h e
expression_apart kind b m n same k (not_sign lt h) e = differ (K.Symbol S.Not) kind same n k h e

-- ---- targets

pub near_target : (s : Scope) → IsPart (in_scope Grammar.near_target s) goes_on (λ k. k ≡ K.Symbol S.AtMost)
unfolding Grammar.near_target
near_target s = step_part (token_part _) (λ t. clear_last (λ p. (Some p.0, p.1)) (within s))

pub any_target : (s : Scope) → IsPart (in_scope Grammar.any_target s) goes_on (CanBegin 10)
unfolding Grammar.any_target
any_target s = last_part (λ e. (None, e)) (expression s)

pub target : (s : Scope) → IsPart (in_scope Grammar.target s) goes_on (λ k. (k ≡ K.Symbol S.AtMost) ⊎ CanBegin 10 k)
unfolding Grammar.target
target s = or_part (near_target s) (any_target s) (λ k e p. expression_apart (K.Symbol S.AtMost) refl refl refl refl k p e)

-- ---- paths

pub eventually : (s : Scope) → IsPart (in_scope Grammar.eventually s) goes_on (λ k. k ≡ K.Word W.FWord)
unfolding Grammar.eventually
eventually s = step_part (token_part _) (λ t. clear_last (λ p. Grammar.finally_by p.0 p.1) (clear (target s)))

pub always : (s : Scope) → IsPart (in_scope Grammar.always s) goes_on (λ k. k ≡ K.Word W.GWord)
unfolding Grammar.always
always s = step_part (token_part _) (λ t. clear_last (λ e. globally e) (clear (expression s)))

pub reach : (s : Scope) → IsPart (in_scope Grammar.reach s) goes_on (λ k. k ≡ K.Word W.FWord)
unfolding Grammar.reach
reach s = step_part (token_part _) (λ t. clear_last (λ e. finally e) (clear (expression s)))

pub strong_after : (s : Scope) (a : Expression) → IsPart (in_scope (λ E B. Grammar.strong_after E B a) s) goes_on (λ k. k ≡ K.Word W.UWord)
unfolding Grammar.strong_after
strong_after s a = step_part (token_part _) (λ t. clear_last (λ p. Grammar.until_by a p.0 p.1) (clear (target s)))

pub weak_after : (s : Scope) (a : Expression) → IsPart (in_scope (λ E B. Grammar.weak_after E B a) s) goes_on (λ k. k ≡ K.Word W.WWord)
unfolding Grammar.weak_after
weak_after s a = step_part (token_part _) (λ t. clear_last (λ e. weak_until a e) (clear (expression s)))

pub after : (s : Scope) (a : Expression) → IsPart (in_scope (λ E B. Grammar.after E B a) s) goes_on (λ k. (k ≡ K.Word W.UWord) ⊎ (k ≡ K.Word W.WWord))
unfolding Grammar.after
after s a = or_part (strong_after s a) (weak_after s a) (λ k e f. differ (K.Word W.UWord) (K.Word W.WWord) refl refl k e f)

-- The kinds that stand behind an expression in a path do not go on with it.
after_ends : (k : TokenKind) → (k ≡ K.Word W.UWord) ⊎ (k ≡ K.Word W.WWord) → goes_on k ≡ false
after_ends k (inl e) = ap goes_on e
after_ends k (inr e) = ap goes_on e

pub after_follows : (s : Scope) → Follows goes_on (λ a. in_scope (λ E B. Grammar.after E B a) s) goes_on
after_follows s = opens_follows goes_on goes_on (λ a. (after s a).opens) after_ends

abbrev pub until_path : Scope → Lang (Path Expression)
until_path s = expressions s >>= λ a. in_scope (λ E B. Grammar.after E B a) s

pub until : (s : Scope) → IsPart (until_path s) goes_on (CanBegin 10)
until s = then_part goes_on (expression s) (λ a. clear (after s a)) (after_follows s)

pub no_f : (k : TokenKind) → k ≡ K.Word W.FWord → (k ≡ K.Word W.GWord) ⊎ CanBegin 10 k → ⊥
no_f k e (inl f) = differ (K.Word W.FWord) (K.Word W.GWord) refl refl k e f
no_f k e (inr p) = expression_apart (K.Word W.FWord) refl refl refl refl k p e

pub always_or_until : (s : Scope) → IsPart (in_scope Grammar.always s or until_path s) goes_on (λ k. (k ≡ K.Word W.GWord) ⊎ CanBegin 10 k)
always_or_until s = or_part (always s) (until s) (λ k e p. expression_apart (K.Word W.GWord) refl refl refl refl k p e)

pub path : (s : Scope) → IsPart (in_scope Grammar.path s) goes_on (λ k. (k ≡ K.Word W.FWord) ⊎ ((k ≡ K.Word W.GWord) ⊎ CanBegin 10 k))
unfolding Grammar.path
path s = or_part (eventually s) (always_or_until s) no_f

-- ---- paths between brackets

pub bracketed_path : (s : Scope) → IsPart (in_scope Parts.bracketed_path s) none (λ k. k ≡ K.Symbol S.LeftBracket)
bracketed_path s = step_part (token_part _) (λ t. closed_clear _ (clear (path s)) refl)

pub bracketed_reach : (s : Scope) → IsPart (in_scope Parts.bracketed_reach s) none (λ k. k ≡ K.Symbol S.LeftBracket)
bracketed_reach s = step_part (token_part _) (λ t. closed_clear _ (clear (reach s)) refl)

pub asking_path : (s : Scope) (n : Option Named) (a : Ask Expression Structure) → IsPart (asking n (in_scope Parts.bracketed_path s) a) none (λ k. k ≡ K.Symbol S.LeftBracket)
asking_path s n a = step_part (bracketed_path s) (λ p. gives_clear _ none)

pub asking_reach : (s : Scope) (n : Option Named) (a : Ask Expression Structure) → IsPart (asking n (in_scope Parts.bracketed_reach s) a) none (λ k. k ≡ K.Symbol S.LeftBracket)
asking_reach s n a = step_part (bracketed_reach s) (λ p. gives_clear _ none)

-- A bracket does not go on with a bound.
pub asking_follows : (s : Scope) (n : Option Named) → Follows opens (asking n (in_scope Parts.bracketed_path s)) none
asking_follows s n = opens_follows opens none (λ a. (asking_path s n a).opens) (λ k e. ap opens e)

pub closed_title : IsClear (closed_by (K.Symbol S.RightBrace) Grammar.title) none
closed_title = closed_clear _ (clear title) refl

pub closed_path_word : (s : Scope) → HasWord (in_scope (λ E B. Parts.bracket_behind (Grammar.path E B)) s)
closed_path_word s = closed_word _ (path s).word

pub closed_reach_word : (s : Scope) → HasWord (in_scope (λ E B. Parts.bracket_behind (Grammar.reach E B)) s)
closed_reach_word s = closed_word _ (reach s).word

pub closed_after_word : (s : Scope) (a : Expression) → HasWord (in_scope (λ E B. Parts.bracket_behind (Grammar.after E B a)) s)
closed_after_word s a = closed_word _ (after s a).word

pub closed_after_follows : (s : Scope) → Follows goes_on (λ a. in_scope (λ E B. Parts.bracket_behind (Grammar.after E B a)) s) none
unfolding closed_by
closed_after_follows s = opens_follows goes_on none (λ a. then_opens _ _ (after s a).opens) after_ends

-- ---- what is asked of probabilities

pub highest : (s : Scope) → IsPart (in_scope Grammar.highest s) none (λ k. k ≡ K.Word W.Pmax)
unfolding Grammar.highest
highest s = step_part (asks W.Pmax) (λ t. gives_clear _ none)

pub lowest : (s : Scope) → IsPart (in_scope Grammar.lowest s) none (λ k. k ≡ K.Word W.Pmin)
unfolding Grammar.lowest
lowest s = step_part (asks W.Pmin) (λ t. gives_clear _ none)

pub compared_probability : (s : Scope) → IsPart (in_scope Grammar.compared_probability s) opens (λ k. k ≡ K.Word W.PWord)
unfolding Grammar.compared_probability
compared_probability s = step_part (token_part _) (λ t. clear_step comparison (λ c. clear_last (λ p. bounded c p) (bound s)))

pub lower_probability : (s : Scope) → IsPart (in_scope Grammar.lower_probability s) opens (λ k. (k ≡ K.Word W.Pmin) ⊎ (k ≡ K.Word W.PWord))
unfolding Grammar.lower_probability
lower_probability s = or_part (wider (lowest s)) (compared_probability s) (differ (K.Word W.Pmin) (K.Word W.PWord) refl refl)

abbrev pub BeginsProbability : TokenKind → Type 0
BeginsProbability k = (k ≡ K.Word W.Pmax) ⊎ ((k ≡ K.Word W.Pmin) ⊎ (k ≡ K.Word W.PWord))

pub no_pmax : (k : TokenKind) → k ≡ K.Word W.Pmax → (k ≡ K.Word W.Pmin) ⊎ (k ≡ K.Word W.PWord) → ⊥
no_pmax k = either_way (differ (K.Word W.Pmax) (K.Word W.Pmin) refl refl k) (differ (K.Word W.Pmax) (K.Word W.PWord) refl refl k)

pub probability : (s : Scope) → IsPart (in_scope Grammar.probability s) opens BeginsProbability
unfolding Grammar.probability
probability s = or_part (wider (highest s)) (lower_probability s) no_pmax

-- ---- what is asked of rewards

pub most_of : (s : Scope) (r : Structure) → IsPart (in_scope (λ E B. Grammar.most_of E B r) s) none (λ k. k ≡ K.Word W.Max)
unfolding Grammar.most_of
most_of s r = step_part (asks W.Max) (λ t. gives_clear _ none)

pub least_of : (s : Scope) (r : Structure) → IsPart (in_scope (λ E B. Grammar.least_of E B r) s) none (λ k. k ≡ K.Word W.Min)
unfolding Grammar.least_of
least_of s r = step_part (asks W.Min) (λ t. gives_clear _ none)

pub of_structure : (s : Scope) (r : Structure) → IsPart (in_scope (λ E B. Grammar.of_structure E B r) s) none (λ k. (k ≡ K.Word W.Max) ⊎ (k ≡ K.Word W.Min))
unfolding Grammar.of_structure
of_structure s r = or_part (most_of s r) (least_of s r) (differ (K.Word W.Max) (K.Word W.Min) refl refl)

pub highest_reward : (s : Scope) → IsPart (in_scope Grammar.highest_reward s) none (λ k. k ≡ K.Word W.Rmax)
unfolding Grammar.highest_reward
highest_reward s = step_part (asks W.Rmax) (λ t. gives_clear _ none)

pub lowest_reward : (s : Scope) → IsPart (in_scope Grammar.lowest_reward s) none (λ k. k ≡ K.Word W.Rmin)
unfolding Grammar.lowest_reward
lowest_reward s = step_part (asks W.Rmin) (λ t. gives_clear _ none)

pub named_reward : (s : Scope) → IsPart (in_scope Grammar.named_reward s) none (λ k. k ≡ K.Word W.RWord)
unfolding Grammar.named_reward
named_reward s = step_part (token_part _) (λ t. clear_step (clear_token _) (λ l. clear_step (clear title) (λ x. clear_step (clear_token _) (λ r. clear (of_structure s (Grammar.called x))))))

pub lower_reward : (s : Scope) → IsPart (in_scope Grammar.lower_reward s) none (λ k. (k ≡ K.Word W.Rmin) ⊎ (k ≡ K.Word W.RWord))
unfolding Grammar.lower_reward
lower_reward s = or_part (lowest_reward s) (named_reward s) (differ (K.Word W.Rmin) (K.Word W.RWord) refl refl)

abbrev pub BeginsReward : TokenKind → Type 0
BeginsReward k = (k ≡ K.Word W.Rmax) ⊎ ((k ≡ K.Word W.Rmin) ⊎ (k ≡ K.Word W.RWord))

pub no_rmax : (k : TokenKind) → k ≡ K.Word W.Rmax → (k ≡ K.Word W.Rmin) ⊎ (k ≡ K.Word W.RWord) → ⊥
no_rmax k = either_way (differ (K.Word W.Rmax) (K.Word W.Rmin) refl refl k) (differ (K.Word W.Rmax) (K.Word W.RWord) refl refl k)

pub reward : (s : Scope) → IsPart (in_scope Grammar.reward s) none BeginsReward
unfolding Grammar.reward
reward s = or_part (highest_reward s) (lower_reward s) no_rmax

pub asked_of_word : (s : Scope) (n : Option Named) (x : Named) → HasWord (in_scope (λ E B. Parts.asked_of n (Grammar.of_structure E B (Grammar.called x)) E B) s)
asked_of_word s n x = then_word (of_structure s (Grammar.called x)).word (λ a. (asking_reach s n a).word)

-- ---- queries

-- the words that ask of probabilities, those that ask of rewards, and titles
abbrev pub asked : TokenKind → ℕ
asked (K.Word W.Pmax) = 1
asked (K.Word W.Pmin) = 1
asked (K.Word W.PWord) = 1
asked (K.Word W.Rmax) = 2
asked (K.Word W.Rmin) = 2
asked (K.Word W.RWord) = 2
asked K.Ident = 3
asked k = 0

probability_asked : (k : TokenKind) → BeginsProbability k → asked k ≡ 1
probability_asked k (inl e) = ap asked e
probability_asked k (inr (inl e)) = ap asked e
probability_asked k (inr (inr e)) = ap asked e

reward_asked : (k : TokenKind) → BeginsReward k → asked k ≡ 2
reward_asked k (inl e) = ap asked e
reward_asked k (inr (inl e)) = ap asked e
reward_asked k (inr (inr e)) = ap asked e

pub queries_apart : (k : TokenKind) → BeginsProbability k → BeginsReward k → ⊥
queries_apart k p r = let a = probability_asked k p in let b = reward_asked k r in absurd (omega (arith, a, b))

pub BeginsQuery : TokenKind → Type 0
BeginsQuery k = BeginsProbability k ⊎ BeginsReward k

pub no_name : (k : TokenKind) → k ≡ K.Ident → BeginsQuery k → ⊥
unfolding BeginsQuery
no_name k e (inl p) = let a = probability_asked k p in let b = ap asked e in absurd (omega (arith, a, b))
no_name k e (inr r) = let a = reward_asked k r in let b = ap asked e in absurd (omega (arith, a, b))

pub probability_query : (s : Scope) (n : Option Named) → IsPart (in_scope (λ E B. Grammar.probability_query E B n) s) none BeginsProbability
unfolding Grammar.probability_query
probability_query s n =
    then_part opens (probability s) (λ a. clear_step (clear_token _) (λ l. clear_then goes_on (clear (path s)) (λ p. clear_step (clear_token _) (λ r. gives_clear _ none)) (token_follows goes_on (K.Symbol S.RightBracket) _ none refl)))
    (token_follows opens (K.Symbol S.LeftBracket) _ none refl)

pub reward_query : (s : Scope) (n : Option Named) → IsPart (in_scope (λ E B. Grammar.reward_query E B n) s) none BeginsReward
unfolding Grammar.reward_query
reward_query s n = step_part (reward s) (λ a. clear_step (clear_token _) (λ l. clear_then goes_on (clear (reach s)) (λ p. clear_step (clear_token _) (λ r. gives_clear _ none)) (token_follows goes_on (K.Symbol S.RightBracket) _ none refl)))

pub query : (s : Scope) (n : Option Named) → IsPart (in_scope (λ E B. Grammar.query E B n) s) none BeginsQuery
unfolding Grammar.query BeginsQuery
query s n = or_part (probability_query s n) (reward_query s n) queries_apart

pub titled_query : (s : Scope) → IsPart (in_scope Grammar.titled_query s) none (λ k. k ≡ K.Ident)
unfolding Grammar.titled_query
titled_query s = step_part title (λ x. clear_step (clear_token _) (λ t. clear (query s (Some x))))

pub BeginsTitled : TokenKind → Type 0
BeginsTitled k = BeginsQuery k ⊎ (k ≡ K.Ident)

pub titled : (s : Scope) → IsPart (in_scope Grammar.titled s) none BeginsTitled
unfolding Grammar.titled BeginsTitled
titled s = or_part (query s None) (titled_query s) (λ k q e. no_name k e q)

pub titled_asked : (k : TokenKind) → BeginsTitled k → 0 < asked k
unfolding BeginsTitled BeginsQuery
titled_asked k (inl (inl p)) = let n = probability_asked k p in omega (arith, n)
titled_asked k (inl (inr p)) = let n = reward_asked k p in omega (arith, n)
titled_asked k (inr e) = let n = ap asked e in omega (arith, n)
