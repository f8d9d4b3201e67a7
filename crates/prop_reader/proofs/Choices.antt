-- Which alternative the next token begins.
use Rattle.std.proofs.Common.{◌≡◌, ℕ, Bool, true, false, List, ◌∷◌, Option, Some, None, refl, sym, ap, subst, ◌∙◌, inl, inr}
use Rattle.std.proofs.lemmas.Bool.{or_cases}
use Rattle.std.specs.Prelude.{◌⊎◌, ◌||◌, ◌&&◌, is_some, if◌then◌else◌}
use Rattle.bridge_io.specs.declared.reason.Named.{Named}
use Rattle.prism_lex.specs.declared.token.TokenKind.{TokenKind}
use Rattle.prism_lex.specs.declared.token.TokenKind.TheVariants as K
use Rattle.prism_lex.specs.declared.words.Reserved.{Reserved}
use Rattle.prism_lex.specs.declared.words.Reserved.TheVariants as W
use Rattle.prism_lex.specs.declared.symbols.Symbol.TheVariants as S
use Rattle.prism_lex.specs.Tokens.{Lexeme}
use Rattle.prism_tree.specs.Syntax.{Expression}
use Rattle.prism_tree.specs.Lang.{Lang, gives, ◌or◌, ◌>>=◌}
use Rattle.prism_tree.specs.Grammar.{symbol, word}
use Rattle.prism_exprs.proofs.Furthest.{or_then}
use Rattle.prism_items.specs.Parts.{closed_by}
use Rattle.prism_exprs.proofs.Grouping.{same_trans, same_sym, assoc, same_then, gives_then}
use Rattle.prism_exprs.specs.Reading.{none, Reads, starts, is_kind, same_kind}
use Rattle.prism_exprs.specs.Levels.{goes_on, CanBegin}
use Rattle.prism_exprs.specs.Scope.{Scope, expressions}
use Rattle.prism_exprs.proofs.Laws.{none_follows}
use Rattle.prism_exprs.proofs.Choice.{Same, Opens, then_opens, then_barred}
use Rattle.prism_exprs.proofs.Loops.{starts_cons, same_is}
use Rattle.prism_items.proofs.Leading.{Leads, leads_on, same_leads, or_left, or_right, opens_barred}
use Rattle.prism_items.proofs.Closing.{differ, closed-same}
use Rattle.prism_items.proofs.Choosing.{not_here, opens_off}
use Rattle.prop_grammar.specs.declared.syntax.Structure.{Structure}
use Rattle.prop_grammar.specs.Property.{Ask, greatest, least, greatest_reward, least_reward, Path}
use Rattle.prop_grammar.specs.Syntax.{WrittenProperty}
use Rattle.prop_grammar.specs.Grammar
use Rattle.prop_grammar.specs.Grammar.{title, title_of, title_text, is_name, has_quotes}
use Rattle.prop_reader.specs.Parts.{in_scope, bracket_behind, bracketed_path, bracketed_reach, asking, begins_reward, means}
use Rattle.prop_reader.proofs.Single.{no_title, token_with_barred}
use Rattle.prop_reader.proofs.Pieces

-- This kind stands next, with which M does not begin.
pub left_at : {A : Type 0} (L M : Lang A) (P : TokenKind → Type 0) (m : TokenKind → Bool) (kind : TokenKind) (ts : List Lexeme) → Opens M P → ((k : TokenKind) → k ≡ kind → P k → ⊥) → starts (is_kind kind) ts ≡ true → Leads m (L or M) ts L ts
left_at L M P m kind ts o apart e = or_left L M m ts (opens_off M P m kind ts o apart e)

-- The kind with which L begins does not stand next.
pub right_not : {A : Type 0} (L M : Lang A) (m : TokenKind → Bool) (kind : TokenKind) (ts : List Lexeme) → Opens L (λ k. k ≡ kind) → same_kind kind kind ≡ true → starts (is_kind kind) ts ≡ false → Leads m (L or M) ts M ts
right_not L M m kind ts o same e = or_right L M m ts (not_here L m kind ts o same e)

-- ---- targets and paths

pub near : (s : Scope) (ts : List Lexeme) → starts (is_kind (K.Symbol S.AtMost)) ts ≡ true → Leads goes_on (in_scope Grammar.target s) ts (in_scope Grammar.near_target s) ts
unfolding Grammar.target
near s ts e = left_at _ _ (CanBegin 10) goes_on (K.Symbol S.AtMost) ts (Pieces.any_target s).opens (λ k h p. Pieces.expression_apart (K.Symbol S.AtMost) refl refl refl refl k p h) e

pub anywhere : (s : Scope) (ts : List Lexeme) → starts (is_kind (K.Symbol S.AtMost)) ts ≡ false → Leads goes_on (in_scope Grammar.target s) ts (in_scope Grammar.any_target s) ts
unfolding Grammar.target
anywhere s ts e = right_not _ _ goes_on (K.Symbol S.AtMost) ts (Pieces.near_target s).opens refl e

-- ---- the same of what stands before something

left_at_then : {A B : Type 0} (L M : Lang A) (N : A → Lang B) (P : TokenKind → Type 0) (m : TokenKind → Bool) (kind : TokenKind) (ts : List Lexeme) → Opens M P → ((k : TokenKind) → k ≡ kind → P k → ⊥) → starts (is_kind kind) ts ≡ true → Leads m ((L or M) >>= N) ts (L >>= N) ts
left_at_then L M N P m kind ts o apart e = leads_on (same_leads m ts (or_then L M N)) (or_left _ _ m ts (opens_off (M >>= N) P m kind ts (then_opens _ _ o) apart e))

right_at_then : {A B : Type 0} (L M : Lang A) (N : A → Lang B) (P : TokenKind → Type 0) (m : TokenKind → Bool) (kind : TokenKind) (ts : List Lexeme) → Opens L P → ((k : TokenKind) → k ≡ kind → P k → ⊥) → starts (is_kind kind) ts ≡ true → Leads m ((L or M) >>= N) ts (M >>= N) ts
right_at_then L M N P m kind ts o apart e = leads_on (same_leads m ts (or_then L M N)) (or_right _ _ m ts (opens_off (L >>= N) P m kind ts (then_opens _ _ o) apart e))

left_not_then : {A B : Type 0} (L M : Lang A) (N : A → Lang B) (m : TokenKind → Bool) (kind : TokenKind) (ts : List Lexeme) → Opens M (λ k. k ≡ kind) → same_kind kind kind ≡ true → starts (is_kind kind) ts ≡ false → Leads m ((L or M) >>= N) ts (L >>= N) ts
left_not_then L M N m kind ts o same e = leads_on (same_leads m ts (or_then L M N)) (or_left _ _ m ts (not_here (M >>= N) m kind ts (then_opens _ _ o) same e))

right_not_then : {A B : Type 0} (L M : Lang A) (N : A → Lang B) (m : TokenKind → Bool) (kind : TokenKind) (ts : List Lexeme) → Opens L (λ k. k ≡ kind) → same_kind kind kind ≡ true → starts (is_kind kind) ts ≡ false → Leads m ((L or M) >>= N) ts (M >>= N) ts
right_not_then L M N m kind ts o same e = leads_on (same_leads m ts (or_then L M N)) (or_right _ _ m ts (not_here (L >>= N) m kind ts (then_opens _ _ o) same e))

-- ---- paths, with the bracket behind them

abbrev closed : {A : Type 0} → A → Lang A
closed x = symbol S.RightBracket >>= λ t. gives x

pub weak : (s : Scope) (a : Expression) (ts : List Lexeme) → starts (is_kind (K.Word W.WWord)) ts ≡ true → Leads none (in_scope (λ E B. bracket_behind (Grammar.after E B a)) s) ts (in_scope (λ E B. bracket_behind (Grammar.weak_after E B a)) s) ts
unfolding Grammar.after closed_by
weak s a ts e = right_at_then _ _ closed (λ k. k ≡ K.Word W.UWord) none (K.Word W.WWord) ts (Pieces.strong_after s a).opens (differ (K.Word W.WWord) (K.Word W.UWord) refl refl) e

pub strong : (s : Scope) (a : Expression) (ts : List Lexeme) → starts (is_kind (K.Word W.WWord)) ts ≡ false → Leads none (in_scope (λ E B. bracket_behind (Grammar.after E B a)) s) ts (in_scope (λ E B. bracket_behind (Grammar.strong_after E B a)) s) ts
unfolding Grammar.after closed_by
strong s a ts e = left_not_then _ _ closed none (K.Word W.WWord) ts (Pieces.weak_after s a).opens refl e

abbrev pub closed_path : Scope → Lang (Path Expression)
closed_path s = in_scope (λ E B. bracket_behind (Grammar.path E B)) s

pub finally_here : (s : Scope) (ts : List Lexeme) → starts (is_kind (K.Word W.FWord)) ts ≡ true → Leads none (closed_path s) ts (in_scope (λ E B. bracket_behind (Grammar.eventually E B)) s) ts
unfolding Grammar.path closed_by
finally_here s ts e = left_at_then _ _ closed (λ k. (k ≡ K.Word W.GWord) ⊎ CanBegin 10 k) none (K.Word W.FWord) ts (Pieces.always_or_until s).opens Pieces.no_f e

other_here : (s : Scope) (ts : List Lexeme) → starts (is_kind (K.Word W.FWord)) ts ≡ false → Leads none (closed_path s) ts ((in_scope Grammar.always s or Pieces.until_path s) >>= closed) ts
unfolding Grammar.path closed_by
other_here s ts n = right_not_then _ _ closed none (K.Word W.FWord) ts (Pieces.eventually s).opens refl n

pub globally_here : (s : Scope) (ts : List Lexeme) → starts (is_kind (K.Word W.FWord)) ts ≡ false → starts (is_kind (K.Word W.GWord)) ts ≡ true → Leads none (closed_path s) ts (in_scope (λ E B. bracket_behind (Grammar.always E B)) s) ts
unfolding closed_by
globally_here s ts n e = leads_on (other_here s ts n) (left_at_then _ _ closed (CanBegin 10) none (K.Word W.GWord) ts (Pieces.until s).opens (λ k h p. Pieces.expression_apart (K.Word W.GWord) refl refl refl refl k p h) e)

pub until_here : (s : Scope) (ts : List Lexeme) → starts (is_kind (K.Word W.FWord)) ts ≡ false → starts (is_kind (K.Word W.GWord)) ts ≡ false → Leads none (closed_path s) ts (expressions s >>= λ a. in_scope (λ E B. bracket_behind (Grammar.after E B a)) s) ts
unfolding closed_by
until_here s ts n e =
    leads_on (other_here s ts n) (leads_on (right_not_then _ _ closed none (K.Word W.GWord) ts (Pieces.always s).opens refl e)
    (same_leads none ts (assoc (expressions s) (λ a. in_scope (λ E B. Grammar.after E B a) s) closed)))

-- ---- whether rewards are asked of

reward_is : (k : TokenKind) → begins_reward k ≡ true → Pieces.BeginsReward k
reward_is k e = first (or_cases _ _ e)
  where
    second : (is_kind (K.Word W.Rmin) k ≡ true) ⊎ (is_kind (K.Word W.RWord) k ≡ true) → (k ≡ K.Word W.Rmin) ⊎ (k ≡ K.Word W.RWord)
    second (inl h) = inl (same_is k (K.Word W.Rmin) h)
    second (inr h) = inr (same_is k (K.Word W.RWord) h)

    first : (is_kind (K.Word W.Rmax) k ≡ true) ⊎ ((is_kind (K.Word W.Rmin) k || is_kind (K.Word W.RWord) k) ≡ true) → Pieces.BeginsReward k
    first (inl h) = inl (same_is k (K.Word W.Rmax) h)
    first (inr h) = inr (second (or_cases _ _ h))

reward_test : (k : TokenKind) → Pieces.BeginsReward k → begins_reward k ≡ true
reward_test k (inl e) = ap begins_reward e
reward_test k (inr (inl e)) = ap begins_reward e
reward_test k (inr (inr e)) = ap begins_reward e

reward_query_here : (s : Scope) (n : Option Named) (ts : List Lexeme) → starts begins_reward ts ≡ true → Leads none (in_scope (λ E B. Grammar.query E B n) s) ts (in_scope (λ E B. Grammar.reward_query E B n) s) ts
unfolding Grammar.query
reward_query_here s n ts e =
    let m = starts_cons begins_reward ts e in
    or_right _ _ none ts (opens_barred _ Pieces.BeginsProbability none ts (Pieces.probability_query s n).opens (λ t us f p.
    let g : m.0 ∷ m.1 ≡ t ∷ us = sym m.2 ∙ f in
    let h : m.0 ≡ t = cc in
    Pieces.queries_apart t.kind p (reward_is t.kind (ap (λ (u : Lexeme). begins_reward u.kind) (sym h) ∙ m.3))))

probability_query_here : (s : Scope) (n : Option Named) (ts : List Lexeme) → starts begins_reward ts ≡ false → Leads none (in_scope (λ E B. Grammar.query E B n) s) ts (in_scope (λ E B. Grammar.probability_query E B n) s) ts
unfolding Grammar.query
probability_query_here s n ts e =
    or_left _ _ none ts (opens_barred _ Pieces.BeginsReward none ts (Pieces.reward_query s n).opens (λ t us f p.
    let F : List Lexeme → Type 0 = λ u. starts begins_reward u ≡ false in
    let g : begins_reward t.kind ≡ false = subst F f e in
    let h : begins_reward t.kind ≡ true = reward_test t.kind p in
    absurd cc))

-- ---- queries, by what they ask

-- The path is read with its brackets.
bracketed-same : {B : Type 0} (L : Lang (Path Expression)) (G : Path Expression → Lang B) → Same (symbol S.LeftBracket >>= λ t. L >>= λ p. symbol S.RightBracket >>= λ u. G p) ((symbol S.LeftBracket >>= λ t. bracket_behind L) >>= G)
bracketed-same L G = same_trans (same_then (symbol S.LeftBracket) _ _ (λ t. closed-same (K.Symbol S.RightBracket) L G)) (same_sym (assoc (symbol S.LeftBracket) (λ t. bracket_behind L) G))

asked-same : {A B : Type 0} (r : Reserved) (f : Lexeme → A) (N : A → Lang B) → Same ((Grammar.asks r >>= λ t. gives (f t)) >>= N) (Grammar.asks r >>= λ t. N (f t))
asked-same r f N = same_trans (assoc (Grammar.asks r) (λ t. gives (f t)) N) (same_then (Grammar.asks r) _ _ (λ t. gives_then (f t) N))

module _ (s : Scope) (n : Option Named) where
  abbrev pub asked_query : Lang WrittenProperty
  asked_query = in_scope (λ E B. Grammar.query E B n) s

  abbrev pub of_path : Ask Expression Structure → Lang WrittenProperty
  of_path = asking n (in_scope bracketed_path s)

  abbrev pub of_reach : Ask Expression Structure → Lang WrittenProperty
  of_reach = asking n (in_scope bracketed_reach s)

  probability_here : (ts : List Lexeme) → starts begins_reward ts ≡ false → Leads none asked_query ts (in_scope Grammar.probability s >>= of_path) ts
  unfolding Grammar.probability_query
  probability_here ts o = leads_on (probability_query_here s n ts o) (same_leads none ts (same_then (in_scope Grammar.probability s) _ _ (λ a. bracketed-same (in_scope Grammar.path s) (λ p. gives (record { name = n; ask = a; path = p })))))

  reward_here : (ts : List Lexeme) → starts begins_reward ts ≡ true → Leads none asked_query ts (in_scope Grammar.reward s >>= of_reach) ts
  unfolding Grammar.reward_query
  reward_here ts o = leads_on (reward_query_here s n ts o) (same_leads none ts (same_then (in_scope Grammar.reward s) _ _ (λ a. bracketed-same (in_scope Grammar.reach s) (λ p. gives (record { name = n; ask = a; path = p })))))

  pub pmax_here : (ts : List Lexeme) → starts begins_reward ts ≡ false → starts (is_kind (K.Word W.Pmax)) ts ≡ true → Leads none asked_query ts (Grammar.asks W.Pmax >>= λ t. of_path greatest) ts
  unfolding Grammar.probability Grammar.highest
  pmax_here ts o e =
      leads_on (probability_here ts o) (leads_on (left_at_then _ _ of_path (λ k. (k ≡ K.Word W.Pmin) ⊎ (k ≡ K.Word W.PWord)) none (K.Word W.Pmax) ts (Pieces.lower_probability s).opens Pieces.no_pmax e)
      (same_leads none ts (asked-same W.Pmax (λ t. greatest) of_path)))

  lower_here : (ts : List Lexeme) → starts begins_reward ts ≡ false → starts (is_kind (K.Word W.Pmax)) ts ≡ false → Leads none asked_query ts (in_scope Grammar.lower_probability s >>= of_path) ts
  unfolding Grammar.probability
  lower_here ts o e = leads_on (probability_here ts o) (right_not_then _ _ of_path none (K.Word W.Pmax) ts (Pieces.highest s).opens refl e)

  pub pmin_here : (ts : List Lexeme) → starts begins_reward ts ≡ false → starts (is_kind (K.Word W.Pmax)) ts ≡ false → starts (is_kind (K.Word W.Pmin)) ts ≡ true → Leads none asked_query ts (Grammar.asks W.Pmin >>= λ t. of_path least) ts
  unfolding Grammar.lower_probability Grammar.lowest
  pmin_here ts o h e =
      leads_on (lower_here ts o h) (leads_on (left_at_then _ _ of_path (λ k. k ≡ K.Word W.PWord) none (K.Word W.Pmin) ts (Pieces.compared_probability s).opens (differ (K.Word W.Pmin) (K.Word W.PWord) refl refl) e)
      (same_leads none ts (asked-same W.Pmin (λ t. least) of_path)))

  pub compared_here : (ts : List Lexeme) → starts begins_reward ts ≡ false → starts (is_kind (K.Word W.Pmax)) ts ≡ false → starts (is_kind (K.Word W.Pmin)) ts ≡ false → Leads none asked_query ts (in_scope Grammar.compared_probability s >>= of_path) ts
  unfolding Grammar.lower_probability
  compared_here ts o h e = leads_on (lower_here ts o h) (right_not_then _ _ of_path none (K.Word W.Pmin) ts (Pieces.lowest s).opens refl e)

  pub rmax_here : (ts : List Lexeme) → starts begins_reward ts ≡ true → starts (is_kind (K.Word W.Rmax)) ts ≡ true → Leads none asked_query ts (Grammar.asks W.Rmax >>= λ t. of_reach (greatest_reward (Grammar.first_one t))) ts
  unfolding Grammar.reward Grammar.highest_reward
  rmax_here ts o e =
      leads_on (reward_here ts o) (leads_on (left_at_then _ _ of_reach (λ k. (k ≡ K.Word W.Rmin) ⊎ (k ≡ K.Word W.RWord)) none (K.Word W.Rmax) ts (Pieces.lower_reward s).opens Pieces.no_rmax e)
      (same_leads none ts (asked-same W.Rmax (λ t. greatest_reward (Grammar.first_one t)) of_reach)))

  lower_reward_here : (ts : List Lexeme) → starts begins_reward ts ≡ true → starts (is_kind (K.Word W.Rmax)) ts ≡ false → Leads none asked_query ts (in_scope Grammar.lower_reward s >>= of_reach) ts
  unfolding Grammar.reward
  lower_reward_here ts o e = leads_on (reward_here ts o) (right_not_then _ _ of_reach none (K.Word W.Rmax) ts (Pieces.highest_reward s).opens refl e)

  pub rmin_here : (ts : List Lexeme) → starts begins_reward ts ≡ true → starts (is_kind (K.Word W.Rmax)) ts ≡ false → starts (is_kind (K.Word W.Rmin)) ts ≡ true → Leads none asked_query ts (Grammar.asks W.Rmin >>= λ t. of_reach (least_reward (Grammar.first_one t))) ts
  unfolding Grammar.lower_reward Grammar.lowest_reward
  rmin_here ts o h e =
      leads_on (lower_reward_here ts o h) (leads_on (left_at_then _ _ of_reach (λ k. k ≡ K.Word W.RWord) none (K.Word W.Rmin) ts (Pieces.named_reward s).opens (differ (K.Word W.Rmin) (K.Word W.RWord) refl refl) e)
      (same_leads none ts (asked-same W.Rmin (λ t. least_reward (Grammar.first_one t)) of_reach)))

  pub named_here : (ts : List Lexeme) → starts begins_reward ts ≡ true → starts (is_kind (K.Word W.Rmax)) ts ≡ false → starts (is_kind (K.Word W.Rmin)) ts ≡ false →
      Leads none asked_query ts (word W.RWord >>= λ t. symbol S.LeftBrace >>= λ l. closed_by (K.Symbol S.RightBrace) title >>= λ x. in_scope (λ E B. Grammar.of_structure E B (Grammar.called x)) s >>= of_reach) ts
  unfolding Grammar.lower_reward Grammar.named_reward
  named_here ts o h e =
      leads_on (lower_reward_here ts o h) (leads_on (right_not_then _ _ of_reach none (K.Word W.Rmin) ts (Pieces.lowest_reward s).opens refl e)
      (same_leads none ts (same_trans (assoc (word W.RWord) _ of_reach) (same_then (word W.RWord) _ _ (λ t. same_trans (assoc (symbol S.LeftBrace) _ of_reach) (same_then (symbol S.LeftBrace) _ _ (λ l.
      same_trans (assoc title _ of_reach) (same_trans (same_then title _ _ (λ x. assoc (symbol S.RightBrace) _ of_reach)) (closed-same (K.Symbol S.RightBrace) title (λ x. in_scope (λ E B. Grammar.of_structure E B (Grammar.called x)) s >>= of_reach))))))))))

  module _ (r : Structure) where
    pub max_here : (ts : List Lexeme) → starts (is_kind (K.Word W.Max)) ts ≡ true → Leads none (in_scope (λ E B. Grammar.of_structure E B r) s >>= of_reach) ts (in_scope (λ E B. Grammar.most_of E B r) s >>= of_reach) ts
    unfolding Grammar.of_structure
    max_here ts e = left_at_then _ _ of_reach (λ k. k ≡ K.Word W.Min) none (K.Word W.Max) ts (Pieces.least_of s r).opens (differ (K.Word W.Max) (K.Word W.Min) refl refl) e

    pub min_here : (ts : List Lexeme) → starts (is_kind (K.Word W.Max)) ts ≡ false → Leads none (in_scope (λ E B. Grammar.of_structure E B r) s >>= of_reach) ts (in_scope (λ E B. Grammar.least_of E B r) s >>= of_reach) ts
    unfolding Grammar.of_structure
    min_here ts e = right_not_then _ _ of_reach none (K.Word W.Max) ts (Pieces.most_of s r).opens refl e

    pub most_here : (ts : List Lexeme) → Leads none (in_scope (λ E B. Grammar.most_of E B r) s >>= of_reach) ts (Grammar.asks W.Max >>= λ t. of_reach (greatest_reward r)) ts
    unfolding Grammar.most_of
    most_here ts = same_leads none ts (asked-same W.Max (λ t. greatest_reward r) of_reach)

    pub least_here : (ts : List Lexeme) → Leads none (in_scope (λ E B. Grammar.least_of E B r) s >>= of_reach) ts (Grammar.asks W.Min >>= λ t. of_reach (least_reward r)) ts
    unfolding Grammar.least_of
    least_here ts = same_leads none ts (asked-same W.Min (λ t. least_reward r) of_reach)

-- ---- titles

title_kind : (t : Lexeme) → is_some (title_text t) ≡ true → t.kind ≡ K.Ident
title_kind t h = by_kind t.kind refl h
  where
    by_kind : (k : TokenKind) → t.kind ≡ k → is_some (if is_name k && has_quotes t.text then Some t.text else None) ≡ true → t.kind ≡ K.Ident
    by_kind K.Ident e h = e
    by_kind (K.Word r) e h = absurd cc
    by_kind (K.Symbol r) e h = absurd cc
    by_kind K.Quoted e h = absurd cc
    by_kind (K.Number d) e h = absurd cc
    by_kind K.End e h = absurd cc

none_of : (o : Option (List ℕ)) → is_some o ≡ false → o ≡ None
none_of None e = refl
none_of (Some x) e = absurd cc

pub titled_here : (s : Scope) (ts : List Lexeme) → means title_text ts ≡ true → Leads none (in_scope Grammar.titled s) ts (in_scope Grammar.titled_query s) ts
unfolding Grammar.titled
titled_here s ts e = or_right _ _ none ts (opens_barred _ Pieces.BeginsQuery none ts (Pieces.query s None).opens (λ t us f p.
    let F : List Lexeme → Type 0 = λ u. means title_text u ≡ true in
    Pieces.no_name t.kind (title_kind t (subst F f e)) p))

pub untitled_here : (s : Scope) (ts : List Lexeme) → means title_text ts ≡ false → Leads none (in_scope Grammar.titled s) ts (in_scope (λ E B. Grammar.query E B None) s) ts
unfolding Grammar.titled Grammar.titled_query
untitled_here s ts e = or_left _ _ none ts (then_barred title _ none none ts (none_follows _ none) (token_with_barred title_of none ts (λ t us f.
    let F : List Lexeme → Type 0 = λ u. means title_text u ≡ false in
    no_title t (none_of (title_text t) (subst F f e)))))

-- ---- values

pub valued : {A : Type 0} (L : Lang A) (m : TokenKind → Bool) (ts r : List Lexeme) (x y : A) → x ≡ y → Reads L m ts x r → Reads L m ts y r
valued {A} L m ts r x y e p = let F : A → Type 0 = λ a. Reads L m ts a r in subst F e p
