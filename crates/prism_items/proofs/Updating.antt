-- Writes, updates, and which of the two forms of updates stands in a list.
use Rattle.std.proofs.Common.{◌≡◌, Bool, true, false, List, [], ◌∷◌, ◌++◌, Some, refl, sym, ap, subst, ◌∙◌, append-nil, arith}
use Rattle.std.specs.Prelude.{drop}
use Rattle.std.proofs.lemmas.List.{append_cancel_right}
use Rattle.op_trees.specs.Tree.{Truth, Name}
use Rattle.bridge_io.specs.declared.reason.Named.{Named}
use Rattle.prism_lex.specs.declared.token.TokenKind.{TokenKind}
use Rattle.prism_lex.specs.declared.token.TokenKind.TheVariants as K
use Rattle.prism_lex.specs.declared.words.Reserved.TheVariants as W
use Rattle.prism_lex.specs.declared.symbols.Symbol.TheVariants as S
use Rattle.prism_lex.specs.Tokens.{Lexeme}
use Rattle.std.proofs.Common.{map}
use Rattle.std.proofs.lemmas.Bool.{or_left as or_first, or_from}
use Rattle.basics.specs.Booleans.{second_false}
use Rattle.prism_tree.specs.declared.syntax.PrismBranch.{PrismBranch}
use Rattle.prism_tree.specs.Syntax.{branch_of, Write, Branch, moved}
use Rattle.prism_tree.specs.Lang.{Lang, gives, ◌>>=◌, ◌>>◌, ◌or◌, front, with_last, Begins}
use Rattle.prism_tree.specs.Grammar.{word, symbol, name, write, update, weighted, updates, one_branch, expr}
use Rattle.prism_exprs.specs.Reading.{Reads, Ends, none, next, Dead, starts, is_kind}
use Rattle.prism_exprs.specs.Levels.{goes_on}
use Rattle.prism_exprs.specs.declared.tokens.Stop.{Stop}
use Rattle.prism_exprs.specs.Scope.{StopsIn, Scope, expressions}
use Rattle.prism_exprs.proofs.Laws.{IsOne, HasWord, Follows, token_follows, token_reads, then_one, then_word, step_one, token_one, token_word, gives_one, gives_word}
use Rattle.prism_exprs.proofs.Choice.{Same, Opens, Barred, Repeats, token_opens, then_opens, or_one, or_word, folding_one, folding_word, folding_follows}
use Rattle.prism_exprs.proofs.Furthest.{or_then}
use Rattle.prism_exprs.proofs.Loops.{Begun, kind_begun, begun_repeats}
use Rattle.prism_exprs.proofs.Exprs.{gives_follows, expr_one}
use Rattle.prism_exprs.proofs.Grouping.{same_trans, same_sym, same_then, assoc, gives_then}
use Rattle.prism_exprs.proofs.Outer.{expressions_one, expressions_word, expr_opens}
use Rattle.prism_items.specs.Parts.{plain_front, in_scope, closed_by, target, further_write, several_writes, further_branch, several_branches, writes_on, branches_on}
use Rattle.prism_items.proofs.Leading.{another, halt_at, loop_done, Leads, leads_on, begin, step, step_to, same_leads, or_left, or_right, then_begins, then_dead}
use Rattle.prism_items.proofs.Expressions.{short_word, expr_of_scope, true_word, name_word, parenthesis_word}
use Rattle.prism_items.proofs.Closing.{differ, passes}
use Rattle.prism_items.proofs.Declaring.{name_one, name_word as a_name_word, expression_closed}
use Rattle.prism_items.proofs.Choosing.{not_here, opens_off}
use Rattle.prism_items.proofs.Lacking.{expr_lacks, prime_strange, free_inside}

-- ---- writes

pub target_one : (s : Scope) → IsOne (in_scope target s) none
target_one s = step_one _ (token_one _) (λ a. step_one _ name_one (λ x. step_one _ (token_one _) (λ b. step_one _ (token_one _) (λ c. gives_one x none))))

-- What is written to is read together.
pub targeting : {B : Type 0} (s : Scope) (N : Named → Lang B) {L : Lang B} {more : TokenKind → Bool} {ts us : List Lexeme} →
    Leads more L ts (symbol S.LeftParenthesis >>= λ a. name >>= λ x. symbol S.Prime >>= λ b. symbol S.Equal >>= λ c. N x) us → Leads more L ts (in_scope target s >>= N) us
targeting s N {more = more} {us = us} l =
    leads_on l (same_leads more us (same_sym (same_trans (assoc _ _ _) (same_then _ _ _ (λ a. same_trans (assoc _ _ _) (same_then _ _ _ (λ x. same_trans (assoc _ _ _) (same_then _ _ _ (λ b.
    same_trans (assoc _ _ _) (same_then _ _ _ (λ c. gives_then x N)))))))))))

pub write_one : (s : Scope) → IsOne (in_scope write s) none
unfolding write
write_one s = step_one _ (token_one _) (λ a. step_one _ name_one (λ x. step_one _ (token_one _) (λ b. step_one _ (token_one _) (λ c. expression_closed s _ _ none refl (λ e d. gives_one _ none)))))

pub write_word : (s : Scope) → HasWord (in_scope write s)
unfolding write
write_word s = then_word (token_word _) (λ a. then_word a_name_word (λ x. then_word (token_word _) (λ b. then_word (token_word _) (λ c. then_word (expressions_word s) (λ e. then_word (token_word _) (λ d. gives_word _))))))

pub write_opens : (s : Scope) → Opens (in_scope write s) (λ k. k ≡ K.Symbol S.LeftParenthesis)
unfolding write
write_opens s = then_opens _ _ (token_opens _)

pub further_write_one : (s : Scope) → IsOne (in_scope further_write s) none
further_write_one s = step_one _ (token_one _) (λ t. write_one s)

pub further_write_begun : (s : Scope) → Begun (in_scope further_write s) writes_on
further_write_begun s = kind_begun _ (K.Symbol S.And) refl (then_opens _ _ (token_opens _))

pub several_writes_opens : (s : Scope) → Opens (in_scope several_writes s) (λ k. k ≡ K.Symbol S.LeftParenthesis)
several_writes_opens s = then_opens _ _ (write_opens s)

pub update_one : (s : Scope) → IsOne (in_scope update s) writes_on
unfolding update
update_one s =
    or_one _ _ (then_opens _ _ (token_opens _)) (several_writes_opens s) (differ (K.Word W.True) (K.Symbol S.LeftParenthesis) refl refl) (step_one _ (token_one _) (λ t. gives_one [] writes_on))
    (step_one _ (write_one s) (λ w. folding_one with_last (w ∷ []) (further_write_begun s) (begun_repeats writes_on) (further_write_one s)))

pub update_word : (s : Scope) → HasWord (in_scope update s)
unfolding update
update_word s = or_word _ _ (then_word (token_word _) (λ t. gives_word []))

pub weighted_one : (s : Scope) → IsOne (in_scope weighted s) writes_on
unfolding weighted
weighted_one s = expression_closed s _ _ writes_on refl (λ e t. then_one writes_on (update_one s) (λ ws. gives_one _ writes_on) (gives_follows _ writes_on))

pub weighted_word : (s : Scope) → HasWord (in_scope weighted s)
unfolding weighted
weighted_word s = then_word (expressions_word s) (λ e. then_word (token_word _) (λ t. then_word (update_word s) (λ ws. gives_word _)))

pub further_branch_one : (s : Scope) → IsOne (in_scope further_branch s) writes_on
further_branch_one s = step_one _ (token_one _) (λ t. weighted_one s)

pub further_branch_opens : (s : Scope) → Opens (in_scope further_branch s) (λ k. k ≡ K.Symbol S.Plus)
further_branch_opens s = then_opens _ _ (token_opens _)

pub branches_repeat : Repeats (λ k. k ≡ K.Symbol S.Plus) writes_on branches_on
branches_repeat = record { again = passes branches_on _ true refl; apart = passes writes_on _ false refl; within = λ k h. second_false (is_kind (K.Symbol S.Plus) k) _ h }

pub branches_follow : (s : Scope) → Follows writes_on (λ (b : Branch). front (in_scope further_branch s) (b ∷ [])) branches_on
branches_follow s = folding_follows with_last (further_branch_opens s) branches_repeat (λ b. b ∷ [])

pub several_branches_one : (s : Scope) → IsOne (in_scope several_branches s) branches_on
several_branches_one s = then_one writes_on (weighted_one s) (λ b. folding_one with_last (b ∷ []) (further_branch_opens s) branches_repeat (further_branch_one s)) (branches_follow s)

pub several_branches_word : (s : Scope) → HasWord (in_scope several_branches s)
several_branches_word s = then_word (weighted_word s) (λ b. folding_word with_last (in_scope further_branch s) (b ∷ []))

-- ---- the two forms, with the semicolon

abbrev pub Alone : Scope → Lang (List Branch)
Alone s = closed_by (K.Symbol S.Semicolon) (in_scope update s >>= λ ws. gives (one_branch ws))

abbrev pub Several : Scope → Lang (List Branch)
Several s = closed_by (K.Symbol S.Semicolon) (in_scope several_branches s)

-- an update without a weight, and the semicolon
abbrev pub ended_alone : Scope → Lang (List Branch)
ended_alone s = in_scope update s >>= λ ws. symbol S.Semicolon >>= λ t. gives (one_branch ws)

pub alone-ended : (s : Scope) → Same (Alone s) (ended_alone s)
unfolding closed_by
alone-ended s = same_trans (assoc _ _ _) (same_then _ _ _ (λ ws. gives_then (one_branch ws) _))

pub updates-or : (s : Scope) → Same (closed_by (K.Symbol S.Semicolon) (in_scope updates s)) (Alone s or Several s)
unfolding closed_by updates
updates-or s = or_then _ _ _

pub several_follows : (s : Scope) → Follows branches_on (λ (bs : List Branch). symbol S.Semicolon >>= λ t. gives bs) none
several_follows s = token_follows branches_on (K.Symbol S.Semicolon) _ none refl

pub alone_follows : Follows writes_on (λ (ws : List Write). symbol S.Semicolon >>= λ t. gives (one_branch ws)) none
alone_follows = token_follows writes_on (K.Symbol S.Semicolon) _ none refl

-- ---- what has been read up to a place

front_is : {A : Type 0} {L M : Lang A} {more : TokenKind → Bool} (u r : List Lexeme) → (l : Leads more L (u ++ r) M r) → l.front ++ [] ≡ u
front_is u r l = append-nil l.front ∙ append_cancel_right l.front u r (sym l.parts)

pub dead_at : {A : Type 0} {L M : Lang A} {more : TokenKind → Bool} (u r : List Lexeme) → Leads more L (u ++ r) M r → Barred M more r → Dead L more u r
dead_at {L = L} {more = more} u r l b = let F : List Lexeme → Type 0 = λ v. Dead L more v r in subst F (front_is u r l) (l.dead [] r refl b)

pub begins_at : {A : Type 0} {L M : Lang A} {more : TokenKind → Bool} (u r : List Lexeme) → Leads more L (u ++ r) M r → HasWord M → Begins L u
begins_at {L = L} u r l w = let F : List Lexeme → Type 0 = λ v. Begins L v in subst F (front_is u r l) (l.begins [] w)

-- ---- where an expression cannot be

expr_at_prime : (o i p : Lexeme) (us : List Lexeme) → o.kind ≡ K.Symbol S.LeftParenthesis → i.kind ≡ K.Ident → p.kind ≡ K.Symbol S.Prime → Dead expr goes_on (o ∷ i ∷ []) (p ∷ us)
expr_at_prime o i p us e f g other w z x n h k l = by_word w other h k n
  where
    c : Lexeme
    c = record { kind = K.Symbol S.RightParenthesis; text = []; at = 0 }

    whole : expr (o ∷ i ∷ c ∷ []) (moved o.at (Name i.at i.text))
    whole = parenthesis_word o c (i ∷ []) _ e refl (name_word i f)

    shorter : (v y : List Lexeme) → v ++ y ≡ o ∷ i ∷ c ∷ [] → expr v x → Ends goes_on y → v ≡ o ∷ i ∷ c ∷ []
    shorter v y q r m = (expr_one.one v y (o ∷ i ∷ c ∷ []) [] x (moved o.at (Name i.at i.text)) r whole q m tt).0

    by_word : (w other : List Lexeme) → o ∷ i ∷ other ≡ w ++ z → expr w x → next other ≡ Some p → ⊥
    by_word [] other h k n =
        let q = expr_opens [] x k in
        let r : [] ≡ q.0 ∷ q.1 = q.2 in
        absurd cc
    by_word (t ∷ []) other h k n =
        let q : o ≡ t = cc in
        let F : Lexeme → Type 0 = λ u. expr (u ∷ []) x in
        let r : o ∷ [] ≡ o ∷ i ∷ c ∷ [] = shorter (o ∷ []) (i ∷ c ∷ []) refl (subst F (sym q) k) (passes goes_on K.Ident false refl i.kind f) in
        absurd cc
    by_word (t ∷ t' ∷ []) other h k n =
        let q : o ≡ t = cc in
        let q' : i ≡ t' = cc in
        let F : Lexeme → Type 0 = λ u. expr (u ∷ t' ∷ []) x in
        let F' : Lexeme → Type 0 = λ u. expr (o ∷ u ∷ []) x in
        let r : o ∷ i ∷ [] ≡ o ∷ i ∷ c ∷ [] = shorter (o ∷ i ∷ []) (c ∷ []) refl (subst F' (sym q') (subst F (sym q) k)) refl in
        absurd cc
    by_word (t ∷ t' ∷ p' ∷ w') other h k n =
        let q : other ≡ p' ∷ (w' ++ z) = cc in
        let r : Some p' ≡ Some p = sym (ap next q) ∙ n in
        let m : p' ≡ p = cc in
        free_inside (K.Symbol S.Prime) (t ∷ t' ∷ []) w' p' ((expr_lacks (K.Symbol S.Prime) prime_strange).free _ x k) (ap (λ (u : Lexeme). u.kind) m ∙ g)

scope_dead : (s : Scope) (u r : List Lexeme) → Dead expr goes_on u r → Dead (expressions s) goes_on u r
scope_dead s u r d other w z x n h k l = d other w z x n h (expr_of_scope s.counted w x k) l

close_token : Lexeme
close_token = record { kind = K.Symbol S.RightParenthesis; text = []; at = 0 }

name_token : Lexeme
name_token = record { kind = K.Ident; text = []; at = 0 }

-- ( Ident begins an expression
pub begins_name : (s : Scope) (o i : Lexeme) → o.kind ≡ K.Symbol S.LeftParenthesis → i.kind ≡ K.Ident → Begins (expressions s) (o ∷ i ∷ [])
unfolding close_token
begins_name s o i e f = (close_token ∷ [], _, short_word s.counted (o ∷ i ∷ close_token ∷ []) _ (omega arith) (parenthesis_word o close_token (i ∷ []) _ e refl (name_word i f)))

pub begins_open : (s : Scope) (o : Lexeme) → o.kind ≡ K.Symbol S.LeftParenthesis → Begins (expressions s) (o ∷ [])
unfolding close_token name_token
begins_open s o e = (name_token ∷ close_token ∷ [], _, short_word s.counted (o ∷ name_token ∷ close_token ∷ []) _ (omega arith) (parenthesis_word o close_token (name_token ∷ []) _ e refl (name_word name_token refl)))

pub begins_true : (s : Scope) (t : Lexeme) → t.kind ≡ K.Word W.True → Begins (expressions s) (t ∷ [])
begins_true s t e = ([], Truth t.at true, short_word s.counted (t ∷ []) _ (omega arith) (true_word t e))

-- ---- several branches

pub weighted_begins : (s : Scope) (u : List Lexeme) → Begins (expressions s) u → Begins (Several s) u
unfolding weighted closed_by
weighted_begins s u b = then_begins _ _ u (λ bs. then_word (token_word _) (λ t. gives_word _)) (then_begins _ _ u (λ x. folding_word with_last (in_scope further_branch s) (x ∷ []))
    (then_begins _ _ u (λ e. then_word (token_word _) (λ t. then_word (update_word s) (λ ws. gives_word _))) b))

several_dead : (s : Scope) (u r : List Lexeme) → Dead (in_scope weighted s) writes_on u r → Dead (Several s) none u r
unfolding closed_by
several_dead s u r d = then_dead _ _ u r (several_follows s) (then_dead _ _ u r (branches_follow s) d)

-- true ;
pub several_at_end : (s : Scope) (t e : Lexeme) (us : List Lexeme) → t.kind ≡ K.Word W.True → e.kind ≡ K.Symbol S.Semicolon → Dead (Several s) none (t ∷ []) (e ∷ us)
unfolding weighted
several_at_end s t e us h k =
    several_dead s (t ∷ []) (e ∷ us) (dead_at (t ∷ []) (e ∷ us)
    (step_to _ _ (begin (in_scope weighted s) writes_on (t ∷ e ∷ us)) (expressions_one s) (token_follows goes_on (K.Symbol S.Colon) _ writes_on refl)
    (record { word = t ∷ []; parts = refl; spells = short_word s.counted (t ∷ []) (Truth t.at true) (omega arith) (true_word t h); ends = passes goes_on (K.Symbol S.Semicolon) false refl e.kind k }))
    (not_here _ writes_on (K.Symbol S.Colon) (e ∷ us) (then_opens _ _ (token_opens _)) refl (passes (is_kind (K.Symbol S.Colon)) (K.Symbol S.Semicolon) false refl e.kind k)))

-- ( Ident '
pub several_at_prime : (s : Scope) (o i p : Lexeme) (us : List Lexeme) → o.kind ≡ K.Symbol S.LeftParenthesis → i.kind ≡ K.Ident → p.kind ≡ K.Symbol S.Prime → Dead (Several s) none (o ∷ i ∷ []) (p ∷ us)
unfolding weighted
several_at_prime s o i p us e f g =
    several_dead s (o ∷ i ∷ []) (p ∷ us) (then_dead _ _ (o ∷ i ∷ []) (p ∷ us) (token_follows goes_on (K.Symbol S.Colon) _ writes_on refl) (scope_dead s (o ∷ i ∷ []) (p ∷ us) (expr_at_prime o i p us e f g)))

-- ---- an update alone

alone_leads : (s : Scope) (ts : List Lexeme) → Leads none (Alone s) ts (((word W.True >> gives []) >>= λ ws. symbol S.Semicolon >>= λ t. gives (one_branch ws)) or (in_scope several_writes s >>= λ ws. symbol S.Semicolon >>= λ t. gives (one_branch ws))) ts
unfolding update
alone_leads s ts = leads_on (same_leads none ts (alone-ended s)) (same_leads none ts (or_then _ _ _))

pub first_write : (s : Scope) (ts : List Lexeme) → starts (is_kind (K.Word W.True)) ts ≡ false → Leads none (Alone s) ts (in_scope write s >>= λ w. front (in_scope further_write s) (w ∷ []) >>= λ ws. symbol S.Semicolon >>= λ t. gives (one_branch ws)) ts
first_write s ts e =
    leads_on (alone_leads s ts) (leads_on (or_right _ _ none ts (not_here _ none (K.Word W.True) ts (then_opens _ _ (then_opens _ _ (token_opens _))) refl e)) (same_leads none ts (assoc _ _ _)))

pub first_true : (s : Scope) (t : Lexeme) (us : List Lexeme) → t.kind ≡ K.Word W.True → Leads none (Alone s) (t ∷ us) (symbol S.Semicolon >>= λ e. gives (one_branch [])) us
first_true s t us h =
    let b : Barred (in_scope several_writes s >>= λ ws. symbol S.Semicolon >>= λ t. gives (one_branch ws)) none (t ∷ us) =
    not_here _ none (K.Symbol S.LeftParenthesis) (t ∷ us) (then_opens _ _ (several_writes_opens s)) refl (passes (is_kind (K.Symbol S.LeftParenthesis)) (K.Word W.True) false refl t.kind h) in
    step _ _ (leads_on (alone_leads s (t ∷ us)) (leads_on (or_left _ _ none (t ∷ us) b)
    (same_leads none (t ∷ us) (same_trans (assoc _ _ _) (same_then _ _ _ (λ u. gives_then [] _)))))) (token_one _) (token_reads t us refl h)

pub writes_word : (s : Scope) (w : Write) → HasWord (front (in_scope further_write s) (w ∷ []) >>= λ ws. symbol S.Semicolon >>= λ t. gives (one_branch ws))
writes_word s w = then_word (folding_word with_last (in_scope further_write s) (w ∷ [])) (λ ws. then_word (token_word _) (λ t. gives_word _))

-- ---- an update, by its first token

pub update_writes : (s : Scope) (ts : List Lexeme) → starts (is_kind (K.Word W.True)) ts ≡ false → Leads writes_on (in_scope update s) ts (in_scope several_writes s) ts
unfolding update
update_writes s ts e = or_right _ _ writes_on ts (not_here _ writes_on (K.Word W.True) ts (then_opens _ _ (token_opens _)) refl e)

pub update_true : (s : Scope) (ts : List Lexeme) → starts (is_kind (K.Word W.True)) ts ≡ true → Leads writes_on (in_scope update s) ts (word W.True >> gives []) ts
unfolding update
update_true s ts e = or_left _ _ writes_on ts (opens_off _ _ writes_on (K.Word W.True) ts (several_writes_opens s) (differ (K.Word W.True) (K.Symbol S.LeftParenthesis) refl refl) e)

-- ---- branches

starts_within : (a b : TokenKind → Bool) (ts : List Lexeme) → ((k : TokenKind) → a k ≡ true → b k ≡ true) → starts a ts ≡ true → starts b ts ≡ true
starts_within a b [] h e = absurd cc
starts_within a b (t ∷ ts) h e = h t.kind e

plus_starts : (ts : List Lexeme) → starts (is_kind (K.Symbol S.Plus)) ts ≡ true → starts branches_on ts ≡ true
plus_starts ts e = starts_within (is_kind (K.Symbol S.Plus)) branches_on ts (λ k h. or_first _ _ h) e

pub branch_next : {G : Lang (List Branch)} (s : Scope) {ts us vs : List Lexeme} (xs : List Branch) (x : Branch) → Leads branches_on G ts (front (in_scope further_branch s) xs) us → starts (is_kind (K.Symbol S.Plus)) us ≡ true →
    Reads (in_scope further_branch s) writes_on us x vs → Leads branches_on G ts (front (in_scope further_branch s) (with_last xs x)) vs
branch_next s {ts} {us} {vs} xs x i e p =
    step_to _ _ (leads_on i (another with_last (in_scope further_branch s) xs (plus_starts us e))) (further_branch_one s) (folding_follows with_last (further_branch_opens s) branches_repeat (with_last xs)) p

pub branch_stops : {G : Lang (List Branch)} (s : Scope) {ts us : List Lexeme} (xs : List Branch) (e : Stop) → Leads branches_on G ts (front (in_scope further_branch s) xs) us → starts (is_kind (K.Symbol S.Plus)) us ≡ true →
    StopsIn s (in_scope further_branch s) writes_on us e → StopsIn s G branches_on ts e
branch_stops s {ts} {us} xs e i n p =
    halt_at _ _ s (leads_on i (another with_last (in_scope further_branch s) xs (plus_starts us n))) (λ x. folding_word with_last (in_scope further_branch s) (with_last xs x))
    (folding_follows with_last (further_branch_opens s) branches_repeat (with_last xs)) e p

pub branches_done : {G : Lang (List Branch)} (s : Scope) {ts us : List Lexeme} (xs : List Branch) → Leads branches_on G ts (front (in_scope further_branch s) xs) us → starts (is_kind (K.Symbol S.Plus)) us ≡ false → Ends writes_on us → Reads G branches_on ts xs us
branches_done s {ts} {us} xs i e f = loop_done with_last (in_scope further_branch s) xs i (neither us e f)
  where
    neither : (us : List Lexeme) → starts (is_kind (K.Symbol S.Plus)) us ≡ false → Ends writes_on us → starts branches_on us ≡ false
    neither [] e f = refl
    neither (t ∷ us) e f = or_from _ _ e f

-- ---- three tokens of sight

pub plain_true : (ts : List Lexeme) → starts (is_kind (K.Word W.True)) ts ≡ true → starts (is_kind (K.Symbol S.Semicolon)) (drop 1 ts) ≡ plain_front ts
plain_true [] e = absurd cc
plain_true (t ∷ []) e = refl
plain_true (t ∷ u ∷ ts) e = rw e refl

pub plain_no_open : (ts : List Lexeme) → starts (is_kind (K.Word W.True)) ts ≡ false → starts (is_kind (K.Symbol S.LeftParenthesis)) ts ≡ false → false ≡ plain_front ts
plain_no_open [] e f = refl
plain_no_open (t ∷ []) e f = refl
plain_no_open (t ∷ u ∷ ts) e f = rw (e, f) refl

pub plain_no_name : (ts : List Lexeme) → starts (is_kind (K.Word W.True)) ts ≡ false → starts (is_kind (K.Symbol S.LeftParenthesis)) ts ≡ true → starts (is_kind K.Ident) (drop 1 ts) ≡ false → false ≡ plain_front ts
plain_no_name [] e f g = refl
plain_no_name (t ∷ []) e f g = refl
plain_no_name (t ∷ u ∷ ts) e f g = rw (e, f, g) refl

pub plain_name : (ts : List Lexeme) → starts (is_kind (K.Word W.True)) ts ≡ false → starts (is_kind (K.Symbol S.LeftParenthesis)) ts ≡ true → starts (is_kind K.Ident) (drop 1 ts) ≡ true → starts (is_kind (K.Symbol S.Prime)) (drop 1 (drop 1 ts)) ≡ plain_front ts
plain_name [] e f g = absurd cc
plain_name (t ∷ []) e f g = absurd cc
plain_name (t ∷ u ∷ ts) e f g = rw (e, f, g) refl

pub read_as : {A : Type 0} {L : Lang A} {m : TokenKind → Bool} {ts us : List Lexeme} {x : A} (y : A) → y ≡ x → Reads L m ts x us → Reads L m ts y us
read_as {A} {L} {m} {ts} {us} {x} y e p = let F : A → Type 0 = λ u. Reads L m ts u us in subst F (sym e) p

pub only_branch : (xs ys : List PrismBranch) (b : PrismBranch) → xs ≡ [] → ys ≡ xs ++ b ∷ [] → map branch_of ys ≡ branch_of b ∷ []
only_branch xs ys b e f = ap (map branch_of) (f ∙ ap (λ (u : List PrismBranch). u ++ b ∷ []) e)
