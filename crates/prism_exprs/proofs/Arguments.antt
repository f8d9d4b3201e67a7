-- The steps of the readers of a name and of arguments.
use Rattle.std.proofs.Common.{rules, ◌≡◌, ℕ, true, false, List, [], ◌∷◌, Option, Some, None, refl, sym, subst, map, length, ◌<◌}
use Rattle.std.specs.Prelude.{Result}
use Rattle.std.proofs.lemmas.Bool.{or_left, or_from}
use Rattle.op_trees.specs.Tree.{One, Two}
use Rattle.prism_lex.specs.declared.token.TokenKind.TheVariants as K
use Rattle.prism_lex.specs.declared.words.Reserved.{Reserved}
use Rattle.prism_lex.specs.declared.words.Reserved.TheVariants as W
use Rattle.prism_lex.specs.declared.symbols.Symbol.TheVariants as S
use Rattle.prism_lex.specs.Tokens.{Lexeme}
use denote.Enum.Bare.{sameb, same_true}
use Rattle.prism_tree.specs.contracts.operator.PrismOp.{the_type as operators}
use Rattle.prism_tree.specs.declared.operator.PrismOp.{PrismOp}
use Rattle.prism_tree.specs.declared.operator.PrismOp.TheVariants as O
use Rattle.prism_exprs.specs.declared.tokens.Kept.TheVariants as H
use Rattle.prism_exprs.specs.declared.tokens.Found.{Found}
use Rattle.prism_exprs.specs.declared.tokens.Literal.{Literal}
use Rattle.prism_exprs.specs.declared.tokens.Stop.{Stop}
use Rattle.prism_exprs.specs.declared.tokens.Tokens.{Tokens}
use Rattle.prism_tree.specs.Syntax.{Expression}
use Rattle.prism_tree.specs.Lang.{Lang, gives, never, ◌>>=◌, ◌or◌}
use Rattle.prism_exprs.specs.Kept.{lexeme_at}
use Rattle.prism_exprs.specs.Reading.{Ends, none, Parses, Reads, Fails, Stops, starts, is_kind}
use Rattle.prism_tree.specs.Grammar.{symbol, word, argument, one_argument, two_arguments, arguments, extremum, prim, expr}
use Rattle.prism_exprs.specs.Levels.{more, enclosed, goes_on, lists_on, more_arguments, both, listed}
use Rattle.prism_exprs.proofs.Laws.{IsOne, HasWord, Follows, token_one, token_word, token_follows, gives_one, gives_word, step_one, then_one, then_word}
use Rattle.prism_exprs.proofs.Grouping.{same_trans, same_sym, same_then, assoc, gives_then}
use Rattle.prism_exprs.proofs.Choice.{Same, Barred, or_reads_left, gives_barred, token_opens, then_opens, opens_follows, folding_word, folding_follows, folding_one}
use Rattle.prism_exprs.proofs.Loops.{Leads, leads_on, begin, same_leads, step, step_to, halt, halt_at, or_leads_right, parses_via, folding_leads, folding_stops, folding_reads, starts_cons, reads_shorter}
use Rattle.prism_exprs.proofs.Keeping.{place_kept}
use Rattle.prism_exprs.proofs.Cut.{gives_or_fails}
use Rattle.prism_exprs.proofs.Exprs.{expr_one, expr_word, argument_opens, argument_one, comma_repeats, comma_not_on, gives_follows, then_follows}
use Rattle.prism_exprs.proofs.Prims.{prim_min, prim_max}
use Rattle.prism_exprs.proofs.Operands.{kind_kept, word_reads}
use Rattle.prism_exprs.proofs.Conditionals.{map_cons}
use Rattle.prism_exprs.proofs.Symbols.{closed_reads}

-- ---- a name, and what may stand behind it

open_on : (t : Lexeme) → is_kind (K.Symbol S.LeftParenthesis) t.kind ≡ true → more 0 t.kind ≡ true
open_on t h = or_left _ _ h

pub name_alone : (e : Expression) (M : Lang Expression) (ts : List Lexeme) → starts (is_kind (K.Symbol S.LeftParenthesis)) ts ≡ false → Reads (gives e or M) (more 0) ts e ts
name_alone e M ts h = or_reads_left (gives e) M (closed_reads e ts h)

called : (e : Expression) (M : Lang Expression) (ts : List Lexeme) → starts (is_kind (K.Symbol S.LeftParenthesis)) ts ≡ true → Leads (more 0) (gives e or M) ts M ts
called e M ts h =
    let n = starts_cons (is_kind (K.Symbol S.LeftParenthesis)) ts h in
    let F : List Lexeme → Type 0 = λ u. Barred (gives e) (more 0) u in
    or_leads_right (gives e) M (more 0) ts (subst F (sym n.2) (gives_barred e (more 0) n.0 n.1 (open_on n.0 n.3)))

-- the argument of floor and ceil
pub one_called : (e : Expression) (f : Option PrismOp) (o : PrismOp) (at : ℕ) (ts : List Lexeme) → starts (is_kind (K.Symbol S.LeftParenthesis)) ts ≡ true → Some o ≡ f → sameb operators o O.Mod ≡ false →
    Leads (more 0) (gives e or arguments expr f at) ts (one_argument expr o at) ts
one_called e f o at ts h g n =
    let F : Option PrismOp → Type 0 = λ p. Leads (more 0) (gives e or arguments expr p at) ts (one_argument expr o at) ts in
    let G : Lang Expression → Type 0 = λ M. Leads (more 0) (gives e or M) ts (one_argument expr o at) ts in
    subst F g (subst G (sym (of_one o n)) (called e (one_argument expr o at) ts h))
  where
    of_one : (o : PrismOp) → sameb operators o O.Mod ≡ false → arguments expr (Some o) at ≡ one_argument expr o at
    of_one O.Mod n = cc
    of_one o n = refl

-- the arguments of mod
pub two_called : (e : Expression) (f : Option PrismOp) (o : PrismOp) (at : ℕ) (ts : List Lexeme) → starts (is_kind (K.Symbol S.LeftParenthesis)) ts ≡ true → Some o ≡ f → sameb operators o O.Mod ≡ true →
    Leads (more 0) (gives e or arguments expr f at) ts (two_arguments expr o at) ts
two_called e f o at ts h g y =
    let F : Option PrismOp → Type 0 = λ p. Leads (more 0) (gives e or arguments expr p at) ts (two_arguments expr o at) ts in
    let G : PrismOp → Type 0 = λ p. Leads (more 0) (gives e or arguments expr (Some p) at) ts (two_arguments expr p at) ts in
    subst F g (subst G (sym (same_true operators (search rules) o O.Mod y)) (called e (two_arguments expr O.Mod at) ts h))

never_barred : (ts : List Lexeme) → Barred (never {A = Expression}) (more 0) ts
unfolding never
never_barred ts other w z x e f h g = h

pub not_called : (e : Expression) (f : Option PrismOp) (at : ℕ) (ts : List Lexeme) → starts (is_kind (K.Symbol S.LeftParenthesis)) ts ≡ true → None ≡ f → Fails (gives e or arguments expr f at) (more 0) ts ts
not_called e f at ts h g =
    let n = starts_cons (is_kind (K.Symbol S.LeftParenthesis)) ts h in
    let F : Option PrismOp → Type 0 = λ p. Fails (gives e or arguments expr p at) (more 0) ts ts in
    let G : List Lexeme → Type 0 = λ u. Fails (gives e or never) (more 0) u u in
    subst F g (subst G (sym n.2) (gives_or_fails e never (more 0) n.0 n.1 (open_on n.0 n.3) (never_barred (n.0 ∷ n.1))))

-- ---- one argument more

pub comma_stops : (ts : List Lexeme) (e : Stop) → Stops (symbol S.Comma) none ts e → Stops (argument expr) goes_on ts e
unfolding argument
comma_stops ts e p = halt _ _ (begin (argument expr) goes_on ts) (λ c. expr_word) e p

pub comma_leads : (ts us : List Lexeme) (c : Lexeme) → Reads (symbol S.Comma) none ts c us → Leads goes_on (argument expr) ts expr us
unfolding argument
comma_leads ts us c p = step _ _ (begin (argument expr) goes_on ts) (token_one _) p

-- ---- ( E )

-- what stands behind the opening parenthesis of an argument
abbrev pub behind_one : PrismOp → ℕ → Lang Expression
behind_one o at = expr >>= λ e. symbol S.RightParenthesis >>= λ c. gives (One at o e)

pub one_open_stops : (o : PrismOp) (at : ℕ) (ts : List Lexeme) (e : Stop) → Stops (symbol S.LeftParenthesis) none ts e → Stops (one_argument expr o at) (more 0) ts e
unfolding one_argument
one_open_stops o at ts e p = halt _ _ (begin (one_argument expr o at) (more 0) ts) (λ t. then_word expr_word (λ x. then_word (token_word _) (λ c. gives_word _))) e p

pub one_open_leads : (o : PrismOp) (at : ℕ) (ts us : List Lexeme) (c : Lexeme) → Reads (symbol S.LeftParenthesis) none ts c us → Leads (more 0) (one_argument expr o at) ts (behind_one o at) us
unfolding one_argument
one_open_leads o at ts us c p = step _ _ (begin (one_argument expr o at) (more 0) ts) (token_one _) p

pub one_inner_stops : {L : Lang Expression} (o : PrismOp) (at : ℕ) (ts us : List Lexeme) (e : Stop) → Leads (more 0) L ts (behind_one o at) us → Stops expr goes_on us e → Stops L (more 0) ts e
one_inner_stops o at ts us e l p = halt_at _ _ l (λ x. then_word (token_word _) (λ c. gives_word (One at o x))) (token_follows goes_on (K.Symbol S.RightParenthesis) _ (more 0) refl) e p

pub one_inner_leads : {L : Lang Expression} (o : PrismOp) (at : ℕ) (ts us vs : List Lexeme) (x : Expression) → Leads (more 0) L ts (behind_one o at) us → Reads expr goes_on us x vs →
    Leads (more 0) L ts (symbol S.RightParenthesis >>= λ c. gives (One at o x)) vs
one_inner_leads o at ts us vs x l p = step_to _ _ l expr_one (token_follows goes_on (K.Symbol S.RightParenthesis) _ (more 0) refl) p

-- the closing parenthesis of a call
pub end_stops : {L : Lang Expression} (ts us : List Lexeme) (x : Expression) (e : Stop) → Leads (more 0) L ts (symbol S.RightParenthesis >>= λ c. gives x) us → Stops (symbol S.RightParenthesis) none us e → Stops L (more 0) ts e
end_stops ts us x e l p = halt _ _ l (λ c. gives_word x) e p

pub end_leads : {L : Lang Expression} (ts us vs : List Lexeme) (x y : Expression) (c : Lexeme) → Leads (more 0) L ts (symbol S.RightParenthesis >>= λ c. gives x) us → Reads (symbol S.RightParenthesis) none us c vs → y ≡ x →
    Leads (more 0) L ts (gives y) vs
end_leads {L} ts us vs x y c l p q =
    let F : Expression → Type 0 = λ u. Leads (more 0) L ts (gives u) vs in
    subst F (sym q) (step _ _ l (token_one _) p)

-- what stands behind it is read as what gives this expression
pub enclosed_parses : {X : Type 0} {L : Lang Expression} (view : X → Expression) (ts us : List Lexeme) (x y : Expression) (r : Result (X × Tokens) Stop) →
    Leads (more 0) L ts (enclosed x) us → y ≡ x → Parses view (enclosed y) (more 0) us r →
    Parses view L (more 0) ts r
enclosed_parses {L = L} view ts us x y r l q p =
    let F : Expression → Type 0 = λ u. Leads (more 0) L ts (enclosed u) us in
    parses_via view L _ (more 0) ts us r (subst F (sym q) l) p

-- ---- ( E , E

abbrev pub behind_two : PrismOp → ℕ → Lang Expression
behind_two o at = expr >>= λ a. argument expr >>= λ b. gives (Two at o a b)

abbrev pub behind_first : PrismOp → ℕ → Expression → Lang Expression
behind_first o at a = argument expr >>= λ b. gives (Two at o a b)

argument_word : HasWord (argument expr)
unfolding argument
argument_word = then_word (token_word _) (λ c. expr_word)

pub two_open_stops : (o : PrismOp) (at : ℕ) (ts : List Lexeme) (e : Stop) → Stops (symbol S.LeftParenthesis) none ts e → Stops (both o at) goes_on ts e
unfolding both
two_open_stops o at ts e p = halt _ _ (begin (both o at) goes_on ts) (λ t. then_word expr_word (λ x. then_word argument_word (λ y. gives_word (Two at o x y)))) e p

pub two_open_leads : (o : PrismOp) (at : ℕ) (ts us : List Lexeme) (c : Lexeme) → Reads (symbol S.LeftParenthesis) none ts c us → Leads goes_on (both o at) ts (behind_two o at) us
unfolding both
two_open_leads o at ts us c p = step _ _ (begin (both o at) goes_on ts) (token_one _) p

pub two_first_stops : {L : Lang Expression} (o : PrismOp) (at : ℕ) (ts us : List Lexeme) (e : Stop) → Leads goes_on L ts (behind_two o at) us → Stops expr goes_on us e → Stops L goes_on ts e
two_first_stops o at ts us e l p = halt_at _ _ l (λ x. then_word argument_word (λ y. gives_word (Two at o x y))) (opens_follows goes_on goes_on (λ a. then_opens _ _ (argument_opens expr)) comma_not_on) e p

pub two_first_leads : {L : Lang Expression} (o : PrismOp) (at : ℕ) (ts us vs : List Lexeme) (x : Expression) → Leads goes_on L ts (behind_two o at) us → Reads expr goes_on us x vs → Leads goes_on L ts (behind_first o at x) vs
two_first_leads o at ts us vs x l p = step_to _ _ l expr_one (opens_follows goes_on goes_on (λ a. then_opens _ _ (argument_opens expr)) comma_not_on) p

pub two_second_stops : {L : Lang Expression} (o : PrismOp) (at : ℕ) (ts us : List Lexeme) (x : Expression) (e : Stop) → Leads goes_on L ts (behind_first o at x) us → Stops (argument expr) goes_on us e → Stops L goes_on ts e
two_second_stops o at ts us x e l p = halt_at _ _ l (λ y. gives_word (Two at o x y)) (gives_follows (λ y. Two at o x y) goes_on) e p

pub two_reads : {L : Lang Expression} (o : PrismOp) (at : ℕ) (ts us vs : List Lexeme) (x y z : Expression) → Leads goes_on L ts (behind_first o at x) us → Reads (argument expr) goes_on us y vs → z ≡ Two at o x y →
    Reads L goes_on ts z vs
unfolding gives
two_reads o at ts us vs x y z l p q =
    (step_to _ _ l (argument_one expr expr_one) (gives_follows (λ y. Two at o x y) goes_on) p).reads z vs (record { word = []; parts = refl; spells = (refl, q); ends = p.ends })

both_one : (o : PrismOp) (at : ℕ) → IsOne (both o at) goes_on
unfolding both
both_one o at =
    step_one _ (token_one _) (λ t. then_one goes_on expr_one (λ a. then_one goes_on (argument_one expr expr_one) (λ b. gives_one _ goes_on) (gives_follows (λ b. Two at o a b) goes_on))
    (opens_follows goes_on goes_on (λ a. then_opens _ _ (argument_opens expr)) comma_not_on))

both_then : (o : PrismOp) (at : ℕ) (N : Expression → Lang Expression) → Same (both o at >>= N) (symbol S.LeftParenthesis >>= λ t. expr >>= λ a. argument expr >>= λ b. N (Two at o a b))
unfolding both
both_then o at N =
    same_trans (assoc _ _ _) (same_then _ _ _ (λ t. same_trans (assoc _ _ _) (same_then _ _ _ (λ a. same_trans (assoc _ _ _) (same_then _ _ _ (λ b. gives_then (Two at o a b) N))))))

pub both_shorter : (o : PrismOp) (at : ℕ) (ts us : List Lexeme) (x : Expression) → Reads (both o at) goes_on ts x us → length us < length ts
unfolding both
both_shorter o at ts us x p = reads_shorter _ (then_opens _ _ (token_opens (K.Symbol S.LeftParenthesis))) p

-- ---- ( E , E )

two-both : (o : PrismOp) (at : ℕ) → Same (two_arguments expr o at) (both o at >>= λ e. symbol S.RightParenthesis >>= λ c. gives e)
unfolding two_arguments
two-both o at = same_sym (both_then o at (λ e. symbol S.RightParenthesis >>= λ c. gives e))

pub two_both_stops : (o : PrismOp) (at : ℕ) (ts : List Lexeme) (e : Stop) → Stops (both o at) goes_on ts e → Stops (two_arguments expr o at) (more 0) ts e
two_both_stops o at ts e p =
    halt_at _ _ (same_leads (more 0) ts (two-both o at)) (λ x. then_word (token_word _) (λ c. gives_word x)) (token_follows goes_on (K.Symbol S.RightParenthesis) _ (more 0) refl) e p

pub two_both_leads : (o : PrismOp) (at : ℕ) (ts us : List Lexeme) (x : Expression) → Reads (both o at) goes_on ts x us → Leads (more 0) (two_arguments expr o at) ts (symbol S.RightParenthesis >>= λ c. gives x) us
two_both_leads o at ts us x p = step_to _ _ (same_leads (more 0) ts (two-both o at)) (both_one o at) (token_follows goes_on (K.Symbol S.RightParenthesis) _ (more 0) refl) p

-- ---- { , E }

pub more_one : (o : PrismOp) (at : ℕ) (x : Expression) → IsOne (more_arguments o at x) lists_on
more_one o at x = folding_one (λ y z. Two at o y z) x (argument_opens expr) comma_repeats (argument_one expr expr_one)

pub more_word : (o : PrismOp) (at : ℕ) (x : Expression) → HasWord (more_arguments o at x)
more_word o at x = folding_word (λ y z. Two at o y z) (argument expr) x

-- No comma stands next.
pub more_ended : (o : PrismOp) (at : ℕ) (x : Expression) (ts : List Lexeme) → Ends goes_on ts → starts (is_kind (K.Symbol S.Comma)) ts ≡ false → Reads (more_arguments o at x) lists_on ts x ts
more_ended o at x ts e h = folding_reads (λ y z. Two at o y z) (argument expr) x ts (ends ts e h)
  where
    ends : (ts : List Lexeme) → Ends goes_on ts → starts (is_kind (K.Symbol S.Comma)) ts ≡ false → Ends lists_on ts
    ends [] e h = tt
    ends (t ∷ ts) e h = or_from _ _ h e

-- One more argument is read.
pub more_leads : (o : PrismOp) (at : ℕ) (x y z : Expression) (ts us : List Lexeme) → Reads (argument expr) goes_on ts y us → z ≡ Two at o x y → Leads lists_on (more_arguments o at x) ts (more_arguments o at z) us
more_leads o at x y z ts us p q =
    let F : Expression → Type 0 = λ u. Leads lists_on (more_arguments o at x) ts (more_arguments o at u) us in
    subst F (sym q) (folding_leads (λ y z. Two at o y z) x y (argument_opens expr) comma_repeats (argument_one expr expr_one) p)

-- It fails.
pub more_stops : (o : PrismOp) (at : ℕ) (x : Expression) (ts : List Lexeme) (e : Stop) → starts (is_kind (K.Symbol S.Comma)) ts ≡ true → Stops (argument expr) goes_on ts e → Stops (more_arguments o at x) lists_on ts e
more_stops o at x ts e h p =
    let n = starts_cons (is_kind (K.Symbol S.Comma)) ts h in
    let F : List Lexeme → Type 0 = λ u. Stops (argument expr) goes_on u e in
    let G : List Lexeme → Type 0 = λ u. Stops (more_arguments o at x) lists_on u e in
    subst G (sym n.2) (folding_stops (λ y z. Two at o y z) x n.0 n.1 e (argument_opens expr) comma_repeats (or_left _ _ n.3) (subst F n.2 p))

-- ---- ( E , E { , E } )

abbrev pub behind_both : PrismOp → ℕ → Expression → Lang Expression
behind_both o at x = more_arguments o at x >>= λ e. symbol S.RightParenthesis >>= λ c. gives e

behind_both_word : (o : PrismOp) (at : ℕ) (x : Expression) → HasWord (behind_both o at x)
behind_both_word o at x = then_word (more_word o at x) (λ e. then_word (token_word _) (λ c. gives_word e))

listed-both : (o : PrismOp) (at : ℕ) → Same (listed o at) (both o at >>= λ x. behind_both o at x)
unfolding listed
listed-both o at = same_sym (both_then o at (λ x. behind_both o at x))

both_follows : (o : PrismOp) (at : ℕ) → Follows goes_on (λ x. behind_both o at x) (more 0)
both_follows o at =
    then_follows lists_on (folding_follows (λ y z. Two at o y z) (argument_opens expr) comma_repeats (λ x. x)) (λ b. token_follows lists_on (K.Symbol S.RightParenthesis) _ (more 0) refl)

pub listed_both_stops : (o : PrismOp) (at : ℕ) (ts : List Lexeme) (e : Stop) → Stops (both o at) goes_on ts e → Stops (listed o at) (more 0) ts e
listed_both_stops o at ts e p = halt_at _ _ (same_leads (more 0) ts (listed-both o at)) (λ x. behind_both_word o at x) (both_follows o at) e p

pub listed_both_leads : (o : PrismOp) (at : ℕ) (ts us : List Lexeme) (x : Expression) → Reads (both o at) goes_on ts x us → Leads (more 0) (listed o at) ts (behind_both o at x) us
listed_both_leads o at ts us x p = step_to _ _ (same_leads (more 0) ts (listed-both o at)) (both_one o at) (both_follows o at) p

pub listed_more_stops : {L : Lang Expression} (o : PrismOp) (at : ℕ) (ts us : List Lexeme) (x : Expression) (e : Stop) → Leads (more 0) L ts (behind_both o at x) us → Stops (more_arguments o at x) lists_on us e →
    Stops L (more 0) ts e
listed_more_stops o at ts us x e l p = halt_at _ _ l (λ y. then_word (token_word _) (λ c. gives_word y)) (token_follows lists_on (K.Symbol S.RightParenthesis) _ (more 0) refl) e p

pub listed_more_leads : {L : Lang Expression} (o : PrismOp) (at : ℕ) (ts us vs : List Lexeme) (x y : Expression) → Leads (more 0) L ts (behind_both o at x) us → Reads (more_arguments o at x) lists_on us y vs →
    Leads (more 0) L ts (symbol S.RightParenthesis >>= λ c. gives y) vs
listed_more_leads o at ts us vs x y l p = step_to _ _ l (more_one o at x) (token_follows lists_on (K.Symbol S.RightParenthesis) _ (more 0) refl) p

-- ---- min and max

extremum_leads : (r : Reserved) (o : PrismOp) (t : Lexeme) (ts us : List Lexeme) → Reads (word r) none ts t us → Leads (more 0) (extremum expr r o) ts (listed o t.at) us
unfolding extremum listed
extremum_leads r o t ts us p = step _ _ (begin (extremum expr r o) (more 0) ts) (token_one _) p

pub min_leads : (bytes : List ℕ) (literals : List Literal) (found xs : List Found) (x : Found) (us : List Lexeme) → found ≡ x ∷ xs → x.kind ≡ H.Word W.Min → us ≡ map (lexeme_at bytes literals) xs →
    Leads (more 0) (prim expr) (map (lexeme_at bytes literals) found) (listed O.Min x.at) us
min_leads bytes literals found xs x us e h g =
    let f = lexeme_at bytes literals in
    let F : ℕ → Type 0 = λ n. Leads (more 0) (prim expr) (map f found) (listed O.Min n) us in
    subst F (place_kept bytes literals x.kind x.at x.size)
    (leads_on (prim_min (map f found) (map f xs) (f x) (map_cons f found xs x e) (kind_kept bytes literals x (H.Word W.Min) h))
    (extremum_leads W.Min O.Min (f x) (map f found) us (word_reads bytes literals found xs x W.Min us e h g)))

pub max_leads : (bytes : List ℕ) (literals : List Literal) (found xs : List Found) (x : Found) (us : List Lexeme) → found ≡ x ∷ xs → x.kind ≡ H.Word W.Max → us ≡ map (lexeme_at bytes literals) xs →
    Leads (more 0) (prim expr) (map (lexeme_at bytes literals) found) (listed O.Max x.at) us
max_leads bytes literals found xs x us e h g =
    let f = lexeme_at bytes literals in
    let F : ℕ → Type 0 = λ n. Leads (more 0) (prim expr) (map f found) (listed O.Max n) us in
    subst F (place_kept bytes literals x.kind x.at x.size)
    (leads_on (prim_max (map f found) (map f xs) (f x) (map_cons f found xs x e) (kind_kept bytes literals x (H.Word W.Max) h))
    (extremum_leads W.Max O.Max (f x) (map f found) us (word_reads bytes literals found xs x W.Max us e h g)))
