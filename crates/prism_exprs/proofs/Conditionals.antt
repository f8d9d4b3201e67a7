-- The steps of the reader of expressions over kept tokens: chains, and the choice behind a condition.
use Rattle.std.proofs.Common.{◌≡◌, ℕ, suc, ◌≤◌, Bool, true, false, List, [], ◌∷◌, Option, Some, None, refl, sym, ap, subst, ◌∙◌, map, length, arith}
use Rattle.std.proofs.lemmas.List.{length-append}
use Rattle.std.proofs.lemmas.Bool.{or_from, or_left}
use Rattle.op_trees.specs.Tree.{Two, Three}
use Rattle.op_trees.specs.Names.{offset_of}
use Rattle.prism_lex.specs.declared.token.TokenKind.{TokenKind}
use Rattle.prism_lex.specs.declared.token.TokenKind.TheVariants as K
use Rattle.prism_lex.specs.declared.symbols.Symbol.TheVariants as S
use Rattle.prism_lex.specs.Tokens.{Lexeme}
use Rattle.prism_tree.specs.declared.operator.PrismOp.{PrismOp}
use Rattle.prism_tree.specs.declared.operator.PrismOp.TheVariants as O
use Rattle.prism_exprs.specs.declared.tokens.Found.{Found}
use Rattle.prism_exprs.specs.declared.tokens.Literal.{Literal}
use Rattle.prism_exprs.specs.declared.tokens.Stop.{Stop}
use Rattle.prism_tree.specs.Syntax.{Expression}
use Rattle.prism_tree.specs.Lang.{Lang, token, gives, ◌>>=◌, ◌or◌}
use Rattle.prism_exprs.specs.Kept.{lexeme_at, kept_infix}
use Rattle.prism_exprs.specs.Reading.{Ends, none, Reads, Stops, starts, is_kind}
use Rattle.prism_tree.specs.Grammar.{symbol, infix_of, at_level, operator_at, level, choice, conditional, expr}
use Rattle.prism_exprs.specs.Levels.{more, goes_on, others, first_choice}
use Rattle.prism_exprs.proofs.Laws.{IsOne, token_follows, token_one, token_word, then_one, then_word, step_one, gives_one, gives_word, gives_reads, then_stops}
use Rattle.prism_exprs.proofs.Choice.{Same, Barred, or_word, or_reads_left, gives_barred, same_stops, token_opens, then_opens}
use Rattle.prism_exprs.proofs.Grouping.{same_trans, same_sym, same_then, assoc, gives_then}
use Rattle.prism_exprs.proofs.Loops.{Leads, leads_on, begin, same_leads, then_leads, or_leads_right, starts_cons, step, step_to, halt, halt_at, reads_shorter}
use Rattle.prism_exprs.proofs.Keeping.{infix_kept}
use Rattle.prism_exprs.proofs.Exprs.{level_one, expr_one, expr_word, expr-conditional, rest_follows, gives_follows}
use Rattle.prism_exprs.proofs.Climb.{chain_end, chain_lead, operand_stops}

-- ---- chains over kept tokens

pub map_cons : {A B : Type 0} (f : A → B) (found xs : List A) (x : A) → found ≡ x ∷ xs → map f found ≡ f x ∷ map f xs
map_cons f found xs x e = ap (λ (u : List _). map f u) e

operator_kept : (bytes : List ℕ) (literals : List Literal) (n : ℕ) (x : Found) (o : Option PrismOp) → o ≡ at_level n (kept_infix x.kind) → operator_at n (lexeme_at bytes literals x) ≡ o
operator_kept bytes literals n x o e = ap (λ (p : Option (ℕ × PrismOp)). at_level n p) (infix_kept bytes literals x.kind x.at x.size) ∙ sym e

pub kept_end : (bytes : List ℕ) (literals : List Literal) (n : ℕ) (found xs : List Found) (x : Found) (a : Expression) → found ≡ x ∷ xs → None ≡ at_level n (kept_infix x.kind) →
    Ends (more n) (map (lexeme_at bytes literals) found) → Reads (others n a) (more (suc n)) (map (lexeme_at bytes literals) found) a (map (lexeme_at bytes literals) found)
kept_end bytes literals n found xs x a e h ends = chain_end n _ a ends (λ t us g.
    let f = lexeme_at bytes literals in
    let i : f x ∷ map f xs ≡ t ∷ us = sym (map_cons f found xs x e) ∙ g in
    let j : f x ≡ t = cc in
    let F : Lexeme → Type 0 = λ u. at_level n (infix_of u.kind) ≡ None in
    subst F j (operator_kept bytes literals n x None h))

pub kept_end_empty : (bytes : List ℕ) (literals : List Literal) (n : ℕ) (found : List Found) (a : Expression) → length found ≡ 0 →
    Ends (more n) (map (lexeme_at bytes literals) found) → Reads (others n a) (more (suc n)) (map (lexeme_at bytes literals) found) a (map (lexeme_at bytes literals) found)
kept_end_empty bytes literals n [] a e ends = chain_end n [] a ends (λ t us g. cc)
kept_end_empty bytes literals n (x ∷ xs) a e ends = absurd (omega (arith, e))

pub kept_lead : (bytes : List ℕ) (literals : List Literal) (n : ℕ) (found xs : List Found) (x : Found) (us vs : List Lexeme) (o : PrismOp) (a b c : Expression) → found ≡ x ∷ xs →
    us ≡ map (lexeme_at bytes literals) xs → Some o ≡ at_level n (kept_infix x.kind) → Reads (level expr n) (more n) us b vs → c ≡ Two (offset_of a) o a b →
    Leads (more (suc n)) (others n a) (map (lexeme_at bytes literals) found) (others n c) vs
kept_lead bytes literals n found xs x us vs o a b c e g h p q =
    let f = lexeme_at bytes literals in
    let F : List Lexeme → Type 0 = λ u. Leads (more (suc n)) (others n a) u (others n c) vs in
    let G : Expression → Type 0 = λ u. Leads (more (suc n)) (others n a) (f x ∷ us) (others n u) vs in
    subst F (ap (λ (u : List Lexeme). f x ∷ u) g ∙ sym (map_cons f found xs x e))
    (subst G (sym q) (chain_lead n (f x) us vs o a b (operator_kept bytes literals n x (Some o) h) p))

pub kept_stops : (bytes : List ℕ) (literals : List Literal) (n : ℕ) (found xs : List Found) (x : Found) (us : List Lexeme) (o : PrismOp) (a : Expression) (s : Stop) → found ≡ x ∷ xs →
    us ≡ map (lexeme_at bytes literals) xs → Some o ≡ at_level n (kept_infix x.kind) → Stops (level expr n) (more n) us s → Stops (others n a) (more (suc n)) (map (lexeme_at bytes literals) found) s
kept_stops bytes literals n found xs x us o a s e g h p =
    let f = lexeme_at bytes literals in
    let F : List Lexeme → Type 0 = λ u. Stops (others n a) (more (suc n)) u s in
    subst F (ap (λ (u : List Lexeme). f x ∷ u) g ∙ sym (map_cons f found xs x e)) (operand_stops n (f x) us o a s (operator_kept bytes literals n x (Some o) h) p)

pub kept_shorter : {A : Type 0} {L : Lang A} (m : TokenKind → Bool) (f : Found → Lexeme) (found xs : List Found) (x : Found) (us vs : List Lexeme) (b : A) → found ≡ x ∷ xs → us ≡ map f xs →
    Reads L m us b vs → suc (length vs) ≤ length (map f found)
kept_shorter m f found xs x us vs b e g p = omega (arith, ap length (map_cons f found xs x e), ap length g, ap length p.parts, length-append p.word vs)

-- ---- conditionals

pub test_stops : (ts : List Lexeme) (e : Stop) → Stops (level expr 10) (more 10) ts e → Stops expr goes_on ts e
unfolding conditional
test_stops ts e p = same_stops goes_on ts e expr-conditional (then_stops (level expr 10) _ (more 10) goes_on ts e (λ c. or_word _ _ (gives_word c)) (rest_follows expr) p)

pub test_leads : (ts us : List Lexeme) (c : Expression) → Reads (level expr 10) (more 10) ts c us → Leads goes_on expr ts (gives c or choice expr c) us
unfolding conditional
test_leads ts us c p = leads_on (same_leads goes_on ts expr-conditional) (then_leads (λ c. gives c or choice expr c) (more 10) goes_on (level_one expr 10 expr_one) (rest_follows expr) p)

-- No question mark stands behind the condition.
pub test_alone : (ts us : List Lexeme) (c : Expression) → Reads (level expr 10) (more 10) ts c us → starts (is_kind (K.Symbol S.Question)) us ≡ false → Reads expr goes_on ts c us
unfolding gives
test_alone ts us c p h = (test_leads ts us c p).reads c us (or_reads_left (gives c) (choice expr c) (record { word = []; parts = refl; spells = (refl, refl); ends = ends us p.ends h }))
  where
    ends : (us : List Lexeme) → Ends (more 10) us → starts (is_kind (K.Symbol S.Question)) us ≡ false → Ends goes_on us
    ends [] e h = tt
    ends (t ∷ us) e h = or_from _ _ h e

-- A question mark stands behind it.
pub choice_leads : (ts us : List Lexeme) (c : Expression) → Reads (level expr 10) (more 10) ts c us → starts (is_kind (K.Symbol S.Question)) us ≡ true → Leads goes_on expr ts (choice expr c) us
choice_leads ts us c p h =
    let n = starts_cons (is_kind (K.Symbol S.Question)) us h in
    let F : List Lexeme → Type 0 = λ u. Barred (gives c) goes_on u in
    leads_on (test_leads ts us c p) (or_leads_right (gives c) (choice expr c) goes_on us (subst F (sym n.2) (gives_barred c goes_on n.0 n.1 (or_left _ _ n.3))))

choice-first : (c : Expression) → Same (choice expr c) (first_choice >>= λ a. expr >>= λ b. gives (Three (offset_of c) O.Ite c a b))
unfolding choice first_choice
choice-first c =
    same_sym (same_trans (assoc _ _ _) (same_then _ _ _ (λ q. same_trans (assoc _ _ _) (same_then _ _ _ (λ a. same_trans (assoc _ _ _) (same_then _ _ _ (λ k.
    gives_then a (λ a. expr >>= λ b. gives (Three (offset_of c) O.Ite c a b)))))))))

first_choice_one : IsOne first_choice none
unfolding first_choice
first_choice_one =
    step_one _ (token_one _) (λ q. then_one goes_on expr_one (λ a. step_one _ (token_one _) (λ k. gives_one a none)) (token_follows goes_on (K.Symbol S.Colon) _ none refl))

-- what stands behind the question mark
abbrev pub behind_question : Lang Expression
behind_question = expr >>= λ a. symbol S.Colon >>= λ k. gives a

pub question_stops : (ts : List Lexeme) (e : Stop) → Stops (symbol S.Question) none ts e → Stops first_choice none ts e
unfolding first_choice
question_stops ts e p = halt _ _ (begin first_choice none ts) (λ q. then_word expr_word (λ a. then_word (token_word _) (λ k. gives_word a))) e p

pub question_leads : (ts us : List Lexeme) (q : Lexeme) → Reads (symbol S.Question) none ts q us → Leads none first_choice ts behind_question us
unfolding first_choice
question_leads ts us q p = step _ _ (begin first_choice none ts) (token_one _) p

pub inside_stops : (ts us : List Lexeme) (e : Stop) → Leads none first_choice ts behind_question us → Stops expr goes_on us e → Stops first_choice none ts e
inside_stops ts us e l p = halt_at _ _ l (λ a. then_word (token_word _) (λ k. gives_word a)) (token_follows goes_on (K.Symbol S.Colon) _ none refl) e p

pub inside_leads : (ts us vs : List Lexeme) (a : Expression) → Leads none first_choice ts behind_question us → Reads expr goes_on us a vs → Leads none first_choice ts (symbol S.Colon >>= λ k. gives a) vs
inside_leads ts us vs a l p = step_to _ _ l expr_one (token_follows goes_on (K.Symbol S.Colon) _ none refl) p

pub colon_stops : (ts us : List Lexeme) (a : Expression) (e : Stop) → Leads none first_choice ts (symbol S.Colon >>= λ k. gives a) us → Stops (symbol S.Colon) none us e → Stops first_choice none ts e
colon_stops ts us a e l p = halt _ _ l (λ k. gives_word a) e p

pub colon_reads : (ts us vs : List Lexeme) (a : Expression) (k : Lexeme) → Leads none first_choice ts (symbol S.Colon >>= λ k. gives a) us → Reads (symbol S.Colon) none us k vs → Reads first_choice none ts a vs
colon_reads ts us vs a k l p = (step _ _ l (token_one _) p).reads a vs (gives_reads a vs)

pub first_stops : (ts : List Lexeme) (c : Expression) (e : Stop) → Stops first_choice none ts e → Stops (choice expr c) goes_on ts e
first_stops ts c e p = halt _ _ (same_leads goes_on ts (choice-first c)) (λ a. then_word expr_word (λ b. gives_word _)) e p

pub first_leads : (ts us : List Lexeme) (c a : Expression) → Reads first_choice none ts a us → Leads goes_on (choice expr c) ts (expr >>= λ b. gives (Three (offset_of c) O.Ite c a b)) us
first_leads ts us c a p = step _ _ (same_leads goes_on ts (choice-first c)) first_choice_one p

pub second_stops : (ts us : List Lexeme) (c a : Expression) (e : Stop) → Leads goes_on (choice expr c) ts (expr >>= λ b. gives (Three (offset_of c) O.Ite c a b)) us → Stops expr goes_on us e → Stops (choice expr c) goes_on ts e
second_stops ts us c a e l p = halt_at _ _ l (λ b. gives_word _) (gives_follows (λ b. Three (offset_of c) O.Ite c a b) goes_on) e p

pub choice_reads : (ts us vs : List Lexeme) (c a b x : Expression) → Leads goes_on (choice expr c) ts (expr >>= λ b. gives (Three (offset_of c) O.Ite c a b)) us → Reads expr goes_on us b vs →
    x ≡ Three (offset_of c) O.Ite c a b → Reads (choice expr c) goes_on ts x vs
unfolding gives
choice_reads ts us vs c a b x l p q =
    let m = step_to _ _ l expr_one (gives_follows (λ b. Three (offset_of c) O.Ite c a b) goes_on) p in
    m.reads x vs (record { word = []; parts = refl; spells = (refl, q); ends = p.ends })

-- ---- what was read is no longer than what stood there

pub reads_length : {A : Type 0} {L : Lang A} (m : TokenKind → Bool) (ts us : List Lexeme) (x : A) → Reads L m ts x us → length us ≤ length ts
reads_length m ts us x p = omega (arith, ap length p.parts, length-append p.word us)

pub first_shorter : (ts us : List Lexeme) (a : Expression) → Reads first_choice none ts a us → suc (length us) ≤ length ts
unfolding first_choice
first_shorter ts us a p = reads_shorter _ (then_opens _ _ (token_opens (K.Symbol S.Question))) p

pub token_shorter : (k : TokenKind) (ts us : List Lexeme) (t : Lexeme) → Reads (token k) none ts t us → suc (length us) ≤ length ts
unfolding token
token_shorter k ts us t p = omega (arith, ap length p.parts, length-append p.word us, ap length p.spells.0)
