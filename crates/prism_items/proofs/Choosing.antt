-- Alternatives that the first token tells apart, in declarations.
use Rattle.std.proofs.Common.{◌≡◌, Bool, true, false, List, [], ◌∷◌, Option, Some, None, refl, sym, ap, subst, ◌∙◌, inl, inr}
use Rattle.op_trees.specs.declared.tree.Ty.{Ty}
use Rattle.op_trees.specs.declared.tree.Ty.TheVariants as T
use Rattle.prism_lex.specs.declared.token.TokenKind.{TokenKind}
use Rattle.prism_lex.specs.declared.token.TokenKind.TheVariants as K
use Rattle.prism_lex.specs.declared.words.Reserved.TheVariants as W
use Rattle.prism_lex.specs.declared.symbols.Symbol.TheVariants as S
use Rattle.prism_lex.specs.Tokens.{Lexeme}
use Rattle.prism_tree.specs.Lang.{Lang, token, gives, never, ◌>>=◌, ◌>>◌, ◌or◌, optional}
use Rattle.prism_tree.specs.Grammar.{word, symbol, const_type, range, int_too}
use Rattle.prism_exprs.specs.declared.tokens.Cause.TheVariants as C
use Rattle.prism_exprs.specs.Reading.{Ends, none, Reads, starts, is_kind, same_kind}
use Rattle.prism_exprs.specs.Scope.{Scope, Halts, expressions}
use Rattle.prism_exprs.proofs.Laws.{none_ends}
use Rattle.prism_exprs.proofs.Choice.{Same, Opens, Barred, token_opens, then_opens, or_opens, or_word, or_barred, gives_barred}
use Rattle.prism_exprs.proofs.Furthest.{or_then}
use Rattle.prism_exprs.proofs.Loops.{starts_is}
use Rattle.prism_exprs.proofs.Grouping.{same_trans, same_then, assoc, gives_then}
use Rattle.prism_items.specs.Parts.{in_scope, closed_by, domain, type_of, behind_type, type_front}
use Rattle.prism_items.proofs.Leading.{begin, step, Leads, leads_on, same_leads, or_left, or_right, opens_barred, barred_halts}
use Rattle.prism_items.proofs.Closing.{differ, either_way, passes}
use Rattle.prism_items.proofs.Declaring.{IsType, given, given_opens, given_one, bounds_opens, bounds_word, domain_word, truth_opens, also_opens}

-- ---- by the first token

-- What goes on stands next, so it does not end here.
pub gives_off : {A : Type 0} (a : A) (more : TokenKind → Bool) (kind : TokenKind) (ts : List Lexeme) → more kind ≡ true → starts (is_kind kind) ts ≡ true → Barred (gives a) more ts
gives_off a more kind ts m e =
    let n = starts_is kind ts e in
    let F : List Lexeme → Type 0 = λ u. Barred (gives a) more u in
    subst F (sym n.2) (gives_barred a more n.0 n.1 (passes more kind true m (n.0).kind n.3))

pub gives_here : {A : Type 0} (a : A) (more : TokenKind → Bool) (ts : List Lexeme) → Ends more ts → Reads (gives a) more ts a ts
unfolding gives
gives_here a more ts e = record { word = []; parts = refl; spells = (refl, refl); ends = e }

-- What opens with another token does not stand here.
pub opens_off : {A : Type 0} (L : Lang A) (P : TokenKind → Type 0) (m : TokenKind → Bool) (kind : TokenKind) (ts : List Lexeme) → Opens L P → ((k : TokenKind) → k ≡ kind → P k → ⊥) → starts (is_kind kind) ts ≡ true → Barred L m ts
opens_off L P m kind ts o apart e =
    let n = starts_is kind ts e in
    opens_barred L P m ts o (λ t us f p.
    let g : t ∷ us ≡ n.0 ∷ n.1 = sym f ∙ n.2 in
    let h : n.0 ≡ t = cc in
    apart t.kind (sym (ap (λ (u : Lexeme). u.kind) h) ∙ n.3) p)

-- What opens with this token does not stand here.
pub not_here : {A : Type 0} (L : Lang A) (m : TokenKind → Bool) (kind : TokenKind) (ts : List Lexeme) → Opens L (λ k. k ≡ kind) → same_kind kind kind ≡ true → starts (is_kind kind) ts ≡ false → Barred L m ts
not_here L m kind ts o same e = opens_barred L (λ k. k ≡ kind) m ts o (λ t us f p.
    let F : List Lexeme → Type 0 = λ u. starts (is_kind kind) u ≡ false in
    let G : TokenKind → Type 0 = λ k. same_kind k kind ≡ false in
    let n : same_kind kind kind ≡ false = subst G p (subst F f e) in
    let y : same_kind kind kind ≡ true = same in
    absurd cc)

pub same_opens : {A : Type 0} {L M : Lang A} (P : TokenKind → Type 0) → Same L M → Opens M P → Opens L P
same_opens P s o w a p = o w a (s.to w a p)

-- ---- the type of a constant

none_type : (k : TokenKind) → type_of k ≡ None → IsType k → ⊥
none_type k e (inl f) = let g : type_of k ≡ Some T.Int = ap type_of f in absurd cc
none_type k e (inr (inl f)) = let g : type_of k ≡ Some T.Real = ap type_of f in absurd cc
none_type k e (inr (inr f)) = let g : type_of k ≡ Some T.Bool = ap type_of f in absurd cc

given_word : (t : Lexeme) (ty : Ty) (k : TokenKind) → t.kind ≡ k → type_of k ≡ Some ty → given (t ∷ []) ty
unfolding token ◌>>=◌ ◌or◌ gives
given_word t ty (K.Word W.Int) e h = inl (t, t ∷ [], [], refl, (refl, e), (refl, cc))
given_word t ty (K.Word W.Double) e h = inr (inl (t, t ∷ [], [], refl, (refl, e), (refl, cc)))
given_word t ty (K.Word W.BoolWord) e h = inr (inr (t, t ∷ [], [], refl, (refl, e), (refl, cc)))
given_word t ty k e h = absurd cc

-- What stands behind the type is left to be read.
pub type_leads : {B : Type 0} (s : Scope) (M : Ty → Lang B) (more : TokenKind → Bool) (ts : List Lexeme) → ((x : Ty) → Opens (M x) (λ k. k ≡ K.Ident)) →
    Leads more (in_scope const_type s >>= M) ts (M (type_front ts).0) (type_front ts).1
unfolding const_type
type_leads {B} s M more ts o = leads_on (same_leads more ts (or_then _ _ _)) (by_list ts)
  where
    missing : (ts : List Lexeme) → Barred (given >>= M) more ts → Leads more ((gives T.Int >>= M) or (given >>= M)) ts (M T.Int) ts
    missing ts b = leads_on (or_left _ _ more ts b) (same_leads more ts (gives_then T.Int M))

    by_type : (t : Lexeme) (us : List Lexeme) (ty : Option Ty) → type_of t.kind ≡ ty → Leads more ((gives T.Int >>= M) or (given >>= M)) (t ∷ us) (M (behind_type ty t us).0) (behind_type ty t us).1
    by_type t us None e =
        missing (t ∷ us) (opens_barred _ IsType more (t ∷ us) (then_opens _ _ given_opens) (λ u vs f p.
        let F : Lexeme → Type 0 = λ x. type_of x.kind ≡ None in
        let g : t ≡ u = cc in
        none_type u.kind (subst F g e) p))
    by_type t us (Some ty) e =
        leads_on (or_right _ _ more (t ∷ us) (opens_barred _ (λ k. k ≡ K.Ident) more (t ∷ us) (same_opens (λ k. k ≡ K.Ident) (gives_then T.Int M) (o T.Int)) (λ u vs f p.
        let F : Lexeme → Type 0 = λ x. type_of x.kind ≡ Some ty in
        let g : t ≡ u = cc in
        let h : type_of u.kind ≡ Some ty = subst F g e in
        let i : type_of u.kind ≡ None = ap type_of p in
        absurd cc)))
        (step _ _ (begin _ more _) (given_one none) (record { word = t ∷ []; parts = refl; spells = given_word t ty t.kind refl e; ends = none_ends us }))

    by_list : (ts : List Lexeme) → Leads more ((gives T.Int >>= M) or (given >>= M)) ts (M (type_front ts).0) (type_front ts).1
    by_list [] = missing [] (opens_barred _ IsType more [] (then_opens _ _ given_opens) (λ u vs f p. absurd cc))
    by_list (t ∷ us) = by_type t us (type_of t.kind) refl

-- ---- an expression that may be missing, and the semicolon

-- It is missing.
pub ended_none : (s : Scope) (k : TokenKind) (ts : List Lexeme) → same_kind k k ≡ true → starts (is_kind k) ts ≡ false →
    Leads none (closed_by (K.Symbol S.Semicolon) (optional (token k >> expressions s))) ts (symbol S.Semicolon >>= λ t. gives None) ts
unfolding closed_by
ended_none s k ts same e =
    leads_on (same_leads none ts (or_then _ _ _))
    (leads_on (or_left _ _ none ts (not_here _ none k ts (then_opens _ _ (then_opens _ _ (then_opens _ _ (token_opens k)))) same e))
    (same_leads none ts (gives_then None _)))

-- It stands here.
pub ended_some : (s : Scope) (k : TokenKind) (ts : List Lexeme) → same_kind k (K.Symbol S.Semicolon) ≡ false → starts (is_kind k) ts ≡ true →
    Leads none (closed_by (K.Symbol S.Semicolon) (optional (token k >> expressions s))) ts (token k >>= λ t. expressions s >>= λ e. symbol S.Semicolon >>= λ u. gives (Some e)) ts
unfolding closed_by
ended_some s k ts apart e =
    leads_on (same_leads none ts (or_then _ _ _))
    (leads_on (or_right _ _ none ts (opens_off _ _ none k ts (same_opens (λ j. j ≡ K.Symbol S.Semicolon) (gives_then None _) (then_opens _ _ (token_opens _))) (differ k (K.Symbol S.Semicolon) refl apart) e))
    (same_leads none ts (same_trans (assoc _ _ _) (same_trans (assoc _ _ _) (same_then _ _ _ (λ t. same_then _ _ _ (λ e. gives_then (Some e) _)))))))

-- The type was looked at.
pub typed : {B : Type 0} (s : Scope) (M : Ty → Lang B) (more : TokenKind → Bool) {L : Lang B} {ts us vs : List Lexeme} {ty : Ty} → ((x : Ty) → Opens (M x) (λ k. k ≡ K.Ident)) →
    Leads more L ts (in_scope const_type s >>= M) us → (ty, vs) ≡ type_front us → Leads more L ts (M ty) vs
typed s M more {L} {ts} {us} {vs} {ty} o l e =
    let F : Ty × List Lexeme → Type 0 = λ p. Leads more L ts (M p.0) p.1 in
    subst F (sym e) (leads_on l (type_leads s M more us o))

-- ---- what stands behind the colon of a variable

pub domain_range : (s : Scope) (ts : List Lexeme) → starts (is_kind (K.Symbol S.LeftBracket)) ts ≡ true → Leads none (in_scope domain s) ts (in_scope range s >>= λ r. gives (Some r)) ts
unfolding domain
domain_range s ts e =
    or_left _ _ none ts (opens_off _ _ none (K.Symbol S.LeftBracket) ts (or_opens _ _ truth_opens (also_opens s)) (λ k. either_way (differ (K.Symbol S.LeftBracket) (K.Word W.BoolWord) refl refl k) (differ (K.Symbol S.LeftBracket) (K.Word W.Int) refl refl k)) e)

pub domain_bool : (s : Scope) (ts : List Lexeme) → starts (is_kind (K.Word W.BoolWord)) ts ≡ true → Leads none (in_scope domain s) ts (word W.BoolWord >> gives None) ts
unfolding domain
domain_bool s ts e =
    leads_on (or_right _ _ none ts (opens_off _ _ none (K.Word W.BoolWord) ts (bounds_opens s) (differ (K.Word W.BoolWord) (K.Symbol S.LeftBracket) refl refl) e))
    (or_left _ _ none ts (opens_off _ _ none (K.Word W.BoolWord) ts (also_opens s) (differ (K.Word W.BoolWord) (K.Word W.Int) refl refl) e))

never_barred : (b : Bool) (ts : List Lexeme) → b ≡ false → Barred (int_too b) none ts
unfolding never
never_barred true ts e = absurd cc
never_barred false ts e = λ other w z x n f h g. h

int_word : (b : Bool) (t : Lexeme) → b ≡ true → t.kind ≡ K.Word W.Int → int_too b (t ∷ []) None
unfolding token ◌>>=◌ gives
int_word true t e h = (t, t ∷ [], [], refl, (refl, h), (refl, refl))
int_word false t e h = absurd cc

-- The word int stands here.
pub domain_int : (ts : List Lexeme) → starts (is_kind (K.Word W.Int)) ts ≡ true → (s : Scope) → Halts s C.Type (in_scope domain s) none ts ts
unfolding domain ◌or◌
domain_int ts e s = record {
  before = [];
  parts = refl;
  begins = domain_word s;
  dead = λ n.
      or_barred _ _ none ts (opens_off _ _ none (K.Word W.Int) ts (bounds_opens s) (differ (K.Word W.Int) (K.Symbol S.LeftBracket) refl refl) e)
      (or_barred _ _ none ts (opens_off _ _ none (K.Word W.Int) ts truth_opens (differ (K.Word W.Int) (K.Word W.BoolWord) refl refl) e) (never_barred s.int_too ts n));
  goes = λ n. let i = starts_is (K.Word W.Int) ts e in (i.0, i.1, i.2, ([], None, inr (inr (int_word s.int_too i.0 n i.3))));
}

-- Nothing stands here.
pub domain_missing : (ts : List Lexeme) → starts (is_kind (K.Symbol S.LeftBracket)) ts ≡ false → starts (is_kind (K.Word W.BoolWord)) ts ≡ false → starts (is_kind (K.Word W.Int)) ts ≡ false → (s : Scope) → Halts s C.Form (in_scope domain s) none ts ts
unfolding domain
domain_missing ts e f g s =
    barred_halts _ none ts s (or_word _ _ (bounds_word s)) (or_barred _ _ none ts (not_here _ none (K.Symbol S.LeftBracket) ts (bounds_opens s) refl e)
    (or_barred _ _ none ts (not_here _ none (K.Word W.BoolWord) ts truth_opens refl f) (not_here _ none (K.Word W.Int) ts (also_opens s) refl g)))
