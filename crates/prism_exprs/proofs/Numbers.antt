-- Numbers and names as they are kept, and as the grammar sees them.
use Rattle.std.proofs.Common.{◌≡◌, ℕ, Bool, true, false, List, [], ◌∷◌, ◌++◌, Option, Some, None, refl, sym, ap, subst, ◌∙◌, map, append-nil}
use Rattle.std.specs.Prelude.{if◌then◌else◌}
use Rattle.std.specs.Option.{option_map}
use Rattle.frac_core.specs.declared.decimal.Decimal.{Decimal}
use Rattle.op_trees.specs.Tree.{Number, Name}
use Rattle.prism_lex.specs.declared.token.TokenKind.TheVariants as K
use Rattle.prism_lex.specs.Tokens.{Lexeme}
use Rattle.prism_exprs.specs.declared.tokens.Kept.{Kept}
use Rattle.prism_exprs.specs.declared.tokens.Kept.TheVariants as H
use Rattle.prism_exprs.specs.declared.tokens.Found.{Found}
use Rattle.prism_exprs.specs.declared.tokens.Literal.{Literal}
use Rattle.prism_tree.specs.Lang.{Lang, gives, token_with, ◌>>=◌, ◌or◌}
use Rattle.prism_exprs.specs.Kept.{is_ascii_text, lexeme_at, lexeme_by, literal_at, in_row, text_at, made}
use Rattle.prism_exprs.specs.Reading.{none, Fails}
use Rattle.prism_tree.specs.Grammar.{number_at, number_of, name_or_call, arguments, function_of, prim, expr}
use Rattle.prism_exprs.specs.Levels.{more, begins_prim}
use Rattle.prism_exprs.proofs.Laws.{none_ends, token_one, token_reads, token_with_one}
use Rattle.prism_exprs.proofs.Choice.{Same}
use Rattle.prism_exprs.proofs.Loops.{Leads, leads_on, begin, step, same_leads}
use Rattle.prism_exprs.proofs.Keeping.{place_kept}
use Rattle.prism_exprs.proofs.Prims.{prim_number, prim_name}
use Rattle.prism_exprs.proofs.Operands.{no_operand}
use Rattle.prism_exprs.proofs.Conditionals.{map_cons}

-- ---- numbers

-- what is seen of a number, by its literal
literal_kept : (bytes : List ℕ) (literals : List Literal) (x : Found) (row : ℕ) (o : Option Literal) → x.kind ≡ H.Number row → in_row literals row x.size ≡ o → lexeme_at bytes literals x ≡ literal_at bytes o x.at
literal_kept bytes literals x row o h e =
    ap (λ (k : Kept). lexeme_by bytes literals k x.at x.size) h ∙ ap (λ (l : Option Literal). literal_at bytes l x.at) e

-- a part and its value, as the part and then nothing
with_value : {A : Type 0} (L : Lang A) → Same L (L >>= λ x. gives x)
unfolding ◌>>=◌ gives
with_value {A} L = record {
  to = λ w x h. (x, w, [], sym (append-nil w), h, (refl, refl));
  from = λ w x h.
      let F : List Lexeme → Type 0 = λ u. L u x in
      let G : A → Type 0 = λ y. L h.1 y in
      subst F (sym (h.3 ∙ ap (λ (u : List Lexeme). h.1 ++ u) h.5.0 ∙ append-nil h.1)) (subst G (sym h.5.1) h.4);
}

number_leads_by : (t : Lexeme) (us : List Lexeme) (d : Decimal) → t.kind ≡ K.Number d → Leads (more 0) (prim expr) (t ∷ us) (gives (Number t.at d)) us
unfolding token_with
number_leads_by t us d h =
    let m : number_at t ≡ Some (Number t.at d) = ap (number_of t) h in
    leads_on (prim_number (t ∷ us) us t d refl h)
    (leads_on (same_leads (more 0) (t ∷ us) (with_value (token_with number_at)))
    (step _ _ (begin (token_with number_at >>= λ x. gives x) (more 0) (t ∷ us)) (token_with_one number_at none) (record { word = t ∷ []; parts = refl; spells = (t, refl, m); ends = none_ends us })))

some_from : (o : Option Literal) (d : Decimal) → Some d ≡ option_map (λ n. n.value) o → (n : Literal) × (o ≡ Some n) × (n.value ≡ d)
some_from (Some n) d e = (n, refl, cc)
some_from None d e = cc

none_from : (o : Option Literal) → None ≡ option_map (λ n. n.value) o → o ≡ None
none_from (Some n) e = cc
none_from None e = refl

pub number_leads : (bytes : List ℕ) (literals : List Literal) (found xs : List Found) (x : Found) (row : ℕ) (us : List Lexeme) (d : Decimal) → found ≡ x ∷ xs → x.kind ≡ H.Number row → us ≡ map (lexeme_at bytes literals) xs →
    Some d ≡ option_map (λ n. n.value) (in_row literals row x.size) → Leads (more 0) (prim expr) (map (lexeme_at bytes literals) found) (gives (Number x.at d)) us
number_leads bytes literals found xs x row us d e h g v =
    let f = lexeme_at bytes literals in
    let n = some_from (in_row literals row x.size) d v in
    let k : (f x).kind ≡ K.Number d = ap (λ (t : Lexeme). t.kind) (literal_kept bytes literals x row (Some n.0) h n.1) ∙ ap K.Number n.2 in
    let F : List Lexeme → Type 0 = λ u. Leads (more 0) (prim expr) u (gives (Number x.at d)) us in
    let G : ℕ → Type 0 = λ i. Leads (more 0) (prim expr) (f x ∷ us) (gives (Number i d)) us in
    subst F (ap (λ (u : List Lexeme). f x ∷ u) g ∙ sym (map_cons f found xs x e)) (subst G (place_kept bytes literals x.kind x.at x.size) (number_leads_by (f x) us d k))

pub number_missing : (bytes : List ℕ) (literals : List Literal) (found xs : List Found) (x : Found) (row : ℕ) → found ≡ x ∷ xs → x.kind ≡ H.Number row → None ≡ option_map (λ n. n.value) (in_row literals row x.size) →
    Fails (prim expr) (more 0) (map (lexeme_at bytes literals) found) (map (lexeme_at bytes literals) found)
number_missing bytes literals found xs x row e h v =
    no_operand _ found xs x e (ap (λ (t : Lexeme). begins_prim t.kind) (literal_kept bytes literals x row None h (none_from _ v)))

-- ---- names

name_kept : (bytes : List ℕ) (literals : List Literal) (x : Found) (b : Bool) → x.kind ≡ H.Ident → is_ascii_text (text_at bytes x.at x.size) ≡ b →
    lexeme_at bytes literals x ≡ (if b then made K.Ident (text_at bytes x.at x.size) x.at else made K.End (text_at bytes x.at x.size) x.at)
name_kept bytes literals x b h e =
    let w = text_at bytes x.at x.size in
    ap (λ (k : Kept). lexeme_by bytes literals k x.at x.size) h ∙ ap (λ (c : Bool). if c then made K.Ident w x.at else made K.End w x.at) e

name_leads_by : (t : Lexeme) (us : List Lexeme) → t.kind ≡ K.Ident → Leads (more 0) (prim expr) (t ∷ us) (gives (Name t.at t.text) or arguments expr (function_of t.text) t.at) us
unfolding name_or_call
name_leads_by t us h = leads_on (prim_name (t ∷ us) us t refl h) (step _ _ (begin (name_or_call expr) (more 0) (t ∷ us)) (token_one _) (token_reads t us refl h))

pub name_leads : (bytes : List ℕ) (literals : List Literal) (found xs : List Found) (x : Found) (us : List Lexeme) (w : List ℕ) → found ≡ x ∷ xs → x.kind ≡ H.Ident → us ≡ map (lexeme_at bytes literals) xs →
    (w ≡ text_at bytes x.at x.size) × (is_ascii_text w ≡ true) → Leads (more 0) (prim expr) (map (lexeme_at bytes literals) found) (gives (Name x.at w) or arguments expr (function_of w) x.at) us
name_leads bytes literals found xs x us w e h g v =
    let f = lexeme_at bytes literals in
    let n : f x ≡ made K.Ident (text_at bytes x.at x.size) x.at = name_kept bytes literals x true h (ap is_ascii_text (sym v.0) ∙ v.1) in
    let m : f x ≡ made K.Ident w x.at = n ∙ ap (λ (u : List ℕ). made K.Ident u x.at) (sym v.0) in
    let F : List Lexeme → Type 0 = λ u. Leads (more 0) (prim expr) u (gives (Name x.at w) or arguments expr (function_of w) x.at) us in
    subst F (ap (λ (t : Lexeme). t ∷ us) (sym m) ∙ ap (λ (u : List Lexeme). f x ∷ u) g ∙ sym (map_cons f found xs x e)) (name_leads_by (made K.Ident w x.at) us refl)

pub name_missing : (bytes : List ℕ) (literals : List Literal) (found xs : List Found) (x : Found) → found ≡ x ∷ xs → x.kind ≡ H.Ident → is_ascii_text (text_at bytes x.at x.size) ≡ false →
    Fails (prim expr) (more 0) (map (lexeme_at bytes literals) found) (map (lexeme_at bytes literals) found)
name_missing bytes literals found xs x e h v =
    no_operand _ found xs x e (ap (λ (t : Lexeme). begins_prim t.kind) (name_kept bytes literals x false h v))
