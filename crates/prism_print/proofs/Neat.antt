-- Templates whose tokens cannot run into one another: a test that computes, and what it means.
use Rattle.std.proofs.Common.{◌≡◌, ℕ, Bool, true, false, cond, List, [], ◌∷◌, ◌++◌, refl, sym, ap, subst, ◌∙◌, append_assoc, arith}
use Rattle.std.specs.Prelude.{◌||◌, ◌&&◌, not, codes}
use Rattle.std.specs.List.{list_all, AllByRecursion as Each}
use Rattle.std.proofs.lemmas.Bool.{and_from}
use Rattle.basics.specs.Booleans.{first_true, second_true}
use Rattle.op_trees.specs.declared.tree.Ty.{Ty}
use Rattle.op_trees.specs.declared.tree.Ty.TheVariants as T
use Rattle.op_trees.specs.Tree.{Truth, Number, Name, One, Two, Three}
use Rattle.prism_lex.specs.declared.automaton.State.TheVariants.{Start}
use Rattle.prism_lex.specs.declared.token.TokenKind.{TokenKind}
use Rattle.prism_lex.specs.declared.token.TokenKind.TheVariants as K
use Rattle.prism_lex.specs.declared.words.Reserved.{Reserved}
use Rattle.prism_lex.specs.declared.words.Reserved.TheVariants as W
use Rattle.prism_lex.specs.declared.symbols.Symbol.{Symbol}
use Rattle.prism_lex.specs.declared.symbols.Symbol.TheVariants as S
use Rattle.prism_lex.specs.Words.{words}
use Rattle.prism_lex.specs.Automaton.{accepts, after}
use Rattle.prism_lex.specs.Gaps.{is_separator}
use Rattle.prism_lex.specs.Tokens.{IsKind, is_name}
use Rattle.prism_lex.specs.Numbers.{is_number, IsWorth}
use Rattle.prism_lex.proofs.NumeralLemmas.{numeral_number, proper_of}
use Rattle.prism_lex.proofs.Shapes.{name_state, quoted_state, number_accepted}
use Rattle.prism_tree.specs.declared.operator.PrismOp.{PrismOp}
use Rattle.prism_tree.specs.declared.operator.PrismOp.TheVariants as O
use Rattle.prism_tree.specs.Operators.{arity}
use Rattle.prism_tree.specs.Syntax.{Expression}
use Rattle.frac_core.specs.declared.decimal.Decimal.{Decimal}
use Rattle.frac_core.specs.Numeral.{minus_text, numeral_text}
use Rattle.frac_core.specs.Text.{number_text}
use Rattle.frac_core.proofs.Back.{text_back}
use Rattle.prism_print.specs.Text.{operator_text, is_function, is_node, type_text, listed}
use Rattle.frac_core.specs.Decimal.{IsLiteral}
use Rattle.prism_print.specs.Printable.{IsPrintableExpression}
use Rattle.prism_print.proofs.Stands.{Calm, at_end, at_byte, is_stop, Plain, is_plain, Stands, symbol_text, is_open, symbol_stands, symbol_calm, accepted_stands, accepted_plain_text}
use Rattle.prism_print.proofs.Pieces.{Piece, printed, blank, text, mark, operator_kind, sign, spaced, within, called, pieces, Element, a_word, a_type, a_symbol, a_name, a_title, an_expression, a_blank, word_text, type_word, quoted_text, flat}
use Rattle.prism_print.proofs.Lexed.{Spaced}

-- ---- trees

-- These pieces may stand before what no name goes on into, and no symbol goes on into them.
abbrev pub Sound : List Piece → Type 0
Sound qs = (ps : List Piece) → Spaced ps → Calm (text ps) → Spaced (qs ++ ps) × Plain (text (qs ++ ps))

pub accepted_sound : (k : TokenKind) (w : List ℕ) → IsKind w k → accepts (after Start w) ≡ true → Sound (printed k w ∷ [])
accepted_sound k w h a = λ ps s c. ((accepted_stands k w (text ps) h a c, s), accepted_plain_text w (text ps) a)

pub name_accepted : (x : List ℕ) → is_name x ≡ true → accepts (after Start x) ≡ true
name_accepted x h = ap accepts (name_state x h)

pub true_kind : IsKind (codes "true") (K.Word W.True)
unfolding words
true_kind = refl

pub false_kind : IsKind (codes "false") (K.Word W.False)
unfolding words
false_kind = refl

pub space_calm : (rest : List ℕ) → Calm (32 ∷ rest)
space_calm rest = at_byte 32 rest refl refl

-- a symbol that is not open, with anything behind it
pub closed_stands : (s : Symbol) (rest : List ℕ) → is_open s ≡ false → Stands (K.Symbol s) (symbol_text s) rest
closed_stands s rest h = symbol_stands s rest (λ o. absurd (let k : true ≡ false = sym o ∙ h in cc))

pub within_sound : (b : Bool) (qs : List Piece) → Sound qs → Sound (within b qs)
within_sound false qs h = h
within_sound true qs h = λ ps s c.
    let r = h (mark S.RightParenthesis ∷ ps) (closed_stands S.RightParenthesis (text ps) refl, s) (symbol_calm S.RightParenthesis (text ps)) in
    let F : List Piece → Type 0 = λ u. Spaced (mark S.LeftParenthesis ∷ u) in
    (subst F (sym (append_assoc qs (mark S.RightParenthesis ∷ []) ps)) (closed_stands S.LeftParenthesis _ refl, r.0), refl)

-- the sign of an operator, before what neither a symbol nor, where it is a word, a name goes on into
pub sign_stands : (o : PrismOp) (rest : List ℕ) → Plain rest → (is_function o ≡ true → Calm rest) → Stands (operator_kind o) (operator_text o) rest
unfolding words
sign_stands O.Neg rest p c = symbol_stands S.Minus rest (λ _. p)
sign_stands O.Mul rest p c = symbol_stands S.Star rest (λ _. p)
sign_stands O.Div rest p c = symbol_stands S.Slash rest (λ _. p)
sign_stands O.Add rest p c = symbol_stands S.Plus rest (λ _. p)
sign_stands O.Sub rest p c = symbol_stands S.Minus rest (λ _. p)
sign_stands O.Less rest p c = symbol_stands S.Less rest (λ _. p)
sign_stands O.AtMost rest p c = symbol_stands S.AtMost rest (λ _. p)
sign_stands O.AtLeast rest p c = symbol_stands S.AtLeast rest (λ _. p)
sign_stands O.Greater rest p c = symbol_stands S.Greater rest (λ _. p)
sign_stands O.Equal rest p c = symbol_stands S.Equal rest (λ _. p)
sign_stands O.Unequal rest p c = symbol_stands S.Unequal rest (λ _. p)
sign_stands O.Not rest p c = symbol_stands S.Not rest (λ _. p)
sign_stands O.And rest p c = symbol_stands S.And rest (λ _. p)
sign_stands O.Or rest p c = symbol_stands S.Or rest (λ _. p)
sign_stands O.Iff rest p c = symbol_stands S.Iff rest (λ _. p)
sign_stands O.Implies rest p c = symbol_stands S.Implies rest (λ _. p)
sign_stands O.Ite rest p c = symbol_stands S.Question rest (λ _. p)
sign_stands O.Min rest p c = accepted_stands (K.Word W.Min) (codes "min") rest refl refl (c refl)
sign_stands O.Max rest p c = accepted_stands (K.Word W.Max) (codes "max") rest refl refl (c refl)
sign_stands O.Floor rest p c = accepted_stands K.Ident (codes "floor") rest (refl, refl) refl (c refl)
sign_stands O.Ceil rest p c = accepted_stands K.Ident (codes "ceil") rest (refl, refl) refl (c refl)
sign_stands O.Mod rest p c = accepted_stands K.Ident (codes "mod") rest (refl, refl) refl (c refl)

-- Sound pieces, then a token between blanks, then sound pieces.
pub spaced_sound : (k : TokenKind) (w : List ℕ) (qs rs : List Piece) → ((rest : List ℕ) → Stands k w (32 ∷ rest)) → Sound qs → Sound rs → Sound (qs ++ spaced (printed k w) rs)
spaced_sound k w qs rs h f g = λ ps s c.
    let r = g ps s c in
    let l = f (spaced (printed k w) (rs ++ ps)) (refl, (h (text (rs ++ ps)), (refl, r.0))) (space_calm _) in
    let F : List Piece → Type 0 = λ u. Spaced u × Plain (text u) in
    subst F (sym (append_assoc qs (spaced (printed k w) rs) ps)) l

pub called_sound : (o : PrismOp) (qs rs : List Piece) → is_function o ≡ true → Sound qs → Sound rs → Sound (called o qs rs)
called_sound o qs rs e f g = λ ps s c.
    let r = g (mark S.RightParenthesis ∷ ps) (closed_stands S.RightParenthesis (text ps) refl, s) (symbol_calm S.RightParenthesis (text ps)) in
    let back = mark S.Comma ∷ blank (codes " ") ∷ (rs ++ mark S.RightParenthesis ∷ []) in
    let F : List Piece → Type 0 = λ u. Spaced (mark S.Comma ∷ blank (codes " ") ∷ u) × Calm (text (mark S.Comma ∷ blank (codes " ") ∷ u)) in
    let m : Spaced (back ++ ps) × Calm (text (back ++ ps)) = subst F (sym (append_assoc rs (mark S.RightParenthesis ∷ []) ps)) ((closed_stands S.Comma _ refl, (refl, r.0)), symbol_calm S.Comma _) in
    let l = f (back ++ ps) m.0 m.1 in
    let G : List Piece → Type 0 = λ u. Spaced (sign o ∷ mark S.LeftParenthesis ∷ u) in
    let n = subst G (sym (append_assoc qs back ps)) (sign_stands o _ refl (λ _. symbol_calm S.LeftParenthesis _), (closed_stands S.LeftParenthesis _ refl, l.0)) in
    (n, sign_plain o _ e)
  where
    sign_plain : (o : PrismOp) (rest : List ℕ) → is_function o ≡ true → Plain (operator_text o ++ rest)
    sign_plain O.Min rest h = refl
    sign_plain O.Max rest h = refl
    sign_plain O.Floor rest h = refl
    sign_plain O.Ceil rest h = refl
    sign_plain O.Mod rest h = refl
    sign_plain o rest h = absurd cc

-- an operator before its operand
pub one_sound : (o : PrismOp) (b : Bool) (qs : List Piece) → arity o ≡ 1 → Sound qs → Sound (sign o ∷ within (is_function o || b) qs)
one_sound O.Neg b qs h f = λ ps s c. let r = within_sound b qs f ps s c in ((sign_stands O.Neg _ r.1 (λ e. absurd cc), r.0), refl)
one_sound O.Not b qs h f = λ ps s c. let r = within_sound b qs f ps s c in ((sign_stands O.Not _ r.1 (λ e. absurd cc), r.0), refl)
one_sound O.Floor b qs h f = λ ps s c. let r = within_sound true qs f ps s c in ((sign_stands O.Floor _ r.1 (λ _. symbol_calm S.LeftParenthesis _), r.0), refl)
one_sound O.Ceil b qs h f = λ ps s c. let r = within_sound true qs f ps s c in ((sign_stands O.Ceil _ r.1 (λ _. symbol_calm S.LeftParenthesis _), r.0), refl)
one_sound o b qs h f = absurd (omega arith)

pub two_sound : (o : PrismOp) (x y t : Bool) (qs rs : List Piece) → is_function o ≡ t → Sound qs → Sound rs → Sound (cond t (called o qs rs) (within x qs ++ spaced (sign o) (within y rs)))
two_sound o x y true qs rs e f g = called_sound o qs rs e f g
two_sound o x y false qs rs e f g = spaced_sound (operator_kind o) (operator_text o) (within x qs) (within y rs) (λ rest. sign_stands o (32 ∷ rest) refl (λ _. space_calm rest)) (within_sound x qs f) (within_sound y rs g)

-- The canonical text of a literal is a number of its value.
pub literal_worth : (d : Decimal) → IsLiteral d → IsWorth (number_text d) d
literal_worth d h =
    let t = text_back d h.0 in
    let e : number_text d ≡ numeral_text t.numeral = t.text ∙ ap (λ (m : Bool). minus_text m ++ numeral_text t.numeral) h.1 in
    record { number = ap is_number e ∙ (numeral_number t.numeral (proper_of t.numeral t.digits t.some)).0; value = t.value }

pub tree_sound : (e : Expression) → IsPrintableExpression e → Sound (pieces e)
tree_sound (Truth at true) p = accepted_sound (K.Word W.True) (codes "true") true_kind refl
tree_sound (Truth at false) p = accepted_sound (K.Word W.False) (codes "false") false_kind refl
tree_sound (Number at d) p = let h = literal_worth d p in accepted_sound (K.Number d) (number_text d) h (number_accepted (after Start (number_text d)) h.number)
tree_sound (Name at x) p = accepted_sound K.Ident x p (name_accepted x p.0)
tree_sound (One at o a) p = one_sound o (is_node a) (pieces a) p.0 (tree_sound a p.1)
tree_sound (Two at o a b) p = two_sound o (is_node a) (is_node b) (is_function o) (pieces a) (pieces b) refl (tree_sound a p.1) (tree_sound b p.2)
tree_sound (Three at o a b c) p =
    spaced_sound (K.Symbol S.Question) _ (within (is_node a) (pieces a)) _ (λ rest. closed_stands S.Question (32 ∷ rest) refl) (within_sound (is_node a) (pieces a) (tree_sound a p.1))
    (spaced_sound (K.Symbol S.Colon) _ (within (is_node b) (pieces b)) _ (λ rest. closed_stands S.Colon (32 ∷ rest) refl) (within_sound (is_node b) (pieces b) (tree_sound b p.2)) (within_sound (is_node c) (pieces c) (tree_sound c p.3)))

-- ---- templates

-- what is known of the bytes that follow
pub record Front : Type 0 where
  pub calm : Bool
  pub plain : Bool

pub record Means (n : Front) (bs : List ℕ) : Type 0 where
  pub calm : n.calm ≡ true → Calm bs
  pub plain : n.plain ≡ true → Plain bs

abbrev pub nothing : Front
nothing = record { calm = true; plain = true }

abbrev wordy : Front
wordy = record { calm = false; plain = true }

abbrev pub front_of : List ℕ → Front
front_of [] = record { calm = false; plain = false }
front_of (c ∷ r) = record { calm = is_stop c; plain = is_plain c }

abbrev has_text : List ℕ → Bool
has_text [] = false
has_text (c ∷ r) = true

-- what a template begins with, before what is known to follow it
abbrev pub front : Front → List Element → Front
front n [] = n
front n (a_word r ∷ is) = wordy
front n (a_type t ∷ is) = wordy
front n (a_symbol s ∷ is) = record { calm = true; plain = (front_of (symbol_text s)).plain }
front n (a_name x ∷ is) = wordy
front n (a_title x ∷ is) = nothing
front n (an_expression e ∷ is) = wordy
front n (a_blank g ∷ is) = front_of g

-- whether a part goes before what follows
abbrev pub fits : Element → Front → Bool
fits (a_word r) n = has_text (word_text r) && n.calm
fits (a_type t) n = n.calm
fits (a_symbol s) n = not (is_open s) || n.plain
fits (a_name x) n = n.calm
fits (a_title x) n = n.calm
fits (an_expression e) n = n.calm
fits (a_blank g) n = list_all is_separator g

abbrev pub neat : Front → List Element → Bool
neat n [] = true
neat n (i ∷ is) = fits i (front n is) && neat n is

abbrev pub IsProperTemplate : List Element → Type 0
IsProperTemplate [] = Unit {0}
IsProperTemplate (a_word r ∷ is) = IsProperTemplate is
IsProperTemplate (a_type t ∷ is) = IsProperTemplate is
IsProperTemplate (a_symbol s ∷ is) = IsProperTemplate is
IsProperTemplate (a_name x ∷ is) = IsKind x K.Ident × IsProperTemplate is
IsProperTemplate (a_title x ∷ is) = (is_name x ≡ true) × IsProperTemplate is
IsProperTemplate (an_expression e ∷ is) = IsPrintableExpression e × IsProperTemplate is
IsProperTemplate (a_blank g ∷ is) = IsProperTemplate is

-- ---- what the tests mean

word_kind : (r : Reserved) → has_text (word_text r) ≡ true → IsKind (word_text r) (K.Word r)
unfolding words
word_kind W.Mdp h = refl
word_kind W.Const h = refl
word_kind W.Global h = refl
word_kind W.Init h = refl
word_kind W.BoolWord h = refl
word_kind W.Formula h = refl
word_kind W.Module h = refl
word_kind W.Endmodule h = refl
word_kind W.True h = refl
word_kind W.Label h = refl
word_kind W.Rewards h = refl
word_kind W.Endrewards h = refl
word_kind W.Endinit h = refl
word_kind r h = absurd cc

word_accepted : (r : Reserved) → has_text (word_text r) ≡ true → accepts (after Start (word_text r)) ≡ true
word_accepted W.Mdp h = refl
word_accepted W.Const h = refl
word_accepted W.Global h = refl
word_accepted W.Init h = refl
word_accepted W.BoolWord h = refl
word_accepted W.Formula h = refl
word_accepted W.Module h = refl
word_accepted W.Endmodule h = refl
word_accepted W.True h = refl
word_accepted W.Label h = refl
word_accepted W.Rewards h = refl
word_accepted W.Endrewards h = refl
word_accepted W.Endinit h = refl
word_accepted r h = absurd cc

type_kind : (t : Ty) → IsKind (type_text t) (K.Word (type_word t))
unfolding words
type_kind T.Bool = refl
type_kind T.Int = refl
type_kind T.Real = refl

type_accepted : (t : Ty) → accepts (after Start (type_text t)) ≡ true
type_accepted T.Bool = refl
type_accepted T.Int = refl
type_accepted T.Real = refl

-- what a text that is accepted begins with
accepted_means : (w rest : List ℕ) → accepts (after Start w) ≡ true → Means wordy (w ++ rest)
accepted_means w rest a = record { calm = λ h. absurd cc; plain = λ _. accepted_plain_text w rest a }

front_means : (w rest : List ℕ) → Means (front_of w) (w ++ rest)
front_means [] rest = record { calm = λ h. absurd cc; plain = λ h. absurd cc }
front_means (c ∷ r) rest = record { calm = λ h. at_byte c (r ++ rest) refl h; plain = λ h. h }

symbol_means : (s : Symbol) (rest : List ℕ) → Means (record { calm = true; plain = (front_of (symbol_text s)).plain }) (symbol_text s ++ rest)
symbol_means s rest = record { calm = λ _. symbol_calm s rest; plain = λ h. (front_means (symbol_text s) rest).plain h }

title_means : (x rest : List ℕ) → Means nothing (quoted_text x ++ rest)
title_means x rest = record { calm = λ _. at_byte 34 _ refl refl; plain = λ _. refl }

pub nothing_means : Means nothing []
nothing_means = record { calm = λ _. at_end refl; plain = λ _. tt }

open_plain : (a b : Bool) (P : Type 0) → (not a || b) ≡ true → (b ≡ true → P) → a ≡ true → P
open_plain true b P h f e = f h
open_plain false b P h f e = absurd cc

-- A neat template's tokens do not run into one another.
pub template_spaced : (n : Front) (is : List Element) → neat n is ≡ true → IsProperTemplate is → (ps : List Piece) → Spaced ps → Means n (text ps) → Spaced (flat is ++ ps) × Means (front n is) (text (flat is ++ ps))
template_spaced n [] e p ps s m = (s, m)
template_spaced n (a_word r ∷ is) e p ps s m =
    let q = template_spaced n is (second_true (fits (a_word r) (front n is)) _ e) p ps s m in
    let f = first_true (fits (a_word r) (front n is)) _ e in
    let h = first_true (has_text (word_text r)) _ f in
    ((accepted_stands (K.Word r) (word_text r) _ (word_kind r h) (word_accepted r h) (q.1.calm (second_true (has_text (word_text r)) _ f)), q.0), accepted_means (word_text r) _ (word_accepted r h))
template_spaced n (a_type t ∷ is) e p ps s m =
    let q = template_spaced n is (second_true (front n is).calm _ e) p ps s m in
    ((accepted_stands (K.Word (type_word t)) (type_text t) _ (type_kind t) (type_accepted t) (q.1.calm (first_true (front n is).calm _ e)), q.0), accepted_means (type_text t) _ (type_accepted t))
template_spaced n (a_symbol y ∷ is) e p ps s m =
    let q = template_spaced n is (second_true (fits (a_symbol y) (front n is)) _ e) p ps s m in
    ((symbol_stands y _ (open_plain (is_open y) (front n is).plain _ (first_true (fits (a_symbol y) (front n is)) _ e) q.1.plain), q.0), symbol_means y _)
template_spaced n (a_name x ∷ is) e p ps s m =
    let q = template_spaced n is (second_true (front n is).calm _ e) p.1 ps s m in
    let a = name_accepted x p.0.0 in
    ((accepted_stands K.Ident x _ p.0 a (q.1.calm (first_true (front n is).calm _ e)), q.0), accepted_means x _ a)
template_spaced n (a_title x ∷ is) e p ps s m =
    let q = template_spaced n is (second_true (front n is).calm _ e) p.1 ps s m in
    ((accepted_stands K.Quoted (quoted_text x) _ (x, refl, p.0) (ap accepts (quoted_state (quoted_text x) x refl p.0)) (q.1.calm (first_true (front n is).calm _ e)), q.0), title_means x _)
template_spaced n (an_expression x ∷ is) e p ps s m =
    let q = template_spaced n is (second_true (front n is).calm _ e) p.1 ps s m in
    let r = tree_sound x p.0 (flat is ++ ps) q.0 (q.1.calm (first_true (front n is).calm _ e)) in
    let F : List Piece → Type 0 = λ u. Spaced u × Means wordy (text u) in
    subst F (sym (append_assoc (pieces x) (flat is) ps)) (r.0, record { calm = λ h. absurd cc; plain = λ _. r.1 })
template_spaced n (a_blank g ∷ is) e p ps s m =
    let q = template_spaced n is (second_true (list_all is_separator g) _ e) p ps s m in
    ((first_true (list_all is_separator g) _ e, q.0), front_means g _)

-- ---- lists of templates

front_append : (n : Front) (is js : List Element) → front n (is ++ js) ≡ front (front n js) is
front_append n [] js = refl
front_append n (a_word r ∷ is) js = refl
front_append n (a_type t ∷ is) js = refl
front_append n (a_symbol s ∷ is) js = refl
front_append n (a_name x ∷ is) js = refl
front_append n (a_title x ∷ is) js = refl
front_append n (an_expression e ∷ is) js = refl
front_append n (a_blank g ∷ is) js = refl

pub neat_append : (n : Front) (is js : List Element) → neat (front n js) is ≡ true → neat n js ≡ true → neat n (is ++ js) ≡ true
neat_append n [] js e f = f
neat_append n (i ∷ is) js e f =
    and_from _ _ (ap (fits i) (front_append n is js) ∙ first_true (fits i (front (front n js) is)) _ e) (neat_append n is js (second_true (fits i (front (front n js) is)) _ e) f)

-- where between and before end in blanks, and each template goes before what may follow it
pub listed_neat : {A : Type 0} (Q : Front → Type 0) (n : Front) (between : List Element) (f : A → List Element) → ((m : Front) → neat m between ≡ true) → ((x : A) (m : Front) → Q m → neat m (f x) ≡ true)
    → ((rest : List Element) → Q (front n (between ++ rest))) → Q n → (before : List Element) → ((m : Front) → neat m before ≡ true) → (xs : List A) → neat n (listed before between f xs) ≡ true
listed_neat Q n between f b h c q before a [] = refl
listed_neat {A} Q n between f b h c q before a (x ∷ xs) =
    neat_append n before (f x ++ listed between between f xs) (a _) (neat_append n (f x) (listed between between f xs) (h x _ (next xs)) (listed_neat Q n between f b h c q between b xs))
  where
    next : (xs : List A) → Q (front n (listed between between f xs))
    next [] = q
    next (y ∷ ys) = c (f y ++ listed between between f ys)

proper_append : (is js : List Element) → IsProperTemplate is → IsProperTemplate js → IsProperTemplate (is ++ js)
proper_append [] js p q = q
proper_append (a_word r ∷ is) js p q = proper_append is js p q
proper_append (a_type t ∷ is) js p q = proper_append is js p q
proper_append (a_symbol s ∷ is) js p q = proper_append is js p q
proper_append (a_name x ∷ is) js p q = (p.0, proper_append is js p.1 q)
proper_append (a_title x ∷ is) js p q = (p.0, proper_append is js p.1 q)
proper_append (an_expression e ∷ is) js p q = (p.0, proper_append is js p.1 q)
proper_append (a_blank g ∷ is) js p q = proper_append is js p q

pub listed_proper : {A : Type 0} (P : A → Type 0) (between : List Element) (f : A → List Element) (js : List Element) → IsProperTemplate between → ((x : A) → P x → IsProperTemplate (f x)) → IsProperTemplate js → (before : List Element) → IsProperTemplate before → (xs : List A) → Each P xs → IsProperTemplate (listed before between f xs ++ js)
listed_proper P between f js b h j before a [] e = j
listed_proper P between f js b h j before a (x ∷ xs) e =
    let r = proper_append (f x) (listed between between f xs ++ js) (h x e.0) (listed_proper P between f js b h j between b xs e.1) in
    let F : List Element → Type 0 = λ u. IsProperTemplate u in
    subst F (sym (append_assoc before (f x ++ listed between between f xs) js ∙ ap (λ (u : List Element). before ++ u) (append_assoc (f x) (listed between between f xs) js))) (proper_append before (f x ++ (listed between between f xs ++ js)) a r)
