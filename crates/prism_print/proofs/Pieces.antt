-- The canonical text as tokens, and blanks between them.
use Rattle.std.proofs.Common.{◌≡◌, ℕ, Bool, true, false, cond, List, [], ◌∷◌, ◌++◌, refl, sym, ap, ◌∙◌, append_assoc, append-nil}
use Rattle.std.specs.Prelude.{codes, ◌||◌}
use Rattle.op_trees.specs.declared.tree.Ty.{Ty}
use Rattle.op_trees.specs.declared.tree.Ty.TheVariants as T
use Rattle.op_trees.specs.Tree.{Truth, Number, Name, One, Two, Three}
use Rattle.prism_lex.specs.declared.token.TokenKind.{TokenKind}
use Rattle.prism_lex.specs.declared.token.TokenKind.TheVariants as K
use Rattle.prism_lex.specs.declared.words.Reserved.{Reserved}
use Rattle.prism_lex.specs.declared.words.Reserved.TheVariants as W
use Rattle.prism_lex.specs.declared.symbols.Symbol.{Symbol}
use Rattle.prism_lex.specs.declared.symbols.Symbol.TheVariants as S
use Rattle.prism_tree.specs.declared.operator.PrismOp.{PrismOp}
use Rattle.prism_tree.specs.declared.operator.PrismOp.TheVariants as O
use Rattle.prism_tree.specs.Syntax.{Expression}
use Rattle.frac_core.specs.Text.{number_text}
use Rattle.prism_print.specs.Text.{operator_text, is_function, is_node, enclosed, expression_text, type_text}
use Rattle.prism_print.proofs.Stands.{symbol_text}

pub data Piece : Type 0 where
  printed : TokenKind → List ℕ → Piece
  blank : List ℕ → Piece

abbrev pub bytes_of : Piece → List ℕ
bytes_of (printed k w) = w
bytes_of (blank g) = g

abbrev pub text : List Piece → List ℕ
text [] = []
text (p ∷ ps) = bytes_of p ++ text ps

pub text_append : (ps qs : List Piece) → text (ps ++ qs) ≡ text ps ++ text qs
text_append [] qs = refl
text_append (p ∷ ps) qs = ap (λ (u : List ℕ). bytes_of p ++ u) (text_append ps qs) ∙ sym (append_assoc (bytes_of p) (text ps) (text qs))

-- ---- expressions

abbrev pub mark : Symbol → Piece
mark s = printed (K.Symbol s) (symbol_text s)

abbrev pub operator_kind : PrismOp → TokenKind
operator_kind O.Neg = K.Symbol S.Minus
operator_kind O.Mul = K.Symbol S.Star
operator_kind O.Div = K.Symbol S.Slash
operator_kind O.Add = K.Symbol S.Plus
operator_kind O.Sub = K.Symbol S.Minus
operator_kind O.Less = K.Symbol S.Less
operator_kind O.AtMost = K.Symbol S.AtMost
operator_kind O.AtLeast = K.Symbol S.AtLeast
operator_kind O.Greater = K.Symbol S.Greater
operator_kind O.Equal = K.Symbol S.Equal
operator_kind O.Unequal = K.Symbol S.Unequal
operator_kind O.Not = K.Symbol S.Not
operator_kind O.And = K.Symbol S.And
operator_kind O.Or = K.Symbol S.Or
operator_kind O.Iff = K.Symbol S.Iff
operator_kind O.Implies = K.Symbol S.Implies
operator_kind O.Ite = K.Symbol S.Question
operator_kind O.Min = K.Word W.Min
operator_kind O.Max = K.Word W.Max
operator_kind O.Floor = K.Ident
operator_kind O.Ceil = K.Ident
operator_kind O.Mod = K.Ident

abbrev pub sign : PrismOp → Piece
sign o = printed (operator_kind o) (operator_text o)

abbrev pub spaced : Piece → List Piece → List Piece
spaced p ps = blank (codes " ") ∷ p ∷ blank (codes " ") ∷ ps

abbrev pub within : Bool → List Piece → List Piece
within true ps = mark S.LeftParenthesis ∷ (ps ++ mark S.RightParenthesis ∷ [])
within false ps = ps

abbrev pub called : PrismOp → List Piece → List Piece → List Piece
called o ps qs = sign o ∷ mark S.LeftParenthesis ∷ (ps ++ (mark S.Comma ∷ blank (codes " ") ∷ (qs ++ mark S.RightParenthesis ∷ [])))

abbrev pub pieces : Expression → List Piece
pieces (Truth at true) = printed (K.Word W.True) (codes "true") ∷ []
pieces (Truth at false) = printed (K.Word W.False) (codes "false") ∷ []
pieces (Number at d) = printed (K.Number d) (number_text d) ∷ []
pieces (Name at x) = printed K.Ident x ∷ []
pieces (One at o a) = sign o ∷ within (is_function o || is_node a) (pieces a)
pieces (Two at o a b) =
    cond (is_function o) (called o (pieces a) (pieces b)) (within (is_node a) (pieces a) ++ spaced (sign o) (within (is_node b) (pieces b)))
pieces (Three at o a b c) =
    within (is_node a) (pieces a) ++ spaced (mark S.Question) (within (is_node b) (pieces b) ++ spaced (mark S.Colon) (within (is_node c) (pieces c)))

text_within : (b : Bool) (ps : List Piece) (t : List ℕ) → text ps ≡ t → text (within b ps) ≡ enclosed b t
text_within true ps t e = ap (λ (u : List ℕ). codes "(" ++ u) (text_append ps (mark S.RightParenthesis ∷ []) ∙ ap (λ (u : List ℕ). u ++ codes ")") e)
text_within false ps t e = e

text_spaced : (p : Piece) (ps : List Piece) (t : List ℕ) → text ps ≡ t → text (spaced p ps) ≡ codes " " ++ (bytes_of p ++ (codes " " ++ t))
text_spaced p ps t e = ap (λ (u : List ℕ). codes " " ++ (bytes_of p ++ (codes " " ++ u))) e

pub text_both : (ps qs : List Piece) (t u : List ℕ) → text ps ≡ t → text qs ≡ u → text (ps ++ qs) ≡ t ++ u
text_both ps qs t u e f = text_append ps qs ∙ ap (λ (x : List ℕ). x ++ text qs) e ∙ ap (λ (x : List ℕ). t ++ x) f

text_called : (o : PrismOp) (ps qs : List Piece) (t u : List ℕ) → text ps ≡ t → text qs ≡ u → text (called o ps qs) ≡ operator_text o ++ (codes "(" ++ (t ++ (codes ", " ++ (u ++ codes ")"))))
text_called o ps qs t u e f =
    ap (λ (x : List ℕ). operator_text o ++ (codes "(" ++ x))
    (text_both ps (mark S.Comma ∷ blank (codes " ") ∷ (qs ++ mark S.RightParenthesis ∷ [])) t (codes ", " ++ (u ++ codes ")")) e
    (ap (λ (x : List ℕ). codes ", " ++ x) (text_both qs (mark S.RightParenthesis ∷ []) u (codes ")") f refl)))

text_one : (o : PrismOp) (f x : Bool) (ps : List Piece) (t : List ℕ) → text ps ≡ t → text (sign o ∷ within (f || x) ps) ≡ cond f (operator_text o ++ enclosed true t) (operator_text o ++ enclosed x t)
text_one o true x ps t e = ap (λ (u : List ℕ). operator_text o ++ u) (text_within true ps t e)
text_one o false x ps t e = ap (λ (u : List ℕ). operator_text o ++ u) (text_within x ps t e)

text_two : (o : PrismOp) (x y : Bool) (ps qs : List Piece) (t u : List ℕ) (b : Bool) → text ps ≡ t → text qs ≡ u → text (cond b (called o ps qs) (within x ps ++ spaced (sign o) (within y qs)))
    ≡ cond b (operator_text o ++ enclosed true (t ++ (codes ", " ++ u))) (enclosed x t ++ (codes " " ++ (operator_text o ++ (codes " " ++ enclosed y u))))
text_two o x y ps qs t u true e f = text_called o ps qs t u e f ∙ ap (λ (v : List ℕ). operator_text o ++ (codes "(" ++ v)) (sym (append_assoc t (codes ", " ++ u) (codes ")")))
text_two o x y ps qs t u false e f = text_both (within x ps) (spaced (sign o) (within y qs)) _ _ (text_within x ps t e) (text_spaced (sign o) (within y qs) _ (text_within y qs u f))

text_three : (x y z : Bool) (ps qs rs : List Piece) (t u v : List ℕ) → text ps ≡ t → text qs ≡ u → text rs ≡ v → text (within x ps ++ spaced (mark S.Question) (within y qs ++ spaced (mark S.Colon) (within z rs)))
    ≡ enclosed x t ++ (codes " ? " ++ (enclosed y u ++ (codes " : " ++ enclosed z v)))
text_three x y z ps qs rs t u v e f g =
    text_both (within x ps) (spaced (mark S.Question) (within y qs ++ spaced (mark S.Colon) (within z rs))) _ _ (text_within x ps t e)
    (text_spaced (mark S.Question) (within y qs ++ spaced (mark S.Colon) (within z rs)) _
    (text_both (within y qs) (spaced (mark S.Colon) (within z rs)) _ _ (text_within y qs u f) (text_spaced (mark S.Colon) (within z rs) _ (text_within z rs v g))))

pub pieces_text : (e : Expression) → text (pieces e) ≡ expression_text e
pieces_text (Truth at true) = refl
pieces_text (Truth at false) = refl
pieces_text (Number at d) = append-nil (number_text d)
pieces_text (Name at x) = append-nil x
pieces_text (One at o a) = text_one o (is_function o) (is_node a) (pieces a) _ (pieces_text a)
pieces_text (Two at o a b) = text_two o (is_node a) (is_node b) (pieces a) (pieces b) _ _ (is_function o) (pieces_text a) (pieces_text b)
pieces_text (Three at o a b c) = text_three (is_node a) (is_node b) (is_node c) (pieces a) (pieces b) (pieces c) _ _ _ (pieces_text a) (pieces_text b) (pieces_text c)

-- ---- templates: tokens that have one text, names, expressions, and blanks

pub data Element : Type 0 where
  a_word : Reserved → Element
  a_type : Ty → Element
  a_symbol : Symbol → Element
  a_name : List ℕ → Element
  a_title : List ℕ → Element
  an_expression : Expression → Element
  a_blank : List ℕ → Element

abbrev pub word_text : Reserved → List ℕ
word_text W.Mdp = codes "mdp"
word_text W.Const = codes "const"
word_text W.Global = codes "global"
word_text W.Init = codes "init"
word_text W.BoolWord = codes "bool"
word_text W.Formula = codes "formula"
word_text W.Module = codes "module"
word_text W.Endmodule = codes "endmodule"
word_text W.True = codes "true"
word_text W.Label = codes "label"
word_text W.Rewards = codes "rewards"
word_text W.Endrewards = codes "endrewards"
word_text W.Endinit = codes "endinit"
word_text r = []

abbrev pub type_word : Ty → Reserved
type_word T.Bool = W.BoolWord
type_word T.Int = W.Int
type_word T.Real = W.Double

abbrev pub quoted_text : List ℕ → List ℕ
quoted_text x = 34 ∷ (x ++ 34 ∷ [])

abbrev pub flat : List Element → List Piece
flat [] = []
flat (a_word r ∷ is) = printed (K.Word r) (word_text r) ∷ flat is
flat (a_type t ∷ is) = printed (K.Word (type_word t)) (type_text t) ∷ flat is
flat (a_symbol s ∷ is) = mark s ∷ flat is
flat (a_name x ∷ is) = printed K.Ident x ∷ flat is
flat (a_title x ∷ is) = printed K.Quoted (quoted_text x) ∷ flat is
flat (an_expression e ∷ is) = pieces e ++ flat is
flat (a_blank g ∷ is) = blank g ∷ flat is

abbrev pub element_text : Element → List ℕ
element_text (a_word r) = word_text r
element_text (a_type t) = type_text t
element_text (a_symbol s) = symbol_text s
element_text (a_name x) = x
element_text (a_title x) = quoted_text x
element_text (an_expression e) = expression_text e
element_text (a_blank g) = g

abbrev pub elements_text : List Element → List ℕ
elements_text [] = []
elements_text (i ∷ is) = element_text i ++ elements_text is

pub elements_append : (is js : List Element) → elements_text (is ++ js) ≡ elements_text is ++ elements_text js
elements_append [] js = refl
elements_append (i ∷ is) js = ap (λ (u : List ℕ). element_text i ++ u) (elements_append is js) ∙ sym (append_assoc (element_text i) (elements_text is) (elements_text js))

pub flat_text : (is : List Element) → text (flat is) ≡ elements_text is
flat_text [] = refl
flat_text (a_word r ∷ is) = ap (λ (u : List ℕ). word_text r ++ u) (flat_text is)
flat_text (a_type t ∷ is) = ap (λ (u : List ℕ). type_text t ++ u) (flat_text is)
flat_text (a_symbol s ∷ is) = ap (λ (u : List ℕ). symbol_text s ++ u) (flat_text is)
flat_text (a_name x ∷ is) = ap (λ (u : List ℕ). x ++ u) (flat_text is)
flat_text (a_title x ∷ is) = ap (λ (u : List ℕ). quoted_text x ++ u) (flat_text is)
flat_text (an_expression e ∷ is) = text_both (pieces e) (flat is) _ _ (pieces_text e) (flat_text is)
flat_text (a_blank g ∷ is) = ap (λ (u : List ℕ). g ++ u) (flat_text is)

pub flat_append : (is js : List Element) → flat (is ++ js) ≡ flat is ++ flat js
flat_append [] js = refl
flat_append (a_word r ∷ is) js = ap (λ (u : List Piece). printed (K.Word r) (word_text r) ∷ u) (flat_append is js)
flat_append (a_type t ∷ is) js = ap (λ (u : List Piece). printed (K.Word (type_word t)) (type_text t) ∷ u) (flat_append is js)
flat_append (a_symbol s ∷ is) js = ap (λ (u : List Piece). mark s ∷ u) (flat_append is js)
flat_append (a_name x ∷ is) js = ap (λ (u : List Piece). printed K.Ident x ∷ u) (flat_append is js)
flat_append (a_title x ∷ is) js = ap (λ (u : List Piece). printed K.Quoted (quoted_text x) ∷ u) (flat_append is js)
flat_append (an_expression e ∷ is) js = ap (λ (u : List Piece). pieces e ++ u) (flat_append is js) ∙ sym (append_assoc (pieces e) (flat is) (flat js))
flat_append (a_blank g ∷ is) js = ap (λ (u : List Piece). blank g ∷ u) (flat_append is js)
