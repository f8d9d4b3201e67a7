-- The text of properties as pieces, each name as the grammar reads it.
use Rattle.std.proofs.Common.{◌≡◌, ℕ, Bool, true, false, List, [], ◌∷◌, ◌++◌, refl, ap, ap₂, ◌∙◌, append_assoc}
use Rattle.std.specs.Prelude.{codes, ◌||◌}
use Rattle.std.specs.List.{flat_map}
use Rattle.prism_lex.specs.declared.token.TokenKind.TheVariants as K
use Rattle.prism_lex.specs.declared.words.Reserved.{Reserved}
use Rattle.prism_lex.specs.declared.words.Reserved.TheVariants as W
use Rattle.prism_lex.specs.declared.symbols.Symbol.{Symbol}
use Rattle.prism_lex.specs.declared.symbols.Symbol.TheVariants as S
use Rattle.prism_tree.specs.Syntax.{Expression}
use Rattle.prism_print.specs.Text.{is_node, enclosed, expression_text}
use Rattle.prism_print.proofs.Stands.{symbol_text}
use Rattle.prism_print.proofs.Pieces.{Piece, printed, blank, text, text_append, mark, spaced, within, pieces, pieces_text, text_both}
use Rattle.prop_grammar.specs.declared.syntax.Compare.{Compare}
use Rattle.prop_grammar.specs.declared.syntax.Compare.TheVariants as C
use Rattle.prop_grammar.specs.Property.{Ask, greatest, least, bounded, greatest_reward, least_reward, Path, finally, globally, until, weak_until, finally_within, until_within}
use Rattle.prop_trees.specs.Trees.{Name, PrismProperty, ask_with, path_with}
use Rattle.prop_trees.specs.Names.{quoted}
use Rattle.prop_trees.specs.Text.{plain, is_choice, is_function_name, operand_text, steps_text, path_text, compare_text, structure_name, ask_text, or_empty, property_text, properties_text}

-- the words of properties
abbrev pub word_text : Reserved → List ℕ
word_text W.Pmax = codes "Pmax"
word_text W.Pmin = codes "Pmin"
word_text W.PWord = codes "P"
word_text W.RWord = codes "R"
word_text W.Max = codes "max"
word_text W.Min = codes "min"
word_text W.FWord = codes "F"
word_text W.GWord = codes "G"
word_text W.UWord = codes "U"
word_text W.WWord = codes "W"
word_text r = []

abbrev pub word_piece : Reserved → Piece
word_piece r = printed (K.Word r) (word_text r)

-- ---- expressions

abbrev pub operand_pieces : Expression → List Piece
operand_pieces e = within (is_choice e) (pieces e)

abbrev pub probability_pieces : Expression → List Piece
probability_pieces e = within (is_node e) (pieces e)

abbrev pub steps_pieces : Expression → List Piece
steps_pieces e = within (is_node e || is_function_name e) (pieces e)

within_text : (b : Bool) (e : Expression) → text (within b (pieces e)) ≡ enclosed b (expression_text e)
within_text true e =
    ap (λ (u : List ℕ). codes "(" ++ u) (text_append (pieces e) (mark S.RightParenthesis ∷ []) ∙ ap (λ (u : List ℕ). u ++ codes ")") (pieces_text e))
within_text false e = pieces_text e

-- ---- paths

abbrev pub path_pieces : Path Expression → List Piece
path_pieces (finally e) = word_piece W.FWord ∷ blank (codes " ") ∷ operand_pieces e
path_pieces (globally e) = word_piece W.GWord ∷ blank (codes " ") ∷ operand_pieces e
path_pieces (until a b) = operand_pieces a ++ spaced (word_piece W.UWord) (operand_pieces b)
path_pieces (weak_until a b) = operand_pieces a ++ spaced (word_piece W.WWord) (operand_pieces b)
path_pieces (finally_within k e) = word_piece W.FWord ∷ mark S.AtMost ∷ (steps_pieces k ++ (blank (codes " ") ∷ operand_pieces e))
path_pieces (until_within k a b) =
    operand_pieces a ++ (blank (codes " ") ∷ word_piece W.UWord ∷ mark S.AtMost ∷ (steps_pieces k ++ (blank (codes " ") ∷ operand_pieces b)))

-- a bound of steps, and an operand
bound_text : (k e : Expression) → text (steps_pieces k ++ (blank (codes " ") ∷ operand_pieces e)) ≡ steps_text k ++ (codes " " ++ operand_text e)
bound_text k e =
    text_both (steps_pieces k) (blank (codes " ") ∷ operand_pieces e) (steps_text k) (codes " " ++ operand_text e) (within_text (is_node k || is_function_name k) k)
    (ap (λ (u : List ℕ). codes " " ++ u) (within_text (is_choice e) e))

path_is : (p : Path Expression) → text (path_pieces p) ≡ path_text p
path_is (finally e) = ap (λ (u : List ℕ). codes "F " ++ u) (within_text (is_choice e) e)
path_is (globally e) = ap (λ (u : List ℕ). codes "G " ++ u) (within_text (is_choice e) e)
path_is (until a b) =
    text_both (operand_pieces a) (spaced (word_piece W.UWord) (operand_pieces b)) (operand_text a) (codes " U " ++ operand_text b) (within_text (is_choice a) a)
    (ap (λ (u : List ℕ). codes " U " ++ u) (within_text (is_choice b) b))
path_is (weak_until a b) =
    text_both (operand_pieces a) (spaced (word_piece W.WWord) (operand_pieces b)) (operand_text a) (codes " W " ++ operand_text b) (within_text (is_choice a) a)
    (ap (λ (u : List ℕ). codes " W " ++ u) (within_text (is_choice b) b))
path_is (finally_within k e) = ap (λ (u : List ℕ). codes "F<=" ++ u) (bound_text k e)
path_is (until_within k a b) =
    text_both (operand_pieces a) (blank (codes " ") ∷ word_piece W.UWord ∷ mark S.AtMost ∷ (steps_pieces k ++ (blank (codes " ") ∷ operand_pieces b))) (operand_text a)
    (codes " U<=" ++ (steps_text k ++ (codes " " ++ operand_text b))) (within_text (is_choice a) a) (ap (λ (u : List ℕ). codes " U<=" ++ u) (bound_text k b))

-- ---- queries

abbrev pub question_pieces : Reserved → List Piece
question_pieces r = word_piece r ∷ mark S.Equal ∷ mark S.Question ∷ []

abbrev pub compare_symbol : Compare → Symbol
compare_symbol C.Less = S.Less
compare_symbol C.AtMost = S.AtMost
compare_symbol C.AtLeast = S.AtLeast
compare_symbol C.Greater = S.Greater

abbrev pub reward_pieces : Name → Reserved → List Piece
reward_pieces x r = word_piece W.RWord ∷ mark S.LeftBrace ∷ printed K.Ident (quoted x) ∷ mark S.RightBrace ∷ question_pieces r

abbrev pub ask_pieces : List Name → Ask Expression ℕ → List Piece
ask_pieces rewards greatest = question_pieces W.Pmax
ask_pieces rewards least = question_pieces W.Pmin
ask_pieces rewards (bounded c e) = word_piece W.PWord ∷ mark (compare_symbol c) ∷ probability_pieces e
ask_pieces rewards (greatest_reward r) = reward_pieces (structure_name rewards r) W.Max
ask_pieces rewards (least_reward r) = reward_pieces (structure_name rewards r) W.Min

compare_is : (c : Compare) → symbol_text (compare_symbol c) ≡ compare_text c
compare_is C.Less = refl
compare_is C.AtMost = refl
compare_is C.AtLeast = refl
compare_is C.Greater = refl

ask_is : (rewards : List Name) (a : Ask Expression ℕ) → text (ask_pieces rewards a) ≡ ask_text rewards a
ask_is rewards greatest = refl
ask_is rewards least = refl
ask_is rewards (bounded c e) = ap₂ (λ (t u : List ℕ). codes "P" ++ (t ++ u)) (compare_is c) (within_text (is_node e) e)
ask_is rewards (greatest_reward r) = refl
ask_is rewards (least_reward r) = refl

-- ---- properties

abbrev pub query_pieces : List Piece → List Piece → List Piece
query_pieces ask path = ask ++ spaced (mark S.LeftBracket) (path ++ (blank (codes " ") ∷ mark S.RightBracket ∷ []))

abbrev pub titled_pieces : Name → List Piece → List Piece → List Piece
titled_pieces x ask path = printed K.Ident (quoted x) ∷ mark S.Colon ∷ blank (codes " ") ∷ query_pieces ask path

abbrev pub end_pieces : List Piece
end_pieces = mark S.Semicolon ∷ blank (codes "\n") ∷ []

abbrev pub asked_pieces : List Name → PrismProperty → List Piece
asked_pieces rewards p = ask_pieces rewards (ask_with plain (λ i. i) p.ask)

abbrev pub property_pieces : List Name → PrismProperty → List Piece
property_pieces rewards p = titled_pieces (or_empty p.name) (asked_pieces rewards p) (path_pieces (path_with plain p.path)) ++ end_pieces

abbrev pub all_pieces : List Name → List PrismProperty → List Piece
all_pieces rewards ps = flat_map (property_pieces rewards) ps

line_is : (x : Name) (ask path : List Piece) (t u : List ℕ) → text ask ≡ t → text path ≡ u →
    text (titled_pieces x ask path ++ end_pieces) ≡ quoted x ++ (codes ": " ++ (t ++ (codes " [ " ++ (u ++ codes " ];\n"))))
line_is x ask path t u e f =
    text_both (titled_pieces x ask path) end_pieces (quoted x ++ (codes ": " ++ (t ++ (codes " [ " ++ (u ++ codes " ]"))))) (codes ";\n") titled refl ∙ regrouped
  where
    titled : text (titled_pieces x ask path) ≡ quoted x ++ (codes ": " ++ (t ++ (codes " [ " ++ (u ++ codes " ]"))))
    titled =
        ap (λ (v : List ℕ). quoted x ++ (codes ": " ++ v))
        (text_both ask (spaced (mark S.LeftBracket) (path ++ (blank (codes " ") ∷ mark S.RightBracket ∷ []))) t (codes " [ " ++ (u ++ codes " ]")) e
        (ap (λ (v : List ℕ). codes " [ " ++ v) (text_both path (blank (codes " ") ∷ mark S.RightBracket ∷ []) u (codes " ]") f refl)))

    regrouped : (quoted x ++ (codes ": " ++ (t ++ (codes " [ " ++ (u ++ codes " ]"))))) ++ codes ";\n" ≡ quoted x ++ (codes ": " ++ (t ++ (codes " [ " ++ (u ++ codes " ];\n"))))
    regrouped =
        append_assoc (quoted x) (codes ": " ++ (t ++ (codes " [ " ++ (u ++ codes " ]")))) (codes ";\n")
        ∙ ap (λ (v : List ℕ). quoted x ++ (codes ": " ++ v)) (append_assoc t (codes " [ " ++ (u ++ codes " ]")) (codes ";\n")
        ∙ ap (λ (v : List ℕ). t ++ (codes " [ " ++ v)) (append_assoc u (codes " ]") (codes ";\n")))

property_is : (rewards : List Name) (p : PrismProperty) → text (property_pieces rewards p) ≡ property_text rewards p
property_is rewards p =
    line_is (or_empty p.name) (asked_pieces rewards p) (path_pieces (path_with plain p.path)) _ _ (ask_is rewards (ask_with plain (λ i. i) p.ask)) (path_is (path_with plain p.path))

pub all_is : (rewards : List Name) (ps : List PrismProperty) → text (all_pieces rewards ps) ≡ properties_text rewards ps
all_is rewards [] = refl
all_is rewards (p ∷ ps) = text_both (property_pieces rewards p) (all_pieces rewards ps) _ _ (property_is rewards p) (all_is rewards ps)
