-- The text of printable properties has the tokens of their pieces.
use Rattle.std.proofs.Common.{◌≡◌, ◌<◌, ℕ, zero, suc, Bool, true, List, [], ◌∷◌, ◌++◌, length, refl, sym, ap, subst, ◌∙◌, append_assoc, arith}
use Rattle.std.specs.Prelude.{codes, ◌||◌}
use Rattle.std.specs.List.{AllByRecursion as Each}
use Rattle.std.proofs.lemmas.List.{map-append}
use Rattle.basics.specs.Each.{each_parts}
use Rattle.prism_lex.specs.declared.automaton.State.TheVariants.{Start}
use Rattle.prism_lex.specs.declared.token.TokenKind.TheVariants as K
use Rattle.prism_lex.specs.declared.words.Reserved.{Reserved}
use Rattle.prism_lex.specs.declared.words.Reserved.TheVariants as W
use Rattle.prism_lex.specs.declared.symbols.Symbol.{Symbol}
use Rattle.prism_lex.specs.declared.symbols.Symbol.TheVariants as S
use Rattle.prism_lex.specs.Words.{words}
use Rattle.prism_lex.specs.Automaton.{accepts, after}
use Rattle.prism_lex.specs.Tokens.{IsKind}
use Rattle.prism_lex.proofs.Shapes.{quoted_state}
use Rattle.prism_tree.specs.Syntax.{Expression}
use Rattle.prism_print.specs.Text.{is_node}
use Rattle.prism_print.proofs.Stands.{Calm, Stands, symbol_stands, symbol_calm, accepted_stands, accepted_plain_text}
use Rattle.prism_print.proofs.Pieces.{Piece, printed, blank, mark, spaced, within, pieces}
use Rattle.prism_print.proofs.Lexed.{Spaced}
use Rattle.prism_print.proofs.Neat.{space_calm, closed_stands}
use Rattle.prop_grammar.specs.Property.{Ask, greatest, least, bounded, greatest_reward, least_reward, Path, finally, globally, until, weak_until, finally_within, until_within}
use Rattle.prop_trees.specs.Trees.{Name, PrismProperty, ask_parts, path_parts, ask_with, path_with}
use Rattle.prop_trees.specs.Names.{quoted}
use Rattle.prop_trees.specs.Form.{AsksWell}
use Rattle.prop_trees.specs.Text.{plain, is_choice, is_function_name, structure_name, or_empty}
use Rattle.prop_trees.specs.Printable.{IsTitle, IsPrintableTree, IsPrintableProperty}
use Rattle.prop_trees.proofs.Lexing.{as_lexed, lexed, NoneQuoted, none_both}
use Rattle.prop_trees.proofs.Readable.{Readable, within_readable, gap_readable, spaced_readable, tree_readable}
use Rattle.prop_trees.proofs.Parts.{word_text, word_piece, operand_pieces, steps_pieces, path_pieces, question_pieces, compare_symbol, reward_pieces, ask_pieces, query_pieces, titled_pieces, end_pieces, asked_pieces, property_pieces, all_pieces}

-- ---- words

word_is : (r : Reserved) → (word_text r ≡ [] → ⊥) → IsKind (word_text r) (K.Word r) × (accepts (after Start (word_text r)) ≡ true)
unfolding words
word_is W.Pmax h = (refl, refl)
word_is W.Pmin h = (refl, refl)
word_is W.PWord h = (refl, refl)
word_is W.RWord h = (refl, refl)
word_is W.Max h = (refl, refl)
word_is W.Min h = (refl, refl)
word_is W.FWord h = (refl, refl)
word_is W.GWord h = (refl, refl)
word_is W.UWord h = (refl, refl)
word_is W.WWord h = (refl, refl)
word_is r h = absurd (h refl)

-- a word before a blank, and before a symbol
word_gap : (r : Reserved) (ps : List Piece) → (word_text r ≡ [] → ⊥) → Readable ps → Readable (word_piece r ∷ blank (codes " ") ∷ ps)
word_gap r ps h f = let w = word_is r h in record {
  sound = λ qs s c.
      let q = f.sound qs s c in
      ((accepted_stands (K.Word r) (word_text r) _ w.0 w.1 (space_calm _), (refl, q.0)), accepted_plain_text (word_text r) _ w.1);
  none = (refl, f.none);
}

word_symbol : (r : Reserved) (y : Symbol) (ps : List Piece) → (word_text r ≡ [] → ⊥) → Readable ps → Readable (word_piece r ∷ mark y ∷ ps)
word_symbol r y ps h f = let w = word_is r h in record {
  sound = λ qs s c.
      let q = f.sound qs s c in
      ((accepted_stands (K.Word r) (word_text r) _ w.0 w.1 (symbol_calm y _), (symbol_stands y _ (λ _. q.1), q.0)), accepted_plain_text (word_text r) _ w.1);
  none = (refl, (refl, f.none));
}

word_between : (r : Reserved) (qs rs : List Piece) → (word_text r ≡ [] → ⊥) → Readable qs → Readable rs → Readable (qs ++ spaced (word_piece r) rs)
word_between r qs rs h f g =
    let w = word_is r h in
    spaced_readable (K.Word r) (word_text r) qs rs refl refl (λ rest. accepted_stands (K.Word r) (word_text r) (32 ∷ rest) w.0 w.1 (space_calm rest)) f g

question_mark : Readable (mark S.Question ∷ [])
question_mark = record { sound = λ ps s c. ((closed_stands S.Question _ refl, s), refl); none = (refl, tt) }

right_bracket : Readable (mark S.RightBracket ∷ [])
right_bracket = record { sound = λ ps s c. ((closed_stands S.RightBracket _ refl, s), refl); none = (refl, tt) }

question_readable : (r : Reserved) → (word_text r ≡ [] → ⊥) → Readable (question_pieces r)
question_readable r h = word_symbol r S.Equal (mark S.Question ∷ []) h question_mark

-- ---- paths

-- an expression that is written in its place
abbrev Printable : Expression → Type 0
Printable e = IsPrintableTree (plain e)

placed_readable : (b : Bool) (e : Expression) → IsPrintableTree e → Readable (within b (pieces e))
placed_readable b e h = within_readable b (pieces e) (tree_readable e h.literals h.operands h.names)

bound_readable : (k e : Expression) → IsPrintableTree k → IsPrintableTree e → Readable (steps_pieces k ++ (blank (codes " ") ∷ operand_pieces e))
bound_readable k e h i =
    gap_readable (steps_pieces k) (operand_pieces e) (placed_readable (is_node k || is_function_name k) k h) (placed_readable (is_choice e) e i)

path_readable : (p : Path Expression) → Each (λ x. Printable x.1) (path_parts p) → Readable (path_pieces (path_with plain p))
path_readable (finally e) h = word_gap W.FWord (operand_pieces (plain e)) (λ i. absurd cc) (placed_readable (is_choice (plain e)) (plain e) h.0)
path_readable (globally e) h = word_gap W.GWord (operand_pieces (plain e)) (λ i. absurd cc) (placed_readable (is_choice (plain e)) (plain e) h.0)
path_readable (until a b) h =
    word_between W.UWord (operand_pieces (plain a)) (operand_pieces (plain b)) (λ i. absurd cc) (placed_readable (is_choice (plain a)) (plain a) h.0)
    (placed_readable (is_choice (plain b)) (plain b) h.1.0)
path_readable (weak_until a b) h =
    word_between W.WWord (operand_pieces (plain a)) (operand_pieces (plain b)) (λ i. absurd cc) (placed_readable (is_choice (plain a)) (plain a) h.0)
    (placed_readable (is_choice (plain b)) (plain b) h.1.0)
path_readable (finally_within k e) h = word_symbol W.FWord S.AtMost _ (λ i. absurd cc) (bound_readable (plain k) (plain e) h.0 h.1.0)
path_readable (until_within k a b) h =
    gap_readable (operand_pieces (plain a)) (word_piece W.UWord ∷ mark S.AtMost ∷ (steps_pieces (plain k) ++ (blank (codes " ") ∷ operand_pieces (plain b))))
    (placed_readable (is_choice (plain a)) (plain a) h.1.0) (word_symbol W.UWord S.AtMost _ (λ i. absurd cc) (bound_readable (plain k) (plain b) h.0 h.1.1.0))

-- ---- queries

structure_titled : (rewards : List Name) (r : ℕ) → Each IsTitle rewards → r < length rewards → IsTitle (structure_name rewards r)
structure_titled [] r h l = absurd (omega arith)
structure_titled (x ∷ xs) zero h l = h.0
structure_titled (x ∷ xs) (suc r) h l = structure_titled xs r h.1 (omega arith)

-- a name between quotes
quoted_stands : (x rest : List ℕ) → IsTitle x → Calm rest → Stands K.Quoted (quoted x) rest
quoted_stands x rest t c = accepted_stands K.Quoted (quoted x) rest (x, refl, t) (ap accepts (quoted_state (quoted x) x refl t)) c

reward_readable : (x : Name) (r : Reserved) → IsTitle x → (word_text r ≡ [] → ⊥) → Readable (reward_pieces x r)
reward_readable x r t h = let w = word_is W.RWord (λ i. absurd cc) in let f = question_readable r h in record {
  sound = λ ps s c.
      let q = f.sound ps s c in
      let named : Spaced (printed K.Quoted (quoted x) ∷ mark S.RightBrace ∷ (lexed (question_pieces r) ++ ps)) =
      (quoted_stands x _ t (symbol_calm S.RightBrace _), (closed_stands S.RightBrace _ refl, q.0)) in
      ((accepted_stands (K.Word W.RWord) (codes "R") _ w.0 w.1 (symbol_calm S.LeftBrace _), (closed_stands S.LeftBrace _ refl, named)), refl);
  none = (refl, (refl, (refl, (refl, f.none))));
}

ask_readable : (rewards : List Name) (a : Ask Expression ℕ) (p : Path Expression) → Each IsTitle rewards → AsksWell (length rewards) a p → Each (λ x. Printable x.1) (ask_parts a) →
    Readable (ask_pieces rewards (ask_with plain (λ i. i) a))
ask_readable rewards greatest p t w h = question_readable W.Pmax (λ i. absurd cc)
ask_readable rewards least p t w h = question_readable W.Pmin (λ i. absurd cc)
ask_readable rewards (bounded c e) p t w h = word_symbol W.PWord (compare_symbol c) _ (λ i. absurd cc) (placed_readable (is_node (plain e)) (plain e) h.0)
ask_readable rewards (greatest_reward r) p t w h = reward_readable (structure_name rewards r) W.Max (structure_titled rewards r t w.0) (λ i. absurd cc)
ask_readable rewards (least_reward r) p t w h = reward_readable (structure_name rewards r) W.Min (structure_titled rewards r t w.0) (λ i. absurd cc)

-- ---- properties

query_readable : (ask path : List Piece) → Readable ask → Readable path → Readable (query_pieces ask path)
query_readable ask path f g =
    spaced_readable (K.Symbol S.LeftBracket) _ ask (path ++ (blank (codes " ") ∷ mark S.RightBracket ∷ [])) refl refl (λ rest. closed_stands S.LeftBracket (32 ∷ rest) refl) f
    (gap_readable path (mark S.RightBracket ∷ []) g right_bracket)

titled_readable : (x : Name) (ask path : List Piece) → IsTitle x → Readable ask → Readable path → Readable (titled_pieces x ask path)
titled_readable x ask path t f g = let h = query_readable ask path f g in record {
  sound = λ ps s c.
      let q = h.sound ps s c in
      ((quoted_stands x _ t (symbol_calm S.Colon _), (closed_stands S.Colon _ refl, (refl, q.0))), refl);
  none = (refl, (refl, h.none));
}

property_readable : (rewards : List Name) (p : PrismProperty) → Each IsTitle rewards → IsPrintableProperty rewards p →
    Readable (titled_pieces (or_empty p.name) (asked_pieces rewards p) (path_pieces (path_with plain p.path)))
property_readable rewards p t h =
    let r = each_parts (λ x. Printable x.1) (ask_parts p.ask) (path_parts p.path) h.expressions in
    let F : Name → Type 0 = λ u. IsTitle u in
    titled_readable (or_empty p.name) (asked_pieces rewards p) (path_pieces (path_with plain p.path)) (subst F (sym (ap or_empty h.named)) h.title)
    (ask_readable rewards p.ask p.path t h.asks r.0) (path_readable p.path r.1)

-- with its end, before anything
line_spaced : (ps qs : List Piece) → Readable ps → Spaced qs → Spaced (lexed (ps ++ end_pieces) ++ qs)
line_spaced ps qs h s =
    let r = h.sound (end_pieces ++ qs) (closed_stands S.Semicolon _ refl, (refl, s)) (symbol_calm S.Semicolon _) in
    let F : List Piece → Type 0 = λ u. Spaced u in
    subst F (sym (ap (λ (u : List Piece). u ++ qs) (map-append as_lexed ps end_pieces) ∙ append_assoc (lexed ps) end_pieces qs)) r.0

pub all_spaced : (rewards : List Name) (ps : List PrismProperty) → Each IsTitle rewards → Each (IsPrintableProperty rewards) ps → Spaced (lexed (all_pieces rewards ps))
all_spaced rewards [] t h = tt
all_spaced rewards (p ∷ ps) t h =
    let titled = titled_pieces (or_empty p.name) (asked_pieces rewards p) (path_pieces (path_with plain p.path)) in
    let F : List Piece → Type 0 = λ u. Spaced u in
    subst F (sym (map-append as_lexed (property_pieces rewards p) (all_pieces rewards ps)))
    (line_spaced titled (lexed (all_pieces rewards ps)) (property_readable rewards p t h.0) (all_spaced rewards ps t h.1))

pub all_none : (rewards : List Name) (ps : List PrismProperty) → Each IsTitle rewards → Each (IsPrintableProperty rewards) ps → NoneQuoted (all_pieces rewards ps)
all_none rewards [] t h = tt
all_none rewards (p ∷ ps) t h =
    let titled = titled_pieces (or_empty p.name) (asked_pieces rewards p) (path_pieces (path_with plain p.path)) in
    none_both (titled ++ end_pieces) (all_pieces rewards ps) (none_both titled end_pieces (property_readable rewards p t h.0).none (refl, tt)) (all_none rewards ps t h.1)
