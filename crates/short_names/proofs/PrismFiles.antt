-- Each PRISM file that bytes without fault spell has short names.
use Rattle.std.proofs.Common.{◌≡◌, ℕ, List, [], ◌∷◌, ◌++◌, length, Option, Some, None, refl}
use Rattle.std.specs.List.{AllByRecursion as Each}
use Rattle.basics.specs.Options.{IfAny}
use Rattle.bridge_io.specs.declared.reason.Named.{Named}
use Rattle.bridge_io.specs.declared.reason.Fault.{Fault}
use Rattle.op_trees.specs.Tree.{Truth}
use Rattle.prism_lex.specs.declared.token.TokenKind.{TokenKind}
use Rattle.prism_lex.specs.declared.token.TokenKind.TheVariants as K
use Rattle.prism_lex.specs.declared.words.Reserved.TheVariants as W
use Rattle.prism_lex.specs.declared.symbols.Symbol.TheVariants as S
use Rattle.prism_lex.specs.Tokens.{TokenFaults}
use Rattle.prism_tree.specs.declared.syntax.ItemOn.TheVariants.{InState}
use Rattle.prism_tree.specs.Syntax.{Expression, File, moved}
use Rattle.prism_tree.specs.Lang.{Lang, token, ◌>>◌, folding, with_last, front}
use Rattle.prism_tree.specs.Grammar.{name, named, unquoted, quoted, expr, const_type, const_item, range, var, global_item, formula_item, label_item, write, update, weighted, updates, one_branch, command, body, pair, copy, module_item, on_action, reward, rewards_item, Section, a_const, a_global, a_formula, a_module, a_label, a_rewards, empty, with_section, section, init_if, init_item, items, with_init, file_over}
use Rattle.prism_tree.specs.Faults.{SyntaxFaults, of_tokens, of_grammar, none}
use Rattle.prism_print.proofs.SpelledFiles.{V}
use Rattle.prism_print.proofs.Keeping.{Keeps, IsKept, then_keeps, any_then, gives_keeps, never_keeps, or_keeps, token_keeps, many_keeps, folding_keeps, optional_keeps, any_keeps, expr_keeps}
use Rattle.short_names.specs.ShortNames.{ShortNamed, ShortExpression, ShortConst, ShortRange, ShortVar, ShortFormula, ShortLabel, ShortWrite, ShortBranch, ShortCommand, ShortPair, ShortModule, ShortOn, ShortItem, ShortRewards, HasShortNames}
use Rattle.short_names.specs.Laws.{PrismNamesAreShort}
use Rattle.short_names.proofs.Tokens.{IsAccepted, faultless_accepted, identifier_short, title_short}

-- ---- expressions

moved_short : (at : ℕ) (e : Expression) → ShortExpression e → ShortExpression (moved at e)
moved_short at (Truth from b) p = p
moved_short at e p = p

short : IsKept IsAccepted ShortExpression
short = record {
  a_truth = λ at b. tt;
  a_number = λ t d h e. tt;
  a_name = identifier_short;
  over_one = λ at o a h p. p;
  over_two = λ at o a b h p q. (p, q);
  over_three = λ at o a b c h p q r. (p, q, r);
  elsewhere = moved_short;
}

expression_keeps : Keeps IsAccepted expr ShortExpression
expression_keeps = expr_keeps short

-- ---- items

each_last : {A : Type 0} (P : A → Type 0) (xs : List A) (x : A) → Each P xs → P x → Each P (xs ++ x ∷ [])
each_last P [] x e p = (p, tt)
each_last P (y ∷ xs) x e p = (e.0, each_last P xs x e.1 p)

front_keeps : {A : Type 0} (L : Lang A) (P : A → Type 0) (x : A) → Keeps IsAccepted L P → P x → Keeps IsAccepted (front L (x ∷ [])) (Each P)
front_keeps L P x l p = folding_keeps L (Each P) with_last (x ∷ []) l (p, tt) (λ xs y e q. each_last P xs y e q)

word_then : {A : Type 0} (k : TokenKind) {L : Lang A} {P : A → Type 0} → Keeps IsAccepted L P → Keeps IsAccepted (token k >> L) P
word_then k l = any_then (token k) (λ t. l)

name_keeps : Keeps IsAccepted name ShortNamed
unfolding name
name_keeps = then_keeps (token_keeps K.Ident) (λ t h. gives_keeps (named t.text t.at) (identifier_short t h.0 h.1))

title_keeps : Keeps IsAccepted quoted ShortNamed
unfolding quoted
title_keeps = then_keeps (token_keeps K.Quoted) (λ t h. gives_keeps (named (unquoted t.text) t.at) (title_short t h.0 h.1))

const_keeps : Keeps IsAccepted (const_item expr V) ShortConst
unfolding const_item
const_keeps = word_then (K.Word W.Const) (then_keeps (any_keeps (const_type expr V)) (λ t u. then_keeps name_keeps (λ x p. then_keeps (optional_keeps (word_then (K.Symbol S.Equal) expression_keeps)) (λ v q. word_then (K.Symbol S.Semicolon) (gives_keeps _ (p, q))))))

range_keeps : Keeps IsAccepted (range expr V) ShortRange
unfolding range
range_keeps = word_then (K.Symbol S.LeftBracket) (then_keeps expression_keeps (λ l p. word_then (K.Symbol S.Dots) (then_keeps expression_keeps (λ h q. word_then (K.Symbol S.RightBracket) (gives_keeps _ (p, q))))))

var_keeps : Keeps IsAccepted (var expr V) ShortVar
unfolding var
var_keeps =
    then_keeps name_keeps (λ x p. word_then (K.Symbol S.Colon) (then_keeps (or_keeps (then_keeps range_keeps (λ r q. gives_keeps (Some r) q)) (or_keeps (word_then (K.Word W.BoolWord) (gives_keeps None tt)) never_keeps))
    (λ r q. then_keeps (optional_keeps (word_then (K.Word W.Init) expression_keeps)) (λ s t. word_then (K.Symbol S.Semicolon) (gives_keeps _ (p, q, t))))))

formula_keeps : Keeps IsAccepted (formula_item expr V) ShortFormula
unfolding formula_item
formula_keeps = word_then (K.Word W.Formula) (then_keeps name_keeps (λ x p. word_then (K.Symbol S.Equal) (then_keeps expression_keeps (λ e q. word_then (K.Symbol S.Semicolon) (gives_keeps _ (p, q))))))

label_keeps : Keeps IsAccepted (label_item expr V) ShortLabel
unfolding label_item
label_keeps = word_then (K.Word W.Label) (then_keeps title_keeps (λ x p. word_then (K.Symbol S.Equal) (then_keeps expression_keeps (λ e q. word_then (K.Symbol S.Semicolon) (gives_keeps _ (p, q))))))

write_keeps : Keeps IsAccepted (write expr V) ShortWrite
unfolding write
write_keeps =
    word_then (K.Symbol S.LeftParenthesis) (then_keeps name_keeps (λ x p. word_then (K.Symbol S.Prime) (word_then (K.Symbol S.Equal) (then_keeps expression_keeps (λ e q. word_then (K.Symbol S.RightParenthesis) (gives_keeps _ (p, q)))))))

update_keeps : Keeps IsAccepted (update expr V) (Each ShortWrite)
unfolding update
update_keeps = or_keeps (word_then (K.Word W.True) (gives_keeps [] tt)) (then_keeps write_keeps (λ w p. front_keeps _ ShortWrite w (word_then (K.Symbol S.And) write_keeps) p))

weighted_keeps : Keeps IsAccepted (weighted expr V) ShortBranch
unfolding weighted
weighted_keeps = then_keeps expression_keeps (λ e p. word_then (K.Symbol S.Colon) (then_keeps update_keeps (λ ws q. gives_keeps _ (p, q))))

updates_keeps : Keeps IsAccepted (updates expr V) (Each ShortBranch)
unfolding updates
updates_keeps =
    or_keeps (then_keeps update_keeps (λ ws p. gives_keeps (one_branch ws) ((tt, p), tt))) (then_keeps weighted_keeps (λ b p. front_keeps _ ShortBranch b (word_then (K.Symbol S.Plus) weighted_keeps) p))

command_keeps : Keeps IsAccepted (command expr V) ShortCommand
unfolding command
command_keeps =
    word_then (K.Symbol S.LeftBracket) (then_keeps (optional_keeps name_keeps) (λ a p. word_then (K.Symbol S.RightBracket) (then_keeps expression_keeps (λ g q. word_then (K.Symbol S.Arrow) (then_keeps updates_keeps (λ bs r.
    word_then (K.Symbol S.Semicolon) (gives_keeps _ (p, q, r))))))))

body_keeps : (x : Named) → ShortNamed x → Keeps IsAccepted (body expr V x) ShortModule
unfolding body
body_keeps x p = then_keeps (many_keeps (var expr V) var_keeps) (λ vs q. then_keeps (many_keeps (command expr V) command_keeps) (λ cs r. gives_keeps _ (p, q, r)))

pair_keeps : Keeps IsAccepted (pair expr V) ShortPair
unfolding pair
pair_keeps = then_keeps name_keeps (λ a p. word_then (K.Symbol S.Equal) (then_keeps name_keeps (λ b q. gives_keeps _ (p, q))))

copy_keeps : (x : Named) → ShortNamed x → Keeps IsAccepted (copy expr V x) ShortModule
unfolding copy
copy_keeps x p =
    word_then (K.Symbol S.Equal) (then_keeps name_keeps (λ from q. word_then (K.Symbol S.LeftBracket) (then_keeps pair_keeps (λ a r. then_keeps (front_keeps _ ShortPair a (word_then (K.Symbol S.Comma) pair_keeps) r) (λ ps s.
    word_then (K.Symbol S.RightBracket) (gives_keeps _ (p, q, s)))))))

module_keeps : Keeps IsAccepted (module_item expr V) ShortModule
unfolding module_item
module_keeps = word_then (K.Word W.Module) (then_keeps name_keeps (λ x p. then_keeps (or_keeps (body_keeps x p) (copy_keeps x p)) (λ m q. word_then (K.Word W.Endmodule) (gives_keeps m q))))

on_short : (o : Option Named) → IfAny ShortNamed o → ShortOn (on_action o)
on_short None p = tt
on_short (Some a) p = p

reward_keeps : Keeps IsAccepted (reward expr V) ShortItem
unfolding reward
reward_keeps =
    then_keeps (or_keeps (gives_keeps InState tt) (then_keeps (word_then (K.Symbol S.LeftBracket) (optional_keeps name_keeps)) (λ a p. word_then (K.Symbol S.RightBracket) (gives_keeps (on_action a) (on_short a p)))))
    (λ o p. then_keeps expression_keeps (λ g q. word_then (K.Symbol S.Colon) (then_keeps expression_keeps (λ v r. word_then (K.Symbol S.Semicolon) (gives_keeps _ (p, q, r))))))

rewards_keeps : Keeps IsAccepted (rewards_item expr V) ShortRewards
unfolding rewards_item
rewards_keeps = word_then (K.Word W.Rewards) (then_keeps (optional_keeps title_keeps) (λ x p. then_keeps (many_keeps (reward expr V) reward_keeps) (λ is q. word_then (K.Word W.Endrewards) (gives_keeps _ (p, q)))))

-- ---- files

abbrev ShortSection : Section → Type 0
ShortSection (a_const c) = ShortConst c
ShortSection (a_global v) = ShortVar v
ShortSection (a_formula f) = ShortFormula f
ShortSection (a_module m) = ShortModule m
ShortSection (a_label l) = ShortLabel l
ShortSection (a_rewards r) = ShortRewards r

section_keeps : Keeps IsAccepted (section expr V) ShortSection
unfolding section global_item
section_keeps =
    or_keeps (then_keeps const_keeps (λ x p. gives_keeps (a_const x) p)) (or_keeps (then_keeps (word_then (K.Word W.Global) var_keeps) (λ x p. gives_keeps (a_global x) p)) (or_keeps (then_keeps formula_keeps (λ x p. gives_keeps (a_formula x) p))
    (or_keeps (then_keeps module_keeps (λ x p. gives_keeps (a_module x) p)) (or_keeps (then_keeps label_keeps (λ x p. gives_keeps (a_label x) p)) (then_keeps rewards_keeps (λ x p. gives_keeps (a_rewards x) p))))))

with_short : (f : File) (s : Section) → HasShortNames f → ShortSection s → HasShortNames (with_section f s)
with_short f (a_const x) p q = record { constants = each_last ShortConst f.constants x p.constants q; globals = p.globals; formulas = p.formulas; modules = p.modules; labels = p.labels; rewards = p.rewards }
with_short f (a_global x) p q = record { constants = p.constants; globals = each_last ShortVar f.globals x p.globals q; formulas = p.formulas; modules = p.modules; labels = p.labels; rewards = p.rewards }
with_short f (a_formula x) p q = record { constants = p.constants; globals = p.globals; formulas = each_last ShortFormula f.formulas x p.formulas q; modules = p.modules; labels = p.labels; rewards = p.rewards }
with_short f (a_module x) p q = record { constants = p.constants; globals = p.globals; formulas = p.formulas; modules = each_last ShortModule f.modules x p.modules q; labels = p.labels; rewards = p.rewards }
with_short f (a_label x) p q = record { constants = p.constants; globals = p.globals; formulas = p.formulas; modules = p.modules; labels = each_last ShortLabel f.labels x p.labels q; rewards = p.rewards }
with_short f (a_rewards x) p q = record { constants = p.constants; globals = p.globals; formulas = p.formulas; modules = p.modules; labels = p.labels; rewards = each_last ShortRewards f.rewards x p.rewards q }

sections_keep : (f : File) → HasShortNames f → Keeps IsAccepted (folding with_section (section expr V) f) HasShortNames
sections_keep f p = folding_keeps (section expr V) HasShortNames with_section f section_keeps p with_short

init_keeps : (o : Option Expression) → Keeps IsAccepted (init_if expr V o) ShortExpression
unfolding init_item
init_keeps None = word_then (K.Word W.Init) (then_keeps expression_keeps (λ e p. word_then (K.Word W.Endinit) (gives_keeps e p)))
init_keeps (Some e) = never_keeps

-- a condition declares nothing
with_condition : (f : File) (e : Expression) → HasShortNames f → HasShortNames (with_init f e)
with_condition f e p = record { constants = p.constants; globals = p.globals; formulas = p.formulas; modules = p.modules; labels = p.labels; rewards = p.rewards }

items_keep : (f : File) → HasShortNames f → Keeps IsAccepted (items expr V f) HasShortNames
unfolding items
items_keep f p = then_keeps (sections_keep f p) (λ g q. or_keeps (gives_keeps g q) (then_keeps (init_keeps g.init) (λ e r. sections_keep (with_init g e) (with_condition g e q))))

file_keeps : (end : ℕ) → Keeps IsAccepted (file_over expr V end) HasShortNames
unfolding file_over
file_keeps end =
    then_keeps (items_keep (empty end) begun) (λ f p. word_then (K.Word W.Mdp) (items_keep f p))
  where
    begun : HasShortNames (empty end)
    begun = record { constants = tt; globals = tt; formulas = tt; modules = tt; labels = tt; rewards = tt }

pub prism_names : PrismNamesAreShort
prism_names bytes f clean s = (file_keeps (length bytes)).keeps s.tokens f (faultless_accepted bytes s.tokens (tokens_clean bytes [] refl clean) s.are_tokens) s.spelled
  where
    tokens_clean : (bytes : List ℕ) (fs : List Fault) → fs ≡ [] → SyntaxFaults bytes fs → TokenFaults bytes []
    tokens_clean bytes fs e (of_tokens g gs t) = absurd cc
    tokens_clean bytes fs e (of_grammar ts g t r i) = t
    tokens_clean bytes fs e (none ts x t r w) = t
