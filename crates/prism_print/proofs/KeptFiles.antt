-- Each file that a text spells is printable.
use Rattle.std.proofs.Common.{◌≡◌, ℕ, true, List, [], ◌∷◌, ◌++◌, length, Option, Some, None, refl, ap, subst, ◌∙◌}
use Rattle.bridge_io.specs.declared.reason.Named.{Named}
use Rattle.prism_lex.specs.declared.token.TokenKind.{TokenKind}
use Rattle.prism_lex.specs.declared.token.TokenKind.TheVariants as K
use Rattle.prism_lex.specs.declared.words.Reserved.TheVariants as W
use Rattle.prism_lex.specs.declared.symbols.Symbol.TheVariants as S
use Rattle.prism_lex.specs.Tokens.{Lexeme, IsKind, Reads, Tokens, finished, end_of, is_name}
use Rattle.prism_lex.proofs.Worth.{worth_normal, worth_unsigned}
use Rattle.prism_tree.specs.declared.syntax.ItemOn.TheVariants.{InState}
use Rattle.op_trees.specs.Tree.{Truth}
use Rattle.prism_tree.specs.Syntax.{Expression, Write, Branch, File, moved}
use Rattle.prism_tree.specs.Lang.{Lang, token, ◌>>◌, folding, with_last, front}
use Rattle.prism_tree.specs.Grammar.{name, named, unquoted, quoted, expr, const_type, const_item, range, var, global_item, formula_item, label_item, write, update, weighted, updates, one_branch, command, body, pair, copy, module_item, on_action, reward, rewards_item, Section, a_const, a_global, a_formula, a_module, a_label, a_rewards, empty, with_section, section, init_item, init_if, with_init, items, file_over}
use Rattle.prism_tree.specs.Laws.{but_last_is}
use Rattle.std.specs.List.{AllByRecursion as Each}
use Rattle.basics.specs.Options.{IfAny}
use Rattle.basics.specs.Lists.{IsNotEmpty}
use Rattle.prism_print.specs.Printable.{IsPrintableExpression, IsIdentifier, IsTitle, IsPrintableConst, IsPrintableRange, IsPrintableVar, IsPrintableFormula, IsPrintableLabel, IsPrintableWrite, IsPrintableBranch, HasWeight, AreBranches, IsPrintableCommand, IsPrintablePair, IsPrintableModule, IsPrintableOn, IsPrintableItem, IsPrintableRewards, IsPrintable}
use Rattle.prism_print.specs.Laws.{SpelledIsPrintable}
use Rattle.prism_print.proofs.SpelledFiles.{V}
use Rattle.prism_print.proofs.Keeping.{Keeps, IsKept, then_keeps, gives_keeps, never_keeps, or_keeps, token_keeps, many_keeps, folding_keeps, optional_keeps, any_keeps, expr_keeps}

-- ---- tokens

-- the token's text is of its kind
abbrev IsLexeme : Lexeme → Type 0
IsLexeme t = IsKind t.text t.kind

lexemes_from : (bytes : List ℕ) (ts : List Lexeme) (from : ℕ) → Reads bytes from ts finished → Each IsLexeme ts
lexemes_from bytes [] from r = tt
lexemes_from bytes (t ∷ ts) from r = (r.0.kind, lexemes_from bytes ts (end_of t) r.1)

token_lexemes : (bytes : List ℕ) (ts : List Lexeme) → Tokens bytes ts → Each IsLexeme ts
token_lexemes bytes ts r = lexemes_from bytes ts 0 r

of_kind : (t : Lexeme) (k : TokenKind) → IsLexeme t → t.kind ≡ k → IsKind t.text k
of_kind t k h e = let F : TokenKind → Type 0 = λ u. IsKind t.text u in subst F e h

kind_keeps : (k : TokenKind) → Keeps IsLexeme (token k) (λ t. IsKind t.text k)
kind_keeps k =
    let both : Keeps IsLexeme (token k) (λ t. IsLexeme t × (t.kind ≡ k)) = token_keeps k in
    record { keeps = λ w t e h. let p = both.keeps w t e h in of_kind t k p.0 p.1 }

-- ---- expressions

moved_printable : (at : ℕ) (e : Expression) → IsPrintableExpression e → IsPrintableExpression (moved at e)
moved_printable at (Truth from b) p = p
moved_printable at e p = p

printable : IsKept IsLexeme IsPrintableExpression
printable = record {
  a_truth = λ at b. tt;
  a_number = λ t d h e. let k = of_kind t (K.Number d) h e in (worth_normal t.text d k, worth_unsigned t.text d k);
  a_name = λ t h e. of_kind t K.Ident h e;
  over_one = λ at o a h p. (h, p);
  over_two = λ at o a b h p q. (h, p, q);
  over_three = λ at o a b c h p q r. (h, p, q, r);
  elsewhere = moved_printable;
}

printed_keeps : Keeps IsLexeme expr IsPrintableExpression
printed_keeps = expr_keeps printable

-- ---- files

each_last : {A : Type 0} (P : A → Type 0) (xs : List A) (x : A) → Each P xs → P x → Each P (xs ++ x ∷ [])
each_last P [] x e p = (p, tt)
each_last P (y ∷ xs) x e p = (e.0, each_last P xs x e.1 p)

some_last : {A : Type 0} (xs : List A) (x : A) → IsNotEmpty (xs ++ x ∷ [])
some_last [] x = tt
some_last (y ∷ xs) x = tt

-- at least one
abbrev Several : {A : Type 0} → (A → Type 0) → List A → Type 0
Several P xs = IsNotEmpty xs × Each P xs

front_keeps : {A : Type 0} (L : Lang A) (P : A → Type 0) (x : A) → Keeps IsLexeme L P → P x → Keeps IsLexeme (front L (x ∷ [])) (Several P)
front_keeps L P x l p = folding_keeps L (Several P) with_last (x ∷ []) l (tt, (p, tt)) (λ xs y e q. (some_last xs y, each_last P xs y e.1 q))

word_then : {A : Type 0} (k : _) {L : Lang A} {P : A → Type 0} → Keeps IsLexeme L P → Keeps IsLexeme (token k >> L) P
word_then k l = then_keeps (kind_keeps k) (λ t h. l)

name_keeps : Keeps IsLexeme name IsIdentifier
unfolding name
name_keeps = then_keeps (kind_keeps K.Ident) (λ t h. gives_keeps (named t.text t.at) h)

title_keeps : Keeps IsLexeme quoted IsTitle
unfolding quoted
title_keeps = then_keeps (kind_keeps K.Quoted) (λ t h. gives_keeps (named (unquoted t.text) t.at) (title t.text h.0 h.1 h.2))
  where
    title : (w x : List ℕ) → w ≡ 34 ∷ (x ++ 34 ∷ []) → is_name x ≡ true → is_name (unquoted w) ≡ true
    title w x e h = ap (λ (u : List ℕ). is_name u) (ap unquoted e ∙ but_last_is x 34) ∙ h

const_keeps : Keeps IsLexeme (const_item expr V) IsPrintableConst
unfolding const_item
const_keeps = word_then (K.Word W.Const) (then_keeps (any_keeps (const_type expr V)) (λ t u. then_keeps name_keeps (λ x p. then_keeps (optional_keeps (word_then (K.Symbol S.Equal) printed_keeps)) (λ v q. word_then (K.Symbol S.Semicolon) (gives_keeps _ (p, q))))))

range_keeps : Keeps IsLexeme (range expr V) IsPrintableRange
unfolding range
range_keeps = word_then (K.Symbol S.LeftBracket) (then_keeps printed_keeps (λ l p. word_then (K.Symbol S.Dots) (then_keeps printed_keeps (λ h q. word_then (K.Symbol S.RightBracket) (gives_keeps _ (p, q))))))

var_keeps : Keeps IsLexeme (var expr V) IsPrintableVar
unfolding var
var_keeps =
    then_keeps name_keeps (λ x p. word_then (K.Symbol S.Colon) (then_keeps (or_keeps (then_keeps range_keeps (λ r q. gives_keeps (Some r) q)) (or_keeps (word_then (K.Word W.BoolWord) (gives_keeps None tt)) never_keeps))
    (λ r q. then_keeps (optional_keeps (word_then (K.Word W.Init) printed_keeps)) (λ s t. word_then (K.Symbol S.Semicolon) (gives_keeps _ (p, q, t))))))

formula_keeps : Keeps IsLexeme (formula_item expr V) IsPrintableFormula
unfolding formula_item
formula_keeps = word_then (K.Word W.Formula) (then_keeps name_keeps (λ x p. word_then (K.Symbol S.Equal) (then_keeps printed_keeps (λ e q. word_then (K.Symbol S.Semicolon) (gives_keeps _ (p, q))))))

label_keeps : Keeps IsLexeme (label_item expr V) IsPrintableLabel
unfolding label_item
label_keeps = word_then (K.Word W.Label) (then_keeps title_keeps (λ x p. word_then (K.Symbol S.Equal) (then_keeps printed_keeps (λ e q. word_then (K.Symbol S.Semicolon) (gives_keeps _ (p, q))))))

write_keeps : Keeps IsLexeme (write expr V) IsPrintableWrite
unfolding write
write_keeps =
    word_then (K.Symbol S.LeftParenthesis) (then_keeps name_keeps (λ x p. word_then (K.Symbol S.Prime) (word_then (K.Symbol S.Equal) (then_keeps printed_keeps (λ e q. word_then (K.Symbol S.RightParenthesis) (gives_keeps _ (p, q)))))))

update_keeps : Keeps IsLexeme (update expr V) (Each IsPrintableWrite)
unfolding update
update_keeps = or_keeps (word_then (K.Word W.True) (gives_keeps [] tt)) (then_keeps write_keeps (λ w p. then_each (front_keeps _ IsPrintableWrite w (word_then (K.Symbol S.And) write_keeps) p)))
  where
    then_each : {L : Lang (List Write)} → Keeps IsLexeme L (Several IsPrintableWrite) → Keeps IsLexeme L (Each IsPrintableWrite)
    then_each l = record { keeps = λ w x e h. (l.keeps w x e h).1 }

abbrev Weighty : Branch → Type 0
Weighty b = HasWeight b × IsPrintableBranch b

weighted_keeps : Keeps IsLexeme (weighted expr V) Weighty
unfolding weighted
weighted_keeps = then_keeps printed_keeps (λ e p. word_then (K.Symbol S.Colon) (then_keeps update_keeps (λ ws q. gives_keeps _ ((e, refl), (p, q)))))

abbrev Branches : List Branch → Type 0
Branches bs = AreBranches bs × Each IsPrintableBranch bs

all_weights : (bs : List Branch) → Each Weighty bs → Each HasWeight bs × Each IsPrintableBranch bs
all_weights [] e = (tt, tt)
all_weights (b ∷ bs) e = let r = all_weights bs e.1 in ((e.0.0, r.0), (e.0.1, r.1))

are_branches : (bs : List Branch) → Several Weighty bs → Branches bs
are_branches [] s = absurd s.0
are_branches (b ∷ []) s = (tt, (all_weights (b ∷ []) s.1).1)
are_branches (b ∷ c ∷ bs) s = all_weights (b ∷ c ∷ bs) s.1

updates_keeps : Keeps IsLexeme (updates expr V) Branches
unfolding updates
updates_keeps =
    or_keeps (then_keeps update_keeps (λ ws p. gives_keeps (one_branch ws) (tt, ((tt, p), tt))))
    (then_keeps weighted_keeps (λ b p. made (front_keeps _ Weighty b (word_then (K.Symbol S.Plus) weighted_keeps) p)))
  where
    made : {L : Lang (List Branch)} → Keeps IsLexeme L (Several Weighty) → Keeps IsLexeme L Branches
    made l = record { keeps = λ w x e h. are_branches x (l.keeps w x e h) }

command_keeps : Keeps IsLexeme (command expr V) IsPrintableCommand
unfolding command
command_keeps =
    word_then (K.Symbol S.LeftBracket) (then_keeps (optional_keeps name_keeps) (λ a p. word_then (K.Symbol S.RightBracket) (then_keeps printed_keeps (λ g q. word_then (K.Symbol S.Arrow) (then_keeps updates_keeps (λ bs r.
    word_then (K.Symbol S.Semicolon) (gives_keeps _ (p, q, r.0, r.1))))))))

body_keeps : (x : Named) → IsIdentifier x → Keeps IsLexeme (body expr V x) IsPrintableModule
unfolding body
body_keeps x p = then_keeps (many_keeps (var expr V) var_keeps) (λ vs q. then_keeps (many_keeps (command expr V) command_keeps) (λ cs r. gives_keeps _ (p, q, r)))

pair_keeps : Keeps IsLexeme (pair expr V) IsPrintablePair
unfolding pair
pair_keeps = then_keeps name_keeps (λ a p. word_then (K.Symbol S.Equal) (then_keeps name_keeps (λ b q. gives_keeps _ (p, q))))

copy_keeps : (x : Named) → IsIdentifier x → Keeps IsLexeme (copy expr V x) IsPrintableModule
unfolding copy
copy_keeps x p =
    word_then (K.Symbol S.Equal) (then_keeps name_keeps (λ from q. word_then (K.Symbol S.LeftBracket) (then_keeps pair_keeps (λ a r. then_keeps (front_keeps _ IsPrintablePair a (word_then (K.Symbol S.Comma) pair_keeps) r) (λ ps s.
    word_then (K.Symbol S.RightBracket) (gives_keeps _ (p, q, s.0, s.1)))))))

module_keeps : Keeps IsLexeme (module_item expr V) IsPrintableModule
unfolding module_item
module_keeps = word_then (K.Word W.Module) (then_keeps name_keeps (λ x p. then_keeps (or_keeps (body_keeps x p) (copy_keeps x p)) (λ m q. word_then (K.Word W.Endmodule) (gives_keeps m q))))

on_printable : (o : Option Named) → IfAny IsIdentifier o → IsPrintableOn (on_action o)
on_printable None p = tt
on_printable (Some a) p = p

reward_keeps : Keeps IsLexeme (reward expr V) IsPrintableItem
unfolding reward
reward_keeps =
    then_keeps (or_keeps (gives_keeps InState tt) (then_keeps (word_then (K.Symbol S.LeftBracket) (optional_keeps name_keeps)) (λ a p. word_then (K.Symbol S.RightBracket) (gives_keeps (on_action a) (on_printable a p)))))
    (λ o p. then_keeps printed_keeps (λ g q. word_then (K.Symbol S.Colon) (then_keeps printed_keeps (λ v r. word_then (K.Symbol S.Semicolon) (gives_keeps _ (p, q, r))))))

rewards_keeps : Keeps IsLexeme (rewards_item expr V) IsPrintableRewards
unfolding rewards_item
rewards_keeps = word_then (K.Word W.Rewards) (then_keeps (optional_keeps title_keeps) (λ x p. then_keeps (many_keeps (reward expr V) reward_keeps) (λ is q. word_then (K.Word W.Endrewards) (gives_keeps _ (p, q)))))

-- ---- files

abbrev IsPrintableSection : Section → Type 0
IsPrintableSection (a_const c) = IsPrintableConst c
IsPrintableSection (a_global v) = IsPrintableVar v
IsPrintableSection (a_formula f) = IsPrintableFormula f
IsPrintableSection (a_module m) = IsPrintableModule m
IsPrintableSection (a_label l) = IsPrintableLabel l
IsPrintableSection (a_rewards r) = IsPrintableRewards r

section_keeps : Keeps IsLexeme (section expr V) IsPrintableSection
unfolding section global_item
section_keeps =
    or_keeps (then_keeps const_keeps (λ x p. gives_keeps (a_const x) p)) (or_keeps (then_keeps (word_then (K.Word W.Global) var_keeps) (λ x p. gives_keeps (a_global x) p)) (or_keeps (then_keeps formula_keeps (λ x p. gives_keeps (a_formula x) p))
    (or_keeps (then_keeps module_keeps (λ x p. gives_keeps (a_module x) p)) (or_keeps (then_keeps label_keeps (λ x p. gives_keeps (a_label x) p)) (then_keeps rewards_keeps (λ x p. gives_keeps (a_rewards x) p))))))

with_printable : (f : File) (s : Section) → IsPrintable f → IsPrintableSection s → IsPrintable (with_section f s)
with_printable f (a_const x) p q = record { constants = each_last IsPrintableConst f.constants x p.constants q; globals = p.globals; formulas = p.formulas; modules = p.modules; labels = p.labels; rewards = p.rewards; init = p.init }
with_printable f (a_global x) p q = record { constants = p.constants; globals = each_last IsPrintableVar f.globals x p.globals q; formulas = p.formulas; modules = p.modules; labels = p.labels; rewards = p.rewards; init = p.init }
with_printable f (a_formula x) p q = record { constants = p.constants; globals = p.globals; formulas = each_last IsPrintableFormula f.formulas x p.formulas q; modules = p.modules; labels = p.labels; rewards = p.rewards; init = p.init }
with_printable f (a_module x) p q = record { constants = p.constants; globals = p.globals; formulas = p.formulas; modules = each_last IsPrintableModule f.modules x p.modules q; labels = p.labels; rewards = p.rewards; init = p.init }
with_printable f (a_label x) p q = record { constants = p.constants; globals = p.globals; formulas = p.formulas; modules = p.modules; labels = each_last IsPrintableLabel f.labels x p.labels q; rewards = p.rewards; init = p.init }
with_printable f (a_rewards x) p q = record { constants = p.constants; globals = p.globals; formulas = p.formulas; modules = p.modules; labels = p.labels; rewards = each_last IsPrintableRewards f.rewards x p.rewards q; init = p.init }

init_with_printable : (f : File) (e : Expression) → IsPrintable f → IsPrintableExpression e → IsPrintable (with_init f e)
init_with_printable f e p q = record { constants = p.constants; globals = p.globals; formulas = p.formulas; modules = p.modules; labels = p.labels; rewards = p.rewards; init = q }

sections_keep : (f : File) → IsPrintable f → Keeps IsLexeme (folding with_section (section expr V) f) IsPrintable
sections_keep f p = folding_keeps (section expr V) IsPrintable with_section f section_keeps p with_printable

init_keeps : (o : Option Expression) → Keeps IsLexeme (init_if expr V o) IsPrintableExpression
unfolding init_item
init_keeps None = word_then (K.Word W.Init) (then_keeps printed_keeps (λ e p. word_then (K.Word W.Endinit) (gives_keeps e p)))
init_keeps (Some e) = never_keeps

items_keep : (f : File) → IsPrintable f → Keeps IsLexeme (items expr V f) IsPrintable
unfolding items
items_keep f p = then_keeps (sections_keep f p) (λ g q. or_keeps (gives_keeps g q) (then_keeps (init_keeps g.init) (λ e r. sections_keep (with_init g e) (init_with_printable g e q r))))

file_keeps : (end : ℕ) → Keeps IsLexeme (file_over expr V end) IsPrintable
unfolding file_over
file_keeps end = then_keeps (items_keep (empty end) none) (λ f p. word_then (K.Word W.Mdp) (items_keep f p))
  where
    none : IsPrintable (empty end)
    none = record { constants = tt; globals = tt; formulas = tt; modules = tt; labels = tt; rewards = tt; init = tt }

pub spelled_printable : SpelledIsPrintable
spelled_printable bytes f s = (file_keeps (length bytes)).keeps s.tokens f (token_lexemes bytes s.tokens s.are_tokens) s.spelled
