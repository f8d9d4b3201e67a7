-- The templates of declarations, commands, modules, reward structures and files spell them.
use Rattle.std.proofs.Common.{◌≡◌, ℕ, false, List, [], ◌∷◌, ◌++◌, Option, Some, None, refl, sym, ap, subst, ◌∙◌, append_assoc, append-nil, map}
use Rattle.std.specs.Prelude.{codes}
use Rattle.std.specs.Option.{option_map}
use Rattle.std.proofs.lemmas.List.{map-append}
use Rattle.std.proofs.Math.Seq.{append_snoc}
use Rattle.basics.specs.Lists.{cons_same, IsNotEmpty}
use Rattle.bridge_io.specs.declared.reason.Named.{Named}
use Rattle.op_trees.specs.declared.tree.Ty.{Ty}
use Rattle.op_trees.specs.declared.tree.Ty.TheVariants as T
use Rattle.op_trees.specs.Tree.{bare}
use Rattle.prism_lex.specs.declared.token.TokenKind.TheVariants as K
use Rattle.prism_lex.specs.declared.words.Reserved.TheVariants as W
use Rattle.prism_lex.specs.declared.symbols.Symbol.TheVariants as S
use Rattle.prism_tree.specs.declared.syntax.CopiedModule.{CopiedModule}
use Rattle.prism_tree.specs.declared.syntax.NamePair.{NamePair}
use Rattle.prism_tree.specs.declared.syntax.ItemOn.{ItemOn}
use Rattle.prism_tree.specs.declared.syntax.ItemOn.TheVariants.{InState, Silent, Action}
use Rattle.prism_tree.specs.Syntax.{Expression, Const, Range, Var, Formula, Label, Write, Branch, Command, Body, Module, plain, copied, Item, Rewards, File}
use Rattle.prism_tree.specs.Lang.{Lang, gives, ◌>>=◌, ◌>>◌, ◌or◌, optional, many, folding, fold_left, with_last, front}
use Rattle.prism_tree.specs.Grammar.{name, named, unquoted, quoted, expr, int_too, const_type, const_item, range, var, global_item, formula_item, label_item, write, update, weighted, updates, one_branch, command, body, pair, copy, module_item, on_action, reward, rewards_item, Section, a_const, a_global, a_formula, a_module, a_label, a_rewards, empty, with_section, section, init_item, init_if, with_init, items, file_over, word, symbol}
use Rattle.prism_tree.specs.Laws.{but_last_is, fold_last}
use Rattle.prism_print.specs.Text.{type_text, listed}
use Rattle.std.specs.List.{AllByRecursion as Each}
use Rattle.basics.specs.Options.{IfAny}
use Rattle.prism_print.specs.Printable.{IsPrintableExpression, IsPrintableConst, IsPrintableRange, IsPrintableVar, IsPrintableFormula, IsPrintableLabel, IsPrintableWrite, IsPrintableBranch, HasWeight, AreBranches, IsPrintableCommand, IsPrintableBody, IsPrintablePair, IsPrintableCopy, IsPrintableModule, IsPrintableItem, IsPrintableRewards, IsPrintable}
use Rattle.op_trees.specs.Names.{bare_name}
use Rattle.prism_print.specs.Same.{bare_const, bare_range, bare_var, bare_formula, bare_label, bare_write, bare_branch, bare_command, bare_pair, bare_module, bare_on, bare_item, bare_rewards, bare_file}
use Rattle.prism_print.proofs.Pieces.{Piece, printed, blank, mark, pieces, Element, type_word, quoted_text, flat, flat_append}
use Rattle.prism_print.proofs.Spelling.{Writes, then_writes, none_writes, token_writes, blank_writes, gives_writes, left_writes, right_writes, weaken, made_writes, many_none, many_one, many_both, folding_writes}
use Rattle.prism_print.proofs.SpelledTrees.{Same, expr_writes}
use Rattle.prism_print.proofs.Templates.{line, indent, line_end, const_with, const_parts, var_with, var_parts, formula_parts, label_parts, write_parts, and_between, update_parts, weight_with, branch_parts, plus_between, branches_parts, command_parts, before_parts, end_parts, commands_parts, vars_parts, pair_parts, comma_between, copy_end, module_parts, on_parts, reward_parts, item_parts, rewards_end, items_parts, title_with, rewards_parts, global_lead, constants_parts, globals_parts, formulas_parts, modules_parts, labels_parts, structures_parts, init_parts, groups_parts, file_parts}

abbrev pub V : Lang (Option Range)
V = int_too false

-- ---- lists

-- each member is spelled by its template behind what stands before it
listed_writes : {A B C : Type 0} (M : Lang B) (bare : B → C) (into : A → C) (P : A → Type 0) (between : List Element) (f : A → List Element) → ((x : A) → P x → Writes M (λ y. bare y ≡ into x) (flat (between ++ f x)))
    → (before : List Element) → ((x : A) → P x → Writes M (λ y. bare y ≡ into x) (flat (before ++ f x))) → (xs : List A) → Each P xs → Writes (many M) (λ ys. map bare ys ≡ map into xs) (flat (listed before between f xs))
listed_writes M bare into P between f h before g [] e = many_none M refl
listed_writes {A} {B} {C} M bare into P between f h before g (x ∷ xs) e =
    let l = listed between between f xs in
    let F : List Piece → Type 0 = λ u. Writes (many M) (λ ys. map bare ys ≡ map into (x ∷ xs)) u in
    subst F (sym (ap flat (sym (append_assoc before (f x) l)) ∙ flat_append (before ++ f x) l))
    (many_one (g x e.0) (listed_writes M bare into P between f h between h xs e.1) (λ y ys p q. cons_same (bare y) (into x) (map bare ys) (map into xs) p q))

-- any number more behind a first one
more_writes : {A B : Type 0} (M : Lang A) (bare : A → B) (y : A) (xs : List A) (ps : List Piece) → Writes (many M) (λ ys. map bare ys ≡ map bare xs) ps → Writes (front M (y ∷ [])) (λ ys. map bare ys ≡ bare y ∷ map bare xs) ps
more_writes {A} M bare y xs ps l = folding_writes M with_last (y ∷ []) l (λ ys q. ap (map bare) (fold_last (y ∷ []) ys) ∙ ap (λ (u : List _). bare y ∷ u) q)

-- ---- names and what may be missing

name_writes : (x : Named) → Writes name (λ y. bare_name y ≡ bare_name x) (printed K.Ident x.name ∷ [])
unfolding name
name_writes x = token_writes K.Ident x.name (λ t h. gives_writes (named t.text t.at) (ap (λ (u : List ℕ). named u 0) h))

title_writes : (x : Named) → Writes quoted (λ y. bare_name y ≡ bare_name x) (printed K.Quoted (quoted_text x.name) ∷ [])
unfolding quoted
title_writes x = token_writes K.Quoted (quoted_text x.name) (λ t h. gives_writes (named (unquoted t.text) t.at) (ap (λ (u : List ℕ). named (unquoted u) 0) h ∙ ap (λ (u : List ℕ). named u 0) (but_last_is x.name 34)))

missing : {A B : Type 0} (L : Lang A) (bare : A → B) → Writes (optional L) (λ o. option_map bare o ≡ None) []
missing L bare = left_writes _ (gives_writes None refl)

given : {A B : Type 0} (L : Lang A) (bare : A → B) (x : A) (ps : List Piece) → Writes L (λ y. bare y ≡ bare x) ps → Writes (optional L) (λ o. option_map bare o ≡ Some (bare x)) ps
given {A} {B} L bare x ps l = right_writes _ (made_writes (λ y. Some y) (λ y p. ap (λ (u : B). Some u) p) l)

-- ---- declarations

-- = E, and init E
value_writes : (e : Expression) → IsPrintableExpression e → Writes (symbol S.Equal >> expr) (Same e) (mark S.Equal ∷ blank (codes " ") ∷ pieces e)
value_writes e p = token_writes (K.Symbol S.Equal) _ (λ _ _. blank_writes _ (expr_writes e p))

start_writes : (e : Expression) → IsPrintableExpression e → Writes (word W.Init >> expr) (Same e) (printed (K.Word W.Init) (codes "init") ∷ blank (codes " ") ∷ pieces e)
start_writes e p = token_writes (K.Word W.Init) _ (λ _ _. blank_writes _ (expr_writes e p))

type_writes : (t : Ty) → Writes (const_type expr V) (λ u. u ≡ t) (printed (K.Word (type_word t)) (type_text t) ∷ [])
unfolding const_type
type_writes T.Int = right_writes _ (left_writes _ (token_writes (K.Word W.Int) _ (λ _ _. gives_writes T.Int refl)))
type_writes T.Real = right_writes _ (right_writes _ (left_writes _ (token_writes (K.Word W.Double) _ (λ _ _. gives_writes T.Real refl))))
type_writes T.Bool = right_writes _ (right_writes _ (right_writes _ (token_writes (K.Word W.BoolWord) _ (λ _ _. gives_writes T.Bool refl))))

const_same : (t u : Ty) (x y : Named) (o v : Option Expression) → u ≡ t → bare_name y ≡ bare_name x → option_map bare v ≡ option_map bare o → bare_const (record { name = y; ty = u; value = v }) ≡ bare_const (record { name = x; ty = t; value = o })
const_same t u x y o v e f g = cc

const_writes : (t : Ty) (x : Named) (o : Option Expression) → IfAny IsPrintableExpression o → Writes (const_item expr V) (λ y. bare_const y ≡ bare_const (record { name = x; ty = t; value = o })) (flat (const_with t x.name o))
unfolding const_item
const_writes t x None p =
    token_writes (K.Word W.Const) _ (λ _ _. blank_writes _ (then_writes (type_writes t) (λ u e. blank_writes _ (then_writes (name_writes x) (λ y f.
    none_writes (missing _ bare) (λ v g. token_writes (K.Symbol S.Semicolon) _ (λ _ _. blank_writes _ (gives_writes _ (const_same t u x y None v e f g)))))))))
const_writes t x (Some a) p =
    token_writes (K.Word W.Const) _ (λ _ _. blank_writes _ (then_writes (type_writes t) (λ u e. blank_writes _ (then_writes (name_writes x) (λ y f. blank_writes _
    (then_writes (given _ bare a _ (value_writes a p)) (λ v g. token_writes (K.Symbol S.Semicolon) _ (λ _ _. blank_writes _ (gives_writes _ (const_same t u x y (Some a) v e f g))))))))))

range_same : (r q : Range) → bare q.low ≡ bare r.low → bare q.high ≡ bare r.high → bare_range q ≡ bare_range r
range_same r q e f = cc

range_writes : (r : Range) → IsPrintableRange r → Writes (range expr V) (λ y. bare_range y ≡ bare_range r) (mark S.LeftBracket ∷ (pieces r.low ++ (mark S.Dots ∷ (pieces r.high ++ (mark S.RightBracket ∷ [])))))
unfolding range
range_writes r p =
    token_writes (K.Symbol S.LeftBracket) _ (λ _ _. then_writes (expr_writes r.low p.0) (λ l e. token_writes (K.Symbol S.Dots) _ (λ _ _. then_writes (expr_writes r.high p.1) (λ h f.
    token_writes (K.Symbol S.RightBracket) _ (λ _ _. gives_writes _ (range_same r (record { low = l; high = h }) e f))))))

abbrev RangeOrBool : Lang (Option Range)
RangeOrBool = (range expr V >>= λ r. gives (Some r)) or ((word W.BoolWord >> gives None) or V)

bool_writes : Writes RangeOrBool (λ o. option_map bare_range o ≡ None) (printed (K.Word W.BoolWord) (codes "bool") ∷ [])
bool_writes = right_writes _ (left_writes _ (token_writes (K.Word W.BoolWord) _ (λ _ _. gives_writes None refl)))

bounds_writes : (r : Range) → IsPrintableRange r → Writes RangeOrBool (λ o. option_map bare_range o ≡ Some (bare_range r)) (mark S.LeftBracket ∷ (pieces r.low ++ (mark S.Dots ∷ (pieces r.high ++ (mark S.RightBracket ∷ [])))))
bounds_writes r p = left_writes _ (made_writes (λ q. Some q) (λ q e. ap (λ (u : Range). Some u) e) (range_writes r p))

var_same : (x y : Named) (r q : Option Range) (o v : Option Expression) → bare_name y ≡ bare_name x → option_map bare_range q ≡ option_map bare_range r → option_map bare v ≡ option_map bare o → bare_var (record { name = y; range = q; start = v }) ≡ bare_var (record { name = x; range = r; start = o })
var_same x y r q o v e f g = cc

abbrev VarRest : Option Range → Named → Lang Var
VarRest r x = optional (word W.Init >> expr) >>= λ start. symbol S.Semicolon >> gives (record { name = x; range = r; start = start })

abbrev start_pieces : Option Expression → List Piece
start_pieces None = flat line_end
start_pieces (Some e) = blank (codes " ") ∷ printed (K.Word W.Init) (codes "init") ∷ blank (codes " ") ∷ (pieces e ++ flat line_end)

-- what stands behind the range
var_rest : (x y : Named) (r q : Option Range) (o : Option Expression) → IfAny IsPrintableExpression o → bare_name y ≡ bare_name x → option_map bare_range q ≡ option_map bare_range r
    → Writes (VarRest q y) (λ z. bare_var z ≡ bare_var (record { name = x; range = r; start = o })) (start_pieces o)
var_rest x y r q None p e f = none_writes (missing _ bare) (λ v g. token_writes (K.Symbol S.Semicolon) _ (λ _ _. blank_writes _ (gives_writes _ (var_same x y r q None v e f g))))
var_rest x y r q (Some a) p e f =
    blank_writes _ (then_writes (given _ bare a _ (start_writes a p)) (λ v g. token_writes (K.Symbol S.Semicolon) _ (λ _ _. blank_writes _ (gives_writes _ (var_same x y r q (Some a) v e f g)))))

abbrev range_pieces : Option Range → List Piece
range_pieces None = printed (K.Word W.BoolWord) (codes "bool") ∷ []
range_pieces (Some r) = mark S.LeftBracket ∷ (pieces r.low ++ (mark S.Dots ∷ (pieces r.high ++ (mark S.RightBracket ∷ []))))

either_writes : (r : Option Range) → IfAny IsPrintableRange r → Writes RangeOrBool (λ o. option_map bare_range o ≡ option_map bare_range r) (range_pieces r)
either_writes None p = bool_writes
either_writes (Some r) p = bounds_writes r p

bounds_flat : (l h rest : List Piece) → l ++ (mark S.Dots ∷ (h ++ (mark S.RightBracket ∷ rest))) ≡ (l ++ (mark S.Dots ∷ (h ++ (mark S.RightBracket ∷ [])))) ++ rest
bounds_flat l h rest = sym (append_assoc l (mark S.Dots ∷ (h ++ (mark S.RightBracket ∷ []))) rest ∙ ap (λ (u : List Piece). l ++ (mark S.Dots ∷ u)) (append_assoc h (mark S.RightBracket ∷ []) rest))

abbrev behind_colon : List ℕ → List Piece → List Piece
behind_colon x ps = printed K.Ident x ∷ blank (codes " ") ∷ mark S.Colon ∷ blank (codes " ") ∷ ps

var_flat : (x : List ℕ) (r : Option Range) (o : Option Expression) → flat (var_with x r o) ≡ behind_colon x (range_pieces r ++ start_pieces o)
var_flat x None None = refl
var_flat x None (Some e) = refl
var_flat x (Some r) None = ap (λ (u : List Piece). behind_colon x (mark S.LeftBracket ∷ u)) (bounds_flat (pieces r.low) (pieces r.high) (start_pieces None))
var_flat x (Some r) (Some e) = ap (λ (u : List Piece). behind_colon x (mark S.LeftBracket ∷ u)) (bounds_flat (pieces r.low) (pieces r.high) (start_pieces (Some e)))

var_writes : (v : Var) → IsPrintableVar v → Writes (var expr V) (λ y. bare_var y ≡ bare_var v) (flat (var_parts v))
unfolding var
var_writes v p =
    let F : List Piece → Type 0 = λ u. Writes (var expr V) (λ y. bare_var y ≡ bare_var v) u in
    subst F (sym (var_flat v.name.name v.range v.start))
    (then_writes (name_writes v.name) (λ y e. blank_writes _ (token_writes (K.Symbol S.Colon) _ (λ _ _. blank_writes _ (then_writes (either_writes v.range p.1) (λ q f. var_rest v.name y v.range q v.start p.2 e f))))))

formula_same : (x y : Named) (a b : Expression) → bare_name y ≡ bare_name x → bare b ≡ bare a → bare_formula (record { name = y; body = b }) ≡ bare_formula (record { name = x; body = a })
formula_same x y a b e f = cc

formula_writes : (f : Formula) → IsPrintableFormula f → Writes (formula_item expr V) (λ y. bare_formula y ≡ bare_formula f) (flat (formula_parts f))
unfolding formula_item
formula_writes f p =
    token_writes (K.Word W.Formula) _ (λ _ _. blank_writes _ (then_writes (name_writes f.name) (λ y e. blank_writes _ (token_writes (K.Symbol S.Equal) _ (λ _ _. blank_writes _ (then_writes (expr_writes f.body p.1) (λ b g.
    token_writes (K.Symbol S.Semicolon) _ (λ _ _. blank_writes _ (gives_writes _ (formula_same f.name y f.body b e g))))))))))

label_same : (x y : Named) (a b : Expression) → bare_name y ≡ bare_name x → bare b ≡ bare a → bare_label (record { name = y; body = b }) ≡ bare_label (record { name = x; body = a })
label_same x y a b e f = cc

label_writes : (l : Label) → IsPrintableLabel l → Writes (label_item expr V) (λ y. bare_label y ≡ bare_label l) (flat (label_parts l))
unfolding label_item
label_writes l p =
    token_writes (K.Word W.Label) _ (λ _ _. blank_writes _ (then_writes (title_writes l.name) (λ y e. blank_writes _ (token_writes (K.Symbol S.Equal) _ (λ _ _. blank_writes _ (then_writes (expr_writes l.body p.1) (λ b g.
    token_writes (K.Symbol S.Semicolon) _ (λ _ _. blank_writes _ (gives_writes _ (label_same l.name y l.body b e g))))))))))

-- ---- commands

write_same : (x y : Named) (a b : Expression) → bare_name y ≡ bare_name x → bare b ≡ bare a → bare_write (record { name = y; value = b }) ≡ bare_write (record { name = x; value = a })
write_same x y a b e f = cc

write_writes : (w : Write) → IsPrintableWrite w → Writes (write expr V) (λ y. bare_write y ≡ bare_write w) (flat (write_parts w))
unfolding write
write_writes w p =
    token_writes (K.Symbol S.LeftParenthesis) _ (λ _ _. then_writes (name_writes w.name) (λ y e. token_writes (K.Symbol S.Prime) _ (λ _ _. token_writes (K.Symbol S.Equal) _ (λ _ _. then_writes (expr_writes w.value p.1) (λ b f.
    token_writes (K.Symbol S.RightParenthesis) _ (λ _ _. gives_writes _ (write_same w.name y w.value b e f)))))))

further_write : (w : Write) → IsPrintableWrite w → Writes (symbol S.And >> write expr V) (λ y. bare_write y ≡ bare_write w) (flat (and_between ++ write_parts w))
further_write w p = blank_writes _ (token_writes (K.Symbol S.And) _ (λ _ _. blank_writes _ (write_writes w p)))

update_writes : (ws : List Write) → Each IsPrintableWrite ws → Writes (update expr V) (λ ys. map bare_write ys ≡ map bare_write ws) (flat (update_parts ws))
unfolding update
update_writes [] p = left_writes _ (token_writes (K.Word W.True) _ (λ _ _. gives_writes [] refl))
update_writes (w ∷ ws) p =
    let F : List Piece → Type 0 = λ u. Writes (update expr V) (λ ys. map bare_write ys ≡ map bare_write (w ∷ ws)) u in
    let l = listed_writes (symbol S.And >> write expr V) bare_write bare_write IsPrintableWrite and_between write_parts further_write and_between further_write ws p.1 in
    subst F (sym (flat_append (write_parts w) (listed and_between and_between write_parts ws)))
    (right_writes _ (then_writes (write_writes w p.0) (λ y e. weaken (λ ys f. f ∙ ap (λ (u : Write). u ∷ map bare_write ws) e) (more_writes (symbol S.And >> write expr V) bare_write y ws _ l))))

branch_same : (o v : Option Expression) (ws us : List Write) → option_map bare v ≡ option_map bare o → map bare_write us ≡ map bare_write ws → bare_branch (record { weight = v; writes = us }) ≡ bare_branch (record { weight = o; writes = ws })
branch_same o v ws us e f = cc

-- a branch that has a probability
weighted_writes : (b : Branch) → HasWeight b → IsPrintableBranch b → Writes (weighted expr V) (λ y. bare_branch y ≡ bare_branch b) (flat (branch_parts b))
unfolding weighted
weighted_writes b h p = go b.weight h p.0
  where
    go : (o : Option Expression) → ((e : Expression) × (o ≡ Some e)) → IfAny IsPrintableExpression o → Writes (weighted expr V) (λ y. bare_branch y ≡ bare_branch (record { weight = o; writes = b.writes })) (flat (weight_with o (update_parts b.writes)))
    go None h q = absurd (let k = h.1 in cc)
    go (Some a) h q =
        then_writes (expr_writes a q) (λ v e. blank_writes _ (token_writes (K.Symbol S.Colon) _ (λ _ _. blank_writes _ (made_writes (λ us. record { weight = Some v; writes = us })
        (λ us f. branch_same (Some a) (Some v) b.writes us (ap (λ (u : Expression). Some u) e) f) (update_writes b.writes p.1)))))

abbrev Weighty : Branch → Type 0
Weighty b = HasWeight b × IsPrintableBranch b

further_branch : (b : Branch) → Weighty b → Writes (symbol S.Plus >> weighted expr V) (λ y. bare_branch y ≡ bare_branch b) (flat (plus_between ++ branch_parts b))
further_branch b p = blank_writes _ (token_writes (K.Symbol S.Plus) _ (λ _ _. blank_writes _ (weighted_writes b p.0 p.1)))

weighty : (bs : List Branch) → Each HasWeight bs → Each IsPrintableBranch bs → Each Weighty bs
weighty [] p q = tt
weighty (b ∷ bs) p q = ((p.0, q.0), weighty bs p.1 q.1)

-- branches that all have a probability
several_writes : (b : Branch) (bs : List Branch) → Each Weighty (b ∷ bs) → Writes (updates expr V) (λ ys. map bare_branch ys ≡ map bare_branch (b ∷ bs)) (flat (listed [] plus_between branch_parts (b ∷ bs)))
unfolding updates
several_writes b bs p =
    let F : List Piece → Type 0 = λ u. Writes (updates expr V) (λ ys. map bare_branch ys ≡ map bare_branch (b ∷ bs)) u in
    let l = listed_writes (symbol S.Plus >> weighted expr V) bare_branch bare_branch Weighty plus_between branch_parts further_branch plus_between further_branch bs p.1 in
    subst F (sym (flat_append (branch_parts b) (listed plus_between plus_between branch_parts bs)))
    (right_writes _ (then_writes (weighted_writes b p.0.0 p.0.1) (λ y e. weaken (λ ys f. f ∙ ap (λ (u : Branch). u ∷ map bare_branch bs) e) (more_writes (symbol S.Plus >> weighted expr V) bare_branch y bs _ l))))

-- one branch without a probability
single_writes : (ws : List Write) → Each IsPrintableWrite ws → Writes (updates expr V) (λ ys. map bare_branch ys ≡ bare_branch (record { weight = None; writes = ws }) ∷ []) (flat (update_parts ws))
unfolding updates
single_writes ws p = left_writes _ (made_writes one_branch (λ us e. ap (λ (u : List Write). record { weight = None; writes = u } ∷ []) e) (update_writes ws p))

branches_writes : (bs : List Branch) → AreBranches bs → Each IsPrintableBranch bs → Writes (updates expr V) (λ ys. map bare_branch ys ≡ map bare_branch bs) (flat (listed [] plus_between branch_parts bs))
branches_writes [] h p = absurd h
branches_writes (b ∷ c ∷ bs) h p = several_writes b (c ∷ bs) (weighty (b ∷ c ∷ bs) h p)
branches_writes (b ∷ []) h p = go b.weight refl
  where
    only : flat (update_parts b.writes) ≡ flat (update_parts b.writes ++ [])
    only = ap flat (sym (append-nil (update_parts b.writes)))

    go : (o : Option Expression) → b.weight ≡ o → Writes (updates expr V) (λ ys. map bare_branch ys ≡ map bare_branch (b ∷ [])) (flat (listed [] plus_between branch_parts (b ∷ [])))
    go (Some a) e = several_writes b [] (((a, e), p.0), tt)
    go None e =
        let F : Option Expression → Type 0 = λ o. Writes (updates expr V) (λ ys. map bare_branch ys ≡ bare_branch (record { weight = o; writes = b.writes }) ∷ []) (flat (weight_with o (update_parts b.writes) ++ [])) in
        let G : List Piece → Type 0 = λ u. Writes (updates expr V) (λ ys. map bare_branch ys ≡ bare_branch (record { weight = None; writes = b.writes }) ∷ []) u in
        subst F (sym e) (subst G only (single_writes b.writes p.0.1))

command_same : (a b : Option Named) (g h : Expression) (bs cs : List Branch) → option_map bare_name b ≡ option_map bare_name a → bare h ≡ bare g → map bare_branch cs ≡ map bare_branch bs
    → bare_command (record { action = b; guard = h; branches = cs }) ≡ bare_command (record { action = a; guard = g; branches = bs })
command_same a b g h bs cs d e f = cc

abbrev CommandRest : Option Named → Lang Command
CommandRest a = symbol S.RightBracket >> (expr >>= λ guard. symbol S.Arrow >> (updates expr V >>= λ branches. symbol S.Semicolon >> gives (record { action = a; guard = guard; branches = branches })))

-- what stands behind the action
command_rest : (c : Command) (b : Option Named) → IsPrintableCommand c → option_map bare_name b ≡ option_map bare_name c.action
    → Writes (CommandRest b) (λ y. bare_command y ≡ bare_command c) (mark S.RightBracket ∷ blank (codes " ") ∷ (pieces c.guard ++ (blank (codes " ") ∷ mark S.Arrow ∷ blank (codes " ") ∷ flat (branches_parts c.branches))))
command_rest c b p d =
    token_writes (K.Symbol S.RightBracket) _ (λ _ _. blank_writes _ (then_writes (expr_writes c.guard p.1) (λ h e. blank_writes _ (token_writes (K.Symbol S.Arrow) _ (λ _ _. blank_writes _ (ending h e))))))
  where
    ending : (h : Expression) → bare h ≡ bare c.guard → Writes (updates expr V >>= λ branches. symbol S.Semicolon >> gives (record { action = b; guard = h; branches = branches })) (λ y. bare_command y ≡ bare_command c) (flat (branches_parts c.branches))
    ending h e =
        let F : List Piece → Type 0 = λ u. Writes (updates expr V >>= λ branches. symbol S.Semicolon >> gives (record { action = b; guard = h; branches = branches })) (λ y. bare_command y ≡ bare_command c) u in
        subst F (sym (flat_append (listed [] plus_between branch_parts c.branches) line_end))
        (then_writes (branches_writes c.branches p.2 p.3) (λ cs f. token_writes (K.Symbol S.Semicolon) _ (λ _ _. blank_writes _ (gives_writes _ (command_same c.action b c.guard h c.branches cs d e f)))))

abbrev made_command : Option Named → Expression → List Branch → Command
made_command o g bs = record { action = o; guard = g; branches = bs }

command_with : (o : Option Named) (g : Expression) (bs : List Branch) → IsPrintableCommand (made_command o g bs) → Writes (command expr V) (λ y. bare_command y ≡ bare_command (made_command o g bs)) (flat (command_parts (made_command o g bs)))
unfolding command
command_with None g bs p = token_writes (K.Symbol S.LeftBracket) _ (λ _ _. none_writes (missing name bare_name) (λ b d. command_rest (made_command None g bs) b p d))
command_with (Some a) g bs p = token_writes (K.Symbol S.LeftBracket) _ (λ _ _. then_writes (given name bare_name a _ (name_writes a)) (λ b d. command_rest (made_command (Some a) g bs) b p d))

command_writes : (c : Command) → IsPrintableCommand c → Writes (command expr V) (λ y. bare_command y ≡ bare_command c) (flat (command_parts c))
command_writes c p = command_with c.action c.guard c.branches p

-- ---- modules

indented_var : (v : Var) → IsPrintableVar v → Writes (var expr V) (λ y. bare_var y ≡ bare_var v) (flat (indent ∷ var_parts v))
indented_var v p = blank_writes _ (var_writes v p)

indented_command : (c : Command) → IsPrintableCommand c → Writes (command expr V) (λ y. bare_command y ≡ bare_command c) (flat (indent ∷ command_parts c))
indented_command c p = blank_writes _ (command_writes c p)

first_command : (vs : List Var) (c : Command) → IsPrintableCommand c → Writes (command expr V) (λ y. bare_command y ≡ bare_command c) (flat (before_parts vs ++ command_parts c))
first_command [] c p = indented_command c p
first_command (v ∷ vs) c p = blank_writes _ (indented_command c p)

body_writes : (m : Body) (x : Named) → IsPrintableBody m → bare_name x ≡ bare_name m.name → Writes (body expr V x) (λ y. bare_module y ≡ bare_module (plain m)) (flat (vars_parts m) ++ flat (commands_parts m))
unfolding body
body_writes m x p e =
    then_writes (listed_writes (var expr V) bare_var bare_var IsPrintableVar (indent ∷ []) var_parts indented_var (indent ∷ []) indented_var m.vars p.1) (λ us f.
    made_writes (λ cs. plain (record { name = x; vars = us; commands = cs })) (λ cs g. same us cs f g)
    (listed_writes (command expr V) bare_command bare_command IsPrintableCommand (indent ∷ []) command_parts indented_command (before_parts m.vars) (first_command m.vars) m.commands p.2))
  where
    same : (us : List Var) (cs : List Command) → map bare_var us ≡ map bare_var m.vars → map bare_command cs ≡ map bare_command m.commands → bare_module (plain (record { name = x; vars = us; commands = cs })) ≡ bare_module (plain m)
    same us cs f g = cc

pair_same : (a b c d : Named) → bare_name c ≡ bare_name a → bare_name d ≡ bare_name b → bare_pair (record { old = c; new = d }) ≡ bare_pair (record { old = a; new = b })
pair_same a b c d e f = cc

pair_writes : (q : NamePair) → IsPrintablePair q → Writes (pair expr V) (λ y. bare_pair y ≡ bare_pair q) (flat (pair_parts q))
unfolding pair
pair_writes q p = then_writes (name_writes q.old) (λ c e. token_writes (K.Symbol S.Equal) _ (λ _ _. made_writes (λ d. record { old = c; new = d }) (λ d f. pair_same q.old q.new c d e f) (name_writes q.new)))

further_pair : (q : NamePair) → IsPrintablePair q → Writes (symbol S.Comma >> pair expr V) (λ y. bare_pair y ≡ bare_pair q) (flat (comma_between ++ pair_parts q))
further_pair q p = token_writes (K.Symbol S.Comma) _ (λ _ _. blank_writes _ (pair_writes q p))

abbrev Pairs : Named → Named → Lang Module
Pairs x from = pair expr V >>= λ first. front (symbol S.Comma >> pair expr V) (first ∷ []) >>= λ pairs. symbol S.RightBracket >> gives (copied (record { name = x; from = from; pairs = pairs }))

abbrev close_pieces : List Piece
close_pieces = mark S.RightBracket ∷ []

pairs_writes : (m : CopiedModule) (x from : Named) → IsPrintableCopy m → bare_name x ≡ bare_name m.name → bare_name from ≡ bare_name m.from → (qs : List NamePair) → m.pairs ≡ qs → IsNotEmpty qs → Each IsPrintablePair qs
    → Writes (Pairs x from) (λ y. bare_module y ≡ bare_module (copied m)) (flat (listed [] comma_between pair_parts qs) ++ close_pieces)
pairs_writes m x from p e f [] i s q = absurd s
pairs_writes m x from p e f (a ∷ qs) i s q =
    let l = listed_writes (symbol S.Comma >> pair expr V) bare_pair bare_pair IsPrintablePair comma_between pair_parts further_pair comma_between further_pair qs q.1 in
    let rest = listed comma_between comma_between pair_parts qs in
    let F : List Piece → Type 0 = λ u. Writes (Pairs x from) (λ y. bare_module y ≡ bare_module (copied m)) u in
    subst F (sym (ap (λ (u : List Piece). u ++ close_pieces) (flat_append (pair_parts a) rest) ∙ append_assoc (flat (pair_parts a)) (flat rest) close_pieces))
    (then_writes (pair_writes a q.0) (λ b g. then_writes (more_writes (symbol S.Comma >> pair expr V) bare_pair b qs _ l) (λ ys h. token_writes (K.Symbol S.RightBracket) _ (λ _ _. gives_writes _ (same b ys g h)))))
  where
    same : (b : NamePair) (ys : List NamePair) → bare_pair b ≡ bare_pair a → map bare_pair ys ≡ bare_pair b ∷ map bare_pair qs → bare_module (copied (record { name = x; from = from; pairs = ys })) ≡ bare_module (copied m)
    same b ys g h = let k : map bare_pair ys ≡ map bare_pair m.pairs = h ∙ ap (λ (u : NamePair). u ∷ map bare_pair qs) g ∙ ap (map bare_pair) (sym i) in cc

copy_writes : (m : CopiedModule) (x : Named) → IsPrintableCopy m → bare_name x ≡ bare_name m.name → Writes (copy expr V x) (λ y. bare_module y ≡ bare_module (copied m))
    (mark S.Equal ∷ blank (codes " ") ∷ printed K.Ident m.from.name ∷ blank (codes " ") ∷ mark S.LeftBracket ∷ (flat (listed [] comma_between pair_parts m.pairs) ++ close_pieces))
unfolding copy
copy_writes m x p e =
    token_writes (K.Symbol S.Equal) _ (λ _ _. blank_writes _ (then_writes (name_writes m.from) (λ from f. blank_writes _ (token_writes (K.Symbol S.LeftBracket) _ (λ _ _. pairs_writes m x from p e f m.pairs refl p.2 p.3)))))

abbrev ModuleEnd : Module → Lang Module
ModuleEnd m = word W.Endmodule >> gives m

end_writes : (m y : Module) → bare_module y ≡ bare_module m → Writes (ModuleEnd y) (λ z. bare_module z ≡ bare_module m) (flat end_parts)
end_writes m y e = token_writes (K.Word W.Endmodule) _ (λ _ _. blank_writes _ (gives_writes y e))

module_writes : (m : Module) → IsPrintableModule m → Writes (module_item expr V) (λ y. bare_module y ≡ bare_module m) (flat (module_parts m))
unfolding module_item
module_writes (plain m) p =
    let a = flat (vars_parts m) in
    let b = flat (commands_parts m) in
    let e : flat (vars_parts m ++ (commands_parts m ++ end_parts)) ≡ (a ++ b) ++ flat end_parts =
    flat_append (vars_parts m) (commands_parts m ++ end_parts) ∙ ap (λ (u : List Piece). a ++ u) (flat_append (commands_parts m) end_parts) ∙ sym (append_assoc a b (flat end_parts)) in
    let F : List Piece → Type 0 = λ u. Writes (module_item expr V) (λ y. bare_module y ≡ bare_module (plain m)) (printed (K.Word W.Module) (codes "module") ∷ blank (codes " ") ∷ printed K.Ident m.name.name ∷ blank (codes "\n") ∷ u) in
    subst F (sym e) (token_writes (K.Word W.Module) _ (λ _ _. blank_writes _ (then_writes (name_writes m.name) (λ x f. blank_writes _ (then_writes (left_writes _ (body_writes m x p f)) (λ y g. end_writes (plain m) y g))))))
module_writes (copied m) p =
    let a = flat (listed [] comma_between pair_parts m.pairs) in
    let e : flat (listed [] comma_between pair_parts m.pairs ++ copy_end) ≡ (a ++ close_pieces) ++ (blank (codes " ") ∷ flat end_parts) = flat_append (listed [] comma_between pair_parts m.pairs) copy_end ∙ sym (append_assoc a close_pieces (blank (codes " ") ∷ flat end_parts)) in
    let F : List Piece → Type 0 = λ u. Writes (module_item expr V) (λ y. bare_module y ≡ bare_module (copied m))
    (printed (K.Word W.Module) (codes "module") ∷ blank (codes " ") ∷ printed K.Ident m.name.name ∷ blank (codes " ") ∷ mark S.Equal ∷ blank (codes " ") ∷ printed K.Ident m.from.name ∷ blank (codes " ") ∷ mark S.LeftBracket ∷ u) in
    subst F (sym e) (token_writes (K.Word W.Module) _ (λ _ _. blank_writes _ (then_writes (name_writes m.name) (λ x f. blank_writes _ (then_writes (right_writes _ (copy_writes m x p f)) (λ y g. blank_writes _ (end_writes (copied m) y g)))))))

-- ---- rewards

abbrev OnLang : Lang ItemOn
OnLang = gives InState or (symbol S.LeftBracket >> optional name >>= λ a. symbol S.RightBracket >> gives (on_action a))

item_same : (o p : ItemOn) (g h v w : Expression) → bare_on p ≡ bare_on o → bare h ≡ bare g → bare w ≡ bare v → bare_item (record { on = p; guard = h; value = w }) ≡ bare_item (record { on = o; guard = g; value = v })
item_same o p g h v w d e f = cc

abbrev RewardRest : ItemOn → Lang Item
RewardRest o = expr >>= λ guard. symbol S.Colon >> (expr >>= λ value. symbol S.Semicolon >> gives (record { on = o; guard = guard; value = value }))

reward_rest : (o q : ItemOn) (g v : Expression) → IsPrintableExpression g → IsPrintableExpression v → bare_on q ≡ bare_on o → Writes (RewardRest q) (λ y. bare_item y ≡ bare_item (record { on = o; guard = g; value = v })) (flat (reward_parts g v))
reward_rest o q g v p r d =
    then_writes (expr_writes g p) (λ h e. blank_writes _ (token_writes (K.Symbol S.Colon) _ (λ _ _. blank_writes _ (then_writes (expr_writes v r) (λ w f.
    token_writes (K.Symbol S.Semicolon) _ (λ _ _. blank_writes _ (gives_writes _ (item_same o q g h v w d e f))))))))

bracket_writes : Writes (symbol S.LeftBracket >> optional name) (λ o. option_map bare_name o ≡ None) (mark S.LeftBracket ∷ [])
bracket_writes = token_writes (K.Symbol S.LeftBracket) _ (λ _ _. missing name bare_name)

bracket_name : (a : Named) → Writes (symbol S.LeftBracket >> optional name) (λ o. option_map bare_name o ≡ Some (bare_name a)) (mark S.LeftBracket ∷ printed K.Ident a.name ∷ [])
bracket_name a = token_writes (K.Symbol S.LeftBracket) _ (λ _ _. given name bare_name a _ (name_writes a))

bare_action : (o : Option Named) → bare_on (on_action o) ≡ on_action (option_map bare_name o)
bare_action None = refl
bare_action (Some a) = refl

abbrev on_pieces : ItemOn → List Piece
on_pieces InState = []
on_pieces Silent = mark S.LeftBracket ∷ mark S.RightBracket ∷ []
on_pieces (Action a) = mark S.LeftBracket ∷ printed K.Ident a.name ∷ mark S.RightBracket ∷ []

on_writes : (o : ItemOn) → Writes OnLang (λ q. bare_on q ≡ bare_on o) (on_pieces o)
on_writes InState = left_writes _ (gives_writes InState refl)
on_writes Silent = right_writes _ (then_writes bracket_writes (λ a e. token_writes (K.Symbol S.RightBracket) _ (λ _ _. gives_writes (on_action a) (bare_action a ∙ ap on_action e))))
on_writes (Action x) = right_writes _ (then_writes (bracket_name x) (λ a e. token_writes (K.Symbol S.RightBracket) _ (λ _ _. gives_writes (on_action a) (bare_action a ∙ ap on_action e))))

item_with : (o : ItemOn) (g v : Expression) → IsPrintableExpression g → IsPrintableExpression v → Writes (reward expr V) (λ y. bare_item y ≡ bare_item (record { on = o; guard = g; value = v })) (flat (on_parts o (reward_parts g v)))
unfolding reward
item_with InState g v p r = then_writes (on_writes InState) (λ q d. reward_rest InState q g v p r d)
item_with Silent g v p r = then_writes (on_writes Silent) (λ q d. blank_writes _ (reward_rest Silent q g v p r d))
item_with (Action a) g v p r = then_writes (on_writes (Action a)) (λ q d. blank_writes _ (reward_rest (Action a) q g v p r d))

indented_item : (i : Item) → IsPrintableItem i → Writes (reward expr V) (λ y. bare_item y ≡ bare_item i) (flat (indent ∷ item_parts i))
indented_item i p = blank_writes _ (item_with i.on i.guard i.value p.1 p.2)

rewards_same : (o v : Option Named) (is js : List Item) → option_map bare_name v ≡ option_map bare_name o → map bare_item js ≡ map bare_item is → bare_rewards (record { name = v; items = js }) ≡ bare_rewards (record { name = o; items = is })
rewards_same o v is js e f = cc

abbrev RewardsRest : Option Named → Lang Rewards
RewardsRest x = many (reward expr V) >>= λ items. word W.Endrewards >> gives (record { name = x; items = items })

items_writes : (o v : Option Named) (is : List Item) → Each IsPrintableItem is → option_map bare_name v ≡ option_map bare_name o → Writes (RewardsRest v) (λ y. bare_rewards y ≡ bare_rewards (record { name = o; items = is })) (flat (items_parts is))
items_writes o v is p e =
    let F : List Piece → Type 0 = λ u. Writes (RewardsRest v) (λ y. bare_rewards y ≡ bare_rewards (record { name = o; items = is })) (blank (codes "\n") ∷ u) in
    subst F (sym (flat_append (listed (indent ∷ []) (indent ∷ []) item_parts is) rewards_end))
    (blank_writes _ (then_writes (listed_writes (reward expr V) bare_item bare_item IsPrintableItem (indent ∷ []) item_parts indented_item (indent ∷ []) indented_item is p) (λ js f.
    token_writes (K.Word W.Endrewards) _ (λ _ _. blank_writes _ (gives_writes _ (rewards_same o v is js e f))))))

rewards_with : (o : Option Named) (is : List Item) → Each IsPrintableItem is → Writes (rewards_item expr V) (λ y. bare_rewards y ≡ bare_rewards (record { name = o; items = is })) (flat (title_with o (items_parts is)))
unfolding rewards_item
rewards_with None is p = token_writes (K.Word W.Rewards) _ (λ _ _. none_writes (missing quoted bare_name) (λ v e. items_writes None v is p e))
rewards_with (Some x) is p = token_writes (K.Word W.Rewards) _ (λ _ _. blank_writes _ (then_writes (given quoted bare_name x _ (title_writes x)) (λ v e. items_writes (Some x) v is p e)))

-- ---- sections

abbrev bare_section : Section → Section
bare_section (a_const c) = a_const (bare_const c)
bare_section (a_global v) = a_global (bare_var v)
bare_section (a_formula f) = a_formula (bare_formula f)
bare_section (a_module m) = a_module (bare_module m)
bare_section (a_label l) = a_label (bare_label l)
bare_section (a_rewards r) = a_rewards (bare_rewards r)

abbrev Sections : Lang Section
Sections = section expr V

const_section : (c : Const) → IsPrintableConst c → Writes Sections (λ y. bare_section y ≡ a_const (bare_const c)) (flat (const_parts c))
unfolding section
const_section c p = left_writes _ (made_writes a_const (λ y e. ap (λ (u : Const). a_const u) e) (const_writes c.ty c.name c.value p.1))

global_section : (v : Var) → IsPrintableVar v → Writes Sections (λ y. bare_section y ≡ a_global (bare_var v)) (flat (global_lead ++ var_parts v))
unfolding section global_item
global_section v p = right_writes _ (left_writes _ (made_writes a_global (λ y e. ap (λ (u : Var). a_global u) e) (token_writes (K.Word W.Global) _ (λ _ _. blank_writes _ (var_writes v p)))))

formula_section : (f : Formula) → IsPrintableFormula f → Writes Sections (λ y. bare_section y ≡ a_formula (bare_formula f)) (flat (formula_parts f))
unfolding section
formula_section f p = right_writes _ (right_writes _ (left_writes _ (made_writes a_formula (λ y e. ap (λ (u : Formula). a_formula u) e) (formula_writes f p))))

module_section : (m : Module) → IsPrintableModule m → Writes Sections (λ y. bare_section y ≡ a_module (bare_module m)) (flat (module_parts m))
unfolding section
module_section m p = right_writes _ (right_writes _ (right_writes _ (left_writes _ (made_writes a_module (λ y e. ap (λ (u : Module). a_module u) e) (module_writes m p)))))

label_section : (l : Label) → IsPrintableLabel l → Writes Sections (λ y. bare_section y ≡ a_label (bare_label l)) (flat (label_parts l))
unfolding section
label_section l p = right_writes _ (right_writes _ (right_writes _ (right_writes _ (left_writes _ (made_writes a_label (λ y e. ap (λ (u : Label). a_label u) e) (label_writes l p))))))

rewards_section : (r : Rewards) → IsPrintableRewards r → Writes Sections (λ y. bare_section y ≡ a_rewards (bare_rewards r)) (flat (rewards_parts r))
unfolding section
rewards_section r p = right_writes _ (right_writes _ (right_writes _ (right_writes _ (right_writes _ (made_writes a_rewards (λ y e. ap (λ (u : Rewards). a_rewards u) e) (rewards_with r.name r.items p.1))))))

abbrev const_of : Const → Section
const_of c = a_const (bare_const c)

abbrev global_of : Var → Section
global_of v = a_global (bare_var v)

abbrev formula_of : Formula → Section
formula_of f = a_formula (bare_formula f)

abbrev module_of : Module → Section
module_of m = a_module (bare_module m)

abbrev label_of : Label → Section
label_of l = a_label (bare_label l)

abbrev rewards_of : Rewards → Section
rewards_of r = a_rewards (bare_rewards r)

-- the sections of a file in the order of its canonical text, without offsets
abbrev sections_of : File → List Section
sections_of f = map const_of f.constants ++ (map global_of f.globals ++ (map formula_of f.formulas ++ (map module_of f.modules ++ (map label_of f.labels ++ map rewards_of f.rewards))))

-- one group of sections, and then others
group_writes : (is js : List Element) (us vs : List Section) → Writes (many Sections) (λ ys. map bare_section ys ≡ us) (flat is) → Writes (many Sections) (λ ys. map bare_section ys ≡ vs) (flat js) → Writes (many Sections) (λ ys. map bare_section ys ≡ us ++ vs) (flat (is ++ js))
group_writes is js us vs l m =
    let F : List Piece → Type 0 = λ u. Writes (many Sections) (λ ys. map bare_section ys ≡ us ++ vs) u in
    subst F (sym (flat_append is js)) (many_both Sections l m (λ xs ys e f. map-append bare_section xs ys ∙ ap (λ (u : List Section). u ++ map bare_section ys) e ∙ ap (λ (u : List Section). us ++ u) f))

sections_writes : (f : File) → IsPrintable f → Writes (many Sections) (λ ys. map bare_section ys ≡ sections_of f) (flat (constants_parts f ++ (globals_parts f ++ (formulas_parts f ++ (modules_parts f ++ (labels_parts f ++ structures_parts f))))))
sections_writes f p =
    group_writes (constants_parts f) _ _ _ (listed_writes Sections bare_section const_of IsPrintableConst [] const_parts const_section (line ∷ []) (λ c q. blank_writes _ (const_section c q)) f.constants p.constants)
    (group_writes (globals_parts f) _ _ _ (listed_writes Sections bare_section global_of IsPrintableVar global_lead var_parts global_section (line ∷ global_lead) (λ v q. blank_writes _ (global_section v q)) f.globals p.globals)
    (group_writes (formulas_parts f) _ _ _ (listed_writes Sections bare_section formula_of IsPrintableFormula [] formula_parts formula_section (line ∷ []) (λ x q. blank_writes _ (formula_section x q)) f.formulas p.formulas)
    (group_writes (modules_parts f) _ _ _ (listed_writes Sections bare_section module_of IsPrintableModule (line ∷ []) module_parts (λ m q. blank_writes _ (module_section m q)) (line ∷ []) (λ m q. blank_writes _ (module_section m q)) f.modules p.modules)
    (group_writes (labels_parts f) _ _ _ (listed_writes Sections bare_section label_of IsPrintableLabel [] label_parts label_section (line ∷ []) (λ l q. blank_writes _ (label_section l q)) f.labels p.labels)
    (listed_writes Sections bare_section rewards_of IsPrintableRewards (line ∷ []) rewards_parts (λ r q. blank_writes _ (rewards_section r q)) (line ∷ []) (λ r q. blank_writes _ (rewards_section r q)) f.rewards p.rewards)))))

-- ---- what sections make

bare_with : (f : File) (s : Section) → bare_file (with_section f s) ≡ with_section (bare_file f) (bare_section s)
bare_with f (a_const c) = ap (λ (u : List Const). record { constants = u; globals = map bare_var f.globals; formulas = map bare_formula f.formulas; modules = map bare_module f.modules; labels = map bare_label f.labels; rewards = map bare_rewards f.rewards; init = option_map bare f.init; end = 0 }) (map-append bare_const f.constants (c ∷ []))
bare_with f (a_global v) = ap (λ (u : List Var). record { constants = map bare_const f.constants; globals = u; formulas = map bare_formula f.formulas; modules = map bare_module f.modules; labels = map bare_label f.labels; rewards = map bare_rewards f.rewards; init = option_map bare f.init; end = 0 }) (map-append bare_var f.globals (v ∷ []))
bare_with f (a_formula x) = ap (λ (u : List Formula). record { constants = map bare_const f.constants; globals = map bare_var f.globals; formulas = u; modules = map bare_module f.modules; labels = map bare_label f.labels; rewards = map bare_rewards f.rewards; init = option_map bare f.init; end = 0 }) (map-append bare_formula f.formulas (x ∷ []))
bare_with f (a_module m) = ap (λ (u : List Module). record { constants = map bare_const f.constants; globals = map bare_var f.globals; formulas = map bare_formula f.formulas; modules = u; labels = map bare_label f.labels; rewards = map bare_rewards f.rewards; init = option_map bare f.init; end = 0 }) (map-append bare_module f.modules (m ∷ []))
bare_with f (a_label l) = ap (λ (u : List Label). record { constants = map bare_const f.constants; globals = map bare_var f.globals; formulas = map bare_formula f.formulas; modules = map bare_module f.modules; labels = u; rewards = map bare_rewards f.rewards; init = option_map bare f.init; end = 0 }) (map-append bare_label f.labels (l ∷ []))
bare_with f (a_rewards r) = ap (λ (u : List Rewards). record { constants = map bare_const f.constants; globals = map bare_var f.globals; formulas = map bare_formula f.formulas; modules = map bare_module f.modules; labels = map bare_label f.labels; rewards = u; init = option_map bare f.init; end = 0 }) (map-append bare_rewards f.rewards (r ∷ []))

bare_fold : (f : File) (ss : List Section) → bare_file (fold_left with_section f ss) ≡ fold_left with_section (bare_file f) (map bare_section ss)
bare_fold f [] = refl
bare_fold f (s ∷ ss) = bare_fold (with_section f s) ss ∙ ap (λ (u : File). fold_left with_section u (map bare_section ss)) (bare_with f s)

fold_append : {S A : Type 0} (f : S → A → S) (s : S) (xs ys : List A) → fold_left f s (xs ++ ys) ≡ fold_left f (fold_left f s xs) ys
fold_append f s [] ys = refl
fold_append f s (x ∷ xs) ys = fold_append f (f s x) xs ys

abbrev made : List Const → List Var → List Formula → List Module → List Label → List Rewards → File
made cs gs fs ms ls rs = record { constants = cs; globals = gs; formulas = fs; modules = ms; labels = ls; rewards = rs; init = None; end = 0 }

fold_consts : (cs xs : List Const) (gs : List Var) (fs : List Formula) (ms : List Module) (ls : List Label) (rs : List Rewards) → fold_left with_section (made cs gs fs ms ls rs) (map const_of xs) ≡ made (cs ++ map bare_const xs) gs fs ms ls rs
fold_consts cs [] gs fs ms ls rs = ap (λ (u : List Const). made u gs fs ms ls rs) (sym (append-nil cs))
fold_consts cs (x ∷ xs) gs fs ms ls rs = fold_consts (cs ++ bare_const x ∷ []) xs gs fs ms ls rs ∙ ap (λ (u : List Const). made u gs fs ms ls rs) (append_snoc cs (bare_const x) (map bare_const xs))

fold_globals : (cs : List Const) (gs xs : List Var) (fs : List Formula) (ms : List Module) (ls : List Label) (rs : List Rewards) → fold_left with_section (made cs gs fs ms ls rs) (map global_of xs) ≡ made cs (gs ++ map bare_var xs) fs ms ls rs
fold_globals cs gs [] fs ms ls rs = ap (λ (u : List Var). made cs u fs ms ls rs) (sym (append-nil gs))
fold_globals cs gs (x ∷ xs) fs ms ls rs = fold_globals cs (gs ++ bare_var x ∷ []) xs fs ms ls rs ∙ ap (λ (u : List Var). made cs u fs ms ls rs) (append_snoc gs (bare_var x) (map bare_var xs))

fold_formulas : (cs : List Const) (gs : List Var) (fs xs : List Formula) (ms : List Module) (ls : List Label) (rs : List Rewards) → fold_left with_section (made cs gs fs ms ls rs) (map formula_of xs) ≡ made cs gs (fs ++ map bare_formula xs) ms ls rs
fold_formulas cs gs fs [] ms ls rs = ap (λ (u : List Formula). made cs gs u ms ls rs) (sym (append-nil fs))
fold_formulas cs gs fs (x ∷ xs) ms ls rs = fold_formulas cs gs (fs ++ bare_formula x ∷ []) xs ms ls rs ∙ ap (λ (u : List Formula). made cs gs u ms ls rs) (append_snoc fs (bare_formula x) (map bare_formula xs))

fold_modules : (cs : List Const) (gs : List Var) (fs : List Formula) (ms xs : List Module) (ls : List Label) (rs : List Rewards) → fold_left with_section (made cs gs fs ms ls rs) (map module_of xs) ≡ made cs gs fs (ms ++ map bare_module xs) ls rs
fold_modules cs gs fs ms [] ls rs = ap (λ (u : List Module). made cs gs fs u ls rs) (sym (append-nil ms))
fold_modules cs gs fs ms (x ∷ xs) ls rs = fold_modules cs gs fs (ms ++ bare_module x ∷ []) xs ls rs ∙ ap (λ (u : List Module). made cs gs fs u ls rs) (append_snoc ms (bare_module x) (map bare_module xs))

fold_labels : (cs : List Const) (gs : List Var) (fs : List Formula) (ms : List Module) (ls xs : List Label) (rs : List Rewards) → fold_left with_section (made cs gs fs ms ls rs) (map label_of xs) ≡ made cs gs fs ms (ls ++ map bare_label xs) rs
fold_labels cs gs fs ms ls [] rs = ap (λ (u : List Label). made cs gs fs ms u rs) (sym (append-nil ls))
fold_labels cs gs fs ms ls (x ∷ xs) rs = fold_labels cs gs fs ms (ls ++ bare_label x ∷ []) xs rs ∙ ap (λ (u : List Label). made cs gs fs ms u rs) (append_snoc ls (bare_label x) (map bare_label xs))

fold_rewards : (cs : List Const) (gs : List Var) (fs : List Formula) (ms : List Module) (ls : List Label) (rs xs : List Rewards) → fold_left with_section (made cs gs fs ms ls rs) (map rewards_of xs) ≡ made cs gs fs ms ls (rs ++ map bare_rewards xs)
fold_rewards cs gs fs ms ls rs [] = ap (λ (u : List Rewards). made cs gs fs ms ls u) (sym (append-nil rs))
fold_rewards cs gs fs ms ls rs (x ∷ xs) = fold_rewards cs gs fs ms ls (rs ++ bare_rewards x ∷ []) xs ∙ ap (λ (u : List Rewards). made cs gs fs ms ls u) (append_snoc rs (bare_rewards x) (map bare_rewards xs))

-- the file without its initial condition
abbrev without_init : File → File
without_init f = made (map bare_const f.constants) (map bare_var f.globals) (map bare_formula f.formulas) (map bare_module f.modules) (map bare_label f.labels) (map bare_rewards f.rewards)

-- The sections of a file make it, but for that.
fold_sections : (f : File) → fold_left with_section (empty 0) (sections_of f) ≡ without_init f
fold_sections f =
    let cs = map bare_const f.constants in
    let gs = map bare_var f.globals in
    let fs = map bare_formula f.formulas in
    let ms = map bare_module f.modules in
    let ls = map bare_label f.labels in
    then _ (map const_of f.constants) _ _ (fold_consts [] f.constants [] [] [] [] [])
    (then _ (map global_of f.globals) _ _ (fold_globals cs [] f.globals [] [] [] [])
    (then _ (map formula_of f.formulas) _ _ (fold_formulas cs gs [] f.formulas [] [] [])
    (then _ (map module_of f.modules) _ _ (fold_modules cs gs fs [] f.modules [] [])
    (then _ (map label_of f.labels) _ _ (fold_labels cs gs fs ms [] f.labels [])
    (fold_rewards cs gs fs ms ls [] f.rewards)))))
  where
    then : {h : File} (e : File) (xs ys : List Section) → (r : File) → fold_left with_section e xs ≡ r → fold_left with_section r ys ≡ h → fold_left with_section e (xs ++ ys) ≡ h
    then e xs ys r p q = fold_append with_section e xs ys ∙ ap (λ (u : File). fold_left with_section u ys) p ∙ q

-- a file with this initial condition, or none
abbrev under : Option Expression → File → File
under o g = record { constants = g.constants; globals = g.globals; formulas = g.formulas; modules = g.modules; labels = g.labels; rewards = g.rewards; init = o; end = g.end }

bare_none : (o : Option Expression) → option_map bare o ≡ None → o ≡ None
bare_none None e = refl
bare_none (Some a) e = absurd cc

-- ---- files

condition_writes : (a : Expression) → IsPrintableExpression a → Writes (init_item expr V) (Same a) (flat (init_parts (Some a)))
unfolding init_item
condition_writes a p =
    blank_writes _ (token_writes (K.Word W.Init) _ (λ _ _. blank_writes _ (then_writes (expr_writes a p) (λ e h. blank_writes _ (token_writes (K.Word W.Endinit) _ (λ _ _. blank_writes _ (gives_writes e h)))))))

-- what stands behind the sections
init_writes : (f g : File) (o : Option Expression) → bare_file g ≡ without_init f → IfAny IsPrintableExpression o →
    Writes (gives g or (init_if expr V g.init >>= λ e. folding with_section Sections (with_init g e))) (λ y. bare_file y ≡ under (option_map bare o) (without_init f)) (flat (init_parts o))
init_writes f g None e p = left_writes _ (gives_writes g e)
init_writes f g (Some a) e p = right_writes _ (by_init g.init (bare_none g.init (ap (λ (u : File). u.init) e)))
  where
    last : (x : Expression) → Same a x → Writes (folding with_section Sections (with_init g x)) (λ y. bare_file y ≡ under (Some (bare a)) (without_init f)) []
    last x h =
        folding_writes Sections with_section (with_init g x) (many_none Sections {P = λ xs. xs ≡ []} refl) (λ xs q.
        ap (λ (u : List Section). bare_file (fold_left with_section (with_init g x) u)) q ∙ ap (λ (u : Expression). under (Some u) (bare_file g)) h ∙ ap (under (Some (bare a))) e)

    by_init : (o : Option Expression) → o ≡ None →
        Writes (init_if expr V o >>= λ x. folding with_section Sections (with_init g x)) (λ y. bare_file y ≡ under (Some (bare a)) (without_init f)) (flat (init_parts (Some a)))
    by_init (Some x) h = absurd cc
    by_init None h =
        let F : List Piece → Type 0 = λ u. Writes (init_item expr V >>= λ x. folding with_section Sections (with_init g x)) (λ y. bare_file y ≡ under (Some (bare a)) (without_init f)) u in
        subst F (append-nil (flat (init_parts (Some a)))) (then_writes (condition_writes a p) last)

abbrev sections_parts : File → List Element
sections_parts f = constants_parts f ++ (globals_parts f ++ (formulas_parts f ++ (modules_parts f ++ (labels_parts f ++ structures_parts f))))

regrouped : (a b c d e g js : List Element) → a ++ (b ++ (c ++ (d ++ (e ++ (g ++ js))))) ≡ (a ++ (b ++ (c ++ (d ++ (e ++ g))))) ++ js
regrouped a b c d e g js = simp append_assoc

groups_flat : (f : File) (js : List Element) → flat (groups_parts f js) ≡ flat (sections_parts f) ++ flat js
groups_flat f js = ap flat (regrouped (constants_parts f) (globals_parts f) (formulas_parts f) (modules_parts f) (labels_parts f) (structures_parts f) js) ∙ flat_append (sections_parts f) js

no_items_write : (end : ℕ) → Writes (items expr V (empty end)) (λ g. g ≡ empty end) []
unfolding items
no_items_write end =
    none_writes (folding_writes Sections {Q = λ g. g ≡ empty end} with_section (empty end) (many_none Sections {P = λ xs. xs ≡ []} refl) (λ xs e. ap (λ (u : List Section). fold_left with_section (empty end) u) e)) (λ g e. left_writes _ (gives_writes g e))

items_write : (end : ℕ) (f g : File) → g ≡ empty end → IsPrintable f → Writes (items expr V g) (λ y. bare_file y ≡ bare_file f) (flat (groups_parts f (init_parts f.init)))
unfolding items
items_write end f g e p =
    let F : List Piece → Type 0 = λ u. Writes (items expr V g) (λ y. bare_file y ≡ bare_file f) u in
    subst F (sym (groups_flat f (init_parts f.init)))
    (then_writes (folding_writes Sections {Q = λ h. bare_file h ≡ without_init f} with_section g (sections_writes f p) (λ ys q.
    ap (λ (u : File). bare_file (fold_left with_section u ys)) e ∙ bare_fold (empty end) ys ∙ ap (fold_left with_section (empty 0)) q ∙ fold_sections f)) (λ h q. init_writes f h f.init q p.init))

pub file_writes : (end : ℕ) (f : File) → IsPrintable f → Writes (file_over expr V end) (λ y. bare_file y ≡ bare_file f) (flat (file_parts f))
unfolding file_over
file_writes end f p = none_writes (no_items_write end) (λ g e. token_writes (K.Word W.Mdp) _ (λ _ _. blank_writes _ (items_write end f g e p)))
