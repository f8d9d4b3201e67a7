-- The templates of declarations, commands, modules and reward structures: their texts, that their tokens do not run into
-- one another, and that they are proper where the trees are printable.
use Rattle.std.proofs.Common.{◌≡◌, ℕ, Bool, true, List, [], ◌∷◌, ◌++◌, Option, Some, None, refl, sym, ap, subst, ◌∙◌, append_assoc, append-nil}
use Rattle.std.specs.Prelude.{codes, ◌&&◌}
use Rattle.bridge_io.specs.declared.reason.Named.{Named}
use Rattle.op_trees.specs.declared.tree.Ty.{Ty}
use Rattle.prism_lex.specs.declared.words.Reserved.TheVariants as W
use Rattle.prism_lex.specs.declared.symbols.Symbol.TheVariants as S
use Rattle.prism_tree.specs.declared.syntax.CopiedModule.{CopiedModule}
use Rattle.prism_tree.specs.declared.syntax.NamePair.{NamePair}
use Rattle.prism_tree.specs.declared.syntax.ItemOn.{ItemOn}
use Rattle.prism_tree.specs.declared.syntax.ItemOn.TheVariants.{InState, Silent, Action}
use Rattle.prism_tree.specs.Syntax.{Expression, Const, Range, Var, Formula, Label, Write, Branch, Command, Body, Module, plain, copied, Item, Rewards, File}
use Rattle.prism_print.specs.Text.{expression_text, behind, listed, type_text, const_text, range_text, var_text, formula_text, label_text, write_text, update_text, weight_text, branch_text, action_text, command_text, before_commands, body_text, pair_text, copy_text, module_text, on_text, item_text, title_text, rewards_text, init_text, file_text}
use Rattle.std.specs.List.{AllByRecursion as Each}
use Rattle.basics.specs.Options.{IfAny}
use Rattle.prism_print.specs.Printable.{IsPrintableExpression, IsPrintableConst, IsPrintableRange, IsPrintableVar, IsPrintableFormula, IsPrintableLabel, IsPrintableWrite, IsPrintableBranch, IsPrintableCommand, IsPrintableBody, IsPrintablePair, IsPrintableCopy, IsPrintableModule, IsPrintableOn, IsPrintableItem, IsPrintableRewards, IsPrintable, IsIdentifier, IsTitle}
use Rattle.prism_print.proofs.Pieces.{Element, a_word, a_type, a_symbol, a_name, a_title, an_expression, a_blank, elements_text, elements_append}
use Rattle.prism_print.proofs.Neat.{Front, nothing, neat, neat_append, listed_neat, IsProperTemplate, listed_proper}

-- ---- texts of lists

listed_text : {A : Type 0} (f : A → List Element) (t : A → List ℕ) → ((x : A) → elements_text (f x) ≡ t x) → (between before js : List Element) (xs : List A) → elements_text (listed before between f xs ++ js) ≡ listed (elements_text before) (elements_text between) t xs ++ elements_text js
listed_text f t h between before js [] = refl
listed_text f t h between before js (x ∷ xs) =
    let l = listed between between f xs in
    let m = listed (elements_text between) (elements_text between) t xs in
    ap elements_text (append_assoc before (f x ++ l) js ∙ ap (λ (u : List Element). before ++ u) (append_assoc (f x) l js)) ∙ elements_append before (f x ++ (l ++ js))
    ∙ ap (λ (u : List ℕ). elements_text before ++ u) (elements_append (f x) (l ++ js) ∙ ap (λ (u : List ℕ). u ++ elements_text (l ++ js)) (h x) ∙ ap (λ (u : List ℕ). t x ++ u) (listed_text f t h between between js xs))
    ∙ sym (append_assoc (elements_text before) (t x ++ m) (elements_text js) ∙ ap (λ (u : List ℕ). elements_text before ++ u) (append_assoc (t x) m (elements_text js)))

abbrev pub space : Element
space = a_blank (codes " ")

abbrev pub line : Element
line = a_blank (codes "\n")

-- the two spaces before a line in a module or a reward structure
abbrev pub indent : Element
indent = a_blank (codes "  ")

abbrev pub line_end : List Element
line_end = a_symbol S.Semicolon ∷ line ∷ []

-- ---- constants

abbrev pub const_with : Ty → List ℕ → Option Expression → List Element
const_with t x None = a_word W.Const ∷ space ∷ a_type t ∷ space ∷ a_name x ∷ line_end
const_with t x (Some e) = a_word W.Const ∷ space ∷ a_type t ∷ space ∷ a_name x ∷ space ∷ a_symbol S.Equal ∷ space ∷ an_expression e ∷ line_end

abbrev pub const_parts : Const → List Element
const_parts c = const_with c.ty c.name.name c.value

const_is : (t : Ty) (x : List ℕ) (o : Option Expression) → elements_text (const_with t x o) ≡ codes "const " ++ (type_text t ++ (codes " " ++ (x ++ (behind (codes " = ") o ++ codes ";\n"))))
const_is t x None = refl
const_is t x (Some e) = refl

const_neat : (n : Front) (t : Ty) (x : List ℕ) (o : Option Expression) → neat n (const_with t x o) ≡ true
const_neat n t x None = refl
const_neat n t x (Some e) = refl

const_proper : (t : Ty) (x : Named) (o : Option Expression) → IsIdentifier x → IfAny IsPrintableExpression o → IsProperTemplate (const_with t x.name o)
const_proper t x None p q = (p, tt)
const_proper t x (Some e) p q = (p, (q, tt))

-- ---- variables

abbrev pub var_with : List ℕ → Option Range → Option Expression → List Element
var_with x None None = a_name x ∷ space ∷ a_symbol S.Colon ∷ space ∷ a_word W.BoolWord ∷ line_end
var_with x None (Some e) = a_name x ∷ space ∷ a_symbol S.Colon ∷ space ∷ a_word W.BoolWord ∷ space ∷ a_word W.Init ∷ space ∷ an_expression e ∷ line_end
var_with x (Some r) None =
    a_name x ∷ space ∷ a_symbol S.Colon ∷ space ∷ a_symbol S.LeftBracket ∷ an_expression r.low ∷ a_symbol S.Dots ∷ an_expression r.high ∷ a_symbol S.RightBracket ∷ line_end
var_with x (Some r) (Some e) =
    a_name x ∷ space ∷ a_symbol S.Colon ∷ space ∷ a_symbol S.LeftBracket ∷ an_expression r.low ∷ a_symbol S.Dots ∷ an_expression r.high ∷ a_symbol S.RightBracket
    ∷ space ∷ a_word W.Init ∷ space ∷ an_expression e ∷ line_end

abbrev pub var_parts : Var → List Element
var_parts v = var_with v.name.name v.range v.start

range_is : (x l h : List ℕ) (rest : List ℕ) → x ++ (codes " : [" ++ (l ++ (codes ".." ++ (h ++ (codes "]" ++ rest))))) ≡ x ++ (codes " : " ++ ((codes "[" ++ (l ++ (codes ".." ++ (h ++ codes "]")))) ++ rest))
range_is x l h rest = ap (λ (u : List ℕ). x ++ (codes " : [" ++ u)) (sym (append_assoc l (codes ".." ++ (h ++ codes "]")) rest ∙ ap (λ (u : List ℕ). l ++ (codes ".." ++ u)) (append_assoc h (codes "]") rest)))

var_is : (x : List ℕ) (r : Option Range) (o : Option Expression) → elements_text (var_with x r o) ≡ x ++ (codes " : " ++ (range_text r ++ (behind (codes " init ") o ++ codes ";\n")))
var_is x None None = refl
var_is x None (Some e) = refl
var_is x (Some r) None = range_is x (expression_text r.low) (expression_text r.high) (codes ";\n")
var_is x (Some r) (Some e) = range_is x (expression_text r.low) (expression_text r.high) (codes " init " ++ (expression_text e ++ codes ";\n"))

var_neat : (n : Front) (x : List ℕ) (r : Option Range) (o : Option Expression) → neat n (var_with x r o) ≡ true
var_neat n x None None = refl
var_neat n x None (Some e) = refl
var_neat n x (Some r) None = refl
var_neat n x (Some r) (Some e) = refl

var_proper : (x : Named) (r : Option Range) (o : Option Expression) → IsIdentifier x → IfAny IsPrintableRange r → IfAny IsPrintableExpression o → IsProperTemplate (var_with x.name r o)
var_proper x None None p q s = (p, tt)
var_proper x None (Some e) p q s = (p, (s, tt))
var_proper x (Some r) None p q s = (p, (q.0, (q.1, tt)))
var_proper x (Some r) (Some e) p q s = (p, (q.0, (q.1, (s, tt))))

-- ---- formulas and labels

abbrev pub formula_parts : Formula → List Element
formula_parts f = a_word W.Formula ∷ space ∷ a_name f.name.name ∷ space ∷ a_symbol S.Equal ∷ space ∷ an_expression f.body ∷ line_end

formula_is : (f : Formula) → elements_text (formula_parts f) ≡ formula_text f
formula_is f = refl

abbrev pub label_parts : Label → List Element
label_parts l = a_word W.Label ∷ space ∷ a_title l.name.name ∷ space ∷ a_symbol S.Equal ∷ space ∷ an_expression l.body ∷ line_end

label_is : (l : Label) → elements_text (label_parts l) ≡ label_text l
label_is l = ap (λ (u : List ℕ). codes "label \"" ++ u) (append_assoc l.name.name (codes "\"") (codes " = " ++ (expression_text l.body ++ codes ";\n")))

-- ---- commands

abbrev pub write_parts : Write → List Element
write_parts w = a_symbol S.LeftParenthesis ∷ a_name w.name.name ∷ a_symbol S.Prime ∷ a_symbol S.Equal ∷ an_expression w.value ∷ a_symbol S.RightParenthesis ∷ []

write_is : (w : Write) → elements_text (write_parts w) ≡ write_text w
write_is w = refl

abbrev pub and_between : List Element
and_between = space ∷ a_symbol S.And ∷ space ∷ []

abbrev pub update_parts : List Write → List Element
update_parts [] = a_word W.True ∷ []
update_parts (w ∷ ws) = listed [] and_between write_parts (w ∷ ws)

list_is : {A : Type 0} (f : A → List Element) (t : A → List ℕ) → ((x : A) → elements_text (f x) ≡ t x) → (between before : List Element) (xs : List A) → elements_text (listed before between f xs) ≡ listed (elements_text before) (elements_text between) t xs
list_is f t h between before xs =
    ap elements_text (sym (append-nil (listed before between f xs))) ∙ listed_text f t h between before [] xs ∙ append-nil (listed (elements_text before) (elements_text between) t xs)

update_is : (ws : List Write) → elements_text (update_parts ws) ≡ update_text ws
update_is [] = refl
update_is (w ∷ ws) = list_is write_parts write_text write_is and_between [] (w ∷ ws)

update_neat : (n : Front) → n.calm ≡ true → (ws : List Write) → neat n (update_parts ws) ≡ true
update_neat n c [] = ap (λ (b : Bool). b && true) c
update_neat n c (w ∷ ws) = listed_neat (λ m. Unit {0}) n and_between write_parts (λ m. refl) (λ x m q. refl) (λ rest. tt) tt [] (λ m. refl) (w ∷ ws)

write_proper : (w : Write) → IsPrintableWrite w → IsProperTemplate (write_parts w)
write_proper w p = (p.0, (p.1, tt))

list_proper : {A : Type 0} (P : A → Type 0) (between : List Element) (f : A → List Element) → IsProperTemplate between → ((x : A) → P x → IsProperTemplate (f x)) → (before : List Element) → IsProperTemplate before → (xs : List A) → Each P xs → IsProperTemplate (listed before between f xs)
list_proper P between f b h before a xs e = let F : List Element → Type 0 = λ u. IsProperTemplate u in subst F (append-nil (listed before between f xs)) (listed_proper P between f [] b h tt before a xs e)

update_proper : (ws : List Write) → Each IsPrintableWrite ws → IsProperTemplate (update_parts ws)
update_proper [] p = tt
update_proper (w ∷ ws) p = list_proper IsPrintableWrite and_between write_parts tt write_proper [] tt (w ∷ ws) p

abbrev pub weight_with : Option Expression → List Element → List Element
weight_with None is = is
weight_with (Some e) is = an_expression e ∷ space ∷ a_symbol S.Colon ∷ space ∷ is

abbrev pub branch_parts : Branch → List Element
branch_parts b = weight_with b.weight (update_parts b.writes)

weight_is : (o : Option Expression) (is : List Element) (t : List ℕ) → elements_text is ≡ t → elements_text (weight_with o is) ≡ weight_text o ++ t
weight_is None is t h = h
weight_is (Some e) is t h = ap (λ (u : List ℕ). expression_text e ++ (codes " : " ++ u)) h ∙ sym (append_assoc (expression_text e) (codes " : ") t)

branch_is : (b : Branch) → elements_text (branch_parts b) ≡ branch_text b
branch_is b = weight_is b.weight (update_parts b.writes) (update_text b.writes) (update_is b.writes)

weight_neat : (n : Front) (o : Option Expression) (is : List Element) → neat n is ≡ true → neat n (weight_with o is) ≡ true
weight_neat n None is h = h
weight_neat n (Some e) is h = h

branch_neat : (n : Front) → n.calm ≡ true → (b : Branch) → neat n (branch_parts b) ≡ true
branch_neat n c b = weight_neat n b.weight (update_parts b.writes) (update_neat n c b.writes)

weight_proper : (o : Option Expression) (is : List Element) → IfAny IsPrintableExpression o → IsProperTemplate is → IsProperTemplate (weight_with o is)
weight_proper None is p q = q
weight_proper (Some e) is p q = (p, q)

branch_proper : (b : Branch) → IsPrintableBranch b → IsProperTemplate (branch_parts b)
branch_proper b p = weight_proper b.weight (update_parts b.writes) p.0 (update_proper b.writes p.1)

abbrev pub plus_between : List Element
plus_between = space ∷ a_symbol S.Plus ∷ space ∷ []

abbrev pub branches_parts : List Branch → List Element
branches_parts bs = listed [] plus_between branch_parts bs ++ line_end

branches_is : (bs : List Branch) → elements_text (branches_parts bs) ≡ listed [] (codes " + ") branch_text bs ++ codes ";\n"
branches_is bs = listed_text branch_parts branch_text branch_is plus_between [] line_end bs

branches_neat : (n : Front) (bs : List Branch) → neat n (branches_parts bs) ≡ true
branches_neat n bs = neat_append n (listed [] plus_between branch_parts bs) line_end
    (listed_neat (λ m. m.calm ≡ true) nothing_known plus_between branch_parts (λ m. refl) (λ x m q. branch_neat m q x) (λ rest. refl) refl [] (λ m. refl) bs) refl
  where
    nothing_known : Front
    nothing_known = record { calm = true; plain = true }

abbrev pub action_with : Option Named → List Element → List Element
action_with None is = a_symbol S.LeftBracket ∷ a_symbol S.RightBracket ∷ space ∷ is
action_with (Some a) is = a_symbol S.LeftBracket ∷ a_name a.name ∷ a_symbol S.RightBracket ∷ space ∷ is

abbrev pub command_parts : Command → List Element
command_parts c = action_with c.action (an_expression c.guard ∷ space ∷ a_symbol S.Arrow ∷ space ∷ branches_parts c.branches)

action_is : (o : Option Named) (is : List Element) (t : List ℕ) → elements_text is ≡ t → elements_text (action_with o is) ≡ codes "[" ++ (action_text o ++ (codes "] " ++ t))
action_is None is t h = ap (λ (u : List ℕ). codes "[] " ++ u) h
action_is (Some a) is t h = ap (λ (u : List ℕ). codes "[" ++ (a.name ++ (codes "] " ++ u))) h

command_is : (c : Command) → elements_text (command_parts c) ≡ command_text c
command_is c = action_is c.action _ _ (ap (λ (u : List ℕ). expression_text c.guard ++ (codes " -> " ++ u)) (branches_is c.branches))

action_neat : (n : Front) (o : Option Named) (is : List Element) → neat n is ≡ true → neat n (action_with o is) ≡ true
action_neat n None is h = h
action_neat n (Some a) is h = h

command_neat : (n : Front) (c : Command) → neat n (command_parts c) ≡ true
command_neat n c = action_neat n c.action _ (branches_neat n c.branches)

action_proper : (o : Option Named) (is : List Element) → IfAny IsIdentifier o → IsProperTemplate is → IsProperTemplate (action_with o is)
action_proper None is p q = q
action_proper (Some a) is p q = (p, q)

command_proper : (c : Command) → IsPrintableCommand c → IsProperTemplate (command_parts c)
command_proper c p = action_proper c.action _ p.0 (p.1, listed_proper IsPrintableBranch plus_between branch_parts line_end tt branch_proper tt [] tt c.branches p.3)

-- ---- modules

abbrev pub before_parts : List Var → List Element
before_parts [] = indent ∷ []
before_parts (v ∷ vs) = line ∷ indent ∷ []

before_is : (vs : List Var) → elements_text (before_parts vs) ≡ before_commands vs
before_is [] = refl
before_is (v ∷ vs) = refl

before_neat : (vs : List Var) (n : Front) → neat n (before_parts vs) ≡ true
before_neat [] n = refl
before_neat (v ∷ vs) n = refl

before_proper : (vs : List Var) → IsProperTemplate (before_parts vs)
before_proper [] = tt
before_proper (v ∷ vs) = tt

abbrev pub end_parts : List Element
end_parts = a_word W.Endmodule ∷ line ∷ []

abbrev pub commands_parts : Body → List Element
commands_parts m = listed (before_parts m.vars) (indent ∷ []) command_parts m.commands

abbrev pub vars_parts : Body → List Element
vars_parts m = listed (indent ∷ []) (indent ∷ []) var_parts m.vars

abbrev pub body_parts : Body → List Element
body_parts m = a_word W.Module ∷ space ∷ a_name m.name.name ∷ line ∷ (vars_parts m ++ (commands_parts m ++ end_parts))

var_text_is : (v : Var) → elements_text (var_parts v) ≡ var_text v
var_text_is v = var_is v.name.name v.range v.start

body_is : (m : Body) → elements_text (body_parts m) ≡ body_text m
body_is m =
    ap (λ (u : List ℕ). codes "module " ++ (m.name.name ++ (codes "\n" ++ u)))
    (listed_text var_parts var_text var_text_is (indent ∷ []) (indent ∷ []) (commands_parts m ++ end_parts) m.vars
    ∙ ap (λ (u : List ℕ). listed (codes "  ") (codes "  ") var_text m.vars ++ u)
    (listed_text command_parts command_text command_is (indent ∷ []) (before_parts m.vars) end_parts m.commands
    ∙ ap (λ (u : List ℕ). listed u (codes "  ") command_text m.commands ++ codes "endmodule\n") (before_is m.vars)))

abbrev any_front : Front → Type 0
any_front m = Unit {0}

body_neat : (n : Front) (m : Body) → neat n (body_parts m) ≡ true
body_neat n m =
    neat_append n (vars_parts m) (commands_parts m ++ end_parts)
    (listed_neat any_front _ (indent ∷ []) var_parts (λ m. refl) (λ v m q. var_neat m v.name.name v.range v.start) (λ rest. tt) tt (indent ∷ []) (λ m. refl) m.vars)
    (neat_append n (commands_parts m) end_parts
    (listed_neat any_front _ (indent ∷ []) command_parts (λ m. refl) (λ c m q. command_neat m c) (λ rest. tt) tt (before_parts m.vars) (before_neat m.vars) m.commands) refl)

var_all_proper : (v : Var) → IsPrintableVar v → IsProperTemplate (var_parts v)
var_all_proper v p = var_proper v.name v.range v.start p.0 p.1 p.2

body_proper : (m : Body) → IsPrintableBody m → IsProperTemplate (body_parts m)
body_proper m p = (
  p.0,
  listed_proper IsPrintableVar (indent ∷ []) var_parts (commands_parts m ++ end_parts) tt var_all_proper
      (listed_proper IsPrintableCommand (indent ∷ []) command_parts end_parts tt command_proper tt (before_parts m.vars) (before_proper m.vars) m.commands p.2) (indent ∷ []) tt m.vars p.1,
)

abbrev pub pair_parts : NamePair → List Element
pair_parts p = a_name p.old.name ∷ a_symbol S.Equal ∷ a_name p.new.name ∷ []

pair_is : (p : NamePair) → elements_text (pair_parts p) ≡ pair_text p
pair_is p = ap (λ (u : List ℕ). p.old.name ++ (codes "=" ++ u)) (append-nil p.new.name)

pair_neat : (n : Front) → n.calm ≡ true → (p : NamePair) → neat n (pair_parts p) ≡ true
pair_neat n c p = ap (λ (b : Bool). b && true) c

abbrev pub comma_between : List Element
comma_between = a_symbol S.Comma ∷ space ∷ []

abbrev pub copy_end : List Element
copy_end = a_symbol S.RightBracket ∷ space ∷ a_word W.Endmodule ∷ line ∷ []

abbrev pub copy_parts : CopiedModule → List Element
copy_parts m =
    a_word W.Module ∷ space ∷ a_name m.name.name ∷ space ∷ a_symbol S.Equal ∷ space ∷ a_name m.from.name ∷ space ∷ a_symbol S.LeftBracket
    ∷ (listed [] comma_between pair_parts m.pairs ++ copy_end)

copy_is : (m : CopiedModule) → elements_text (copy_parts m) ≡ copy_text m
copy_is m = ap (λ (u : List ℕ). codes "module " ++ (m.name.name ++ (codes " = " ++ (m.from.name ++ (codes " [" ++ u))))) (listed_text pair_parts pair_text pair_is comma_between [] copy_end m.pairs)

copy_neat : (n : Front) (m : CopiedModule) → neat n (copy_parts m) ≡ true
copy_neat n m =
    neat_append n (listed [] comma_between pair_parts m.pairs) copy_end
    (listed_neat (λ m. m.calm ≡ true) _ comma_between pair_parts (λ m. refl) (λ x m q. pair_neat m q x) (λ rest. refl) refl [] (λ m. refl) m.pairs) refl

pair_proper : (p : NamePair) → IsPrintablePair p → IsProperTemplate (pair_parts p)
pair_proper p q = (q.0, (q.1, tt))

copy_proper : (m : CopiedModule) → IsPrintableCopy m → IsProperTemplate (copy_parts m)
copy_proper m p = (p.0, (p.1, listed_proper IsPrintablePair comma_between pair_parts copy_end tt pair_proper tt [] tt m.pairs p.3))

abbrev pub module_parts : Module → List Element
module_parts (plain m) = body_parts m
module_parts (copied m) = copy_parts m

module_is : (m : Module) → elements_text (module_parts m) ≡ module_text m
module_is (plain m) = body_is m
module_is (copied m) = copy_is m

module_neat : (n : Front) (m : Module) → neat n (module_parts m) ≡ true
module_neat n (plain m) = body_neat n m
module_neat n (copied m) = copy_neat n m

module_proper : (m : Module) → IsPrintableModule m → IsProperTemplate (module_parts m)
module_proper (plain m) p = body_proper m p
module_proper (copied m) p = copy_proper m p

-- ---- rewards

abbrev pub on_parts : ItemOn → List Element → List Element
on_parts InState is = is
on_parts Silent is = a_symbol S.LeftBracket ∷ a_symbol S.RightBracket ∷ space ∷ is
on_parts (Action a) is = a_symbol S.LeftBracket ∷ a_name a.name ∷ a_symbol S.RightBracket ∷ space ∷ is

abbrev pub reward_parts : Expression → Expression → List Element
reward_parts e v = an_expression e ∷ space ∷ a_symbol S.Colon ∷ space ∷ an_expression v ∷ line_end

abbrev pub item_parts : Item → List Element
item_parts i = on_parts i.on (reward_parts i.guard i.value)

on_is : (o : ItemOn) (is : List Element) → elements_text (on_parts o is) ≡ on_text o ++ elements_text is
on_is InState is = refl
on_is Silent is = refl
on_is (Action a) is = ap (λ (u : List ℕ). codes "[" ++ u) (sym (append_assoc a.name (codes "] ") (elements_text is)))

item_is : (i : Item) → elements_text (item_parts i) ≡ item_text i
item_is i = on_is i.on (reward_parts i.guard i.value)

item_neat : (n : Front) (o : ItemOn) (e v : Expression) → neat n (on_parts o (reward_parts e v)) ≡ true
item_neat n InState e v = refl
item_neat n Silent e v = refl
item_neat n (Action a) e v = refl

item_proper : (o : ItemOn) (e v : Expression) → IsPrintableOn o → IsPrintableExpression e → IsPrintableExpression v → IsProperTemplate (on_parts o (reward_parts e v))
item_proper InState e v p q r = (q, (r, tt))
item_proper Silent e v p q r = (q, (r, tt))
item_proper (Action a) e v p q r = (p, (q, (r, tt)))

abbrev pub rewards_end : List Element
rewards_end = a_word W.Endrewards ∷ line ∷ []

abbrev pub items_parts : List Item → List Element
items_parts is = line ∷ (listed (indent ∷ []) (indent ∷ []) item_parts is ++ rewards_end)

abbrev pub title_with : Option Named → List Element → List Element
title_with None is = a_word W.Rewards ∷ is
title_with (Some x) is = a_word W.Rewards ∷ space ∷ a_title x.name ∷ is

abbrev pub rewards_parts : Rewards → List Element
rewards_parts r = title_with r.name (items_parts r.items)

title_is : (o : Option Named) (is : List Element) (t : List ℕ) → elements_text is ≡ t → elements_text (title_with o is) ≡ codes "rewards" ++ (title_text o ++ t)
title_is None is t h = ap (λ (u : List ℕ). codes "rewards" ++ u) h
title_is (Some x) is t h = ap (λ (u : List ℕ). codes "rewards" ++ (title_text (Some x) ++ u)) h

items_is : (is : List Item) → elements_text (items_parts is) ≡ codes "\n" ++ (listed (codes "  ") (codes "  ") item_text is ++ codes "endrewards\n")
items_is is = ap (λ (u : List ℕ). codes "\n" ++ u) (listed_text item_parts item_text item_is (indent ∷ []) (indent ∷ []) rewards_end is)

rewards_is : (r : Rewards) → elements_text (rewards_parts r) ≡ rewards_text r
rewards_is r = title_is r.name _ _ (items_is r.items)

items_neat : (n : Front) (is : List Item) → neat n (items_parts is) ≡ true
items_neat n is =
    neat_append n (listed (indent ∷ []) (indent ∷ []) item_parts is) rewards_end
    (listed_neat any_front _ (indent ∷ []) item_parts (λ m. refl) (λ i m q. item_neat m i.on i.guard i.value) (λ rest. tt) tt (indent ∷ []) (λ m. refl) is) refl

title_neat : (n : Front) (o : Option Named) (is : List Item) → neat n (title_with o (items_parts is)) ≡ true
title_neat n None is = items_neat n is
title_neat n (Some x) is = items_neat n is

items_proper : (is : List Item) → Each IsPrintableItem is → IsProperTemplate (items_parts is)
items_proper is p = listed_proper IsPrintableItem (indent ∷ []) item_parts rewards_end tt (λ i q. item_proper i.on i.guard i.value q.0 q.1 q.2) tt (indent ∷ []) tt is p

title_proper : (o : Option Named) (is : List Element) → IfAny IsTitle o → IsProperTemplate is → IsProperTemplate (title_with o is)
title_proper None is p q = q
title_proper (Some x) is p q = (p, q)

-- ---- files

abbrev pub global_lead : List Element
global_lead = a_word W.Global ∷ space ∷ []

abbrev pub constants_parts : File → List Element
constants_parts f = listed (line ∷ []) [] const_parts f.constants

abbrev pub globals_parts : File → List Element
globals_parts f = listed (line ∷ global_lead) global_lead var_parts f.globals

abbrev pub formulas_parts : File → List Element
formulas_parts f = listed (line ∷ []) [] formula_parts f.formulas

abbrev pub modules_parts : File → List Element
modules_parts f = listed (line ∷ []) (line ∷ []) module_parts f.modules

abbrev pub labels_parts : File → List Element
labels_parts f = listed (line ∷ []) [] label_parts f.labels

abbrev pub structures_parts : File → List Element
structures_parts f = listed (line ∷ []) (line ∷ []) rewards_parts f.rewards

abbrev pub init_parts : Option Expression → List Element
init_parts None = []
init_parts (Some e) = line ∷ a_word W.Init ∷ space ∷ an_expression e ∷ space ∷ a_word W.Endinit ∷ line ∷ []

init_is : (o : Option Expression) → elements_text (init_parts o) ≡ init_text o
init_is None = refl
init_is (Some e) = refl

init_neat : (o : Option Expression) → neat nothing (init_parts o) ≡ true
init_neat None = refl
init_neat (Some e) = refl

init_proper : (o : Option Expression) → IfAny IsPrintableExpression o → IsProperTemplate (init_parts o)
init_proper None p = tt
init_proper (Some e) p = (p, tt)

-- all but the initial condition, behind the kind
abbrev pub groups_parts : File → List Element → List Element
groups_parts f js = constants_parts f ++ (globals_parts f ++ (formulas_parts f ++ (modules_parts f ++ (labels_parts f ++ (structures_parts f ++ js)))))

abbrev pub file_parts : File → List Element
file_parts f = a_word W.Mdp ∷ line ∷ groups_parts f (init_parts f.init)

const_text_is : (c : Const) → elements_text (const_parts c) ≡ const_text c
const_text_is c = const_is c.ty c.name.name c.value

pub file_is : (f : File) → elements_text (file_parts f) ≡ file_text f
file_is f =
    ap (λ (u : List ℕ). codes "mdp\n" ++ u)
    (listed_text const_parts const_text const_text_is [] (line ∷ []) _ f.constants ∙ ap (λ (u : List ℕ). listed (codes "\n") [] const_text f.constants ++ u)
    (listed_text var_parts var_text var_text_is global_lead (line ∷ global_lead) _ f.globals ∙ ap (λ (u : List ℕ). listed (codes "\nglobal ") (codes "global ") var_text f.globals ++ u)
    (listed_text formula_parts formula_text formula_is [] (line ∷ []) _ f.formulas ∙ ap (λ (u : List ℕ). listed (codes "\n") [] formula_text f.formulas ++ u)
    (listed_text module_parts module_text module_is (line ∷ []) (line ∷ []) _ f.modules ∙ ap (λ (u : List ℕ). listed (codes "\n") (codes "\n") module_text f.modules ++ u)
    (listed_text label_parts label_text label_is [] (line ∷ []) _ f.labels ∙ ap (λ (u : List ℕ). listed (codes "\n") [] label_text f.labels ++ u)
    (listed_text rewards_parts rewards_text rewards_is (line ∷ []) (line ∷ []) _ f.rewards ∙ ap (λ (u : List ℕ). listed (codes "\n") (codes "\n") rewards_text f.rewards ++ u)
    (init_is f.init)))))))

pub file_neat : (f : File) → neat nothing (file_parts f) ≡ true
file_neat f =
    neat_append nothing (constants_parts f) _ (listed_neat any_front _ [] const_parts (λ m. refl) (λ c m q. const_neat m c.ty c.name.name c.value) (λ rest. tt) tt (line ∷ []) (λ m. refl) f.constants)
    (neat_append nothing (globals_parts f) _ (listed_neat any_front _ global_lead var_parts (λ m. refl) (λ v m q. var_neat m v.name.name v.range v.start) (λ rest. tt) tt (line ∷ global_lead) (λ m. refl) f.globals)
    (neat_append nothing (formulas_parts f) _ (listed_neat any_front _ [] formula_parts (λ m. refl) (λ x m q. refl) (λ rest. tt) tt (line ∷ []) (λ m. refl) f.formulas)
    (neat_append nothing (modules_parts f) _ (listed_neat any_front _ (line ∷ []) module_parts (λ m. refl) (λ x m q. module_neat m x) (λ rest. tt) tt (line ∷ []) (λ m. refl) f.modules)
    (neat_append nothing (labels_parts f) _ (listed_neat any_front _ [] label_parts (λ m. refl) (λ x m q. refl) (λ rest. tt) tt (line ∷ []) (λ m. refl) f.labels)
    (neat_append nothing (structures_parts f) _ (listed_neat any_front _ (line ∷ []) rewards_parts (λ m. refl) (λ x m q. title_neat m x.name x.items) (λ rest. tt) tt (line ∷ []) (λ m. refl) f.rewards)
    (init_neat f.init))))))

pub file_proper : (f : File) → IsPrintable f → IsProperTemplate (file_parts f)
file_proper f p =
    listed_proper IsPrintableConst [] const_parts _ tt (λ c q. const_proper c.ty c.name c.value q.0 q.1)
    (listed_proper IsPrintableVar global_lead var_parts _ tt var_all_proper
    (listed_proper IsPrintableFormula [] formula_parts _ tt (λ x q. (q.0, (q.1, tt)))
    (listed_proper IsPrintableModule (line ∷ []) module_parts _ tt module_proper
    (listed_proper IsPrintableLabel [] label_parts _ tt (λ x q. (q.0, (q.1, tt)))
    (listed_proper IsPrintableRewards (line ∷ []) rewards_parts _ tt (λ r q. title_proper r.name _ q.0 (items_proper r.items q.1))
    (init_proper f.init p.init)
    (line ∷ []) tt f.rewards p.rewards)
    (line ∷ []) tt f.labels p.labels)
    (line ∷ []) tt f.modules p.modules)
    (line ∷ []) tt f.formulas p.formulas)
    (line ∷ global_lead) tt f.globals p.globals)
    (line ∷ []) tt f.constants p.constants
