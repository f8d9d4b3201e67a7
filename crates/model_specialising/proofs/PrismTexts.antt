-- The canonical text of a PRISM file doesn't depend on the places that its tree keeps.
use Rattle.std.specs.Prelude.{◌≡◌, ℕ, List, [], ◌∷◌, ◌++◌, map, codes, Bool, true, false, Option, Some, None, if◌then◌else◌}
use Rattle.std.specs.Option.{option_map}
use Rattle.std.proofs.Common.{refl, sym, ap, ap₂, ◌∙◌}
use Rattle.bridge_io.specs.declared.reason.Named.{Named}
use Rattle.op_trees.specs.Names.{bare_name}
use Rattle.op_trees.specs.Tree.{bare, Truth, Number, Name, One, Two, Three}
use Rattle.prism_tree.specs.declared.syntax.ItemOn.{ItemOn}
use Rattle.prism_tree.specs.declared.syntax.ItemOn.TheVariants.{InState, Silent, Action}
use Rattle.prism_tree.specs.declared.syntax.NamePair.{NamePair}
use Rattle.prism_tree.specs.Syntax.{Expression, Const, Range, Var, Formula, Label, Write, Branch, Command, Body, Module, plain, copied, Item, Rewards, File}
use Rattle.prism_print.specs.Same.{bare_const, bare_range, bare_var, bare_formula, bare_label, bare_write, bare_branch, bare_command, bare_body, bare_pair, bare_module, bare_on, bare_item, bare_rewards, bare_file}
use Rattle.prism_print.specs.Text.{operator_text, is_function, is_node, enclosed, expression_text, behind, listed, const_text, range_text, var_text, formula_text, label_text, write_text, update_text, weight_text, branch_text, action_text, command_text, before_commands, body_text, pair_text, module_text, on_text, item_text, title_text, rewards_text, init_text, file_text, type_text}

-- ---- expressions
node-bare : (e : Expression) → is_node (bare e) ≡ is_node e
node-bare (Truth at b) = refl
node-bare (Number at d) = refl
node-bare (Name at x) = refl
node-bare (One at o a) = refl
node-bare (Two at o a b) = refl
node-bare (Three at o a b c) = refl

text-bare : (e : Expression) → expression_text (bare e) ≡ expression_text e
text-bare (Truth at true) = refl
text-bare (Truth at false) = refl
text-bare (Number at d) = refl
text-bare (Name at x) = refl
text-bare (One at o a) =
    ap₂ (λ (n : Bool) (t : List ℕ). if is_function o then operator_text o ++ enclosed true t else operator_text o ++ enclosed n t) (node-bare a) (text-bare a)
text-bare (Two at o a b) =
    ap₂ (λ (n : Bool) (t : List ℕ). if is_function o then operator_text o ++ enclosed true (t ++ (codes ", " ++ expression_text (bare b)))
    else enclosed n t ++ (codes " " ++ (operator_text o ++ (codes " " ++ enclosed (is_node (bare b)) (expression_text (bare b)))))) (node-bare a) (text-bare a)
    ∙ ap₂ (λ (n : Bool) (t : List ℕ). if is_function o then operator_text o ++ enclosed true (expression_text a ++ (codes ", " ++ t))
    else enclosed (is_node a) (expression_text a) ++ (codes " " ++ (operator_text o ++ (codes " " ++ enclosed n t)))) (node-bare b) (text-bare b)
text-bare (Three at o a b c) =
    ap₂ (λ (n : Bool) (t : List ℕ). enclosed n t ++ (codes " ? " ++ (enclosed (is_node (bare b)) (expression_text (bare b)) ++ (codes " : " ++ enclosed (is_node (bare c)) (expression_text (bare c))))))
    (node-bare a) (text-bare a)
    ∙ ap₂ (λ (n : Bool) (t : List ℕ). enclosed (is_node a) (expression_text a) ++ (codes " ? " ++ (enclosed n t ++ (codes " : " ++ enclosed (is_node (bare c)) (expression_text (bare c))))))
    (node-bare b) (text-bare b)
    ∙ ap₂ (λ (n : Bool) (t : List ℕ). enclosed (is_node a) (expression_text a) ++ (codes " ? " ++ (enclosed (is_node b) (expression_text b) ++ (codes " : " ++ enclosed n t))))
    (node-bare c) (text-bare c)

behind-bare : (before : List ℕ) (o : Option Expression) → behind before (option_map bare o) ≡ behind before o
behind-bare before None = refl
behind-bare before (Some e) = ap (λ t. before ++ t) (text-bare e)

-- ---- lists
listed-bare : {A : Type 0} (before between : List ℕ) (f : A → List ℕ) (b : A → A) → ((x : A) → f (b x) ≡ f x) → (xs : List A) → listed before between f (map b xs) ≡ listed before between f xs
listed-bare before between f b h [] = refl
listed-bare before between f b h (x ∷ xs) = ap₂ (λ t r. before ++ (t ++ r)) (h x) (listed-bare between between f b h xs)

-- ---- declarations
const-bare : (c : Const) → const_text (bare_const c) ≡ const_text c
const-bare c = ap (λ t. codes "const " ++ (type_text c.ty ++ (codes " " ++ (c.name.name ++ (t ++ codes ";\n"))))) (behind-bare (codes " = ") c.value)

range-bare : (r : Option Range) → range_text (option_map bare_range r) ≡ range_text r
range-bare None = refl
range-bare (Some r) = ap₂ (λ a b. codes "[" ++ (a ++ (codes ".." ++ (b ++ codes "]")))) (text-bare r.low) (text-bare r.high)

var-bare : (v : Var) → var_text (bare_var v) ≡ var_text v
var-bare v = ap₂ (λ r s. v.name.name ++ (codes " : " ++ (r ++ (s ++ codes ";\n")))) (range-bare v.range) (behind-bare (codes " init ") v.start)

formula-bare : (f : Formula) → formula_text (bare_formula f) ≡ formula_text f
formula-bare f = ap (λ t. codes "formula " ++ (f.name.name ++ (codes " = " ++ (t ++ codes ";\n")))) (text-bare f.body)

label-bare : (l : Label) → label_text (bare_label l) ≡ label_text l
label-bare l = ap (λ t. codes "label \"" ++ (l.name.name ++ (codes "\" = " ++ (t ++ codes ";\n")))) (text-bare l.body)

-- ---- commands
write-bare : (w : Write) → write_text (bare_write w) ≡ write_text w
write-bare w = ap (λ t. codes "(" ++ (w.name.name ++ (codes "'=" ++ (t ++ codes ")")))) (text-bare w.value)

update-bare : (ws : List Write) → update_text (map bare_write ws) ≡ update_text ws
update-bare [] = refl
update-bare (w ∷ ws) = listed-bare [] (codes " & ") write_text bare_write write-bare (w ∷ ws)

weight-bare : (o : Option Expression) → weight_text (option_map bare o) ≡ weight_text o
weight-bare None = refl
weight-bare (Some e) = ap (λ t. t ++ codes " : ") (text-bare e)

branch-bare : (b : Branch) → branch_text (bare_branch b) ≡ branch_text b
branch-bare b = ap₂ (λ w u. w ++ u) (weight-bare b.weight) (update-bare b.writes)

action-bare : (o : Option Named) → action_text (option_map bare_name o) ≡ action_text o
action-bare None = refl
action-bare (Some a) = refl

command-bare : (c : Command) → command_text (bare_command c) ≡ command_text c
command-bare c =
    ap₂ (λ a g. codes "[" ++ (a ++ (codes "] " ++ (g ++ (codes " -> " ++ (listed [] (codes " + ") branch_text (map bare_branch c.branches) ++ codes ";\n"))))))
    (action-bare c.action) (text-bare c.guard)
    ∙ ap (λ l. codes "[" ++ (action_text c.action ++ (codes "] " ++ (expression_text c.guard ++ (codes " -> " ++ (l ++ codes ";\n"))))))
    (listed-bare [] (codes " + ") branch_text bare_branch branch-bare c.branches)

-- ---- modules
before-bare : (vs : List Var) → before_commands (map bare_var vs) ≡ before_commands vs
before-bare [] = refl
before-bare (v ∷ vs) = refl

body-bare : (m : Body) → body_text (bare_body m) ≡ body_text m
body-bare m =
    ap₂ (λ v b. codes "module " ++ (m.name.name ++ (codes "\n" ++ (v ++ (listed b (codes "  ") command_text (map bare_command m.commands) ++ codes "endmodule\n")))))
    (listed-bare (codes "  ") (codes "  ") var_text bare_var var-bare m.vars) (before-bare m.vars)
    ∙ ap (λ c. codes "module " ++ (m.name.name ++ (codes "\n" ++ (listed (codes "  ") (codes "  ") var_text m.vars ++ (c ++ codes "endmodule\n")))))
    (listed-bare (before_commands m.vars) (codes "  ") command_text bare_command command-bare m.commands)

pair-bare : (p : NamePair) → pair_text (bare_pair p) ≡ pair_text p
pair-bare p = refl

module-bare : (m : Module) → module_text (bare_module m) ≡ module_text m
module-bare (plain m) = body-bare m
module-bare (copied m) =
    ap (λ l. codes "module " ++ (m.name.name ++ (codes " = " ++ (m.from.name ++ (codes " [" ++ (l ++ codes "] endmodule\n"))))))
    (listed-bare [] (codes ", ") pair_text bare_pair pair-bare m.pairs)

-- ---- rewards
on-bare : (o : ItemOn) → on_text (bare_on o) ≡ on_text o
on-bare InState = refl
on-bare Silent = refl
on-bare (Action a) = refl

item-bare : (i : Item) → item_text (bare_item i) ≡ item_text i
item-bare i =
    ap₂ (λ o g. o ++ (g ++ (codes " : " ++ (expression_text (bare i.value) ++ codes ";\n")))) (on-bare i.on) (text-bare i.guard)
    ∙ ap (λ v. on_text i.on ++ (expression_text i.guard ++ (codes " : " ++ (v ++ codes ";\n")))) (text-bare i.value)

title-bare : (o : Option Named) → title_text (option_map bare_name o) ≡ title_text o
title-bare None = refl
title-bare (Some x) = refl

rewards-bare : (r : Rewards) → rewards_text (bare_rewards r) ≡ rewards_text r
rewards-bare r =
    ap₂ (λ t l. codes "rewards" ++ (t ++ (codes "\n" ++ (l ++ codes "endrewards\n")))) (title-bare r.name)
    (listed-bare (codes "  ") (codes "  ") item_text bare_item item-bare r.items)

-- ---- files
init-bare : (o : Option Expression) → init_text (option_map bare o) ≡ init_text o
init-bare None = refl
init-bare (Some e) = ap (λ t. codes "\ninit " ++ (t ++ codes " endinit\n")) (text-bare e)

file-bare : (f : File) → file_text (bare_file f) ≡ file_text f
file-bare f =
    let init = init_text (option_map bare f.init) in
    ap₂ (λ c g. codes "mdp\n" ++ (c ++ (g ++ (listed (codes "\n") [] formula_text (map bare_formula f.formulas) ++ (listed (codes "\n") (codes "\n") module_text (map bare_module f.modules)
    ++ (listed (codes "\n") [] label_text (map bare_label f.labels) ++ (listed (codes "\n") (codes "\n") rewards_text (map bare_rewards f.rewards) ++ init)))))))
    (listed-bare (codes "\n") [] const_text bare_const const-bare f.constants) (listed-bare (codes "\nglobal ") (codes "global ") var_text bare_var var-bare f.globals)
    ∙ ap₂ (λ a m. codes "mdp\n" ++ (listed (codes "\n") [] const_text f.constants ++ (listed (codes "\nglobal ") (codes "global ") var_text f.globals ++ (a ++ (m
    ++ (listed (codes "\n") [] label_text (map bare_label f.labels) ++ (listed (codes "\n") (codes "\n") rewards_text (map bare_rewards f.rewards) ++ init)))))))
    (listed-bare (codes "\n") [] formula_text bare_formula formula-bare f.formulas) (listed-bare (codes "\n") (codes "\n") module_text bare_module module-bare f.modules)
    ∙ ap₂ (λ l r. codes "mdp\n" ++ (listed (codes "\n") [] const_text f.constants ++ (listed (codes "\nglobal ") (codes "global ") var_text f.globals
    ++ (listed (codes "\n") [] formula_text f.formulas ++ (listed (codes "\n") (codes "\n") module_text f.modules ++ (l ++ r))))))
    (listed-bare (codes "\n") [] label_text bare_label label-bare f.labels)
    (ap₂ (λ r i. r ++ i) (listed-bare (codes "\n") (codes "\n") rewards_text bare_rewards rewards-bare f.rewards) (init-bare f.init))

-- files that are the same but for places have one text
pub one_prism_text : (f g : File) → bare_file f ≡ bare_file g → file_text f ≡ file_text g
one_prism_text f g e = sym (file-bare f) ∙ ap file_text e ∙ file-bare g
