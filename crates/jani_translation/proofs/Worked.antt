-- Worked cases, computed from the definitions: each equation holds by computing both sides. A PRISM file and what becomes of
-- it, whole or in part, stand as their trees.
use Rattle.std.specs.Prelude.{◌≡◌, ℕ, List, [], ◌∷◌, map, true, false, Option, Some, None, codes}
use Rattle.std.proofs.Common.{refl}
use Rattle.bridge_io.specs.declared.reason.Named.{Named}
use Rattle.op_trees.specs.declared.tree.Ty.TheVariants as T
use Rattle.op_trees.specs.Tree.{Truth, Number, Name, One, Two}
use Rattle.prism_tree.specs.declared.operator.PrismOp.TheVariants as P
use Rattle.prism_tree.specs.declared.syntax.ItemOn.TheVariants as On
use Rattle.prism_tree.specs.Syntax as prism
use Rattle.jani_table.specs.Node.{array, no_nodes}
use Rattle.prism_images.specs.Image.{nought_literal}
use Rattle.jani_table.specs.declared.operator.JaniOp.TheVariants as J
use Rattle.jani_tree.specs.Syntax as jani
use Rattle.jani_tree.specs.Syntax.{boolean, element_names, plain_element}
use Rattle.frac_core.specs.Text.{digits}
use Rattle.prism_names.specs.Flat.{flat}
use Rattle.jani_translation.specs.Translated.{translated}
use Rattle.jani_translation.proofs.Sources as p
use Rattle.jani_translation.proofs.Targets as j

-- ---- names of the cases
abbrev M : List ℕ
M = codes "M"

abbrev K : List ℕ
K = codes "K"

abbrev L : List ℕ
L = codes "L"

abbrev x : List ℕ
x = codes "x"

abbrev y : List ℕ
y = codes "y"

abbrev b : List ℕ
b = codes "b"

abbrev a : List ℕ
a = codes "a"

abbrev r : List ℕ
r = codes "r"

-- the action a, and commands without action
abbrev with_a : Option Named
with_a = Some (p.at a)

-- ---- one module, whole: all names are kept
abbrev steps : prism.File
steps =
    p.file [] []
    (p.module_of M (p.var x (p.from_to 0 2) (Some (p.int 0)) ∷ [])
    (p.sure None (p.is x 0) (p.write x (p.int 1) ∷ []) ∷ p.sure None (p.is x 1) (p.write x (p.int 2) ∷ []) ∷ [])
    ∷ [])
    [] []

steps_file : translated steps
    ≡ j.file [] []
    (j.var x (j.from_to 0 2) (j.int 0) None ∷ [])
    (j.automaton M []
    (j.sure None (Some (j.is x 0)) (j.write x (j.int 1) ∷ []) ∷ j.sure None (Some (j.is x 1)) (j.write x (j.int 2) ∷ []) ∷ [])
    ∷ [])
    (j.at M ∷ []) []
unfolding digits
steps_file = refl

-- ---- a command with probabilities, and a branch that writes nothing
abbrev coin : prism.File
coin =
    p.file [] []
    (p.module_of M (p.var x (p.from_to 0 1) (Some (p.int 0)) ∷ [])
    (p.command None (p.is x 0)
    (p.branch (Some (p.two P.Div (p.int 1) (p.int 2))) (p.write x (p.int 1) ∷ []) ∷ p.branch (Some (p.two P.Div (p.int 1) (p.int 2))) [] ∷ [])
    ∷ [])
    ∷ [])
    [] []

coin_edges : map (λ m. m.edges) (translated coin).automata
    ≡ (j.edge None (Some (j.is x 0))
    (j.goes (Some (j.two J.Div (j.int 1) (j.int 2))) (j.write x (j.int 1) ∷ []) ∷ j.goes (Some (j.two J.Div (j.int 1) (j.int 2))) [] ∷ [])
    ∷ []) ∷ []
unfolding digits
coin_edges = refl

-- ---- a formula and a copy of a module, first written out: the copy changes the names that the formula stands for
abbrev copied_module : prism.File
copied_module = record {
  constants = [];
  globals = [];
  formulas = record { name = p.at (codes "f"); body = p.two P.Add (p.ref x) (p.ref y) } ∷ [];
  modules =
      p.module_of M (p.var x (p.from_to 0 3) (Some (p.int 1)) ∷ [])
      (p.sure None (p.two P.Less (p.ref (codes "f")) (p.int 3)) (p.write x (p.two P.Add (p.ref x) (p.int 1)) ∷ []) ∷ [])
      ∷ p.copy_of K M x y ∷ [];
  labels = [];
  rewards = [];
  init = None;
  end = 0;
}

copied_module_automata : (translated (flat copied_module)).automata
    ≡ j.automaton M []
    (j.sure None (Some (j.two J.Less (j.two J.Add (j.ref x) (j.ref y)) (j.int 3))) (j.write x (j.two J.Add (j.ref x) (j.int 1)) ∷ []) ∷ [])
    ∷ j.automaton K []
    (j.sure None (Some (j.two J.Less (j.two J.Add (j.ref y) (j.ref x)) (j.int 3))) (j.write y (j.two J.Add (j.ref y) (j.int 1)) ∷ []) ∷ [])
    ∷ []
unfolding digits
copied_module_automata = refl

-- ---- the first value is that of `init`, else the low bound, else false
abbrev first_values : prism.File
first_values =
    p.file (p.const L T.Int (Some (p.int 2)) ∷ [])
    (p.var a (p.from_to 0 1) (Some (p.int 1)) ∷ [])
    (p.module_of M
    (p.var x (p.from_to 2 5) None ∷ p.var y (p.range (p.ref L) (p.int 5)) None ∷ p.var b None None ∷ p.var r None (Some (p.truth true)) ∷ [])
    [] ∷ [])
    [] []

first_values_variables : (translated first_values).variables
    ≡ j.var a (j.from_to 0 1) (j.int 1) None
    ∷ j.var x (j.from_to 2 5) (j.int 2) None
    ∷ j.var y (jani.bounded (j.ref L) (j.int 5)) (j.ref L) None
    ∷ j.var b boolean (j.truth false) None
    ∷ j.var r boolean (j.truth true) None
    ∷ []
unfolding digits
first_values_variables = refl

-- ---- a constant keeps its type, and needs no value
abbrev parameter : prism.File
parameter =
    p.file (p.const (codes "p") T.Real None ∷ p.const K T.Int (Some (p.two P.Add (p.ref L) (p.int 1))) ∷ p.const L T.Int (Some (p.int 2)) ∷ [])
    [] (p.module_of M [] [] ∷ []) [] []

parameter_constants : (translated parameter).constants
    ≡ j.const (codes "p") T.Real None None
    ∷ j.const K T.Int (Some (j.two J.Add (j.ref L) (j.int 1))) None
    ∷ j.const L T.Int (Some (j.int 2)) None
    ∷ []
unfolding digits
parameter_constants = refl

-- ---- in JANI a label has its name among the variables: this one is made, with a comment
abbrev label_like_a_variable : prism.File
label_like_a_variable =
    p.file [] [] (p.module_of M (p.var x (p.from_to 0 1) (Some (p.int 0)) ∷ []) [] ∷ []) (p.label x (p.is x 1) ∷ p.label y (p.is x 0) ∷ []) []

label_like_a_variable_variables : (translated label_like_a_variable).variables
    ≡ j.var x (j.from_to 0 1) (j.int 0) None ∷ j.label (codes "zz_l_0") (Some (codes "label:x")) ∷ j.label y None ∷ []
unfolding digits
label_like_a_variable_variables = refl

-- the location gives each label its expression
label_like_a_variable_automata : (translated label_like_a_variable).automata
    ≡ j.automaton M (j.write (codes "zz_l_0") (j.is x 1) ∷ j.write y (j.is x 0) ∷ []) [] ∷ []
unfolding digits
label_like_a_variable_automata = refl

-- ---- names that begin with zz_ are made anew, wherever they stand
abbrev made_anew : prism.File
made_anew =
    p.file (p.const (codes "zz_k") T.Int (Some (p.int 1)) ∷ [])
    []
    (p.module_of (codes "zz_m") (p.var x (p.from_to 0 2) None ∷ p.var (codes "zz_") (p.range (p.int 0) (p.ref (codes "zz_k"))) None ∷ [])
    (p.sure (Some (p.at (codes "zz_silent"))) (p.two P.Less (p.ref (codes "zz_")) (p.ref (codes "zz_k")))
    (p.write (codes "zz_") (p.two P.Add (p.ref (codes "zz_")) (p.ref (codes "zz_k"))) ∷ []) ∷ [])
    ∷ p.module_of M [] [] ∷ [])
    [] []

made_anew_file : translated made_anew
    ≡ j.file (j.at (codes "zz_a_0") ∷ [])
    (j.const (codes "zz_c_0") T.Int (Some (j.int 1)) (Some (codes "constant:zz_k")) ∷ [])
    (j.var x (j.from_to 0 2) (j.int 0) None
    ∷ j.var (codes "zz_v_1") (jani.bounded (j.int 0) (j.ref (codes "zz_c_0"))) (j.int 0) (Some (codes "variable:zz_"))
    ∷ [])
    (j.automaton (codes "zz_m_0") []
    (j.sure (Some (j.at (codes "zz_a_0"))) (Some (j.two J.Less (j.ref (codes "zz_v_1")) (j.ref (codes "zz_c_0"))))
    (j.write (codes "zz_v_1") (j.two J.Add (j.ref (codes "zz_v_1")) (j.ref (codes "zz_c_0"))) ∷ []) ∷ [])
    ∷ j.automaton M [] [] ∷ [])
    (j.at (codes "zz_m_0") ∷ j.at M ∷ [])
    (j.vector (Some (j.at (codes "zz_a_0")) ∷ None ∷ []) (Some (j.at (codes "zz_a_0"))) ∷ [])
unfolding digits
made_anew_file = refl

-- ---- rewards: of states, of an action, and of commands without action; the second structure has no name
abbrev earning : prism.File
earning =
    p.file [] []
    (p.module_of M (p.var x (p.from_to 0 1) (Some (p.int 0)) ∷ [])
    (p.sure with_a (p.is x 0) (p.write x (p.int 1) ∷ []) ∷ p.sure None (p.is x 1) (p.write x (p.int 0) ∷ []) ∷ [])
    ∷ [])
    []
    (p.rewards r (p.in_state (p.is x 0) (p.int 2) ∷ p.on a (p.is x 0) (p.int 3) ∷ p.silent (p.truth true) (p.two P.Div (p.int 1) (p.int 2)) ∷ [])
    ∷ p.nameless (p.on a (p.truth true) (p.int 5) ∷ [])
    ∷ [])

abbrev silent_action : Named
silent_action = j.at (codes "zz_silent")

earning_file : translated earning
    ≡ j.file (j.at a ∷ silent_action ∷ []) []
    (j.var x (j.from_to 0 1) (j.int 0) None ∷ j.structure r None ∷ j.structure (codes "zz_r_1") (Some (codes "reward:")) ∷ [])
    (j.automaton M (j.write r (j.ite (j.is x 0) (j.int 2) (j.int 0)) ∷ [])
    (j.sure with_a (Some (j.is x 0)) (j.write x (j.int 1) ∷ []) ∷ j.sure (Some silent_action) (Some (j.is x 1)) (j.write x (j.int 0) ∷ []) ∷ [])
    ∷ j.automaton (codes "zz_monitor") []
    (j.sure with_a None
    (j.write r (j.ite (j.is x 0) (j.int 3) (j.int 0)) ∷ j.write (codes "zz_r_1") (j.ite (j.truth true) (j.int 5) (j.int 0)) ∷ [])
    ∷ j.sure (Some silent_action) None (j.write r (j.ite (j.truth true) (j.two J.Div (j.int 1) (j.int 2)) (j.int 0)) ∷ [])
    ∷ [])
    ∷ [])
    (j.at M ∷ j.at (codes "zz_monitor") ∷ [])
    (j.vector (with_a ∷ with_a ∷ []) with_a ∷ j.vector (Some silent_action ∷ Some silent_action ∷ []) None ∷ [])
unfolding digits
earning_file = refl

-- ---- two modules and one action of both, with items
abbrev done : Named
done = p.at (codes "done")

abbrev two_processes : prism.File
two_processes =
    p.file (p.const K T.Int (Some (p.int 2)) ∷ [])
    []
    (p.module_of x (p.var a (p.from_to 0 2) None ∷ []) (p.sure None (p.is a 0) [] ∷ p.sure (Some done) (p.two P.Equal (p.ref a) (p.ref K)) [] ∷ [])
    ∷ p.module_of y (p.var b (p.from_to 0 2) None ∷ []) (p.sure None (p.is b 0) [] ∷ p.sure (Some done) (p.two P.Equal (p.ref b) (p.ref K)) [] ∷ [])
    ∷ [])
    (p.label (codes "mutex") (p.is a 1) ∷ [])
    (p.rewards (codes "work") (p.in_state (p.is a 2) (p.int 1) ∷ []) ∷ p.rewards (codes "rounds") (p.on (codes "done") (p.truth true) (p.int 1) ∷ []) ∷ [])

two_processes_elements : (element_names (translated two_processes)) ≡ j.at x ∷ j.at y ∷ j.at (codes "zz_monitor") ∷ []
unfolding digits
two_processes_elements = refl

two_processes_vectors : (translated two_processes).vectors ≡ j.vector (Some done ∷ Some done ∷ Some done ∷ []) (Some done) ∷ []
unfolding digits
two_processes_vectors = refl

-- commands without action stay such, since no item is for them; the first automaton's location alone gives values
two_processes_automata : (translated two_processes).automata
    ≡ j.automaton x (j.write (codes "mutex") (j.is a 1) ∷ j.write (codes "work") (j.ite (j.is a 2) (j.int 1) (j.int 0)) ∷ [])
    (j.sure None (Some (j.is a 0)) [] ∷ j.sure (Some done) (Some (j.two J.Equal (j.ref a) (j.ref K))) [] ∷ [])
    ∷ j.automaton y [] (j.sure None (Some (j.is b 0)) [] ∷ j.sure (Some done) (Some (j.two J.Equal (j.ref b) (j.ref K))) [] ∷ [])
    ∷ j.automaton (codes "zz_monitor") [] (j.sure (Some done) None (j.write (codes "rounds") (j.ite (j.truth true) (j.int 1) (j.int 0)) ∷ []) ∷ [])
    ∷ []
unfolding digits
two_processes_automata = refl

-- ---- three modules: the second has no command without action, and a is the first's alone
abbrev idle_one : prism.File
idle_one =
    p.file [] []
    (p.module_of x [] (p.sure (Some done) (p.truth true) [] ∷ p.sure with_a (p.truth true) [] ∷ p.sure None (p.truth true) [] ∷ [])
    ∷ p.module_of y [] (p.sure (Some done) (p.truth true) [] ∷ [])
    ∷ p.module_of b [] (p.sure None (p.truth false) [] ∷ [])
    ∷ [])
    []
    (p.rewards r (p.silent (p.truth true) (p.int 1) ∷ p.on (codes "done") (p.truth true) (p.int 2) ∷ []) ∷ [])

-- a has no items, so the monitor takes no part in it; each module without action takes part alone with the monitor
idle_one_vectors : (translated idle_one).vectors
    ≡ j.vector (Some done ∷ Some done ∷ None ∷ Some done ∷ []) (Some done)
    ∷ j.vector (with_a ∷ None ∷ None ∷ None ∷ []) with_a
    ∷ j.vector (Some silent_action ∷ None ∷ None ∷ Some silent_action ∷ []) None
    ∷ j.vector (None ∷ None ∷ Some silent_action ∷ Some silent_action ∷ []) None
    ∷ []
unfolding digits
idle_one_vectors = refl

idle_one_actions : (translated idle_one).actions ≡ done ∷ j.at a ∷ silent_action ∷ []
unfolding digits
idle_one_actions = refl

-- ---- items for an action that no command has, and for commands without action where there is none, give nothing
abbrev vain : prism.File
vain =
    p.file [] [] (p.module_of M [] (p.sure (Some done) (p.truth true) [] ∷ []) ∷ []) []
    (p.rewards r (p.on a (p.truth true) (p.int 1) ∷ p.silent (p.truth true) (p.int 2) ∷ []) ∷ [])

vain_file : translated vain
    ≡ j.file (done ∷ []) [] (j.structure r None ∷ []) (j.automaton M [] (j.sure (Some done) (Some (j.truth true)) [] ∷ []) ∷ []) (j.at M ∷ [])
    (j.vector (Some done ∷ []) (Some done) ∷ [])
unfolding digits
vain_file = refl

-- ---- sums go from the left
abbrev three_items : prism.File
three_items =
    p.file [] [] (p.module_of M [] [] ∷ []) []
    (p.rewards r (p.in_state (p.truth true) (p.int 1) ∷ p.in_state (p.truth false) (p.int 2) ∷ p.in_state (p.truth true) (p.int 3) ∷ []) ∷ [])

three_items_values : map (λ m. map (λ l. l.values) m.locations) (translated three_items).automata
    ≡ ((j.write r
    (j.two J.Add
    (j.two J.Add (j.ite (j.truth true) (j.int 1) (j.int 0)) (j.ite (j.truth false) (j.int 2) (j.int 0)))
    (j.ite (j.truth true) (j.int 3) (j.int 0))) ∷ [])
    ∷ [])
    ∷ []
unfolding digits
three_items_values = refl

-- ---- operators
abbrev guarded : prism.Expression → prism.File
guarded g = p.file [] [] (p.module_of M (p.var x (p.from_to 0 3) None ∷ p.var b None None ∷ []) (p.sure None g [] ∷ []) ∷ []) [] []

abbrev guards_of : jani.File → List (List (Option jani.Expression))
guards_of f = map (λ m. map (λ e. e.guard) m.edges) f.automata

abbrev only : jani.Expression → List (List (Option jani.Expression))
only e = (Some e ∷ []) ∷ []

minus : guards_of (translated (guarded (p.two P.Equal (p.one P.Neg (p.ref x)) (p.int 0)))) ≡ only (j.two J.Equal (j.two J.Sub (j.int 0) (j.ref x)) (j.int 0))
unfolding digits
minus = refl

iff : guards_of (translated (guarded (p.two P.Iff (p.ref b) (p.truth true)))) ≡ only (j.two J.Equal (j.ref b) (j.truth true))
unfolding digits
iff = refl

remainder : guards_of (translated (guarded (p.two P.Equal (p.two P.Mod (p.ref x) (p.int 2)) (p.int 0))))
    ≡ only (j.two J.Equal (j.two J.Rem (j.ref x) (j.int 2)) (j.int 0))
unfolding digits
remainder = refl

conditional : guards_of (translated (guarded (p.two P.Equal (p.three P.Ite (p.ref b) (p.ref x) (p.int 1)) (p.int 0))))
    ≡ only (j.two J.Equal (j.ite (j.ref b) (j.ref x) (j.int 1)) (j.int 0))
unfolding digits
conditional = refl

-- ---- what is translated keeps its offset, and what is made has the offset 0
abbrev put : List ℕ → ℕ → Named
put n place = record { name = n; at = place }

abbrev placed : prism.File
placed =
    p.file (record { name = put K 14; ty = T.Int; value = Some (Name 18 L) } ∷ p.const L T.Int None ∷ [])
    []
    (prism.plain (record {
      name = put M 30;
      vars = record { name = put x 40; range = Some (record { low = Name 43 L; high = Name 46 K }); start = None } ∷ [];
      commands =
          p.command (Some (put a 50)) (One 53 P.Neg (Name 54 x)) (p.branch None (record { name = put x 60; value = Name 63 K } ∷ []) ∷ []) ∷ [];
    }) ∷ [])
    (record { name = put y 70; body = Truth 73 true } ∷ [])
    (record {
      name = Some (put r 80);
      items =
          record { on = On.InState; guard = Truth 83 true; value = Name 86 K } ∷ record { on = On.Action (put a 90); guard = Truth 93 false; value = Name 96 L } ∷ [];
    } ∷ [])

placed_file : translated placed
    ≡ record {
      actions = j.at a ∷ [];
      constants =
          record { name = put K 14; ty = T.Int; value = Some (Name 18 L); note = None } ∷ j.const L T.Int None None ∷ [];
      variables =
          record { name = put x 40; kind = jani.bounded (Name 43 L) (Name 46 K); kind_at = 0; transient = false; start = Some (Name 43 L); note = None }
          ∷ record { name = put y 70; kind = boolean; kind_at = 0; transient = true; start = Some (Truth 0 false); note = None }
          ∷ record { name = put r 80; kind = jani.number; kind_at = 0; transient = true; start = Some (j.int 0); note = None }
          ∷ [];
      restrict = None;
      automata =
          record {
            name = put M 30;
            variables = [];
            locations =
                record {
                  name = j.loc;
                  values = record { target = put y 70; value = Truth 73 true } ∷ record { target = put r 80; value = j.ite (Truth 83 true) (Name 86 K) (j.int 0) } ∷ [];
                } ∷ [];
            initial = j.loc ∷ [];
            edges =
                j.edge (Some (put a 50)) (Some (Two 53 J.Sub (Number 53 nought_literal) (Name 54 x)))
                (j.goes None (record { target = put x 60; value = Name 63 K } ∷ []) ∷ []) ∷ [];
          }
          ∷ j.automaton (codes "zz_monitor") []
          (j.sure with_a None (record { target = put r 80; value = j.ite (Truth 93 false) (Name 96 L) (j.int 0) } ∷ []) ∷ [])
          ∷ [];
      elements = plain_element (put M 30) ∷ plain_element (j.at (codes "zz_monitor")) ∷ [];
      elements_at = 0;
      vectors = j.vector (with_a ∷ with_a ∷ []) with_a ∷ [];
      properties = array 0 no_nodes;
    }
unfolding digits
placed_file = refl
