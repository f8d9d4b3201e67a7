-- Files of the same parts are the same.
use Rattle.std.specs.Prelude.{◌≡◌, List, ◌++◌, map, Bool, Option}
use Rattle.std.specs.List.{zip}
use Rattle.std.proofs.Common.{◌∙◌, ap}
use Rattle.bridge_io.specs.declared.reason.Named.{Named}
use Rattle.jani_tree.specs.Syntax.{Const, Expression, Var, Automaton, Vector, File}
use Rattle.prism_tree.specs.Syntax as prism
use Rattle.prism_flat.specs.Scene.{has_condition}
use Rattle.name_table.specs.Asks.{NewNames, variables}
use Rattle.jani_automata.specs.Parts.{constant, restriction, variable, label, structure}
use Rattle.jani_automata.specs.Automata.{automata}
use Rattle.jani_automata.specs.Translated.{jani_actions, vectors, global_variables, translated_by}
use Rattle.prism_to_jani.specs.Filed.{filed}

pub same_filed : (ns bs : List Named) (cs ds : List Const) (vs ws : List Var) (o p : Option Expression) (us ts : List Automaton) (xs ys : List Vector) →
    ns ≡ bs → cs ≡ ds → vs ≡ ws → o ≡ p → us ≡ ts → xs ≡ ys → filed ns cs vs o us xs ≡ filed bs ds ws p ts ys
same_filed ns bs cs ds vs ws o p us ts xs ys a c v r u x =
    ap (λ k. filed k cs vs o us xs) a ∙ ap (λ k. filed bs k vs o us xs) c ∙ ap (λ k. filed bs ds k o us xs) v ∙ ap (λ k. filed bs ds ws k us xs) r ∙ ap (λ k. filed bs ds ws p k xs) u ∙ ap (λ k. filed bs ds ws p ts k) x

module _ (n : NewNames) where
  -- constants under new names
  abbrev pub constants_by : List prism.Const → List Const
  constants_by cs = map (λ p. constant n.value p.0 p.1) (zip cs n.constants)

  -- variables, labels and reward structures under new names
  abbrev pub variables_by : Bool → List prism.Var → List prism.Label → List prism.Rewards → List Var
  variables_by b vs ls rs =
      map (λ p. variable n.value b p.0 p.1) (zip vs n.variables)
      ++ (map (λ p. label p.0 p.1) (zip ls n.labels) ++ map (λ p. structure p.0 p.1) (zip rs n.rewards))

  pub same_variables : (b : Bool) (vs ws : List prism.Var) (ls ks : List prism.Label) (rs ts : List prism.Rewards) →
      vs ≡ ws → ls ≡ ks → rs ≡ ts → variables_by b vs ls rs ≡ variables_by b ws ks ts
  same_variables b vs ws ls ks rs ts v l r =
      ap (λ k. variables_by b k ls rs) v ∙ ap (λ k. variables_by b ws k rs) l ∙ ap (λ k. variables_by b ws ks k) r

  -- a file of the parts of the translation is the translation
  pub of_parts : (f : prism.File) (r : File) (ns : List Named) (cs : List Const) (vs : List Var) (o : Option Expression) (us : List Automaton) (xs : List Vector) →
      r ≡ filed ns cs vs o us xs → ns ≡ jani_actions n f → cs ≡ constants_by f.constants → vs ≡ variables_by (has_condition f) (variables f) f.labels f.rewards →
      o ≡ restriction n.value f.init → us ≡ automata n f → xs ≡ vectors n f → r ≡ translated_by n f
  of_parts f r ns cs vs o us xs e a c v q u x =
      e ∙ same_filed ns (jani_actions n f) cs (constants_by f.constants) vs (global_variables n f) o (restriction n.value f.init) us (automata n f) xs (vectors n f) a c v q u x
