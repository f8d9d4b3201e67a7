-- A file that is written out: its names are read as they are given, and its columns, parts and states are those of its bodies.
use Rattle.std.specs.Prelude.{◌≡◌, List, [], ◌∷◌, ◌++◌, map, length, Bool, true}
use Rattle.std.specs.List.{flat_map, list_all}
use Rattle.std.proofs.Common.{refl, sym, ap, ap₂, ◌∙◌}
use Rattle.std.proofs.lemmas.List.{map-append}
use Rattle.basics.specs.Booleans.{first_true, second_true}
use Rattle.op_trees.specs.Seen.{Seen, looked_up}
use Rattle.process_core.specs.Product.{map-flat_map}
use Rattle.process_core.specs.Ready.{Name}
use Rattle.prism_tree.specs.Operators.{prism_meaning}
use Rattle.prism_tree.specs.Syntax as prism
use Rattle.prism_tree.specs.Syntax.{Module, Body, plain, copied}
use Rattle.prism_names.specs.Names.{unchanged, formula_body, Part, part_of, reading}
use Rattle.process_core.specs.Instance.{Valuation}
use Rattle.prism_flat.specs.Kept.{is_plain}
use Rattle.prism_flat.specs.Scene as prism_scene
use Rattle.prism_flat.specs.Scene.{has_condition}
use Rattle.name_table.specs.Asks.{contents, bodies, variables}

-- without formulas a name is seen as it is given
pub given_reading : (file : prism.File) (given : Name → Seen) → file.formulas ≡ [] → reading file given ≡ given
unfolding reading
given_reading file given e = ap (λ n. looked_up prism_meaning (formula_body file) n given) (ap length e)

-- a module without its name is read as it stands
abbrev pub body_part : Body → Part
body_part m = record { rename = unchanged; vars = m.vars; commands = m.commands }

module _ (file : prism.File) where
  written_part : (m : Module) → is_plain m ≡ true → part_of file m ≡ body_part (contents m)
  written_part (plain m) h = refl
  written_part (copied m) h = absurd cc

  parts_of : (ms : List Module) → list_all is_plain ms ≡ true → map (part_of file) ms ≡ map body_part (map contents ms)
  parts_of [] h = refl
  parts_of (m ∷ ms) h = ap₂ (λ p r. p ∷ r) (written_part m (first_true (is_plain m) (list_all is_plain ms) h)) (parts_of ms (second_true (is_plain m) (list_all is_plain ms) h))

  pub written_parts : list_all is_plain file.modules ≡ true → map (part_of file) file.modules ≡ map body_part (bodies file)
  written_parts h = parts_of file.modules h

  columns_of_bodies : (any : Bool) (v : Valuation) (ms : List Body) →
      flat_map (prism_scene.part_columns file any v) (map body_part ms) ≡ flat_map (λ m. map (prism_scene.column any unchanged (prism_scene.constant_names file v unchanged)) m.vars) ms
  columns_of_bodies any v [] = refl
  columns_of_bodies any v (m ∷ ms) = ap (λ r. map (prism_scene.column any unchanged (prism_scene.constant_names file v unchanged)) m.vars ++ r) (columns_of_bodies any v ms)

  pub variable_columns : (v : Valuation) → list_all is_plain file.modules ≡ true →
      prism_scene.columns_of file v ≡ map (prism_scene.column (has_condition file) unchanged (prism_scene.constant_names file v unchanged)) (variables file)
  variable_columns v h =
      let any = has_condition file in
      let col = prism_scene.column any unchanged (prism_scene.constant_names file v unchanged) in
      ap (λ ps. map col file.globals ++ flat_map (prism_scene.part_columns file any v) ps) (written_parts h)
      ∙ ap (λ r. map col file.globals ++ r) (columns_of_bodies any v (bodies file) ∙ sym (map-flat_map col (λ m. m.vars) (bodies file)))
      ∙ sym (map-append col file.globals (flat_map (λ m. m.vars) (bodies file)))
