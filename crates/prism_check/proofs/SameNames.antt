-- What names stand for in a file without its places.
use Rattle.std.specs.Prelude.{◌≡◌, List, [], ◌∷◌, map, length, Option, Some, None, is_some, if◌then◌else◌}
use Rattle.std.specs.List.{find}
use Rattle.std.specs.Option.{option_map}
use Rattle.std.proofs.Common.{refl, ap, ap₂, ◌∙◌}
use Rattle.std.proofs.lemmas.List.{length-map}
use Rattle.std.proofs.Math.Path.{fun_ext}
use Rattle.basics.specs.Options.{is_some-map}
use Rattle.op_trees.specs.Seen.{looked_up}
use Rattle.op_trees.specs.Tree.{bare}
use Rattle.process_core.specs.Ready.{Name}
use Rattle.prism_tree.specs.declared.syntax.NamePair.{NamePair}
use Rattle.prism_tree.specs.Operators.{prism_meaning}
use Rattle.prism_tree.specs.Syntax.{Module, plain, copied, File}
use Rattle.op_trees.specs.Names.{bare_name, is_called}
use Rattle.prism_flat.specs.Same.{bare_formula, bare_var, bare_command, bare_pair, bare_module, bare_file}
use Rattle.prism_flat.specs.Names.{formula_body, is_formula, renaming, written_name, module_name, module_called, Part, copy_of, part_of, parts, reading, reading_in}
use Rattle.prism_flat.specs.FlatLaws.{found_after}
use Rattle.basics.specs.Mapped.{turned, some_turned}
use Rattle.prism_check.proofs.Trees.{looked_up-bare}

abbrev pub bare_part : Part → Part
bare_part p = record { rename = p.rename; vars = map bare_var p.vars; commands = map bare_command p.commands }

pub module_name-bare : (m : Module) → module_name (bare_module m) ≡ bare_name (module_name m)
module_name-bare (plain m) = refl
module_name-bare (copied m) = refl

pub renaming-bare : (ps : List NamePair) → renaming (map bare_pair ps) ≡ renaming ps
renaming-bare ps = fun_ext (each ps)
  where
    each : (ps : List NamePair) (x : Name) → renaming (map bare_pair ps) x ≡ renaming ps x
    each [] x = refl
    each (p ∷ ps) x = ap (λ r. if is_called x p.old then p.new.name else r) (each ps x)

module _ (file : File) where
  pub bodies-bare : formula_body (bare_file file) ≡ (λ x. option_map bare (formula_body file x))
  bodies-bare =
      fun_ext (λ x. ap (option_map (λ f. f.body)) (found_after _ _ bare_formula (λ f. refl) file.formulas)
      ∙ some_turned bare bare_formula (λ f. f.body) (λ f. f.body) (λ f. refl) (find (λ f. is_called x f.name) file.formulas))

  pub is_formula-bare : is_formula (bare_file file) ≡ is_formula file
  is_formula-bare = fun_ext (λ x. ap (λ b. is_some (b x)) bodies-bare ∙ is_some-map bare (formula_body file x))

  pub written_name-bare : (rename : Name → Name) → written_name (bare_file file) rename ≡ written_name file rename
  written_name-bare rename = ap (λ p x. if p x then x else rename x) is_formula-bare

  -- ---- modules
  pub called-bare : (x : Name) → module_called (bare_file file) x ≡ option_map bare_module (module_called file x)
  called-bare x =
      found_after _ _ bare_module (λ m. ap (is_called x) (module_name-bare m)) file.modules

  copy-bare : (rename : Name → Name) (o : Option Module) → copy_of rename (option_map bare_module o) ≡ bare_part (copy_of rename o)
  copy-bare rename None = refl
  copy-bare rename (Some (plain m)) = refl
  copy-bare rename (Some (copied m)) = refl

  pub part-bare : (m : Module) → part_of (bare_file file) (bare_module m) ≡ bare_part (part_of file m)
  part-bare (plain m) = refl
  part-bare (copied m) = ap₂ copy_of (renaming-bare m.pairs) (called-bare m.from.name) ∙ copy-bare (renaming m.pairs) (module_called file m.from.name)

  pub parts-bare : parts (bare_file file) ≡ map bare_part (parts file)
  parts-bare = turned bare_part bare_module _ _ part-bare file.modules

  -- ---- what names are seen as
  pub reading-bare : reading (bare_file file) ≡ reading file
  unfolding reading
  reading-bare =
      fun_ext (λ names. ap₂ (λ b n. looked_up prism_meaning b n names) bodies-bare (length-map file.formulas bare_formula)
      ∙ looked_up-bare prism_meaning (formula_body file) (length file.formulas) names)

  pub reading_in-bare : reading_in (bare_file file) ≡ reading_in file
  reading_in-bare = ap (λ read names rename. read (λ x. names (rename x))) reading-bare
