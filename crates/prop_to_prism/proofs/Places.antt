-- The places that the tree of a model keeps mean nothing to its properties: names are known, and have types, with them as without them.
use Rattle.std.specs.Prelude.{◌≡◌, ◌+◌, ◌++◌, map, length, Bool, not, ◌&&◌, ◌||◌, Option, Some, None, is_some, bytes_eq, if◌then◌else◌}
use Rattle.std.specs.List.{find, flat_map}
use Rattle.std.specs.Option.{option_map, option_or as or_other}
use Rattle.std.proofs.Common.{refl, sym, ap, ap₂, ◌∙◌}
use Rattle.std.proofs.lemmas.List.{length-map}
use Rattle.std.proofs.Math.Path.{fun_ext}
use Rattle.basics.specs.Mapped.{some_mapped, mapped, found_mapped, joined, turned, gathered}
use Rattle.bridge_io.specs.declared.reason.Named.{Named}
use Rattle.op_trees.specs.declared.tree.Ty.TheVariants as T
use Rattle.op_trees.specs.Tree.{bare}
use Rattle.op_trees.specs.Types.{Types, types_looked_up}
use Rattle.op_trees.specs.Names.{some_name, bare_name, is_called}
use Rattle.op_trees.specs.NameLaws.{some_name-bare}
use Rattle.name_rules.specs.Names.{is_among}
use Rattle.name_rules.proofs.Placeless.{among-bare}
use Rattle.name_table.specs.Asks.{called}
use Rattle.prism_tree.specs.Operators.{prism_meaning}
use Rattle.prism_tree.specs.Grammar.{unquoted}
use Rattle.prism_tree.specs.Syntax.{Expression, Module, plain, copied, File}
use Rattle.prism_names.specs.Names.{part_of, parts, formula_body}
use Rattle.prism_names.specs.Order.{whole}
use Rattle.prism_print.specs.Same.{bare_const, bare_var, bare_formula, bare_label, bare_copy, bare_module, bare_rewards, bare_file}
use Rattle.prism_check.specs.NameFaults.{renamed_var, module_vars, values, given_labels}
use Rattle.prism_check.specs.TypeFaults.{numbered_variables, variable_called, declared_types, types, is_variable, has_variable}
use Rattle.prism_check.proofs.Faults.{renamed_var-bare, var_type-bare, numbered_variables-bare}
use Rattle.prism_check.proofs.SameNames.{is_formula-bare, part-bare, parts-bare, bodies-bare}
use Rattle.prism_check.proofs.Flat.{whole-bare}
use Rattle.prism_check.proofs.Trees.{types-bare}
use Rattle.prop_grammar.specs.Grammar.{has_quotes}
use Rattle.prop_trees.specs.Trees.{Name}
use Rattle.prop_trees.specs.PrismFaults.{is_known, name_types, varies}

-- ---- names that are known
module _ (file : File) where
  module_vars-bare : (m : Module) → module_vars (bare_file file) (bare_module m) ≡ map bare_name (module_vars file m)
  module_vars-bare (plain m) = turned bare_name bare_var _ _ (λ x. refl) m.vars
  module_vars-bare (copied m) =
      ap (λ p. flat_map (renamed_var (bare_copy m)) p.vars) (part-bare file (copied m))
      ∙ gathered bare_name bare_var _ _ (renamed_var-bare m) (part_of file (copied m)).vars

  values-bare : values (bare_file file) ≡ map bare_name (values file)
  values-bare =
      joined bare_name _ _ _ _ (turned bare_name bare_const _ _ (λ c. refl) file.constants)
      (joined bare_name _ _ _ _ (turned bare_name bare_formula _ _ (λ f. refl) file.formulas)
      (joined bare_name _ _ _ _ (turned bare_name bare_var _ _ (λ x. refl) file.globals)
      (gathered bare_name bare_module _ _ module_vars-bare file.modules)))

  value_known-bare : is_among (values (bare_file file)) ≡ is_among (values file)
  value_known-bare = among-bare (values (bare_file file)) (values file) values-bare

  label_known-bare : is_among (given_labels ++ map (λ l. l.name) (map bare_label file.labels)) ≡ is_among (given_labels ++ map (λ l. l.name) file.labels)
  label_known-bare =
      among-bare (given_labels ++ map (λ l. l.name) (map bare_label file.labels)) (given_labels ++ map (λ l. l.name) file.labels)
      (joined bare_name given_labels _ given_labels _ refl (turned bare_name bare_label (λ l. l.name) (λ l. l.name) (λ l. refl) file.labels))

  known-bare : is_known (bare_file file) ≡ is_known file
  known-bare = ap₂ {C = Name → Bool} (λ (label value : Name → Bool) x. if has_quotes x then label (unquoted x) else value x) label_known-bare value_known-bare

  -- ---- types
  variable_called-bare : variable_called (bare_file file) ≡ variable_called file
  variable_called-bare =
      ap (λ vs x. find (λ v. bytes_eq v.name x) vs)
      (ap₂ (λ a b. a ++ b) (mapped bare_var _ _ (λ x. ap (λ t. record { owner = None; name = x.name.name; ty = t }) (var_type-bare x)) file.globals)
      (ap (numbered_variables 0) (parts-bare file) ∙ numbered_variables-bare 0 (parts file)))

  declared-bare : declared_types (bare_file file) ≡ declared_types file
  declared-bare =
      fun_ext (λ x. ap₂ or_other
      (ap (option_map (λ c. c.ty)) (found_mapped bare_const _ _ (λ c. refl) file.constants)
      ∙ some_mapped bare_const _ (λ c. c.ty) (λ c. refl) (find (λ c. is_called x c.name) file.constants))
      (ap (λ found. option_map (λ v. v.ty) (found x)) variable_called-bare))

  value_types-bare : types (bare_file file) ≡ types file
  value_types-bare =
      ap₂ (λ b n. types_looked_up prism_meaning b n (declared_types (bare_file file))) (bodies-bare file) (length-map file.formulas bare_formula)
      ∙ types-bare prism_meaning (formula_body file) (length file.formulas) (declared_types (bare_file file))
      ∙ ap (types_looked_up prism_meaning (formula_body file) (length file.formulas)) declared-bare

  name_types-bare : name_types (bare_file file) ≡ name_types file
  name_types-bare = ap {B = Types} (λ (ty : Types) x. if has_quotes x then Some T.Bool else ty x) value_types-bare

  -- ---- names that vary
  is_variable-bare : is_variable (bare_file file) ≡ is_variable file
  is_variable-bare = ap₂ {C = Name → Bool} (λ formula found x. not (formula x) && is_some (found x)) (is_formula-bare file) variable_called-bare

  has_variable-bare : (e : Expression) → has_variable (bare_file file) (bare e) ≡ has_variable file e
  has_variable-bare e =
      ap (some_name (is_variable (bare_file file))) (whole-bare file e)
      ∙ some_name-bare (is_variable (bare_file file)) (whole file e)
      ∙ ap (λ p. some_name p (whole file e)) is_variable-bare

  varies-bare : (e : Expression) → varies (bare_file file) (bare e) ≡ varies file e
  varies-bare e = ap₂ (λ a b. a || b) (some_name-bare has_quotes e) (has_variable-bare e)

-- the name of a reward structure
called-bare : (o : Option Named) → called (option_map bare_name o) ≡ called o
called-bare None = refl
called-bare (Some n) = refl

-- ---- two trees that are the same but for places
module _ (f g : File) (same : bare_file f ≡ bare_file g) where
  pub known_alike : is_known f ≡ is_known g
  known_alike = sym (known-bare f) ∙ ap is_known same ∙ known-bare g

  pub types_alike : name_types f ≡ name_types g
  types_alike = sym (name_types-bare f) ∙ ap name_types same ∙ name_types-bare g

  -- of expressions too
  pub varies_alike : (e u : Expression) → bare e ≡ bare u → varies f e ≡ varies g u
  varies_alike e u h = sym (varies-bare f e) ∙ ap₂ varies same h ∙ varies-bare g u

  pub structures_alike : map (λ r. called r.name) f.rewards ≡ map (λ r. called r.name) g.rewards
  structures_alike =
      sym (mapped bare_rewards (λ r. called r.name) (λ r. called r.name) (λ r. called-bare r.name) f.rewards)
      ∙ ap (λ (h : File). map (λ r. called r.name) h.rewards) same
      ∙ mapped bare_rewards (λ r. called r.name) (λ r. called r.name) (λ r. called-bare r.name) g.rewards
