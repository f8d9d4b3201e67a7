-- A file without its places is written out to what the file is written out to, without its places.
use Rattle.std.specs.Prelude.{◌≡◌, map, length, Option}
use Rattle.std.specs.Option.{option_map}
use Rattle.std.proofs.Common.{refl, sym, ap, ap₂, ◌∙◌}
use Rattle.std.proofs.lemmas.List.{length-map}
use Rattle.op_trees.specs.Tree.{bare, written_out, renamed}
use Rattle.process_core.specs.Ready.{Name}
use Rattle.prism_tree.specs.Syntax.{Expression, Const, Range, Var, Label, Write, Branch, Command, Module, plain, Item, Rewards, File}
use Rattle.op_trees.specs.Names.{bare_name}
use Rattle.prism_flat.specs.Same.{bare_const, bare_range, bare_var, bare_formula, bare_label, bare_write, bare_branch, bare_command, bare_module, bare_item, bare_rewards, bare_on, bare_file}
use Rattle.prism_flat.specs.Names.{formula_body, unchanged, module_name, Part, part_of}
use Rattle.prism_flat.specs.Flat.{flat_expression, flat_name, flat_range, flat_var, flat_write, flat_branch, flat_command, plain_from, flat_module, flat_constant, flat_label, flat_item, flat_rewards, flat}
use Rattle.prism_flat.specs.Laws.{flat_part}
use Rattle.prism_flat.specs.Order.{whole}
use Rattle.basics.specs.Mapped.{turned, some_turned}
use Rattle.prism_check.proofs.Trees.{renamed-bare, written_out-bare}
use Rattle.prism_check.proofs.SameNames.{bare_part, bodies-bare, written_name-bare, module_name-bare, part-bare}

module _ (file : File) where
  pub whole-bare : (e : Expression) → whole (bare_file file) (bare e) ≡ bare (whole file e)
  whole-bare e =
      ap₂ (λ b n. written_out b n (bare e)) (bodies-bare file) (length-map file.formulas bare_formula)
      ∙ written_out-bare (formula_body file) (length file.formulas) e

  module _ (rename : Name → Name) where
    expression-bare : (e : Expression) → flat_expression (bare_file file) rename (bare e) ≡ bare (flat_expression file rename e)
    expression-bare e = ap (renamed rename) (whole-bare e) ∙ renamed-bare rename (whole file e)

    optional-bare : (o : Option Expression) → option_map (flat_expression (bare_file file) rename) (option_map bare o) ≡ option_map bare (option_map (flat_expression file rename) o)
    optional-bare o = some_turned bare bare _ _ expression-bare o

    range-bare : (r : Range) → flat_range (bare_file file) rename (bare_range r) ≡ bare_range (flat_range file rename r)
    range-bare r = ap₂ (λ a b. record { low = a; high = b }) (expression-bare r.low) (expression-bare r.high)

    var-bare : (x : Var) → flat_var (bare_file file) rename (bare_var x) ≡ bare_var (flat_var file rename x)
    var-bare x =
        ap₂ (λ r s. record { name = bare_name (flat_name file rename x.name); range = r; start = s })
        (some_turned bare_range bare_range _ _ range-bare x.range) (optional-bare x.start)

    write-bare : (w : Write) → flat_write (bare_file file) rename (bare_write w) ≡ bare_write (flat_write file rename w)
    write-bare w =
        ap₂ (λ x e. record { name = record { name = x; at = 0 }; value = e }) (ap (λ f. f w.name.name) (written_name-bare file rename)) (expression-bare w.value)

    branch-bare : (b : Branch) → flat_branch (bare_file file) rename (bare_branch b) ≡ bare_branch (flat_branch file rename b)
    branch-bare b =
        ap₂ (λ e ws. record { weight = e; writes = ws }) (optional-bare b.weight)
        (turned bare_write bare_write _ _ write-bare b.writes)

    command-bare : (c : Command) → flat_command (bare_file file) rename (bare_command c) ≡ bare_command (flat_command file rename c)
    command-bare c =
        ap (λ a. record { action = a; guard = flat_expression (bare_file file) rename (bare c.guard); branches = map (flat_branch (bare_file file) rename) (map bare_branch c.branches) })
        (some_turned bare_name bare_name _ _ (λ n. refl) c.action)
        ∙ ap₂ (λ g bs. record { action = option_map bare_name (option_map (flat_name file rename) c.action); guard = g; branches = bs }) (expression-bare c.guard)
        (turned bare_branch bare_branch _ _ branch-bare c.branches)

  pub contents-bare : (p : Part) → flat_part (bare_file file) (bare_part p) ≡ bare_part (flat_part file p)
  contents-bare p =
      ap₂ (λ xs cs. record { rename = unchanged; vars = xs; commands = cs })
      (turned bare_var bare_var _ _ (var-bare p.rename) p.vars) (turned bare_command bare_command _ _ (command-bare p.rename) p.commands)

  module-bare : (m : Module) → flat_module (bare_file file) (bare_module m) ≡ bare_module (flat_module file m)
  module-bare m =
      ap₂ (plain_from (bare_file file)) (module_name-bare m) (part-bare file m)
      ∙ ap (λ p. plain (record { name = bare_name (module_name m); vars = p.vars; commands = p.commands })) (contents-bare (part_of file m))

  constant-bare : (c : Const) → flat_constant (bare_file file) (bare_const c) ≡ bare_const (flat_constant file c)
  constant-bare c = ap (λ o. record { name = bare_name c.name; ty = c.ty; value = o }) (optional-bare unchanged c.value)

  label-bare : (l : Label) → flat_label (bare_file file) (bare_label l) ≡ bare_label (flat_label file l)
  label-bare l = ap (λ e. record { name = bare_name l.name; body = e }) (expression-bare unchanged l.body)

  item-bare : (i : Item) → flat_item (bare_file file) (bare_item i) ≡ bare_item (flat_item file i)
  item-bare i = ap₂ (λ g e. record { on = bare_on i.on; guard = g; value = e }) (expression-bare unchanged i.guard) (expression-bare unchanged i.value)

  rewards-bare : (r : Rewards) → flat_rewards (bare_file file) (bare_rewards r) ≡ bare_rewards (flat_rewards file r)
  rewards-bare r =
      ap (λ is. record { name = option_map bare_name r.name; items = is })
      (turned bare_item bare_item _ _ item-bare r.items)

  pub flat-bare : flat (bare_file file) ≡ bare_file (flat file)
  flat-bare =
      ap₂ (λ cs gs. record (flat (bare_file file)) { constants = cs; globals = gs })
      (turned bare_const bare_const _ _ constant-bare file.constants) (turned bare_var bare_var _ _ (var-bare unchanged) file.globals)
      ∙ ap₂ (λ ms ls. record (bare_file (flat file)) { modules = ms; labels = ls; rewards = map (flat_rewards (bare_file file)) (map bare_rewards file.rewards); init = (flat (bare_file file)).init })
      (turned bare_module bare_module _ _ module-bare file.modules) (turned bare_label bare_label _ _ label-bare file.labels)
      ∙ ap₂ (λ rs o. record (bare_file (flat file)) { rewards = rs; init = o })
      (turned bare_rewards bare_rewards _ _ rewards-bare file.rewards) (optional-bare unchanged file.init)

-- files that are the same but for places are written out to such files
pub written_out_alike : (f g : File) → bare_file f ≡ bare_file g → bare_file (flat f) ≡ bare_file (flat g)
written_out_alike f g e = sym (flat-bare f) ∙ ap flat e ∙ flat-bare g
