-- A PRISM file that is the same but for places is specialised to one that is.
use Rattle.std.specs.Prelude.{◌≡◌, ℕ, zero, suc, List, map, length, Bool, not, Option, Some, None, is_none}
use Rattle.std.specs.Option.{option_map}
use Rattle.std.proofs.Common.{refl, sym, ap, ap₂, ◌∙◌}
use Rattle.std.proofs.lemmas.List.{length-map}
use Rattle.std.proofs.Math.Path.{fun_ext}
use Rattle.basics.specs.Mapped.{found_mapped, some_turned, turned}
use Rattle.bridge_io.specs.declared.reason.Named.{Named}
use Rattle.op_trees.specs.declared.tree.Ty.{Ty}
use Rattle.op_trees.specs.declared.tree.Value.{Value}
use Rattle.op_trees.specs.Tree.{bare}
use Rattle.op_trees.specs.Names.{is_called, bare_name}
use Rattle.op_trees.specs.NameLaws.{some_name-bare}
use Rattle.op_trees.specs.Meaning.{answer, answered}
use Rattle.op_trees.specs.Seen.{known_names}
use Rattle.op_trees.specs.SeenLaws.{answer_is, seen-bare}
use Rattle.op_trees.specs.TypeLaws.{type-bare}
use Rattle.process_core.specs.Ready.{Name}
use Rattle.process_core.specs.Instance.{Valuation}
use Rattle.prism_tree.specs.declared.operator.PrismOp.{PrismOp}
use Rattle.prism_tree.specs.Operators.{prism_meaning}
use Rattle.prism_tree.specs.Syntax.{Expression, Const, Range, Var, Label, Write, Branch, Command, Module, plain, copied, Item, Rewards, File}
use Rattle.prism_names.specs.Names.{unchanged}
use Rattle.prism_print.specs.Same.{bare_const, bare_range, bare_var, bare_formula, bare_label, bare_write, bare_branch, bare_command, bare_module, bare_on, bare_item, bare_rewards, bare_file}
use Rattle.prism_rewriter.specs.Rewritten.{rewritten_name, rewritten_range, rewritten_var, rewritten_write, rewritten_branch, rewritten_command, rewritten_label, rewritten_item, rewritten_rewards}
use Rattle.constant_folding.specs.declared.known.Summary.{Summary}
use Rattle.constant_folding.specs.Known.{Known, value_under, type_under, is_closed, summary, worth}
use Rattle.constant_folding.specs.Constants as folding
use Rattle.constant_folding.specs.Constants.{AnyConst, called, fixed_as, specialised_value}
use Rattle.constant_folding.proofs.Places.{fold-bare}
use Rattle.specialise_prism.specs.Literal.{prism_literal}
use Rattle.specialise_prism.specs.LiteralLaws.{prism_literals}
use Rattle.specialise_prism.specs.Specialised.{any_const, any_constants, known_constants, folded, folding_by, specialised_const, specialised_module, specialised_by, specialised}

-- ---- which constants are known
abbrev bare_any : AnyConst PrismOp → AnyConst PrismOp
bare_any c = record { name = bare_name c.name; ty = c.ty; value = option_map bare c.value }

summary-bare : (known : Known) (e : Expression) → summary prism_meaning known (bare e) ≡ summary prism_meaning known e
summary-bare known e =
    let closed : is_closed known (bare e) ≡ is_closed known e = ap not (some_name-bare (λ x. is_none (known x)) e) in
    let told : answer prism_meaning (bare e) (value_under known) ≡ answer prism_meaning e (value_under known) =
    answer_is prism_meaning (value_under known) (bare e) ∙ ap (λ s. answered s.wide s.value) (seen-bare prism_meaning e (known_names (value_under known)))
    ∙ sym (answer_is prism_meaning (value_under known) e) in
    ap₂ {B = Bool → Summary} (λ c g. g c) closed (ap₂ (λ a u c. record { closed = c; answer = a; ty = u }) told (type-bare prism_meaning e (type_under known)))

known_by-bare : (y : Option Value) (known : Known) (t : Ty) (o : Option Expression) →
    folding.known_by prism_meaning y known t (option_map bare o) ≡ folding.known_by prism_meaning y known t o
known_by-bare y known t None = refl
known_by-bare y known t (Some e) = ap (λ s. fixed_as t (worth s)) (summary-bare known e)

known_const-bare : (y : Option Value) (known : Known) (c : Option (AnyConst PrismOp)) →
    folding.known_const prism_meaning y known (option_map bare_any c) ≡ folding.known_const prism_meaning y known c
known_const-bare y known None = refl
known_const-bare y known (Some c) = known_by-bare y known c.ty c.value

module _ (cs : List (AnyConst PrismOp)) (given : Valuation) where
  known_within-bare : (n : ℕ) (x : Name) → folding.known_within prism_meaning (map bare_any cs) given n x ≡ folding.known_within prism_meaning cs given n x
  known_within-bare zero x = refl
  known_within-bare (suc n) x =
      ap₂ (λ k c. folding.known_const prism_meaning (given x) k c) (fun_ext (known_within-bare n)) (found_mapped bare_any (λ c. is_called x c.name) (λ c. is_called x c.name) (λ c. refl) cs)
      ∙ known_const-bare (given x) (folding.known_within prism_meaning cs given n) (called cs x)

known-bare : (file : File) (given : Valuation) → known_constants (bare_file file) given ≡ known_constants file given
known-bare file given =
    let cs = any_constants file in
    fun_ext (λ x.
    ap (λ ds. folding.known_constants prism_meaning ds given x) (turned bare_any bare_const any_const any_const (λ c. refl) file.constants)
    ∙ ap (λ n. folding.known_within prism_meaning (map bare_any cs) given n x) (length-map cs bare_any)
    ∙ known_within-bare cs given (length cs) x)

-- ---- the parts of a file
module _ (known : Known) where
  expression-bare : (e : Expression) → folded known (bare e) ≡ bare (folded known e)
  expression-bare e = sym (fold-bare prism_meaning prism_literal prism_literals known e)

  some-bare : (o : Option Expression) → option_map (folded known) (option_map bare o) ≡ option_map bare (option_map (folded known) o)
  some-bare o = some_turned bare bare (folded known) (folded known) expression-bare o

  range-bare : (r : Range) → rewritten_range (folding_by known) (bare_range r) ≡ bare_range (rewritten_range (folding_by known) r)
  range-bare r = ap₂ (λ l h. record { low = l; high = h }) (expression-bare r.low) (expression-bare r.high)

  var-bare : (x : Var) → rewritten_var (folding_by known) (bare_var x) ≡ bare_var (rewritten_var (folding_by known) x)
  var-bare x =
      ap₂ (λ r s. record { name = bare_name x.name; range = r; start = s })
      (some_turned bare_range bare_range (rewritten_range (folding_by known)) (rewritten_range (folding_by known)) range-bare x.range) (some-bare x.start)

  write-bare : (w : Write) → rewritten_write (folding_by known) (bare_write w) ≡ bare_write (rewritten_write (folding_by known) w)
  write-bare w = ap (λ e. record { name = bare_name w.name; value = e }) (expression-bare w.value)

  branch-bare : (b : Branch) → rewritten_branch (folding_by known) (bare_branch b) ≡ bare_branch (rewritten_branch (folding_by known) b)
  branch-bare b =
      ap₂ (λ e ws. record { weight = e; writes = ws }) (some-bare b.weight)
      (turned bare_write bare_write (rewritten_write (folding_by known)) (rewritten_write (folding_by known)) write-bare b.writes)

  command-bare : (c : Command) → rewritten_command (folding_by known) (bare_command c) ≡ bare_command (rewritten_command (folding_by known) c)
  command-bare c =
      ap₂ {B = Option Named → Command} (λ a g. g a)
      (some_turned bare_name bare_name (rewritten_name unchanged) (rewritten_name unchanged) (λ n. refl) c.action)
      (ap₂ (λ e bs a. record { action = a; guard = e; branches = bs }) (expression-bare c.guard)
      (turned bare_branch bare_branch (rewritten_branch (folding_by known)) (rewritten_branch (folding_by known)) branch-bare c.branches))

  module-bare : (m : Module) → specialised_module known (bare_module m) ≡ bare_module (specialised_module known m)
  module-bare (plain m) =
      ap₂ (λ vs cs. plain (record { name = bare_name m.name; vars = vs; commands = cs }))
      (turned bare_var bare_var (rewritten_var (folding_by known)) (rewritten_var (folding_by known)) var-bare m.vars)
      (turned bare_command bare_command (rewritten_command (folding_by known)) (rewritten_command (folding_by known)) command-bare m.commands)
  module-bare (copied m) = refl

  label-bare : (l : Label) → rewritten_label (folding_by known) (bare_label l) ≡ bare_label (rewritten_label (folding_by known) l)
  label-bare l = ap (λ e. record { name = bare_name l.name; body = e }) (expression-bare l.body)

  item-bare : (i : Item) → rewritten_item (folding_by known) (bare_item i) ≡ bare_item (rewritten_item (folding_by known) i)
  item-bare i = ap₂ (λ g v. record { on = bare_on i.on; guard = g; value = v }) (expression-bare i.guard) (expression-bare i.value)

  rewards-bare : (r : Rewards) → rewritten_rewards (folding_by known) (bare_rewards r) ≡ bare_rewards (rewritten_rewards (folding_by known) r)
  rewards-bare r =
      ap (λ is. record { name = option_map bare_name r.name; items = is })
      (turned bare_item bare_item (rewritten_item (folding_by known)) (rewritten_item (folding_by known)) item-bare r.items)

  module _ (given : Valuation) where
    value-bare : (y : Option Value) (t : Ty) (o : Option Expression) →
        specialised_value prism_meaning prism_literal y known t (option_map bare o) ≡ option_map bare (specialised_value prism_meaning prism_literal y known t o)
    value-bare None t None = refl
    value-bare (Some v) t None = ap Some (sym (prism_literals.placed v t))
    value-bare y t (Some e) = ap Some (expression-bare e)

    const-bare : (c : Const) → specialised_const given known (bare_const c) ≡ bare_const (specialised_const given known c)
    const-bare c = ap (λ v. record { name = bare_name c.name; ty = c.ty; value = v }) (value-bare (given c.name.name) c.ty c.value)

    file-bare : (file : File) → specialised_by given known (bare_file file) ≡ bare_file (specialised_by given known file)
    file-bare file =
        let labels = map (rewritten_label (folding_by known)) (map bare_label file.labels) in
        let rewards = map (rewritten_rewards (folding_by known)) (map bare_rewards file.rewards) in
        let modules = map bare_module (map (specialised_module known) file.modules) in
        let constants = map bare_const (map (specialised_const given known) file.constants) in
        let globals = map bare_var (map (rewritten_var (folding_by known)) file.globals) in
        let init = option_map (folded known) (option_map bare file.init) in
        ap₂ (λ cs gs. record { constants = cs; globals = gs; formulas = map bare_formula file.formulas; modules = map (specialised_module known) (map bare_module file.modules); labels = labels; rewards = rewards; init = init; end = 0 })
        (turned bare_const bare_const (specialised_const given known) (specialised_const given known) const-bare file.constants)
        (turned bare_var bare_var (rewritten_var (folding_by known)) (rewritten_var (folding_by known)) var-bare file.globals)
        ∙ ap₂ (λ ms ls. record { constants = constants; globals = globals; formulas = map bare_formula file.formulas; modules = ms; labels = ls; rewards = rewards; init = init; end = 0 })
        (turned bare_module bare_module (specialised_module known) (specialised_module known) module-bare file.modules)
        (turned bare_label bare_label (rewritten_label (folding_by known)) (rewritten_label (folding_by known)) label-bare file.labels)
        ∙ ap₂ (λ rs o. record {
          constants = constants;
          globals = globals;
          formulas = map bare_formula file.formulas;
          modules = modules;
          labels = map bare_label (map (rewritten_label (folding_by known)) file.labels);
          rewards = rs;
          init = o;
          end = 0;
        })
        (turned bare_rewards bare_rewards (rewritten_rewards (folding_by known)) (rewritten_rewards (folding_by known)) rewards-bare file.rewards)
        (some-bare file.init)

-- ---- files
specialised-bare : (file : File) (given : Valuation) → specialised (bare_file file) given ≡ bare_file (specialised file given)
specialised-bare file given = ap (λ k. specialised_by given k (bare_file file)) (known-bare file given) ∙ file-bare (known_constants file given) given file

pub specialised_aside : (f g : File) (given : Valuation) → bare_file f ≡ bare_file g → bare_file (specialised f given) ≡ bare_file (specialised g given)
specialised_aside f g given same = sym (specialised-bare f given) ∙ ap (λ x. specialised x given) same ∙ specialised-bare g given
