-- What is written out once stays as it is when it is written out again.
use Rattle.std.specs.Prelude.{◌≡◌, List, [], ◌∷◌, map, Option, Some, None}
use Rattle.std.specs.Option.{option_map}
use Rattle.std.proofs.Common.{refl, ap, ap₂, ◌∙◌}
use Rattle.prism_tree.specs.Syntax.{Expression, Const, Range, Var, Label, Write, Branch, Command, Module, plain, Item, Rewards, File}
use Rattle.prism_flat.specs.Names.{unchanged, module_name, part_of}
use Rattle.prism_flat.specs.Flat.{flat_expression, flat_range, flat_var, flat_write, flat_branch, flat_command, flat_module, flat_constant, flat_label, flat_item, flat_rewards, flat}
use Rattle.prism_flat.specs.Laws.{flat_part}
use Rattle.prism_flat.specs.ConstantLaws.{renamed_unchanged}

map_same : {A : Type 0} (f : A → A) → ((x : A) → f x ≡ x) → (xs : List A) → map f xs ≡ xs
map_same f h [] = refl
map_same f h (x ∷ xs) = ap₂ (λ y ys. y ∷ ys) (h x) (map_same f h xs)

option_same : {A : Type 0} (f : A → A) → ((x : A) → f x ≡ x) → (o : Option A) → option_map f o ≡ o
option_same f h None = refl
option_same f h (Some x) = ap Some (h x)

module _ (file : File) where
  expression_same : (e : Expression) → flat_expression (flat file) unchanged e ≡ e
  expression_same e = renamed_unchanged e

  optional_same : (o : Option Expression) → option_map (flat_expression (flat file) unchanged) o ≡ o
  optional_same o = option_same (flat_expression (flat file) unchanged) expression_same o

  range_same : (r : Range) → flat_range (flat file) unchanged r ≡ r
  range_same r = ap₂ (λ a b. record { low = a; high = b }) (expression_same r.low) (expression_same r.high)

  var_same : (x : Var) → flat_var (flat file) unchanged x ≡ x
  var_same x = ap₂ (λ r s. record { name = x.name; range = r; start = s }) (option_same (flat_range (flat file) unchanged) range_same x.range) (optional_same x.start)

  write_same : (w : Write) → flat_write (flat file) unchanged w ≡ w
  write_same w = ap (λ e. record { name = w.name; value = e }) (expression_same w.value)

  branch_same : (b : Branch) → flat_branch (flat file) unchanged b ≡ b
  branch_same b = ap₂ (λ e ws. record { weight = e; writes = ws }) (optional_same b.weight) (map_same (flat_write (flat file) unchanged) write_same b.writes)

  command_same : (c : Command) → flat_command (flat file) unchanged c ≡ c
  command_same c =
      ap (λ a. record { action = a; guard = flat_expression (flat file) unchanged c.guard; branches = map (flat_branch (flat file) unchanged) c.branches })
      (option_same (λ n. record { name = unchanged n.name; at = n.at }) (λ n. refl) c.action)
      ∙ ap₂ (λ g bs. record { action = c.action; guard = g; branches = bs }) (expression_same c.guard)
      (map_same (flat_branch (flat file) unchanged) branch_same c.branches)

  constant_same : (c : Const) → flat_constant (flat file) c ≡ c
  constant_same c = ap (λ v. record { name = c.name; ty = c.ty; value = v }) (optional_same c.value)

  label_same : (l : Label) → flat_label (flat file) l ≡ l
  label_same l = ap (λ e. record { name = l.name; body = e }) (expression_same l.body)

  item_same : (i : Item) → flat_item (flat file) i ≡ i
  item_same i = ap₂ (λ g v. record { on = i.on; guard = g; value = v }) (expression_same i.guard) (expression_same i.value)

  rewards_same : (r : Rewards) → flat_rewards (flat file) r ≡ r
  rewards_same r = ap (λ is. record { name = r.name; items = is }) (map_same (flat_item (flat file)) item_same r.items)

  -- a module is plain then
  module_same : (m : Module) → flat_module (flat file) (flat_module file m) ≡ flat_module file m
  module_same m =
      let p = flat_part file (part_of file m) in
      ap₂ (λ xs cs. plain (record { name = module_name m; vars = xs; commands = cs }))
      (map_same (flat_var (flat file) unchanged) var_same p.vars) (map_same (flat_command (flat file) unchanged) command_same p.commands)

  modules_same : (ms : List Module) → map (flat_module (flat file)) (map (flat_module file) ms) ≡ map (flat_module file) ms
  modules_same [] = refl
  modules_same (m ∷ ms) = ap₂ (λ n ns. n ∷ ns) (module_same m) (modules_same ms)

pub flat_twice : (file : File) → flat (flat file) ≡ flat file
flat_twice file =
    let f = flat file in
    let g = flat f in
    ap₂ (λ xs ys. record g { constants = xs; globals = ys }) (map_same (flat_constant f) (constant_same file) f.constants) (map_same (flat_var f unchanged) (var_same file) f.globals)
    ∙ ap₂ (λ xs ys. record f { modules = xs; labels = ys; rewards = map (flat_rewards f) f.rewards; init = g.init }) (modules_same file file.modules) (map_same (flat_label f) (label_same file) f.labels)
    ∙ ap₂ (λ xs o. record f { rewards = xs; init = o }) (map_same (flat_rewards f) (rewards_same file) f.rewards) (optional_same file f.init)
