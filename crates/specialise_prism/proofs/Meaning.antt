-- A specialised file means the same.
use Rattle.std.specs.Prelude.{◌≡◌, List, [], ◌∷◌, ◌++◌, map, Bool, true, false, Option, Some, None, if◌then◌else◌, bytes_eq}
use Rattle.std.specs.List.{flat_map, list_all, list_any}
use Rattle.std.specs.Option.{option_map}
use Rattle.std.proofs.Common.{refl, sym, subst, ap, ap₂, ◌∙◌}
use Rattle.std.proofs.lemmas.Option.{slice_get-map}
use Rattle.basics.specs.Booleans.{first_false, second_false}
use Rattle.basics.specs.Lists.{map_agree}
use Rattle.basics.specs.Options.{is_some-map}
use Rattle.bridge_io.specs.declared.reason.Named.{Named}
use Rattle.op_trees.specs.Meaning.{Environment, is_wide_value}
use Rattle.op_trees.specs.declared.tree.Ty.{Ty}
use Rattle.op_trees.specs.Seen.{Seen, known, known_names}
use Rattle.op_trees.specs.declared.tree.Value.{Value}
use Rattle.process_core.specs.Product.{map-map}
use Rattle.process_core.specs.Ready.{Values, Name, Ready}
use Rattle.process_core.specs.Instance.{Valuation, Between, Column, Scene, instance_faults, is_wide_instance, is_state, is_initial, write_to}
use Rattle.prism_tree.specs.Syntax.{Expression, Const, Range, Var, Branch, Command, Module, plain, copied, File}
use Rattle.prism_tree.specs.Syntax as syntax
use Rattle.prism_names.specs.Names.{unchanged, part_of, written_name, see}
use Rattle.prism_flat.specs.Scene.{constant_seen, constant, constant_names, domain_of, first_of, first_under, column, columns_of, columns_under, has_condition, scene}
use Rattle.prism_flat.specs.Moment.{Moment, condition_seen, value_in, names_in, place_of, weight_seen, write_at, update_at, command_at, part_at, adds_of, item_at, moment}
use Rattle.prism_flat.specs.Process.{choices, marks, has_wide_mark, excess}
use Rattle.prism_flat.specs.Kept.{IsWrittenOut, is_plain}
use Rattle.prism_rewriter.specs.Rewritten.{rewritten_name, rewritten_range, rewritten_var, rewritten_write, rewritten_branch, rewritten_command, rewritten_label, rewritten_item, rewritten_rewards}
use Rattle.constant_folding.specs.Known.{Known}
use Rattle.constant_folding.specs.Kept.{Gives}
use Rattle.constant_folding.specs.Constants.{AreRanked, specialised_value}
use Rattle.constant_folding.specs.Unfit.{Extends, IsSmall}
use Rattle.constant_folding.proofs.Defined.{defined_constant}
use Rattle.prism_tree.specs.Operators.{prism_meaning}
use Rattle.specialise_prism.specs.Literal.{prism_literal}
use Rattle.specialise_prism.specs.Specialised.{any_constants, known_constants, folded, folding_by, specialised_const, specialised_module, specialised}
use Rattle.specialise_prism.specs.SameMeaning.{SameMeaningAt, AreApart, GivenDefined, GivenAreDefined, GivenHaveValues, SpecialisedMeansTheSame}
use Rattle.specialise_prism.proofs.ConstantLaws.{literal_see, plain_reading, known_is_constant, known_gives, folded_see, value_same, old_names_are, constants_same, new_names_same}

-- ---- parts of a file whose expressions are folded, where a folded expression is seen as the expression
module _ (file new : File) (same_formulas : new.formulas ≡ file.formulas) (K : Known) (names new_names : Name → Seen) (same : (e : Expression) → see (folded K e) new_names ≡ see e names) where
  domain_same : (r : Option Range) → domain_of new_names (option_map (rewritten_range (folding_by K)) r) ≡ domain_of names r
  domain_same None = refl
  domain_same (Some r) = ap₂ Between (same r.low) (same r.high)

  first_same : (e : Option Expression) (r : Option Range) →
      first_of new_names (option_map (folded K) e) (option_map (rewritten_range (folding_by K)) r) ≡ first_of names e r
  first_same (Some e) r = same e
  first_same None (Some r) = same r.low
  first_same None None = refl

  column_same : (b : Bool) (x : Var) → column b unchanged new_names (rewritten_var (folding_by K) x) ≡ column b unchanged names x
  column_same b x = ap₂ (λ d f. record { name = x.name.name; domain = d; first = first_under b f }) (domain_same x.range) (first_same x.start x.range)

  pub vars_same : (b : Bool) (xs : List Var) → map (column b unchanged new_names) (map (rewritten_var (folding_by K)) xs) ≡ map (column b unchanged names) xs
  vars_same b xs = map-map (column b unchanged new_names) (rewritten_var (folding_by K)) xs ∙ map_agree _ _ (column_same b) xs

  pub condition_same : (o : Option Expression) → condition_seen new_names (option_map (folded K) o) ≡ condition_seen names o
  condition_same None = refl
  condition_same (Some e) = same e

  weight_same : (e : Option Expression) → weight_seen new_names (option_map (folded K) e) ≡ weight_seen names e
  weight_same None = refl
  weight_same (Some e) = same e

  written_same : (x : Name) → written_name new unchanged x ≡ written_name file unchanged x
  written_same x = plainly _ ∙ sym (plainly _)
    where
      plainly : (b : Bool) → (if b then x else x) ≡ x
      plainly true = refl
      plainly false = refl

  action_same : (a : Option Named) → option_map (λ n. unchanged n.name) (option_map (rewritten_name unchanged) a) ≡ option_map (λ n. unchanged n.name) a
  action_same None = refl
  action_same (Some a) = refl

  module _ (cs : List Column) where
    write_same : (w : syntax.Write) → write_at new cs unchanged new_names (rewritten_write (folding_by K) w) ≡ write_at file cs unchanged names w
    write_same w = ap₂ (λ x s. write_to cs (place_of cs x) s) (written_same w.name.name) (same w.value)

    update_same : (b : Branch) → update_at new cs unchanged new_names (rewritten_branch (folding_by K) b) ≡ update_at file cs unchanged names b
    update_same b =
        ap₂ (λ w ws. record { weight = w; writes = ws; rewards = [] }) (weight_same b.weight)
        (map-map (write_at new cs unchanged new_names) (rewritten_write (folding_by K)) b.writes ∙ map_agree _ _ write_same b.writes)

    command_same : (c : Command) → command_at new cs unchanged new_names (rewritten_command (folding_by K) c) ≡ command_at file cs unchanged names c
    command_same c =
        ap₂ {B = Option Name → Ready} (λ a g. g a) (action_same c.action)
        (ap₂ (λ g us a. record { action = a; guard = g; updates = us }) (same c.guard)
        (map-map (update_at new cs unchanged new_names) (rewritten_branch (folding_by K)) c.branches ∙ map_agree _ _ update_same c.branches))

    pub commands_same : (xs : List Command) →
        map (command_at new cs unchanged new_names) (map (rewritten_command (folding_by K)) xs) ≡ map (command_at file cs unchanged names) xs
    commands_same xs = map-map (command_at new cs unchanged new_names) (rewritten_command (folding_by K)) xs ∙ map_agree _ _ command_same xs

  item_same : (i : syntax.Item) → item_at new_names (rewritten_item (folding_by K) i) ≡ item_at names i
  item_same i = ap₂ (λ g u. record { adds = adds_of i.on; item = record { guard = g; value = u } }) (same i.guard) (same i.value)

  pub items_same : (rs : List syntax.Rewards) → map (λ r. map (item_at new_names) r.items) (map (rewritten_rewards (folding_by K)) rs) ≡ map (λ r. map (item_at names) r.items) rs
  items_same rs =
      map-map (λ r. map (item_at new_names) r.items) (rewritten_rewards (folding_by K)) rs
      ∙ map_agree _ _ (λ r. map-map (item_at new_names) (rewritten_item (folding_by K)) r.items ∙ map_agree _ _ item_same r.items) rs

  pub labels_same : (ls : List syntax.Label) → map (λ l. see l.body new_names) (map (rewritten_label (folding_by K)) ls) ≡ map (λ l. see l.body names) ls
  labels_same ls = map-map (λ l. see l.body new_names) (rewritten_label (folding_by K)) ls ∙ map_agree _ _ (λ l. same l.body) ls

-- a name that is no variable's has the value of its constant
value_apart : (cs : List Column) (s : Values) (k : Name → Option Value) (x : Name) → list_any (λ c. bytes_eq c.name x) cs ≡ false → value_in cs s k x ≡ k x
value_apart [] s k x h = refl
value_apart (c ∷ cs) [] k x h = refl
value_apart (c ∷ cs) (u ∷ s) k x h =
    ap (λ b. if b then Some u else value_in cs s k x) (first_false (bytes_eq c.name x) (list_any (λ d. bytes_eq d.name x) cs) h)
    ∙ value_apart cs s k x (second_false (bytes_eq c.name x) (list_any (λ d. bytes_eq d.name x) cs) h)

module _ (file : File) (given v : Valuation) (form : IsWrittenOut file) (extends : Extends given v) (small : IsSmall given) (ranked : AreRanked (any_constants file))
    (apart : AreApart file) where
  abbrev K : Known
  K = known_constants file given

  abbrev new : File
  new = specialised file given

  abbrev names : Name → Seen
  names = known_names (constant file v)

  fixed_same : (e : Expression) → see (folded K e) names ≡ see e names
  fixed_same e = folded_see file given v form extends small (constant file v) (known_gives file given v form extends small) e

  old_are : constant_names file v unchanged ≡ names
  old_are = old_names_are file given v form extends small ranked

  new_are : constant_names new v unchanged ≡ names
  new_are = new_names_same file given v form extends small ranked

  -- ---- the file under the valuation
  constants_alike : map (λ c. constant_seen (v c.name.name) names c.value) (map (specialised_const given K) file.constants)
      ≡ map (λ c. constant_seen (v c.name.name) names c.value) file.constants
  constants_alike =
      map-map (λ c. constant_seen (v c.name.name) names c.value) (specialised_const given K) file.constants
      ∙ map_agree _ _ (λ c.
      value_same file given v form extends small c.name.name c.ty c.value names fixed_same) file.constants

  module_columns : (b : Bool) (ms : List Module) → list_all is_plain ms ≡ true →
      flat_map (λ p. map (column b p.rename (constant_names new v p.rename)) p.vars) (map (part_of new) (map (specialised_module K) ms))
      ≡ flat_map (λ p. map (column b p.rename (constant_names file v p.rename)) p.vars) (map (part_of file) ms)
  module_columns b [] h = refl
  module_columns b (copied m ∷ ms) h = absurd cc
  module_columns b (plain m ∷ ms) h =
      ap₂ (λ a b. a ++ b)
      (ap (λ (r : Name → Seen). map (column b unchanged r) (map (rewritten_var (folding_by K)) m.vars)) new_are
      ∙ vars_same file new refl K names names fixed_same b m.vars
      ∙ ap (λ (r : Name → Seen). map (column b unchanged r) m.vars) (sym old_are))
      (module_columns b ms h)

  columns_under_alike : (b : Bool) → columns_under new b v ≡ columns_under file b v
  columns_under_alike b =
      ap₂ (λ a c. a ++ c)
      (ap (λ (r : Name → Seen). map (column b unchanged r) (map (rewritten_var (folding_by K)) file.globals)) new_are
      ∙ vars_same file new refl K names names fixed_same b file.globals
      ∙ ap (λ (r : Name → Seen). map (column b unchanged r) file.globals) (sym old_are))
      (module_columns b file.modules form.modules)

  flag_alike : has_condition new ≡ has_condition file
  flag_alike = is_some-map (folded K) file.init

  columns_alike : columns_of new v ≡ columns_of file v
  columns_alike = columns_under_alike (has_condition new) ∙ ap (λ b. columns_under file b v) flag_alike

  scene_alike : scene new v ≡ scene file v
  scene_alike =
      ap₂ {A = List Column → Scene} (λ f c. f c) (ap₂ {C = List Column → Scene} (λ h a. λ b. record { constants = a; columns = b; has_condition = h }) flag_alike
      (ap (λ (r : Name → Seen). map (λ c. constant_seen (v c.name.name) r c.value) (map (specialised_const given K) file.constants)) new_are
      ∙ constants_alike
      ∙ ap (λ (r : Name → Seen). map (λ c. constant_seen (v c.name.name) r c.value) file.constants) (sym old_are)))
      columns_alike

  -- ---- the file at a state
  module _ (s : Values) where
    abbrev env : Environment
    env = value_in (columns_of file v) s (constant file v)

    env_gives : Gives K env
    env_gives = record {
      gives =
          λ x k h.
          let c = known_is_constant file given v form extends small x k h in
          value_apart (columns_of file v) s (constant file v) x (apart.apart v x c.0 c.1) ∙ (known_gives file given v form extends small).gives x k h;
    }

    state_same : (e : Expression) → see (folded K e) (known_names env) ≡ see e (known_names env)
    state_same e = folded_see file given v form extends small env env_gives e

    old_in : names_in file v s unchanged ≡ known_names env
    old_in = plain_reading file form.formulas (known_names env)

    new_in : names_in new v s unchanged ≡ known_names env
    new_in =
        plain_reading new form.formulas (known_names (value_in (columns_of new v) s (constant new v)))
        ∙ ap₂ (λ cs k. known_names (value_in cs s k)) columns_alike (constants_same file given v form extends small ranked)

    modules_alike : (ms : List Module) → list_all is_plain ms ≡ true →
        map (part_at new v s) (map (part_of new) (map (specialised_module K) ms)) ≡ map (part_at file v s) (map (part_of file) ms)
    modules_alike [] h = refl
    modules_alike (copied m ∷ ms) h = absurd cc
    modules_alike (plain m ∷ ms) h =
        ap₂ (λ a b. a ∷ b)
        (ap₂ (λ cs r. map (command_at new cs unchanged r) (map (rewritten_command (folding_by K)) m.commands)) columns_alike new_in
        ∙ commands_same file new refl K (known_names env) (known_names env) state_same (columns_of file v) m.commands
        ∙ ap (λ (r : Name → Seen). map (command_at file (columns_of file v) unchanged r) m.commands) (sym old_in))
        (modules_alike ms h)

    condition_alike : condition_seen (names_in new v s unchanged) new.init ≡ condition_seen (names_in file v s unchanged) file.init
    condition_alike =
        ap (λ (r : Name → Seen). condition_seen r (option_map (folded K) file.init)) new_in
        ∙ condition_same file new refl K (known_names env) (known_names env) state_same file.init
        ∙ ap (λ (r : Name → Seen). condition_seen r file.init) (sym old_in)

    moment_alike : moment new v s ≡ moment file v s
    moment_alike =
        ap₂ {A = (List (List Ready)) × Seen} {B = (List (List Ready)) × Seen → Moment} (λ m g. g m) (ap₂ (λ m d. (m, d)) (modules_alike file.modules form.modules) condition_alike)
        (ap₂ (λ ls rs m. record { condition = m.1; modules = m.0; labels = ls; rewards = rs })
        (ap (λ (r : Name → Seen). map (λ l. see l.body r) (map (rewritten_label (folding_by K)) file.labels)) new_in
        ∙ labels_same file new refl K (known_names env) (known_names env) state_same file.labels
        ∙ ap (λ (r : Name → Seen). map (λ l. see l.body r) file.labels) (sym old_in))
        (ap (λ (r : Name → Seen). map (λ t. map (item_at r) t.items) (map (rewritten_rewards (folding_by K)) file.rewards)) new_in
        ∙ items_same file new refl K (known_names env) (known_names env) state_same file.rewards
        ∙ ap (λ (r : Name → Seen). map (λ t. map (item_at r) t.items) file.rewards) (sym old_in)))

  meaning_alike : SameMeaningAt file new v
  meaning_alike = record {
    faults = ap instance_faults scene_alike;
    wide_instance = ap is_wide_instance scene_alike;
    columns = ap (λ k. map (λ c. c.name) k.columns) scene_alike;
    states = λ s. ap (λ k. is_state k.columns s) scene_alike;
    initial = λ s. ap₂ (λ k m. is_initial k.columns m.condition s) scene_alike (moment_alike s);
    choices = λ s. ap (λ k. choices k s) (moment_alike s);
    marks = λ s. ap marks (moment_alike s);
    wide_marks = λ s. ap has_wide_mark (moment_alike s);
    excess = λ s. ap excess (moment_alike s);
  }

pub specialised_means_the_same : SpecialisedMeansTheSame
specialised_means_the_same file given form ranked apart small v extends = meaning_alike file given v form extends small ranked apart

open_value : (g vx : Option Value) (ty : Ty) (K : Known) (names : Name → Seen) (o : Option Expression) (y : Value) → is_wide_value (Some y) ≡ false → o ≡ None → g ≡ Some y → vx ≡ Some y →
    (constant_seen vx names o ≡ known (Some y)) × (constant_seen vx names (specialised_value prism_meaning prism_literal g K ty o) ≡ known (Some y))
open_value None vx ty K names o y h n p q = absurd cc
open_value (Some z) vx ty K names None y h n p q =
    let same : z ≡ y = cc in
    (ap known q, literal_see z ty names (subst (λ (u : Value). is_wide_value (Some u) ≡ false) (sym same) h) ∙ ap (λ u. known (Some u)) same)
open_value (Some z) vx ty K names (Some e) y h n p q = absurd cc

pub given_have_values : GivenHaveValues
given_have_values file given v small extends c y n p =
    let h = small.small c.name.name y p in
    let q = extends.gives c.name.name y p in (
      (open_value (given c.name.name) (v c.name.name) c.ty (known_constants file given) (constant_names file v unchanged) c.value y h n p q).0,
      (open_value (given c.name.name) (v c.name.name) c.ty (known_constants file given) (constant_names (specialised file given) v unchanged) c.value y h n p q).1,
    )

-- what comes out of the open constant of this number
given_seen : (v : Valuation) (names : Name → Seen) (c : Const) (y : Value) → c.value ≡ None → v c.name.name ≡ Some y → (constant_seen (v c.name.name) names c.value).value ≡ Some y
given_seen v names c y n h = ap (λ o. (constant_seen (v c.name.name) names o).value) n ∙ h

given_defined : (file : File) (given v : Valuation) → Extends given v → GivenDefined file.constants given (instance_faults (scene file v))
given_defined file given v extends i c y e n h =
    defined_constant (scene file v) i (constant_seen (v c.name.name) (constant_names file v unchanged) c.value) y (slice_get-map (λ k. constant_seen (v k.name.name) (constant_names file v unchanged) k.value) file.constants i ∙ ap (option_map (λ k. constant_seen (v k.name.name) (constant_names file v unchanged) k.value)) e)
    (given_seen v (constant_names file v unchanged) c y n (extends.gives c.name.name y h))

pub given_are_defined : GivenAreDefined
given_are_defined file new given v extends same = (given_defined file given v extends, subst (GivenDefined file.constants given) (sym same.faults) (given_defined file given v extends))
