-- What a PRISM file means does not depend on the places that its tree keeps.
use Rattle.std.specs.Prelude.{◌≡◌, ℕ, zero, suc, List, [], ◌++◌, map, length, Bool, Option, Some, None}
use Rattle.std.specs.List.{flat_map}
use Rattle.std.specs.Option.{option_map}
use Rattle.std.proofs.Common.{refl, sym, ap, ap₂, ◌∙◌}
use Rattle.std.proofs.lemmas.List.{length-map}
use Rattle.std.proofs.Math.Path.{fun_ext}
use Rattle.basics.specs.Options.{is_some-map}
use Rattle.op_trees.specs.Seen.{Seen, known}
use Rattle.op_trees.specs.SeenLaws.{seen-bare}
use Rattle.op_trees.specs.Tree.{bare}
use Rattle.op_trees.specs.declared.tree.Value.{Value}
use Rattle.process_core.specs.Ready.{Values, Name, Ready}
use Rattle.prism_tree.specs.Operators.{prism_meaning}
use Rattle.prism_tree.specs.declared.syntax.ItemOn.{ItemOn}
use Rattle.prism_tree.specs.declared.syntax.ItemOn.TheVariants as On
use Rattle.prism_tree.specs.Syntax.{Expression, Const, Range, Var, Branch, Command, Item, Rewards, Label, File}
use Rattle.prism_tree.specs.Syntax as syntax
use Rattle.op_trees.specs.Names.{bare_name}
use Rattle.prism_flat.specs.Same.{bare_const, bare_range, bare_var, bare_label, bare_write, bare_branch, bare_command, bare_on, bare_item, bare_rewards, bare_file}
use Rattle.prism_flat.specs.Names.{unchanged, Part, parts, see, reading}
use Rattle.process_core.specs.Instance.{Valuation, Between, Column, write_to}
use Rattle.prism_flat.specs.Scene.{constant_called, constant_seen, constant_value, constant_within, constant, constant_names, domain_of, first_of, first_under, column, part_columns, columns_under, columns_of, has_condition, scene}
use Rattle.prism_flat.specs.Moment.{Moment, value_in, names_in, condition_seen, place_of, weight_seen, action_of, write_at, update_at, command_at, part_at, adds_of, item_at, moment}
use Rattle.prism_flat.specs.FlatLaws.{model_alike, meaning_alike}
use Rattle.prism_check.specs.PlacesLaws.{PlacesMeanNothing, PlacesBoundNothing, PlacesKeepScenes, PlacesKeepMoments}
use Rattle.prism_flat.specs.FlatLaws.{found_after}
use Rattle.basics.specs.Mapped.{some_mapped, mapped, walked}
use Rattle.prism_check.proofs.SameNames.{bare_part, written_name-bare, parts-bare, reading-bare, reading_in-bare}

-- ---- expressions
see-bare : (e : Expression) (names : Name → Seen) → see (bare e) names ≡ see e names
unfolding see
see-bare e names = seen-bare prism_meaning e names

constant_seen-bare : (given : Option Value) (names : Name → Seen) (e : Option Expression) → constant_seen given names (option_map bare e) ≡ constant_seen given names e
constant_seen-bare given names None = refl
constant_seen-bare given names (Some e) = see-bare e names

constant_value-bare : (given : Option Value) (names : Name → Seen) (c : Option Const) → constant_value given names (option_map bare_const c) ≡ constant_value given names c
constant_value-bare given names None = refl
constant_value-bare given names (Some c) = ap (λ s. s.value) (constant_seen-bare given names c.value)

weight-bare : (names : Name → Seen) (e : Option Expression) → weight_seen names (option_map bare e) ≡ weight_seen names e
weight-bare names None = refl
weight-bare names (Some e) = see-bare e names

condition-bare : (names : Name → Seen) (e : Option Expression) → condition_seen names (option_map bare e) ≡ condition_seen names e
condition-bare names None = refl
condition-bare names (Some e) = see-bare e names

-- ---- columns
domain-bare : (names : Name → Seen) (r : Option Range) → domain_of names (option_map bare_range r) ≡ domain_of names r
domain-bare names None = refl
domain-bare names (Some r) = ap₂ Between (see-bare r.low names) (see-bare r.high names)

first-bare : (names : Name → Seen) (e : Option Expression) (r : Option Range) → first_of names (option_map bare e) (option_map bare_range r) ≡ first_of names e r
first-bare names (Some e) r = see-bare e names
first-bare names None (Some r) = see-bare r.low names
first-bare names None None = refl

column-bare : (c : Bool) (rename : Name → Name) (names : Name → Seen) (x : Var) → column c rename names (bare_var x) ≡ column c rename names x
column-bare c rename names x =
    ap₂ (λ d f. record { name = rename x.name.name; domain = d; first = first_under c f }) (domain-bare names x.range) (first-bare names x.start x.range)

-- ---- commands and rewards, by what is written where and by what names are seen as
action-bare : (rename : Name → Name) (c : Command) → action_of rename (bare_command c) ≡ action_of rename c
action-bare rename c = some_mapped bare_name _ (λ n. rename n.name) (λ n. refl) c.action

adds-bare : (on : ItemOn) → adds_of (bare_on on) ≡ adds_of on
adds-bare On.InState = refl
adds-bare On.Silent = refl
adds-bare (On.Action a) = refl

item-bare : (names : Name → Seen) (i : Item) → item_at names (bare_item i) ≡ item_at names i
item-bare names i =
    ap (λ a. record { adds = a; item = record { guard = see (bare i.guard) names; value = see (bare i.value) names } }) (adds-bare i.on)
    ∙ ap₂ (λ g u. record { adds = adds_of i.on; item = record { guard = g; value = u } }) (see-bare i.guard names) (see-bare i.value names)

module _ (file : File) (cs : List Column) (rename : Name → Name) (names : Name → Seen) where
  write-bare : (w : syntax.Write) → write_at (bare_file file) cs rename names (bare_write w) ≡ write_at file cs rename names w
  write-bare w =
      ap₂ (λ f s. write_to cs (place_of cs (f w.name.name)) s) (written_name-bare file rename) (see-bare w.value names)

  update-bare : (b : Branch) → update_at (bare_file file) cs rename names (bare_branch b) ≡ update_at file cs rename names b
  update-bare b =
      ap₂ (λ w ws. record { weight = w; writes = ws; rewards = [] }) (weight-bare names b.weight)
      (mapped bare_write _ _ write-bare b.writes)

  command-bare : (c : Command) → command_at (bare_file file) cs rename names (bare_command c) ≡ command_at file cs rename names c
  command-bare c =
      ap₂ {B = Option Name → Ready} (λ a g. g a) (action-bare rename c)
      (ap₂ (λ g us a. record { action = a; guard = g; updates = us }) (see-bare c.guard names)
      (mapped bare_branch _ _ update-bare c.branches))

module _ (file : File) (v : Valuation) where
  -- ---- constants
  called-bare : (x : Name) → constant_called (bare_file file) x ≡ option_map bare_const (constant_called file x)
  called-bare x = found_after _ _ bare_const (λ c. refl) file.constants

  within-bare : (n : ℕ) (x : Name) → constant_within (bare_file file) v n x ≡ constant_within file v n x
  within-bare zero x = refl
  within-bare (suc n) x =
      ap (λ k. constant_value (v x) (reading (bare_file file) (λ y. known (k y))) (constant_called (bare_file file) x)) (fun_ext (within-bare n))
      ∙ ap₂ (λ read c. constant_value (v x) (read (λ y. known (constant_within file v n y))) c) (reading-bare file) (called-bare x)
      ∙ constant_value-bare (v x) (reading file (λ y. known (constant_within file v n y))) (constant_called file x)

  constant-bare : constant (bare_file file) v ≡ constant file v
  constant-bare = fun_ext (λ x. ap (λ n. constant_within (bare_file file) v n x) (length-map file.constants bare_const) ∙ within-bare (length file.constants) x)

  names-bare : constant_names (bare_file file) v ≡ constant_names file v
  names-bare = ap₂ (λ read k. read (λ x. known (k x))) (reading_in-bare file) constant-bare

  -- ---- the file under the valuation
  condition_kept : has_condition (bare_file file) ≡ has_condition file
  condition_kept = is_some-map bare file.init

  part_columns-bare : (c : Bool) (p : Part) → part_columns (bare_file file) c v (bare_part p) ≡ part_columns file c v p
  part_columns-bare c p =
      ap (λ names. map (column c p.rename (names p.rename)) (map bare_var p.vars)) names-bare
      ∙ mapped bare_var _ _ (column-bare c p.rename (constant_names file v p.rename)) p.vars

  under-bare : (c : Bool) → columns_under (bare_file file) c v ≡ columns_under file c v
  under-bare c =
      ap₂ (λ a b. a ++ b)
      (ap (λ names. map (column c unchanged (names unchanged)) (map bare_var file.globals)) names-bare
      ∙ mapped bare_var _ _ (column-bare c unchanged (constant_names file v unchanged)) file.globals)
      (ap (flat_map (part_columns (bare_file file) c v)) (parts-bare file) ∙ walked bare_part _ _ (part_columns-bare c) (parts file))

  pub columns-bare : columns_of (bare_file file) v ≡ columns_of file v
  columns-bare = under-bare (has_condition (bare_file file)) ∙ ap (λ c. columns_under file c v) condition_kept

  pub scene-bare : scene (bare_file file) v ≡ scene file v
  scene-bare =
      ap₂ (λ a b. record { constants = a; columns = b; has_condition = has_condition (bare_file file) })
      (ap (λ names. map (λ c. constant_seen (v c.name.name) (names unchanged) c.value) (map bare_const file.constants)) names-bare
      ∙ mapped bare_const _ _
      (λ c. constant_seen-bare (v c.name.name) (constant_names file v unchanged) c.value) file.constants) columns-bare
      ∙ ap (λ c. record { constants = (scene file v).constants; columns = columns_of file v; has_condition = c }) condition_kept

  -- ---- at a state
  module _ (s : Values) where
    state_names-bare : names_in (bare_file file) v s ≡ names_in file v s
    state_names-bare =
        ap₂ (λ read k. read k) (reading_in-bare file)
        (ap₂ (λ cs k x. known (value_in cs s k x)) columns-bare constant-bare)

    commands-bare : (p : Part) → part_at (bare_file file) v s (bare_part p) ≡ part_at file v s p
    commands-bare p =
        ap₂ (λ cs names. map (command_at (bare_file file) cs p.rename (names p.rename)) (map bare_command p.commands)) columns-bare state_names-bare
        ∙ mapped bare_command _ _
        (command-bare file (columns_of file v) p.rename (names_in file v s p.rename)) p.commands

    pub moment-bare : moment (bare_file file) v s ≡ moment file v s
    moment-bare =
        ap₂ {B = List (List Ready) → Moment} (λ m g. g m)
        (ap (map (part_at (bare_file file) v s)) (parts-bare file) ∙ mapped bare_part _ _ commands-bare (parts file))
        (ap {B = List (List Ready) → Moment} (λ (names : (Name → Name) → Name → Seen) ms. record {
          condition = condition_seen (names unchanged) (option_map bare file.init);
          modules = ms;
          labels = map (λ l. see l.body (names unchanged)) (map bare_label file.labels);
          rewards = map (λ r. map (item_at (names unchanged)) r.items) (map bare_rewards file.rewards);
        }) state_names-bare
        ∙ ap₂ {B = Seen → List (List Ready) → Moment} (λ c g. g c) (condition-bare (names_in file v s unchanged) file.init)
        (ap₂ (λ ls rs c ms. record { condition = c; modules = ms; labels = ls; rewards = rs })
        (mapped bare_label _ _ (λ l. see-bare l.body (names_in file v s unchanged)) file.labels)
        (mapped bare_rewards _ _
        (λ r. mapped bare_item _ _ (item-bare (names_in file v s unchanged)) r.items) file.rewards)))

-- ---- files that are the same but for places
module _ (f g : File) (e : bare_file f ≡ bare_file g) where
  same_scene : (v : Valuation) → scene f v ≡ scene g v
  same_scene v = sym (scene-bare f v) ∙ ap (λ x. scene x v) e ∙ scene-bare g v

  same_moment : (v : Valuation) (s : Values) → moment f v s ≡ moment g v s
  same_moment v s = sym (moment-bare f v s) ∙ ap (λ x. moment x v s) e ∙ moment-bare g v s

pub meaning_nothing : PlacesMeanNothing
meaning_nothing f g e = model_alike g f (same_scene f g e) (same_moment f g e)

pub bound_nothing : PlacesBoundNothing
bound_nothing f g e = meaning_alike f g (same_scene g f (sym e)) (same_moment g f (sym e))

pub scenes_kept : PlacesKeepScenes
scenes_kept f g e = same_scene f g e

pub moments_kept : PlacesKeepMoments
moments_kept f g e = same_moment f g e
