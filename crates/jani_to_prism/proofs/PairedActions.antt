-- The pairs of a translation's actions: each label of a choice has one, whose label is the old one.
use Rattle.std.specs.Prelude.{◌≡◌, List, [], ◌∷◌, map, Bool, true, false, Option, Some, None, bytes_eq}
use Rattle.std.specs.List.{filter, find, flat_map, list_any, AllByRecursion as Each}
use Rattle.std.specs.Option.{option_map}
use Rattle.std.proofs.Common.{refl, sym, ap, ◌∙◌, subst}
use Rattle.std.proofs.lemmas.Bool.{or_left, or_right}
use Rattle.std.proofs.lemmas.Slice.Eq.{bytes_eq-Decides}
use Rattle.basics.specs.Each.{each_any, each_filter, each_flat, each_join, each_map, each_then, each_unit}
use Rattle.basics.specs.Mapped.{found_mapped}
use Rattle.process_core.specs.Instance.{Valuation, only_if}
use Rattle.process_core.specs.Ready.{Values, Name, Ready}
use Rattle.carry_maps.specs.declared.map.LabelPair.{LabelPair}
use Rattle.carry_maps.specs.Maps.{has_pair, jani_label, label_in}
use Rattle.prism_flat.specs.Moment as prism_moment
use Rattle.prism_flat.specs.Process as prism_process
use Rattle.jani_tree.specs.Syntax.{File}
use Rattle.prism_translation.specs.Elements.{Element, elements, Placed, placed_edges}
use Rattle.prism_translation.specs.Modules.{Action, actions}
use Rattle.prism_translation.specs.Names.{new_names}
use Rattle.prism_translation.specs.StateLaws.{old_name_of, old_label_by}
use Rattle.prism_translation.specs.Targets.{serves, serves_silently, is_blocked}
use Rattle.prism_translation.specs.Translated.{translated}
use Rattle.prism_translation.proofs.CommandsAlike.{Evaluation, commands_at, module_ready}
use Rattle.prism_translation.proofs.Evaluated.{evaluation, modules_are}
use Rattle.prism_translation.proofs.Numbered.{no_element}
use Rattle.jani_to_prism.specs.Maps.{pair_of}
use Rattle.jani_to_prism.proofs.ActionLabels.{Acts, IsLabelledChoice, labels_of_modules}

-- the label is that of a pair, or none
abbrev pub HasPair : List Action → Option Name → Type 0
HasPair ts l = has_pair (map pair_of ts) l ≡ true

each_paired : (ts : List Action) → Each (λ t. HasPair ts (Some t.name)) ts
each_paired [] = tt
each_paired (t ∷ ts) = (
  or_left (bytes_eq t.name t.name) (list_any (λ p. bytes_eq t.name p.prism) (map pair_of ts)) ((bytes_eq-Decides t.name t.name).1 refl),
  each_then (λ u. HasPair ts (Some u.name)) (λ u. HasPair (t ∷ ts) (Some u.name))
      (λ u h. or_right (bytes_eq u.name t.name) (list_any (λ p. bytes_eq u.name p.prism) (map pair_of ts)) h) ts (each_paired ts),
)

label_of : (o : Option Action) → label_in (option_map pair_of o) ≡ old_name_of o
label_of None = refl
label_of (Some t) = refl

pub labels_agree : (ts : List Action) (l : Option Name) → jani_label (map pair_of ts) l ≡ old_label_by ts l
labels_agree ts None = refl
labels_agree ts (Some x) =
    ap label_in (found_mapped pair_of (λ (p : LabelPair). bytes_eq x p.prism) (λ (t : Action). bytes_eq x t.name) (λ t. refl) ts) ∙ label_of (find (λ t. bytes_eq x t.name) ts)

-- ---- the choices at a state of the translated file
module _ (file : File) (v : Valuation) (s : Values) where
  abbrev acts : List Action
  acts = actions file (new_names file)

  abbrev here : Evaluation
  here = evaluation file v v s s no_element

  abbrev IsPaired : Ready → Type 0
  IsPaired = Acts (HasPair acts)

  abbrev IsNamed : Action → Type 0
  IsNamed t = HasPair acts (Some t.name)

  edge_paired : (p : Placed) → Each IsPaired (commands_at file acts here p)
  edge_paired p =
      let served = filter (λ t. serves file t.target p) acts in
      each_join IsPaired (map (λ t. here.command p (Some t.name)) served) (only_if (serves_silently file p) (here.command p None))
      (each_map IsNamed IsPaired (λ t. here.command p (Some t.name)) (λ t h. h) served (each_filter IsNamed (λ t. serves file t.target p) acts (each_paired acts))) (silent_paired (serves_silently file p))
    where
      silent_paired : (b : Bool) → Each IsPaired (only_if b (here.command p None))
      silent_paired true = (refl, tt)
      silent_paired false = tt

  module_paired : (el : Element) → Each IsPaired (module_ready file acts here el)
  module_paired el =
      let blocked = filter (λ t. is_blocked file el t.target) acts in
      each_join IsPaired (flat_map (commands_at file acts here) (placed_edges el)) (map (λ t. here.block t.name) blocked)
      (each_flat (λ (p : Placed). Unit {0}) IsPaired (commands_at file acts here) (λ p u. edge_paired p) (placed_edges el) (each_unit (placed_edges el)))
      (each_map IsNamed IsPaired (λ t. here.block t.name) (λ t h. h) blocked (each_filter IsNamed (λ t. is_blocked file el t.target) acts (each_paired acts)))

  modules_paired : Each (Each IsPaired) (prism_moment.moment (translated file) v s).modules
  modules_paired =
      subst (Each (Each IsPaired)) (sym (modules_are file v v s s no_element)) (each_any (Each IsPaired) (module_ready file acts here) module_paired (elements file))

  pub choices_paired : Each (IsLabelledChoice (HasPair acts)) ((prism_process.model (translated file)).choices v s)
  choices_paired =
      let k = prism_moment.moment (translated file) v s in
      labels_of_modules (HasPair acts) refl s (prism_process.choice_rewards k.rewards) k.modules modules_paired
