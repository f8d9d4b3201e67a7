-- The commands of a translated file beside the edges that they are made of, at a state: the choices of a target's action are
-- those of the edges that serve the target.
use Rattle.std.specs.Prelude.{◌≡◌, List, [], ◌∷◌, ◌++◌, map, Bool, true, false, not, ◌&&◌, ◌||◌, Option, Some, None, bytes_eq, get_or, IsTrue}
use Rattle.std.specs.List.{flat_map, filter, list_any, All, AllZip}
use Rattle.std.proofs.Common.{refl, sym, ap, ap₂, ◌∙◌, append-nil}
use Rattle.std.proofs.lemmas.List.Elements.{filter-append, All-nil, All-cons, All-head, All-tail, All-weaker, All-filter, All-append, filter_agree, filter_passes}
use Rattle.basics.specs.Members.{filter-map}
use Rattle.process_core.specs.Process.{choice_image}
use Rattle.process_core.specs.Product.{one_of_each, map-flat_map, flat_map_agree}
use Rattle.process_core.specs.Ready.{Values, Name, Reward, Ready, Sum, same_label, has_action, together, sharing}
use Rattle.process_core.specs.Choices.{is_false, choices}
use Rattle.process_core.specs.Follow.{FollowsReady, together_follow, choices_same}
use Rattle.choice_laws.specs.Rewards.{bare_ready, is_enabled, EarnsBy}
use Rattle.choice_laws.proofs.Participants.{sharing_walk}
use Rattle.choice_laws.proofs.Rewards.{PaysHere, choices_enabled, choices_earned}
use Rattle.choice_laws.proofs.Walks.{AllZip-maps_in, any_left, filter-flat_map, filter_agree_in, filter_walk, flat_map_agree_in, has_some, some-append, some-map}
use Rattle.process_core.specs.Instance.{only_if}
use Rattle.jani_tree.specs.Syntax.{File}
use Rattle.prism_translation.specs.Elements.{Element, elements, Placed, placed_edges, action_of}
use Rattle.prism_translation.specs.Targets.{Target, serves, serves_silently, is_blocked, old_name}
use Rattle.prism_translation.specs.Modules.{Action}
use Rattle.prism_translation.proofs.OnlyIf.{filter-only_if, map-only_if, some-only_if, none_if}

-- What the edges of a file and the commands of its translation come out as, at a state of each: an edge, its command with an
-- action or without, and the command that blocks an action; and whether an edge begins at the current location.
pub record Evaluation : Type 0 where
  pub edge : Placed → Ready
  pub command : Placed → Option Name → Ready
  pub block : Name → Ready
  pub current : Placed → Bool

module _ (file : File) (acts : List Action) (seen : Evaluation) where
  -- ---- what commands and edges come out as
  abbrev pub commands_at : Placed → List Ready
  commands_at p =
      map (λ t. seen.command p (Some t.name)) (filter (λ t. serves file t.target p) acts)
      ++ only_if (serves_silently file p) (seen.command p None)

  abbrev pub module_ready : Element → List Ready
  module_ready el =
      flat_map commands_at (placed_edges el)
      ++ map (λ t. seen.block t.name) (filter (λ t. is_blocked file el t.target) acts)

  abbrev pub element_ready : Element → List Ready
  element_ready el = map seen.edge (filter seen.current (placed_edges el))

  abbrev pub live : Placed → Bool
  live p = seen.current p && is_enabled (seen.edge p)

  -- a command is enabled where its edge is, at the current location
  abbrev pub IsEnabledAlike : Placed → Type 0
  IsEnabledAlike p = (a : Option Name) → is_enabled (seen.command p a) ≡ live p

  pub record AreCommands : Type 0 where
    pub command : (p : Placed) (a : Option Name) → (seen.command p a).action ≡ a
    pub edge : (p : Placed) → (seen.edge p).action ≡ action_of p.edge
    pub block : (x : Name) → (seen.block x).action ≡ Some x
    pub never : (x : Name) → is_false (seen.block x).guard.value ≡ true
    pub enabled : All (λ el. All IsEnabledAlike (placed_edges el)) (elements file)

  -- no other action has its name
  abbrev pub IsAlone : Action → Type 0
  IsAlone t = (q : Action → Bool) → filter (λ u. bytes_eq t.name u.name) (filter q acts) ≡ only_if (q t) t

  -- the element has a command for the target
  abbrev pub joins : Target → Element → Bool
  joins t el = list_any (serves file t) (placed_edges el) || is_blocked file el t

  abbrev pub serving : Target → Element → List Placed
  serving t el = filter (serves file t) (placed_edges el)

  -- for each element that has a command for the target, the edges that serve it and may run
  abbrev pub lists : Target → List (List Placed)
  lists t = flat_map (λ el. only_if (joins t el) (filter live (serving t el))) (elements file)

  abbrev pub served_ready : Action → Element → List Ready
  served_ready t el = map (λ p. seen.command p (Some t.name)) (serving t.target el) ++ only_if (is_blocked file el t.target) (seen.block t.name)

  module _ (are : AreCommands) (t : Action) (alone : IsAlone t) where
    no_label : (x : Name) (r : Ready) → r.action ≡ None → has_action (Some x) r ≡ false
    no_label x r e = ap (same_label (Some x)) e

    named_at : (p : Placed) → filter (has_action (Some t.name)) (commands_at p) ≡ only_if (serves file t.target p) (seen.command p (Some t.name))
    named_at p =
        filter-append (has_action (Some t.name)) (map (λ u. seen.command p (Some u.name)) (filter (λ u. serves file u.target p) acts)) (only_if (serves_silently file p) (seen.command p None))
        ∙ ap₂ (λ a b. a ++ b)
        (filter-map (has_action (Some t.name)) (λ u. seen.command p (Some u.name)) (filter (λ u. serves file u.target p) acts)
        ∙ ap (map (λ u. seen.command p (Some u.name)))
        (filter_agree (λ u. has_action (Some t.name) (seen.command p (Some u.name))) (λ u. bytes_eq t.name u.name) (λ u. ap (same_label (Some t.name)) (are.command p (Some u.name))) (filter (λ u. serves file u.target p) acts)
        ∙ alone (λ u. serves file u.target p))
        ∙ map-only_if (λ u. seen.command p (Some u.name)) (serves file t.target p) t)
        (filter-only_if (has_action (Some t.name)) (serves_silently file p) (seen.command p None)
        ∙ ap (λ b. only_if (serves_silently file p && b) (seen.command p None)) (no_label t.name (seen.command p None) (are.command p None))
        ∙ none_if (serves_silently file p) (seen.command p None))
        ∙ append-nil (only_if (serves file t.target p) (seen.command p (Some t.name)))

    named_commands : (el : Element) → filter (has_action (Some t.name)) (module_ready el) ≡ served_ready t el
    named_commands el =
        filter-append (has_action (Some t.name)) (flat_map commands_at (placed_edges el)) (map (λ u. seen.block u.name) (filter (λ u. is_blocked file el u.target) acts))
        ∙ ap₂ (λ a b. a ++ b)
        (filter-flat_map (has_action (Some t.name)) commands_at (placed_edges el)
        ∙ flat_map_agree _ _ named_at (placed_edges el)
        ∙ filter_walk (serves file t.target) (λ p. seen.command p (Some t.name)) (placed_edges el))
        (filter-map (has_action (Some t.name)) (λ u. seen.block u.name) (filter (λ u. is_blocked file el u.target) acts)
        ∙ ap (map (λ u. seen.block u.name))
        (filter_agree (λ u. has_action (Some t.name) (seen.block u.name)) (λ u. bytes_eq t.name u.name) (λ u. ap (same_label (Some t.name)) (are.block u.name)) (filter (λ u. is_blocked file el u.target) acts)
        ∙ alone (λ u. is_blocked file el u.target))
        ∙ map-only_if (λ u. seen.block u.name) (is_blocked file el t.target) t)

    has_command : (el : Element) → list_any (has_action (Some t.name)) (module_ready el) ≡ joins t.target el
    has_command el =
        any_left (has_action (Some t.name)) (module_ready el)
        ∙ ap has_some (named_commands el)
        ∙ some-append (map (λ p. seen.command p (Some t.name)) (serving t.target el)) (only_if (is_blocked file el t.target) (seen.block t.name))
        ∙ ap₂ (λ a b. a || b)
        (some-map (λ p. seen.command p (Some t.name)) (serving t.target el) ∙ sym (any_left (serves file t.target) (placed_edges el)))
        (some-only_if (is_blocked file el t.target) (seen.block t.name))

    live_commands : (el : Element) → All IsEnabledAlike (placed_edges el) → filter is_enabled (served_ready t el) ≡ map (λ p. seen.command p (Some t.name)) (filter live (serving t.target el))
    live_commands el en =
        filter-append is_enabled (map (λ p. seen.command p (Some t.name)) (serving t.target el)) (only_if (is_blocked file el t.target) (seen.block t.name))
        ∙ ap₂ (λ a b. a ++ b)
        (filter-map is_enabled (λ p. seen.command p (Some t.name)) (serving t.target el)
        ∙ ap (map (λ p. seen.command p (Some t.name)))
        (filter_agree_in (λ p. is_enabled (seen.command p (Some t.name))) live (serving t.target el)
        (All-filter (serves file t.target) (λ p. is_enabled (seen.command p (Some t.name)) ≡ live p) (placed_edges el) (All-weaker IsEnabledAlike (λ p. is_enabled (seen.command p (Some t.name)) ≡ live p) (λ p h. h (Some t.name)) (placed_edges el) en))))
        (filter-only_if is_enabled (is_blocked file el t.target) (seen.block t.name)
        ∙ ap (λ b. only_if (is_blocked file el t.target && not b) (seen.block t.name)) (are.never t.name)
        ∙ none_if (is_blocked file el t.target) (seen.block t.name))
        ∙ append-nil (map (λ p. seen.command p (Some t.name)) (filter live (serving t.target el)))

    -- what is left of the commands of the target
    pub shared_commands : map (filter is_enabled) (sharing t.name (map module_ready (elements file))) ≡ map (map (λ p. seen.command p (Some t.name))) (lists t.target)
    shared_commands =
        ap (map (filter is_enabled)) (sharing_walk t.name module_ready (elements file))
        ∙ map-flat_map (filter is_enabled) (λ el. only_if (list_any (has_action (Some t.name)) (module_ready el)) (filter (has_action (Some t.name)) (module_ready el))) (elements file)
        ∙ flat_map_agree_in _ (λ el. map (map (λ p. seen.command p (Some t.name))) (only_if (joins t.target el) (filter live (serving t.target el)))) (elements file)
        (λ k d l.
        let el = get_or (elements file) k d in
        map-only_if (filter is_enabled) (list_any (has_action (Some t.name)) (module_ready el)) (filter (has_action (Some t.name)) (module_ready el))
        ∙ ap₂ (λ b l. only_if b l) (has_command el) (ap (filter is_enabled) (named_commands el) ∙ live_commands el (are.enabled k d l))
        ∙ sym (map-only_if (map (λ p. seen.command p (Some t.name))) (joins t.target el) (filter live (serving t.target el))))
        ∙ sym (map-flat_map (map (λ p. seen.command p (Some t.name))) (λ el. only_if (joins t.target el) (filter live (serving t.target el))) (elements file))

    module _ (has : Values → Bool) (state : Values → Values) (label : Option Name → Option Name) (paid : Placed → List Reward) where
      abbrev FollowsHere : Placed → Type 0
      FollowsHere p = live p ≡ true → FollowsReady has state (seen.command p (Some t.name)) (bare_ready (seen.edge p))

      lists_follow : All (λ el. All FollowsHere (placed_edges el)) (elements file) →
          AllZip (AllZip (FollowsReady has state)) (map (map (λ p. seen.command p (Some t.name))) (lists t.target)) (map (map (λ p. bare_ready (seen.edge p))) (lists t.target))
      lists_follow h =
          AllZip-maps_in (AllZip (FollowsReady has state)) (map (λ p. seen.command p (Some t.name))) (map (λ p. bare_ready (seen.edge p))) (lists t.target)
          (walk (elements file) h)
        where
          one : (el : Element) → All FollowsHere (placed_edges el) → AllZip (FollowsReady has state) (map (λ p. seen.command p (Some t.name)) (filter live (serving t.target el))) (map (λ p. bare_ready (seen.edge p)) (filter live (serving t.target el)))
          one el f =
              AllZip-maps_in (FollowsReady has state) (λ p. seen.command p (Some t.name)) (λ p. bare_ready (seen.edge p)) (filter live (serving t.target el))
              (λ k d l.
              All-filter live FollowsHere (serving t.target el) (All-filter (serves file t.target) FollowsHere (placed_edges el) f) k d l
              (filter_passes live (serving t.target el) k d l))

          IsFollowed : List Placed → Type 0
          IsFollowed ps = AllZip (FollowsReady has state) (map (λ p. seen.command p (Some t.name)) ps) (map (λ p. bare_ready (seen.edge p)) ps)

          walk : (els : List Element) → All (λ el. All FollowsHere (placed_edges el)) els → All IsFollowed (flat_map (λ el. only_if (joins t.target el) (filter live (serving t.target el))) els)
          walk [] k = All-nil IsFollowed
          walk (el ∷ els) k =
              All-append IsFollowed (only_if (joins t.target el) (filter live (serving t.target el))) (flat_map (λ el. only_if (joins t.target el) (filter live (serving t.target el))) els)
              (by_test (joins t.target el) (All-head (λ el. All FollowsHere (placed_edges el)) el els k)) (walk els (All-tail (λ el. All FollowsHere (placed_edges el)) el els k))
            where
              by_test : (b : Bool) → All FollowsHere (placed_edges el) → All IsFollowed (only_if b (filter live (serving t.target el)))
              by_test true f = All-cons IsFollowed (filter live (serving t.target el)) [] (one el f) (All-nil IsFollowed)
              by_test false f = All-nil IsFollowed

      -- The choices of the target's action are those of the edges that serve it.
      pub choices_of_action : (s : Values) → IsTrue (has s) → (none given : List Sum) → label (Some t.name) ≡ old_name t.target →
          All (λ el. All FollowsHere (placed_edges el)) (elements file) →
          All (λ ps. All (PaysHere seen.edge paid) ps × EarnsBy none given (flat_map paid ps)) (one_of_each (lists t.target)) →
          map (choice_image label state) (choices s (together (Some t.name) given (sharing t.name (map module_ready (elements file)))))
          ≡ choices (state s) (together (old_name t.target) none (map (map seen.edge) (lists t.target)))
      choices_of_action s i none given e f h =
          ap (map (choice_image label state))
          (choices_enabled s (Some t.name) given (sharing t.name (map module_ready (elements file)))
          ∙ ap (λ ls. choices s (together (Some t.name) given ls)) shared_commands)
          ∙ sym (choices_same has state label s i (together (Some t.name) given (map (map (λ p. seen.command p (Some t.name))) (lists t.target)))
          (together (old_name t.target) given (map (map (λ p. bare_ready (seen.edge p))) (lists t.target)))
          (together_follow has state label (Some t.name) (old_name t.target) given given (sym e) refl
          (map (map (λ p. seen.command p (Some t.name))) (lists t.target)) (map (map (λ p. bare_ready (seen.edge p))) (lists t.target)) (lists_follow f)))
          ∙ sym (choices_earned seen.edge paid (state s) (old_name t.target) none given (lists t.target) h)
