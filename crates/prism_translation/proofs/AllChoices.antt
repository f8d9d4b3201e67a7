-- All choices of modules and of elements, from what commands and edges come out as at a state: each choice of the modules of
-- a translated file is one of the elements of the file, equally often.
use Rattle.std.specs.Prelude.{◌≡◌, List, [], ◌∷◌, ◌++◌, map, Bool, true, Option, Some, None, get_or, IsTrue}
use Rattle.std.specs.List.{flat_map, All}
use Rattle.std.proofs.Common.{refl, sym, ap, ◌∙◌, append_assoc}
use Rattle.std.proofs.lemmas.List.{map-append}
use Rattle.std.proofs.lemmas.List.Folds.{flat_map-map}
use Rattle.std.proofs.lemmas.List.Concat.{flat_map-append, flat_map_single}
use Rattle.frac_core.specs.Fraction.{Fraction}
use Rattle.process_core.specs.Process.{EquallyOften, Choice, choice_image}
use Rattle.process_core.specs.Product.{one_of_each, map-flat_map, flat_map-flat_map}
use Rattle.process_core.specs.Often.{often_refl, often_same, often_trans, often-flat_map, often-append, often_turned}
use Rattle.process_core.specs.Ready.{Values, Name, Reward, Ready, Sum, Combination, together, sharing, silent, taking, actions_of, of_modules, of_elements}
use Rattle.process_core.specs.Choices.{choice_of, choices}
use Rattle.process_core.specs.Combined.{choices-append}
use Rattle.process_core.specs.Follow.{FollowsReady}
use Rattle.choice_laws.specs.Rewards.{EarnsBy, bare_ready}
use Rattle.choice_laws.proofs.Rewards.{PaysHere}
use Rattle.choice_laws.proofs.Walks.{flat_map_agree_in}
use Rattle.jani_tree.specs.Syntax.{Vector, File}
use Rattle.jani_meaning.specs.Elements as jani
use Rattle.jani_meaning.specs.Moment.{vector_of}
use Rattle.prism_translation.specs.Elements.{elements, Placed, placed_edges}
use Rattle.prism_translation.specs.Targets.{Target, targets, vector_targets, silent_targets, result_of}
use Rattle.prism_translation.specs.Modules.{Action}
use Rattle.prism_translation.specs.StateLaws.{old_label_by}
use Rattle.prism_translation.proofs.Numbered.{numbered_walk}
use Rattle.prism_translation.proofs.CommandsAlike.{Evaluation, module_ready, element_ready, AreCommands, live, lists, choices_of_action}
use Rattle.prism_translation.proofs.Vectors.{elements_here, choices_of_vector}
use Rattle.prism_translation.proofs.Silent.{of_target, IsAlike, choices_of_silent}
use Rattle.prism_translation.proofs.Actions.{AreDistinct, old_labels, are_alone, IsJoined, actions_are_names}

module _ (file : File) (acts : List Action) (seen : Evaluation) where
  abbrev pub modules_here : List (List Ready)
  modules_here = map (module_ready file acts seen) (elements file)

  abbrev pub elements_at : List (List Ready)
  elements_at = map (element_ready file acts seen) (elements file)

  module _ (are : AreCommands file acts seen) (has : Values → Bool) (state : Values → Values) (paid : Placed → List Reward) (none : List Sum) (given : Option Name → List Sum) where
    -- the way earns what its action's items add up to
    abbrev pub EarnsWay : Action → List Placed → Type 0
    EarnsWay t ps = All (PaysHere seen.edge paid) ps × EarnsBy none (given (Some t.name)) (flat_map paid ps)

    abbrev pub IsServed : Action → Type 0
    IsServed t =
        All (λ el. All (λ p. live file acts seen p ≡ true → FollowsReady has state (seen.command p (Some t.name)) (bare_ready (seen.edge p))) (placed_edges el)) (elements file)
        × All (EarnsWay t) (one_of_each (lists file acts seen t.target))

    -- what is asked of the names and of what commands and edges come out as
    pub record AreServed (s : Values) : Type 0 where
      pub here : IsTrue (has s)
      pub made_for : map (λ t. t.target) acts ≡ targets file
      pub distinct : AreDistinct acts
      pub joined : All (IsJoined file acts seen are) acts
      pub served : All IsServed acts
      pub silent : All (λ el. All (IsAlike file acts seen are has state (old_label_by acts) paid s none (given None)) (placed_edges el)) (elements file)

    abbrev of_action : Values → Name → List (Choice Name Fraction Values)
    of_action s x = map (choice_image (old_label_by acts) state) (choices s (together (Some x) (given (Some x)) (sharing x modules_here)))

    abbrev target_choices : Values → Target → List (Choice Name Fraction Values)
    target_choices s t = of_target file acts seen (state s) none t

    actions_served : (s : Values) → AreServed s → All (λ t. of_action s t.name ≡ target_choices s t.target) acts
    actions_served s h k d l =
        let t = get_or acts k d in
        choices_of_action file acts seen are t (are_alone file acts seen h.distinct k d l) has state (old_label_by acts) paid
        s h.here none (given (Some t.name)) (old_labels acts h.distinct k d l) (h.served k d l).0 (h.served k d l).1

    all_actions : (s : Values) → AreServed s → EquallyOften (flat_map (of_action s) (actions_of modules_here)) (flat_map (target_choices s) (targets file))
    all_actions s h =
        often_trans
        (often-flat_map (of_action s) (of_action s) (actions_are_names file acts seen are h.distinct h.joined) (λ x. often_refl (of_action s x)))
        (often_same _ _
        (flat_map-map (of_action s) (λ (t : Action). t.name) acts
        ∙ flat_map_agree_in (λ t. of_action s t.name) (λ t. target_choices s t.target) acts (actions_served s h)
        ∙ sym (flat_map-map (target_choices s) (λ (t : Action). t.target) acts)
        ∙ ap (flat_map (target_choices s)) h.made_for))

    elements_same : (v : Vector) → elements_here file v acts seen are ≡ elements_at
    elements_same v =
        sym (numbered_walk (λ el. element_ready file acts seen el ∷ []) 0 (jani.elements file))
        ∙ flat_map_single (element_ready file acts seen) (elements file)

    abbrev of_vector : Values → Vector → List (Choice Name Fraction Values)
    of_vector s v = choices (state s) (together (result_of v) none (taking (vector_of v).parts elements_at))

    vectors_alike : (s : Values) → EquallyOften (flat_map (target_choices s) (flat_map (vector_targets file) file.vectors)) (flat_map (of_vector s) file.vectors)
    vectors_alike s =
        often_trans
        (often_same _ _ (flat_map-flat_map (target_choices s) (vector_targets file) file.vectors))
        (often-flat_map (λ v. flat_map (target_choices s) (vector_targets file v)) (of_vector s) (often_refl file.vectors)
        (λ v. often_trans (choices_of_vector file v acts seen are (state s) none)
        (often_same _ _ (ap (λ es. choices (state s) (together (result_of v) none (taking (vector_of v).parts es))) (elements_same v)))))

    prism_parts : (s : Values) → map (choice_image (old_label_by acts) state) (choices s (of_modules given modules_here))
        ≡ map (choice_image (old_label_by acts) state) (choices s (silent (given None) modules_here)) ++ flat_map (of_action s) (actions_of modules_here)
    prism_parts s =
        let T : Name → List Combination = λ a. together (Some a) (given (Some a)) (sharing a modules_here) in
        ap (map (choice_image (old_label_by acts) state))
        (choices-append s (silent (given None) modules_here) (flat_map T (actions_of modules_here))
        ∙ ap (λ l. choices s (silent (given None) modules_here) ++ l) (flat_map-flat_map (choice_of s) T (actions_of modules_here)))
        ∙ map-append (choice_image (old_label_by acts) state) (choices s (silent (given None) modules_here)) (flat_map (λ a. choices s (T a)) (actions_of modules_here))
        ∙ ap (λ l. map (choice_image (old_label_by acts) state) (choices s (silent (given None) modules_here)) ++ l)
        (map-flat_map (choice_image (old_label_by acts) state) (λ a. choices s (T a)) (actions_of modules_here))

    jani_parts : (u : Values) → choices u (of_elements none (map vector_of file.vectors) elements_at)
        ≡ choices u (silent none elements_at) ++ flat_map (λ v. choices u (together (result_of v) none (taking (vector_of v).parts elements_at))) file.vectors
    jani_parts u =
        choices-append u (silent none elements_at) (flat_map (λ x. together x.result none (taking x.parts elements_at)) (map vector_of file.vectors))
        ∙ ap (λ l. choices u (silent none elements_at) ++ l)
        (flat_map-flat_map (choice_of u) (λ x. together x.result none (taking x.parts elements_at)) (map vector_of file.vectors)
        ∙ flat_map-map (λ x. choices u (together x.result none (taking x.parts elements_at))) vector_of file.vectors)

    -- The choices of the modules are those of the elements.
    pub choices_alike : (s : Values) → AreServed s →
        EquallyOften (map (choice_image (old_label_by acts) state) (choices s (of_modules given modules_here))) (choices (state s) (of_elements none (map vector_of file.vectors) elements_at))
    choices_alike s h =
        let u = state s in
        let A = map (choice_image (old_label_by acts) state) (choices s (silent (given None) modules_here)) in
        let B = flat_map (target_choices s) (flat_map (vector_targets file) file.vectors) in
        let C = flat_map (target_choices s) (silent_targets file) in
        often_trans (often_same _ _ (prism_parts s))
        (often_trans (often-append (often_refl A) (all_actions s h))
        (often_trans
        (often-append (often_refl A) (often_trans (often_same _ _ (flat_map-append (target_choices s) (flat_map (vector_targets file) file.vectors) (silent_targets file))) (often_turned B C)))
        (often_trans
        (often_same _ _ (sym (append_assoc A C B)))
        (often_trans
        (often-append (choices_of_silent file acts seen are has state (old_label_by acts) paid s h.here none (given None) refl h.silent) (vectors_alike s))
        (often_same _ _ (sym (jani_parts u)))))))
