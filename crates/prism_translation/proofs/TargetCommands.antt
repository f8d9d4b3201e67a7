-- Each target of a file has a command: one of a vector, in which some element takes part, and one of a silent edge.
use Rattle.std.specs.Prelude.{◌≡◌, List, [], ◌∷◌, map, Bool, true, ◌&&◌, ◌||◌, is_some, get_or}
use Rattle.std.specs.List.{flat_map, filter, list_any, All}
use Rattle.std.proofs.Common.{refl, sym, ap, ap₂, subst, ◌∙◌}
use Rattle.std.proofs.lemmas.List.Elements.{All-append, All-map, All-filter}
use Rattle.basics.specs.Members.{All-unmap, any_agree}
use Rattle.choice_laws.proofs.Walks.{has_some, some-append, All-flat_map}
use Rattle.process_core.specs.Instance.{only_if}
use Rattle.jani_tree.specs.Syntax.{File}
use Rattle.prism_translation.specs.Elements.{Element, elements, Placed, placed_edges, rewards}
use Rattle.prism_translation.specs.Targets.{part_of, Target, targets, vector_targets, silent_targets, is_silent, serves}
use Rattle.prism_translation.specs.Modules.{Action}
use Rattle.prism_translation.specs.Sound.{HasPart}
use Rattle.prism_translation.proofs.OnlyIf.{some-only_if}
use Rattle.prism_translation.proofs.CommandsAlike.{Evaluation, AreCommands, joins, live}
use Rattle.prism_translation.proofs.Vectors.{joins_part}
use Rattle.prism_translation.proofs.Silent.{silently, lists_silent}
use Rattle.prism_translation.proofs.Actions.{IsJoined}

some_walk : {X Y : Type 0} (b : X → Bool) (f : X → Y) (xs : List X) → has_some (flat_map (λ x. only_if (b x) (f x)) xs) ≡ list_any b xs
some_walk b f [] = refl
some_walk b f (x ∷ xs) = some-append (only_if (b x) (f x)) (flat_map (λ x. only_if (b x) (f x)) xs) ∙ ap₂ (λ c d. c || d) (some-only_if (b x) (f x)) (some_walk b f xs)

module _ (file : File) (acts : List Action) (seen : Evaluation) where
  abbrev joined : Target → Element → Bool
  joined t el = joins file acts seen t el

  abbrev HasCommand : Target → Type 0
  HasCommand t = list_any (joined t) (elements file) ≡ true

  any_same_in : {X : Type 0} (p q : X → Bool) (xs : List X) → ((x : X) → p x ≡ q x) → list_any p xs ≡ list_any q xs
  any_same_in p q xs h = any_agree p q h xs

  of_vectors : All (HasPart file) file.vectors → All HasCommand (flat_map (vector_targets file) file.vectors)
  of_vectors h =
      All-flat_map HasCommand (vector_targets file) file.vectors
      (λ i a m k d l.
      let v = get_or file.vectors i a in
      let t = get_or (vector_targets file v) k d in
      any_same_in (joined t) (λ el. is_some (part_of v el.number)) (elements file) (λ el. joins_part file v acts seen el k d l)
      ∙ h i a m)

  of_silent : All HasCommand (silent_targets file)
  of_silent =
      All-flat_map HasCommand (λ el. map silently (filter (λ p. is_silent p && rewards file p) (placed_edges el))) (elements file)
      (λ i a m.
      let el = get_or (elements file) i a in
      let test = λ (p : Placed). is_silent p && rewards file p in
      All-map HasCommand silently (filter test (placed_edges el))
      (All-filter test (λ q. HasCommand (silently q)) (placed_edges el)
      (λ k d l.
      let q = get_or (placed_edges el) k d in
      let runs = λ (p : Placed). live file acts seen p in
      sym (some_walk (joined (silently q)) (λ el. filter runs (filter (serves file (silently q)) (placed_edges el))) (elements file))
      ∙ ap has_some (lists_silent file acts seen i a m k d l))))

  pub all_joined : (are : AreCommands file acts seen) → map (λ t. t.target) acts ≡ targets file → All (HasPart file) file.vectors →
      All (IsJoined file acts seen are) acts
  all_joined are e h =
      All-unmap HasCommand (λ (t : Action). t.target) acts
      (subst (λ ts. All HasCommand ts) (sym e) (All-append HasCommand (flat_map (vector_targets file) file.vectors) (silent_targets file) (of_vectors h) of_silent))
