-- At a state the choices of a translated file are those of the file at the state that goes with it, each equally often: what
-- that asks of the file's edges and of their rewards at the state.
use Rattle.std.specs.Prelude.{◌≡◌, ◌<◌, ℕ, List, [], ◌++◌, Bool, map, length, true, Option, Some, None, get_or}
use Rattle.std.specs.List.{flat_map, All}
use Rattle.std.specs.Option.{option_map}
use Rattle.std.proofs.Common.{refl, sym, ap, subst, eq-eqb}
use Rattle.basics.specs.Booleans.{first_true}
use Rattle.bridge_io.specs.declared.reason.Named.{Named}
use Rattle.process_core.specs.Process.{EquallyOften, choice_image}
use Rattle.process_core.specs.Often.{often_same, often_trans}
use Rattle.process_core.specs.Product.{one_of_each}
use Rattle.process_core.specs.Ready.{Values, Name, Reward, Ready, Sum, of_modules, of_elements}
use Rattle.process_core.specs.Choices as core
use Rattle.process_core.specs.Follow.{FollowsReady}
use Rattle.choice_laws.specs.Rewards.{EarnsBy, bare_ready, is_enabled}
use Rattle.choice_laws.proofs.Rewards.{PaysHere}
use Rattle.prism_names.specs.Names as prism_names
use Rattle.process_core.specs.Instance.{Valuation}
use Rattle.prism_flat.specs.Moment as prism_moment
use Rattle.prism_flat.specs.Process as prism_process
use Rattle.prism_flat.specs.Process.{choice_rewards}
use Rattle.jani_tree.specs.Syntax.{File}
use Rattle.jani_meaning.specs.Moment as jani_moment
use Rattle.jani_meaning.specs.Moment.{vector_of}
use Rattle.jani_meaning.specs.Process as jani_process
use Rattle.jani_meaning.specs.Process.{no_reward}
use Rattle.prism_translation.specs.Elements.{Element, elements, edges_of, Placed, placed_edges}
use Rattle.prism_translation.specs.Targets.{serves_silently}
use Rattle.prism_translation.specs.Names.{new_names}
use Rattle.prism_translation.specs.Modules.{Action, actions}
use Rattle.prism_translation.specs.StateLaws.{columns, state_of, old_label}
use Rattle.prism_translation.specs.Translated.{translated}
use Rattle.prism_translation.specs.Sound.{HasPart}
use Rattle.prism_translation.proofs.Numbered.{at_element, no_element}
use Rattle.prism_translation.proofs.Evaluated.{evaluation, edge_ready, command_ready, blocked, current, elements_are, modules_are}
use Rattle.prism_translation.proofs.Follows.{SoundLocation, SoundEdge, enabled_alike, command_follows, has}
use Rattle.prism_translation.proofs.CommandsAlike.{Evaluation, AreCommands, live, lists}
use Rattle.prism_translation.proofs.Apart.{made_for, actions_differ}
use Rattle.prism_translation.proofs.TargetCommands.{all_joined}
use Rattle.prism_translation.proofs.AllChoices.{AreServed, choices_alike}

module _ (file : File) (v w : Valuation) (s : Values) where
  abbrev u : Values
  u = state_of file s

  abbrev pub edge_here : Placed → Ready
  edge_here p = edge_ready file v w s u p

  abbrev pub command_here : Placed → Option Name → Ready
  command_here p a = command_ready file v w s u p a

  -- a blocking command is the same at each element
  abbrev pub block_here : Name → Ready
  block_here x = blocked file v w s u no_element x

  abbrev pub current_here : Placed → Bool
  current_here p = current file v w s u p

  abbrev pub seen_here : Evaluation
  seen_here = evaluation file v w s u no_element

  abbrev pub acts_here : List Action
  acts_here = actions file (new_names file)

  abbrev pub none : List Sum
  none = map (λ r. no_reward) (jani_moment.moment file w u).rewards

  abbrev pub given : Option Name → List Sum
  given = choice_rewards (prism_moment.moment (translated file) v s).rewards

  -- ---- what is asked
  -- The edges are sound at the state, the location variables stand for the locations, and some element takes part in each
  -- vector.
  pub record EdgesAreSound : Type 0 where
    pub values : length s ≡ length (columns file)
    pub locations : All (SoundLocation file v w s) (elements file)
    pub edges : All (λ el. All (λ p. SoundEdge file v w s el.number p.edge) (placed_edges el)) (elements file)
    pub vectors : All (HasPart file) file.vectors

  -- what an edge assigns to reward structures is what items for its targets add up to
  pub record RewardsAreSound (paid : Placed → List Reward) : Type 0 where
    pub targets :
        All (λ t. All (λ ps. All (PaysHere edge_here paid) ps × EarnsBy none (given (Some t.name)) (flat_map paid ps)) (one_of_each (lists file acts_here seen_here t.target)))
        acts_here
    pub silent :
        All (λ el. All (λ p. serves_silently file p ≡ true → PaysHere edge_here paid p × EarnsBy none (given None) (paid p ++ [])) (placed_edges el)) (elements file)

  named_as : (a : Option Name) → option_map (λ (n : Named). prism_names.unchanged n.name) (option_map (λ x. record { name = x; at = 0 }) a) ≡ a
  named_as None = refl
  named_as (Some x) = refl

  never_here : (x : Name) → core.is_false (block_here x).guard.value ≡ true
  unfolding prism_names.see
  never_here x = refl

  module _ (sound : EdgesAreSound) where
    element_at : (k : ℕ) (d : Element) → k < length (elements file) → All (λ p. p.element ≡ get_or (elements file) k d) (placed_edges (get_or (elements file) k d))
    element_at k d l = at_element (get_or (elements file) k d) 0 (edges_of (get_or (elements file) k d))

    located : All (λ el. All (λ p. SoundLocation file v w s p.element × SoundEdge file v w s p.element.number p.edge) (placed_edges el)) (elements file)
    located k d l i a m =
        let el = get_or (elements file) k d in
        let p = get_or (placed_edges el) i a in
        let at : p.element ≡ el = element_at k d l i a m in (
          subst (λ x. SoundLocation file v w s x) (sym at) (sound.locations k d l),
          subst (λ (x : Element). SoundEdge file v w s x.number p.edge) (sym at) (sound.edges k d l i a m),
        )

    are : AreCommands file acts_here seen_here
    are = record {
      command = λ p a. named_as a;
      edge = λ p. refl;
      block = λ x. refl;
      never = never_here;
      enabled = λ k d l i a m o.
          let p = get_or (placed_edges (get_or (elements file) k d)) i a in
          let h = located k d l i a m in
          enabled_alike file v w s p o h.0 h.1.0;
    }

    follows : (o : Option Name) →
        All (λ el. All (λ p. live file acts_here seen_here p ≡ true →
        FollowsReady (has file v w s) (state_of file) (command_here p o) (bare_ready (edge_here p))) (placed_edges el)) (elements file)
    follows o k d l i a m e =
        let p = get_or (placed_edges (get_or (elements file) k d)) i a in
        let h = located k d l i a m in
        command_follows file v w s p o h.0 h.1 (first_true (current_here p) (is_enabled (edge_here p)) e)

    served : (paid : Placed → List Reward) → RewardsAreSound paid → AreServed file acts_here seen_here are (has file v w s) (state_of file) paid none given s
    served paid rewards = record {
      here = eq-eqb (length s) (length (columns file)) sound.values;
      made_for = made_for file;
      distinct = actions_differ file;
      joined = all_joined file acts_here seen_here are (made_for file) sound.vectors;
      served = λ k d l. (follows (Some (get_or acts_here k d).name), rewards.targets k d l);
      silent = λ k d l i a m e f.
          let q = rewards.silent k d l i a m e in
          (follows None k d l i a m f, (q.0, q.1));
    }

    -- Each choice occurs equally often.
    pub choices_are_alike : (paid : Placed → List Reward) → RewardsAreSound paid →
        EquallyOften (map (choice_image (old_label file) (state_of file)) ((prism_process.model (translated file)).choices v s))
        ((jani_process.model file).choices w (state_of file s))
    choices_are_alike paid rewards =
        often_trans
        (often_same _ _ (ap (λ ms. map (choice_image (old_label file) (state_of file)) (core.choices s (of_modules given ms))) (modules_are file v w s u no_element)))
        (often_trans (choices_alike file acts_here seen_here are (has file v w s) (state_of file) paid none given s (served paid rewards))
        (often_same _ _ (ap (λ es. core.choices u (of_elements none (map vector_of file.vectors) es)) (sym (elements_are file v w s u no_element)))))
