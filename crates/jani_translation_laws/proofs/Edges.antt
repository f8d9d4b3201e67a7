-- The edges of modules have no fault of types.
use Rattle.std.specs.Prelude.{◌≡◌, ℕ, ◌+◌, List, [], ◌∷◌, map, Bool, Option, Some, None}
use Rattle.std.specs.List.{flat_map, AllByRecursion as Each}
use Rattle.std.specs.Option.{option_map}
use Rattle.std.proofs.Common.{refl, ◌∙◌}
use Rattle.basics.specs.Lists.{append_both, flat_map_both}
use Rattle.basics.specs.Each.{each_then, map_each, each_parts, each_of}
use Rattle.op_trees.specs.declared.tree.Ty.{Ty}
use Rattle.op_trees.specs.declared.tree.Ty.TheVariants as T
use Rattle.process_core.specs.Product.{flat_map-flat_map}
use Rattle.basics.specs.Options.{if_some, IfAny}
use Rattle.prism_tree.specs.Syntax as prism
use Rattle.prism_check.specs.Demands as source_demands
use Rattle.prism_check.specs.Flattened.{IsFlat}
use Rattle.jani_check.specs.Things.{global_thing}
use Rattle.op_trees.specs.Wanted.{wanted_by}
use Rattle.jani_check.specs.Demands.{varying, assigned, destination_demands, edge_demands}
use Rattle.jani_check.specs.TypeFaults.{demand_faults}
use Rattle.prism_images.specs.Image.{image}
use Rattle.jani_translation.specs.Asks.{new_names}
use Rattle.jani_translation.specs.Automata.{write, destination, edge}
use Rattle.jani_translation.specs.Translated.{translated}
use Rattle.jani_translation_laws.proofs.Expressions.{image_fits}
use Rattle.prism_check.proofs.NoFaults.{all_known}
use Rattle.prism_check.proofs.Typed.{HasType, has_wanted_type}
use Rattle.jani_translation_laws.proofs.Sources.{IsFine, IsFineBody, EachFrom}
use Rattle.jani_translation_laws.proofs.Writes.{IsFineWrite, written_fine, assigned_clean}

-- nothing comes of a mapped list, where nothing comes of each
pub nothing_mapped : {A B C : Type 0} (F : B → List C) (g : A → B) (P : A → Type 0) → ((x : A) → P x → F (g x) ≡ []) → (xs : List A) → Each P xs → flat_map F (map g xs) ≡ []
nothing_mapped F g P h [] p = refl
nothing_mapped F g P h (x ∷ xs) p = append_both (F (g x)) _ (h x p.0) (nothing_mapped F g P h xs p.1)

module _ (file : prism.File) (flat : IsFlat file) where
  -- ---- a command without faults
  abbrev pub IsFineBranch : prism.Branch → Type 0
  IsFineBranch b = IfAny (HasType file T.Real) b.weight × Each (IsFineWrite file flat) b.writes

  abbrev pub IsFineCommand : prism.Command → Type 0
  IsFineCommand c = HasType file T.Bool c.guard × Each IsFineBranch c.branches

  varied : (i : ℕ) (w : Ty) (e : prism.Expression) → IsFine file flat i (source_demands.varying (wanted_by w) e) → HasType file w e
  varied i w e h = has_wanted_type file flat w e (all_known file e h.1) h.0

  weight_fine : (i : ℕ) (o : Option prism.Expression) → Each (IsFine file flat i) (map (source_demands.varying (wanted_by T.Real)) (if_some o)) → IfAny (HasType file T.Real) o
  weight_fine i None h = tt
  weight_fine i (Some e) h = varied i T.Real e h.0

  branch_fine : (i : ℕ) (acts : Bool) (b : prism.Branch) → Each (IsFine file flat i) (source_demands.branch_demands acts b) → IsFineBranch b
  branch_fine i acts b h =
      let r = each_parts (IsFine file flat i) (map (source_demands.varying (wanted_by T.Real)) (if_some b.weight)) (map (source_demands.written acts) b.writes) h in (
        weight_fine i b.weight r.0,
        each_then (λ w. IsFine file flat i (source_demands.written acts w)) (IsFineWrite file flat) (written_fine file flat i acts) b.writes
            (map_each (IsFine file flat i) (source_demands.written acts) b.writes r.1),
      )

  command_fine : (i : ℕ) (c : prism.Command) → Each (IsFine file flat i) (source_demands.command_demands c) → IsFineCommand c
  command_fine i c h = (
    varied i T.Bool c.guard h.0,
    each_then (λ b. Each (IsFine file flat i) (source_demands.branch_demands _ b)) IsFineBranch (branch_fine i _) c.branches
        (each_of (IsFine file flat i) (source_demands.branch_demands _) c.branches h.1),
  )

  pub commands_fine : (i : ℕ) (ms : List prism.Body) → EachFrom (IsFineBody file flat) i ms → Each (λ m. Each IsFineCommand m.commands) ms
  commands_fine i [] h = tt
  commands_fine i (m ∷ ms) h = (
    each_then (λ c. Each (IsFine file flat i) (source_demands.command_demands c)) IsFineCommand (command_fine i) m.commands
        (each_of (IsFine file flat i) source_demands.command_demands m.commands h.0.1),
    commands_fine (i + 1) ms h.1,
  )

  -- ---- its edge has none
  varying_clean : (w : Ty) (e : prism.Expression) → HasType file w e →
      demand_faults (global_thing (translated file)) (varying (wanted_by w) (image (new_names file).value e)) ≡ []
  varying_clean w e h = image_fits file flat w e h

  weight_clean : (o : Option prism.Expression) → IfAny (HasType file T.Real) o →
      flat_map (demand_faults (global_thing (translated file))) (map (varying (wanted_by T.Real)) (if_some (option_map (image (new_names file).value) o))) ≡ []
  weight_clean None h = refl
  weight_clean (Some e) h = append_both (demand_faults (global_thing (translated file)) (varying (wanted_by T.Real) (image (new_names file).value e))) [] (varying_clean T.Real e h) refl

  writes_clean : (ws : List prism.Write) → Each (IsFineWrite file flat) ws → flat_map (demand_faults (global_thing (translated file))) (map assigned (map (write (new_names file)) ws)) ≡ []
  writes_clean [] h = refl
  writes_clean (w ∷ ws) h = append_both (demand_faults (global_thing (translated file)) (assigned (write (new_names file) w))) _ (assigned_clean file flat w h.0) (writes_clean ws h.1)

  branch_clean : (b : prism.Branch) → IsFineBranch b → flat_map (demand_faults (global_thing (translated file))) (destination_demands (destination (new_names file) b)) ≡ []
  branch_clean b h =
      flat_map_both (demand_faults (global_thing (translated file))) (map (varying (wanted_by T.Real)) (if_some (option_map (image (new_names file).value) b.weight)))
      (map assigned (map (write (new_names file)) b.writes)) (weight_clean b.weight h.0) (writes_clean b.writes h.1)

  pub edge_clean : (silently : Bool) (c : prism.Command) → IsFineCommand c → flat_map (demand_faults (global_thing (translated file))) (edge_demands (edge (new_names file) silently c)) ≡ []
  edge_clean silently c h =
      let F = demand_faults (global_thing (translated file)) in
      append_both (F (varying (wanted_by T.Bool) (image (new_names file).value c.guard))) (flat_map F (flat_map destination_demands (map (destination (new_names file)) c.branches)))
      (varying_clean T.Bool c.guard h.0)
      (flat_map-flat_map F destination_demands (map (destination (new_names file)) c.branches)
      ∙ nothing_mapped (λ d. flat_map F (destination_demands d)) (destination (new_names file)) IsFineBranch branch_clean c.branches h.1)

  pub edges_clean : (silently : Bool) (cs : List prism.Command) → Each IsFineCommand cs →
      flat_map (demand_faults (global_thing (translated file))) (flat_map edge_demands (map (edge (new_names file) silently) cs)) ≡ []
  edges_clean silently cs h =
      let F = demand_faults (global_thing (translated file)) in
      flat_map-flat_map F edge_demands (map (edge (new_names file) silently) cs)
      ∙ nothing_mapped (λ e. flat_map F (edge_demands e)) (edge (new_names file) silently) IsFineCommand (edge_clean silently) cs h
