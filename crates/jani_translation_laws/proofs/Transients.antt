-- What the new names of labels and reward structures stand for.
use Rattle.std.specs.Prelude.{◌≡◌, ℕ, zero, suc, ◌+◌, ◌<◌, List, [], ◌∷◌, ◌++◌, map, length, drop, false, cond, unwrap_or, Some, None, slice_get, bytes_eq}
use Rattle.std.specs.List.{find, zip, AllByRecursion as Each}
use Rattle.std.specs.Option.{option_map, option_or as or_else}
use Rattle.std.proofs.Common.{refl, sym, ap, ap₂, subst, ◌∙◌, arith, append-nil}
use Rattle.basics.specs.Each.{each_at}
use Rattle.basics.specs.Texts.{bytes_eq-self}
use Rattle.basics.specs.Lists.{slice_get-drop}
use Rattle.bridge_io.specs.declared.reason.Named.{Named}
use Rattle.process_core.specs.Ready.{Name}
use Rattle.prism_tree.specs.Syntax as prism
use Rattle.prism_flat.specs.Scene.{has_condition}
use Rattle.jani_tree.specs.Syntax.{Const, Var}
use Rattle.jani_check.specs.Things.{is_called, const_thing, var_thing, global_thing}
use Rattle.jani_translation.specs.NameClass.TheVariants.{Label}
use Rattle.jani_translation.specs.Entry.{Entry}
use Rattle.jani_translation.proofs.Parts.{values_apart}
use Rattle.jani_translation.specs.Asks.{variables, entries, new_names, labels_at, rewards_at, modules_at}
use Rattle.jani_translation.specs.Parts.{constant, variable, label, structure}
use Rattle.jani_translation.specs.Translated.{translated}
use Rattle.jani_translation.proofs.SameSeen.{zip-take}
use Rattle.jani_translation_laws.proofs.Alike.{structure_name}

-- ---- lists that are searched
none_before : {X B : Type 0} (name : B → Named) (made : X → Entry → B) → ((x : X) (e : Entry) → (name (made x e)).name ≡ e.name) → (z : Name) (xs : List X) (es : List Entry) (rest : List B) →
    ((i : ℕ) (u : Entry) → i < length xs → slice_get es i ≡ Some u → bytes_eq u.name z ≡ false) →
    find (λ v. is_called z (name v)) (map (λ p. made p.0 p.1) (zip xs es) ++ rest) ≡ find (λ v. is_called z (name v)) rest
none_before name made n z [] es rest h = refl
none_before name made n z (x ∷ xs) [] rest h = refl
none_before name made n z (x ∷ xs) (e ∷ es) rest h =
    ap (λ b. cond b (Some (made x e)) (find (λ v. is_called z (name v)) (map (λ p. made p.0 p.1) (zip xs es) ++ rest)))
    (ap (λ y. bytes_eq y z) (n x e) ∙ h 0 e (omega arith) refl)
    ∙ none_before name made n z xs es rest (λ i u l g. h (suc i) u (omega arith) g)

found_at : {X : Type 0} (made : X → Entry → Var) → ((x : X) (e : Entry) → (made x e).name.name ≡ e.name) → (z : Name) (xs : List X) (es : List Entry) (rest : List Var)
    (k : ℕ) (p : X × Entry) → slice_get (zip xs es) k ≡ Some p → p.1.name ≡ z →
    ((i : ℕ) (u : Entry) → i < k → slice_get es i ≡ Some u → bytes_eq u.name z ≡ false) →
    find (λ v. is_called z v.name) (map (λ p. made p.0 p.1) (zip xs es) ++ rest) ≡ Some (made p.0 p.1)
found_at made n z [] es rest k p g q h = absurd cc
found_at made n z (x ∷ xs) [] rest k p g q h = absurd cc
found_at made n z (x ∷ xs) (e ∷ es) rest zero p g q h =
    let s : (x, e) ≡ p = ap (λ o. unwrap_or o (x, e)) g in
    ap (λ b. cond b (Some (made x e)) (find (λ v. is_called z v.name) (map (λ p. made p.0 p.1) (zip xs es) ++ rest)))
    (ap (λ y. bytes_eq y z) (n x e ∙ ap (λ r. r.1.name) s ∙ q) ∙ bytes_eq-self z)
    ∙ ap (λ r. Some (made r.0 r.1)) s
found_at made n z (x ∷ xs) (e ∷ es) rest (suc k) p g q h =
    ap (λ b. cond b (Some (made x e)) (find (λ v. is_called z v.name) (map (λ p. made p.0 p.1) (zip xs es) ++ rest)))
    (ap (λ y. bytes_eq y z) (n x e) ∙ h 0 e (omega arith) refl)
    ∙ found_at made n z xs es rest k p g q (λ i u l g. h (suc i) u (omega arith) g)

record At {X : Type 0} (xs : List X) (es : List Entry) (k : ℕ) (p : X × Entry) : Type 0 where
  within : k < length xs
  entry : slice_get es k ≡ Some p.1

zip_at : {X : Type 0} (xs : List X) (es : List Entry) (k : ℕ) (p : X × Entry) → slice_get (zip xs es) k ≡ Some p → At xs es k p
zip_at [] es k p g = absurd cc
zip_at (x ∷ xs) [] k p g = absurd cc
zip_at (x ∷ xs) (e ∷ es) zero p g = record { within = omega arith; entry = ap (option_map (λ r. r.1)) g }
zip_at (x ∷ xs) (e ∷ es) (suc k) p g = let r = zip_at xs es k p g in let l = r.within in record { within = omega arith; entry = r.entry }

module _ (file : prism.File) where
  -- ---- before labels stand constants and variables
  consts_before : (j : ℕ) (e : Entry) → labels_at file (entries file) < j + 1 → j < modules_at file (entries file) → slice_get (entries file) j ≡ Some e →
      find (λ c. is_called e.name c.name) (translated file).constants ≡ None
  consts_before j e a b g =
      ap (λ ps. find (λ c. is_called e.name c.name) (map (λ p. constant (new_names file).value p.0 p.1) ps)) (zip-take file.constants (entries file))
      ∙ ap (find (λ c. is_called e.name c.name)) (sym (append-nil (map (λ p. constant (new_names file).value p.0 p.1) (zip file.constants (entries file)))))
      ∙ none_before (λ (c : Const). c.name) (constant (new_names file).value) (λ c e. refl) e.name file.constants (entries file) []
      (λ i u l h. values_apart file i j u e (omega arith) b (λ q. absurd (omega arith)) h g)

  vars_before : (j : ℕ) (e : Entry) (rest : List Var) → labels_at file (entries file) < j + 1 → j < modules_at file (entries file) → slice_get (entries file) j ≡ Some e →
      find (λ v. is_called e.name v.name) (map (λ p. variable (new_names file).value (has_condition file) p.0 p.1) (zip (variables file) (new_names file).variables) ++ rest) ≡ find (λ v. is_called e.name v.name) rest
  vars_before j e rest a b g =
      let at = length file.constants in
      ap (λ ps. find (λ v. is_called e.name v.name) (map (λ p. variable (new_names file).value (has_condition file) p.0 p.1) ps ++ rest)) (zip-take (variables file) (drop at (entries file)))
      ∙ none_before (λ (v : Var). v.name) (variable (new_names file).value (has_condition file)) (λ v e. refl) e.name (variables file) (drop at (entries file)) rest
      (λ i u l h. values_apart file (at + i) j u e (omega arith) b (λ q. absurd (omega arith)) (sym (slice_get-drop at i (entries file)) ∙ h) g)

  label_stands : (k : ℕ) (p : prism.Label × Entry) → slice_get (zip file.labels (drop (labels_at file (entries file)) (entries file))) k ≡ Some p →
      global_thing (translated file) p.1.name ≡ Some (var_thing (label p.0 p.1))
  label_stands k p g =
      let at = labels_at file (entries file) in
      let r = zip_at file.labels (drop at (entries file)) k p g in
      let l = r.within in
      let here : slice_get (entries file) (at + k) ≡ Some p.1 = sym (slice_get-drop at k (entries file)) ∙ r.entry in
      let structures = map (λ p. structure p.0 p.1) (zip file.rewards (new_names file).rewards) in
      let labels = map (λ p. label p.0 p.1) (zip file.labels (new_names file).labels) in
      ap₂ or_else (ap (option_map const_thing) (consts_before (at + k) p.1 (omega arith) (omega arith) here))
      (ap (option_map var_thing)
      (vars_before (at + k) p.1 (labels ++ structures) (omega arith) (omega arith) here
      ∙ ap (λ ps. find (λ v. is_called p.1.name v.name) (map (λ p. label p.0 p.1) ps ++ structures)) (zip-take file.labels (drop at (entries file)))
      ∙ found_at label (λ l e. refl) p.1.name file.labels (drop at (entries file)) structures k p g refl
      (λ i u m h. values_apart file (at + i) (at + k) u p.1 (omega arith) (omega arith) (λ q. absurd (omega arith)) (sym (slice_get-drop at i (entries file)) ∙ h) here)))

  pub labels_stand : Each (λ p. global_thing (translated file) p.1.name ≡ Some (var_thing (label p.0 p.1))) (zip file.labels (new_names file).labels)
  labels_stand =
      subst (Each (λ p. global_thing (translated file) p.1.name ≡ Some (var_thing (label p.0 p.1)))) (sym (zip-take file.labels (drop (labels_at file (entries file)) (entries file))))
      (each_at (λ p. global_thing (translated file) p.1.name ≡ Some (var_thing (label p.0 p.1))) (zip file.labels (drop (labels_at file (entries file)) (entries file))) label_stands)

  structure_stands : (k : ℕ) (p : prism.Rewards × Entry) → slice_get (zip file.rewards (drop (rewards_at file (entries file)) (entries file))) k ≡ Some p →
      global_thing (translated file) p.1.name ≡ Some (var_thing (structure p.0 p.1))
  structure_stands k p g =
      let at = rewards_at file (entries file) in
      let before = labels_at file (entries file) in
      let r = zip_at file.rewards (drop at (entries file)) k p g in
      let l = r.within in
      let here : slice_get (entries file) (at + k) ≡ Some p.1 = sym (slice_get-drop at k (entries file)) ∙ r.entry in
      let structures = map (λ p. structure p.0 p.1) (zip file.rewards (new_names file).rewards) in
      let labels = map (λ p. label p.0 p.1) (zip file.labels (new_names file).labels) in
      ap₂ or_else (ap (option_map const_thing) (consts_before (at + k) p.1 (omega arith) (omega arith) here))
      (ap (option_map var_thing)
      (vars_before (at + k) p.1 (labels ++ structures) (omega arith) (omega arith) here
      ∙ ap (λ ps. find (λ v. is_called p.1.name v.name) (map (λ p. label p.0 p.1) ps ++ structures)) (zip-take file.labels (drop before (entries file)))
      ∙ none_before (λ (v : Var). v.name) label (λ l e. refl) p.1.name file.labels (drop before (entries file)) structures
      (λ i u m h. values_apart file (before + i) (at + k) u p.1 (omega arith) (omega arith) (λ q. absurd (omega arith)) (sym (slice_get-drop before i (entries file)) ∙ h) here)
      ∙ ap (λ ps. find (λ v. is_called p.1.name v.name) (map (λ p. structure p.0 p.1) ps)) (zip-take file.rewards (drop at (entries file)))
      ∙ ap (find (λ v. is_called p.1.name v.name)) (sym (append-nil (map (λ p. structure p.0 p.1) (zip file.rewards (drop at (entries file))))))
      ∙ found_at structure structure_name p.1.name file.rewards (drop at (entries file)) [] k p g refl
      (λ i u m h. values_apart file (at + i) (at + k) u p.1 (omega arith) (omega arith) (λ q. absurd (omega arith)) (sym (slice_get-drop at i (entries file)) ∙ h) here)))

  pub structures_stand : Each (λ p. global_thing (translated file) p.1.name ≡ Some (var_thing (structure p.0 p.1))) (zip file.rewards (new_names file).rewards)
  structures_stand =
      subst (Each (λ p. global_thing (translated file) p.1.name ≡ Some (var_thing (structure p.0 p.1)))) (sym (zip-take file.rewards (drop (rewards_at file (entries file)) (entries file))))
      (each_at (λ p. global_thing (translated file) p.1.name ≡ Some (var_thing (structure p.0 p.1))) (zip file.rewards (drop (rewards_at file (entries file)) (entries file))) structure_stands)
