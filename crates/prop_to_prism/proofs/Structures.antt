-- The reward structures of the translated file: their names, and which of them properties number.
use Rattle.std.specs.Prelude.{◌≡◌, ℕ, suc, ◌+◌, List, [], ◌∷◌, ◌++◌, map, length, take, Bool, true, false, not, ◌&&◌, cond, Option, Some, None, slice_get}
use Rattle.std.specs.List.{filter}
use Rattle.std.proofs.Common.{refl, sym, ap, ap₂, ◌∙◌, arith}
use Rattle.std.proofs.lemmas.List.{length-map}
use Rattle.std.proofs.lemmas.List.Elements.{filter-append}
use Rattle.std.proofs.Math.Seq.{take-append_seam}
use Rattle.process_core.specs.Product.{map-map}
use Rattle.process_core.specs.Ready.{Name}
use Rattle.process_core.specs.Instance.{numbered}
use Rattle.jani_tree.specs.Syntax.{Var, File}
use Rattle.jani_meaning.specs.Elements as all
use Rattle.jani_meaning.specs.Elements.{Owned, owned_by, elements, is_structure}
use Rattle.name_table.specs.declared.entry.Entry.{Entry}
use Rattle.name_table.specs.Asks.{called}
use Rattle.name_table.specs.PrismAsks.{NewNames, name_at}
use Rattle.name_table.proofs.EntryLemmas.{first_alone, named_at}
use Rattle.prism_translation_laws.specs.Targets.{targets}
use Rattle.prism_translation_laws.specs.Names as translation
use Rattle.prism_translation_laws.specs.Names.{action_ask}
use Rattle.prism_translation_laws.specs.Marks.{structure}
use Rattle.prism_translation_laws.proofs.Scopes.{reward_test}
use Rattle.prism_translation_laws.proofs.Segments.{rewards_part}
use Rattle.jani_check.specs.Things.{is_reward, var_thing}
use Rattle.jani_props.specs.Faults.{structures, structures_among}
use Rattle.prop_to_prism.specs.ToPrism.{new_names}
use Rattle.prop_to_prism.specs.Laws.{StructuresNamed, NumberedFirst}
use Rattle.prop_to_prism.proofs.Entries.{rewards_same}

-- ---- names
names_from : (file : File) (names : NewNames) (es : List Entry) (k : ℕ) (os : List Owned) → length es ≡ length os → ((i : ℕ) → slice_get names.rewards (k + i) ≡ slice_get es i) →
    map (λ r. called r.name) (numbered (λ j o. structure file names j o (name_at names.rewards j) ∷ []) k os) ≡ map (λ e. Some e.name) es
names_from file names [] k [] l h = refl
names_from file names [] k (o ∷ os) l h = absurd (omega (arith, l))
names_from file names (e ∷ es) k [] l h = absurd (omega (arith, l))
names_from file names (e ∷ es) k (o ∷ os) l h =
    ap₂ (λ (x : Name) (xs : List (Option Name)). Some x ∷ xs) (named_at names.rewards es e k h)
    (names_from file names es (k + 1) os (omega (arith, l)) (λ i. let n : (k + 1) + i ≡ k + suc i = omega arith in ap (slice_get names.rewards) n ∙ h (suc i)))

pub structures_named : StructuresNamed
structures_named file =
    let names = translation.new_names file in
    names_from file names names.rewards 0 (all.structures file) (rewards_part file).long (λ i. let n : 0 + i ≡ i = omega arith in ap (slice_get names.rewards) n)
    ∙ ap (map (λ (e : Entry). Some e.name)) (rewards_same file first_alone (map action_ask (targets file)))
    ∙ sym (map-map Some (λ (e : Entry). e.name) (new_names file).rewards)

-- ---- numbers
abbrev owned_name : Owned → Name
owned_name o = o.var.name.name

global_first : (vars : List Var) → map owned_name (filter is_structure (owned_by None vars)) ≡ structures_among vars
global_first [] = refl
global_first (v ∷ vs) =
    by_test (v.transient && not (all.is_boolean v.kind)) (global_first vs)
    ∙ ap (λ b. map (λ (w : Var). w.name.name) (cond b (v ∷ filter (λ w. is_reward (Some (var_thing w))) vs) (filter (λ w. is_reward (Some (var_thing w))) vs))) (sym (reward_test v))
  where
    by_test : (b : Bool) → map owned_name (filter is_structure (owned_by None vs)) ≡ structures_among vs →
        map owned_name (cond b (record { owner = None; var = v } ∷ filter is_structure (owned_by None vs)) (filter is_structure (owned_by None vs)))
        ≡ map (λ (w : Var). w.name.name) (cond b (v ∷ filter (λ w. is_reward (Some (var_thing w))) vs) (filter (λ w. is_reward (Some (var_thing w))) vs))
    by_test true rest = ap (λ (xs : List Name). v.name.name ∷ xs) rest
    by_test false rest = rest

pub numbered_first : NumberedFirst
numbered_first file =
    let global = filter is_structure (owned_by None file.variables) in
    let rest = filter is_structure (numbered (λ i a. owned_by (Some i) a.variables) 0 (elements file)) in
    let long : length (structures file) ≡ length global = sym (ap length (global_first file.variables)) ∙ length-map global owned_name in
    ap (λ (os : List Owned). map owned_name (take (length (structures file)) os)) (filter-append is_structure (owned_by None file.variables) (numbered (λ i a. owned_by (Some i) a.variables) 0 (elements file)))
    ∙ ap (λ n. map owned_name (take n (global ++ rest))) long
    ∙ ap (map owned_name) (take-append_seam global rest)
    ∙ global_first file.variables
