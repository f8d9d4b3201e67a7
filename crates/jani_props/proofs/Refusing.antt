-- The least fault of the first phase that has any.
use Rattle.std.proofs.Common.{◌≡◌, refl, sym, ap, ap₂, ◌∙◌, List, [], ◌∷◌, Option, Some, None}
use Rattle.std.specs.Prelude.{ℕ, map}
use Rattle.std.proofs.Math.Path.{fun_ext}
use Rattle.bridge_io.specs.declared.reason.Fault.{Fault}
use Rattle.name_rules.specs.Names.{is_among}
use Rattle.jani_check.specs.declared.things.Thing.{Thing}
use Rattle.jani_check.specs.Things.{global_thing}
use Rattle.prop_trees.specs.Trees.{Name, JaniProperty}
use Rattle.jani_props.specs.declared.table.PropForm.TheVariants as F
use Rattle.jani_props.specs.Clean.{IsClean}
use Rattle.name_rules.specs.Least.{soonest, or_else}
use Rattle.name_rules.proofs.Soonest.{soonest_none, soonest_some}
use Rattle.jani_tree.specs.Syntax.{File}
use Rattle.jani_props.specs.Syntax.{Written}
use Rattle.jani_props.specs.Spelled.{AreWritten}
use Rattle.jani_props.specs.Faults.{given_names, shape_faults, name_faults, type_faults, names_wrong, types_wrong, structure_number, filed, filed_by}
use Rattle.jani_props.specs.Reading.{IsFirst, of_shape, of_names, of_types}

pub some_first : (ns ts : List Fault) (f : Fault) → Some f ≡ soonest None ns → Some f ≡ soonest None (or_else ns ts)
some_first [] ts f e = absurd cc
some_first (n ∷ ns) ts f e = e

module _ (file : File) where
  pub shape_first : (f : Fault) → soonest None (shape_faults file) ≡ Some f → IsFirst file f
  shape_first f e = of_shape (soonest_some (shape_faults file) f e)

  pub shape_none : soonest None (shape_faults file) ≡ None → shape_faults file ≡ []
  shape_none e = soonest_none (shape_faults file) e

  module _ (ps : List Written) (shape : shape_faults file ≡ []) (written : AreWritten file.properties ps) where
    meaning_by : (ns : List Fault) (f : Fault) → name_faults file ps ≡ ns → soonest None (or_else ns (type_faults file ps)) ≡ Some f → IsFirst file f
    meaning_by [] f e s = of_types ps shape written e (soonest_some (type_faults file ps) f s)
    meaning_by (n ∷ ns) f e s = of_names ps shape written (soonest_some (name_faults file ps) f (ap (soonest None) e ∙ s))

    pub meaning_first : (f : Fault) → soonest None (or_else (name_faults file ps) (type_faults file ps)) ≡ Some f → IsFirst file f
    meaning_first f s = meaning_by (name_faults file ps) f refl s

  pub meaning_none : (ps : List Written) → soonest None (or_else (name_faults file ps) (type_faults file ps)) ≡ None → (name_faults file ps ≡ []) × (type_faults file ps ≡ [])
  meaning_none ps e = by_names (name_faults file ps) (type_faults file ps) (soonest_none (or_else (name_faults file ps) (type_faults file ps)) e)
    where
      by_names : (ns ts : List Fault) → or_else ns ts ≡ [] → (ns ≡ []) × (ts ≡ [])
      by_names [] ts e = (refl, e)
      by_names (n ∷ ns) ts e = absurd cc

pub shape_clean : (file : File) → shape_faults file ≡ [] → IsClean F.Properties file.properties
shape_clean file e = record { given = is_among (given_names file); clean = e }

-- ---- what the code's tables say is what the file says

module _ (file : File) (things : Name → Option Thing) (number : Name → Option ℕ) (ps qs : List Written) (same_things : (x : Name) → things x ≡ global_thing file x)
    (same_number : (x : Name) → number x ≡ structure_number file x) (same : ps ≡ qs) where
  pub meaning_as : (o : Option Fault) → o ≡ soonest None (or_else (names_wrong things number ps) (types_wrong things ps)) →
      o ≡ soonest None (or_else (name_faults file qs) (type_faults file qs))
  meaning_as o e =
      e
      ∙ ap₂ (λ t n. soonest None (or_else (names_wrong t n ps) (types_wrong t ps))) (fun_ext same_things) (fun_ext same_number)
      ∙ ap (λ xs. soonest None (or_else (name_faults file xs) (type_faults file xs))) same

  pub filed_as : (xs : List JaniProperty) → xs ≡ map (filed_by number) ps → map (filed file) qs ≡ xs
  filed_as xs e = sym (e ∙ ap₂ (λ n ys. map (filed_by n) ys) (fun_ext same_number) same)
