-- What a file without faults has none of, kind by kind, and the names that are known in it.
use Rattle.std.specs.Prelude.{◌≡◌, List, [], ◌∷◌, ◌++◌, true, not}
use Rattle.std.specs.List.{flat_map, find, AllByRecursion as Each}
use Rattle.std.proofs.Common.{refl}
use Rattle.std.proofs.lemmas.Bool.{not-false}
use Rattle.basics.specs.Options.{IfAny}
use Rattle.basics.specs.Lists.{append_parts}
use Rattle.basics.specs.Each.{each_then, each_found, empty_each, any_map}
use Rattle.bridge_io.specs.declared.reason.Named.{Named}
use Rattle.bridge_io.specs.declared.reason.Reason.TheVariants.{Unknown}
use Rattle.bridge_io.specs.declared.reason.Fault.{Fault}
use Rattle.op_trees.specs.Tree.{AllNames}
use Rattle.op_trees.specs.Names.{names_of, is_called}
use Rattle.process_core.specs.Ready.{Name}
use Rattle.prism_tree.specs.Syntax.{Expression, File}
use Rattle.prism_flat.specs.Names.{formula_body}
use Rattle.name_rules.specs.Least.{or_else}
use Rattle.name_rules.specs.Names.{is_among}
use Rattle.name_rules.specs.Unknown.{unless_known}
use Rattle.name_rules.proofs.Plain.{no_fault}
use Rattle.prism_check.specs.NameFaults.{values, unknown_names, circles, doubled_names, copy_faults, no_module, two_inits, name_faults}
use Rattle.prism_check.specs.TypeFaults.{type_faults}
use Rattle.prism_check.specs.SizeFaults.{size_faults}
use Rattle.prism_check.specs.Faults.{faults}
use Rattle.prism_check.proofs.NamesIn.{listed_names}

-- ---- faults of each kind
no_either : (xs ys : List Fault) → or_else xs ys ≡ [] → (xs ≡ []) × (ys ≡ [])
no_either [] ys e = (refl, e)
no_either (x ∷ xs) ys e = absurd cc

pub record NoFaults (file : File) : Type 0 where
  pub names : name_faults file ≡ []
  pub sizes : size_faults file ≡ []
  pub types : type_faults file ≡ []

pub no_faults : (file : File) → faults file ≡ [] → NoFaults file
no_faults file e =
    let r = no_either (name_faults file) (or_else (size_faults file) (type_faults file)) e in
    let s = no_either (size_faults file) (type_faults file) r.1 in
    record { names = r.0; sizes = s.0; types = s.1 }

-- ---- faults of names
pub record NoNameFaults (file : File) : Type 0 where
  pub doubled : doubled_names file ≡ []
  pub unknown : unknown_names file ≡ []
  pub circles : circles file ≡ []
  pub copies : flat_map (copy_faults file) file.modules ≡ []
  pub modules : no_module file ≡ []
  pub starts : two_inits file ≡ []

pub no_name_faults : (file : File) → name_faults file ≡ [] → NoNameFaults file
no_name_faults file e =
    let last = no_module file ++ two_inits file in
    let a = append_parts (doubled_names file) (unknown_names file ++ (circles file ++ (flat_map (copy_faults file) file.modules ++ last))) e in
    let b = append_parts (unknown_names file) (circles file ++ (flat_map (copy_faults file) file.modules ++ last)) a.1 in
    let c = append_parts (circles file) (flat_map (copy_faults file) file.modules ++ last) b.1 in
    let d = append_parts (flat_map (copy_faults file) file.modules) last c.1 in
    let f = append_parts (no_module file) (two_inits file) d.1 in
    record { doubled = a.0; unknown = b.0; circles = c.0; copies = d.0; modules = f.0; starts = f.1 }

-- ---- names that are known
abbrev pub IsKnown : File → Name → Type 0
IsKnown file x = is_among (values file) x ≡ true

module _ (file : File) where
  pub known_one : (n : Named) → unless_known (is_among (values file)) n ≡ [] → IsKnown file n.name
  known_one n e = not-false (is_among (values file) n.name) (no_fault (not (is_among (values file) n.name)) n.at Unknown e)

  pub all_known : (e : Expression) → flat_map (unless_known (is_among (values file))) (names_of e) ≡ [] → AllNames (IsKnown file) e
  all_known e k =
      listed_names (IsKnown file) e
      (each_then (λ n. unless_known (is_among (values file)) n ≡ []) (λ n. IsKnown file n.name) known_one (names_of e) (empty_each (unless_known (is_among (values file))) (names_of e) k))

-- ---- bodies
-- what holds of each formula's body holds of the body of each name
pub each_body : (file : File) (P : Expression → Type 0) → Each (λ f. P f.body) file.formulas → (x : Name) → IfAny P (formula_body file x)
each_body file P h x =
    any_map (λ f. P f.body) P (λ f. f.body) (λ f p. p) (find (λ f. is_called x f.name) file.formulas)
    (each_found (λ f. P f.body) (λ f. is_called x f.name) file.formulas h)
