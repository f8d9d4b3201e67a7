-- The variables of a file by name.
use Rattle.std.specs.Prelude.{ℕ, ◌<◌, ◌+◌, List, [], ◌∷◌, ◌++◌, map, length, drop, Bool, true, false, Option, Some, None, unwrap_or, bytes_eq, if◌then◌else◌}
use Rattle.std.specs.List.{find}
use Rattle.std.specs.Option.{option_map, option_or}
use Rattle.std.proofs.Common.{◌≡◌, refl, sym, ap, ap₂, ◌∙◌, get_or}
use Rattle.std.proofs.Math.Path.{fun_ext}
use Rattle.std.proofs.lemmas.List.{at_drop_more}
use Rattle.op_trees.specs.declared.tree.Ty.{Ty}
use Rattle.process_core.specs.Ready.{Name}
use Rattle.prism_tree.specs.declared.syntax.NamePair.{NamePair}
use Rattle.prism_tree.specs.declared.syntax.PrismFile.{PrismFile}
use Rattle.prism_tree.specs.declared.syntax.PrismVar.{PrismVar}
use Rattle.prism_tree.specs.declared.syntax.PrismModule.{PrismModule}
use Rattle.prism_tree.specs.Syntax.{Var, Module, plain, copied, File, file_of, module_of, var_of}
use Rattle.prism_flat.specs.Names.{renaming, copy_of, module_called, part_of, parts}
use Rattle.prism_check.specs.declared.variables.Owned.{Owned}
use Rattle.prism_check.specs.Demands.{var_type}
use Rattle.prism_check.specs.Tables.{pair_for, vars_in}
use Rattle.prism_check.specs.TypeFaults.{Variable, part_variables, numbered_variables, variable_called}
use Rattle.prism_check.specs.Typing.{owned, owned_in, variables_by, module_variables_by, numbered_by}
use Rattle.prism_check.proofs.Declared.{renaming_is}

first_of_three : {X : Type 0} (o p q : Option X) → option_or (option_or o p) q ≡ option_or o (option_or p q)
first_of_three None p q = refl
first_of_three (Some x) p q = refl

-- the first of two lists, or else of the second
pub owned-append : (vs us : List Variable) (x : Name) → owned_in (vs ++ us) x ≡ option_or (owned_in vs x) (owned_in us x)
owned-append [] us x = refl
owned-append (v ∷ vs) us x = by_test (bytes_eq v.name x) (owned-append vs us x)
  where
    by_test : (b : Bool) → owned_in (vs ++ us) x ≡ option_or (owned_in vs x) (owned_in us x) →
        option_map owned (if b then Some v else find (λ u. bytes_eq u.name x) (vs ++ us))
        ≡ option_or (option_map owned (if b then Some v else find (λ u. bytes_eq u.name x) vs)) (owned_in us x)
    by_test true h = refl
    by_test false h = h

-- ---- one more of a list
module _ (old new : Name → Option Owned) (q : Name) (whole : Option Owned) where
  pub variables_then : (vs us : List Variable) → new q ≡ option_or (old q) (owned_in vs q) → option_or (old q) (owned_in (vs ++ us) q) ≡ whole →
      option_or (new q) (owned_in us q) ≡ whole
  variables_then vs us e so_far =
      ap (λ o. option_or o (owned_in us q)) e
      ∙ first_of_three (old q) (owned_in vs q) (owned_in us q)
      ∙ ap (option_or (old q)) (sym (owned-append vs us q))
      ∙ so_far

  pub variable_more : (new_name : Name → Option Name) (owner : Option ℕ) (xs : List PrismVar) (i : ℕ) (x : PrismVar) (name : Name) (ty : Ty) → i < length xs → x ≡ get_or xs i x →
      name ≡ unwrap_or (new_name x.name.name) x.name.name → ty ≡ var_type (var_of x) →
      new q ≡ option_or (old q) (if bytes_eq name q then Some (record { owner = owner; ty = ty }) else None) →
      option_or (old q) (owned_in (variables_by new_name owner (map var_of (drop i xs))) q) ≡ whole →
      option_or (new q) (owned_in (variables_by new_name owner (map var_of (drop (i + 1) xs))) q) ≡ whole
  variable_more new_name owner xs i x name ty h is named sorted e so_far =
      let v : Variable = record { owner = owner; name = unwrap_or (new_name x.name.name) x.name.name; ty = var_type (var_of x) } in
      variables_then (v ∷ []) (variables_by new_name owner (map var_of (drop (i + 1) xs)))
      (e
      ∙ ap₂ (λ n (t : Ty). option_or (old q) (if bytes_eq n q then Some (record { owner = owner; ty = t }) else None)) named sorted
      ∙ ap (option_or (old q)) (one v (bytes_eq v.name q)))
      (sym (at_drop_more (λ ys. option_or (old q) (owned_in (variables_by new_name owner (map var_of ys)) q)) xs i x h
      ∙ ap (λ y. option_or (old q) (owned_in (variables_by new_name owner (map var_of (y ∷ drop (i + 1) xs))) q)) (sym is))
      ∙ so_far)
    where
      one : (v : Variable) (b : Bool) → (if b then Some (record { owner = v.owner; ty = v.ty }) else None) ≡ option_map owned (if b then Some v else None)
      one v true = refl
      one v false = refl

  pub module_more : (called : Name → Option Module) (ms : List PrismModule) (i : ℕ) (m : PrismModule) → i < length ms → m ≡ get_or ms i m →
      new q ≡ option_or (old q) (owned_in (module_variables_by called i (module_of m)) q) →
      option_or (old q) (owned_in (numbered_by called i (map module_of (drop i ms))) q) ≡ whole →
      option_or (new q) (owned_in (numbered_by called (i + 1) (map module_of (drop (i + 1) ms))) q) ≡ whole
  module_more called ms i m h is e so_far =
      variables_then (module_variables_by called i (module_of m)) (numbered_by called (i + 1) (map module_of (drop (i + 1) ms))) e
      (sym (at_drop_more (λ ys. option_or (old q) (owned_in (numbered_by called i (map module_of ys)) q)) ms i m h
      ∙ ap (λ y. option_or (old q) (owned_in (numbered_by called i (map module_of (y ∷ drop (i + 1) ms))) q)) (sym is))
      ∙ so_far)

-- ---- the same variables, whichever way modules and names are looked up
copy_variables : (i : ℕ) (ps : List NamePair) (o : Option Module) →
    variables_by (pair_for ps) (Some i) (vars_in o) ≡ part_variables i (copy_of (renaming ps) o)
copy_variables i ps None = refl
copy_variables i ps (Some (copied m)) = refl
copy_variables i ps (Some (plain m)) =
    ap (λ (f : Var → Variable). map f m.vars)
    (fun_ext (λ x. ap {B = Variable} (λ n. record { owner = Some i; name = n; ty = var_type x }) (sym (renaming_is ps x.name.name))))

module_variables : (file : File) (i : ℕ) (m : Module) → module_variables_by (module_called file) i m ≡ part_variables i (part_of file m)
module_variables file i (plain m) = refl
module_variables file i (copied m) = copy_variables i m.pairs (module_called file m.from.name)

numbered : (file : File) (i : ℕ) (ms : List Module) → numbered_by (module_called file) i ms ≡ numbered_variables i (map (part_of file) ms)
numbered file i [] = refl
numbered file i (m ∷ ms) = ap₂ (λ vs us. vs ++ us) (module_variables file i m) (numbered file (i + 1) ms)

pub variables_are : (f : PrismFile) (xs : List PrismVar) (ms : List PrismModule) (called : Name → Option Module) (none globals all : Name → Option Owned) →
    xs ≡ f.globals → ms ≡ f.modules → ((x : Name) → called x ≡ module_called (file_of f) x) →
    ((x : Name) → none x ≡ None) → ((x : Name) → globals x ≡ option_or (none x) (owned_in (variables_by (pair_for []) None (map var_of xs)) x)) →
    ((x : Name) → all x ≡ option_or (globals x) (owned_in (numbered_by called 0 (map module_of ms)) x)) →
    (x : Name) → all x ≡ option_map owned (variable_called (file_of f) x)
variables_are f xs ms called none globals all ex em c e g a x =
    let file = file_of f in
    a x
    ∙ ap₂ (λ o vs. option_or o (owned_in vs x))
    (g x
    ∙ ap₂ (λ o vs. option_or o (owned_in vs x)) (e x) (ap (λ ys. variables_by (pair_for []) None (map var_of ys)) ex))
    (ap₂ (λ h l. numbered_by h 0 (map module_of l)) (fun_ext c) em ∙ numbered file 0 file.modules)
    ∙ sym (owned-append (variables_by (pair_for []) None file.globals) (numbered_variables 0 (parts file)) x)
