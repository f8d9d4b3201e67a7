-- What a file declares, by the tables of its modules and renamings.
use Rattle.std.specs.Prelude.{List, [], ◌∷◌, ◌++◌, map, Bool, true, false, ◌||◌, Option, Some, None, is_some, unwrap_or, if◌then◌else◌}
use Rattle.std.specs.List.{flat_map}
use Rattle.std.proofs.Common.{◌≡◌, refl, sym, ap, ap₂, ◌∙◌, append_assoc}
use Rattle.std.proofs.Math.Path.{fun_ext}
use Rattle.std.proofs.lemmas.List.Concat.{flat_map_single}
use Rattle.bridge_io.specs.declared.reason.Named.{Named}
use Rattle.process_core.specs.Ready.{Name}
use Rattle.process_core.specs.Product.{map-map}
use Rattle.prism_tree.specs.declared.syntax.NamePair.{NamePair}
use Rattle.prism_tree.specs.declared.syntax.CopiedModule.{CopiedModule}
use Rattle.prism_tree.specs.declared.syntax.PrismFile.{PrismFile}
use Rattle.prism_tree.specs.declared.syntax.PrismConst.{PrismConst}
use Rattle.prism_tree.specs.declared.syntax.PrismFormula.{PrismFormula}
use Rattle.prism_tree.specs.declared.syntax.PrismVar.{PrismVar}
use Rattle.prism_tree.specs.declared.syntax.PrismModule.{PrismModule}
use Rattle.prism_tree.specs.Syntax.{Var, Module, plain, copied, File, const_of, formula_of, var_of, module_of, file_of}
use Rattle.op_trees.specs.Names.{is_called}
use Rattle.prism_flat.specs.Names.{renaming, copy_of, module_called, part_of}
use Rattle.prism_check.specs.NameFaults.{has_pair, renamed_var, module_vars, values}
use Rattle.prism_check.specs.Tables.{pair_for, vars_in, named_at, renamed_by, module_vars_by}

pub has_pair_is : (ps : List NamePair) (x : Name) → has_pair ps x ≡ is_some (pair_for ps x)
has_pair_is [] x = refl
has_pair_is (p ∷ ps) x = by_test (is_called x p.old) (has_pair_is ps x)
  where
    by_test : (b : Bool) → has_pair ps x ≡ is_some (pair_for ps x) → (b || has_pair ps x) ≡ is_some (if b then Some p.new.name else pair_for ps x)
    by_test true h = refl
    by_test false h = h

pub renaming_is : (ps : List NamePair) (x : Name) → renaming ps x ≡ unwrap_or (pair_for ps x) x
renaming_is [] x = refl
renaming_is (p ∷ ps) x = by_test (is_called x p.old) (renaming_is ps x)
  where
    by_test : (b : Bool) → renaming ps x ≡ unwrap_or (pair_for ps x) x → (if b then p.new.name else renaming ps x) ≡ unwrap_or (if b then Some p.new.name else pair_for ps x) x
    by_test true h = refl
    by_test false h = h

renamed_var_is : (m : CopiedModule) (x : Var) → named_at m.name.at (pair_for m.pairs x.name.name) ≡ renamed_var m x
renamed_var_is m x =
    by_pair (pair_for m.pairs x.name.name)
    ∙ ap₂ (λ (b : Bool) (y : Name). if b then record { name = y; at = m.name.at } ∷ [] else []) (sym (has_pair_is m.pairs x.name.name)) (sym (renaming_is m.pairs x.name.name))
  where
    by_pair : (o : Option Name) → named_at m.name.at o ≡ (if is_some o then record { name = unwrap_or o x.name.name; at = m.name.at } ∷ [] else [])
    by_pair None = refl
    by_pair (Some y) = refl

pub vars_in_is : (rename : Name → Name) (o : Option Module) → vars_in o ≡ (copy_of rename o).vars
vars_in_is rename None = refl
vars_in_is rename (Some (plain m)) = refl
vars_in_is rename (Some (copied m)) = refl

pub module_vars_is : (file : File) (m : Module) → module_vars_by (module_called file) m ≡ module_vars file m
module_vars_is file (plain m) = refl
module_vars_is file (copied m) =
    ap (renamed_by (pair_for m.pairs) m.name.at) (vars_in_is (renaming m.pairs) (module_called file m.from.name))
    ∙ ap (λ f. flat_map f (part_of file (copied m)).vars) (fun_ext (renamed_var_is m))

-- one name each
pub each_name : {A B : Type 0} (f : B → Named) (g : A → B) (xs : List A) → flat_map (λ x. f (g x) ∷ []) xs ≡ map f (map g xs)
each_name f g xs = flat_map_single (λ x. f (g x)) xs ∙ sym (map-map f g xs)

-- the same list, whichever way the names are looked up
pub vars_agree : (called : Name → Option Module) (file : File) → ((x : Name) → called x ≡ module_called file x) →
    flat_map (module_vars_by called) file.modules ≡ flat_map (module_vars file) file.modules
vars_agree called file h =
    ap (λ k. flat_map (module_vars_by k) file.modules) (fun_ext h)
    ∙ ap (λ f. flat_map f file.modules) (fun_ext (module_vars_is file))

pub joined : {A : Type 0} (a b c d l0 l1 l2 l3 l4 : List A) → l0 ≡ [] → l1 ≡ l0 ++ a → l2 ≡ l1 ++ b → l3 ≡ l2 ++ c → l4 ≡ l3 ++ d → l4 ≡ a ++ (b ++ (c ++ d))
joined a b c d l0 l1 l2 l3 l4 p0 p1 p2 p3 p4 =
    p4 ∙ ap (λ l. l ++ d) (p3 ∙ ap (λ l. l ++ c) (p2 ∙ ap (λ l. l ++ b) (p1 ∙ ap (λ l. l ++ a) p0)))
    ∙ append_assoc (a ++ b) c d ∙ append_assoc a b (c ++ d)

-- the list of all that a file declares, part by part
pub values_is : (f : PrismFile) (cs : List PrismConst) (fs : List PrismFormula) (xs : List PrismVar) (ms : List PrismModule) (called : Name → Option Module) (l0 l1 l2 l3 l4 : List Named) →
    cs ≡ f.constants → fs ≡ f.formulas → xs ≡ f.globals → ms ≡ f.modules → ((x : Name) → called x ≡ module_called (file_of f) x) →
    l0 ≡ [] → l1 ≡ l0 ++ flat_map (λ c. c.name ∷ []) cs → l2 ≡ l1 ++ flat_map (λ g. g.name ∷ []) fs → l3 ≡ l2 ++ flat_map (λ x. x.name ∷ []) xs →
    l4 ≡ l3 ++ flat_map (module_vars_by called) (map module_of ms) → l4 ≡ values (file_of f)
values_is f cs fs xs ms called l0 l1 l2 l3 l4 sc sf sx sm h p0 p1 p2 p3 p4 =
    joined (map (λ c. c.name) (map const_of f.constants)) (map (λ g. g.name) (map formula_of f.formulas)) (map (λ x. x.name) (map var_of f.globals))
    (flat_map (module_vars (file_of f)) (map module_of f.modules)) l0 l1 l2 l3 l4 p0
    (p1 ∙ ap (λ zs. l0 ++ zs) (ap (flat_map (λ c. c.name ∷ [])) sc ∙ each_name (λ c. c.name) const_of f.constants))
    (p2 ∙ ap (λ zs. l1 ++ zs) (ap (flat_map (λ g. g.name ∷ [])) sf ∙ each_name (λ g. g.name) formula_of f.formulas))
    (p3 ∙ ap (λ zs. l2 ++ zs) (ap (flat_map (λ x. x.name ∷ [])) sx ∙ each_name (λ x. x.name) var_of f.globals))
    (p4 ∙ ap (λ zs. l3 ++ zs) (ap (λ m. flat_map (module_vars_by called) (map module_of m)) sm ∙ vars_agree called (file_of f) h))
