-- The names of a file that is written out: none stands twice where none does in the file, and all that are no formula's
-- are known.
use Rattle.std.specs.Prelude.{◌≡◌, List, [], ◌∷◌, ◌++◌, map, Bool, true, false, not, ◌||◌, Option, Some, None, cond, bytes_eq, max}
use Rattle.std.specs.List.{flat_map, find, list_any, AllByRecursion as Each}
use Rattle.std.specs.Option.{option_map}
use Rattle.std.proofs.Common.{refl, sym, ap, ap₂, ◌∙◌, subst}
use Rattle.std.proofs.lemmas.List.{map-append}
use Rattle.std.proofs.lemmas.List.Folds.{list_any-append, flat_map-map}
use Rattle.std.proofs.lemmas.Bool.{or_parts}
use Rattle.basics.specs.Lists.{append_parts, append_both}
use Rattle.basics.specs.Each.{each_then, each_map, map_each, empty_each, each_empty, none_each, each_none}
use Rattle.bridge_io.specs.declared.reason.Named.{Named}
use Rattle.bridge_io.specs.declared.reason.Reason.{Reason}
use Rattle.bridge_io.specs.declared.reason.Reason.TheVariants.{TwiceNamed, RenameMissing, RenameOfRenamed}
use Rattle.basics.specs.Options.{if_some}
use Rattle.process_core.specs.Ready.{Name}
use Rattle.process_core.specs.Product.{map-map}
use Rattle.prism_tree.specs.declared.syntax.CopiedModule.{CopiedModule}
use Rattle.prism_tree.specs.Syntax.{Var, Formula, Module, plain, copied, File}
use Rattle.op_trees.specs.Names.{is_called}
use Rattle.prism_flat.specs.Names.{formula_body, unchanged, renaming, module_name, module_called, copy_of, part_of}
use Rattle.prism_flat.specs.Flat.{flat_var, flat_module, flat_constant, flat_label, flat_rewards, flat}
use Rattle.prism_flat.specs.Places.{stands}
use Rattle.name_rules.specs.Least.{fault_if}
use Rattle.name_rules.specs.Names.{is_among}
use Rattle.name_rules.specs.Doubled.{clash, doubled_after, doubled}
use Rattle.name_rules.proofs.Plain.{no_fault, fault_none}
use Rattle.prism_check.specs.NameFaults.{has_pair, renamed_var, module_vars, values, given_labels, doubled_pairs, doubled_names, copy_faults, is_copy}

abbrev pub names : List Named → List Name
names ns = map (λ n. n.name) ns

-- ---- names that stand once
-- each differs from the earlier ones and from those before it
abbrev pub Apart : List Name → List Name → Type 0
Apart earlier [] = Unit {0}
Apart earlier (x ∷ xs) = (stands earlier x ≡ false) × Apart (x ∷ earlier) xs

-- names have no fault of this kind exactly where they are apart, wherever they stand
apart : (reason : Reason) (earlier ns : List Named) → doubled_after reason earlier ns ≡ [] → Apart (names earlier) (names ns)
apart reason earlier [] e = tt
apart reason earlier (n ∷ ns) e =
    let r = append_parts (flat_map (clash reason n) earlier) (doubled_after reason (n ∷ earlier) ns) e in (
      each_none (λ y. bytes_eq y n.name) (names earlier)
          (each_map (λ m. clash reason n m ≡ []) (λ y. bytes_eq y n.name ≡ false) (λ m. m.name) (λ m k. no_fault (bytes_eq m.name n.name) (max m.at n.at) reason k) earlier
          (empty_each (clash reason n) earlier r.0)),
      apart reason (n ∷ earlier) ns r.1,
    )

not_doubled : (reason : Reason) (earlier ns : List Named) → Apart (names earlier) (names ns) → doubled_after reason earlier ns ≡ []
not_doubled reason earlier [] h = refl
not_doubled reason earlier (n ∷ ns) h =
    append_both (flat_map (clash reason n) earlier) (doubled_after reason (n ∷ earlier) ns)
    (each_empty (clash reason n) earlier
    (each_then (λ m. bytes_eq m.name n.name ≡ false) (λ m. clash reason n m ≡ []) (λ m k. fault_none (bytes_eq m.name n.name) (max m.at n.at) reason k) earlier
    (map_each (λ y. bytes_eq y n.name ≡ false) (λ m. m.name) earlier (none_each (λ y. bytes_eq y n.name) (names earlier) h.0))))
    (not_doubled reason (n ∷ earlier) ns h.1)

fewer : (less more : List Name) → ((x : Name) → stands more x ≡ false → stands less x ≡ false) → (xs : List Name) → Apart more xs → Apart less xs
fewer less more h [] a = tt
fewer less more h (x ∷ xs) a = (
  h x a.0,
  fewer (x ∷ less) (x ∷ more)
      (λ y e. let r = or_parts (bytes_eq x y) (stands more y) e in ap₂ (λ p q. p || q) r.0 (h y r.1)) xs a.1,
)

skipped : (earlier fs rest : List Name) → Apart earlier (fs ++ rest) → Apart earlier rest
skipped earlier [] rest a = a
skipped earlier (f ∷ fs) rest a = fewer earlier (f ∷ earlier) (λ x e. (or_parts (bytes_eq f x) (stands earlier x) e).1) rest (skipped (f ∷ earlier) fs rest a.1)

left_out : (earlier cs fs rest : List Name) → Apart earlier (cs ++ (fs ++ rest)) → Apart earlier (cs ++ rest)
left_out earlier [] fs rest a = skipped earlier fs rest a
left_out earlier (c ∷ cs) fs rest a = (a.0, left_out (c ∷ earlier) cs fs rest a.1)

-- ---- the names of all values
same_names : {A B : Type 0} (g : B → Named) (f : A → B) (h : A → Named) → ((x : A) → (g (f x)).name ≡ (h x).name) → (xs : List A) → names (map g (map f xs)) ≡ names (map h xs)
same_names g f h k [] = refl
same_names g f h k (x ∷ xs) = ap₂ (λ a b. a ∷ b) (k x) (same_names g f h k xs)

renamed_names : (file : File) (m : CopiedModule) (xs : List Var) → Each (λ x. not (has_pair m.pairs x.name.name) ≡ false) xs →
    names (map (λ x. x.name) (map (flat_var file (renaming m.pairs)) xs)) ≡ names (flat_map (renamed_var m) xs)
renamed_names file m [] h = refl
renamed_names file m (x ∷ xs) h = by_test (has_pair m.pairs x.name.name) h.0 (renamed_names file m xs h.1)
  where
    by_test : (b : Bool) → not b ≡ false → names (map (λ y. y.name) (map (flat_var file (renaming m.pairs)) xs)) ≡ names (flat_map (renamed_var m) xs) →
        renaming m.pairs x.name.name ∷ names (map (λ y. y.name) (map (flat_var file (renaming m.pairs)) xs))
        ≡ names (cond b (record { name = renaming m.pairs x.name.name; at = m.name.at } ∷ []) [] ++ flat_map (renamed_var m) xs)
    by_test true e r = ap (λ ys. renaming m.pairs x.name.name ∷ ys) r
    by_test false e r = absurd cc

pub copy_rename : (rename : Name → Name) (o : Option Module) → (copy_of rename o).rename ≡ rename
copy_rename rename None = refl
copy_rename rename (Some (plain m)) = refl
copy_rename rename (Some (copied m)) = refl

module_names : (file : File) (m : Module) → copy_faults file m ≡ [] → names (module_vars (flat file) (flat_module file m)) ≡ names (module_vars file m)
module_names file (plain m) e = same_names (λ x. x.name) (flat_var file unchanged) (λ x. x.name) (λ x. refl) m.vars
module_names file (copied m) e =
    let p = part_of file (copied m) in
    let lacks = list_any (λ x. not (has_pair m.pairs x.name.name)) p.vars in
    let r = append_parts (fault_if lacks m.name.at RenameMissing) (fault_if (is_copy (module_called file m.from.name)) m.from.at RenameOfRenamed) e in
    ap (λ f. names (map (λ x. x.name) (map (flat_var file f) p.vars))) (copy_rename (renaming m.pairs) (module_called file m.from.name))
    ∙ renamed_names file m p.vars (none_each (λ x. not (has_pair m.pairs x.name.name)) p.vars (no_fault lacks m.name.at RenameMissing r.0))

all_module_names : (file : File) (ms : List Module) → Each (λ m. copy_faults file m ≡ []) ms →
    names (flat_map (module_vars (flat file)) (map (flat_module file) ms)) ≡ names (flat_map (module_vars file) ms)
all_module_names file [] h = refl
all_module_names file (m ∷ ms) h =
    map-append (λ n. n.name) (module_vars (flat file) (flat_module file m)) (flat_map (module_vars (flat file)) (map (flat_module file) ms))
    ∙ ap₂ (λ a b. a ++ b) (module_names file m h.0) (all_module_names file ms h.1)
    ∙ sym (map-append (λ n. n.name) (module_vars file m) (flat_map (module_vars file) ms))

module _ (file : File) (copies : flat_map (copy_faults file) file.modules ≡ []) where
  abbrev constants : List Name
  constants = names (map (λ c. c.name) file.constants)

  abbrev formulas : List Name
  formulas = names (map (λ f. f.name) file.formulas)

  abbrev variables : List Name
  variables = names (map (λ x. x.name) file.globals) ++ names (flat_map (module_vars file) file.modules)

  old_names : names (values file) ≡ constants ++ (formulas ++ variables)
  old_names =
      map-append (λ n. n.name) (map (λ c. c.name) file.constants) _
      ∙ ap (λ r. constants ++ r)
      (map-append (λ n. n.name) (map (λ f. f.name) file.formulas) _
      ∙ ap (λ r. formulas ++ r) (map-append (λ n. n.name) (map (λ x. x.name) file.globals) (flat_map (module_vars file) file.modules)))

  new_names : names (values (flat file)) ≡ constants ++ variables
  new_names =
      map-append (λ n. n.name) (map (λ c. c.name) (map (flat_constant file) file.constants)) _
      ∙ ap₂ (λ a b. a ++ b)
      (same_names (λ c. c.name) (flat_constant file) (λ c. c.name) (λ c. refl) file.constants)
      (map-append (λ n. n.name) (map (λ x. x.name) (map (flat_var file unchanged) file.globals)) (flat_map (module_vars (flat file)) (map (flat_module file) file.modules))
      ∙ ap₂ (λ a b. a ++ b)
      (same_names (λ x. x.name) (flat_var file unchanged) (λ x. x.name) (λ x. refl) file.globals)
      (all_module_names file file.modules (empty_each (copy_faults file) file.modules copies)))

  values_apart : doubled TwiceNamed (values file) ≡ [] → doubled TwiceNamed (values (flat file)) ≡ []
  values_apart e =
      not_doubled TwiceNamed [] (values (flat file))
      (subst (λ ns. Apart [] ns) (sym new_names)
      (left_out [] constants formulas variables (subst (λ ns. Apart [] ns) old_names (apart TwiceNamed [] (values file) e))))

  -- ---- what is known
  formula_unnamed : (x : Name) (fs : List Formula) → option_map (λ f. f.body) (find (λ f. is_called x f.name) fs) ≡ None → stands (names (map (λ f. f.name) fs)) x ≡ false
  formula_unnamed x [] e = refl
  formula_unnamed x (f ∷ fs) e = by_test (bytes_eq f.name.name x) (formula_unnamed x fs) e
    where
      by_test : (b : Bool) → (option_map (λ g. g.body) (find (λ g. is_called x g.name) fs) ≡ None → stands (names (map (λ g. g.name) fs)) x ≡ false) →
          option_map (λ g. g.body) (cond b (Some f) (find (λ g. is_called x g.name) fs)) ≡ None → (b || stands (names (map (λ g. g.name) fs)) x) ≡ false
      by_test true r k = absurd cc
      by_test false r k = r k

  among_is : (ns : List Named) (x : Name) → is_among ns x ≡ stands (names ns) x
  among_is [] x = refl
  among_is (n ∷ ns) x = ap (λ b. bytes_eq n.name x || b) (among_is ns x)

  -- a name that is known and no formula's is known still
  pub known_still : (x : Name) → formula_body file x ≡ None → is_among (values file) x ≡ true → is_among (values (flat file)) x ≡ true
  known_still x free h =
      among_is (values (flat file)) x ∙ ap (λ ns. stands ns x) new_names ∙ list_any-append (λ y. bytes_eq y x) constants variables
      ∙ ap (λ b. stands constants x || (b || stands variables x)) (sym (formula_unnamed x file.formulas free))
      ∙ sym (ap (λ b. stands constants x || b) (list_any-append (λ y. bytes_eq y x) formulas variables))
      ∙ sym (list_any-append (λ y. bytes_eq y x) constants (formulas ++ variables))
      ∙ sym (ap (λ ns. stands ns x) old_names) ∙ sym (among_is (values file) x) ∙ h

  plain_pairs : (ms : List Module) → flat_map doubled_pairs (map (flat_module file) ms) ≡ []
  plain_pairs [] = refl
  plain_pairs (m ∷ ms) = plain_pairs ms

  pub none_doubled : doubled_names file ≡ [] → doubled_names (flat file) ≡ []
  none_doubled e =
      let r0 = append_parts (doubled TwiceNamed (values file)) _ e in
      let r1 = append_parts (doubled TwiceNamed (map module_name file.modules)) _ r0.1 in
      let r2 = append_parts (doubled TwiceNamed (given_labels ++ map (λ l. l.name) file.labels)) _ r1.1 in
      let r3 = append_parts (doubled TwiceNamed (flat_map (λ r. if_some r.name) file.rewards)) (flat_map doubled_pairs file.modules) r2.1 in
      append_both (doubled TwiceNamed (values (flat file))) _ (values_apart r0.0)
      (append_both (doubled TwiceNamed (map module_name (map (flat_module file) file.modules))) _
      (ap (doubled TwiceNamed) (map-map module_name (flat_module file) file.modules) ∙ r1.0)
      (append_both (doubled TwiceNamed (given_labels ++ map (λ l. l.name) (map (flat_label file) file.labels))) _
      (ap (λ ns. doubled TwiceNamed (given_labels ++ ns)) (map-map (λ l. l.name) (flat_label file) file.labels) ∙ r2.0)
      (append_both (doubled TwiceNamed (flat_map (λ r. if_some r.name) (map (flat_rewards file) file.rewards))) (flat_map doubled_pairs (map (flat_module file) file.modules))
      (ap (doubled TwiceNamed) (flat_map-map (λ r. if_some r.name) (flat_rewards file) file.rewards) ∙ r3.0)
      (plain_pairs file.modules))))
