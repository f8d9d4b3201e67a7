-- Names of a copy by the tables of its file.
use Rattle.std.specs.Prelude.{List, [], ◌∷◌, ◌++◌, length, Bool, true, false, not, ◌&&◌, ◌||◌, Option, Some, None, is_some, if◌then◌else◌}
use Rattle.std.specs.List.{flat_map, list_any, AllByRecursion as Each}
use Rattle.std.proofs.Common.{◌≡◌, refl, sym, ap, ap₂, ◌∙◌}
use Rattle.std.proofs.Math.Path.{fun_ext}
use Rattle.std.proofs.lemmas.Bool.{or_parts}
use Rattle.std.proofs.lemmas.List.{length-map}
use Rattle.std.proofs.lemmas.Slice.Eq.{bytes_eq-Decides}
use Rattle.basics.specs.Each.{each_found, each_none, each_of, each_then, empty_each}
use Rattle.basics.specs.Lists.{append_parts}
use Rattle.basics.specs.Options.{IfAny}
use Rattle.op_trees.specs.Names.{is_called, names_of, some_name}
use Rattle.op_trees.specs.Tree.{AllNames, Truth, Number, Name as At, One, Two, Three, written_out}
use Rattle.process_core.specs.Ready.{Name}
use Rattle.prism_tree.specs.declared.syntax.PrismFile.{PrismFile}
use Rattle.prism_tree.specs.declared.syntax.PrismFormula.{PrismFormula}
use Rattle.prism_tree.specs.declared.syntax.CopiedModule.{CopiedModule}
use Rattle.prism_tree.specs.declared.syntax.NamePair.{NamePair}
use Rattle.prism_tree.specs.Syntax.{Expression, Module, plain, copied, File, file_of, formula_of}
use Rattle.prism_flat.specs.Names.{renaming, copy_of, module_called, module_name, part_of, formula_body}
use Rattle.prism_flat.specs.Order.{whole}
use Rattle.prism_check.specs.Demands.{Demand, fixed, varying, written, var_demands, command_demands, formula_demands, part_demands}
use Rattle.prism_check.specs.NameFaults.{some_used, is_lost, loses_name, unknown_by, unknown, values}
use Rattle.name_rules.specs.Names.{is_among}
use Rattle.name_rules.specs.Unknown.{unless_known}
use Rattle.prism_check.specs.Tables.{pair_for, vars_in, commands_in, body_in}
use Rattle.prism_check.specs.Known.{AreKnown, loses_by, own_unknown}
use Rattle.prism_check.specs.Levels.{lost_by, lost_to}
use Rattle.prism_check.proofs.Declared.{renaming_is}
use Rattle.prism_check.proofs.NamesIn.{names_written_out}
use Rattle.prism_check.proofs.NoFaults.{IsKnown, all_known, each_body, known_one}

copy_demands : (rename : Name → Name) (o : Option Module) →
    flat_map var_demands (vars_in o) ++ flat_map command_demands (commands_in o) ≡ part_demands (copy_of rename o)
copy_demands rename None = refl
copy_demands rename (Some (plain m)) = refl
copy_demands rename (Some (copied m)) = refl

copy_rename : (rename : Name → Name) (o : Option Module) → rename ≡ (copy_of rename o).rename
copy_rename rename None = refl
copy_rename rename (Some (plain m)) = refl
copy_rename rename (Some (copied m)) = refl

lost_is : (file : File) (ps : List NamePair) (bodies : Name → Option Expression) (known : Name → Bool) (new : Name → Option Name) →
    bodies ≡ formula_body file → known ≡ is_among (values file) → new ≡ pair_for ps → (x : Name) → lost_by bodies known new x ≡ is_lost file (renaming ps) x
lost_is file ps bodies known new b k n x =
    ap (λ f. lost_by f known new x) b ∙ ap (λ f. lost_by (formula_body file) f new x) k ∙ ap (λ f. lost_by (formula_body file) (is_among (values file)) f x) n
    ∙ ap (λ y. not (is_some (formula_body file x)) && lost_to (formula_body file) (is_among (values file)) y) (sym (renaming_is ps x))

pub loses_is : (f : PrismFile) (m : CopiedModule) (bodies : Name → Option Expression) (known : Name → Bool) (new : Name → Option Name) (lost : Name → Bool)
    (fs : List PrismFormula) (o : Option Module) (ds : List Demand) →
    bodies ≡ formula_body (file_of f) → known ≡ is_among (values (file_of f)) → new ≡ pair_for m.pairs → lost ≡ lost_by bodies known new →
    fs ≡ f.formulas → o ≡ module_called (file_of f) m.from.name → ds ≡ flat_map var_demands (vars_in o) ++ flat_map command_demands (commands_in o) →
    list_any (some_used lost (written_out (body_in fs) (length fs))) ds ≡ loses_name (file_of f) (part_of (file_of f) (copied m))
loses_is f m bodies known new lost fs o ds b k n l s c d =
    ap (λ is_such. list_any (some_used is_such (written_out (body_in fs) (length fs))) ds) (l ∙ fun_ext (lost_is (file_of f) m.pairs bodies known new b k n))
    ∙ ap (λ gs. list_any (some_used (is_lost (file_of f) (renaming m.pairs)) (written_out (body_in gs) (length gs))) ds) s
    ∙ ap (λ count. list_any (some_used (is_lost (file_of f) (renaming m.pairs)) (written_out (formula_body (file_of f)) count)) ds) (sym (length-map f.formulas formula_of))
    ∙ ap (list_any (some_used (is_lost (file_of f) (renaming m.pairs)) (whole (file_of f))))
    (d ∙ copy_demands (renaming m.pairs) o ∙ ap (λ p. part_demands (copy_of (renaming m.pairs) p)) c)
    ∙ ap (λ rename. list_any (some_used (is_lost (file_of f) rename) (whole (file_of f))) (part_demands (part_of (file_of f) (copied m))))
    (copy_rename (renaming m.pairs) (module_called (file_of f) m.from.name))

-- by a table of what is known
pub unknown_is : (file : File) (known : Name → Bool) (ds : List Demand) → known ≡ is_among (values file) →
    flat_map (unknown_by known) ds ≡ flat_map (unknown file) ds
unknown_is file known ds h = ap (λ k. flat_map (unknown_by k) ds) h

-- ---- where each name is known, and no pair loses one
module _ (bodies : Name → Option Expression) (known : Name → Bool) (x : Name) (is_known : known x ≡ true) where
  same_name : (f b : Bool) → b ≡ true → (not f && (f || not b)) ≡ false
  same_name true b e = refl
  same_name false true e = refl
  same_name false false e = absurd cc

  kept_name : (ps : List NamePair) → list_any (loses_by bodies known) ps ≡ false → (not (is_some (bodies x)) && lost_to bodies known (renaming ps x)) ≡ false
  kept_name [] h = same_name (is_some (bodies x)) (known x) is_known
  kept_name (p ∷ ps) h =
      let r = or_parts (loses_by bodies known p) (list_any (loses_by bodies known) ps) h in
      by_test (is_called x p.old) refl r.0 (kept_name ps r.1)
    where
      by_test : (b : Bool) → is_called x p.old ≡ b → loses_by bodies known p ≡ false → (not (is_some (bodies x)) && lost_to bodies known (renaming ps x)) ≡ false →
          (not (is_some (bodies x)) && lost_to bodies known (if b then p.new.name else renaming ps x)) ≡ false
      by_test true e k rest = ap (λ y. not (is_some (bodies y)) && lost_to bodies known p.new.name) (sym ((bytes_eq-Decides p.old.name x).0 e)) ∙ k
      by_test false e k rest = rest

none_such : (is_such : Name → Bool) (P : Name → Type 0) → ((x : Name) → P x → is_such x ≡ false) → (e : Expression) → AllNames P e → some_name is_such e ≡ false
none_such is_such P h (Truth at b) k = refl
none_such is_such P h (Number at d) k = refl
none_such is_such P h (At at x) k = h x k
none_such is_such P h (One at o a) k = none_such is_such P h a k
none_such is_such P h (Two at o a b) k = ap₂ (λ p q. p || q) (none_such is_such P h a k.0) (none_such is_such P h b k.1)
none_such is_such P h (Three at o a b c) k =
    ap₂ (λ p q. p || q) (none_such is_such P h a k.0) (ap₂ (λ p q. p || q) (none_such is_such P h b k.1) (none_such is_such P h c k.2))

module _ (file : File) (are_known : AreKnown file) (ps : List NamePair) (kept : list_any (loses_by (formula_body file) (is_among (values file))) ps ≡ false) where
  body_known : (x : Name) → IfAny (AllNames (IsKnown file)) (formula_body file x)
  body_known =
      each_body file (AllNames (IsKnown file))
      (each_then (λ f. Each (λ d. unknown file d ≡ []) (formula_demands f)) (λ f. AllNames (IsKnown file) f.body) (λ f h. all_known file f.body h.0) file.formulas
      (each_of (λ d. unknown file d ≡ []) formula_demands file.formulas (empty_each (unknown file) (flat_map formula_demands file.formulas) are_known.bodies)))

  not_lost : (x : Name) → IsKnown file x → is_lost file (renaming ps) x ≡ false
  not_lost x k = kept_name (formula_body file) (is_among (values file)) x k ps kept

  none_lost_in : (e : Expression) → AllNames (IsKnown file) e → some_name (is_lost file (renaming ps)) (whole file e) ≡ false
  none_lost_in e h =
      none_such (is_lost file (renaming ps)) (IsKnown file) not_lost (whole file e)
      (names_written_out (IsKnown file) (formula_body file) (λ x k. body_known x) (length file.formulas) e h)

  none_used : (d : Demand) → unknown file d ≡ [] → some_used (is_lost file (renaming ps)) (whole file) d ≡ false
  none_used (fixed w e) h = none_lost_in e (all_known file e h)
  none_used (varying w e) h = none_lost_in e (all_known file e h)
  none_used (written acts w) h =
      let r = append_parts (unless_known (is_among (values file)) w.name) (flat_map (unless_known (is_among (values file))) (names_of w.value)) h in
      ap₂ (λ a b. a || b) (not_lost w.name.name (known_one file w.name r.0)) (none_lost_in w.value (all_known file w.value r.1))

  none_of_part : (o : Option Module) → IfAny (λ m. own_unknown (is_among (values file)) m ≡ []) o →
      list_any (some_used (is_lost file (copy_of (renaming ps) o).rename) (whole file)) (part_demands (copy_of (renaming ps) o)) ≡ false
  none_of_part None h = refl
  none_of_part (Some (copied m)) h = refl
  none_of_part (Some (plain m)) h =
      let ds = flat_map var_demands m.vars ++ flat_map command_demands m.commands in
      each_none (some_used (is_lost file (renaming ps)) (whole file)) ds
      (each_then (λ d. unknown file d ≡ []) (λ d. some_used (is_lost file (renaming ps)) (whole file) d ≡ false) none_used ds (empty_each (unknown file) ds h))

pub none_lost : (file : File) (m : CopiedModule) → AreKnown file → list_any (loses_by (formula_body file) (is_among (values file))) m.pairs ≡ false →
    loses_name file (part_of file (copied m)) ≡ false
none_lost file m are_known kept =
    none_of_part file are_known m.pairs kept (module_called file m.from.name)
    (each_found (λ s. own_unknown (is_among (values file)) s ≡ []) (λ s. is_called m.from.name (module_name s)) file.modules
    (empty_each (own_unknown (is_among (values file))) file.modules are_known.contents))
