-- A file without faults has none once it is written out.
use Rattle.std.specs.Prelude.{◌≡◌, ℕ, ◌+◌, ◌<◌, List, [], ◌∷◌, ◌++◌, map, length, false, not, ◌&&◌, ◌||◌, Option, Some, None, is_some, nat_eq, if◌then◌else◌}
use Rattle.std.specs.List.{flat_map, AllByRecursion as Each}
use Rattle.std.proofs.Common.{refl, sym, ap, ap₂, ◌∙◌, subst, arith}
use Rattle.std.proofs.lemmas.List.{length-map}
use Rattle.std.proofs.lemmas.List.Elements.{All-nil}
use Rattle.std.proofs.lemmas.Bool.{or_parts, not-false}
use Rattle.basics.specs.Options.{none_of, IfAny}
use Rattle.basics.specs.Lists.{append_parts, append_both, empty_map}
use Rattle.basics.specs.Each.{each_then, each_with, each_map, map_each, each_of, empty_each, each_empty, none_each}
use Rattle.basics.specs.Mapped.{mapped, walked}
use Rattle.bridge_io.specs.declared.reason.Named.{Named}
use Rattle.bridge_io.specs.declared.reason.Reason.TheVariants.{Unknown, Nothing, WrongType, WrittenTwice, TooLarge}
use Rattle.op_trees.specs.Tree.{AllNames}
use Rattle.op_trees.specs.SeenLaws.{names_then}
use Rattle.op_trees.specs.Names.{names_of, some_name}
use Rattle.op_trees.specs.NameLaws.{names_with, none_named, names_renamed}
use Rattle.process_core.specs.Ready.{Name}
use Rattle.prism_tree.specs.Syntax.{Expression, Command, Module, plain, copied, File}
use Rattle.prism_flat.specs.Names.{formula_body, is_formula, unchanged, written_name, module_called, part_of}
use Rattle.prism_flat.specs.Flat.{flat_expression, flat_write, flat_branch, flat_command, flat_module, flat}
use Rattle.prism_flat.specs.Laws.{flat_part}
use Rattle.prism_flat.specs.Places.{IsPlaceOrder, at_places, formula_names, places_order}
use Rattle.prism_flat.specs.Order.{IsOrder, whole, whole_plain}
use Rattle.name_rules.specs.Least.{fault, fault_if, moved_to, or_else}
use Rattle.prism_check.specs.Demands.{Demand, fixed, varying, written, formula_demands, part_demands, outer_demands}
use Rattle.name_rules.specs.Names.{is_among}
use Rattle.name_rules.specs.Doubled.{doubled}
use Rattle.prism_check.specs.NameFaults.{values, unknown, some_used, is_lost, loses_name, unknown_in, unknown_names, circles, doubled_names, copy_faults, no_module, name_faults}
use Rattle.name_rules.specs.Unknown.{unless_known}
use Rattle.name_rules.proofs.Plain.{no_fault, fault_none}
use Rattle.prism_check.specs.TypeFaults.{types, misfits, demand_faults, write_faults, target, repeated_writes, part_faults, module_faults, numbered_faults, type_faults}
use Rattle.prism_check.specs.SizeFaults.{passes_limit, size_faults}
use Rattle.prism_check.specs.Clean.{FlatIsClean, FlatHasNoFault, FlatIsChecked}
use Rattle.prism_check.proofs.NamesIn.{names_listed, names_written_out}
use Rattle.prism_check.proofs.NoFaults.{NoNameFaults, no_faults, no_name_faults, IsKnown, known_one, all_known, each_body}
use Rattle.prism_check.proofs.OwnStarts.{flat_starts}
use Rattle.prism_check.proofs.FlatDemands.{flat_demand, part-flat, outer-flat}
use Rattle.prism_check.proofs.CleanPrintable.{flat_printable}
use Rattle.prism_check.proofs.CleanValues.{known_still, none_doubled}
use Rattle.prism_check.proofs.CleanCircles.{no_circles}
use Rattle.prism_check.proofs.FlatTwice.{flat_twice}
use Rattle.prism_check.proofs.CleanTypes.{AllUsed, IsFree, judged_alike, same_written, written_free, written_out_judged}

-- ---- names that are known
used_then : (P Q : Name → Type 0) → ((x : Name) → P x → Q x) → (d : Demand) → AllUsed P d → AllUsed Q d
used_then P Q h (fixed w e) p = names_then P Q h e p
used_then P Q h (varying w e) p = names_then P Q h e p
used_then P Q h (written acts w) p = (h w.name.name p.0, names_then P Q h w.value p.1)

module _ (file : File) where
  one_known : (n : Named) → IsKnown file n.name → unless_known (is_among (values file)) n ≡ []
  one_known n k = fault_none (not (is_among (values file) n.name)) n.at Unknown (ap not k)

  names_known : (e : Expression) → AllNames (IsKnown file) e → flat_map (unless_known (is_among (values file))) (names_of e) ≡ []
  names_known e k =
      each_empty (unless_known (is_among (values file))) (names_of e)
      (each_then (λ n. IsKnown file n.name) (λ n. unless_known (is_among (values file)) n ≡ []) one_known (names_of e) (names_listed (IsKnown file) e k))

  known_used : (d : Demand) → unknown file d ≡ [] → AllUsed (IsKnown file) d
  known_used (fixed w e) k = all_known file e k
  known_used (varying w e) k = all_known file e k
  known_used (written acts w) k =
      let r = append_parts (unless_known (is_among (values file)) w.name) (flat_map (unless_known (is_among (values file))) (names_of w.value)) k in
      (known_one file w.name r.0, all_known file w.value r.1)

  used_known : (d : Demand) → AllUsed (IsKnown file) d → unknown file d ≡ []
  used_known (fixed w e) k = names_known e k
  used_known (varying w e) k = names_known e k
  used_known (written acts w) k =
      append_both (unless_known (is_among (values file)) w.name) (flat_map (unless_known (is_among (values file))) (names_of w.value))
      (one_known w.name k.0) (names_known w.value k.1)

-- ---- repeated writes
same_writes : (file : File) (c : Command) → repeated_writes (flat_command file unchanged c) ≡ repeated_writes c
same_writes file c =
    walked (flat_branch file unchanged) (λ b. doubled WrittenTwice (map (λ w. w.name) b.writes)) (λ b. doubled WrittenTwice (map (λ w. w.name) b.writes))
    (λ b. ap (doubled WrittenTwice)
    (mapped (flat_write file unchanged) (λ w. w.name) (λ w. w.name) (λ w. ap (λ x. record { name = x; at = w.name.at }) (same_written file w.name.name)) b.writes))
    c.branches

-- ---- the demands of a file that is written out
module _ (file : File) (order : List Name) (ordered : IsOrder file order) (clean_names : name_faults file ≡ []) (clean_types : type_faults file ≡ []) where
  -- a name that is known and no formula's
  record IsKept (x : Name) : Type 0 where
    free : IsFree file x
    known : IsKnown file x

  no_names : NoNameFaults file
  no_names = no_name_faults file clean_names

  abbrev bodies : List Demand
  bodies = flat_map formula_demands file.formulas

  unknown_outer : (flat_map (unknown file) (outer_demands file) ≡ []) × ((flat_map (unknown file) bodies ++ flat_map (unknown_in file) file.modules) ≡ [])
  unknown_outer = append_parts (flat_map (unknown file) (outer_demands file)) (flat_map (unknown file) bodies ++ flat_map (unknown_in file) file.modules) no_names.unknown

  unknown_rest : (flat_map (unknown file) bodies ≡ []) × (flat_map (unknown_in file) file.modules ≡ [])
  unknown_rest = append_parts (flat_map (unknown file) bodies) (flat_map (unknown_in file) file.modules) unknown_outer.1

  judged_outer : (flat_map (demand_faults file 0) (outer_demands file) ≡ []) × ((flat_map (demand_faults file 0) bodies ++ numbered_faults file 0 file.modules) ≡ [])
  judged_outer = append_parts (flat_map (demand_faults file 0) (outer_demands file)) (flat_map (demand_faults file 0) bodies ++ numbered_faults file 0 file.modules) clean_types

  judged_rest : (flat_map (demand_faults file 0) bodies ≡ []) × (numbered_faults file 0 file.modules ≡ [])
  judged_rest = append_parts (flat_map (demand_faults file 0) bodies) (numbered_faults file 0 file.modules) judged_outer.1

  body_known : (x : Name) → IfAny (AllNames (IsKnown file)) (formula_body file x)
  body_known =
      each_body file (AllNames (IsKnown file))
      (each_then (λ f. Each (λ d. unknown file d ≡ []) (formula_demands f)) (λ f. AllNames (IsKnown file) f.body) (λ f h. all_known file f.body h.0) file.formulas
      (each_of (λ d. unknown file d ≡ []) formula_demands file.formulas (empty_each (unknown file) bodies unknown_rest.0)))

  body_fits : (x : Name) → IfAny (λ e. misfits (types file) e ≡ []) (formula_body file x)
  body_fits =
      each_body file (λ e. misfits (types file) e ≡ [])
      (each_then (λ f. Each (λ d. demand_faults file 0 d ≡ []) (formula_demands f)) (λ f. misfits (types file) f.body ≡ [])
      (λ f h. empty_map (λ at. fault at WrongType) (misfits (types file) f.body) (append_parts (map (λ at. fault at WrongType) (misfits (types file) f.body)) _ h.0).0) file.formulas
      (each_of (λ d. demand_faults file 0 d ≡ []) formula_demands file.formulas (empty_each (demand_faults file 0) bodies judged_rest.0)))

  -- ---- names
  expression_kept : (e : Expression) → AllNames (IsKnown file) e → AllNames IsKept (flat_expression file unchanged e)
  expression_kept e h =
      names_renamed IsKept unchanged (whole file e)
      (names_with (IsFree file) (IsKnown file) IsKept (λ x f k. record { free = f; known = k }) (whole file e) (whole_plain file order ordered e)
      (names_written_out (IsKnown file) (formula_body file) (λ x k. body_known x) (length file.formulas) e h))

  written_is : (rename : Name → Name) (x : Name) → IsFree file x → written_name file rename x ≡ rename x
  written_is rename x h = ap (λ o. if is_some o then x else rename x) h

  plain_kept : (i : ℕ) (d : Demand) → unknown file d ≡ [] → demand_faults file i d ≡ [] → AllUsed IsKept (flat_demand file unchanged d)
  plain_kept i (fixed w e) u j = expression_kept e (known_used file (fixed w e) u)
  plain_kept i (varying w e) u j = expression_kept e (known_used file (varying w e) u)
  plain_kept i (written acts w) u j =
      let k = known_used file (written acts w) u in
      let f = written_free file i w.name.name acts w.name.at (append_parts (write_faults (target file i w.name.name) acts w.name.at) _ j).0 in
      (subst IsKept (sym (written_is unchanged w.name.name f)) (record { free = f; known = k.0 }), expression_kept w.value k.1)

  module _ (rename : Name → Name) where
    found_kept : (x : Name) → IsFree file x → is_lost file rename x ≡ false → IsKept (rename x)
    found_kept x f e =
        let r = or_parts (is_formula file (rename x)) (not (is_among (values file) (rename x)))
        (ap (λ o. not (is_some o) && (is_formula file (rename x) || not (is_among (values file) (rename x)))) (sym f) ∙ e) in
        record { free = none_of (formula_body file (rename x)) r.0; known = not-false (is_among (values file) (rename x)) r.1 }

    renamed_kept : (e : Expression) → some_name (is_lost file rename) (whole file e) ≡ false → AllNames IsKept (flat_expression file rename e)
    renamed_kept e h =
        names_renamed IsKept rename (whole file e)
        (names_with (IsFree file) (λ x. is_lost file rename x ≡ false) (λ x. IsKept (rename x)) found_kept (whole file e) (whole_plain file order ordered e)
        (none_named (is_lost file rename) (whole file e) h))

    -- a name that is written is no formula's, since a formula's name is not replaced there
    free_before : (x : Name) → IsFree file (written_name file rename x) → IsFree file x
    free_before x h = by_body (formula_body file x) refl h
      where
        by_body : (o : Option Expression) → formula_body file x ≡ o → formula_body file (if is_some o then x else rename x) ≡ None → o ≡ None
        by_body None e k = refl
        by_body (Some b) e k = absurd (let both = sym e ∙ k in cc)

    copy_kept : (i : ℕ) (d : Demand) → some_used (is_lost file rename) (whole file) d ≡ false → demand_faults file i (flat_demand file rename d) ≡ [] →
        AllUsed IsKept (flat_demand file rename d)
    copy_kept i (fixed w e) u j = renamed_kept e u
    copy_kept i (varying w e) u j = renamed_kept e u
    copy_kept i (written acts w) u j =
        let r = or_parts (is_lost file rename w.name.name) (some_name (is_lost file rename) (whole file w.value)) u in
        let new = written_name file rename w.name.name in
        let f = free_before w.name.name (written_free file i new acts w.name.at (append_parts (write_faults (target file i new) acts w.name.at) _ j).0) in
        (subst IsKept (sym (written_is rename w.name.name f)) (found_kept w.name.name f r.0), renamed_kept w.value r.1)

  -- ---- demands without faults
  record IsFine (i : ℕ) (d : Demand) : Type 0 where
    names : unknown (flat file) d ≡ []
    judged : demand_faults (flat file) i d ≡ []

  kept_fine : (i : ℕ) (d : Demand) → AllUsed IsKept d → demand_faults file i d ≡ [] → IsFine i d
  kept_fine i d k j = record {
    names = used_known (flat file) d (used_then IsKept (IsKnown (flat file)) (λ x h. known_still file no_names.copies x h.free h.known) d k);
    judged = judged_alike file i d (used_then IsKept (IsFree file) (λ x h. h.free) d k) ∙ j;
  }

  plain_fine : (i : ℕ) (ds : List Demand) → Each (λ d. unknown file d ≡ []) ds → Each (λ d. demand_faults file i d ≡ []) ds →
      Each (IsFine i) (map (flat_demand file unchanged) ds)
  plain_fine i ds u j =
      each_map (λ d. IsFine i (flat_demand file unchanged d)) (IsFine i) (flat_demand file unchanged) (λ d h. h) ds
      (each_with (λ d. unknown file d ≡ []) (λ d. demand_faults file i d ≡ []) (λ d. IsFine i (flat_demand file unchanged d))
      (λ d p q. kept_fine i (flat_demand file unchanged d) (plain_kept i d p q) (written_out_judged file order ordered body_fits i d q)) ds u j)

  copy_fine : (i : ℕ) (rename : Name → Name) (ds : List Demand) → Each (λ d. some_used (is_lost file rename) (whole file) d ≡ false) ds →
      Each (λ d. demand_faults file i d ≡ []) (map (flat_demand file rename) ds) → Each (IsFine i) (map (flat_demand file rename) ds)
  copy_fine i rename ds u j =
      each_map (λ d. IsFine i (flat_demand file rename d)) (IsFine i) (flat_demand file rename) (λ d h. h) ds
      (each_with (λ d. some_used (is_lost file rename) (whole file) d ≡ false) (λ d. demand_faults file i (flat_demand file rename d) ≡ []) (λ d. IsFine i (flat_demand file rename d))
      (λ d p q. kept_fine i (flat_demand file rename d) (copy_kept rename i d p q) q) ds u (map_each (λ d. demand_faults file i d ≡ []) (flat_demand file rename) ds j))

  -- ---- modules
  record IsFineModule (i : ℕ) (m : Module) : Type 0 where
    demands : Each (IsFine i) (part_demands (flat_part file (part_of file m)))
    writes : flat_map repeated_writes (flat_part file (part_of file m)).commands ≡ []

  module_fine : (i : ℕ) (m : Module) → unknown_in file m ≡ [] → module_faults file i m ≡ [] → IsFineModule i m
  module_fine i (plain m) u j =
      let p = part_of file (plain m) in
      let r = append_parts (flat_map (demand_faults file i) (part_demands p)) (flat_map repeated_writes m.commands) j in
      record {
        demands =
            subst (Each (IsFine i)) (sym (part-flat file p))
            (plain_fine i (part_demands p) (empty_each (unknown file) (part_demands p) u) (empty_each (demand_faults file i) (part_demands p) r.0));
        writes = walked (flat_command file unchanged) repeated_writes repeated_writes (same_writes file) m.commands ∙ r.1;
      }
  module_fine i (copied m) u j =
      let p = part_of file (copied m) in
      let q = flat_part file p in
      let r = append_parts (flat_map (demand_faults file i) (part_demands q)) (flat_map repeated_writes q.commands) (empty_map (moved_to m.name.at) (part_faults file i q) j) in
      let kept = no_fault (loses_name file p) m.name.at Unknown (append_parts (fault_if (not (is_some (module_called file m.from.name))) m.from.at Unknown) _ u).1 in
      record {
        demands =
            subst (Each (IsFine i)) (sym (part-flat file p))
            (copy_fine i p.rename (part_demands p) (none_each (some_used (is_lost file p.rename) (whole file)) (part_demands p) kept)
            (subst (Each (λ d. demand_faults file i d ≡ [])) (part-flat file p) (empty_each (demand_faults file i) (part_demands q) r.0)));
        writes = r.1;
      }

  fine_known : (i : ℕ) (m : Module) → IsFineModule i m → unknown_in (flat file) (flat_module file m) ≡ []
  fine_known i m h =
      each_empty (unknown (flat file)) (part_demands (flat_part file (part_of file m)))
      (each_then (IsFine i) (λ d. unknown (flat file) d ≡ []) (λ d k. k.names) (part_demands (flat_part file (part_of file m))) h.demands)

  fine_judged : (i : ℕ) (m : Module) → IsFineModule i m → module_faults (flat file) i (flat_module file m) ≡ []
  fine_judged i m h =
      append_both (flat_map (demand_faults (flat file) i) (part_demands (flat_part file (part_of file m)))) _
      (each_empty (demand_faults (flat file) i) (part_demands (flat_part file (part_of file m)))
      (each_then (IsFine i) (λ d. demand_faults (flat file) i d ≡ []) (λ d k. k.judged) (part_demands (flat_part file (part_of file m))) h.demands))
      h.writes

  modules_fine : (i : ℕ) (ms : List Module) → Each (λ m. unknown_in file m ≡ []) ms → numbered_faults file i ms ≡ [] →
      (flat_map (unknown_in (flat file)) (map (flat_module file) ms) ≡ []) × (numbered_faults (flat file) i (map (flat_module file) ms) ≡ [])
  modules_fine i [] u j = (refl, refl)
  modules_fine i (m ∷ ms) u j =
      let r = append_parts (module_faults file i m) (numbered_faults file (i + 1) ms) j in
      let fine = module_fine i m u.0 r.0 in
      let rest = modules_fine (i + 1) ms u.1 r.1 in (
        append_both (unknown_in (flat file) (flat_module file m)) _ (fine_known i m fine) rest.0,
        append_both (module_faults (flat file) i (flat_module file m)) _ (fine_judged i m fine) rest.1,
      )

  -- ---- the file
  all_modules : (flat_map (unknown_in (flat file)) (map (flat_module file) file.modules) ≡ []) × (numbered_faults (flat file) 0 (map (flat_module file) file.modules) ≡ [])
  all_modules = modules_fine 0 file.modules (empty_each (unknown_in file) file.modules unknown_rest.1) judged_rest.1

  outer_fine : Each (IsFine 0) (outer_demands (flat file))
  outer_fine =
      subst (Each (IsFine 0)) (sym (outer-flat file))
      (plain_fine 0 (outer_demands file) (empty_each (unknown file) (outer_demands file) unknown_outer.0) (empty_each (demand_faults file 0) (outer_demands file) judged_outer.0))

  no_copies : (ms : List Module) → flat_map (copy_faults (flat file)) (map (flat_module file) ms) ≡ []
  no_copies [] = refl
  no_copies (m ∷ ms) = no_copies ms

  flat_names : name_faults (flat file) ≡ []
  flat_names =
      append_both (doubled_names (flat file)) _ (none_doubled file no_names.copies no_names.doubled)
      (append_both (unknown_names (flat file)) _
      (append_both (flat_map (unknown (flat file)) (outer_demands (flat file))) _
      (each_empty (unknown (flat file)) (outer_demands (flat file)) (each_then (IsFine 0) (λ d. unknown (flat file) d ≡ []) (λ d k. k.names) (outer_demands (flat file)) outer_fine))
      all_modules.0)
      (append_both (circles (flat file)) _ (no_circles file no_names.circles)
      (append_both (flat_map (copy_faults (flat file)) (map (flat_module file) file.modules)) _ (no_copies file.modules)
      (append_both (no_module (flat file)) _
      (ap (λ n. fault_if (nat_eq n 0) file.end Nothing) (length-map file.modules (flat_module file)) ∙ no_names.modules)
      (flat_starts file no_names.starts)))))

  flat_types : type_faults (flat file) ≡ []
  flat_types =
      append_both (flat_map (demand_faults (flat file) 0) (outer_demands (flat file))) _
      (each_empty (demand_faults (flat file) 0) (outer_demands (flat file))
      (each_then (IsFine 0) (λ d. demand_faults (flat file) 0 d ≡ []) (λ d k. k.judged) (outer_demands (flat file)) outer_fine))
      all_modules.1

pub flat_is_clean : FlatIsClean
flat_is_clean file places clean placed =
    let order = formula_names (at_places file.formulas places) in
    let ordered = places_order file places placed in
    record {
      printable = flat_printable file clean.printable;
      names = flat_names file order ordered clean.names clean.types;
      types = flat_types file order ordered clean.names clean.types;
    }

pub flat_has_no_fault : FlatHasNoFault
flat_has_no_fault file places e placed =
    let order = formula_names (at_places file.formulas places) in
    let ordered = places_order file places placed in
    let no = no_faults file e in
    ap (λ fs. or_else fs (or_else (size_faults (flat file)) (type_faults (flat file)))) (flat_names file order ordered no.names no.types)
    ∙ ap₂ or_else (ap (λ f. fault_if (passes_limit f) 0 TooLarge) (flat_twice file) ∙ no.sizes) (flat_types file order ordered no.names no.types)

-- ---- a judged file
no_places : (file : File) → IsPlaceOrder (flat file) []
no_places file = record { within = All-nil (λ i. i < 0); count = omega arith; listed = tt; covers = λ x b e. absurd cc }

pub flat_is_checked : FlatIsChecked
flat_is_checked c h = record {
  form = flat_printable c.file h.form;
  sound = flat_has_no_fault c.file c.order h.sound h.order;
  order = no_places c.file;
}
