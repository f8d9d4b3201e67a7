-- The new names of short ones are short.
use Rattle.std.proofs.Common.{◌≡◌, ℕ, ◌<◌, ◌≤◌, ◌^◌, sym, ap, subst, arith, List, ◌++◌, length, take, Option, Some, slice_get, length-append, codes}
use Rattle.std.specs.List.{AllByRecursion as Each}
use Rattle.std.proofs.lemmas.Fmt.{length-decimal-le_wide}
use Rattle.std.proofs.lemmas.List.{length-take-le}
use Rattle.std.proofs.lemmas.List.Sums.{count_by-le-length}
use Rattle.std.proofs.lemmas.Option.{slice_get_within}
use Rattle.basics.specs.Each.{each_at, at_each}
use Rattle.basics.specs.Options.{IfAny}
use Rattle.frac_core.specs.Text.{digits}
use Rattle.frac_core.proofs.Digits.{digits_decimal}
use Rattle.jani_tree.specs.Form.{IsShortName}
use Rattle.prism_tree.specs.Syntax.{File}
use Rattle.name_table.specs.declared.class.NameClass.{NameClass}
use Rattle.name_table.specs.declared.class.Target.TheVariants.{Jani}
use Rattle.name_table.specs.declared.entry.Entry.{Entry}
use Rattle.name_table.specs.Rule.{same_class, made_name}
use Rattle.name_table.specs.Entries.{count_of}
use Rattle.name_table.specs.Asks.{asks, entries}
use Rattle.name_table.proofs.MadeNames.{each_class}
use Rattle.name_table.proofs.EntryLemmas.{Comes, was_kept, was_made, one_each, placed}
use Rattle.jani_translation_laws.proofs.Entries.{entry_name}
use Rattle.short_names.specs.ShortNames.{IsShort}
use Rattle.short_names.specs.TranslationLaws.{AsksAreShort}

made_short : (c : NameClass) (n : ℕ) → n < 2 ^ 66 → IsShort (made_name c n)
made_short c n h =
    let e = ap length (digits_decimal n (omega (arith, h))) in
    let l = length-decimal-le_wide 20 n (omega arith) (omega (arith, h)) (omega (arith, h)) in
    let d : length (digits n) ≤ 20 = omega arith in
    each_class (λ k. IsShort (made_name k n)) (by_prefix (codes "zz_c_") d (omega arith)) (by_prefix (codes "zz_v_") d (omega arith)) (by_prefix (codes "zz_loc_") d (omega arith))
    (by_prefix (codes "zz_m_") d (omega arith)) (by_prefix (codes "zz_a_") d (omega arith)) (by_prefix (codes "zz_l_") d (omega arith)) (by_prefix (codes "zz_r_") d (omega arith))
    (by_prefix (codes "zz_p_") d (omega arith)) c
  where
    by_prefix : (p : List ℕ) → length (digits n) ≤ 20 → length p ≤ 7 → length (p ++ digits n) ≤ 255
    by_prefix p d l = let a = length-append p (digits n) in omega arith

length_by : (es : List Entry) (c : NameClass) (o : Option (List ℕ)) (e : Entry) → length es < 2 ^ 66 → IfAny IsShort o → Comes Jani es c o e → IsShort e.name
length_by es c o e l s (was_kept x q k h) = subst IsShort (sym (ap (λ (u : Entry). u.name) h)) (subst (IfAny IsShort) q s)
length_by es c o e l s (was_made h) =
    let n = count_by-le-length (λ (u : Entry). same_class u.class c) es in
    subst IsShort (sym (ap (λ (u : Entry). u.name) h)) (made_short c (count_of c es) (omega arith))

module _ (file : File) (few : length (asks file) < 2 ^ 66) (short : AsksAreShort (asks file)) where
  length_of : (i : ℕ) (e : Entry) → slice_get (entries file) i ≡ Some e → IsShort e.name
  length_of i e h =
      let p = placed Jani (asks file) i e h in
      let within = slice_get_within (entries file) i e h in
      let n = one_each Jani (asks file) in
      let m = length-take-le i (entries file) (omega arith) in
      length_by (take i (entries file)) p.asked.0 p.asked.1 e (omega (arith, few, n, m, within)) (at_each (λ a. IfAny IsShort a.1) (asks file) i p.asked short p.ask) p.comes

  pub short_entries : Each (λ e. IsShortName e.name) (entries file)
  short_entries = each_at (λ e. IsShortName e.name) (entries file) (λ i e h. let l = length_of i e h in record { some = entry_name file i e h; short = omega (arith, l) })
