-- The names of translated properties: none stands twice, and none is empty; and of which length new names are.
use Rattle.std.proofs.Common.{◌≡◌, ℕ, zero, suc, ◌+◌, ◌<◌, ◌≤◌, ◌^◌, refl, sym, ap, ap₂, subst, ◌∙◌, arith, Bool, true, false, List, [], ◌∷◌, ◌++◌, map, flat_map, length, take, Option, Some, None, slice_get, nat_lt, length-append, codes}
use Rattle.std.specs.Prelude.{bytes_eq}
use Rattle.std.specs.List.{AllByRecursion as Each, AllZip, IsDistinct, zip}
use Rattle.std.specs.Option.{option_map}
use Rattle.std.proofs.lemmas.Bool.Decides.{nat_tests}
use Rattle.std.proofs.lemmas.Fmt.{length-decimal-le_wide}
use Rattle.std.proofs.lemmas.List.{length-take-le}
use Rattle.std.proofs.lemmas.List.Sums.{count_by-le-length}
use Rattle.std.proofs.lemmas.Option.{slice_get_within}
use Rattle.basics.specs.Each.{each_at, at_each}
use Rattle.basics.specs.Lists.{slice_get-drop, slice_get-append_add}
use Rattle.basics.specs.Options.{if_some, IfAny}
use Rattle.bridge_io.specs.declared.reason.Named.{Named}
use Rattle.bridge_io.specs.declared.reason.Reason.TheVariants.{TooLong, TwiceNamed}
use Rattle.frac_core.specs.Text.{digits}
use Rattle.frac_core.proofs.Digits.{digits_decimal}
use Rattle.name_rules.specs.Doubled.{doubled}
use Rattle.name_rules.proofs.Plain.{Apart, not_doubled}
use Rattle.prism_tree.specs.Syntax.{File}
use Rattle.jani_table.specs.Words.{name_fault, unless}
use Rattle.name_table.specs.declared.class.NameClass.{NameClass}
use Rattle.name_table.specs.declared.class.NameClass.TheVariants.{Property as OfProperty}
use Rattle.name_table.specs.declared.class.Target.TheVariants.{Jani}
use Rattle.name_table.specs.declared.entry.Entry.{Entry}
use Rattle.name_table.specs.Rule.{same_class, space, is_valid, begins_zz, made_name}
use Rattle.name_table.specs.Entries.{Ask, count_of, entries_of}
use Rattle.name_table.specs.Asks.{asks, entries}
use Rattle.name_table.proofs.MadeNames.{each_class, made_begins}
use Rattle.name_table.proofs.EntryLemmas.{Comes, was_kept, was_made, first_alone, one_each, placed}
use Rattle.name_table.proofs.Parts.{names_apart, class_has}
use Rattle.prop_trees.specs.Trees.{Name, PrismProperty, JaniProperty}
use Rattle.jani_props.specs.Syntax.{Written}
use Rattle.jani_props.specs.Faults.{titles}
use Rattle.prop_to_jani.specs.ReadBack.{AreShort}
use Rattle.prop_to_jani.specs.ToJani.{all_entries, property_asks, property_entries, translated_property}
use Rattle.prop_to_jani.proofs.Lifted.{IsSame}
use Rattle.prop_to_jani.proofs.Valued.{distinct_names}

-- ---- the entries of properties

class_of : (o : Option Ask) → NameClass → NameClass
class_of None c = c
class_of (Some a) c = a.0

property_class : (ps : List PrismProperty) (i : ℕ) (a : Ask) → slice_get (property_asks ps) i ≡ Some a → a.0 ≡ OfProperty
unfolding class_of
property_class [] i a h = absurd cc
property_class (p ∷ ps) zero a h = sym (ap (λ o. class_of o OfProperty) h)
property_class (p ∷ ps) (suc i) a h = property_class ps i a h

-- a name that is kept is valid, and one that is made begins with zz_
not_empty : (es : List Entry) (c : NameClass) (o : Option (List ℕ)) (e : Entry) → Comes Jani es c o e → e.name ≡ [] → ⊥
not_empty es c o e (was_kept x p k h) q = let no : true ≡ false = sym k.valid ∙ ap (is_valid Jani c) (sym (ap (λ (u : Entry). u.name) h) ∙ q) in cc
not_empty es c o e (was_made h) q = let no : true ≡ false = sym (made_begins c (count_of c es)) ∙ ap begins_zz (sym (ap (λ (u : Entry). u.name) h) ∙ q) in cc

made_short : (c : NameClass) (n : ℕ) → n < 10 ^ 20 → length (made_name c n) ≤ 255
made_short c n h =
    let e = ap length (digits_decimal n (omega (arith, h))) in
    let l = length-decimal-le_wide 20 n (omega arith) h (omega (arith, h)) in
    let d : length (digits n) ≤ 20 = omega arith in
    each_class (λ k. length (made_name k n) ≤ 255) (by_prefix (codes "zz_c_") d (omega arith)) (by_prefix (codes "zz_v_") d (omega arith)) (by_prefix (codes "zz_loc_") d (omega arith))
    (by_prefix (codes "zz_m_") d (omega arith)) (by_prefix (codes "zz_a_") d (omega arith)) (by_prefix (codes "zz_l_") d (omega arith)) (by_prefix (codes "zz_r_") d (omega arith))
    (by_prefix (codes "zz_p_") d (omega arith)) c
  where
    by_prefix : (p : Name) → length (digits n) ≤ 20 → length p ≤ 7 → length (p ++ digits n) ≤ 255
    by_prefix p d l = let a = length-append p (digits n) in omega arith

length_by : (es : List Entry) (c : NameClass) (o : Option (List ℕ)) (e : Entry) → length es < 10 ^ 20 → IfAny (λ x. length x ≤ 255) o → Comes Jani es c o e → length e.name ≤ 255
length_by es c o e l s (was_kept x q k h) = subst (λ y. length y ≤ 255) (sym (ap (λ (u : Entry). u.name) h)) (subst (IfAny (λ x. length x ≤ 255)) q s)
length_by es c o e l s (was_made h) =
    let n = count_by-le-length (λ (u : Entry). same_class u.class c) es in
    subst (λ y. length y ≤ 255) (sym (ap (λ (u : Entry). u.name) h)) (made_short c (count_of c es) (omega arith))

module _ (file : File) (ps : List PrismProperty) where
  abbrev wanted : List Ask
  wanted = asks file ++ property_asks ps

  entry_at : (i : ℕ) (e : Entry) → slice_get (property_entries file ps) i ≡ Some e → slice_get (entries_of Jani wanted) (length (asks file) + i) ≡ Some e
  entry_at i e h = sym (slice_get-drop (length (asks file)) i (entries_of Jani wanted)) ∙ h

  entry_class : (i : ℕ) (e : Entry) → slice_get (property_entries file ps) i ≡ Some e → e.class ≡ OfProperty
  entry_class i e h =
      class_has Jani wanted (λ c. c ≡ OfProperty) (length (asks file) + i) e
      (λ a k. property_class ps i a (sym (slice_get-append_add (asks file) (property_asks ps) (length (asks file)) i refl) ∙ k)) (entry_at i e h)

  pub titles_distinct : IsDistinct bytes_eq (map (λ e. e.name) (property_entries file ps))
  titles_distinct =
      distinct_names (property_entries file ps)
      (λ i j e u d g k.
      names_apart Jani wanted (length (asks file) + i) (length (asks file) + j) e u (λ q. d (omega (arith, q))) (entry_at i e g) (entry_at j u k)
      (ap (space Jani) (entry_class i e g ∙ sym (entry_class j u k))))

  -- no new name is empty
  pub none_empty : Each (λ e. e.name ≡ [] → ⊥) (all_entries file ps)
  none_empty =
      each_at (λ e. e.name ≡ [] → ⊥) (entries_of Jani wanted)
      (λ i e h. let p = placed Jani wanted i e h in not_empty _ p.asked.0 p.asked.1 e p.comes)

  -- and where the old ones are short, none is too long
  pub none_long : AreShort wanted → Each (λ e. length e.name ≤ 255) (all_entries file ps)
  none_long s =
      each_at (λ e. length e.name ≤ 255) (entries_of Jani wanted)
      (λ i e h.
      let p = placed Jani wanted i e h in
      let n = one_each Jani wanted in
      let within = slice_get_within (entries_of Jani wanted) i e h in
      let m = length-take-le i (entries_of Jani wanted) (omega arith) in
      let few = s.few in
      length_by (take i (entries_of Jani wanted)) p.asked.0 p.asked.1 e (omega (arith, few, n, m, within)) (at_each (λ a. IfAny (λ x. length x ≤ 255) a.1) wanted i p.asked s.names p.ask) p.comes)

  -- the first entries are the file's
  pub first_entries : take (length (asks file)) (all_entries file ps) ≡ entries file
  first_entries = first_alone Jani (asks file) (property_asks ps)

-- ---- what stands once has no fault

apart : (xs : List Name) → IsDistinct bytes_eq xs → Apart xs
unfolding IsDistinct
apart [] d = tt
apart (x ∷ xs) d = (d.0, apart xs d.1)

pub translated_named : (file : File) (ps : List PrismProperty) (es : List Entry) → length es ≡ length ps → flat_map (λ q. if_some q.name) (map (λ p. translated_property file p.0 p.1) (zip ps es)) ≡ map (λ e. e.name) es
translated_named file [] [] l = refl
translated_named file [] (e ∷ es) l = absurd (omega (arith, l))
translated_named file (p ∷ ps) [] l = absurd (omega (arith, l))
translated_named file (p ∷ ps) (e ∷ es) l = ap (λ xs. e.name ∷ xs) (translated_named file ps es (omega (arith, l)))

titles_named : (rewards : List Name) (qs : List JaniProperty) (ws : List Written) → AllZip (IsSame rewards) qs ws → map (λ (n : Named). n.name) (titles ws) ≡ flat_map (λ q. if_some q.name) qs
titles_named rewards [] [] s = refl
titles_named rewards [] (w ∷ ws) s = absurd s
titles_named rewards (q ∷ qs) [] s = absurd s
titles_named rewards (q ∷ qs) (w ∷ ws) s = one w.name ∙ ap₂ (λ o xs. if_some o ++ xs) s.0.name (titles_named rewards qs ws s.1)
  where
    one : (o : Option Named) → map (λ (n : Named). n.name) (if_some o ++ titles ws) ≡ if_some (option_map (λ (n : Named). n.name) o) ++ map (λ (n : Named). n.name) (titles ws)
    one None = refl
    one (Some n) = refl

pub titles_once : (rewards : List Name) (qs : List JaniProperty) (ws : List Written) (xs : List Name) → AllZip (IsSame rewards) qs ws → flat_map (λ q. if_some q.name) qs ≡ xs → IsDistinct bytes_eq xs →
    doubled TwiceNamed (titles ws) ≡ []
titles_once rewards qs ws xs s e d = not_doubled TwiceNamed (titles ws) (subst Apart (sym (titles_named rewards qs ws s ∙ e)) (apart xs d))

-- ---- how long names are

pub long_name : (x : Name) → (x ≡ [] → ⊥) → IfAny (λ r. r ≡ TooLong) (name_fault x)
long_name [] h = absurd (h refl)
long_name (b ∷ x) h = by_test (nat_lt (length (b ∷ x)) 256)
  where
    by_test : (t : Bool) → IfAny (λ r. r ≡ TooLong) (unless t TooLong)
    by_test true = tt
    by_test false = refl

pub short_name : (x : Name) → (x ≡ [] → ⊥) → length x ≤ 255 → IfAny (λ r. ⊥) (name_fault x)
short_name [] h l = absurd (h refl)
short_name (b ∷ x) h l = subst (λ t. IfAny (λ r. ⊥) (unless t TooLong)) (sym (below (length (b ∷ x)) l)) tt
  where
    below : (n : ℕ) → n ≤ 255 → nat_lt n 256 ≡ true
    below n h = grind (arith, nat_tests)
