-- No two names of a translated file that have to differ are the same.
use Rattle.std.specs.List.{flat_map, All}
use Rattle.std.specs.Prelude.{◌≡◌, ℕ, suc, ◌+◌, List, [], ◌∷◌, ◌++◌, map, length, Bool, true, false, not, Some, slice_get, get_or, bytes_eq, unwrap_or, codes}
use Rattle.std.proofs.Common.{refl, sym, ap, ap₂, subst, ◌∙◌, arith}
use Rattle.std.specs.Option.{option_map}
use Rattle.std.proofs.lemmas.Option.{slice_get-get_or}
use Rattle.std.proofs.lemmas.List.Elements.{All-cons, All-map, recursion_from_All}
use Rattle.std.proofs.lemmas.Bool.{or_parts}
use Rattle.basics.specs.Booleans.{not_both}
use Rattle.basics.specs.Texts.{bytes_ne, bytes_eq-self}
use Rattle.basics.specs.Lists.{append_both}
use Rattle.basics.specs.Each.{each_empty, each_any, at_each}
use Rattle.bridge_io.specs.declared.reason.Named.{Named}
use Rattle.bridge_io.specs.declared.reason.Reason.{Reason}
use Rattle.bridge_io.specs.declared.reason.Reason.TheVariants.{TwiceNamed}
use Rattle.name_rules.proofs.Plain as plain
use Rattle.name_rules.proofs.Plain.{Apart}
use Rattle.process_core.specs.Product.{map-map}
use Rattle.basics.specs.Options.{if_some}
use Rattle.process_core.specs.Ready.{Name}
use Rattle.prism_tree.specs.Syntax as prism
use Rattle.prism_tree.specs.Syntax.{plain}
use Rattle.prism_names.specs.Names.{module_name}
use Rattle.process_core.specs.Instance.{numbered}
use Rattle.prism_check.specs.NameFaults.{doubled, values, given_labels, doubled_pairs, doubled_names}
use Rattle.jani_tree.specs.Syntax.{Automaton, File}
use Rattle.jani_meaning.specs.Elements as jani
use Rattle.jani_meaning.specs.Elements.{Owned, labels, structures}
use Rattle.prism_translation.specs.NameClass.{NameClass}
use Rattle.prism_translation.specs.NameClass.TheVariants.{Label}
use Rattle.prism_translation.specs.Entry.{Entry}
use Rattle.prism_translation.specs.Rule.{is_given_label, may_be_called}
use Rattle.prism_translation.specs.PrismAsks.{NewNames, name_at}
use Rattle.prism_translation.specs.Elements.{Element, elements}
use Rattle.prism_translation.specs.Names.{new_names}
use Rattle.prism_translation.specs.Modules.{module_of}
use Rattle.prism_translation.specs.Marks.{label, structure}
use Rattle.prism_translation.specs.Translated.{translated}
use Rattle.prism_translation_laws.proofs.Entries.{IsValidName}
use Rattle.prism_translation_laws.proofs.Segments.{modules_part, labels_part, rewards_part, labels_spelled, is_of_label}
use Rattle.prism_translation_laws.proofs.Values.{Differ, zip_named, values_differ}
use Rattle.jani_meaning.specs.LoopLaws.{element_count}

-- ---- names that stand once
abbrev names_of : List Named → List Name
names_of ns = map (λ n. n.name) ns

apart : (xs : List Name) → Differ xs → Apart xs
apart [] d = tt
apart (x ∷ xs) d = (recursion_from_All (λ y. bytes_eq x y ≡ false) xs d.0, apart xs d.1)

not_doubled : (r : Reason) (ns : List Named) → Differ (names_of ns) → doubled r ns ≡ []
not_doubled r ns d = plain.not_doubled r ns (apart (names_of ns) d)

-- ---- names by their places
-- the names of these entries are those from this place on
abbrev Agree : (ℕ → Name) → ℕ → List Entry → Type 0
Agree f k [] = Unit {0}
Agree f k (e ∷ es) = (f k ≡ e.name) × Agree f (k + 1) es

agree_from : (whole : List Entry) (k : ℕ) (es : List Entry) → ((i : ℕ) → slice_get whole (k + i) ≡ slice_get es i) → Agree (name_at whole) k es
agree_from whole k [] h = tt
agree_from whole k (e ∷ es) h = (
  (let z : k + 0 ≡ k = omega arith in named (ap (slice_get whole) (sym z) ∙ h 0)),
  agree_from whole (k + 1) es (λ i. let z : (k + 1) + i ≡ k + suc i = omega arith in ap (slice_get whole) z ∙ h (suc i)),
)
  where
    named : slice_get whole k ≡ Some e → name_at whole k ≡ e.name
    named g = ap (λ o. unwrap_or (option_map (λ (u : Entry). u.name) o) []) g

agree : (es : List Entry) → Agree (name_at es) 0 es
agree es = agree_from es 0 es (λ i. let z : 0 + i ≡ i = omega arith in ap (slice_get es) z)

module _ (file : File) where
  abbrev names : NewNames
  names = new_names file

  abbrev new : prism.File
  new = translated file

  modules_from : (f : ℕ → Name) (k : ℕ) (as_ : List Automaton) (es : List Entry) → length es ≡ length as_ → Agree f k es →
      map (λ (el : Element). f el.number) (numbered (λ i a. record { number = i; automaton = a } ∷ []) k as_) ≡ map (λ e. e.name) es
  modules_from f k [] [] l g = refl
  modules_from f k [] (e ∷ es) l g = absurd (let no : ⊥ = omega arith in no)
  modules_from f k (a ∷ as_) [] l g = absurd (let no : ⊥ = omega arith in no)
  modules_from f k (a ∷ as_) (e ∷ es) l g = ap₂ (λ x xs. x ∷ xs) g.0 (modules_from f (k + 1) as_ es (omega arith) g.1)

  pub modules_named : names_of (map module_name new.modules) ≡ map (λ e. e.name) names.modules
  modules_named =
      let l = (modules_part file).long in
      let m = element_count file in
      ap names_of (map-map module_name (λ el. plain (module_of file names el)) (elements file))
      ∙ map-map (λ (n : Named). n.name) (λ el. module_name (plain (module_of file names el))) (elements file)
      ∙ modules_from (name_at names.modules) 0 (jani.elements file) names.modules (omega arith) (agree names.modules)

  rewards_from : (f : ℕ → Name) (k : ℕ) (os : List Owned) (es : List Entry) → length es ≡ length os → Agree f k es →
      names_of (flat_map (λ (r : prism.Rewards). if_some r.name) (numbered (λ j o. structure file names j o (f j) ∷ []) k os)) ≡ map (λ e. e.name) es
  rewards_from f k [] [] l g = refl
  rewards_from f k [] (e ∷ es) l g = absurd (let no : ⊥ = omega arith in no)
  rewards_from f k (o ∷ os) [] l g = absurd (let no : ⊥ = omega arith in no)
  rewards_from f k (o ∷ os) (e ∷ es) l g = ap₂ (λ x xs. x ∷ xs) g.0 (rewards_from f (k + 1) os es (omega arith) g.1)

  pub rewards_named : names_of (flat_map (λ (r : prism.Rewards). if_some r.name) new.rewards) ≡ map (λ e. e.name) names.rewards
  rewards_named = rewards_from (name_at names.rewards) 0 (structures file) names.rewards (rewards_part file).long (agree names.rewards)

  pub labels_named : names_of (map (λ (l : prism.Label). l.name) new.labels) ≡ map (λ e. e.name) names.labels
  labels_named =
      map-map (λ (n : Named). n.name) (λ (l : prism.Label). l.name) new.labels
      ∙ zip_named (λ (l : prism.Label). l.name.name) (λ o e. label file names o e.name) (λ o e. refl) (labels file) names.labels (labels_part file).long

  -- no label is one that every model has
  not_true : (b : Bool) → not b ≡ true → b ≡ false
  not_true true e = absurd cc
  not_true false e = refl

  label_free : (c : NameClass) (x : Name) → c ≡ Label → may_be_called c x ≡ true → is_given_label x ≡ false
  label_free c x e h = not_true (is_given_label x) (ap (λ d. may_be_called d x) (sym e) ∙ h)

  labels_free : All (λ e. is_given_label e.name ≡ false) names.labels
  labels_free i d l =
      let e = get_or names.labels i d in
      let w = at_each IsValidName names.labels i e (labels_spelled file) (slice_get-get_or names.labels i d l) in
      label_free e.class e.name (is_of_label e.class ((labels_part file).spaces i d l)) w.free

  turned : (x y : Name) → bytes_eq x y ≡ false → bytes_eq y x ≡ false
  turned x y h = bytes_ne y x (λ e. not_both (bytes_eq x y) (ap (λ z. bytes_eq x z) e ∙ bytes_eq-self x) h)

  abbrev init : Name
  init = codes "init"

  abbrev deadlock : Name
  deadlock = codes "deadlock"

  labels_differ : Differ (names_of (given_labels ++ map (λ (l : prism.Label). l.name) new.labels))
  labels_differ =
      subst (λ xs. Differ (init ∷ deadlock ∷ xs)) (sym labels_named) (
        All-cons (λ y. bytes_eq init y ≡ false) deadlock (map (λ (e : Entry). e.name) names.labels) refl
            (All-map (λ y. bytes_eq init y ≡ false) (λ (e : Entry). e.name) names.labels
            (λ i d l. let x = (get_or names.labels i d).name in turned x init (or_parts (bytes_eq x init) (bytes_eq x deadlock) (labels_free i d l)).0)),
        (
          All-map (λ y. bytes_eq deadlock y ≡ false) (λ (e : Entry). e.name) names.labels
              (λ i d l. let x = (get_or names.labels i d).name in turned x deadlock (or_parts (bytes_eq x init) (bytes_eq x deadlock) (labels_free i d l)).1),
          (labels_part file).distinct,
        ),
      )

pub none_doubled : (file : File) → doubled_names (translated file) ≡ []
none_doubled file =
    let t = translated file in
    let names = new_names file in
    let ls = map (λ (l : prism.Label). l.name) t.labels in
    let rs = flat_map (λ (r : prism.Rewards). if_some r.name) t.rewards in
    append_both (doubled TwiceNamed (values t)) _ (not_doubled TwiceNamed (values t) (values_differ file))
    (append_both (doubled TwiceNamed (map module_name t.modules)) _
    (not_doubled TwiceNamed (map module_name t.modules) (subst Differ (sym (modules_named file)) (modules_part file).distinct))
    (append_both (doubled TwiceNamed (given_labels ++ ls)) _ (not_doubled TwiceNamed (given_labels ++ ls) (labels_differ file))
    (append_both (doubled TwiceNamed rs) (flat_map doubled_pairs t.modules)
    (not_doubled TwiceNamed rs
    (subst Differ (sym (rewards_named file)) (rewards_part file).distinct))
    (each_empty doubled_pairs t.modules (each_any (λ m. doubled_pairs m ≡ []) (λ el. plain (module_of file names el)) (λ el. refl) (elements file))))))
