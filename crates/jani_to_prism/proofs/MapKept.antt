-- The map of a file is the one of states and labels under which it means the same as its translation.
use Rattle.std.specs.Prelude.{◌≡◌, ◌<◌, ◌≤◌, ◌+◌, ◌-◌, ℕ, List, [], ◌∷◌, length, map, Bool, true, false, if◌then◌else◌, bytes_eq, nat_eq, nat_lt}
use Rattle.std.specs.List.{count_by, All, IsDistinct}
use Rattle.std.proofs.Common.{refl, sym, ap, ap₂, ◌∙◌, arith, ltb-false, subst, subst₂}
use Rattle.std.proofs.lemmas.List.{length-map}
use Rattle.std.proofs.lemmas.List.Elements.{All-from_recursion, recursion_from_All}
use Rattle.std.proofs.lemmas.Slice.Eq.{bytes_eq-Decides}
use Rattle.basics.specs.Members.{all_each}
use Rattle.frac_core.specs.Fraction.{Fraction}
use Rattle.process_core.specs.Instance.{Column, Fault, Scene, Valuation}
use Rattle.process_core.specs.Process.{Choice, Model, SameAt, under}
use Rattle.process_core.specs.Process as core
use Rattle.process_core.specs.Product.{map-map}
use Rattle.process_core.specs.Ready.{Values, Name}
use Rattle.process_core.specs.declared.data.Mark.{Mark}
use Rattle.process_core.proofs.Targets.{Distinct}
use Rattle.choice_laws.specs.Columns.{state_by}
use Rattle.carry_maps.specs.declared.map.CarryMap.{CarryMap}
use Rattle.carry_maps.specs.declared.map.Column.TheVariants as at
use Rattle.carry_maps.specs.declared.map.LabelPair.{LabelPair}
use Rattle.carry_maps.specs.Maps.{column_number, column_numbers, has_pair, jani_label, IsMap}
use Rattle.carry_maps.specs.Instances.{SameByItsMap}
use Rattle.prism_flat.specs.Process as prism_process
use Rattle.prism_flat.specs.Scene as prism_scene
use Rattle.prism_check.specs.PlacesLaws.{PlacesKeepScenes, PlacesMeanNothing}
use Rattle.jani_tree.specs.Syntax.{Automaton, File, element_names}
use Rattle.jani_meaning.specs.Elements as jani
use Rattle.jani_meaning.specs.Elements.{lasting}
use Rattle.prism_translation.specs.Modules.{Action, actions}
use Rattle.prism_translation.specs.Names.{new_names}
use Rattle.prism_translation.specs.StateLaws.{columns, old_label, state_of}
use Rattle.prism_translation.specs.Translated.{translated}
use Rattle.prism_translation.proofs.Apart.{actions_differ}
use Rattle.prism_translation.proofs.ColumnNames.{name_of, names_of_columns}
use Rattle.prism_translation.proofs.Coverage.{all_within}
use Rattle.prism_translation.proofs.Numbered.{automata_length}
use Rattle.prism_translation.proofs.OneToOne.{columns_once}
use Rattle.jani_to_prism.specs.Maps.{AreSameByMap, IsMapOfTranslation, IsMapToPrism, column_at, pair_of}
use Rattle.jani_to_prism.proofs.PairedActions.{choices_paired, labels_agree}

-- ---- actions
distinct : (xs : List Name) → Distinct bytes_eq bytes_eq-Decides xs → IsDistinct bytes_eq xs
unfolding IsDistinct
distinct [] h = tt
distinct (x ∷ xs) h = (recursion_from_All (λ y. bytes_eq x y ≡ false) xs h.0, distinct xs h.1)

-- ---- columns and their numbers
number_back : (n j : ℕ) → column_number n (column_at n j) ≡ j
number_back n j = by_test (nat_lt j n) refl
  where
    by_test : (b : Bool) → nat_lt j n ≡ b → column_number n (if b then at.Location j else at.Variable (j - n)) ≡ j
    by_test true e = refl
    by_test false e = let up = ltb-false j n e in omega arith

numbers_back : (n : ℕ) (js : List ℕ) → map (column_number n) (map (column_at n) js) ≡ js
numbers_back n [] = refl
numbers_back n (j ∷ js) = ap₂ (λ i is. i ∷ is) (number_back n j) (numbers_back n js)

-- ---- a file
module _ (old : File) where
  abbrev acts : List Action
  acts = actions old (new_names old)

  once : (ps : List LabelPair) → ps ≡ map pair_of acts → IsDistinct bytes_eq (map (λ p. p.prism) ps)
  once ps e = subst (IsDistinct bytes_eq) (sym (ap (map (λ (p : LabelPair). p.prism)) e ∙ map-map (λ (p : LabelPair). p.prism) pair_of acts)) (distinct (map (λ t. t.name) acts) (actions_differ old))

  -- ---- columns
  numbers : (m : CarryMap) → IsMapToPrism old m → column_numbers m ≡ columns old
  numbers m h =
      let many : length m.locations ≡ length (element_names old) = ap length h.locations ∙ length-map (jani.elements old) (λ (a : Automaton). length a.locations) ∙ automata_length old in
      ap₂ (λ n cs. map (column_number n) cs) many h.columns ∙ numbers_back (length (element_names old)) (columns old)

  columns_long : (v : Valuation) → length (prism_scene.scene (translated old) v).columns ≡ length (columns old)
  columns_long v =
      sym (length-map (prism_scene.columns_of (translated old) v) (λ (k : Column). k.name)) ∙ ap length (names_of_columns old v) ∙ length-map (columns old) (name_of old v)

  is_map : (m : CarryMap) (n k : ℕ) → IsMapToPrism old m → n ≡ length (columns old) → k ≡ length (element_names old) + length (lasting old) → IsMap m n k
  is_map m n k h many wide = record {
    each = ap length h.columns ∙ length-map (columns old) (column_at (length (element_names old))) ∙ sym many;
    below = subst₂ (λ w js. All (λ j. j < w) js) (sym wide) (sym (numbers m h)) (all_within old);
    differ = subst (λ js. All (λ i. count_by (λ j. nat_eq j i) js ≤ 1) js) (sym (numbers m h)) (columns_once old);
    actions = once m.labels h.labels;
  }

  -- ---- choices
  paired : (v : Valuation) (s : Values) (ps : List LabelPair) (cs : List (Choice Name Fraction Values)) → ps ≡ map pair_of acts →
      cs ≡ (prism_process.model (translated old)).choices v s → All (λ c. has_pair ps c.label ≡ true) cs
  paired v s ps cs e f =
      subst₂ (λ qs ds. All (λ c. has_pair qs c.label ≡ true) ds) (sym e) (sym f)
      (All-from_recursion (λ c. has_pair (map pair_of acts) c.label ≡ true) ((prism_process.model (translated old)).choices v s) (choices_paired old v s))

pub is_map_of_translation : PlacesMeanNothing → PlacesKeepScenes → IsMapOfTranslation
is_map_of_translation models scenes old new same m h v w d e here there =
    let means : prism_process.model new ≡ prism_process.model (translated old) = models new (translated old) same in
    let many : length d.columns ≡ length (columns old) = here.columns ∙ ap (λ (k : Scene). length k.columns) (scenes new (translated old) same v) ∙ columns_long old v in
    let chosen : (s : Values) → d.choices s ≡ (prism_process.model (translated old)).choices v s =
    λ s.
    ap (λ (p : core.Process Name Fraction Mark Values). p.choices s) (here.seen ∙ ap (λ (k : Model Valuation Fault Name Fraction Mark Values). under k v) means) in
    record {
      columns = is_map old m (length d.columns) (length e.columns) h many there.columns;
      agree = record {
        states = λ s i. ap₂ (λ js k. state_by js k s) (numbers old m h) there.columns;
        labels = λ s i.
            all_each (λ c. jani_label m.labels c.label ≡ old_label old c.label)
            (λ c. ap (λ ps. jani_label ps c.label) h.labels ∙ labels_agree (actions old (new_names old)) c.label) (d.choices s);
      };
      labels = λ s i. paired old v s m.labels (d.choices s) h.labels (chosen s);
    }

pub are_same_by_map : SameByItsMap → PlacesMeanNothing → PlacesKeepScenes → AreSameByMap
are_same_by_map by_its_map models scenes old new h m is v w alike none d e here there process =
    by_its_map m d e (old_label old) (state_of old)
    (subst₂ (λ p q. SameAt p q (old_label old) (state_of old)) (sym here.seen) (sym there.seen) (h.states v w alike none))
    (is_map_of_translation models scenes old new h.shape m is v w d e here there) process
