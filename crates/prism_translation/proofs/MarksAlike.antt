-- At states that go with each other both files have the same marks: labels, and the rewards of states.
use Rattle.std.specs.Prelude.{◌≡◌, ℕ, suc, ◌+◌, ◌<◌, ◌≤◌, pos, List, [], ◌∷◌, ◌++◌, map, length, Bool, true, false, cond, Option, Some, None, if◌then◌else◌, get_or, slice_get, unwrap_or, drop}
use Rattle.std.specs.List.{flat_map, filter, find, All, zip}
use Rattle.std.specs.Option.{option_map}
use Rattle.std.proofs.Common.{refl, sym, ap, ap₂, subst, ◌∙◌, arith, append-nil, ltb-false, length-append, length-drop}
use Rattle.std.proofs.lemmas.List.{map-append, length-take}
use Rattle.std.proofs.lemmas.List.Elements.{filter-append, All-nil, All-head, All-tail, All-weaker, All-append, All-map, All-filter}
use Rattle.basics.specs.Members.{filter-map}
use Rattle.frac_core.specs.Fraction.{Fraction, whole, plus, nought}
use Rattle.frac_core.specs.Decimal.{decimal_value-whole}
use Rattle.frac_core.specs.Laws.{same_number_is, plus_nought}
use Rattle.frac_core.specs.Sums as sums
use Rattle.op_trees.specs.declared.tree.Value.{Value}
use Rattle.op_trees.specs.declared.tree.Value.TheVariants as V
use Rattle.op_trees.specs.Tree.{Three}
use Rattle.op_trees.specs.Seen.{Seen, known, seen, lazy_node, two_node}
use Rattle.process_core.specs.Product.{map-map, map-flat_map}
use Rattle.basics.specs.Options.{if_some}
use Rattle.process_core.specs.Ready.{Values, Name}
use Rattle.process_core.specs.Bounds.{adds}
use Rattle.process_core.specs.Choices.{number_of, all_defined, truth_of}
use Rattle.process_core.specs.declared.data.Mark.TheVariants as M
use Rattle.choice_laws.proofs.Columns.{read_at}
use Rattle.choice_laws.proofs.Walks.{All-flat_map, filter-flat_map, flat_map_agree_in}
use Rattle.prism_tree.specs.declared.operator.PrismOp.TheVariants as P
use Rattle.prism_tree.specs.Operators.{prism_meaning}
use Rattle.prism_tree.specs.Syntax as prism
use Rattle.prism_tree.specs.declared.syntax.ItemOn.TheVariants as On
use Rattle.prism_names.specs.Names as prism_names
use Rattle.prism_names.specs.Names.{unchanged}
use Rattle.process_core.specs.Instance.{Valuation, is_state, numbered}
use Rattle.prism_flat.specs.Scene as prism_scene
use Rattle.prism_flat.specs.Moment as prism_moment
use Rattle.prism_flat.specs.Moment.{Earned, adds_of, item_at}
use Rattle.prism_flat.specs.Process.{is_for_states, state_reward}
use Rattle.prism_flat.specs.Process as prism_process
use Rattle.jani_tree.specs.Syntax as syntax
use Rattle.jani_tree.specs.Syntax.{Location, File, element_names}
use Rattle.jani_meaning.specs.Elements as jani
use Rattle.op_trees.specs.Names.{is_called}
use Rattle.jani_meaning.specs.Elements.{Owned, location_number, lasting}
use Rattle.jani_meaning.specs.Scene as jani_scene
use Rattle.jani_meaning.specs.Moment as jani_moment
use Rattle.jani_meaning.specs.Moment.{is_number, current_location, given_in, given_at, given_to, first_or}
use Rattle.jani_meaning.specs.Process as jani_process
use Rattle.name_table.specs.PrismAsks.{NewNames, outside, value_name, asks, labels_at, name_at}
use Rattle.name_table.specs.declared.entry.Entry.{Entry}
use Rattle.name_table.specs.declared.class.Target.TheVariants.{Prism}
use Rattle.name_table.proofs.EntryLemmas.{one_each}
use Rattle.prism_translation.specs.Elements.{Element, elements, has_several, may_use, Placed}
use Rattle.prism_translation.specs.Names.{new_names, all_asks, entries, action_ask}
use Rattle.prism_translation.specs.Parts.{is_there, counted, whole_literal}
use Rattle.prism_translation.specs.Marks as translation
use Rattle.prism_translation.specs.Marks.{Given, given_by, given_image, label_body, state_item, target_item, target_items_by, target_items, assigned_to, or_nought, structure, label}
use Rattle.prism_translation.specs.Modules.{Action, actions, truth, falsehood}
use Rattle.prism_translation.specs.Targets.{targets}
use Rattle.prism_translation.specs.StateLaws.{columns, state_of}
use Rattle.prism_translation.specs.Translated.{translated}
use Rattle.prism_translation.specs.Sound.{FileIsSound, GivesAlike, KnownExpression, AtMostOne, SoundLocations, MarksAreSound, HasOneGiver, is_some_given, StartsWithTruth, StartsWithNought, given_there}
use Rattle.jani_images.specs.Image.{image}
use Rattle.prism_translation.proofs.Numbered.{numbered_walk}
use Rattle.prism_translation.proofs.Apart.{asks_length}
use Rattle.prism_translation.proofs.Follows.{truth_seen, IsSound, LocationColumn, NoLocationColumn, SoundLocation, sees, here_alone, is_here}
use Rattle.prism_translation.proofs.SoundEdges.{expression_sound, location_sound}

-- ---- one of a list
only_found : {X Y : Type 0} (f : X → Y) (p : X → Bool) (xs : List X) → AtMostOne (filter p xs) → map f (filter p xs) ≡ map f (if_some (find p xs))
only_found f p [] h = refl
only_found f p (x ∷ xs) h = by_test (p x) h (only_found f p xs)
  where
    alone : (l : List _) → AtMostOne (x ∷ l) → map f (x ∷ l) ≡ f x ∷ []
    alone [] h = refl
    alone (y ∷ l) h = absurd h

    by_test : (b : Bool) → AtMostOne (cond b (x ∷ filter p xs) (filter p xs)) → (AtMostOne (filter p xs) → map f (filter p xs) ≡ map f (if_some (find p xs))) →
        map f (cond b (x ∷ filter p xs) (filter p xs)) ≡ map f (if_some (if b then Some x else find p xs))
    by_test true h ih = alone (filter p xs) h
    by_test false h ih = ih h

whole_differ : (i j : ℕ) → whole (pos i) ≡ whole (pos j) → i ≡ j
whole_differ i j e = let n : pos i ≡ pos j = ap (λ (q : Fraction). q.num) e in cc

is_number_once : (i j : ℕ) (o : Option Value) → is_number i o ≡ true → is_number j o ≡ true → i ≡ j
is_number_once i j None h k = absurd cc
is_number_once i j (Some (V.Truth b)) h k = absurd cc
is_number_once i j (Some (V.Number q)) h k = whole_differ i j (sym ((same_number_is q (whole (pos i))).0 h) ∙ (same_number_is q (whole (pos j))).0 k)

abbrev first_value : {X : Type 0} → X → List X → X
first_value other [] = other
first_value other (x ∷ xs) = x

module _ (file : File) (v w : Valuation) (sound : FileIsSound file) (alike : GivesAlike file v w) (marks : MarksAreSound file) (s : Values) (is : is_state (prism_scene.columns_of (translated file) v) s ≡ true) where
  abbrev u : Values
  u = state_of file s

  abbrev names : NewNames
  names = new_names file

  abbrev env : Name → Seen
  env = prism_moment.names_in (translated file) v s unchanged

  abbrev old : ℕ → Name → Seen
  old k = jani_moment.names_in file w u k

  abbrev total : ℕ
  total = length (element_names file) + length (lasting file)

  -- ---- where an element is
  abbrev test : Element → ℕ → Bool
  test el i = if has_several el then is_number i (slice_get u el.number) else true

  abbrev value_of : ℕ → syntax.Write → Option Value
  value_of k x = (jani_scene.see x.value (old k)).value

  there_seen : (el : Element) (i : ℕ) → LocationColumn file v w s el → (prism_names.see (is_there file names el.number i) env).value ≡ Some (V.Truth (is_number i (slice_get u el.number)))
  unfolding prism_names.see
  there_seen el i k =
      ap₂ (λ a b. (two_node prism_meaning P.Equal a b).value) k.seen_so (ap (λ y. known (Some (V.Number y))) (decimal_value-whole (whole_literal i) refl))
      ∙ ap (λ (o : Option Value). Some (V.Truth (is_number i o))) (ap Some (sym k.holds) ∙ sym (read_at (columns file) total s el.number k.column.within))

  ite_seen : (a b c : prism.Expression) (t : Bool) → (prism_names.see a env).value ≡ Some (V.Truth t) → (prism_names.see (Three 0 P.Ite a b c) env).value ≡ cond t (prism_names.see b env).value (prism_names.see c env).value
  unfolding prism_names.see
  ite_seen a b c t h = ap (λ o. (lazy_node prism_meaning P.Ite (with_value o (seen prism_meaning a env)) (seen prism_meaning b env) (seen prism_meaning c env)).value) h ∙ by_truth t
    where
      with_value : Option Value → Seen → Seen
      with_value o z = record { value = o; wide = z.wide }

      by_truth : (t : Bool) → (lazy_node prism_meaning P.Ite (with_value (Some (V.Truth t)) (seen prism_meaning a env)) (seen prism_meaning b env) (seen prism_meaning c env)).value ≡ cond t (seen prism_meaning b env).value (seen prism_meaning c env).value
      by_truth true = refl
      by_truth false = refl

  -- ---- one element: what its locations give where the test holds is what the current location gives
  abbrev held : Given → Bool
  held g = test g.element g.location

  abbrev value_given : Given → Option Value
  value_given g = (jani_scene.see g.value (old g.element.number)).value

  module _ (x : Name) (el : Element) where
    abbrev called : syntax.Write → Bool
    called y = is_called x y.target

    abbrev given_here : ℕ → syntax.Write → Given
    given_here i y = record { element = el; location = i; value = y.value }

    kept : (i : ℕ) (ys : List syntax.Write) → map value_given (filter held (map (given_here i) ys)) ≡ cond (test el i) (map (value_of el.number) ys) []
    kept i [] = by_test (test el i)
      where
        by_test : (b : Bool) → ◌≡◌ {A = List (Option Value)} [] (cond b [] [])
        by_test true = refl
        by_test false = refl
    kept i (y ∷ ys) = by_test (test el i) (kept i ys)
      where
        by_test : (b : Bool) → map value_given (filter held (map (given_here i) ys)) ≡ cond b (map (value_of el.number) ys) [] →
            map value_given (cond b (given_here i y ∷ filter held (map (given_here i) ys)) (filter held (map (given_here i) ys))) ≡ cond b (map (value_of el.number) (y ∷ ys)) []
        by_test true e = ap (λ l. value_of el.number y ∷ l) e
        by_test false e = e

    abbrev kept_at : ℕ → Location → List (Option Value)
    kept_at i l = cond (test el i) (map (value_of el.number) (filter called l.values)) []

    kept_walk : (k : ℕ) (ls : List Location) → map value_given (filter held (numbered (λ i l. map (given_here i) (filter called l.values)) k ls)) ≡ numbered kept_at k ls
    kept_walk k [] = refl
    kept_walk k (l ∷ ls) =
        ap (map value_given) (filter-append held (map (given_here k) (filter called l.values)) (numbered (λ i l. map (given_here i) (filter called l.values)) (k + 1) ls))
        ∙ map-append value_given (filter held (map (given_here k) (filter called l.values))) (filter held (numbered (λ i l. map (given_here i) (filter called l.values)) (k + 1) ls))
        ∙ ap₂ (λ a b. a ++ b) (kept k (filter called l.values)) (kept_walk (k + 1) ls)

    abbrev here : Location → Bool
    here l = is_here file v w s el l.name.name

    abbrev found : Option Location → List (Option Value)
    found o = map (value_of el.number) (if_some (given_in file w u x o))

    nothing_later : (k m : ℕ) (ls : List Location) → has_several el ≡ true → test el k ≡ true → k < m → numbered kept_at m ls ≡ []
    nothing_later k m [] e h l = refl
    nothing_later k m (y ∷ ls) e h l =
        ap₂ (λ b c. cond b (map (value_of el.number) (filter called y.values)) [] ++ c) (not_two (test el m) refl) (nothing_later k (m + 1) ls e h (omega arith))
      where
        of_several : (i : ℕ) → test el i ≡ true → is_number i (slice_get u el.number) ≡ true
        of_several i f = sym (ap (λ b. if b then is_number i (slice_get u el.number) else true) e) ∙ f

        not_two : (b : Bool) → test el m ≡ b → test el m ≡ false
        not_two true f = absurd (let same = is_number_once k m (slice_get u el.number) (of_several k h) (of_several m f) in omega arith)
        not_two false f = f

    several_walk : (k : ℕ) (ls : List Location) → has_several el ≡ true → ((i : ℕ) (l : Location) → slice_get ls i ≡ Some l → location_number el.automaton l.name.name ≡ k + i) →
        All (λ l. (y : Name) → AtMostOne (filter (λ z. is_called y z.target) l.values)) ls → numbered kept_at k ls ≡ found (find here ls)
    several_walk k [] e n o = refl
    several_walk k (l ∷ ls) e n o = by_test (here l) refl (several_walk (k + 1) ls e (λ i y h. n (suc i) y h ∙ omega arith) (All-tail (λ l. (y : Name) → AtMostOne (filter (λ z. is_called y z.target) l.values)) l ls o))
      where
        same : test el k ≡ here l
        same =
            ap (λ b. if b then is_number k (slice_get u el.number) else true) e
            ∙ ap (λ i. is_number i (slice_get u el.number)) (sym (n 0 l refl ∙ omega arith))

        by_test : (b : Bool) → here l ≡ b → numbered kept_at (k + 1) ls ≡ found (find here ls) → kept_at k l ++ numbered kept_at (k + 1) ls ≡ found (if b then Some l else find here ls)
        by_test true h ih =
            ap₂ (λ b c. cond b (map (value_of el.number) (filter called l.values)) [] ++ c) (same ∙ h) (nothing_later k (k + 1) ls e (same ∙ h) (omega arith))
            ∙ append-nil (map (value_of el.number) (filter called l.values))
            ∙ only_found (value_of el.number) called l.values (All-head (λ l. (y : Name) → AtMostOne (filter (λ z. is_called y z.target) l.values)) l ls o x)
        by_test false h ih = ap₂ (λ b c. cond b (map (value_of el.number) (filter called l.values)) [] ++ c) (same ∙ h) ih

    single_walk : (ls : List Location) → has_several el ≡ false → NoLocationColumn file v w s el → length ls ≤ 1 →
        All (λ l. (y : Name) → AtMostOne (filter (λ z. is_called y z.target) l.values)) ls → numbered kept_at 0 ls ≡ found (find here ls)
    single_walk [] e k l o = refl
    single_walk (y ∷ z ∷ ls) e k l o = absurd (let no : ⊥ = omega arith in no)
    single_walk (y ∷ []) e k l o =
        ap (λ b. cond (if b then is_number 0 (slice_get u el.number) else true) (map (value_of el.number) (filter called y.values)) [] ++ []) e
        ∙ append-nil (map (value_of el.number) (filter called y.values))
        ∙ only_found (value_of el.number) called y.values (All-head (λ l. (y : Name) → AtMostOne (filter (λ z. is_called y z.target) l.values)) y [] o x)
        ∙ ap (λ b. found (if b then Some y else None)) (sym (here_alone file v w s el y.name.name e k))

    element_gives : SoundLocation file v w s el → SoundLocations file el →
        map value_given (filter held (given_by x el)) ≡ map (λ (z : Seen). z.value) (given_at file w u x el.number el.automaton)
    element_gives place h =
        kept_walk 0 el.automaton.locations
        ∙ by_several (has_several el) refl
        ∙ sym (map-map (λ (z : Seen). z.value) (λ y. jani_scene.see y.value (old el.number)) (if_some (given_in file w u x (current_location u el.number el.automaton))))
      where
        by_several : (b : Bool) → has_several el ≡ b → numbered kept_at 0 el.automaton.locations ≡ found (find here el.automaton.locations)
        by_several true e = several_walk 0 el.automaton.locations e (λ i l f. h.named i l f ∙ (let o : i ≡ 0 + i = omega arith in o)) h.once
        by_several false e = single_walk el.automaton.locations e (place.single e) (let l = ltb-false 1 (length el.automaton.locations) e in omega arith) h.once

  -- ---- all elements
  abbrev giving : Owned → Element → List Seen
  giving o el = given_to file w u o el.number el.automaton

  gives : (o : Owned) (el : Element) → SoundLocation file v w s el → SoundLocations file el → map value_given (filter held (given_there file o el)) ≡ map (λ (z : Seen). z.value) (giving o el)
  gives o el place h = by_test (may_use el.number o.owner)
    where
      by_test : (b : Bool) → map value_given (filter held (if b then given_by o.var.name.name el else [])) ≡ map (λ (z : Seen). z.value) (if b then given_at file w u o.var.name.name el.number el.automaton else [])
      by_test true = element_gives o.var.name.name el place h
      by_test false = refl

  places : All (SoundLocation file v w s) (elements file)
  places = location_sound file v w sound alike s is

  all_give : (o : Owned) → map value_given (filter held (translation.given_to file o)) ≡ map (λ (z : Seen). z.value) (numbered (given_to file w u o) 0 (jani.elements file))
  all_give o =
      ap (map value_given) (filter-flat_map held (given_there file o) (elements file))
      ∙ map-flat_map value_given (λ el. filter held (given_there file o el)) (elements file)
      ∙ flat_map_agree_in _ (λ el. map (λ (z : Seen). z.value) (giving o el)) (elements file) (λ k d l. gives o (get_or (elements file) k d) (places k d l) (marks.locations k d l))
      ∙ sym (map-flat_map (λ (z : Seen). z.value) (giving o) (elements file))
      ∙ ap (map (λ (z : Seen). z.value)) (numbered_walk (giving o) 0 (jani.elements file))

  -- ---- what holds of all that is given
  abbrev SoundGiven : Given → Type 0
  SoundGiven g = SoundLocation file v w s g.element × IsSound file v w s g.element.number g.value

  given_sound : (x : Name) (el : Element) → SoundLocation file v w s el → SoundLocations file el → (k : ℕ) (ls : List Location) → All (λ l. All (λ y. KnownExpression file el.number y.value) l.values) ls →
      All SoundGiven (numbered (λ i l. map (λ y. record { element = el; location = i; value = y.value }) (filter (λ y. is_called x y.target) l.values)) k ls)
  given_sound x el place h k [] g = All-nil SoundGiven
  given_sound x el place h k (l ∷ ls) g =
      All-append SoundGiven (map (λ y. record { element = el; location = k; value = y.value }) (filter (λ y. is_called x y.target) l.values)) (numbered (λ i l. map (λ y. record { element = el; location = i; value = y.value }) (filter (λ y. is_called x y.target) l.values)) (k + 1) ls)
      (All-map SoundGiven (λ y. record { element = el; location = k; value = y.value }) (filter (λ y. is_called x y.target) l.values)
      (All-filter (λ y. is_called x y.target) (λ y. SoundGiven (record { element = el; location = k; value = y.value })) l.values
      (All-weaker (λ y. KnownExpression file el.number y.value) (λ y. SoundGiven (record { element = el; location = k; value = y.value })) (λ y e. (place, expression_sound file v w sound alike s is el.number y.value e)) l.values
      (All-head (λ l. All (λ y. KnownExpression file el.number y.value) l.values) l ls g))))
      (given_sound x el place h (k + 1) ls (All-tail (λ l. All (λ y. KnownExpression file el.number y.value) l.values) l ls g))

  all_given_sound : (o : Owned) → All SoundGiven (translation.given_to file o)
  all_given_sound o =
      All-flat_map SoundGiven (given_there file o) (elements file)
      (λ k d l. by_test (get_or (elements file) k d) (places k d l) (marks.locations k d l) (may_use (get_or (elements file) k d).number o.owner))
    where
      by_test : (el : Element) → SoundLocation file v w s el → SoundLocations file el → (b : Bool) → All SoundGiven (if b then given_by o.var.name.name el else [])
      by_test el place h true = given_sound o.var.name.name el place h 0 el.automaton.locations h.known
      by_test el place h false = All-nil SoundGiven

  image_is : (g : Given) → SoundGiven g → (prism_names.see (given_image file names g) env).value ≡ value_given g
  image_is g h = ap (λ (z : Seen). z.value) (sees file v w s g.element.number g.value h.1)

  -- ---- labels
  chain_seen : (other : prism.Expression) (gs : List Given) → All SoundGiven gs → (prism_names.see (label_body file names other gs) env).value ≡ first_value (prism_names.see other env).value (map value_given (filter held gs))
  chain_seen other [] h = refl
  chain_seen other (g ∷ gs) h = by_several (has_several g.element) refl (All-head SoundGiven g gs h) (chain_seen other gs (All-tail SoundGiven g gs h))
    where
      rest : List Given
      rest = filter held gs

      by_here : (t : Bool) → (prism_names.see (given_image file names g) env).value ≡ value_given g → (prism_names.see (label_body file names other gs) env).value ≡ first_value (prism_names.see other env).value (map value_given rest) →
          cond t (prism_names.see (given_image file names g) env).value (prism_names.see (label_body file names other gs) env).value ≡ first_value (prism_names.see other env).value (map value_given (cond t (g ∷ rest) rest))
      by_here true e ih = e
      by_here false e ih = ih

      by_several : (b : Bool) → has_several g.element ≡ b → SoundGiven g → (prism_names.see (label_body file names other gs) env).value ≡ first_value (prism_names.see other env).value (map value_given rest) →
          (prism_names.see (if b then Three 0 P.Ite (is_there file names g.element.number g.location) (given_image file names g) (label_body file names other gs) else given_image file names g) env).value
          ≡ first_value (prism_names.see other env).value (map value_given (cond (if b then is_number g.location (slice_get u g.element.number) else true) (g ∷ rest) rest))
      by_several true e k ih =
          ite_seen (is_there file names g.element.number g.location) (given_image file names g) (label_body file names other gs) (is_number g.location (slice_get u g.element.number)) (there_seen g.element g.location (k.0.several e))
          ∙ by_here (is_number g.location (slice_get u g.element.number)) (image_is g k) ih
      by_several false e k ih = image_is g k

  first_of_seen : (z : Seen) (zs : List Seen) → first_value z.value (map (λ (y : Seen). y.value) zs) ≡ (first_or file w u z zs).value
  first_of_seen z [] = refl
  first_of_seen z (y ∷ zs) = refl

  start_seen : (o : Owned) → StartsWithTruth o → (prism_names.see (translation.first_value file names o) env).value ≡ (jani_scene.start_of (jani_scene.constant_names file w) o.var.start).value
  unfolding prism_names.see jani_scene.see
  start_seen o h =
      ap (λ a. (prism_names.see (unwrap_or (option_map (image (value_name file names (outside file))) a) falsehood) env).value) h.is
      ∙ sym (ap (λ a. (jani_scene.start_of (jani_scene.constant_names file w) a).value) h.is)

  label_alike : (o : Owned) → StartsWithTruth o → (prism_names.see (label_body file names (translation.first_value file names o) (translation.given_to file o)) env).value ≡ (jani_moment.transient_at file w u o).value
  label_alike o h =
      chain_seen (translation.first_value file names o) (translation.given_to file o) (all_given_sound o)
      ∙ ap₂ (λ (a : Option Value) l. first_value a l) (start_seen o h) (all_give o)
      ∙ first_of_seen (jani_scene.start_of (jani_scene.constant_names file w) o.var.start) (numbered (given_to file w u o) 0 (jani.elements file))

  -- ---- rewards
  abbrev item_seen : prism.Item → Earned
  item_seen i = item_at env i

  abbrev for_states : prism.Item → Bool
  for_states i = is_for_states (adds_of i.on)

  no_targets : (j : ℕ) (ts : List Action) → filter for_states (flat_map (target_items file names j) ts) ≡ []
  no_targets j [] = refl
  no_targets j (t ∷ ts) =
      filter-append for_states (target_items file names j t) (flat_map (target_items file names j) ts)
      ∙ ap₂ (λ a b. a ++ b) (by_maker t.target.maker) (no_targets j ts)
    where
      all_dropped : (p : Placed) (es : List syntax.Expression) → filter for_states (map (target_item file names t.name p) es) ≡ []
      all_dropped p [] = refl
      all_dropped p (e ∷ es) = all_dropped p es

      by_maker : (m : Option Placed) → filter for_states (target_items_by file names j t.name m) ≡ []
      by_maker None = refl
      by_maker (Some p) = all_dropped p (assigned_to file j p)

  all_states : (gs : List Given) → filter for_states (map (state_item file names) gs) ≡ map (state_item file names) gs
  all_states [] = refl
  all_states (g ∷ gs) = ap (λ l. state_item file names g ∷ l) (all_states gs)

  abbrev sum_of : List prism.Item → Option Fraction
  sum_of is = option_map sums.total (all_defined (flat_map adds (map (λ e. e.item) (map item_seen is))))

  nought_adds : sum_of (record { on = On.InState; guard = truth; value = counted 0 } ∷ []) ≡ Some nought
  unfolding prism_names.see
  nought_adds = ap (λ x. Some (plus x nought)) (decimal_value-whole (whole_literal 0) refl) ∙ ap Some (plus_nought nought)

  -- of the items of a structure
  state_items : (j : ℕ) (gs : List Given) → sum_of (filter for_states (or_nought file names (map (state_item file names) gs ++ flat_map (target_items file names j) (actions file names)))) ≡ sum_of (map (state_item file names) gs)
  state_items j (g ∷ gs) =
      ap sum_of (filter-append for_states (map (state_item file names) (g ∷ gs)) (flat_map (target_items file names j) (actions file names))
      ∙ ap₂ (λ a b. a ++ b) (all_states (g ∷ gs)) (no_targets j (actions file names)) ∙ append-nil (map (state_item file names) (g ∷ gs)))
  state_items j [] = by_items (flat_map (target_items file names j) (actions file names)) (no_targets j (actions file names))
    where
      by_items : (is : List prism.Item) → filter for_states is ≡ [] → sum_of (filter for_states (or_nought file names is)) ≡ sum_of []
      by_items [] h = nought_adds
      by_items (i ∷ is) h = ap sum_of h

  -- what an item adds
  item_adds : (g : Given) → SoundGiven g → adds (item_seen (state_item file names g)).item ≡ cond (held g) (number_of (value_given g) ∷ []) []
  item_adds g h = by_several (has_several g.element) refl
    where
      by_guard : (o : Option Value) (t : Bool) → o ≡ Some (V.Truth t) → (n : Seen) → n.value ≡ value_given g → (wd : Bool) → adds (record { guard = record { value = o; wide = wd }; value = n }) ≡ cond t (number_of (value_given g) ∷ []) []
      by_guard o t e n f wd = ap (λ a. adds (record { guard = record { value = a; wide = wd }; value = n })) e ∙ by_truth t
        where
          by_truth : (t : Bool) → adds (record { guard = record { value = Some (V.Truth t); wide = wd }; value = n }) ≡ cond t (number_of (value_given g) ∷ []) []
          by_truth true = ap (λ a. number_of a ∷ []) f
          by_truth false = refl

      by_several : (b : Bool) → has_several g.element ≡ b →
          adds (record { guard = prism_names.see (if b then is_there file names g.element.number g.location else truth) env; value = prism_names.see (given_image file names g) env })
          ≡ cond (if b then is_number g.location (slice_get u g.element.number) else true) (number_of (value_given g) ∷ []) []
      by_several true e =
          by_guard (prism_names.see (is_there file names g.element.number g.location) env).value (is_number g.location (slice_get u g.element.number)) (there_seen g.element g.location (h.0.several e))
          (prism_names.see (given_image file names g) env) (image_is g h) (prism_names.see (is_there file names g.element.number g.location) env).wide
      by_several false e =
          by_guard (prism_names.see truth env).value true (truth_seen file v w s) (prism_names.see (given_image file names g) env) (image_is g h) (prism_names.see truth env).wide

  sums_alike : (gs : List Given) → All SoundGiven gs → flat_map adds (map (λ e. e.item) (map item_seen (map (state_item file names) gs))) ≡ map number_of (map value_given (filter held gs))
  sums_alike [] h = refl
  sums_alike (g ∷ gs) h =
      ap₂ (λ a b. a ++ b) (item_adds g (All-head SoundGiven g gs h)) (sums_alike gs (All-tail SoundGiven g gs h)) ∙ by_test (held g)
    where
      by_test : (b : Bool) → cond b (number_of (value_given g) ∷ []) [] ++ map number_of (map value_given (filter held gs)) ≡ map number_of (map value_given (cond b (g ∷ filter held gs) (filter held gs)))
      by_test true = refl
      by_test false = refl

  -- ---- one element alone gives a structure values
  one_walk : {Y : Type 0} (f : Element → List Y) (q : Element → Bool) → ((el : Element) → q el ≡ false → f el ≡ []) → (els : List Element) → All (λ el. AtMostOne (f el)) els → AtMostOne (filter q els) → AtMostOne (flat_map f els)
  one_walk f q n [] o h = tt
  one_walk f q n (el ∷ els) o h = by_test (q el) refl h (λ k. one_walk f q n els (All-tail (λ el. AtMostOne (f el)) el els o) k)
    where
      none_left : (l : List Element) → AtMostOne (el ∷ l) → l ≡ []
      none_left [] h = refl
      none_left (x ∷ l) h = absurd h

      all_none : (els : List Element) → filter q els ≡ [] → flat_map f els ≡ []
      all_none [] e = refl
      all_none (x ∷ els) e = by_one (q x) refl e (all_none els)
        where
          by_one : (b : Bool) → q x ≡ b → cond b (x ∷ filter q els) (filter q els) ≡ [] → (filter q els ≡ [] → flat_map f els ≡ []) → f x ++ flat_map f els ≡ []
          by_one true k e g = absurd cc
          by_one false k e g = ap₂ (λ a b. a ++ b) (n x k) (g e)

      by_test : (b : Bool) → q el ≡ b → AtMostOne (cond b (el ∷ filter q els) (filter q els)) → (AtMostOne (filter q els) → AtMostOne (flat_map f els)) → AtMostOne (f el ++ flat_map f els)
      by_test true e h ih = subst AtMostOne (sym (ap (λ l. f el ++ l) (all_none els (none_left (filter q els) h)) ∙ append-nil (f el))) (All-head (λ el. AtMostOne (f el)) el els o)
      by_test false e h ih = subst AtMostOne (sym (ap (λ l. l ++ flat_map f els) (n el e))) (ih h)

  few_here : (o : Owned) (el : Element) → AtMostOne (map (λ (z : Seen). z.value) (giving o el))
  few_here o el = by_test (may_use el.number o.owner)
    where
      one_write : (y : Option syntax.Write) → AtMostOne (map (λ (z : Seen). z.value) (map (λ y. jani_scene.see y.value (old el.number)) (if_some y)))
      one_write None = tt
      one_write (Some y) = tt

      by_test : (b : Bool) → AtMostOne (map (λ (z : Seen). z.value) (if b then given_at file w u o.var.name.name el.number el.automaton else []))
      by_test true = one_write (given_in file w u o.var.name.name (current_location u el.number el.automaton))
      by_test false = tt

  few : (o : Owned) → HasOneGiver file o → AtMostOne (map value_given (filter held (translation.given_to file o)))
  few o h =
      subst AtMostOne
      (sym (ap (map value_given) (filter-flat_map held (given_there file o) (elements file)) ∙ map-flat_map value_given (λ el. filter held (given_there file o el)) (elements file)))
      (one_walk (λ el. map value_given (filter held (given_there file o el))) (λ el. is_some_given (given_there file o el)) (λ el e. none_given (given_there file o el) e) (elements file)
      (λ k d l. subst AtMostOne (sym (gives o (get_or (elements file) k d) (places k d l) (marks.locations k d l))) (few_here o (get_or (elements file) k d))) h)
    where
      none_given : (gs : List Given) → is_some_given gs ≡ false → map value_given (filter held gs) ≡ []
      none_given [] e = refl
      none_given (g ∷ gs) e = absurd cc

  some_total : (a : Option Fraction) → option_map sums.total (all_defined (a ∷ [])) ≡ a
  some_total None = refl
  some_total (Some x) = ap Some (plus_nought x)

  total_first : (z : Option Value) (hs : List (Option Value)) → number_of z ≡ Some nought → AtMostOne hs → option_map sums.total (all_defined (map number_of hs)) ≡ number_of (first_value z hs)
  total_first z [] e h = sym e
  total_first z (y ∷ []) e h = some_total (number_of y)
  total_first z (y ∷ x ∷ hs) e h = absurd h

  nought_start : (o : Owned) → StartsWithNought o → number_of (jani_scene.start_of (jani_scene.constant_names file w) o.var.start).value ≡ Some nought
  unfolding jani_scene.see
  nought_start o h = ap (λ a. number_of (jani_scene.start_of (jani_scene.constant_names file w) a).value) h.is ∙ ap Some h.nought_is

  reward_alike : (j : ℕ) (x : Name) (o : Owned) → StartsWithNought o → HasOneGiver file o →
      (state_reward (map item_seen (structure file names j o x).items)).value ≡ number_of (jani_moment.transient_at file w u o).value
  reward_alike j x o a h =
      let gs = translation.given_to file o in
      let start = jani_scene.start_of (jani_scene.constant_names file w) o.var.start in
      ap (λ l. option_map sums.total (all_defined (flat_map adds (map (λ (e : Earned). e.item) l)))) (filter-map (λ (e : Earned). is_for_states e.adds) item_seen (structure file names j o x).items)
      ∙ state_items j gs
      ∙ ap (λ l. option_map sums.total (all_defined l)) (sums_alike gs (all_given_sound o))
      ∙ total_first start.value (map value_given (filter held gs)) (nought_start o a) (few o h)
      ∙ ap number_of (ap (first_value start.value) (all_give o) ∙ first_of_seen start (numbered (given_to file w u o) 0 (jani.elements file)))

  -- ---- all marks
  labels_long : length names.labels ≡ length (jani.labels file)
  labels_long =
      let a = length-take (length (jani.labels file)) (drop (labels_at file) (entries file)) in
      let b = length-drop (labels_at file) (entries file) in
      let c = one_each Prism (all_asks file) in
      let d = asks_length file in
      let e = length-append (asks file) (map action_ask (targets file)) in
      omega arith

  labels_alike : (os : List Owned) (es : List Entry) → length es ≡ length os → All StartsWithTruth os →
      map (λ (l : Seen). M.Truth (truth_of l.value)) (map (λ (l : prism.Label). prism_names.see l.body env) (map (λ p. label file names p.0 p.1.name) (zip os es))) ≡ map (λ (l : Seen). M.Truth (truth_of l.value)) (map (jani_moment.transient_at file w u) os)
  labels_alike [] [] l h = refl
  labels_alike [] (e ∷ es) l h = absurd (let no : ⊥ = omega arith in no)
  labels_alike (o ∷ os) [] l h = absurd (let no : ⊥ = omega arith in no)
  labels_alike (o ∷ os) (e ∷ es) l h =
      ap₂ (λ a r. a ∷ r) (ap (λ a. M.Truth (truth_of a)) (label_alike o (All-head StartsWithTruth o os h))) (labels_alike os es (omega arith) (All-tail StartsWithTruth o os h))

  rewards_alike : (k : ℕ) (os : List Owned) → All StartsWithNought os → All (HasOneGiver file) os →
      map (λ items. M.Number (state_reward items).value) (map (λ (r : prism.Rewards). map item_seen r.items) (numbered (λ j o. structure file names j o (name_at names.rewards j) ∷ []) k os))
      ≡ map (λ (r : Seen). M.Number (number_of r.value)) (map (jani_moment.transient_at file w u) os)
  rewards_alike k [] a h = refl
  rewards_alike k (o ∷ os) a h =
      ap₂ (λ x r. x ∷ r) (ap M.Number (reward_alike k (name_at names.rewards k) o (All-head StartsWithNought o os a) (All-head (HasOneGiver file) o os h)))
      (rewards_alike (k + 1) os (All-tail StartsWithNought o os a) (All-tail (HasOneGiver file) o os h))

  pub marks_alike : (prism_process.model (translated file)).marks v s ≡ (jani_process.model file).marks w u
  marks_alike = ap₂ (λ a b. a ++ b) (labels_alike (jani.labels file) names.labels labels_long marks.truths) (rewards_alike 0 (jani.structures file) marks.noughts marks.one_giver)
