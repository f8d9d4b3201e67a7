-- At states that go with each other the command of an edge has the guard, the probabilities and the assignments of the edge.
use Rattle.std.specs.Prelude.{◌≡◌, ℕ, ◌+◌, ◌-◌, ◌<◌, ◌≤◌, pos, List, [], ◌∷◌, ◌++◌, map, length, Bool, true, false, not, ◌&&◌, ◌||◌, cond, Option, Some, None, is_none, is_some, if◌then◌else◌, nat_eq, nat_lt, slice_set, unwrap_or, IfSome}
use Rattle.std.specs.List.{flat_map, list_any, All, AllZip}
use Rattle.std.specs.Option.{option_map}
use Rattle.std.proofs.Common.{refl, sym, ap, ap₂, ◌∙◌, arith, subst, eq-eqb, ltb-true, ltb-false}
use Rattle.std.proofs.lemmas.List.{map-append, length-set}
use Rattle.std.proofs.lemmas.Bool.{eqb-true}
use Rattle.std.proofs.lemmas.List.Elements.{All-head, All-tail}
use Rattle.frac_core.specs.Fraction.{Fraction, whole}
use Rattle.frac_core.specs.Decimal.{decimal_value-whole}
use Rattle.op_trees.specs.declared.tree.Value.{Value}
use Rattle.op_trees.specs.declared.tree.Value.TheVariants as V
use Rattle.op_trees.specs.Tree.{Two, AllNames}
use Rattle.op_trees.specs.Seen.{Seen, known, seen, two_node}
use Rattle.process_core.specs.Zip.{AllZip-append}
use Rattle.process_core.specs.Product.{map-map}
use Rattle.basics.specs.Options.{if_some}
use Rattle.process_core.specs.Ready.{Values, Name, Write, Update}
use Rattle.process_core.specs.Choices.{is_false, number_of, written}
use Rattle.process_core.specs.Follow.{FollowsUpdate, FollowsReady}
use Rattle.choice_laws.specs.Columns.{slot, stands, value_at}
use Rattle.choice_laws.specs.Rewards.{bare_ready, bare_update, is_enabled}
use Rattle.choice_laws.proofs.Columns.{read_at, value_absent, written_absent, written_at}
use Rattle.prism_tree.specs.declared.operator.PrismOp.TheVariants as P
use Rattle.prism_tree.specs.Operators.{prism_meaning}
use Rattle.prism_tree.specs.Syntax as prism
use Rattle.prism_names.specs.Names as prism_names
use Rattle.prism_names.specs.Names.{unchanged}
use Rattle.process_core.specs.Instance.{Valuation, Column, only_if, domain_at, fits_in}
use Rattle.prism_flat.specs.Scene as prism_scene
use Rattle.prism_flat.specs.Moment as prism_moment
use Rattle.prism_flat.specs.Moment.{place_of}
use Rattle.jani_tree.specs.Syntax as syntax
use Rattle.jani_tree.specs.Syntax.{Expression, Destination, Edge, File, element_names}
use Rattle.jani_tree.specs.Canonical.{HasOperands}
use Rattle.jani_meaning.specs.Elements as jani
use Rattle.jani_meaning.specs.Elements.{location_number, lasting}
use Rattle.jani_meaning.specs.Scene as jani_scene
use Rattle.jani_meaning.specs.Scene.{location_column}
use Rattle.jani_meaning.specs.Moment as jani_moment
use Rattle.jani_meaning.specs.Moment.{location_write}
use Rattle.jani_meaning.proofs.Columns.{has_count, location_within}
use Rattle.name_table.specs.PrismAsks.{NewNames, name_at, value_name}
use Rattle.jani_images.specs.Image.{image}
use Rattle.prism_translation.specs.Elements.{Element, has_several, Placed}
use Rattle.prism_translation.specs.Names.{new_names}
use Rattle.prism_translation.specs.Parts.{made, counted, whole_literal, location_name, is_there}
use Rattle.prism_translation.specs.Modules.{truth, all_of, guard, write_by, write, weight, branch, is_single}
use Rattle.prism_translation.specs.StateLaws.{columns, state_of}
use Rattle.prism_translation.specs.Translated.{translated}
use Rattle.jani_images.proofs.ImageSeen.{image_seen}
use Rattle.prism_translation.proofs.Evaluated.{edge_ready, current, command_ready}

-- ---- locations
-- an element without several locations has no location but the first
pub only_location : (el : Element) (x : Name) → has_several el ≡ false → location_number el.automaton x ≡ 0
only_location el x h = let l = location_within el.automaton x in let k = ltb-false 1 (length el.automaton.locations) h in omega arith

pub not_less : (a b : ℕ) → nat_lt (a + b) a ≡ false
not_less a b = by_test (nat_lt (a + b) a) refl
  where
    by_test : (c : Bool) → nat_lt (a + b) a ≡ c → nat_lt (a + b) a ≡ false
    by_test true e = absurd (let l = ltb-true (a + b) a e in omega arith)
    by_test false e = e

-- ---- expressions
module _ (file : File) (v w : Valuation) (s : Values) where
  abbrev pub u : Values
  u = state_of file s

  abbrev pub names : NewNames
  names = new_names file

  abbrev pub cols : List ℕ
  cols = columns file

  abbrev pub total : ℕ
  total = length (element_names file) + length (lasting file)

  abbrev pub prism_columns : List Column
  prism_columns = prism_scene.columns_of (translated file) v

  abbrev pub jani_columns : List Column
  jani_columns = jani_scene.columns_of file w

  abbrev pub old : ℕ → Name → Seen
  old k = jani_moment.names_in file w u k

  abbrev pub env : Name → Seen
  env = prism_moment.names_in (translated file) v s unchanged

  abbrev pub to_new : ℕ → Name → Name
  to_new k = value_name file names k

  -- the name of the column of the JANI file with this number
  abbrev pub column_name : ℕ → Name
  column_name j = if nat_lt j (length (element_names file)) then name_at names.locations j else name_at names.variables (j - length (element_names file))

  -- an expression of an element: each operator has its operands, and each name is seen alike
  abbrev pub IsSound : ℕ → Expression → Type 0
  IsSound k e = HasOperands e × AllNames (λ x. env (to_new k x) ≡ old k x) e

  pub sees : (k : ℕ) (e : Expression) → IsSound k e → prism_names.see (image (to_new k) e) env ≡ jani_scene.see e (old k)
  unfolding prism_names.see jani_scene.see
  sees k e h = image_seen (to_new k) (old k) env e h.1 h.0

  pub sees_count : (n : ℕ) → prism_names.see (counted n) env ≡ jani_scene.counted n
  unfolding prism_names.see
  sees_count n = ap (λ x. known (Some (V.Number x))) (decimal_value-whole (whole_literal n) refl)

  -- ---- what is asked of the state and the columns
  -- the column of this number stands in the translated file under its name, with its domain
  pub record IsColumn (j : ℕ) : Type 0 where
    pub within : j < total
    pub stands_there : stands cols j ≡ true
    pub place : place_of prism_columns (column_name j) ≡ slot cols j
    pub domain : domain_at prism_columns (slot cols j) ≡ domain_at jani_columns j

  -- a variable that is assigned to has a column; a reward has none
  abbrev pub SoundWrite : ℕ → syntax.Write → Type 0
  SoundWrite k x = IsSound k x.value × IfSome (jani.place_of (lasting file) k x.target.name) (λ i. IsColumn (length (element_names file) + i))

  abbrev pub SoundDestination : ℕ → Destination → Type 0
  SoundDestination k d = IfSome d.weight (IsSound k) × All (SoundWrite k) d.writes

  abbrev pub SoundEdge : ℕ → Edge → Type 0
  SoundEdge k e = IfSome e.guard (IsSound k) × All (SoundDestination k) e.destinations

  -- The location variable of an element with several locations is seen as the number of its location; a single location is
  -- at its start.
  pub record LocationColumn (el : Element) : Type 0 where
    pub column : IsColumn el.number
    pub named : column_name el.number ≡ location_name file names el.number
    pub number : Fraction
    pub holds : value_at cols s el.number ≡ V.Number number
    pub seen_so : env (location_name file names el.number) ≡ known (Some (V.Number number))
    pub ranges : domain_at jani_columns el.number ≡ (location_column el.automaton).domain

  pub record NoLocationColumn (el : Element) : Type 0 where
    pub within : el.number < total
    pub absent : stands cols el.number ≡ false

  pub record SoundLocation (el : Element) : Type 0 where
    pub several : has_several el ≡ true → LocationColumn el
    pub single : has_several el ≡ false → NoLocationColumn el

  abbrev pub has : Values → Bool
  has t = nat_eq (length t) (length cols)

  -- ---- assignments
  pub record AlikeWrite (x y : Write) : Type 0 where
    pub column : x.column ≡ slot cols y.column
    pub stands_there : stands cols y.column ≡ true
    pub within : y.column < total
    pub value : x.value.value ≡ y.value.value
    pub fits : x.fits ≡ y.fits

  abbrev value_written : Write → Value
  value_written x = unwrap_or x.value.value (V.Truth false)

  written_alike : (xs ys : List Write) → AllZip AlikeWrite xs ys → (t : Values) → length t ≡ length cols →
      written (state_of file t) ys ≡ state_of file (written t xs)
  written_alike [] [] h t l = refl
  written_alike [] (y ∷ ys) h t l = absurd h
  written_alike (x ∷ xs) [] h t l = absurd h
  written_alike (x ∷ xs) (y ∷ ys) h t l =
      ap (λ r. written r ys)
      (written_at cols total t y.column (value_written y) l h.0.stands_there h.0.within
      ∙ ap₂ (λ i o. state_of file (slice_set t i (unwrap_or o (V.Truth false)))) (sym h.0.column) (sym h.0.value))
      ∙ written_alike xs ys h.1 (slice_set t x.column (value_written x)) (length-set t x.column (value_written x) ∙ l)

  written_length : (t : Values) (xs : List Write) → length (written t xs) ≡ length t
  written_length t [] = refl
  written_length t (x ∷ xs) = written_length (slice_set t x.column (value_written x)) xs ∙ length-set t x.column (value_written x)

  any_alike : (p : Write → Bool) → ((x y : Write) → AlikeWrite x y → p y ≡ p x) → (xs ys : List Write) → AllZip AlikeWrite xs ys → list_any p ys ≡ list_any p xs
  any_alike p e [] [] h = refl
  any_alike p e [] (y ∷ ys) h = absurd h
  any_alike p e (x ∷ xs) [] h = absurd h
  any_alike p e (x ∷ xs) (y ∷ ys) h = ap₂ (λ a b. a || b) (e x y h.0) (any_alike p e xs ys h.1)

  -- one of a destination
  abbrev prism_write : prism.Write → Write
  prism_write x = prism_moment.write_at (translated file) prism_columns unchanged env x

  pub variable_name : (i : ℕ) → column_name (length (element_names file) + i) ≡ name_at names.variables i
  variable_name i =
      ap (λ b. if b then name_at names.locations (length (element_names file) + i) else name_at names.variables ((length (element_names file) + i) - length (element_names file))) (not_less (length (element_names file)) i)
      ∙ (let e : (length (element_names file) + i) - length (element_names file) ≡ i = omega arith in ap (name_at names.variables) e)

  write_alike : (el : Element) (x : syntax.Write) → SoundWrite el.number x →
      AllZip AlikeWrite (map prism_write (write file names el x)) (jani_moment.write_at file w u el.number x)
  write_alike el x h = by_place (jani.place_of (lasting file) el.number x.target.name) h.1
    where
      by_place : (o : Option ℕ) → IfSome o (λ i. IsColumn (length (element_names file) + i)) →
          AllZip AlikeWrite (map prism_write (write_by file names el o x))
          (jani_moment.column_write jani_columns (option_map (λ i. length (element_names file) + i) o) (jani_scene.see x.value (old el.number)))
      by_place None k = tt
      by_place (Some i) k =
          let place : place_of prism_columns (name_at names.variables i) ≡ slot cols (length (element_names file) + i) = ap (place_of prism_columns) (sym (variable_name i)) ∙ k.place in
          let value = sees el.number x.value h.0 in (
            record {
              column = place;
              stands_there = k.stands_there;
              within = k.within;
              value = ap (λ (z : Seen). z.value) value;
              fits = ap₂ fits_in (ap (domain_at prism_columns) place ∙ k.domain) (ap (λ (z : Seen). z.value) value);
            },
            tt,
          )

  writes_alike : (el : Element) (xs : List syntax.Write) → All (SoundWrite el.number) xs →
      AllZip AlikeWrite (map prism_write (flat_map (write file names el) xs)) (flat_map (jani_moment.write_at file w u el.number) xs)
  writes_alike el [] h = tt
  writes_alike el (x ∷ xs) h =
      subst (λ l. AllZip AlikeWrite l (flat_map (jani_moment.write_at file w u el.number) (x ∷ xs))) (sym (map-append prism_write (write file names el x) (flat_map (write file names el) xs)))
      (AllZip-append AlikeWrite (map prism_write (write file names el x)) (map prism_write (flat_map (write file names el) xs)) (jani_moment.write_at file w u el.number x) (flat_map (jani_moment.write_at file w u el.number) xs)
      (write_alike el x (All-head (SoundWrite el.number) x xs h)) (writes_alike el xs (All-tail (SoundWrite el.number) x xs h)))

  -- the location
  location_alike : (el : Element) (n : ℕ) → n ≤ length el.automaton.locations - 1 → LocationColumn el →
      AlikeWrite (prism_write (record { name = made (location_name file names el.number); value = counted n })) (location_write el.number n)
  location_alike el n l k =
      let place : place_of prism_columns (location_name file names el.number) ≡ slot cols el.number = ap (place_of prism_columns) (sym k.named) ∙ k.column.place in
      record {
        column = place;
        stands_there = k.column.stands_there;
        within = k.column.within;
        value = ap (λ (z : Seen). z.value) (sees_count n);
        fits =
            ap₂ fits_in (ap (domain_at prism_columns) place ∙ k.column.domain ∙ k.ranges) (ap (λ (z : Seen). z.value) (sees_count n))
            ∙ has_count n (length el.automaton.locations - 1) l;
      }

  -- ---- destinations
  weight_alike : (el : Element) (single : Bool) (o : Option Expression) → IfSome o (IsSound el.number) →
      number_of (jani_moment.weight_seen (old el.number) o).value ≡ number_of (prism_moment.weight_seen env (weight file names el single o)).value
  weight_alike el single (Some e) h = ap (λ (z : Seen). number_of z.value) (sym (sees el.number e h))
  weight_alike el true None h = refl
  weight_alike el false None h = ap (λ (z : Seen). number_of z.value) (sym (sees_count 1))

  abbrev prism_update : Element → Bool → Destination → Update
  prism_update el single d = prism_moment.update_at (translated file) prism_columns unchanged env (branch file names el single d)

  abbrev jani_update : Element → Destination → Update
  jani_update el d = bare_update (jani_moment.update_at file w u el.number el.automaton d)

  -- updates that write alike
  updates_alike : (a b : Seen) (xs ys : List Write) → number_of b.value ≡ number_of a.value → AllZip AlikeWrite xs ys →
      FollowsUpdate has (state_of file) (record { weight = a; writes = xs; rewards = [] }) (record { weight = b; writes = ys; rewards = [] })
  updates_alike a b xs ys e h = record {
    weight = e;
    undef =
        ap₂ (λ x y. is_none x || (y || false)) e
        (any_alike (λ z. is_none z.value.value) (λ x y k. ap is_none (sym k.value)) xs ys h);
    outside = any_alike (λ z. is_some z.value.value && not z.fits) (λ x y k. ap₂ (λ o f. is_some o && not f) (sym k.value) (sym k.fits)) xs ys h;
    rewards = λ own. refl;
    target = λ t l. written_alike xs ys h t (eqb-true (length t) (length cols) l);
    stays = λ t l. eq-eqb (length (written t xs)) (length cols) (written_length t xs ∙ eqb-true (length t) (length cols) l);
  }

  -- where one writes besides the start of a column that doesn't stand in the translated file
  update_absent : (k n : ℕ) (a b : Seen) (xs ys : List Write) → n ≡ 0 → stands cols k ≡ false → k < total → number_of b.value ≡ number_of a.value → AllZip AlikeWrite xs ys →
      FollowsUpdate has (state_of file) (record { weight = a; writes = xs; rewards = [] }) (record { weight = b; writes = location_write k n ∷ ys; rewards = [] })
  update_absent k n a b xs ys z none m e h = record {
    weight = e;
    undef =
        ap₂ (λ x y. is_none x || (y || false)) e
        (any_alike (λ z. is_none z.value.value) (λ x y k. ap is_none (sym k.value)) xs ys h);
    outside = any_alike (λ z. is_some z.value.value && not z.fits) (λ x y k. ap₂ (λ o f. is_some o && not f) (sym k.value) (sym k.fits)) xs ys h;
    rewards = λ own. refl;
    target = λ t l.
        ap (λ i. written (slice_set (state_of file t) k (V.Number (whole (pos i)))) ys) z
        ∙ ap (λ r. written r ys) (written_absent cols total t k none m)
        ∙ written_alike xs ys h t (eqb-true (length t) (length cols) l);
    stays = λ t l. eq-eqb (length (written t xs)) (length cols) (written_length t xs ∙ eqb-true (length t) (length cols) l);
  }

  update_follows : (el : Element) (single : Bool) (d : Destination) → SoundLocation el → SoundDestination el.number d →
      FollowsUpdate has (state_of file) (prism_update el single d) (jani_update el d)
  update_follows el single d place h = by_several (has_several el) refl
    where
      n : ℕ
      n = location_number el.automaton d.location.name

      xs : List Write
      xs = map prism_write (flat_map (write file names el) d.writes)

      ys : List Write
      ys = flat_map (jani_moment.write_at file w u el.number) d.writes

      update_with : Bool → Update
      update_with b = record {
        weight = prism_moment.weight_seen env (weight file names el single d.weight);
        writes = map prism_write (only_if b (record { name = made (location_name file names el.number); value = counted n }) ++ flat_map (write file names el) d.writes);
        rewards = [];
      }

      by_several : (b : Bool) → has_several el ≡ b → FollowsUpdate has (state_of file) (update_with b) (jani_update el d)
      by_several true e =
          updates_alike (prism_moment.weight_seen env (weight file names el single d.weight)) (jani_moment.weight_seen (old el.number) d.weight)
          (prism_write (record { name = made (location_name file names el.number); value = counted n }) ∷ xs) (location_write el.number n ∷ ys)
          (weight_alike el single d.weight h.0) (location_alike el n (location_within el.automaton d.location.name) (place.several e), writes_alike el d.writes h.1)
      by_several false e =
          update_absent el.number n (prism_moment.weight_seen env (weight file names el single d.weight)) (jani_moment.weight_seen (old el.number) d.weight) xs ys
          (only_location el d.location.name e) (place.single e).absent (place.single e).within (weight_alike el single d.weight h.0) (writes_alike el d.writes h.1)

  updates_follow : (el : Element) (single : Bool) (ds : List Destination) → SoundLocation el → All (SoundDestination el.number) ds →
      AllZip (FollowsUpdate has (state_of file)) (map (prism_update el single) ds) (map (jani_update el) ds)
  updates_follow el single [] place h = tt
  updates_follow el single (d ∷ ds) place h =
      (update_follows el single d place (All-head (SoundDestination el.number) d ds h), updates_follow el single ds place (All-tail (SoundDestination el.number) d ds h))

  -- ---- guards
  abbrev pub is_here : Element → Name → Bool
  is_here el x = jani_moment.is_current u el.number el.automaton x

  pub location_seen : (el : Element) (x : Name) → LocationColumn el →
      (prism_names.see (is_there file names el.number (location_number el.automaton x)) env).value ≡ Some (V.Truth (is_here el x))
  unfolding prism_names.see
  location_seen el x k =
      let n = location_number el.automaton x in
      ap₂ (λ a b. (two_node prism_meaning P.Equal a b).value) k.seen_so (ap (λ y. known (Some (V.Number y))) (decimal_value-whole (whole_literal n) refl))
      ∙ ap (λ (o : Option Value). Some (V.Truth (jani_moment.is_number n o)))
      (ap Some (sym k.holds) ∙ sym (read_at cols total s el.number k.column.within))

  -- the location decides, and then the guard
  and_seen : (a b : prism.Expression) (c : Bool) → (prism_names.see a env).value ≡ Some (V.Truth c) →
      (prism_names.see (Two 0 P.And a b) env).value ≡ cond c (prism_names.see b env).value (Some (V.Truth false))
  unfolding prism_names.see
  and_seen a b c h = ap (λ o. (two_node prism_meaning P.And (with_value o (seen prism_meaning a env)) (seen prism_meaning b env)).value) h ∙ by_truth c
    where
      with_value : Option Value → Seen → Seen
      with_value o z = record { value = o; wide = z.wide }

      by_truth : (c : Bool) → (two_node prism_meaning P.And (with_value (Some (V.Truth c)) (seen prism_meaning a env)) (seen prism_meaning b env)).value
          ≡ cond c (seen prism_meaning b env).value (Some (V.Truth false))
      by_truth true = refl
      by_truth false = refl

  pub truth_seen : (prism_names.see truth env).value ≡ Some (V.Truth true)
  unfolding prism_names.see
  truth_seen = refl

  pub here_alone : (el : Element) (x : Name) → has_several el ≡ false → NoLocationColumn el → is_here el x ≡ true
  here_alone el x e k =
      ap₂ (λ n o. jani_moment.is_number n o) (only_location el x e) (read_at cols total s el.number k.within ∙ ap Some (value_absent cols s el.number k.absent))

  guard_alike : (p : Placed) → SoundLocation p.element → IfSome p.edge.guard (IsSound p.element.number) →
      (prism_names.see (guard file names p.element p.edge) env).value ≡ cond (current file v w s u p) (edge_ready file v w s u p).guard.value (Some (V.Truth false))
  guard_alike p place h = by_several (has_several p.element) refl p.edge.guard h
    where
      el : Element
      el = p.element

      x : Name
      x = p.edge.location.name

      there : prism.Expression
      there = is_there file names el.number (location_number el.automaton x)

      decided : (c : Bool) → ◌≡◌ {A = Option Value} (Some (V.Truth c)) (cond c (Some (V.Truth true)) (Some (V.Truth false)))
      decided true = refl
      decided false = refl

      by_several : (b : Bool) → has_several el ≡ b → (o : Option Expression) → IfSome o (IsSound el.number) →
          (prism_names.see (all_of (only_if b there ++ map (image (to_new el.number)) (if_some o))) env).value
          ≡ cond (is_here el x) (jani_moment.guard_seen (old el.number) o).value (Some (V.Truth false))
      by_several true e None k = location_seen el x (place.several e) ∙ decided (is_here el x)
      by_several true e (Some g) k =
          and_seen there (image (to_new el.number) g) (is_here el x) (location_seen el x (place.several e))
          ∙ ap (λ (z : Seen). cond (is_here el x) z.value (Some (V.Truth false))) (sees el.number g k)
      by_several false e None k = truth_seen ∙ ap (λ c. cond c (Some (V.Truth true)) (Some (V.Truth false))) (sym (here_alone el x e (place.single e)))
      by_several false e (Some g) k =
          ap (λ (z : Seen). z.value) (sees el.number g k)
          ∙ ap (λ c. cond c (jani_scene.see g (old el.number)).value (Some (V.Truth false))) (sym (here_alone el x e (place.single e)))

  -- ---- commands
  pub enabled_alike : (p : Placed) (a : Option Name) → SoundLocation p.element → IfSome p.edge.guard (IsSound p.element.number) →
      is_enabled (command_ready file v w s u p a) ≡ (current file v w s u p && is_enabled (edge_ready file v w s u p))
  enabled_alike p a place h = ap (λ o. not (is_false o)) (guard_alike p place h) ∙ by_here (current file v w s u p) (edge_ready file v w s u p).guard.value
    where
      by_here : (c : Bool) (o : Option Value) → not (is_false (cond c o (Some (V.Truth false)))) ≡ (c && not (is_false o))
      by_here true o = refl
      by_here false o = refl

  pub command_follows : (p : Placed) (a : Option Name) → SoundLocation p.element → SoundEdge p.element.number p.edge → current file v w s u p ≡ true →
      FollowsReady has (state_of file) (command_ready file v w s u p a) (bare_ready (edge_ready file v w s u p))
  command_follows p a place h c = record {
    guard = sym (guard_alike p place h.0 ∙ ap (λ b. cond b (edge_ready file v w s u p).guard.value (Some (V.Truth false))) c);
    updates =
        subst (λ us. AllZip (FollowsUpdate has (state_of file)) us (bare_ready (edge_ready file v w s u p)).updates)
        (sym (map-map (prism_moment.update_at (translated file) prism_columns unchanged env) (branch file names p.element (is_single file names p.element p.edge.destinations)) p.edge.destinations))
        (subst (λ us. AllZip (FollowsUpdate has (state_of file)) (map (prism_update p.element (is_single file names p.element p.edge.destinations)) p.edge.destinations) us)
        (sym (map-map bare_update (jani_moment.update_at file w u p.element.number p.element.automaton) p.edge.destinations))
        (updates_follow p.element (is_single file names p.element p.edge.destinations) p.edge.destinations place h.1));
  }
