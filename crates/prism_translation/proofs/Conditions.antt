-- Where a file has an initial condition, that of its translation is true at a state exactly where the state that goes with it is initial: each
-- element is at an initial location, each variable with a first value has it, and "restrict-initial" is true.
use Rattle.std.specs.Prelude.{◌≡◌, ◌≢◌, ℕ, zero, suc, ◌+◌, ◌<◌, ◌≤◌, List, [], ◌∷◌, ◌++◌, map, length, Bool, true, false, ◌&&◌, ◌||◌, Option, Some, None, IfSome, if◌then◌else◌, get_or, slice_get}
use Rattle.std.specs.List.{All, flat_map, list_all, list_any, fold}
use Rattle.std.specs.Option.{option_map}
use Rattle.std.proofs.Common.{refl, sym, ap, ap₂, ◌∙◌, arith, append-nil, append_assoc}
use Rattle.std.proofs.lemmas.List.{length-map, map-append}
use Rattle.std.proofs.lemmas.List.Elements.{All-append, All-cons, All-head, All-nil, All-tail}
use Rattle.basics.specs.Lists.{IsNotEmpty}
use Rattle.basics.specs.Options.{if_some}
use Rattle.bridge_io.specs.declared.reason.Named.{Named}
use Rattle.op_trees.specs.Seen.{Seen, known, two_node}
use Rattle.op_trees.specs.SeenLaws.{names_then}
use Rattle.op_trees.specs.Tree.{Name as At, Two}
use Rattle.op_trees.specs.declared.tree.Value.{Value}
use Rattle.op_trees.specs.declared.tree.Value.TheVariants as V
use Rattle.process_core.specs.Choices.{is_true}
use Rattle.process_core.specs.Instance.{Column, Valuation, begin_all, is_first, is_state, is_value, only_if}
use Rattle.process_core.specs.Ready.{Name, Values}
use Rattle.choice_laws.specs.Columns.{counting, value_at}
use Rattle.choice_laws.proofs.Columns.{length-counting, read_at}
use Rattle.prism_tree.specs.declared.operator.PrismOp.TheVariants.{And, Equal, Or}
use Rattle.prism_tree.specs.Operators.{prism_meaning}
use Rattle.prism_tree.specs.Syntax as prism
use Rattle.prism_names.specs.Names as prism_names
use Rattle.prism_names.specs.Names.{parts, unchanged}
use Rattle.prism_flat.specs.FlatLaws.{none_seen}
use Rattle.prism_flat.specs.Process as prism_process
use Rattle.prism_flat.specs.Moment as prism_moment
use Rattle.prism_flat.specs.Joined.{IsDecided, IsTruth, all_hold, and_holds, and_truth, holds, is_decided, is_decided_truth, is_truth, joined, or_decided, some_holds}
use Rattle.prism_flat.specs.Scene as prism_scene
use Rattle.jani_tree.specs.Syntax.{Automaton, Expression, File, element_names}
use Rattle.jani_meaning.specs.Elements as jani
use Rattle.jani_meaning.specs.Elements.{Owned, lasting, location_number}
use Rattle.jani_meaning.specs.Moment as jani_moment
use Rattle.jani_meaning.specs.Moment.{begin_here, begins_here, condition_at, is_among, restriction_seen}
use Rattle.jani_meaning.specs.Scene as jani_scene
use Rattle.jani_meaning.specs.Scene.{location_column}
use Rattle.jani_meaning.specs.Process as jani_process
use Rattle.jani_meaning.proofs.Columns.{no_condition_is_true, state_length}
use Rattle.jani_meaning.proofs.Initial.{begins_is, equal_turned}
use Rattle.name_table.specs.PrismAsks.{NewNames, name_at, outside, value_name}
use Rattle.jani_images.specs.Image.{image}
use Rattle.jani_images.proofs.ImageSeen.{image_seen}
use Rattle.prism_translation.specs.Conditions.{condition_parts, location_part, places, some_of, start_part}
use Rattle.prism_translation.specs.Elements.{Element, Lasting, elements, has_several, lasting_variables}
use Rattle.prism_translation.specs.Modules.{all_of}
use Rattle.prism_translation.specs.Names.{new_names}
use Rattle.prism_translation.specs.Parts.{is_there, scope_of}
use Rattle.prism_translation.specs.Sound.{FileIsSound, GivesAlike, IsConstant, KnownExpression, NamesConstants, SoundStart}
use Rattle.prism_translation.specs.StateLaws.{columns, state_of}
use Rattle.prism_translation.specs.Translated.{translated}
use Rattle.prism_translation.proofs.Coverage.{all_within, variable_there}
use Rattle.prism_translation.proofs.Follows.{LocationColumn, NoLocationColumn, SoundLocation, here_alone, location_seen, sees, variable_name}
use Rattle.prism_translation.proofs.NamesAlike.{constant_seen_alike, env_column}
use Rattle.prism_translation.proofs.Numbered.{element_all, lasting_below, lasting_from, lasting_owned, numbered_from}
use Rattle.prism_translation.proofs.SoundEdges.{expression_sound, location_sound}
use Rattle.prism_translation.proofs.Starts.{begin_alike, flags_alike}
use Rattle.prism_translation.proofs.States.{state_long, states_into}
use Rattle.jani_meaning.specs.LoopLaws.{element_count}

-- ---- truth values
-- `x = e`, where x has this value
equal_true : (a : Value) (b : Seen) → is_true (two_node prism_meaning Equal (known (Some a)) b).value ≡ is_value b.value a
equal_true a b = by_value a b.value b.wide
  where
    by_value : (a : Value) (o : Option Value) (w : Bool) → is_true (two_node prism_meaning Equal (known (Some a)) (record { value = o; wide = w })).value ≡ is_value o a
    by_value (V.Truth true) None w = refl
    by_value (V.Truth false) None w = refl
    by_value (V.Number q) None w = refl
    by_value (V.Truth true) (Some (V.Truth true)) w = refl
    by_value (V.Truth true) (Some (V.Truth false)) w = refl
    by_value (V.Truth false) (Some (V.Truth true)) w = refl
    by_value (V.Truth false) (Some (V.Truth false)) w = refl
    by_value (V.Truth true) (Some (V.Number r)) w = refl
    by_value (V.Truth false) (Some (V.Number r)) w = refl
    by_value (V.Number q) (Some (V.Truth b)) w = refl
    by_value (V.Number q) (Some (V.Number r)) w = equal_turned (V.Number q) (V.Number r)

equal_truth : (a : Value) (b : Seen) → is_truth (two_node prism_meaning Equal (known (Some a)) b).value ≡ true
equal_truth a b = by_value a b.value b.wide
  where
    by_value : (a : Value) (o : Option Value) (w : Bool) → is_truth (two_node prism_meaning Equal (known (Some a)) (record { value = o; wide = w })).value ≡ true
    by_value (V.Truth true) None w = refl
    by_value (V.Truth false) None w = refl
    by_value (V.Number q) None w = refl
    by_value (V.Truth true) (Some (V.Truth b)) w = refl
    by_value (V.Truth false) (Some (V.Truth b)) w = refl
    by_value (V.Truth true) (Some (V.Number r)) w = refl
    by_value (V.Truth false) (Some (V.Number r)) w = refl
    by_value (V.Number q) (Some (V.Truth b)) w = refl
    by_value (V.Number q) (Some (V.Number r)) w = refl

and_all : (b : Bool) → (b && true) ≡ b
and_all true = refl
and_all false = refl

-- ---- lists of expressions, joined
folded : (e : prism.Expression) (es : List prism.Expression) → fold (λ a b. Two 0 And a b) e es ≡ joined And e es
folded e [] = refl
folded e (x ∷ xs) = folded (Two 0 And e x) xs

module _ (env : Name → Seen) where
  all_of_holds : (es : List prism.Expression) → All (IsTruth env) es → holds env (all_of es) ≡ list_all (holds env) es
  unfolding prism_names.see
  all_of_holds [] h = refl
  all_of_holds (e ∷ es) h = ap (holds env) (folded e es) ∙ all_hold env e es (All-head (IsTruth env) e es h) (All-tail (IsTruth env) e es h)

  -- the last one may be anything
  joined_truth : (e : prism.Expression) (es : List prism.Expression) → IsTruth env e → All (IsTruth env) es → IsTruth env (joined And e es)
  joined_truth e [] h k = h
  joined_truth e (x ∷ xs) h k =
      joined_truth (Two 0 And e x) xs (and_truth env e x h (All-head (IsTruth env) x xs k)) (All-tail (IsTruth env) x xs k)

  joined_last : (e : prism.Expression) (es : List prism.Expression) (r : prism.Expression) → joined And e (es ++ r ∷ []) ≡ Two 0 And (joined And e es) r
  joined_last e [] r = refl
  joined_last e (x ∷ xs) r = joined_last (Two 0 And e x) xs r

  all_and_last : (es : List prism.Expression) (o : Option prism.Expression) → All (IsTruth env) es →
      holds env (all_of (es ++ if_some o)) ≡ (list_all (holds env) es && list_all (holds env) (if_some o))
  all_and_last es None h = ap (λ l. holds env (all_of l)) (append-nil es) ∙ all_of_holds es h ∙ sym (and_all (list_all (holds env) es))
  all_and_last [] (Some r) h = sym (and_all (holds env r))
  all_and_last (e ∷ es) (Some r) h =
      let first = All-head (IsTruth env) e es h in
      let rest = All-tail (IsTruth env) e es h in
      ap (holds env) (folded e (es ++ r ∷ []) ∙ joined_last e es r)
      ∙ and_holds env (joined And e es) r (joined_truth e es first rest)
      ∙ ap₂ (λ a b. a && b) (all_hold env e es first rest) (sym (and_all (holds env r)))

  some_of_holds : (es : List prism.Expression) → IsNotEmpty es → All (IsDecided env) es → holds env (some_of es) ≡ list_any (holds env) es
  some_of_holds [] n h = absurd n
  some_of_holds (e ∷ es) n h = some_holds env e es (All-head (IsDecided env) e es h) (All-tail (IsDecided env) e es h)

  joined_decided : (e : prism.Expression) (es : List prism.Expression) → IsDecided env e → All (IsDecided env) es → IsDecided env (joined Or e es)
  joined_decided e [] h k = h
  joined_decided e (x ∷ xs) h k =
      joined_decided (Two 0 Or e x) xs (or_decided env e x h (All-head (IsDecided env) x xs k)) (All-tail (IsDecided env) x xs k)

  some_of_decided : (es : List prism.Expression) → IsNotEmpty es → All (IsDecided env) es → IsDecided env (some_of es)
  some_of_decided [] n h = absurd n
  some_of_decided (e ∷ es) n h = joined_decided e es (All-head (IsDecided env) e es h) (All-tail (IsDecided env) e es h)

-- ---- lists of lists
all_append : {X : Type 0} (p : X → Bool) (xs ys : List X) → list_all p (xs ++ ys) ≡ (list_all p xs && list_all p ys)
all_append p [] ys = refl
all_append p (x ∷ xs) ys = by_test (p x) (all_append p xs ys)
  where
    by_test : (b : Bool) → list_all p (xs ++ ys) ≡ (list_all p xs && list_all p ys) → (b && list_all p (xs ++ ys)) ≡ ((b && list_all p xs) && list_all p ys)
    by_test true h = h
    by_test false h = refl

all_flat : {X Y : Type 0} (p : Y → Bool) (f : X → List Y) (xs : List X) → list_all p (flat_map f xs) ≡ list_all (λ x. list_all p (f x)) xs
all_flat p f [] = refl
all_flat p f (x ∷ xs) = all_append p (f x) (flat_map f xs) ∙ ap (λ b. list_all p (f x) && b) (all_flat p f xs)

all_agree : {X : Type 0} (p q : X → Bool) (xs : List X) → All (λ x. p x ≡ q x) xs → list_all p xs ≡ list_all q xs
all_agree p q [] h = refl
all_agree p q (x ∷ xs) h = ap₂ (λ a b. a && b) (All-head (λ x. p x ≡ q x) x xs h) (all_agree p q xs (All-tail (λ x. p x ≡ q x) x xs h))

each_flat : {X Y : Type 0} (P : Y → Type 0) (f : X → List Y) (xs : List X) → All (λ x. All P (f x)) xs → All P (flat_map f xs)
each_flat P f [] h = All-nil P
each_flat P f (x ∷ xs) h = All-append P (f x) (flat_map f xs) (All-head (λ x. All P (f x)) x xs h) (each_flat P f xs (All-tail (λ x. All P (f x)) x xs h))

turned : (a b c d : Bool) → ((a && b) && (c && d)) ≡ ((a && c) && (b && d))
turned true true c d = refl
turned true false true d = refl
turned true false false d = refl
turned false b c d = refl

-- ---- the states of a file, element by element and variable by variable
counting-append : (k n m : ℕ) → counting k (n + m) ≡ counting k n ++ counting (k + n) m
counting-append k zero m =
    let z : 0 + m ≡ m = omega arith in
    let e : k ≡ k + 0 = omega arith in
    ap (counting k) z ∙ ap (λ j. counting j m) e
counting-append k (suc n) m =
    let z : suc n + m ≡ suc (n + m) = omega arith in
    let e : (k + 1) + n ≡ k + suc n = omega arith in
    ap (counting k) z ∙ ap (λ l. k ∷ l) (counting-append (k + 1) n m ∙ ap (λ j. counting (k + 1) n ++ counting j m) e)

begin_both : (cs ds : List Column) (s t : Values) → length s ≡ length cs → begin_all (cs ++ ds) (s ++ t) ≡ (begin_all cs s && begin_all ds t)
begin_both [] ds [] t e = refl
begin_both [] ds (u ∷ s) t e = absurd (let no : ⊥ = omega arith in no)
begin_both (c ∷ cs) ds [] t e = absurd (let no : ⊥ = omega arith in no)
begin_both (c ∷ cs) ds (u ∷ s) t e = by_test (is_first c.first u) (begin_both cs ds s t (omega arith))
  where
    by_test : (b : Bool) → begin_all (cs ++ ds) (s ++ t) ≡ (begin_all cs s && begin_all ds t) → (b && begin_all (cs ++ ds) (s ++ t)) ≡ ((b && begin_all cs s) && begin_all ds t)
    by_test true h = h
    by_test false h = refl

module _ (u : Values) (at : ℕ → Value) (there : (j : ℕ) → j < length u → slice_get u j ≡ Some (at j)) where
  -- an element begins where it is at one of its initial locations
  begins_in : Element → Bool
  begins_in el = is_among u el.number el.automaton el.automaton.initial

  elements_begin : (i : ℕ) (as_ : List Automaton) → i + length as_ ≤ length u → All (λ a. IsNotEmpty a.initial) as_ →
      (begin_all (map location_column as_) (map at (counting i (length as_))) && begin_here u i as_) ≡ list_all (λ el. is_among u el.number el.automaton el.automaton.initial) (numbered_from i as_)
  elements_begin i [] l h = refl
  elements_begin i (a ∷ as_) l h =
      turned (is_first (location_column a).first (at i)) (begin_all (map location_column as_) (map at (counting (i + 1) (length as_)))) (begins_here u i a) (begin_here u (i + 1) as_)
      ∙ ap₂ (λ a b. a && b) (begins_is u i a (at i) (there i (omega arith)) (some a.initial (All-head (λ a. IsNotEmpty a.initial) a as_ h)))
      (elements_begin (i + 1) as_ (omega arith) (All-tail (λ a. IsNotEmpty a.initial) a as_ h))
    where
      some : (ns : List Named) → IsNotEmpty ns → ns ≢ []
      some [] n e = n
      some (x ∷ ns) n e = absurd cc

variables_begin : (f : Owned → Column) (at : ℕ → Value) (n i : ℕ) (os : List Owned) →
    begin_all (map f os) (map at (counting (n + i) (length os))) ≡ list_all (λ (x : Lasting). is_first (f x.owned).first (at (n + x.number))) (lasting_from i os)
variables_begin f at n i [] = refl
variables_begin f at n i (o ∷ os) =
    ap (λ b. is_first (f o).first (at (n + i)) && b)
    ((let e : (n + i) + 1 ≡ n + (i + 1) = omega arith in ap (λ j. begin_all (map f os) (map at (counting j (length os)))) e) ∙ variables_begin f at n (i + 1) os)

-- ---- the condition of a translated file
module _ (file : File) (v w : Valuation) (sound : FileIsSound file) (alike : GivesAlike file v w) (s : Values) (is : is_state (prism_scene.columns_of (translated file) v) s ≡ true) where
  abbrev names : NewNames
  names = new_names file

  abbrev u : Values
  u = state_of file s

  abbrev cols : List ℕ
  cols = columns file

  abbrev n : ℕ
  n = length (element_names file)

  abbrev total : ℕ
  total = n + length (lasting file)

  abbrev env : Name → Seen
  env = prism_moment.names_in (translated file) v s unchanged

  abbrev old : ℕ → Name → Seen
  old k = jani_moment.names_in file w u k

  -- ---- its parts: the locations of an element
  abbrev here : Element → Bool
  here el = is_among u el.number el.automaton el.automaton.initial

  places_hold : (el : Element) → LocationColumn file v w s el → (ns : List Named) →
      list_any (holds env) (map (λ n. is_there file names el.number (location_number el.automaton n.name)) ns) ≡ is_among u el.number el.automaton ns
  places_hold el k [] = refl
  places_hold el k (x ∷ ns) = ap₂ (λ a b. a || b) (ap is_true (location_seen file v w s el x.name k)) (places_hold el k ns)

  places_decided : (el : Element) → LocationColumn file v w s el → (ns : List Named) → All (IsDecided env) (map (λ n. is_there file names el.number (location_number el.automaton n.name)) ns)
  places_decided el k [] = All-nil (IsDecided env)
  places_decided el k (x ∷ ns) =
      All-cons (IsDecided env) (is_there file names el.number (location_number el.automaton x.name)) (map (λ n. is_there file names el.number (location_number el.automaton n.name)) ns)
      (ap is_decided (location_seen file v w s el x.name k)) (places_decided el k ns)

  some_place : (el : Element) → IsNotEmpty el.automaton.initial → IsNotEmpty (places file names el)
  some_place el h = by_list el.automaton.initial h
    where
      by_list : (ns : List Named) → IsNotEmpty ns → IsNotEmpty (map (λ n. is_there file names el.number (location_number el.automaton n.name)) ns)
      by_list [] k = k
      by_list (x ∷ ns) k = tt

  single_here : (el : Element) → has_several el ≡ false → NoLocationColumn file v w s el → (ns : List Named) → IsNotEmpty ns → is_among u el.number el.automaton ns ≡ true
  single_here el e k [] h = absurd h
  single_here el e k (x ∷ ns) h = ap (λ b. b || is_among u el.number el.automaton ns) (here_alone file v w s el x.name e k)

  location_holds : (el : Element) → SoundLocation file v w s el → IsNotEmpty el.automaton.initial → list_all (holds env) (location_part file names el) ≡ here el
  location_holds el k h = by_several (has_several el) refl
    where
      by_several : (b : Bool) → has_several el ≡ b → list_all (holds env) (only_if b (some_of (places file names el))) ≡ here el
      by_several true e =
          let c = k.several e in
          and_all (holds env (some_of (places file names el)))
          ∙ some_of_holds env (places file names el) (some_place el h) (places_decided el c el.automaton.initial)
          ∙ places_hold el c el.automaton.initial
      by_several false e = sym (single_here el e (k.single e) el.automaton.initial h)

  location_truth : (el : Element) → SoundLocation file v w s el → IsNotEmpty el.automaton.initial → All (IsTruth env) (location_part file names el)
  location_truth el k h = by_several (has_several el) refl
    where
      by_several : (b : Bool) → has_several el ≡ b → All (IsTruth env) (only_if b (some_of (places file names el)))
      by_several true e =
          All-cons (IsTruth env) (some_of (places file names el)) []
          (is_decided_truth env (some_of (places file names el)) (some_of_decided env (places file names el) (some_place el h) (places_decided el (k.several e) el.automaton.initial)))
          (All-nil (IsTruth env))
      by_several false e = All-nil (IsTruth env)

  -- ---- the first values of variables
  abbrev names_here : Name → Seen
  names_here = jani_scene.constant_names file w

  constant_here : (k : ℕ) (x : Name) → IsConstant file k x → env (value_name file names k x) ≡ names_here x
  constant_here k x h =
      constant_seen_alike file v w sound.constants alike s (state_long file v s is) (all_within file) k x h
      ∙ ap (λ o. known (jani_moment.value_in u (option_map (λ i. n + i) o) (jani_scene.constant file w x))) h.no_variable

  value_here : (k : ℕ) (e : Expression) → NamesConstants file k e → prism_names.see (image (value_name file names k) e) env ≡ jani_scene.see e names_here
  unfolding prism_names.see jani_scene.see
  value_here k e h =
      image_seen (value_name file names k) names_here env e
      (names_then (IsConstant file k) (λ x. env (value_name file names k x) ≡ names_here x) (constant_here k) e h.1) h.0

  -- the variable of this number, under its new name
  abbrev at : ℕ → Value
  at j = value_at cols s j

  start_seen : (x : Lasting) (k : ℕ) (e : Expression) → env (name_at names.variables x.number) ≡ known (Some (at (n + x.number))) → NamesConstants file k e →
      prism_names.see (Two 0 Equal (At 0 (name_at names.variables x.number)) (image (value_name file names k) e)) env
      ≡ two_node prism_meaning Equal (known (Some (at (n + x.number)))) (jani_scene.see e names_here)
  unfolding prism_names.see
  start_seen x k e h g = ap₂ (two_node prism_meaning Equal) h (value_here k e g)

  start_holds : (x : Lasting) → env (name_at names.variables x.number) ≡ known (Some (at (n + x.number))) → SoundStart file (scope_of file names x.owned) x.owned.var.start →
      list_all (holds env) (start_part file names x) ≡ is_first (jani_scene.first_of names_here x.owned.var.start) (at (n + x.number))
  start_holds x h g = by_start x.owned.var.start g
    where
      k : ℕ
      k = scope_of file names x.owned

      by_start : (o : Option Expression) → SoundStart file k o →
          list_all (holds env) (map (λ e. Two 0 Equal (At 0 (name_at names.variables x.number)) (image (value_name file names k) e)) (if_some o)) ≡ is_first (jani_scene.first_of names_here o) (at (n + x.number))
      by_start None g = refl
      by_start (Some e) g =
          and_all (holds env (Two 0 Equal (At 0 (name_at names.variables x.number)) (image (value_name file names k) e)))
          ∙ ap (λ (z : Seen). is_true z.value) (start_seen x k e h g)
          ∙ equal_true (at (n + x.number)) (jani_scene.see e names_here)

  start_truth : (x : Lasting) → env (name_at names.variables x.number) ≡ known (Some (at (n + x.number))) → SoundStart file (scope_of file names x.owned) x.owned.var.start →
      All (IsTruth env) (start_part file names x)
  start_truth x h g = by_start x.owned.var.start g
    where
      k : ℕ
      k = scope_of file names x.owned

      by_start : (o : Option Expression) → SoundStart file k o →
          All (IsTruth env) (map (λ e. Two 0 Equal (At 0 (name_at names.variables x.number)) (image (value_name file names k) e)) (if_some o))
      by_start None g = All-nil (IsTruth env)
      by_start (Some e) g =
          All-cons (IsTruth env) (Two 0 Equal (At 0 (name_at names.variables x.number)) (image (value_name file names k) e)) []
          (ap (λ (z : Seen). is_truth z.value) (start_seen x k e h g) ∙ equal_truth (at (n + x.number)) (jani_scene.see e names_here)) (All-nil (IsTruth env))

  -- each variable has a column
  variable_here : All (λ (x : Lasting). env (name_at names.variables x.number) ≡ known (Some (at (n + x.number)))) (lasting_variables file)
  variable_here i d l =
      let x = get_or (lasting_variables file) i d in
      let below = lasting_below 0 (lasting file) i d l in
      ap env (sym (variable_name file v v [] x.number))
      ∙ env_column file v w sound.constants alike s (state_long file v s is) (all_within file) (n + x.number) (omega arith) (variable_there file sound.some_element x.number (omega arith))

  starts_hold : list_all (λ x. list_all (holds env) (start_part file names x)) (lasting_variables file)
      ≡ list_all (λ (x : Lasting). is_first (jani_scene.first_of names_here x.owned.var.start) (at (n + x.number))) (lasting_variables file)
  starts_hold =
      all_agree (λ x. list_all (holds env) (start_part file names x)) (λ (x : Lasting). is_first (jani_scene.first_of names_here x.owned.var.start) (at (n + x.number))) (lasting_variables file)
      (λ i d l. start_holds (get_or (lasting_variables file) i d) (variable_here i d l)
      (lasting_owned (λ o. SoundStart file (scope_of file names o) o.var.start) 0 (lasting file) sound.starts i d l))

  starts_truth : All (λ x. All (IsTruth env) (start_part file names x)) (lasting_variables file)
  starts_truth i d l =
      start_truth (get_or (lasting_variables file) i d) (variable_here i d l)
      (lasting_owned (λ o. SoundStart file (scope_of file names o) o.var.start) 0 (lasting file) sound.starts i d l)

  locations_hold : list_all (λ el. list_all (holds env) (location_part file names el)) (elements file) ≡ list_all here (elements file)
  locations_hold =
      all_agree (λ el. list_all (holds env) (location_part file names el)) here (elements file)
      (λ i d l. location_holds (get_or (elements file) i d) (location_sound file v w sound alike s is i d l) (sound.begins i d l))

  locations_truth : All (λ el. All (IsTruth env) (location_part file names el)) (elements file)
  locations_truth i d l = location_truth (get_or (elements file) i d) (location_sound file v w sound alike s is i d l) (sound.begins i d l)

  -- ---- "restrict-initial"
  restriction_is : (o : Option Expression) → IfSome o (KnownExpression file (outside file)) →
      list_all (holds env) (map (image (value_name file names (outside file))) (if_some o)) ≡ is_true (restriction_seen (old (outside file)) o).value
  restriction_is None h = refl
  restriction_is (Some e) h =
      and_all (holds env (image (value_name file names (outside file)) e))
      ∙ ap (λ (z : Seen). is_true z.value) (sees file v w s (outside file) e (expression_sound file v w sound alike s is (outside file) e h))

  -- ---- the whole
  abbrev restricted : Bool
  restricted = is_true (restriction_seen (old (outside file)) file.restrict).value

  abbrev started : Bool
  started = list_all (λ (x : Lasting). is_first (jani_scene.first_of names_here x.owned.var.start) (at (n + x.number))) (lasting_variables file)

  restriction_last : (o : Option Expression) → map (image (value_name file names (outside file))) (if_some o) ≡ if_some (option_map (image (value_name file names (outside file))) o)
  restriction_last None = refl
  restriction_last (Some e) = refl

  pub condition_holds : holds env (all_of (condition_parts file names)) ≡ ((list_all here (elements file) && started) && restricted)
  condition_holds =
      let ls = flat_map (location_part file names) (elements file) in
      let ss = flat_map (start_part file names) (lasting_variables file) in
      let r = option_map (image (value_name file names (outside file))) file.restrict in
      ap (λ l. holds env (all_of l)) (ap (λ l. ls ++ (ss ++ l)) (restriction_last file.restrict) ∙ sym (append_assoc ls ss (if_some r)))
      ∙ all_and_last env (ls ++ ss) r
      (All-append (IsTruth env) ls ss (each_flat (IsTruth env) (location_part file names) (elements file) locations_truth) (each_flat (IsTruth env) (start_part file names) (lasting_variables file) starts_truth))
      ∙ ap₂ (λ a b. a && b)
      (all_append (holds env) ls ss
      ∙ ap₂ (λ a b. a && b) (all_flat (holds env) (location_part file names) (elements file) ∙ locations_hold) (all_flat (holds env) (start_part file names) (lasting_variables file) ∙ starts_hold))
      (ap (list_all (holds env)) (sym (restriction_last file.restrict)) ∙ restriction_is file.restrict sound.restrict)

  -- ---- the file's own
  abbrev as_ : List Automaton
  as_ = jani.elements file

  abbrev jani_columns : List Column
  jani_columns = jani_scene.columns_of file w

  there : (j : ℕ) → j < length u → slice_get u j ≡ Some (at j)
  there j l = read_at cols total s j (let e = length-map (counting 0 total) (value_at cols s) in let f = length-counting 0 total in omega arith)

  begun : (list_all here (elements file) && started) ≡ (begin_all jani_columns u && begin_here u 0 as_)
  begun =
      let k = element_count file in
      let count : counting 0 total ≡ counting 0 n ++ counting n (length (lasting file)) = counting-append 0 n (length (lasting file)) ∙ (let e : 0 + n ≡ n = omega arith in ap (λ j. counting 0 n ++ counting j (length (lasting file))) e) in
      let long : length u ≡ total = length-map (counting 0 total) (value_at cols s) ∙ length-counting 0 total in
      let first : length (map at (counting 0 n)) ≡ length (map location_column as_) = length-map (counting 0 n) at ∙ length-counting 0 n ∙ sym k ∙ sym (length-map as_ location_column) in
      let split : begin_all jani_columns u ≡ (begin_all (map location_column as_) (map at (counting 0 (length as_))) && started) =
      ap (begin_all jani_columns) (ap (map at) count ∙ map-append at (counting 0 n) (counting n (length (lasting file))))
      ∙ begin_both (map location_column as_) (map (λ o. jani_scene.column names_here o.var) (lasting file)) (map at (counting 0 n)) (map at (counting n (length (lasting file)))) first
      ∙ ap₂ (λ a b. a && b) (ap (λ m. begin_all (map location_column as_) (map at (counting 0 m))) (sym k))
      ((let e : n ≡ n + 0 = omega arith in ap (λ j. begin_all (map (λ o. jani_scene.column names_here o.var) (lasting file)) (map at (counting j (length (lasting file))))) e)
      ∙ variables_begin (λ o. jani_scene.column names_here o.var) at n 0 (lasting file)) in
      ap (λ b. b && started) (sym (elements_begin u at there 0 as_ (omega arith) some_initial))
      ∙ reordered (begin_all (map location_column as_) (map at (counting 0 (length as_)))) (begin_here u 0 as_) started
      ∙ ap (λ b. b && begin_here u 0 as_) (sym split)
    where
      some_initial : All (λ (a : Automaton). IsNotEmpty a.initial) as_
      some_initial = element_all (λ (a : Automaton). IsNotEmpty a.initial) 0 as_ sound.begins

      reordered : (a b c : Bool) → ((a && b) && c) ≡ ((a && c) && b)
      reordered true true c = sym (and_all c)
      reordered true false true = refl
      reordered true false false = refl
      reordered false b c = refl

  -- The condition of the translated file is true exactly where the file's is and each variable may begin as it is.
  pub condition_alike : holds env (all_of (condition_parts file names)) ≡ (is_true (condition_at file w u).value && begin_all jani_columns u)
  condition_alike = condition_holds ∙ ap (λ b. b && restricted) begun ∙ by_places (begin_here u 0 as_) (begin_all jani_columns u)
    where
      and_false : (b : Bool) → (b && false) ≡ false
      and_false true = refl
      and_false false = refl

      by_places : (p b : Bool) → ((b && p) && restricted) ≡ (is_true (if p then restriction_seen (old (outside file)) file.restrict else known (Some (V.Truth false))).value && b)
      by_places true true = sym (and_all restricted)
      by_places true false = sym (and_false restricted)
      by_places false true = refl
      by_places false false = refl

-- ---- initial states
-- columns without first values begin with anything
begin_any : (cs : List Column) (s : Values) → length s ≡ length cs → All (λ (c : Column). c.first ≡ None) cs → begin_all cs s ≡ true
begin_any [] [] l h = refl
begin_any [] (x ∷ s) l h = absurd (let no : ⊥ = omega arith in no)
begin_any (c ∷ cs) [] l h = absurd (let no : ⊥ = omega arith in no)
begin_any (c ∷ cs) (x ∷ s) l h =
    ap₂ (λ a b. a && b) (ap (λ o. is_first o x) (All-head (λ (c : Column). c.first ≡ None) c cs h)) (begin_any cs s (omega arith) (All-tail (λ (c : Column). c.first ≡ None) c cs h))

without_first : (rename : Name → Name) (names : Name → Seen) (xs : List prism.Var) → All (λ (c : Column). c.first ≡ None) (map (prism_scene.column true rename names) xs)
without_first rename names [] = All-nil (λ (c : Column). c.first ≡ None)
without_first rename names (x ∷ xs) =
    All-cons (λ (c : Column). c.first ≡ None) (prism_scene.column true rename names x) (map (prism_scene.column true rename names) xs) refl (without_first rename names xs)

none_first : (file : prism.File) (v : Valuation) → All (λ (c : Column). c.first ≡ None) (prism_scene.columns_under file true v)
none_first file v =
    All-append (λ (c : Column). c.first ≡ None) (map (prism_scene.column true unchanged (prism_scene.constant_names file v unchanged)) file.globals) (flat_map (prism_scene.part_columns file true v) (parts file))
    (without_first unchanged (prism_scene.constant_names file v unchanged) file.globals)
    (each_flat (λ (c : Column). c.first ≡ None) (prism_scene.part_columns file true v) (parts file)
    (λ i d l. let p = get_or (parts file) i d in without_first p.rename (prism_scene.constant_names file v p.rename) p.vars))

module _ (file : File) (v w : Valuation) (sound : FileIsSound file) (alike : GivesAlike file v w) where
  abbrev prism_columns : List Column
  prism_columns = prism_scene.columns_of (translated file) v

  -- the same states are initial
  pub initial_alike : (s : Values) → is_state prism_columns s ≡ true →
      (prism_process.model (translated file)).is_initial v s ≡ (jani_process.model file).is_initial w (state_of file s)
  initial_alike s is = by_flag (jani_scene.has_condition file) refl
    where
      env : Name → Seen
      env = prism_moment.names_in (translated file) v s unchanged

      both : is_state prism_columns s ≡ is_state (jani_scene.columns_of file w) (state_of file s)
      both = is ∙ sym (states_into file v w sound alike s is)

      simpler : (x a b : Bool) → a ≡ true → b ≡ true → (x && (a && b)) ≡ x
      simpler x true true p q = and_all x
      simpler x true false p q = absurd cc
      simpler x false b p q = absurd cc

      behind_state : (x a b : Bool) → a ≡ true → (x && (a && b)) ≡ (x && b)
      behind_state x true b p = refl
      behind_state x false b p = absurd cc

      by_flag : (b : Bool) → jani_scene.has_condition file ≡ b → (prism_process.model (translated file)).is_initial v s ≡ (jani_process.model file).is_initial w (state_of file s)
      by_flag false none =
          ap₂ (λ (x : Seen) b. is_true x.value && b) (none_seen (translated file) v s (flags_alike file v w sound alike ∙ none) ∙ sym (no_condition_is_true file w (state_of file s) none))
          (ap₂ (λ a b. a && b) both (begin_alike file v w sound alike none s is))
      by_flag true some =
          let flag = flags_alike file v w sound alike ∙ some in
          let free : begin_all prism_columns s ≡ true =
          ap (λ b. begin_all (prism_scene.columns_under (translated file) b v) s) flag
          ∙ begin_any (prism_scene.columns_under (translated file) true v) s
          (state_length prism_columns s is ∙ ap (λ b. length (prism_scene.columns_under (translated file) b v)) flag) (none_first (translated file) v) in
          simpler (is_true (prism_moment.condition_seen env (translated file).init).value) (is_state prism_columns s) (begin_all prism_columns s) is free
          ∙ ap (λ b. is_true (prism_moment.condition_seen env (if b then Some (all_of (condition_parts file (new_names file))) else None)).value) some
          ∙ condition_alike file v w sound alike s is
          ∙ sym (behind_state (is_true (condition_at file w (state_of file s)).value) (is_state (jani_scene.columns_of file w) (state_of file s)) (begin_all (jani_scene.columns_of file w) (state_of file s)) (states_into file v w sound alike s is))
