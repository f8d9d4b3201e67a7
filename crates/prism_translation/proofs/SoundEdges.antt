-- The edges of a sound file are sound at each of its states; so at each state of the translated file each choice occurs as
-- often as in the file.
use Rattle.std.specs.Prelude.{◌≡◌, ℕ, ◌+◌, ◌-◌, ◌<◌, List, [], ◌∷◌, map, length, Bool, true, Option, Some, None, get_or, IfSome}
use Rattle.std.specs.List.{All}
use Rattle.std.proofs.Common.{refl, sym, ap, subst, ◌∙◌, arith, inl, inr}
use Rattle.std.proofs.lemmas.List.Elements.{All-nil, All-head, All-weaker, All-map}
use Rattle.basics.specs.Members.{any-map}
use Rattle.frac_core.specs.Fraction.{Fraction}
use Rattle.op_trees.specs.declared.tree.Value.{Value}
use Rattle.op_trees.specs.declared.tree.Value.TheVariants as V
use Rattle.op_trees.specs.Seen.{Seen, known}
use Rattle.op_trees.specs.SeenLaws.{names_then}
use Rattle.process_core.specs.Process.{EquallyOften, choice_image}
use Rattle.process_core.specs.Ready.{Values, Name}
use Rattle.choice_laws.specs.Columns.{slot, stands, value_at}
use Rattle.choice_laws.specs.Rewards.{AssignsAlike, assigns_undef}
use Rattle.choice_laws.proofs.Rewards.{PaysHere}
use Rattle.choice_laws.proofs.Columns.{slot_at}
use Rattle.prism_names.specs.Names.{unchanged}
use Rattle.prism_flat.specs.Moment as prism_moment
use Rattle.process_core.specs.Instance.{Valuation, Truths, Between, Range, Column, is_in, is_state, range_from, range_has}
use Rattle.prism_flat.specs.Scene as prism_scene
use Rattle.prism_flat.specs.Process as prism_process
use Rattle.jani_tree.specs.Syntax.{Expression, Destination, Edge, File, element_names}
use Rattle.jani_meaning.specs.Scene as jani_scene
use Rattle.jani_meaning.specs.Moment as jani_moment
use Rattle.jani_meaning.specs.Elements as jani
use Rattle.jani_meaning.specs.Elements.{lasting}
use Rattle.jani_meaning.specs.Process as jani_process
use Rattle.jani_meaning.specs.Moment.{update_at}
use Rattle.name_table.specs.PrismAsks.{value_name}
use Rattle.prism_translation.specs.Elements.{Element, elements, edges_of, Placed, placed_edges}
use Rattle.prism_translation.specs.Names.{new_names}
use Rattle.prism_translation.specs.StateLaws.{columns, state_of, old_label}
use Rattle.prism_translation.specs.Translated.{translated}
use Rattle.prism_translation.specs.Sound.{IsKnown, KnownExpression, KnownDestination, KnownEdge, GivesAlike, FileIsSound, EdgesPayAlike, PaysAlike}
use Rattle.prism_translation.specs.Marks.{first_writes}
use Rattle.prism_translation.proofs.Numbered.{at_element}
use Rattle.prism_translation.proofs.Follows.{IsSound, IsColumn, SoundWrite, SoundDestination, SoundEdge, SoundLocation}
use Rattle.prism_translation.proofs.ColumnNames.{below, location_is, place_is_slot}
use Rattle.prism_translation.proofs.Coverage.{all_within, location_stands, variable_there}
use Rattle.prism_translation.proofs.NamesAlike.{env_column, constant_seen_alike, variable_seen_alike, place_below}
use Rattle.prism_translation.proofs.States.{state_long, state_at}
use Rattle.prism_translation.proofs.Domains.{range_at, range_of_location, domains_alike}
use Rattle.prism_translation.proofs.ChoicesAlike.{edge_here, EdgesAreSound}
use Rattle.prism_translation.proofs.Earned.{paid_here}
use Rattle.prism_translation.proofs.Rewarded.{RewardRules, choices_often}

-- a value between two bounds is a number
pub record IsNumber (u : Value) : Type 0 where
  pub number : Fraction
  pub is : u ≡ V.Number number

no_truth : (o : Option Range) (b : Bool) → range_has o (V.Truth b) ≡ true → ⊥
no_truth None b h = cc
no_truth (Some r) b h = cc

pub number_within : (l h : Seen) (u : Value) → is_in (Between l h) u ≡ true → IsNumber u
number_within l h (V.Number q) e = record { number = q; is = refl }
number_within l h (V.Truth b) e = absurd (no_truth (range_from l h) b e)

module _ (file : File) (v w : Valuation) where
  module _ (sound : FileIsSound file) (alike : GivesAlike file v w) (s : Values) (is : is_state (prism_scene.columns_of (translated file) v) s ≡ true) where
    abbrev cols : List ℕ
    cols = columns file

    abbrev n : ℕ
    n = length (element_names file)

    abbrev total : ℕ
    total = n + length (lasting file)

    abbrev prism_columns : List Column
    prism_columns = prism_scene.columns_of (translated file) v

    long : length s ≡ length cols
    long = state_long file v s is

    -- ---- columns
    is_column : (j : ℕ) → j < total → stands cols j ≡ true → IsColumn file v w s j
    is_column j l h = record {
      within = l;
      stands_there = h;
      place = place_is_slot file v (all_within file) j l;
      domain = ap (λ ds. get_or ds (slot cols j) Truths) (domains_alike file v w sound alike) ∙ slot_at (range_at file v w sound alike) cols j Truths h;
    }

    variable_column : (k : ℕ) (x : Name) (o : Option ℕ) → jani.place_of (lasting file) k x ≡ o → IfSome o (λ i. IsColumn file v w s (n + i))
    variable_column k x None e = tt
    variable_column k x (Some i) e =
        let l = place_below file v w sound.constants alike s long (all_within file) k x i e in
        is_column (n + i) (omega arith) (variable_there file sound.some_element i l)

    -- ---- expressions
    known_alike : (k : ℕ) (x : Name) → IsKnown file k x →
        prism_moment.names_in (translated file) v s unchanged (value_name file (new_names file) k x)
        ≡ jani_moment.names_in file w (state_of file s) k x
    known_alike k x (inl h) = constant_seen_alike file v w sound.constants alike s long (all_within file) k x h
    known_alike k x (inr h) =
        variable_seen_alike file v w sound.constants alike s long (all_within file) k x h
        (variable_there file sound.some_element h.number (place_below file v w sound.constants alike s long (all_within file) k x h.number h.stands_there))

    pub expression_sound : (k : ℕ) (e : Expression) → KnownExpression file k e → IsSound file v w s k e
    expression_sound k e h = (h.0, names_then (IsKnown file k) (λ x. prism_moment.names_in (translated file) v s unchanged (value_name file (new_names file) k x) ≡ jani_moment.names_in file w (state_of file s) k x) (known_alike k) e h.1)

    some_sound : (k : ℕ) (o : Option Expression) → IfSome o (KnownExpression file k) → IfSome o (IsSound file v w s k)
    some_sound k None h = tt
    some_sound k (Some e) h = expression_sound k e h

    destination_sound : (k : ℕ) (d : Destination) → KnownDestination file k d → SoundDestination file v w s k d
    destination_sound k d h = (
      some_sound k d.weight h.0,
      All-weaker (λ x. KnownExpression file k x.value) (SoundWrite file v w s k)
          (λ x g. (expression_sound k x.value g, variable_column k x.target.name (jani.place_of (lasting file) k x.target.name) refl)) d.writes h.1,
    )

    edge_sound : (k : ℕ) (e : Edge) → KnownEdge file k e → SoundEdge file v w s k e
    edge_sound k e h = (some_sound k e.guard h.0, All-weaker (KnownDestination file k) (SoundDestination file v w s k) (destination_sound k) e.destinations h.1)

    -- ---- locations
    pub location_sound : All (SoundLocation file v w s) (elements file)
    location_sound i d l = record {
      several = λ e.
          let there = location_stands file i d l ∙ e in
          let within = below file i d l in
          let h = number_within (jani_scene.counted 0) (jani_scene.counted (length el.automaton.locations - 1)) (value_at cols s el.number)
          (ap (λ t. is_in t (value_at cols s el.number)) (sym (range_of_location file v w sound alike i d l)) ∙ state_at (range_at file v w sound alike) prism_columns cols s el.number (domains_alike file v w sound alike) is there) in
          record {
            column = is_column el.number (omega arith) there;
            named = location_is file v el within;
            number = h.number;
            holds = h.is;
            seen_so =
                ap (λ y. prism_moment.names_in (translated file) v s unchanged y) (sym (location_is file v el within))
                ∙ env_column file v w sound.constants alike s long (all_within file) el.number (omega arith) there
                ∙ ap (λ u. known (Some u)) h.is;
            ranges = range_of_location file v w sound alike i d l;
          };
      single = λ e. let within = below file i d l in record { within = omega arith; absent = location_stands file i d l ∙ e };
    }
      where
        el : Element
        el = get_or (elements file) i d

    edges_are_sound : EdgesAreSound file v w s
    edges_are_sound = record {
      values = long;
      locations = location_sound;
      edges = λ k d l i a m. edge_sound (get_or (elements file) k d).number (get_or (placed_edges (get_or (elements file) k d)) i a).edge (sound.edges k d l i a m);
      vectors = sound.vectors;
    }

    -- ---- rewards
    first_sound : (k : ℕ) (ds : List Destination) → All (KnownDestination file k) ds → All (λ x. IsSound file v w s k x.value) (first_writes ds)
    first_sound k [] h = All-nil (λ x. IsSound file v w s k x.value)
    first_sound k (d ∷ ds) h =
        All-weaker (λ x. KnownExpression file k x.value) (λ x. IsSound file v w s k x.value) (λ x g. expression_sound k x.value g) d.writes (All-head (KnownDestination file k) d ds h).1

    pays_here : (p : Placed) → PaysAlike file w (state_of file s) p → PaysHere (edge_here file v w s) (paid_here file v w s) p
    pays_here p h = record {
      each = All-map (λ x. AssignsAlike x.rewards (paid_here file v w s p)) (update_at file w (state_of file s) p.element.number p.element.automaton) p.edge.destinations h.each;
      undef = any-map assigns_undef (update_at file w (state_of file s) p.element.number p.element.automaton) p.edge.destinations ∙ h.undef;
    }

    rules : EdgesPayAlike file w (state_of file s) → RewardRules file v w s
    rules h = record {
      one_writer = sound.one_writer;
      alike = λ k d l i a m. pays_here (get_or (placed_edges (get_or (elements file) k d)) i a) (h k d l i a m);
      once = λ k d l i a m.
          let el = get_or (elements file) k d in
          let p = get_or (placed_edges el) i a in
          record {
            once = sound.once k d l i a m;
            sound =
                subst (λ (x : Element). All (λ y. IsSound file v w s x.number y.value) (first_writes p.edge.destinations)) (sym (at_element el 0 (edges_of el) i a m))
                (first_sound el.number p.edge.destinations (sound.edges k d l i a m).1);
          };
    }

    -- At a state of the translated file each choice occurs equally often.
    pub choices_meant : EdgesPayAlike file w (state_of file s) →
        EquallyOften (map (choice_image (old_label file) (state_of file)) ((prism_process.model (translated file)).choices v s))
        ((jani_process.model file).choices w (state_of file s))
    choices_meant h = choices_often file v w s edges_are_sound (rules h)
