-- What is prepared is right, where what it was made of is.
use Rattle.std.specs.Prelude.{◌≡◌, ℕ, ◌+◌, List, [], ◌∷◌, map, length, take, drop, Option, Some, None, slice_get}
use Rattle.std.specs.List.{AllZip, flat_map}
use Rattle.std.specs.Option.{option_map, option_or}
use Rattle.std.proofs.Common.{refl, sym, ap, ap₂, ◌∙◌, arith}
use Rattle.std.proofs.Math.Path.{fun_ext}
use Rattle.std.proofs.lemmas.List.{drop-map, length-map, take-map}
use Rattle.std.proofs.lemmas.Option.{slice_get-map}
use Rattle.expr_store.specs.Views.{nodes}
use Rattle.expr_store.specs.declared.node.ExprId.{ExprId}
use Rattle.expr_store.specs.declared.node.Node.{Node}
use Rattle.instance_start.specs.declared.data.Place.{Place}
use Rattle.jani_check.specs.Faults.{IsChecked}
use Rattle.jani_meaning.specs.Elements.{Owned, elements, labels, structures}
use Rattle.jani_meaning.specs.Scene.{has_condition}
use Rattle.jani_table.specs.declared.operator.JaniOp.{JaniOp}
use Rattle.basics.specs.Mapped.{mapped, walked}
use Rattle.jani_tree.specs.Syntax.{Automaton, File}
use Rattle.name_rules.specs.Names.{under}
use Rattle.name_rules.specs.declared.map.NameMap.{NameMap}
use Rattle.op_trees.specs.Seen.{Seen}
use Rattle.process_core.specs.Instance.{Valuation}
use Rattle.process_core.specs.Ready.{Name}
use Rattle.jani_instance.specs.Actions.{AreElementsOf, AreNamedElementsOf, actions_of}
use Rattle.jani_instance.specs.Built.{IsElementOf, IsNamedElementOf, IsNamedTransientOf, IsTransientOf, IsVectorOf, given_from, global_place, place_in}
use Rattle.jani_instance.specs.Initial.{initial_table, table_in}
use Rattle.jani_instance.specs.Knowing.{AreNamed, IsBuilt, IsPreparedOf}
use Rattle.jani_instance.specs.Prepared.{places_at, places_of, own_or, placed_names, see_from}
use Rattle.jani_instance.specs.Shapes.{Giver, Lent, Transient, giver_as, located_as, transient_as}
use Rattle.jani_instance.specs.Views.{At, first_else, giver_from, located_seen, look_by}
use Rattle.jani_instance.specs.declared.data.Element.{Element}
use Rattle.jani_instance.specs.declared.data.NamedElement.{NamedElement}
use Rattle.jani_instance.specs.declared.data.Transient as code_transient
use Rattle.jani_instance.specs.declared.start.Built.{Built}
use Rattle.jani_instance.proofs.Givers.{first_are, gives_by, giver_seen, names_are, rest_are, transients_are}
use Rattle.jani_instance.proofs.Kept.{located_alike}
use Rattle.jani_instance.proofs.Whole.{lesser, numbered_agree, there_is, within}

-- where nothing stands at any place
abbrev nowhere : At
nowhere p = None

-- the same at a place of lists that are alike
one_of : {X Y B : Type 0} (f : X → B) (g : Y → B) (xs : List X) (ys : List Y) (i : ℕ) (x : X) (y : Y) → map f xs ≡ map g ys → slice_get xs i ≡ Some x → slice_get ys i ≡ Some y → f x ≡ g y
one_of f g xs ys i x y e p q =
    let d : Some (f x) ≡ Some (g y) =
    ap (option_map f) (sym p) ∙ sym (slice_get-map f xs i) ∙ ap (λ l. slice_get l i) e ∙ slice_get-map g ys i ∙ ap (option_map g) q in
    cc

any_of : {X Y B : Type 0} (f : X → B) (g : Y → B) (xs : List X) (ys : List Y) (i : ℕ) → map f xs ≡ map g ys → option_map f (slice_get xs i) ≡ option_map g (slice_get ys i)
any_of f g xs ys i e = sym (slice_get-map f xs i) ∙ ap (λ l. slice_get l i) e ∙ slice_get-map g ys i

module _ (file : File) (ns : List (Node JaniOp)) (places : NameMap Place) (es : List NamedElement)
    (global : (x : Name) → under places x ≡ global_place file x) (named : AreNamedElementsOf file es) where
  -- ---- elements
  places_are : (i : ℕ) (a : Automaton) (e : NamedElement) → IsNamedElementOf file (actions_of a) i a e → places_of e.own places ≡ place_in file i
  places_are i a e h = fun_ext (λ (x : Name). ap₂ option_or (h.own x) (global x))

  element_is : (i : ℕ) (a : Automaton) (e : NamedElement) (p : Element) → IsNamedElementOf file (actions_of a) i a e →
      ((at : At) → map (located_as (look_by at ns)) p.locations.items ≡ map (located_as (see_from (places_of e.own places) at)) e.locations.items) →
      IsElementOf file ns (actions_of a) i a p
  element_is i a e p h alike = record {
    edges = λ cs at n k.
        located_alike (look_by at ns) (see_from (places_of e.own places) at) cs i (slice_get p.locations.items n) (slice_get e.locations.items n)
        (any_of (located_as (look_by at ns)) (located_as (see_from (places_of e.own places) at)) p.locations.items e.locations.items n (alike at))
        ∙ ap (λ (q : Name → Option Place). located_seen cs (see_from q at) i (slice_get e.locations.items n)) (places_are i a e h)
        ∙ h.edges cs (placed_names (place_in file i) at) n k;
    covers = h.covers;
  }

  pub elements_resolved : (ps : List Element) →
      ((at : At) → map (λ (p : Element). map (located_as (look_by at ns)) p.locations.items) ps ≡ map (λ (e : NamedElement). map (located_as (see_from (places_of e.own places) at)) e.locations.items) es) →
      AreElementsOf file ns ps
  elements_resolved ps alike =
      let size : length ps ≡ length es = sym (length-map ps _) ∙ ap length (alike nowhere) ∙ length-map es _ in
      record {
        count = size ∙ named.count;
        built = λ i a p is_a is_p.
            let e = there_is es i (lesser (sym size) (within ps i p is_p)) in
            element_is i a e.0 p (named.built i a e.0 is_a e.1) (λ at. one_of _ _ ps es i p e.0 (alike at) is_p e.1);
      }

  -- ---- transient variables
  at_number : (i : ℕ) (a : Automaton) → slice_get (elements file) i ≡ Some a → places_at es places i ≡ place_in file i
  at_number i a h =
      let e = there_is es i (lesser named.count (within (elements file) i a h)) in
      ap (own_or places) e.1 ∙ places_are i a e.0 (named.built i a e.0 h e.1)

  module _ (v : Valuation) where
    transient_is : (o : Owned) (t : code_transient.Transient Lent) (p : code_transient.Transient ExprId) → IsNamedTransientOf file v o t →
        ((at : At) → transient_as (λ i. look_by at ns) p ≡ transient_as (λ i. see_from (places_at es places i) at) t) → IsTransientOf file v ns o p
    transient_is o t p h alike = record {
      start = ap (λ (s : Transient Seen). s.start) (alike nowhere) ∙ h.start;
      givers = λ values at k other.
          let all = λ (gs : List (Giver Seen)). flat_map (gives_by (λ i s. s) at) gs in
          ap (first_else other)
          (sym (walked (giver_as (λ i. look_by values ns)) (gives_by (λ i s. s) at) (giver_from (λ i. look_by values ns) at) (λ g. sym (giver_seen (λ i. look_by values ns) (λ i s. s) at g)) p.givers.items)
          ∙ ap (λ (s : Transient Seen). all s.givers) (alike values)
          ∙ walked (giver_as (λ i. see_from (places_at es places i) values)) (gives_by (λ i s. s) at) (giver_from (λ i. see_from (places_at es places i) values) at)
          (λ g. sym (giver_seen (λ i. see_from (places_at es places i) values) (λ i s. s) at g)) t.givers.items)
          ∙ h.givers (λ i. placed_names (places_at es places i) values) at k other
          ∙ ap (first_else other) (numbered_agree _ _ 0 (elements file) (λ n a e. given_alike values at n (0 + n) a (let d : n ≡ 0 + n = omega arith in d) e));
    }
      where
        given_alike : (values : At) (at : ℕ → ℕ) (n m : ℕ) (a : Automaton) → n ≡ m → slice_get (elements file) n ≡ Some a →
            given_from file v (λ i. placed_names (places_at es places i) values) at o m a ≡ given_from file v (λ i. placed_names (place_in file i) values) at o m a
        given_alike values at n m a d e =
            ap (λ (q : Name → Option Place). given_from file v (λ i. placed_names q values) at o m a) (at_number m a (ap (slice_get (elements file)) (sym d) ∙ e))

    pub transients_resolved : (os : List Owned) (ts : List (code_transient.Transient Lent)) (ps : List (code_transient.Transient ExprId)) → AllZip (IsNamedTransientOf file v) os ts →
        ((at : At) → map (transient_as (λ i. look_by at ns)) ps ≡ map (transient_as (λ i. see_from (places_at es places i) at)) ts) → AllZip (IsTransientOf file v ns) os ps
    transients_resolved [] [] [] h alike = tt
    transients_resolved [] [] (p ∷ ps) h alike = absurd (let e = alike nowhere in cc)
    transients_resolved [] (t ∷ ts) ps h alike = absurd h
    transients_resolved (o ∷ os) [] ps h alike = absurd h
    transients_resolved (o ∷ os) (t ∷ ts) [] h alike = absurd (let e = alike nowhere in cc)
    transients_resolved (o ∷ os) (t ∷ ts) (p ∷ ps) h alike = (
      transient_is o t p h.0 (λ at. let e = alike at in cc),
      transients_resolved os ts ps h.1 (λ at. let e = alike at in cc),
    )

-- ---- all of it
pub built_is : (file : File) (v : Valuation) → IsChecked file → (places : NameMap Place) → ((x : Name) → under places x ≡ global_place file x) →
    (es : List NamedElement) (ts : List (code_transient.Transient Lent)) → AreNamedElementsOf file es → AreNamed file v ts → (b : Built) → IsPreparedOf places es ts b.prepared →
    AllZip (IsVectorOf file actions_of) file.vectors b.vectors.items → b.labels ≡ length (labels file) → map table_in b.initial_locations.items ≡ map initial_table (elements file) → b.has_condition ≡ has_condition file →
    IsBuilt file v b
built_is file v checked places global es ts named given b made vectors count initial condition =
    let ns = nodes b.prepared.store in
    let ps = b.prepared.transients.items in
    let n = b.labels in
    record {
      elements_are = elements_resolved file ns places es global named b.prepared.elements.items made.elements_are;
      vectors_are = vectors;
      labels_are = count;
      names_are =
          sym (mapped (transient_as (λ i. look_by nowhere ns)) (λ (s : Transient Seen). s.name) (λ p. p.name.now) (λ p. refl) ps)
          ∙ ap (map (λ (s : Transient Seen). s.name)) (made.transients_are nowhere)
          ∙ mapped (transient_as (λ i. see_from (places_at es places i) nowhere)) (λ (s : Transient Seen). s.name) (λ t. t.name.now) (λ t. refl) ts
          ∙ names_are file v ts given;
      labelling = transients_resolved file ns places es global named v (labels file) (take n ts) (take n ps)
          (transients_are file v checked (labels file) (take n ts) (first_are file v ts n count given))
          (λ at. sym (take-map _ n ps) ∙ ap (take n) (made.transients_are at) ∙ take-map _ n ts);
      rewarding = transients_resolved file ns places es global named v (structures file) (drop n ts) (drop n ps)
          (transients_are file v checked (structures file) (drop n ts) (rest_are file v ts n count given))
          (λ at. sym (drop-map _ n ps) ∙ ap (drop n) (made.transients_are at) ∙ drop-map _ n ts);
      initial_are = initial;
      condition_is = condition;
    }
