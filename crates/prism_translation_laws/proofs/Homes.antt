-- Where the variables are that an edge assigns: at home in its module, or shared, and then its commands have no action.
use Rattle.std.specs.Prelude.{◌≡◌, ◌⊎◌, ℕ, ◌+◌, ◌<◌, List, [], ◌∷◌, length, Bool, true, false, not, ◌&&◌, ◌||◌, cond, Option, Some, None, is_none, is_some, nat_eq, get_or}
use Rattle.std.specs.List.{filter, list_any, All}
use Rattle.std.specs.Option.{option_map}
use Rattle.std.proofs.Common.{refl, sym, ap, ap₂, ◌∙◌, arith, subst, inl, inr, lt-ltb}
use Rattle.std.proofs.lemmas.Bool.{eqb-true, and_parts, or_cases}
use Rattle.std.proofs.lemmas.List.Elements.{All-nil, All-cons, All-weaker}
use Rattle.std.proofs.Math.Bool.{or-true}
use Rattle.basics.specs.Lists.{empty_map}
use Rattle.bridge_io.specs.declared.reason.Named.{Named}
use Rattle.bridge_io.specs.declared.reason.Reason.TheVariants.{SharedWrite}
use Rattle.process_core.specs.Ready.{Name}
use Rattle.choice_laws.proofs.Walks.{has_any}
use Rattle.jani_tree.specs.Syntax.{Edge, Vector, File}
use Rattle.name_rules.specs.Least.{fault}
use Rattle.jani_meaning.specs.Elements as jani
use Rattle.jani_meaning.specs.Elements.{lasting}
use Rattle.prism_translation.specs.Elements.{Element, elements, edges_of, Placed, placed_edges, same_place, some_write, is_reward, rewards, Lasting, lasting_variables, may_use, is_to, writers, home_by, home}
use Rattle.prism_translation.specs.Targets.{part_of, is_named, Target, is_called_by, is_made_for, is_another, serves}
use Rattle.prism_translation.specs.Refused.{binds, has_two, is_split, shared_faults}
use Rattle.prism_translation.proofs.Numbered.{placed_from, at_element, own_place, same_element, lasting_length}
use Rattle.prism_translation_laws.proofs.Declared.{nowhere, lasting_at, number_of}
use Rattle.prism_translation_laws.proofs.Members.{MakerHas}

-- ---- what a filter leaves
none_kept : {X : Type 0} (p : X → Bool) (xs : List X) → filter p xs ≡ [] → All (λ x. p x ≡ false) xs
none_kept p [] h = All-nil (λ x. p x ≡ false)
none_kept p (x ∷ xs) h =
    let r = by_test (p x) refl h in
    All-cons (λ x. p x ≡ false) x xs r.0 (none_kept p xs r.1)
  where
    by_test : (b : Bool) → p x ≡ b → cond b (x ∷ filter p xs) (filter p xs) ≡ [] → (p x ≡ false) × (filter p xs ≡ [])
    by_test true e g = absurd cc
    by_test false e g = (e, g)

-- where it leaves one alone, none but that passes
one_kept : {X : Type 0} (p : X → Bool) (y : X) (xs : List X) → filter p xs ≡ y ∷ [] → All (λ x. p x ≡ true → x ≡ y) xs
one_kept p y [] h = All-nil (λ x. p x ≡ true → x ≡ y)
one_kept {X = X} p y (x ∷ xs) h = by_test (p x) refl h (one_kept p y xs)
  where
    by_test : (b : Bool) → p x ≡ b → cond b (x ∷ filter p xs) (filter p xs) ≡ y ∷ [] → (filter p xs ≡ y ∷ [] → All (λ x. p x ≡ true → x ≡ y) xs) → All (λ x. p x ≡ true → x ≡ y) (x ∷ xs)
    by_test true e g r =
        let same : x ≡ y = cc in
        let rest : filter p xs ≡ [] = cc in
        All-cons (λ x. p x ≡ true → x ≡ y) x xs (λ t. same) (All-weaker (λ x. p x ≡ false) (λ x. p x ≡ true → x ≡ y) (λ z f t. absurd (let no : false ≡ true = sym f ∙ t in cc)) xs (none_kept p xs rest))
    by_test false e g r = All-cons (λ x. p x ≡ true → x ≡ y) x xs (λ t. absurd (let no : false ≡ true = sym e ∙ t in cc)) (r g)

-- an edge that passes a test is one of its element that does
edge_any : (r : Edge → Bool) (n : Element) (i : ℕ) (es : List Edge) → All (λ p. r p.edge ≡ true → list_any r es ≡ true) (placed_from n i es)
edge_any r n i [] = All-nil (λ p. r p.edge ≡ true → list_any r [] ≡ true)
edge_any r n i (e ∷ es) =
    All-cons (λ p. r p.edge ≡ true → list_any r (e ∷ es) ≡ true) (record { element = n; number = i; edge = e }) (placed_from n (i + 1) es) (λ h. ap (λ b. b || list_any r es) h)
    (All-weaker (λ p. r p.edge ≡ true → list_any r es ≡ true) (λ p. r p.edge ≡ true → list_any r (e ∷ es) ≡ true) (λ p f h. ap (λ b. r e || b) (f h) ∙ or-true (r e)) (placed_from n (i + 1) es) (edge_any r n (i + 1) es))

-- ---- an edge that a vector names has an action
named_acts : (a : Option Name) (o : Option Named) → is_named a (option_map (λ n. n.name) o) ≡ true → is_some o ≡ true
named_acts None o h = absurd cc
named_acts (Some x) None h = absurd cc
named_acts (Some x) (Some n) h = refl

called_acts : (v : Option Vector) (p : Placed) → is_called_by v p ≡ true → is_some p.edge.action ≡ true
called_acts None p h = absurd cc
called_acts (Some v) p h = named_acts (part_of v p.element.number) p.edge.action h

module _ (file : File) where
  -- the commands of an edge with an action or with rewards have actions
  abbrev pub Binds : Placed → Type 0
  Binds p = (is_some p.edge.action || rewards file p) ≡ true

  -- no other edge has its place
  abbrev pub AtItsPlace : Placed → Type 0
  AtItsPlace q = All (λ el. All (λ p. same_place p q ≡ true → p ≡ q) (placed_edges el)) (elements file)

  pub at_its_place : All (λ el. All AtItsPlace (placed_edges el)) (elements file)
  at_its_place i d l k e m j b n r c s h =
      let el = get_or (elements file) i d in
      let q = get_or (placed_edges el) k e in
      let other = get_or (elements file) j b in
      let p = get_or (placed_edges other) r c in
      let both = and_parts (nat_eq p.element.number q.element.number) (nat_eq p.number q.number) h in
      let same : other ≡ el =
      same_element 0 (jani.elements file) j b n i d l
      (ap (λ (x : Element). x.number) (sym (at_element other 0 (edges_of other) r c s)) ∙ eqb-true p.element.number q.element.number both.0
      ∙ ap (λ (x : Element). x.number) (at_element el 0 (edges_of el) k e m)) in
      subst (λ (x : Element). All (λ y. same_place y q ≡ true → y ≡ q) (placed_edges x)) (sym same)
      (one_kept (λ y. same_place y q) q (placed_edges el) (own_place el 0 (edges_of el) k e m)) r c s h

  not_split : shared_faults file ≡ [] → All (λ x. is_split file x ≡ false) (lasting_variables file)
  not_split h = none_kept (is_split file) (lasting_variables file) (empty_map (λ (x : Lasting). fault x.owned.var.name.at SharedWrite) (filter (is_split file) (lasting_variables file)) h)

  -- a variable of this home, that the commands of an edge of this element may write
  abbrev pub MayWrite : Placed → ℕ → Option ℕ → Type 0
  MayWrite p k h = (h ≡ Some k) ⊎ ((h ≡ None) × (Binds p → ⊥))

  -- ---- an edge of an element, by their places
  module _ (i : ℕ) (d : Element) (l : i < length (elements file)) (k : ℕ) (e : Placed) (m : k < length (placed_edges (get_or (elements file) i d))) where
    abbrev el : Element
    el = get_or (elements file) i d

    abbrev p : Placed
    p = get_or (placed_edges el) k e

    made_binds : (o : Option Placed) → MakerHas file AtItsPlace o → is_made_for p o ≡ true → Binds p
    made_binds None has f = absurd cc
    made_binds (Some q) has f = ap (λ b. is_some p.edge.action || b) (ap (rewards file) (has.0 i d l k e m f) ∙ has.1) ∙ or-true (is_some p.edge.action)

    -- one that serves a target has an action or assigns rewards
    pub serving_binds : (t : Target) → MakerHas file AtItsPlace t.maker → serves file t p ≡ true → Binds p
    serving_binds t has h = by_side (or_cases (is_made_for p t.maker) (is_called_by t.vector p && (is_none t.maker && not (rewards file p) || is_another p.element.number t.writer)) h)
      where
        by_side : (is_made_for p t.maker ≡ true) ⊎ ((is_called_by t.vector p && (is_none t.maker && not (rewards file p) || is_another p.element.number t.writer)) ≡ true) → Binds p
        by_side (inl f) = made_binds t.maker has f
        by_side (inr f) = ap (λ b. b || rewards file p) (called_acts t.vector p (and_parts (is_called_by t.vector p) _ f).0)

    -- ---- a variable that it assigns
    module _ (shares : shared_faults file ≡ []) (n : ℕ) (within : n < length (lasting file)) (writes : some_write (is_to file n el.number) p.edge ≡ true) where
      abbrev is_writer : Element → Bool
      is_writer el = list_any (some_write (is_to file n el.number)) (edges_of el)

      writer_here : is_writer el ≡ true
      writer_here = edge_any (some_write (is_to file n el.number)) el 0 (edges_of el) k e m writes

      abbrev has_binding : ℕ → Bool
      has_binding j = list_any (λ el. list_any (binds file j el) (edges_of el)) (elements file)

      bound_here : Binds p → has_binding n ≡ true
      bound_here acts =
          let acting = ap (λ (z : Element). is_some p.edge.action || some_write (is_reward file z.number) p.edge) (sym (at_element el 0 (edges_of el) k e m)) ∙ acts in
          has_any (λ el. list_any (binds file n el) (edges_of el)) (elements file) i d l (edge_any (binds file n el) el 0 (edges_of el) k e m (ap₂ (λ u v. u && v) writes acting))

      -- a global one that several elements assign is not shared with an action
      not_shared : (a b : Element) (c : List Element) → writers file n ≡ a ∷ b ∷ c → (lasting_at file n).owned.owner ≡ None → Binds p → ⊥
      not_shared a b c f o acts =
          let two : has_two (a ∷ b ∷ c) ≡ true = lt-ltb 1 (length (a ∷ b ∷ c)) (omega arith) in
          let split : is_split file (lasting_at file n) ≡ true =
          ap₂ (λ u v. u && v) (ap is_none o)
          (ap (λ j. has_two (writers file j) && has_binding j) (number_of file n within) ∙ ap₂ (λ u v. u && v) (ap has_two f ∙ two) (bound_here acts)) in
          let no : false ≡ true = sym (not_split shares n (nowhere file) (let g = lasting_length 0 (lasting file) in omega arith)) ∙ split in cc

      by_writers : (ws : List Element) → writers file n ≡ ws → (lasting_at file n).owned.owner ≡ None → MayWrite p el.number (home_by ws None)
      by_writers [] f o = absurd (let no : false ≡ true = sym (none_kept is_writer (elements file) f i d l) ∙ writer_here in cc)
      by_writers (a ∷ []) f o = inl (ap (λ (x : Element). Some x.number) (sym (one_kept is_writer a (elements file) f i d l writer_here)))
      by_writers (a ∷ b ∷ c) f o = inr (refl, not_shared a b c f o)

      by_owner : (o : Option ℕ) → (lasting_at file n).owned.owner ≡ o → may_use el.number o ≡ true → MayWrite p el.number (home file (lasting_at file n))
      by_owner (Some j) f u = inl (ap (home_by (writers file (lasting_at file n).number)) f ∙ ap Some (sym (eqb-true el.number j u)))
      by_owner None f u =
          subst (MayWrite p el.number) (ap₂ (λ j o. home_by (writers file j) o) (sym (number_of file n within)) (sym f)) (by_writers (writers file n) refl f)

      pub may_write_it : may_use el.number (lasting_at file n).owned.owner ≡ true → MayWrite p el.number (home file (lasting_at file n))
      may_write_it = by_owner (lasting_at file n).owned.owner refl
