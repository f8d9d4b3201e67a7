-- What is known of a variable once all edges are noted, and the faults of variables that are split between elements.
use Rattle.std.specs.Prelude.{◌≡◌, ℕ, zero, suc, ◌+◌, ◌<◌, List, [], ◌∷◌, ◌++◌, map, length, Bool, true, false, not, ◌&&◌, ◌||◌, cond, Option, Some, None, is_none, is_some, nat_eq, nat_lt, slice_get, set, unwrap_or, if◌then◌else◌}
use Rattle.std.specs.List.{filter, list_any}
use Rattle.std.proofs.Common.{refl, sym, ap, ap₂, ◌∙◌, arith, eq-eqb}
use Rattle.std.proofs.lemmas.Bool.{ne_eqb}
use Rattle.std.proofs.Math.Bool.{or-false, or_assoc}
use Rattle.bridge_io.specs.declared.reason.Reason.TheVariants.{SharedWrite}
use Rattle.bridge_io.specs.declared.reason.Fault.{Fault}
use Rattle.jani_tree.specs.Syntax.{Write, Destination, Edge, Automaton, File}
use Rattle.name_rules.specs.Least.{fault, fault_if}
use Rattle.jani_meaning.specs.Elements as jani
use Rattle.jani_meaning.specs.Elements.{Owned, lasting, place_of}
use Rattle.process_core.specs.Instance.{numbered}
use Rattle.prism_translation.specs.Elements.{Element, elements, edges_of, some_write, is_to, is_reward, Lasting}
use Rattle.prism_translation.specs.Refused.{binds, has_two, is_split, shared_faults}
use Rattle.prism_translation.proofs.Numbered.{numbered_from}
use Rattle.edge_tables.specs.Tables.{Ranked, ranked_from, table_in}
use Rattle.edge_tables.specs.Counts.{Writing, is_other, noted, note_if, noting_writes, noting_destinations, binds_writes, noting_edges, written_from, written_in, is_split_by, split_faults}

-- ---- an element is noted twice
or_self : (a b : Bool) → ((a || b) || b) ≡ (a || b)
or_self true b = refl
or_self false true = refl
or_self false false = refl

same_other : (k : ℕ) (f : Option ℕ) (s : Bool) → ((s || is_other k f) || is_other k (Some (unwrap_or f k))) ≡ (s || is_other k f)
same_other k None s = ap (λ b. (s || false) || not b) (eq-eqb k k refl) ∙ or-false (s || false)
same_other k (Some j) s = or_self s (not (nat_eq j k))

noted_twice : (k : ℕ) (b c : Bool) (w : Writing) → noted k c (noted k b w) ≡ noted k (b || c) w
noted_twice k b c w =
    ap₂ (λ (s d : Bool). record { first = Some (unwrap_or w.first k); several = s; binding = d }) (same_other k w.first w.several) (or_assoc w.binding b c)

note_both : (c d : Bool) (k : ℕ) (b e : Bool) (w : Writing) → note_if d k e (note_if c k b w) ≡ note_if (c || d) k ((c && b) || (d && e)) w
note_both true true k b e w = noted_twice k b e w
note_both true false k b e w = ap (λ x. noted k x w) (sym (or-false b))
note_both false true k b e w = refl
note_both false false k b e w = refl

same_note : (c d : Bool) (k : ℕ) (b : Bool) (w : Writing) → note_if d k b (note_if c k b w) ≡ note_if (c || d) k b w
same_note true true k b w = noted_twice k b b w ∙ ap (λ x. noted k x w) (or_twice b)
  where
    or_twice : (x : Bool) → (x || x) ≡ x
    or_twice true = refl
    or_twice false = refl
same_note true false k b w = refl
same_note false d k b w = refl

module _ (to : Write → Bool) (k : ℕ) where
  writes_note : (b : Bool) (w : Writing) (ws : List Write) → noting_writes to k b w ws ≡ note_if (list_any to ws) k b w
  writes_note b w [] = refl
  writes_note b w (v ∷ ws) = writes_note b (note_if (to v) k b w) ws ∙ same_note (to v) (list_any to ws) k b w

  destinations_note : (b : Bool) (w : Writing) (ds : List Destination) → noting_destinations to k b w ds ≡ note_if (list_any (λ d. list_any to d.writes) ds) k b w
  destinations_note b w [] = refl
  destinations_note b w (d ∷ ds) =
      ap (λ x. noting_destinations to k b x ds) (writes_note b w d.writes)
      ∙ destinations_note b (note_if (list_any to d.writes) k b w) ds
      ∙ same_note (list_any to d.writes) (list_any (λ d. list_any to d.writes) ds) k b w

  abbrev is_written : Ranked → Bool
  is_written a = some_write to a.edge

  abbrev is_bound : Ranked → Bool
  is_bound a = is_written a && binds_writes a

  bound_written : (xs : List Ranked) → (list_any is_written xs && list_any is_bound xs) ≡ list_any is_bound xs
  bound_written [] = refl
  bound_written (a ∷ xs) = by_test (is_written a) (binds_writes a) (list_any is_written xs) (list_any is_bound xs) (bound_written xs)
    where
      by_test : (c b d e : Bool) → (d && e) ≡ e → ((c || d) && ((c && b) || e)) ≡ ((c && b) || e)
      by_test true b d e h = refl
      by_test false b d e h = h

  edges_note : (w : Writing) (xs : List Ranked) → noting_edges to k w xs ≡ note_if (list_any is_written xs) k (list_any is_bound xs) w
  edges_note w [] = refl
  edges_note w (a ∷ xs) =
      ap (λ x. noting_edges to k x xs) (destinations_note (binds_writes a) w a.edge.destinations)
      ∙ edges_note (note_if (is_written a) k (binds_writes a) w) xs
      ∙ note_both (is_written a) (list_any is_written xs) k (binds_writes a) (list_any is_bound xs) w
      ∙ ap (λ b. note_if (is_written a || list_any is_written xs) k (is_bound a || b) w) (bound_written xs)

any_ranked : (f : Edge → Bool → Bool) (q : Edge → Bool) (before es : List Edge) → list_any (λ a. f a.edge a.rewarding) (ranked_from q before es) ≡ list_any (λ e. f e (q e)) es
any_ranked f q before [] = refl
any_ranked f q before (e ∷ es) = ap (λ b. f e (q e) || b) (any_ranked f q (before ++ e ∷ []) es)

-- ---- one variable
module _ (file : File) (i : ℕ) where
  abbrev to : ℕ → Write → Bool
  to k w = is_to file i k w

  abbrev is_writer : Element → Bool
  is_writer el = list_any (some_write (to el.number)) (edges_of el)

  abbrev is_binding : Element → Bool
  is_binding el = list_any (binds file i el) (edges_of el)

  element_note : (el : Element) (w : Writing) → noting_edges (to el.number) el.number w (table_in file el).edges ≡ note_if (is_writer el) el.number (is_binding el) w
  element_note el w =
      edges_note (to el.number) el.number w (table_in file el).edges
      ∙ ap₂ (λ a b. note_if a el.number b w)
      (any_ranked (λ e b. some_write (to el.number) e) (some_write (is_reward file el.number)) [] (edges_of el))
      (any_ranked (λ e b. some_write (to el.number) e && (is_some e.action || b)) (some_write (is_reward file el.number)) [] (edges_of el))

  binding_writes : (el : Element) → is_writer el ≡ false → is_binding el ≡ false
  binding_writes el = none (edges_of el)
    where
      none_here : (c b d e : Bool) → (d ≡ false → e ≡ false) → (c || d) ≡ false → ((c && b) || e) ≡ false
      none_here true b d e h k = absurd cc
      none_here false b d e h k = h k

      none : (es : List Edge) → list_any (some_write (to el.number)) es ≡ false → list_any (binds file i el) es ≡ false
      none [] h = refl
      none (e ∷ es) h =
          none_here (some_write (to el.number) e) (is_some e.action || some_write (is_reward file el.number) e) (list_any (some_write (to el.number)) es) (list_any (binds file i el) es) (none es) h

  abbrev after : ℕ → List Automaton → Writing → Writing
  after k autos w = written_from to k (map (table_in file) (numbered_from k autos)) w

  -- behind an element with such an edge
  pub seen_before : (j k : ℕ) (autos : List Automaton) (s b : Bool) → j < k →
      after k autos (record { first = Some j; several = s; binding = b })
      ≡ record { first = Some j; several = s || list_any is_writer (numbered_from k autos); binding = b || list_any is_binding (numbered_from k autos) }
  seen_before j k [] s b l = ap₂ (λ (x y : Bool). record { first = Some j; several = x; binding = y }) (sym (or-false s)) (sym (or-false b))
  seen_before j k (a ∷ autos) s b l =
      ap (λ w. after (k + 1) autos w) (element_note (record { number = k; automaton = a }) (record { first = Some j; several = s; binding = b }))
      ∙ by_test (is_writer (record { number = k; automaton = a })) refl (λ t c. seen_before j (k + 1) autos t c (omega arith))
    where
      el : Element
      el = record { number = k; automaton = a }

      rest : List Element
      rest = numbered_from (k + 1) autos

      others : (x y : Bool) → ((x || true) || y) ≡ (x || true)
      others true y = refl
      others false y = refl

      by_test : (c : Bool) → is_writer el ≡ c →
          ((t d : Bool) → after (k + 1) autos (record { first = Some j; several = t; binding = d }) ≡ record { first = Some j; several = t || list_any is_writer rest; binding = d || list_any is_binding rest }) →
          after (k + 1) autos (note_if c k (is_binding el) (record { first = Some j; several = s; binding = b }))
          ≡ record { first = Some j; several = s || (c || list_any is_writer rest); binding = b || (is_binding el || list_any is_binding rest) }
      by_test true h ih =
          ih (s || not (nat_eq j k)) (b || is_binding el)
          ∙ ap₂ (λ (x y : Bool). record { first = Some j; several = x; binding = y })
          (ap (λ z. (s || not z) || list_any is_writer rest) (ne_eqb j k (λ e. omega arith)) ∙ others s (list_any is_writer rest)) (or_assoc b (is_binding el) (list_any is_binding rest))
      by_test false h ih =
          ih s b ∙ ap (λ (z : Bool). record { first = Some j; several = s || list_any is_writer rest; binding = b || (z || list_any is_binding rest) }) (sym (binding_writes el h))

  more_than_one : {X : Type 0} (p : X → Bool) (xs : List X) → nat_lt 1 (suc (length (filter p xs))) ≡ list_any p xs
  more_than_one p [] = grind arith
  more_than_one p (x ∷ xs) = by_test (p x) (more_than_one p xs)
    where
      two : (n : ℕ) → nat_lt 1 (suc (suc n)) ≡ true
      two n = grind arith

      by_test : (b : Bool) → nat_lt 1 (suc (length (filter p xs))) ≡ list_any p xs → nat_lt 1 (suc (length (cond b (x ∷ filter p xs) (filter p xs)))) ≡ (b || list_any p xs)
      by_test true e = two (length (filter p xs))
      by_test false e = e

  -- before any
  pub seen_none : (k : ℕ) (autos : List Automaton) (b : Bool) →
      ((after k autos (record { first = None; several = false; binding = b })).several ≡ has_two (filter is_writer (numbered_from k autos)))
      × ((after k autos (record { first = None; several = false; binding = b })).binding ≡ (b || list_any is_binding (numbered_from k autos)))
  seen_none k [] b = ((let f : false ≡ nat_lt 1 0 = grind arith in f), sym (or-false b))
  seen_none k (a ∷ autos) b =
      let is = ap (λ w. after (k + 1) autos w) (element_note (record { number = k; automaton = a }) (record { first = None; several = false; binding = b })) in
      let rest = by_test (is_writer (record { number = k; automaton = a })) refl (seen_none (k + 1) autos b) in
      (ap (λ (w : Writing). w.several) is ∙ rest.0, ap (λ (w : Writing). w.binding) is ∙ rest.1)
    where
      el : Element
      el = record { number = k; automaton = a }

      rest : List Element
      rest = numbered_from (k + 1) autos

      by_test : (c : Bool) → is_writer el ≡ c →
          ((after (k + 1) autos (record { first = None; several = false; binding = b })).several ≡ has_two (filter is_writer rest))
          × ((after (k + 1) autos (record { first = None; several = false; binding = b })).binding ≡ (b || list_any is_binding rest)) →
          ((after (k + 1) autos (note_if c k (is_binding el) (record { first = None; several = false; binding = b }))).several ≡ has_two (cond c (el ∷ filter is_writer rest) (filter is_writer rest)))
          × ((after (k + 1) autos (note_if c k (is_binding el) (record { first = None; several = false; binding = b }))).binding ≡ (b || (is_binding el || list_any is_binding rest)))
      by_test true h ih =
          let e = seen_before k (k + 1) autos false (b || is_binding el) (omega arith) in
          (ap (λ (w : Writing). w.several) e ∙ sym (more_than_one is_writer rest), ap (λ (w : Writing). w.binding) e ∙ or_assoc b (is_binding el) (list_any is_binding rest))
      by_test false h ih = (ih.0, ih.1 ∙ ap (λ z. b || (z || list_any is_binding rest)) (sym (binding_writes el h)))

-- ---- all variables
module _ (file : File) where
  abbrev pub written : ℕ → Writing
  written = written_in (lasting file) (map (table_in file) (elements file))

  split_is : (i : ℕ) (o : Owned) → is_split file (record { number = i; owned = o }) ≡ is_split_by o (written i)
  split_is i o =
      let s = seen_none file i 0 (jani.elements file) false in
      ap₂ (λ a b. is_none o.owner && (a && b)) (sym s.0) (sym s.1)

  faults_from : (i : ℕ) (os : List Owned) →
      map (λ x. fault x.owned.var.name.at SharedWrite) (filter (is_split file) (numbered (λ j o. record { number = j; owned = o } ∷ []) i os)) ≡ split_faults written i os
  faults_from i [] = refl
  faults_from i (o ∷ os) =
      by_test (is_split file (record { number = i; owned = o })) (faults_from (i + 1) os)
      ∙ ap (λ b. fault_if b o.var.name.at SharedWrite ++ split_faults written (i + 1) os) (split_is i o)
    where
      x : Lasting
      x = record { number = i; owned = o }

      rest : List Lasting
      rest = filter (is_split file) (numbered (λ j o. record { number = j; owned = o } ∷ []) (i + 1) os)

      by_test : (b : Bool) → map (λ x. fault x.owned.var.name.at SharedWrite) rest ≡ split_faults written (i + 1) os →
          map (λ x. fault x.owned.var.name.at SharedWrite) (cond b (x ∷ rest) rest) ≡ fault_if b o.var.name.at SharedWrite ++ split_faults written (i + 1) os
      by_test true e = ap (λ (l : List Fault). fault o.var.name.at SharedWrite ∷ l) e
      by_test false e = e

  pub shared_faults_are : shared_faults file ≡ split_faults written 0 (lasting file)
  shared_faults_are = faults_from 0 (lasting file)

-- ---- by what code knows
pub faults_alike : (v w : ℕ → Writing) (i : ℕ) (os : List Owned) → ((j : ℕ) → j < i + length os → v j ≡ w j) → split_faults v i os ≡ split_faults w i os
faults_alike v w i [] h = refl
faults_alike v w i (o ∷ os) h =
    ap₂ (λ (x : Writing) l. fault_if (is_split_by o x) o.var.name.at SharedWrite ++ l) (h i (omega arith)) (faults_alike v w (i + 1) os (λ j l. h j (omega (arith, l))))

-- ---- a place of a list is written
pub set_get : {X : Type 0} (xs : List X) (p i : ℕ) (y : X) → p < length xs → slice_get (set xs p y) i ≡ (if nat_eq i p then Some y else slice_get xs i)
set_get [] p i y l = absurd (omega arith)
set_get (x ∷ xs) zero zero y l = refl
set_get (x ∷ xs) zero (suc i) y l = ap (λ b. if b then Some y else slice_get xs i) (let e : false ≡ nat_eq (suc i) 0 = grind arith in e)
set_get (x ∷ xs) (suc p) zero y l = ap (λ b. if b then Some y else Some x) (let e : false ≡ nat_eq 0 (suc p) = grind arith in e)
set_get (x ∷ xs) (suc p) (suc i) y l = set_get xs p i y (omega arith) ∙ ap (λ b. if b then Some y else slice_get xs i) (let e : nat_eq i p ≡ nat_eq (suc i) (suc p) = grind arith in e)
