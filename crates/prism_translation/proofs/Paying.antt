-- Each way to take one edge of each participant of a target earns what the edge assigns that the target is made for.
use Rattle.std.specs.Prelude.{◌≡◌, List, [], ◌∷◌, ◌++◌, map, Bool, true, false, not, ◌&&◌, ◌||◌, cond, Option, Some, None, if◌then◌else◌, nat_eq, get_or}
use Rattle.std.specs.List.{flat_map, filter, find, list_any, All}
use Rattle.std.proofs.Common.{refl, sym, ap, ap₂, subst, ◌∙◌, append-nil, ne_eqb}
use Rattle.std.proofs.lemmas.Bool.{eqb-true}
use Rattle.std.proofs.lemmas.List.Elements.{All-nil, All-cons, All-head, All-tail, All-weaker, All-filter, All-append, All-map, filter_passes}
use Rattle.basics.specs.Members.{All-unmap, none_passes}
use Rattle.basics.specs.Numbers.{nat_eq-self}
use Rattle.process_core.specs.Product.{one_of_each}
use Rattle.process_core.specs.Ready.{Reward}
use Rattle.choice_laws.proofs.Walks.{All-flat_map, any-filter, found_has, All-front, flat_map_none, All-back, if_nil}
use Rattle.choice_laws.proofs.Products.{All-ways}
use Rattle.process_core.specs.Instance.{only_if}
use Rattle.jani_tree.specs.Syntax.{Vector, File}
use Rattle.jani_meaning.specs.Elements as jani
use Rattle.prism_translation.specs.Elements.{Element, elements, edges_of, Placed, placed_edges, same_place, rewards}
use Rattle.prism_translation.specs.Targets.{names, edges_named, reward_writer, Target, targets_by, vector_targets, serves, is_silent, targets, silent_targets}
use Rattle.prism_translation.specs.Modules.{Action}
use Rattle.prism_translation.specs.Sound.{HasOneWriter}
use Rattle.prism_translation.proofs.Numbered.{at_element, own_place, one_element, same_element}
use Rattle.prism_translation.proofs.Served.{made, plain, made_targets, made_other, plain_other, takes_part}
use Rattle.prism_translation.proofs.Silent.{silently, lists_silent}
use Rattle.prism_translation.proofs.CommandsAlike.{Evaluation, live, joins, lists}
use Rattle.prism_translation.proofs.Vectors.{joins_part}

module _ (paid : Placed → List Reward) where
  -- where all edges that an element brings pay the same, each way pays that
  ways_pay : (b : Element → Bool) (L : Element → List Placed) (R : Element → List Reward) (els : List Element) → All (λ el. All (λ p. paid p ≡ R el) (L el)) els →
      All (λ ps. flat_map paid ps ≡ flat_map (λ el. cond (b el) (R el) []) els) (one_of_each (flat_map (λ el. only_if (b el) (L el)) els))
  ways_pay b L R [] h = All-cons (λ ps. flat_map paid ps ≡ []) [] [] refl (All-nil (λ ps. flat_map paid ps ≡ []))
  ways_pay b L R (el ∷ els) h = by_test (b el) (All-head (λ el. All (λ p. paid p ≡ R el) (L el)) el els h) (ways_pay b L R els (All-tail (λ el. All (λ p. paid p ≡ R el) (L el)) el els h))
    where
      rest : List Reward
      rest = flat_map (λ el. cond (b el) (R el) []) els

      lists_behind : List (List Placed)
      lists_behind = flat_map (λ el. only_if (b el) (L el)) els

      by_test : (c : Bool) → All (λ p. paid p ≡ R el) (L el) → All (λ ps. flat_map paid ps ≡ rest) (one_of_each lists_behind) →
          All (λ ps. flat_map paid ps ≡ cond c (R el) [] ++ rest) (one_of_each (only_if c (L el) ++ lists_behind))
      by_test true f g =
          All-ways (λ p. paid p ≡ R el) (λ ps. flat_map paid ps ≡ rest) (λ ps. flat_map paid ps ≡ R el ++ rest) (λ p ps e k. ap₂ (λ x y. x ++ y) e k) (L el) (one_of_each lists_behind) f g
      by_test false f g = g

module _ (file : File) (acts : List Action) (seen : Evaluation) (paid : Placed → List Reward) (pays_not : (p : Placed) → rewards file p ≡ false → paid p ≡ []) where
  abbrev runs : Placed → Bool
  runs p = live file acts seen p

  abbrev joined : Target → Element → Bool
  joined t el = joins file acts seen t el

  abbrev pub paid_by : Option Placed → List Reward
  paid_by None = []
  paid_by (Some q) = paid q

  -- each way earns what the target's edge pays
  abbrev pub EarnsIt : Target → Type 0
  EarnsIt t = All (λ ps. flat_map paid ps ≡ paid_by t.maker) (one_of_each (lists file acts seen t))

  -- ---- edges of a vector that pay nothing
  none_pay : (v : Vector) (el : Element) → list_any (rewards file) (edges_named v el) ≡ false → All (λ p. names v p ≡ true → paid p ≡ []) (placed_edges el)
  none_pay v el h k d l e =
      let p = get_or (placed_edges el) k d in
      pays_not p (by_test (names v p) (rewards file p) e (none_passes (λ p. names v p && rewards file p) (placed_edges el) (sym (any-filter (rewards file) (names v) (placed_edges el)) ∙ h) k d l))
    where
      by_test : (a b : Bool) → a ≡ true → (a && b) ≡ false → b ≡ false
      by_test true b e f = f
      by_test false b e f = absurd cc

  abbrev PaysAs : Target → (Element → List Reward) → Element → Type 0
  PaysAs t R el = All (λ p. paid p ≡ R el) (filter runs (filter (serves file t) (placed_edges el)))

  kept : (t : Target) (el : Element) (rs : List Reward) → All (λ p. serves file t p ≡ true → paid p ≡ rs) (placed_edges el) → All (λ p. paid p ≡ rs) (filter runs (filter (serves file t) (placed_edges el)))
  kept t el rs h =
      All-filter runs (λ p. paid p ≡ rs) (filter (serves file t) (placed_edges el))
      (λ k d l. All-filter (serves file t) (λ p. serves file t p ≡ true → paid p ≡ rs) (placed_edges el) h k d l (filter_passes (serves file t) (placed_edges el) k d l))

  -- ---- a plain target of a vector without writer
  no_writer : (v : Vector) → reward_writer file v ≡ None → All (λ t. EarnsIt t) (targets_by file v None)
  no_writer v e =
      All-cons EarnsIt (plain file v None) []
      (λ k d l.
      ways_pay paid (joined (plain file v None)) (λ el. filter runs (filter (serves file (plain file v None)) (placed_edges el))) (λ el. []) (elements file)
      (λ i a m. let el = get_or (elements file) i a in kept (plain file v None) el [] (λ j b n f. let p = get_or (placed_edges el) j b in pays_not p (plainly (names v p) (rewards file p) f))) k d l
      ∙ flat_map_none (λ el. cond (joined (plain file v None) el) [] []) (elements file) (λ i a m. if_nil (joined (plain file v None) (get_or (elements file) i a))))
      (All-nil EarnsIt)
    where
      plainly : (a b : Bool) → (a && (not b || false)) ≡ true → b ≡ false
      plainly true true h = absurd cc
      plainly true false h = refl
      plainly false b h = absurd cc

  -- ---- targets of a vector with a writer
  module _ (v : Vector) (w : Element) (found : reward_writer file v ≡ Some w) (one : All (λ el. (el.number ≡ w.number → ⊥) → list_any (rewards file) (edges_named v el) ≡ false) (elements file)) where
    other_pays : (t : Target) (el : Element) → (el.number ≡ w.number → ⊥) → list_any (rewards file) (edges_named v el) ≡ false → All (λ p. serves file t p ≡ names v p) (placed_edges el) →
        All (λ p. serves file t p ≡ true → paid p ≡ []) (placed_edges el)
    other_pays t el n h f k d l e = none_pay v el h k d l (sym (f k d l) ∙ e)

    -- what the writer's edges pay, and others don't
    abbrev at_writer : List Reward → Element → List Reward
    at_writer rs el = cond (nat_eq el.number w.number) rs []

    by_number : (el : Element) (b : Bool) → nat_eq el.number w.number ≡ b → b ≡ false → el.number ≡ w.number → ⊥
    by_number el b e f g = differ (sym (nat_eq-self w.number) ∙ sym (ap (λ n. nat_eq n w.number) g) ∙ e ∙ f)
      where
        differ : true ≡ false → ⊥
        differ h = cc

    abbrev FoundWriter : Element → Bool
    FoundWriter el = list_any (rewards file) (edges_named v el)

    -- what holds of the writer's edges, and of all others, holds of all
    pays_at : (t : Target) (rs : List Reward) → ((el : Element) → (el.number ≡ w.number → ⊥) → All (λ p. serves file t p ≡ names v p) (placed_edges el)) →
        All (λ p. serves file t p ≡ true → paid p ≡ rs) (placed_edges w) → All (PaysAs t (at_writer rs)) (elements file)
    pays_at t rs f g k d l = by_test (nat_eq el.number w.number) refl
      where
        el : Element
        el = get_or (elements file) k d

        by_test : (b : Bool) → nat_eq el.number w.number ≡ b → PaysAs t (λ x. cond b rs []) el
        by_test true e =
            let same : el ≡ w = found_has (λ x. el.number ≡ x.number → el ≡ x) FoundWriter w (elements file) (same_element 0 (jani.elements file) k d l) found (eqb-true el.number w.number e) in
            kept t el rs (subst (λ (x : Element). All (λ p. serves file t p ≡ true → paid p ≡ rs) (placed_edges x)) (sym same) g)
        by_test false e =
            let apart = by_number el (nat_eq el.number w.number) refl e in
            kept t el [] (other_pays t el apart (one k d l apart) (f el apart))

    picked : (t : Target) (rs : List Reward) → joined t w ≡ true → flat_map (λ el. cond (joined t el) (at_writer rs el) []) (elements file) ≡ rs
    picked t rs h =
        found_has (λ x. ((el : Element) → (el.number ≡ x.number → ⊥) → cond (joined t el) (at_writer rs el) [] ≡ []) → flat_map (λ el. cond (joined t el) (at_writer rs el) []) (elements file) ≡ cond (joined t x) (at_writer rs x) [])
        FoundWriter w (elements file) (one_element (λ el. cond (joined t el) (at_writer rs el) []) 0 (jani.elements file)) found
        (λ el n. ap (λ b. cond (joined t el) (cond b rs []) []) (ne_eqb el.number w.number n) ∙ if_nil (joined t el))
        ∙ ap₂ (λ a b. cond a (cond b rs []) []) h (nat_eq-self w.number)

    earns_it : (t : Target) (rs : List Reward) → joined t w ≡ true → ((el : Element) → (el.number ≡ w.number → ⊥) → All (λ p. serves file t p ≡ names v p) (placed_edges el)) →
        All (λ p. serves file t p ≡ true → paid p ≡ rs) (placed_edges w) → paid_by t.maker ≡ rs → EarnsIt t
    earns_it t rs h f g e k d l =
        ways_pay paid (joined t) (λ el. filter runs (filter (serves file t) (placed_edges el))) (at_writer rs) (elements file) (pays_at t rs f g) k d l
        ∙ picked t rs h ∙ sym e

    -- ---- the writer's own edges
    unfiltered : {X : Type 0} (P : X → Type 0) (f : X → Bool) (xs : List X) → All P (filter f xs) → All (λ x. f x ≡ true → P x) xs
    unfiltered P f [] h = All-nil (λ x. f x ≡ true → P x)
    unfiltered P f (x ∷ xs) h = by_test (f x) refl h (unfiltered P f xs)
      where
        by_test : (b : Bool) → f x ≡ b → All P (cond b (x ∷ filter f xs) (filter f xs)) → (All P (filter f xs) → All (λ x. f x ≡ true → P x) xs) → All (λ x. f x ≡ true → P x) (x ∷ xs)
        by_test true e g ih = All-cons (λ x. f x ≡ true → P x) x xs (λ k. All-head P x (filter f xs) g) (ih (All-tail P x (filter f xs) g))
        by_test false e g ih = All-cons (λ x. f x ≡ true → P x) x xs (λ k. absurd (differ (sym k ∙ e))) (ih g)
          where
            differ : true ≡ false → ⊥
            differ h = cc

    made_pays : (q : Placed) → filter (λ p. same_place p q) (placed_edges w) ≡ q ∷ [] → All (λ p. serves file (made file v w q) p ≡ true → paid p ≡ paid q) (placed_edges w)
    made_pays q own k d l e =
        let p = get_or (placed_edges w) k d in
        let at : p.element ≡ w = at_element w 0 (edges_of w) k d l in
        let here : same_place p q ≡ true =
        first_or (same_place p q) (names v p) (ap (λ (x : Element). nat_eq x.number w.number) at ∙ nat_eq-self w.number) e in
        ap paid
        (unfiltered (λ p. p ≡ q) (λ p. same_place p q) (placed_edges w)
        (subst (λ ps. All (λ p. p ≡ q) ps) (sym own) (All-cons (λ p. p ≡ q) q [] refl (All-nil (λ p. p ≡ q)))) k d l here)
      where
        first_or : (a b : Bool) {c : Bool} → c ≡ true → (a || (b && not c)) ≡ true → a ≡ true
        first_or true b h e = refl
        first_or false true h e = absurd (let f = ap not h in cc)
        first_or false false h e = absurd cc

    plain_pays : All (λ p. serves file (plain file v (Some w.number)) p ≡ true → paid p ≡ []) (placed_edges w)
    plain_pays k d l e =
        let p = get_or (placed_edges w) k d in
        let at : p.element ≡ w = at_element w 0 (edges_of w) k d l in
        pays_not p (by_test (names v p) (rewards file p) (nat_eq p.element.number w.number) (ap (λ (x : Element). nat_eq x.number w.number) at ∙ nat_eq-self w.number) e)
      where
        by_test : (a b c : Bool) → c ≡ true → (a && (not b || not c)) ≡ true → b ≡ false
        by_test true true c h e = absurd (let f = ap not h in cc)
        by_test true false c h e = refl
        by_test false b c h e = absurd cc

    writer_joins : All (λ t. joined t w ≡ true) (vector_targets file v)
    writer_joins k d l =
        joins_part file v acts seen w k d l
        ∙ takes_part file v runs w (find_holds FoundWriter w (elements file) found)
      where
        find_holds : {X : Type 0} (p : X → Bool) (u : X) (xs : List X) → find p xs ≡ Some u → p u ≡ true
        find_holds p u [] h = absurd cc
        find_holds p u (x ∷ xs) h = by_test (p x) refl h (find_holds p u xs)
          where
            by_test : (b : Bool) → p x ≡ b → (if b then Some x else find p xs) ≡ Some u → (find p xs ≡ Some u → p u ≡ true) → p u ≡ true
            by_test true e g ih = let f : u ≡ x = cc in ap p f ∙ e
            by_test false e g ih = ih g

    made_earns : All (λ q. joined (made file v w q) w ≡ true → EarnsIt (made file v w q)) (filter (rewards file) (edges_named v w))
    made_earns =
        All-weaker (λ q. (filter (λ p. same_place p q) (placed_edges w) ≡ q ∷ []) × (((el : Element) → (el.number ≡ w.number → ⊥) → All (λ p. serves file (made file v w q) p ≡ names v p) (placed_edges el))))
        (λ q. joined (made file v w q) w ≡ true → EarnsIt (made file v w q))
        (λ q h j. earns_it (made file v w q) (paid q) j h.1 (made_pays q h.0) refl)
        (filter (rewards file) (edges_named v w))
        (λ k d l. (
          All-filter (rewards file) (λ q. filter (λ p. same_place p q) (placed_edges w) ≡ q ∷ []) (edges_named v w)
              (All-filter (names v) (λ q. filter (λ p. same_place p q) (placed_edges w) ≡ q ∷ []) (placed_edges w) (own_place w 0 (edges_of w))) k d l,
          λ el n. made_other file v el w n k d l,
        ))

    all_earn : All EarnsIt (targets_by file v (Some w))
    all_earn =
        with_joined (subst (λ o. All (λ t. joined t w ≡ true) (targets_by file v o)) found writer_joins)
      where
        any_plain : Bool
        any_plain = list_any (λ p. not (rewards file p)) (edges_named v w)

        if_any : (b : Bool) → All (λ t. joined t w ≡ true) (only_if b (plain file v (Some w.number))) → All EarnsIt (only_if b (plain file v (Some w.number)))
        if_any true h =
            All-cons EarnsIt (plain file v (Some w.number)) []
            (earns_it (plain file v (Some w.number)) [] (All-head (λ t. joined t w ≡ true) (plain file v (Some w.number)) [] h) (λ el n. plain_other file v el w n) plain_pays refl)
            (All-nil EarnsIt)
        if_any false h = All-nil EarnsIt

        with_joined : All (λ t. joined t w ≡ true) (targets_by file v (Some w)) → All EarnsIt (targets_by file v (Some w))
        with_joined h =
            All-append EarnsIt (made_targets file v w) (only_if any_plain (plain file v (Some w.number)))
            (All-map EarnsIt (made file v w) (filter (rewards file) (edges_named v w))
            (λ k d l. made_earns k d l (All-unmap (λ t. joined t w ≡ true) (made file v w) (filter (rewards file) (edges_named v w)) (All-front (λ t. joined t w ≡ true) (made_targets file v w) (only_if any_plain (plain file v (Some w.number))) h) k d l)))
            (if_any any_plain (All-back (λ t. joined t w ≡ true) (made_targets file v w) (only_if any_plain (plain file v (Some w.number))) h))

  -- ---- all targets
  vector_earns : (v : Vector) → HasOneWriter file v → All EarnsIt (vector_targets file v)
  vector_earns v one = by_writer (reward_writer file v) refl
    where
      by_writer : (o : Option Element) → reward_writer file v ≡ o → All EarnsIt (targets_by file v o)
      by_writer None e = no_writer v e
      by_writer (Some w) e = all_earn v w e (one w e)

  silent_earns : All EarnsIt (silent_targets file)
  silent_earns =
      All-flat_map EarnsIt (λ el. map silently (filter (λ p. is_silent p && rewards file p) (placed_edges el))) (elements file)
      (λ i a m.
      let el = get_or (elements file) i a in
      let test = λ (p : Placed). is_silent p && rewards file p in
      All-map EarnsIt silently (filter test (placed_edges el))
      (All-filter test (λ q. EarnsIt (silently q)) (placed_edges el)
      (λ k d l.
      let q = get_or (placed_edges el) k d in
      subst (λ ls. All (λ ps. flat_map paid ps ≡ paid q) (one_of_each ls)) (sym (lists_silent file acts seen i a m k d l)) (alone q (runs q)))))
    where
      alone : (q : Placed) (b : Bool) → All (λ ps. flat_map paid ps ≡ paid q) (one_of_each (cond b (q ∷ []) [] ∷ []))
      alone q true = All-cons (λ ps. flat_map paid ps ≡ paid q) (q ∷ []) [] (append-nil (paid q)) (All-nil (λ ps. flat_map paid ps ≡ paid q))
      alone q false = All-nil (λ ps. flat_map paid ps ≡ paid q)

  -- Each way through the edges that serve a target earns what its edge pays.
  pub targets_earn : All (HasOneWriter file) file.vectors → All EarnsIt (targets file)
  targets_earn h =
      All-append EarnsIt (flat_map (vector_targets file) file.vectors) (silent_targets file)
      (All-flat_map EarnsIt (vector_targets file) file.vectors (λ i a m. vector_earns (get_or file.vectors i a) (h i a m))) silent_earns
