-- The groups of a network are those of modules by their alphabets and of elements by vectors, where its members and links are theirs.
use Rattle.std.proofs.Common.{◌≡◌, ◌∙◌, ℕ, ◌+◌, suc, List, [], ◌∷◌, ◌++◌, map, Bool, true, false, not, ◌||◌, Option, Some, None, slice_get, if◌then◌else◌, refl, sym, ap, ap₂, arith}
use Rattle.std.specs.Prelude.{bytes_eq, unwrap_or}
use Rattle.std.specs.List.{All, filter, list_any, position_or_len}
use Rattle.std.proofs.lemmas.List.{map-append}
use Rattle.std.proofs.lemmas.List.Elements.{All-head, All-tail}
use Rattle.std.proofs.lemmas.List.Folds.{flat_map-map}
use Rattle.std.proofs.lemmas.Slice.Eq.{bytes_eq-Decides}
use Rattle.basics.specs.Mapped.{mapped}
use Rattle.process_core.specs.Product.{flat_map_agree, map-flat_map, map-map, one_of_each, one_of_each-map}
use Rattle.process_core.specs.Ready.{Name, Ready, Sum, Vector, actions_of, has_action, of_elements, of_modules, sharing, taking}
use Rattle.state_choices.specs.Groups.{Group, element_groups, module_groups, of_group, of_groups}
use Rattle.state_choices.specs.Groups as core
use Rattle.state_choices.specs.Trimmed.{trimmed, trimmed_combination, trimmed_group, trimmed_sum}
use Rattle.state_choices.proofs.GroupLaws.{group_laws}
use Rattle.network.specs.Combined.{Covers, Site, element_links, erased, link_to, member_by, module_links}
use Rattle.network.specs.Views.{Member, part_at, part_of, silent_group}

-- ---- (state_choices has these two for itself)
group_trimmed : (g : Group) → of_group (trimmed_group g) ≡ map trimmed_combination (of_group g)
group_trimmed g =
    ap (map (λ rs. record { label = g.label; rewards = map trimmed_sum g.rewards; participants = rs })) (one_of_each-map trimmed g.lists)
    ∙ map-map (λ rs. record { label = g.label; rewards = map trimmed_sum g.rewards; participants = rs }) (map trimmed) (one_of_each g.lists)
    ∙ sym (map-map trimmed_combination (λ rs. record { label = g.label; rewards = g.rewards; participants = rs }) (one_of_each g.lists))

groups_trimmed : (gs : List Group) → of_groups (map trimmed_group gs) ≡ map trimmed_combination (of_groups gs)
groups_trimmed gs = flat_map-map of_group trimmed_group gs ∙ flat_map_agree _ _ group_trimmed gs ∙ sym (map-flat_map trimmed_combination of_group gs)

none_filtered : {X : Type 0} (p : X → Bool) (xs : List X) → list_any p xs ≡ false → filter p xs ≡ []
none_filtered p [] h = refl
none_filtered p (x ∷ xs) h = by_test (p x) h (none_filtered p xs)
  where
    by_test : (b : Bool) → (b || list_any p xs) ≡ false → (list_any p xs ≡ false → filter p xs ≡ []) → (if b then x ∷ filter p xs else filter p xs) ≡ []
    by_test true k ih = absurd cc
    by_test false k ih = ih k

-- what stands at the place of a name, if it stands anywhere
part_is : (F : Name → List Ready) (l : List Name) (x : Name) → (list_any (bytes_eq x) l ≡ false → F x ≡ []) → unwrap_or (slice_get (map F l) (position_or_len (bytes_eq x) l)) [] ≡ F x
part_is F [] x h = sym (h refl)
part_is F (y ∷ l) x h = by_test (bytes_eq x y) refl (part_is F l x) h
  where
    by_test : (b : Bool) → bytes_eq x y ≡ b → ((list_any (bytes_eq x) l ≡ false → F x ≡ []) → unwrap_or (slice_get (map F l) (position_or_len (bytes_eq x) l)) [] ≡ F x) → ((b || list_any (bytes_eq x) l) ≡ false → F x ≡ []) →
        unwrap_or (slice_get (F y ∷ map F l) (if not b then 1 + position_or_len (bytes_eq x) l else 0)) [] ≡ F x
    by_test true e ih g = ap F (sym ((bytes_eq-Decides x y).0 e))
    by_test false e ih g = ap (λ n. unwrap_or (slice_get (F y ∷ map F l) n) []) (let d : 1 + position_or_len (bytes_eq x) l ≡ suc (position_or_len (bytes_eq x) l) = omega arith in d) ∙ ih g

-- the part of a member that a link leads to
linked : (all : List Member) (i : ℕ) (a : Name) (x : Site) → Covers x → slice_get all i ≡ Some (member_by x) → part_at all (link_to i a x) ≡ map erased (filter (has_action (Some a)) x.edges)
linked all i a x c e =
    ap (λ o. part_of o (position_or_len (bytes_eq a) x.acts)) e
    ∙ part_is (λ b. map erased (filter (has_action (Some b)) x.edges)) x.acts a (λ h. ap (map erased) (none_filtered (has_action (Some a)) x.edges (c.covers a h)))

first_at : {X : Type 0} (all : List X) (i : ℕ) (x : X) (xs : List X) → ((k : ℕ) → slice_get all (i + k) ≡ slice_get (x ∷ xs) k) → slice_get all i ≡ Some x
first_at all i x xs h = ap (slice_get all) (let d : i ≡ i + 0 = omega arith in d) ∙ h 0

later : {X : Type 0} (all : List X) (i : ℕ) (x : X) (xs : List X) → ((k : ℕ) → slice_get all (i + k) ≡ slice_get (x ∷ xs) k) → (k : ℕ) → slice_get all (i + 1 + k) ≡ slice_get xs k
later all i x xs h k = ap (slice_get all) (let d : i + 1 + k ≡ i + suc k = omega arith in d) ∙ h (suc k)

edges_of : List Site → List (List Ready)
edges_of xs = map (λ x. x.edges) xs

-- ---- modules
shared_at : (a : Name) (all : List Member) (i : ℕ) (xs : List Site) → All Covers xs → ((k : ℕ) → slice_get all (i + k) ≡ slice_get (map member_by xs) k) →
    map (part_at all) (module_links a i xs) ≡ map (map erased) (sharing a (map (λ x. x.edges) xs))
shared_at a all i [] c h = refl
shared_at a all i (x ∷ xs) c h =
    by_test (list_any (has_action (Some a)) x.edges) (shared_at a all (i + 1) xs (All-tail Covers x xs c) (later all i (member_by x) (map member_by xs) h))
    (linked all i a x (All-head Covers x xs c) (first_at all i (member_by x) (map member_by xs) h))
  where
    by_test : (b : Bool) → map (part_at all) (module_links a (i + 1) xs) ≡ map (map erased) (sharing a (map (λ x. x.edges) xs)) →
        part_at all (link_to i a x) ≡ map erased (filter (has_action (Some a)) x.edges) →
        map (part_at all) ((if b then link_to i a x ∷ [] else []) ++ module_links a (i + 1) xs)
        ≡ map (map erased) (map (filter (has_action (Some a))) (if b then x.edges ∷ filter (list_any (has_action (Some a))) (map (λ x. x.edges) xs) else filter (list_any (has_action (Some a))) (map (λ x. x.edges) xs)))
    by_test true ih e = ap₂ (λ p l. p ∷ l) e ih
    by_test false ih e = ih

-- ---- elements
taken_at : (ps : List (Option Name)) (all : List Member) (i : ℕ) (xs : List Site) → All Covers xs → ((k : ℕ) → slice_get all (i + k) ≡ slice_get (map member_by xs) k) →
    map (part_at all) (element_links i ps xs) ≡ map (map erased) (taking ps (map (λ x. x.edges) xs))
taken_at [] all i xs c h = refl
taken_at (p ∷ ps) all i [] c h = refl
taken_at (None ∷ ps) all i (x ∷ xs) c h = taken_at ps all (i + 1) xs (All-tail Covers x xs c) (later all i (member_by x) (map member_by xs) h)
taken_at (Some a ∷ ps) all i (x ∷ xs) c h =
    ap₂ (λ p l. p ∷ l) (linked all i a x (All-head Covers x xs c) (first_at all i (member_by x) (map member_by xs) h))
    (taken_at ps all (i + 1) xs (All-tail Covers x xs c) (later all i (member_by x) (map member_by xs) h))

-- ---- groups
same_lists : (l : Option Name) (r : List Sum) (m n : List (List Ready)) → m ≡ n → ◌≡◌ {A = Group} (record { label = l; rewards = r; lists = m }) (record { label = l; rewards = r; lists = n })
same_lists l r m n e = cc

-- what is trimmed has no action anyway
trimmed_erased : (l : List (List Ready)) → map (map trimmed) (map (map erased) l) ≡ map (map trimmed) l
trimmed_erased l = mapped (map erased) (map trimmed) (map trimmed) (λ rs. map-map trimmed erased rs) l

silent_is : (rewards : List Sum) (x : Site) → trimmed_group (silent_group rewards (member_by x)) ≡ trimmed_group (core.silent_group rewards x.edges)
silent_is rewards x = same_lists None (map trimmed_sum rewards) _ _ (trimmed_erased (filter (has_action None) x.edges ∷ []))

silents_are : (rewards : List Sum) (xs : List Site) → map trimmed_group (map (silent_group rewards) (map member_by xs)) ≡ map trimmed_group (map (core.silent_group rewards) (map (λ x. x.edges) xs))
silents_are rewards [] = refl
silents_are rewards (x ∷ xs) = ap₂ (λ a b. a ∷ b) (silent_is rewards x) (silents_are rewards xs)

module _ (xs : List Site) (c : All Covers xs) where
  abbrev all : List Member
  all = map member_by xs

  counted : (k : ℕ) → slice_get all (0 + k) ≡ slice_get (map member_by xs) k
  counted k = ap (slice_get all) (let d : 0 + k ≡ k = omega arith in d)

  module _ (rewards : Option Name → List Sum) where
    action_is : (a : Name) → trimmed_group (record { label = Some a; rewards = rewards (Some a); lists = map (part_at all) (module_links a 0 xs) })
        ≡ trimmed_group (record { label = Some a; rewards = rewards (Some a); lists = sharing a (map (λ x. x.edges) xs) })
    action_is a =
        same_lists (Some a) (map trimmed_sum (rewards (Some a))) _ _ (ap (map (map trimmed)) (shared_at a all 0 xs c counted) ∙ trimmed_erased (sharing a (map (λ x. x.edges) xs)))

    -- A vector for each action, linked to the modules that have it.
    pub modules_combined :
        of_groups (map trimmed_group (map (silent_group (rewards None)) all
        ++ map (λ a. record { label = Some a; rewards = rewards (Some a); lists = map (part_at all) (module_links a 0 xs) }) (actions_of (map (λ x. x.edges) xs))))
        ≡ map trimmed_combination (of_modules rewards (map (λ x. x.edges) xs))
    modules_combined =
        let as_ = actions_of (map (λ x. x.edges) xs) in
        let F : Name → Group = λ a. record { label = Some a; rewards = rewards (Some a); lists = map (part_at all) (module_links a 0 xs) } in
        let G : Name → Group = λ a. record { label = Some a; rewards = rewards (Some a); lists = sharing a (map (λ x. x.edges) xs) } in
        ap of_groups (map-append trimmed_group (map (silent_group (rewards None)) all) (map F as_)
        ∙ ap₂ (λ l m. l ++ m) (silents_are (rewards None) xs) (map-map trimmed_group F as_ ∙ sym (mapped G trimmed_group (λ a. trimmed_group (F a)) (λ a. sym (action_is a)) as_))
        ∙ sym (map-append trimmed_group (map (core.silent_group (rewards None)) (map (λ x. x.edges) xs)) (map G as_)))
        ∙ groups_trimmed (module_groups rewards (map (λ x. x.edges) xs))
        ∙ ap (map trimmed_combination) (group_laws.modules rewards (map (λ x. x.edges) xs))

  -- A vector linked to the elements that it names an action for.
  module _ (rewards : List Sum) where
    vector_is : (v : Vector) → trimmed_group (record { label = v.result; rewards = rewards; lists = map (part_at all) (element_links 0 v.parts xs) })
        ≡ trimmed_group (record { label = v.result; rewards = rewards; lists = taking v.parts (map (λ x. x.edges) xs) })
    vector_is v = same_lists v.result (map trimmed_sum rewards) _ _ (ap (map (map trimmed)) (taken_at v.parts all 0 xs c counted) ∙ trimmed_erased (taking v.parts (map (λ x. x.edges) xs)))

    pub elements_combined : (vs : List Vector) →
        of_groups (map trimmed_group (map (silent_group rewards) all ++ map (λ v. record { label = v.result; rewards = rewards; lists = map (part_at all) (element_links 0 v.parts xs) }) vs))
        ≡ map trimmed_combination (of_elements rewards vs (map (λ x. x.edges) xs))
    elements_combined vs =
        let F : Vector → Group = λ v. record { label = v.result; rewards = rewards; lists = map (part_at all) (element_links 0 v.parts xs) } in
        let G : Vector → Group = λ v. record { label = v.result; rewards = rewards; lists = taking v.parts (map (λ x. x.edges) xs) } in
        ap of_groups (map-append trimmed_group (map (silent_group rewards) all) (map F vs)
        ∙ ap₂ (λ l m. l ++ m) (silents_are rewards xs) (map-map trimmed_group F vs ∙ sym (mapped G trimmed_group (λ v. trimmed_group (F v)) (λ v. sym (vector_is v)) vs))
        ∙ sym (map-append trimmed_group (map (core.silent_group rewards) (map (λ x. x.edges) xs)) (map G vs)))
        ∙ groups_trimmed (element_groups rewards vs (map (λ x. x.edges) xs))
        ∙ ap (map trimmed_combination) (group_laws.elements rewards vs (map (λ x. x.edges) xs))
