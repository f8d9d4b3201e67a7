-- What a network computes in a state tells of combinations what its groups do, trimmed.
use Rattle.std.proofs.Common.{◌≡◌, ◌∙◌, ℕ, suc, ◌+◌, List, [], ◌∷◌, ◌++◌, map, Option, Some, None, Vec, Global, slice_get, if◌then◌else◌, refl, sym, ap, ap₂, arith}
use Rattle.std.specs.List.{list_any}
use Rattle.std.specs.Option.{option_map}
use Rattle.std.proofs.lemmas.List.{map-append}
use Rattle.std.proofs.lemmas.List.Concat.{flat_map-append}
use Rattle.basics.specs.Mapped.{mapped}
use Rattle.op_trees.specs.Meaning.{Meaning}
use Rattle.op_trees.specs.Seen.{Seen}
use Rattle.process_core.specs.Bounds as bounds
use Rattle.process_core.specs.Choices as core
use Rattle.process_core.specs.Instance.{numbered}
use Rattle.process_core.specs.Product.{map-map, one_of_each}
use Rattle.process_core.specs.Ready.{Combination, Name, Ready, Sum, Values}
use Rattle.process_core.specs.Steps.{Process}
use Rattle.state_choices.specs.Grouped.{AreGroupsAt}
use Rattle.state_choices.specs.Groups.{Group, of_group, of_groups}
use Rattle.state_choices.specs.Trimmed.{trimmed, trimmed_combination, trimmed_group, trimmed_sum}
use Rattle.state_choices.proofs.AtGroups.{trimmed_at}
use Rattle.expr_store.specs.declared.node.ExprId.{ExprId}
use Rattle.network.specs.Computed.{component_seen, grouped, own_seen, rewards_for, sums_seen, vectors_of}
use Rattle.network.specs.Network.{IsEvaluated, setting_in, told}
use Rattle.network.specs.Spared.{is_closed}
use Rattle.network.specs.Views.{Member, columns_of, component_at, look_at, own_or, part_at, silent_group, sums_at, vector_group}
use Rattle.network.specs.declared.data.Earned.{Earned}
use Rattle.network.specs.declared.data.Vector.{Vector}
use Rattle.network.specs.declared.network.Network.{Network}
use Rattle.network.proofs.Kept.{component_kept, part_kept, trimmed_member}
use Rattle.network.proofs.Sparing.{group_alike, groups_alike}

-- ---- rewards of each vector, by the numbers of vectors
numbered_at : (f : Option (Option (List Sum)) → Vector → Group) (own all : List (Option (List Sum))) (vs : List Vector) (g : Vector → Option (List Sum)) (i : ℕ) →
    ((j : ℕ) → slice_get all (i + j) ≡ slice_get own j) → own ≡ map g vs → numbered (λ k v. f (slice_get all k) v ∷ []) i vs ≡ map (λ v. f (Some (g v)) v) vs
numbered_at f own all [] g i at e = refl
numbered_at f own all (v ∷ vs) g i at e =
    ap₂ (λ o l. f o v ∷ l) (ap (slice_get all) (let d : i ≡ i + 0 = omega arith in d) ∙ at 0 ∙ ap (λ l. slice_get l 0) e)
    (numbered_at f (map g vs) all vs g (i + 1)
    (λ j. ap (slice_get all) (let d : i + 1 + j ≡ i + suc j = omega arith in d) ∙ at (suc j) ∙ ap (λ l. slice_get l (suc j)) e) refl)

vectors_are : (shared : List Sum) (ms : List Member) (g : Vector → Option (List Sum)) (vs : List Vector) →
    vectors_of shared (map g vs) ms 0 vs ≡ map (λ v. vector_group ms (rewards_for shared (Some (g v))) v) vs
vectors_are shared ms g vs =
    numbered_at (λ o v. vector_group ms (rewards_for shared o) v) (map g vs) (map g vs) vs g 0 (λ j. ap (slice_get (map g vs)) (let d : 0 + j ≡ j = omega arith in d)) refl

same_lists : (l : Option Name) (r : List Sum) (m n : List (List Ready)) → m ≡ n → ◌≡◌ {A = Group} (record { label = l; rewards = r; lists = m }) (record { label = l; rewards = r; lists = n })
same_lists l r m n e = cc

module _ (look : ExprId → Seen) (n : ℕ) (s : Values) where
  one_vector : (o : Option (Vec Earned Global)) (l : Option Name) (lists : List (List Ready)) (shared : List Sum) →
      map (told s) (of_group (record { label = l; rewards = rewards_for (map trimmed_sum shared) (Some (option_map (λ es. if list_any is_closed lists then [] else sums_seen look n es.items) o)); lists = lists }))
      ≡ map (told s) (of_group (record { label = l; rewards = map trimmed_sum (own_or (sums_at look n) shared o); lists = lists }))
  one_vector None l lists shared = refl
  one_vector (Some es) l lists shared = group_alike s (record { label = l; rewards = sums_seen look n es.items; lists = lists })

  vector_told : (ms : List Member) (shared : List Sum) (v : Vector) →
      map (told s) (of_group (vector_group (map trimmed_member ms) (rewards_for (map trimmed_sum shared) (Some (own_seen look n (map trimmed_member ms) v))) v))
      ≡ map (told s) (of_group (trimmed_group (vector_group ms (own_or (sums_at look n) shared v.earned) v)))
  vector_told ms shared v =
      one_vector v.earned _ (map (part_at (map trimmed_member ms)) v.links.items) shared
      ∙ ap (λ g. map (told s) (of_group g))
      (same_lists _ (map trimmed_sum (own_or (sums_at look n) shared v.earned)) _ _ (sym (mapped (part_at ms) (map trimmed) (part_at (map trimmed_member ms)) (part_kept ms) v.links.items)))

  grouped_told : (ms : List Member) (silent : List Earned) (vs : List Vector) →
      map (told s) (of_groups (grouped (sums_seen look n silent) (map (own_seen look n (map trimmed_member ms)) vs) (map trimmed_member ms) vs))
      ≡ map (told s) (of_groups (map trimmed_group (map (silent_group (sums_at look n silent)) ms ++ map (λ v. vector_group ms (own_or (sums_at look n) (sums_at look n silent) v.earned) v) vs)))
  grouped_told ms silent vs =
      let shared = sums_at look n silent in
      let f = λ (v : Vector). vector_group (map trimmed_member ms) (rewards_for (map trimmed_sum shared) (Some (own_seen look n (map trimmed_member ms) v))) v in
      let g = λ (v : Vector). vector_group ms (own_or (sums_at look n) shared v.earned) v in
      ap (λ l. map (told s) (of_groups (map (silent_group (map trimmed_sum shared)) (map trimmed_member ms) ++ l))) (vectors_are (map trimmed_sum shared) (map trimmed_member ms) (own_seen look n (map trimmed_member ms)) vs)
      ∙ ap (map (told s)) (flat_map-append of_group (map (silent_group (map trimmed_sum shared)) (map trimmed_member ms)) (map f vs))
      ∙ map-append (told s) (of_groups (map (silent_group (map trimmed_sum shared)) (map trimmed_member ms))) (of_groups (map f vs))
      ∙ ap₂ (λ a b. a ++ b)
      (ap (λ l. map (told s) (of_groups l)) (map-map (silent_group (map trimmed_sum shared)) trimmed_member ms ∙ sym (map-map trimmed_group (silent_group shared) ms)))
      (groups_alike s f (λ v. trimmed_group (g v)) (vector_told ms shared) vs ∙ ap (λ l. map (told s) (of_groups l)) (sym (map-map trimmed_group g vs)))
      ∙ sym (map-append (told s) (of_groups (map trimmed_group (map (silent_group shared) ms))) (of_groups (map trimmed_group (map g vs))))
      ∙ ap (map (told s)) (sym (flat_map-append of_group (map trimmed_group (map (silent_group shared) ms)) (map trimmed_group (map g vs))))
      ∙ ap (λ l. map (told s) (of_groups l)) (sym (map-append trimmed_group (map (silent_group shared) ms) (map g vs)))

pub evaluated_is : {O : Type 0} (m : Meaning O) (n : Network O) (s : Values) (shared : List Sum) (own : List (Option (List Sum))) (ms : List Member) →
    ms ≡ map (component_seen m (setting_in n s)) n.components.items → shared ≡ sums_seen (look_at m (setting_in n s)) n.rewards n.silent.items →
    own ≡ map (own_seen (look_at m (setting_in n s)) n.rewards ms) n.vectors.items → IsEvaluated m n s (grouped shared own ms n.vectors.items)
evaluated_is m n s shared own ms members rewards owned =
    let k = setting_in n s in
    let look = look_at m k in
    let plain = map (component_at (columns_of k) look s) n.components.items in
    let kept : ms ≡ map trimmed_member plain = members ∙ sym (mapped (component_at (columns_of k) look s) trimmed_member (component_seen m k) (λ c. sym (component_kept m k c)) n.components.items) in record {
      told_alike =
          ap₂ (λ a b. map (told s) (of_groups (grouped a b ms n.vectors.items))) rewards owned
          ∙ ap (λ l. map (told s) (of_groups (grouped (sums_seen look n.rewards n.silent.items) (map (own_seen look n.rewards l) n.vectors.items) l n.vectors.items))) kept
          ∙ grouped_told look n.rewards s plain n.silent.items n.vectors.items;
    }

-- ---- combinations of a process, as groups
abbrev single : Combination → Group
single c = record { label = c.label; rewards = c.rewards; lists = map (λ r. r ∷ []) c.participants }

one_single : (rs : List Ready) → one_of_each (map (λ r. r ∷ []) rs) ≡ rs ∷ []
one_single [] = refl
one_single (r ∷ rs) = ap (λ l. map (λ q. r ∷ q) l ++ []) (one_single rs)

singles : (cs : List Combination) → of_groups (map single cs) ≡ cs
singles [] = refl
singles (c ∷ cs) = ap₂ (λ a b. map (λ rs. record { label = c.label; rewards = c.rewards; participants = rs }) a ++ b) (one_single c.participants) (singles cs)

trimmed_single : (c : Combination) → trimmed_group (single c) ≡ single (trimmed_combination c)
trimmed_single c =
    same_lists c.label (map trimmed_sum c.rewards) _ _ (map-map (map trimmed) (λ r. r ∷ []) c.participants ∙ sym (map-map (λ r. r ∷ []) trimmed c.participants))

-- groups are a process's own where they have its combinations, trimmed
pub combined_at : (p : Process) (s : Values) (cs : List Combination) (hs : List Group) → of_groups hs ≡ map trimmed_combination cs → bounds.excess cs ≡ p.excess s → core.choices s cs ≡ p.choices s → AreGroupsAt p s hs
combined_at p s cs hs e x c =
    let gs = map single cs in
    let there = trimmed_at p s gs (map trimmed_group gs) cs refl (singles cs) x c in
    let same = e ∙ sym (singles (map trimmed_combination cs)) ∙ ap of_groups (map-map single trimmed_combination cs ∙ sym (mapped single trimmed_group (λ d. single (trimmed_combination d)) trimmed_single cs)) in record {
      excess = ap bounds.excess same ∙ there.excess;
      choices = λ n. ap (core.choices s) same ∙ there.choices n;
    }
