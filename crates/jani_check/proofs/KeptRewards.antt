-- Rewards that are kept once, where one destination assigns some of them again.
use Rattle.std.specs.Prelude.{ℕ, ◌<◌, ◌+◌, List, [], ◌∷◌, ◌++◌, map, length, drop, Bool, true, false, not, ◌&&◌, ◌||◌, Option, Some, None, bytes_eq, if◌then◌else◌}
use Rattle.std.specs.List.{list_any}
use Rattle.std.specs.Option.{option_or}
use Rattle.std.proofs.Common.{◌≡◌, refl, sym, ap, ap₂, ◌∙◌, get_or, append_assoc, subst}
use Rattle.std.proofs.Math.Path.{fun_ext}
use Rattle.std.proofs.lemmas.Bool.{and_parts}
use Rattle.std.proofs.lemmas.List.Folds.{list_any-append}
use Rattle.std.proofs.lemmas.Option.{same_Some}
use Rattle.std.proofs.lemmas.Slice.Eq.{bytes_eq-Decides}
use Rattle.basics.specs.Booleans.{first_false, second_false}
use Rattle.basics.specs.Lists.{drop_item}
use Rattle.basics.specs.Options.{if_some}
use Rattle.jani_tree.specs.Syntax.{Expression, Write, Destination}
use Rattle.name_rules.specs.Names.{Name}
use Rattle.jani_check.specs.Things.{is_reward}
use Rattle.jani_check.specs.declared.things.Thing.{Thing}
use Rattle.jani_check.specs.Assigned.{unlike}
use Rattle.jani_check.specs.ProfileFaults.{same_tree, value_for, rewards_by, lacks, differ}
use Rattle.jani_check.proofs.SameRewards.{same_trans, not_lacking, lacking}

-- values that lack none of those that are kept lack nothing of what was seen
abbrev pub Tell : List Write → (Name → Option Expression) → Type 0
Tell kept seen = (values : Name → Option Expression) → list_any (lacks values) kept ≡ false → (w : Write) → lacks seen w ≡ false → lacks values w ≡ false

-- one more that is kept and seen
tell_more : (old new : Name → Option Expression) (kept : List Write) (w : Write) → Tell kept old →
    ((x : Name) → new x ≡ option_or (old x) (if bytes_eq w.target.name x then Some w.value else None)) → Tell (kept ++ w ∷ []) new
tell_more old new kept w told put = λ values h u k. by_old values (sym (list_any-append (lacks values) kept (w ∷ [])) ∙ h) u k (old u.target.name) refl
  where
    by_old : (values : Name → Option Expression) → (list_any (lacks values) kept || (lacks values w || false)) ≡ false → (u : Write) → lacks new u ≡ false → (o : Option Expression) →
        old u.target.name ≡ o → lacks values u ≡ false
    by_old values h u k (Some v) e =
        let same = e ∙ sym (put u.target.name ∙ ap (λ o. option_or o (if bytes_eq w.target.name u.target.name then Some w.value else None)) e) in
        told values (first_false (list_any (lacks values) kept) (lacks values w || false) h) u (ap (λ o. not (list_any (same_tree u.value) (if_some o))) same ∙ k)
    by_old values h u k None e = by_test (bytes_eq w.target.name u.target.name) refl
      where
        own : (b : Bool) → bytes_eq w.target.name u.target.name ≡ b → new u.target.name ≡ (if b then Some w.value else None)
        own b t = put u.target.name ∙ ap₂ (λ o c. option_or o (if c then Some w.value else None)) e t

        by_test : (b : Bool) → bytes_eq w.target.name u.target.name ≡ b → lacks values u ≡ false
        by_test false t = absurd (let e : lacks new u ≡ true = ap (λ o. not (list_any (same_tree u.value) (if_some o))) (own false t) in cc)
        by_test true t =
            let v = not_lacking new u k in
            let n = not_lacking values w (first_false (lacks values w) false (second_false (list_any (lacks values) kept) (lacks values w || false) h)) in
            let one = same_Some v.0 w.value (sym v.1 ∙ own true t) in
            lacking values u n.0 (ap values (sym ((bytes_eq-Decides w.target.name u.target.name).0 t)) ∙ n.1)
            (same_trans u.value w.value n.0 (ap (same_tree u.value) (sym one) ∙ v.2) n.2)

-- one that was seen adds nothing to those that are kept
seen_again : (seen values : Name → Option Expression) (kept rest : List Write) (w : Write) → Tell kept seen → lacks seen w ≡ false →
    list_any (lacks values) (kept ++ rest) ≡ list_any (lacks values) (kept ++ w ∷ rest)
seen_again seen values kept rest w told k =
    list_any-append (lacks values) kept rest ∙ by_kept (list_any (lacks values) kept) refl ∙ sym (list_any-append (lacks values) kept (w ∷ rest))
  where
    by_kept : (b : Bool) → list_any (lacks values) kept ≡ b →
        (list_any (lacks values) kept || list_any (lacks values) rest) ≡ (list_any (lacks values) kept || (lacks values w || list_any (lacks values) rest))
    by_kept true e = ap (λ c. c || list_any (lacks values) rest) e ∙ sym (ap (λ c. c || (lacks values w || list_any (lacks values) rest)) e)
    by_kept false e = ap (λ c. list_any (lacks values) kept || (c || list_any (lacks values) rest)) (sym (told values e w k))

-- of all assignments some are kept and seen, and some are left: these have the rewards of all
abbrev pub Kept : (Name → Option Thing) → List Write → List Write → List Write → (Name → Option Expression) → Type 0
Kept things all left kept seen =
    Tell kept seen
    × ((values : Name → Option Expression) → list_any (lacks values) (kept ++ rewards_by things left) ≡ list_any (lacks values) (rewards_by things all))

-- a reward that is kept
kept_too : (things : Name → Option Thing) (all left kept : List Write) (w : Write) (old new : Name → Option Expression) → is_reward (things w.target.name) ≡ true →
    ((x : Name) → new x ≡ option_or (old x) (if bytes_eq w.target.name x then Some w.value else None)) → Kept things all (w ∷ left) kept old → Kept things all left (kept ++ w ∷ []) new
kept_too things all left kept w old new reward put so_far =
    let rest = rewards_by things left in (
      tell_more old new kept w so_far.0 put,
      λ values.
          ap (list_any (lacks values))
          (append_assoc kept (w ∷ []) rest ∙ ap (λ b. kept ++ (if b then w ∷ rest else rest)) (sym reward))
          ∙ so_far.1 values,
    )

-- what is no reward, or was seen
out : (things : Name → Option Thing) (all left kept : List Write) (w : Write) (seen : Name → Option Expression) → (is_reward (things w.target.name) && lacks seen w) ≡ false →
    Kept things all (w ∷ left) kept seen → Kept things all left kept seen
out things all left kept w seen old so_far = (so_far.0, λ values. by_test values (is_reward (things w.target.name)) old ∙ so_far.1 values)
  where
    rest : List Write
    rest = rewards_by things left

    by_test : (values : Name → Option Expression) (b : Bool) → (b && lacks seen w) ≡ false →
        list_any (lacks values) (kept ++ rest) ≡ list_any (lacks values) (kept ++ (if b then w ∷ rest else rest))
    by_test values true k = seen_again seen values kept rest w so_far.0 k
    by_test values false k = refl

-- ---- one of a list
module _ {D : Type 0} (things : Name → Option Thing) (s : D → Write) (xs : List D) (i : ℕ) (x : D) (h : i < length xs) (is : x ≡ get_or xs i x) where
  at_first : (kept : List Write) (seen : Name → Option Expression) → Kept things (map s xs) (map s (drop i xs)) kept seen →
      Kept things (map s xs) (s x ∷ map s (drop (i + 1) xs)) kept seen
  at_first kept seen so_far = subst (λ l. Kept things (map s xs) (map s l) kept seen) (drop_item xs i x h is) so_far

  pub one_kept : (kept more : List Write) (old new : Name → Option Expression) (b : Bool) → (is_reward (things (s x).target.name) && b) ≡ true → more ≡ kept ++ s x ∷ [] →
      ((y : Name) → new y ≡ option_or (old y) (if bytes_eq (s x).target.name y then Some (s x).value else None)) →
      Kept things (map s xs) (map s (drop i xs)) kept old → Kept things (map s xs) (map s (drop (i + 1) xs)) more new
  one_kept kept more old new b wanted pushed put so_far =
      subst (λ l. Kept things (map s xs) (map s (drop (i + 1) xs)) l new) (sym pushed)
      (kept_too things (map s xs) (map s (drop (i + 1) xs)) kept (s x) old new (and_parts (is_reward (things (s x).target.name)) b wanted).0 put (at_first kept old so_far))

  pub one_out : (kept : List Write) (seen : Name → Option Expression) → (is_reward (things (s x).target.name) && lacks seen (s x)) ≡ false →
      Kept things (map s xs) (map s (drop i xs)) kept seen → Kept things (map s xs) (map s (drop (i + 1) xs)) kept seen
  one_out kept seen old so_far = out things (map s xs) (map s (drop (i + 1) xs)) kept (s x) seen old (at_first kept seen so_far)

-- ---- destinations beside the first, by what is kept of it
pub by_first : (things : Name → Option Thing) (kept : List Write) (values : Name → Option Expression) (first : Destination) →
    ((v : Name → Option Expression) → list_any (lacks v) kept ≡ list_any (lacks v) (rewards_by things first.writes)) → ((x : Name) → values x ≡ value_for first.writes x) →
    (ds : List Destination) → list_any (unlike things kept values) ds ≡ list_any (differ things first) ds
by_first things kept values first all own ds =
    ap (λ p. list_any p ds)
    (fun_ext (λ d. ap₂ (λ b c. b || c) (all (value_for d.writes)) (ap (λ v. list_any (lacks v) (rewards_by things d.writes)) (fun_ext own))))
