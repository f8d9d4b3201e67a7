-- Trimming changes nothing where nothing is wide.
use Rattle.std.proofs.Common.{◌≡◌, List, [], ◌∷◌, map, Bool, true, false, not, ◌||◌, ◌&&◌, if◌then◌else◌, None, refl, sym, ap, ap₂, ◌∙◌}
use Rattle.std.specs.List.{list_any}
use Rattle.std.proofs.lemmas.Bool.{or_parts}
use Rattle.basics.specs.Members.{any-map, any_agree}
use Rattle.op_trees.specs.Seen.{Seen}
use Rattle.process_core.specs.Ready.{Write, Reward, Update, Ready, Sum}
use Rattle.process_core.specs.Choices.{is_false, weights_of}
use Rattle.process_core.specs.Bounds.{has_wide_part, has_wide_sum, if_all, is_wide_participant}
use Rattle.state_choices.specs.Trimmed.{trimmed_seen, trimmed_sum, trimmed_write, trimmed_reward, trimmed_update, trimmed}

-- ---- narrow parts stay

pub narrow_seen : (s : Seen) → s.wide ≡ false → trimmed_seen s ≡ s
narrow_seen s h = ap (λ b. record { value = if b then None else s.value; wide = s.wide }) h

pub narrow_sum : (m : Sum) → m.wide ≡ false → trimmed_sum m ≡ m
narrow_sum m h = ap (λ b. record { value = if b then None else m.value; wide = m.wide }) h

narrow_write : (w : Write) → w.value.wide ≡ false → trimmed_write w ≡ w
narrow_write w h = ap₂ (λ s b. record { column = w.column; value = s; fits = not b && w.fits }) (narrow_seen w.value h) h

narrow_reward : (r : Reward) → r.value.wide ≡ false → trimmed_reward r ≡ r
narrow_reward r h = ap (λ s. record { structure = r.structure; value = s }) (narrow_seen r.value h)

-- a list none of whose members is wide
pub kept : {A : Type 0} (wide : A → Bool) (f : A → A) → ((x : A) → wide x ≡ false → f x ≡ x) → (xs : List A) → list_any wide xs ≡ false → map f xs ≡ xs
kept wide f h [] k = refl
kept wide f h (x ∷ xs) k = let p = or_parts (wide x) (list_any wide xs) k in ap₂ (λ a b. a ∷ b) (h x p.0) (kept wide f h xs p.1)

narrow_update : (u : Update) → has_wide_part u ≡ false → trimmed_update u ≡ u
narrow_update u h =
    let p = or_parts u.weight.wide _ h in
    let q = or_parts (list_any (λ w. w.value.wide) u.writes) (list_any (λ r. r.value.wide) u.rewards) p.1 in
    ap (λ s. record { weight = s; writes = map trimmed_write u.writes; rewards = map trimmed_reward u.rewards }) (narrow_seen u.weight p.0)
    ∙ ap₂ (λ ws rs. record { weight = u.weight; writes = ws; rewards = rs }) (kept (λ w. w.value.wide) trimmed_write narrow_write u.writes q.0) (kept (λ r. r.value.wide) trimmed_reward narrow_reward u.rewards q.1)

-- ---- what is wide stays wide
wide_part_trimmed : (u : Update) → has_wide_part (trimmed_update u) ≡ has_wide_part u
wide_part_trimmed u =
    ap₂ (λ a b. u.weight.wide || (a || b)) (any-map (λ (w : Write). w.value.wide) trimmed_write u.writes) (any-map (λ (r : Reward). r.value.wide) trimmed_reward u.rewards)

-- ---- a command whose guard is neither wide nor false
pub record IsOpen (r : Ready) : Type 0 where
  pub narrow : r.guard.wide ≡ false
  pub may_hold : is_false r.guard.value ≡ false

module _ (r : Ready) (h : IsOpen r) where
  pub updates_trimmed : (trimmed r).updates ≡ map trimmed_update r.updates
  updates_trimmed = ap₂ (λ a b. if not a && b then [] else map trimmed_update r.updates) h.narrow h.may_hold

  wide_updates_trimmed : list_any has_wide_part (trimmed r).updates ≡ list_any has_wide_part r.updates
  wide_updates_trimmed = ap (list_any has_wide_part) updates_trimmed ∙ any-map has_wide_part trimmed_update r.updates ∙ any_agree _ _ wide_part_trimmed r.updates

  pub narrow_updates : list_any has_wide_part r.updates ≡ false → (trimmed r).updates ≡ r.updates
  narrow_updates k = updates_trimmed ∙ kept has_wide_part trimmed_update narrow_update r.updates k

  pub wide_participant_trimmed : is_wide_participant (trimmed r) ≡ is_wide_participant r
  wide_participant_trimmed = by_parts (list_any has_wide_part r.updates) refl
    where
      by_parts : (b : Bool) → list_any has_wide_part r.updates ≡ b → is_wide_participant (trimmed r) ≡ is_wide_participant r
      by_parts true k =
          ap (λ a. a || if_all (weights_of (trimmed r).updates) has_wide_sum) (wide_updates_trimmed ∙ k)
          ∙ sym (ap (λ a. a || if_all (weights_of r.updates) has_wide_sum) k)
      by_parts false k = ap (λ us. list_any has_wide_part us || if_all (weights_of us) has_wide_sum) (narrow_updates k)
