-- One step along two words.
use Rattle.std.proofs.Common.{◌≡◌, ℕ, ◌%◌, ◌<◌, ◌≢◌, pos_of_ne-zero, List, [], ◌∷◌, map, length, get_or, true, None, Some, Result, Ok, Err, refl, sym, ap, ap₂, subst, ◌∙◌, arith, if◌then◌else◌, option_copied}
use Rattle.std.specs.List.{All, slice_get}
use Rattle.std.specs.Option.{option_map}
use Rattle.std.proofs.lemmas.Option.{slice_get-map, slice_get-get_or}
use Rattle.std.proofs.Math.Nat.{mod-lt}
use Rattle.std.proofs.lemmas.List.{length-map, get_or-map}
use Rattle.rand_core.specs.Stream.{Stream, next_u64}
use Rattle.basics.specs.Members.{all_get}
use Rattle.frac_core.specs.Fraction.{Fraction, nought, unit, same_number}
use Rattle.frac_core.specs.Sums.{total}
use Rattle.process_core.specs.Process.{Branch, Choice, Good}
use Rattle.process_core.specs.Ready.{Values, Name}
use Rattle.state_choices.specs.Open.{open_branch, open_choice, open_outcome, open_target}
use Rattle.state_choices.specs.Views.{sum_of}
use Rattle.state_choices.specs.declared.open.OpenBranch.{OpenBranch}
use Rattle.state_choices.specs.declared.open.OpenChoice.{OpenChoice}
use Rattle.state_choices.specs.declared.open.OpenOutcome.TheVariants as O
use Rattle.step_sim.specs.Walks.{by_branch, drawn, drawn_choice, drawn_among, drawn_outcome, is_drawing_wide, IsDrawn, IsWhole, if_none, weights}
use Rattle.step_sim.specs.Words.{pair, rest, IsStepAmong, StopsOrGoes}
use Rattle.step_sim.specs.declared.walk.Step.{Step}
use Rattle.step_sim.specs.declared.walk.Stop.{Stop}
use Rattle.step_sim.specs.declared.walk.Stop.TheVariants as S
use Rattle.step_sim.proofs.Draws.{weights_at}

-- A word names this one of the choices, which has these branches.
pub record Faces (cs : List OpenChoice) (v : ℕ) (c : OpenChoice) (bs : List OpenBranch) : Type 0 where
  pub within : v % length cs < length cs
  pub here : c ≡ get_or cs (v % length cs) c
  pub good : c.outcome ≡ O.Good bs

mod-within : (n v : ℕ) → n ≢ 0 → v % n < n
mod-within n v h = mod-lt v (pos_of_ne-zero h)

-- from what a program knows: the count under another name
pub faces : (cs : List OpenChoice) (n v : ℕ) (c : OpenChoice) (bs : List OpenBranch) →
    n ≡ length cs → n ≢ 0 → c ≡ get_or cs (v % n) c → c.outcome ≡ O.Good bs → Faces cs v c bs
faces cs n v c bs f z h o = record {
  within = subst (λ m. v % m < m) f (mod-within n v z);
  here = h ∙ ap (λ m. get_or cs (v % m) c) f;
  good = o;
}

module _ (s : Values) (cs : List OpenChoice) (v : ℕ) (c : OpenChoice) (bs : List OpenBranch) (h : Faces cs v c bs) where
  abbrev seen : List (Choice Name Fraction Values)
  seen = map (open_choice s) cs

  abbrev shown : List (Branch Fraction Values)
  shown = map (open_branch s (map sum_of c.rewards.now)) bs

  choice_here : slice_get seen (v % length cs) ≡ Some (open_choice s c)
  choice_here =
      slice_get-map (open_choice s) cs (v % length cs)
      ∙ ap (option_map (open_choice s)) (slice_get-get_or cs (v % length cs) c h.within ∙ ap Some (sym h.here))

  good_here : open_outcome s (map sum_of c.rewards.now) c.outcome ≡ Good shown
  good_here = ap (open_outcome s (map sum_of c.rewards.now)) h.good

  pub is_whole : All (λ c. IsWhole c.outcome) seen → total (weights bs) ≡ unit
  is_whole all =
      let whole : IsWhole (Good shown) = subst IsWhole good_here (all_get (λ (c : Choice Name Fraction Values). IsWhole c.outcome) seen _ (open_choice s c) all choice_here) in
      ap total (sym (weights_at s (map sum_of c.rewards.now) bs)) ∙ whole

  begun : if_none seen ≡ None
  begun = by_first cs h.within
    where
      by_first : (l : List OpenChoice) → v % length cs < length l → if_none (map (open_choice s) l) ≡ None
      by_first [] k = let no : ⊥ = omega arith in absurd no
      by_first (c ∷ l) k = refl

  -- what two words lead to
  leads : (before mid after : Stream) (w : ℕ) (r : Result Step Stop) → (v, mid) ≡ next_u64 before → (w, after) ≡ next_u64 mid → r ≡ drawn_outcome (option_copied c.label) w (Good shown) → IsStepAmong seen before after r
  leads before mid after w r e f k =
      let words : (v, w) ≡ pair before = ap₂ (λ a b. (a, b)) (ap (λ (x : ℕ × Stream). x.0) e) (ap (λ (x : ℕ × Stream). x.0) f ∙ ap (λ (m : ℕ × Stream). (next_u64 m.1).0) e) in
      let after_is : after ≡ rest before = ap (λ (x : ℕ × Stream). x.1) f ∙ ap (λ (m : ℕ × Stream). (next_u64 m.1).1) e in
      let count : length cs ≡ length seen = sym (length-map cs (open_choice s)) in
      subst (λ b. StopsOrGoes b (drawn_among seen (pair before)) before after r) (sym begun) (
        k ∙ sym (ap (drawn_choice (v % length cs) w) choice_here ∙ ap (drawn_outcome (option_copied c.label) w) good_here)
            ∙ ap (λ n. drawn_choice (v % n) w (slice_get seen (v % n))) count ∙ ap (drawn_among seen) words,
        after_is,
      )

  pub takes : (before mid after : Stream) (w j : ℕ) (l : List OpenBranch) (b : OpenBranch) (t : Step) → (v, mid) ≡ next_u64 before → (w, after) ≡ next_u64 mid →
      l ≡ bs → IsDrawn w (map (open_branch s (map sum_of c.rewards.now)) l) j → b ≡ get_or l j b → t ≡ record { label = option_copied c.label; target = record { values = open_target s b } } → IsStepAmong seen before after (Ok t)
  takes before mid after w j l b t e f q d g k =
      let view = open_branch s (map sum_of c.rewards.now) in
      let within : j < length l = subst (λ n. j < n) (length-map l view) d.within in
      let bs = map view l in
      let label = option_copied c.label in
      let at : get_or bs j (view b) ≡ view b = get_or-map view l j b (view b) within ∙ ap view (sym g) in
      leads before mid after w (Ok t) e f (sym (
      ap (λ l. drawn_outcome label w (Good (map view l))) (sym q)
      ∙ ap (λ x. if x then Err S.Wide else by_branch label (drawn w bs) (slice_get bs (drawn w bs))) d.narrow
      ∙ ap (λ n. by_branch label n (slice_get bs n)) (sym d.drawn)
      ∙ ap (by_branch label j) (slice_get-get_or bs j (view b) d.within ∙ ap Some at)
      ∙ ap (λ x. if x then Err (S.NoBranch j) else Ok (record { label = label; target = record { values = open_target s b } })) (ap (λ (x : Branch Fraction Values). same_number x.probability nought) (sym at) ∙ d.possible (view b))
      ∙ ap Ok (sym k)))

  pub too_wide : (before mid after : Stream) (w : ℕ) (l : List OpenBranch) → (v, mid) ≡ next_u64 before → (w, after) ≡ next_u64 mid →
      l ≡ bs → is_drawing_wide w (map (open_branch s (map sum_of c.rewards.now)) l) ≡ true → IsStepAmong seen before after (Err S.Wide)
  too_wide before mid after w l e f q d =
      let view = open_branch s (map sum_of c.rewards.now) in
      leads before mid after w (Err S.Wide) e f (sym (
      ap (λ l. drawn_outcome (option_copied c.label) w (Good (map view l))) (sym q)
      ∙ ap (λ x. if x then Err S.Wide else by_branch (option_copied c.label) (drawn w (map view l)) (slice_get (map view l) (drawn w (map view l)))) d))
