-- Processes that are the same by maps of states and labels are so by others that agree.
use Rattle.std.proofs.Common.{◌≡◌, List, [], ◌∷◌, map, length, Bool, IsTrue, Option, refl, sym, ap, ap₂, ◌∙◌, subst, subst₂}
use Rattle.std.specs.List.{All}
use Rattle.std.proofs.lemmas.List.Elements.{All-head, All-tail}
use Rattle.frac_core.specs.Fraction.{Fraction}
use Rattle.process_core.specs.Process.{Branch, Outcome, Good, Bad, Choice, EquallyOften, branch_image, outcome_image, choice_image}
use Rattle.process_core.specs.Distribution.{IsProper}
use Rattle.process_core.specs.Ready.{Values, Name}
use Rattle.carry_maps.specs.Maps.{jani_state, jani_label}
use Rattle.carry_maps.specs.Instances.{SameByOthers, SameByItsMap}

-- ---- other maps
module _ (is_state : Values → Bool) (label other : Option Name → Option Name) (state to : Values → Values) (states : (s : Values) → IsTrue (is_state s) → to s ≡ state s) where
  same_branch : (b : Branch Fraction Values) → IsTrue (is_state b.target) → branch_image to b ≡ branch_image state b
  same_branch b h = ap (λ t. let r : Branch Fraction Values = record { probability = b.probability; target = t; rewards = b.rewards } in r) (states b.target h)

  same_branches : (bs : List (Branch Fraction Values)) → All (λ b. IsTrue (is_state b.target)) bs → map (branch_image to) bs ≡ map (branch_image state) bs
  same_branches [] h = refl
  same_branches (b ∷ bs) h =
      ap₂ (λ x xs. x ∷ xs) (same_branch b (All-head (λ (c : Branch Fraction Values). IsTrue (is_state c.target)) b bs h)) (same_branches bs (All-tail (λ (c : Branch Fraction Values). IsTrue (is_state c.target)) b bs h))

  same_outcome : (o : Outcome Fraction Values) → IsProper is_state o → outcome_image to o ≡ outcome_image state o
  same_outcome (Good bs) h = ap Good (same_branches bs h.targets)
  same_outcome (Bad kinds) h = refl

  same_choice : (l k : Option Name) (o q : Outcome Fraction Values) → l ≡ k → o ≡ q → ◌≡◌ {A = Choice Name Fraction Values} (record { label = l; outcome = o }) (record { label = k; outcome = q })
  same_choice l k o q e f = cc

  same_images : (cs : List (Choice Name Fraction Values)) → All (λ c. IsProper is_state c.outcome) cs → All (λ c. other c.label ≡ label c.label) cs → map (choice_image other to) cs ≡ map (choice_image label state) cs
  same_images [] h k = refl
  same_images (c ∷ cs) h k =
      ap₂ (λ x xs. x ∷ xs)
      (same_choice _ _ _ _ (All-head (λ (d : Choice Name Fraction Values). other d.label ≡ label d.label) c cs k) (same_outcome c.outcome (All-head (λ (d : Choice Name Fraction Values). IsProper is_state d.outcome) c cs h)))
      (same_images cs (All-tail (λ (d : Choice Name Fraction Values). IsProper is_state d.outcome) c cs h) (All-tail (λ (d : Choice Name Fraction Values). other d.label ≡ label d.label) c cs k))

pub same_by_others : SameByOthers
same_by_others p q label other state to lawful agree same = record {
  into = λ s i. subst (λ t. IsTrue (q.is_state t)) (sym (agree.states s i)) (same.into s i);
  one = λ s t i j f. same.one s t i j (sym (agree.states s i) ∙ f ∙ agree.states t j);
  onto = λ u i. let r = same.onto u i in (r.0, r.1, agree.states r.0 r.1 ∙ r.2);
  initial = λ s i. same.initial s i ∙ ap q.is_initial (sym (agree.states s i));
  marks = λ s i. same.marks s i ∙ ap q.marks (sym (agree.states s i));
  choices = λ s i.
      subst₂ EquallyOften (sym (same_images p.is_state label other state to agree.states (p.choices s) (lawful.proper s i) (agree.labels s i)))
      (ap q.choices (sym (agree.states s i))) (same.choices s i);
}

pub same_by_its_map : SameByItsMap
same_by_its_map m d e label state same map_of lawful = record {
  columns = map_of.columns;
  same = same_by_others d e label (jani_label m.labels) state (jani_state m (length e.columns)) lawful map_of.agree same;
  labels = map_of.labels;
}
