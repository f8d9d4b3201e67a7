use Rattle.std.proofs.Common.{◌≡◌, ℕ, List, map, Bool, true, false, not, Option, Some, None, Result, Ok, Err, Bor, if◌then◌else◌, sym, ap, ◌∙◌}
use Rattle.std.specs.List.{slice_get}
use Rattle.std.specs.Option.{option_copied, option_map}
use Rattle.std.proofs.lemmas.Option.{slice_get-map}
use Rattle.frac_core.specs.Fraction.{Fraction, nought, same_number}
use Rattle.process_core.specs.Ready.{Sum, Values}
use Rattle.process_core.specs.declared.data.Bad.{Bad}
use Rattle.state_choices.specs.Open.{open_branch, open_choice, open_outcome, open_target}
use Rattle.state_choices.specs.Views.{sum_of}
use Rattle.state_choices.specs.declared.open.OpenBranch.{OpenBranch}
use Rattle.state_choices.specs.declared.open.OpenChoice.{OpenChoice}
use Rattle.state_choices.specs.declared.open.OpenOutcome.TheVariants as O
use Rattle.step_sim.specs.Walks.{by_branch, by_choice, by_outcome}
use Rattle.step_sim.specs.declared.walk.Step.{Step}
use Rattle.step_sim.specs.declared.walk.Stop.{Stop}
use Rattle.step_sim.specs.declared.walk.Stop.TheVariants as S
use Rattle.step_sim.proofs.given.step_from.Goals.{in_default-get-via-in-Some-get+else-ne, in_default-get-via-in_default-get}
use Rattle.step_sim.proofs.given.step_from.Goals as goal

by_not : (b t : Bool) → not b ≡ t → b ≡ not t
by_not true t e = ap not e
by_not false t e = ap not e

-- what comes out at a state for these numbers
module _ (s : Values) (n : ℕ × ℕ) (cs : List OpenChoice) where
  abbrev told : Result Step Stop
  told = by_choice n.0 n.1 (slice_get (map (open_choice s) cs) n.0)

  -- what comes out where the choice of this number is this one, and what comes of it
  at_choice : (o : Option OpenChoice) → o ≡ slice_get cs n.0 → by_choice n.0 n.1 (option_map (open_choice s) o) ≡ told
  at_choice o e = ap (by_choice n.0 n.1) (ap (option_map (open_choice s)) e ∙ sym (slice_get-map (open_choice s) cs n.0))

  no_choice : (r : Option (Bor OpenChoice)) → option_copied r ≡ slice_get cs n.0 → r ≡ None → Err (S.NoChoice n.0) ≡ told
  no_choice r e h = at_choice None (sym (ap option_copied h) ∙ e)

  module _ (r : Option (Bor OpenChoice)) (c : Bor OpenChoice) (e : option_copied r ≡ slice_get cs n.0) (h : r ≡ Some c) where
    abbrev earned : List Sum
    earned = map sum_of c.now.rewards.now

    faulty_choice : (k : Bad) → c.now.outcome ≡ O.Faulty k → Err (S.Faulty k) ≡ told
    faulty_choice k f = sym (ap (λ o. by_outcome (option_copied c.now.label) n.1 (open_outcome s earned o)) f) ∙ at_choice (Some c.now) (sym (ap option_copied h) ∙ e)

    module _ (bs : List OpenBranch) (f : c.now.outcome ≡ O.Good bs) (q : Option (Bor OpenBranch)) (d : option_copied q ≡ slice_get bs n.1) where
      at_branch : (b : Option OpenBranch) → b ≡ slice_get bs n.1 → by_branch (option_copied c.now.label) n.1 (option_map (open_branch s earned) b) ≡ told
      at_branch b k =
          ap (by_branch (option_copied c.now.label) n.1) (ap (option_map (open_branch s earned)) k ∙ sym (slice_get-map (open_branch s earned) bs n.1))
          ∙ sym (ap (λ o. by_outcome (option_copied c.now.label) n.1 (open_outcome s earned o)) f) ∙ at_choice (Some c.now) (sym (ap option_copied h) ∙ e)

      no_branch : q ≡ None → Err (S.NoBranch n.1) ≡ told
      no_branch k = at_branch None (sym (ap option_copied k) ∙ d)

      module _ (b : Bor OpenBranch) (k : q ≡ Some b) (z : Fraction) (y : z ≡ nought) (t : Bool) (m : t ≡ not (same_number b.now.weight z)) where
        weighed : (x : Bool) → same_number b.now.weight nought ≡ x → (if x then Err (S.NoBranch n.1) else Ok (record { label = option_copied c.now.label; target = record { values = open_target s b.now } })) ≡ told
        weighed x e =
            ap (λ x. if x then Err (S.NoBranch n.1) else Ok (record { label = option_copied c.now.label; target = record { values = open_target s b.now } })) (sym e)
            ∙ at_branch (Some b.now) (sym (ap option_copied k) ∙ d)

        idle_branch : t ≡ false → Err (S.NoBranch n.1) ≡ told
        idle_branch e = weighed true (ap (same_number b.now.weight) (sym y) ∙ by_not (same_number b.now.weight z) false (sym m ∙ e))

        taken_branch : t ≡ true → (v : Step) → v ≡ record { label = option_copied c.now.label; target = record { values = open_target s b.now } } → Ok v ≡ told
        taken_branch e v g = ap Ok g ∙ weighed false (ap (same_number b.now.weight) (sym y) ∙ by_not (same_number b.now.weight z) true (sym m ∙ e))

pub returns-in_default : goal.returns-in_default
returns-in_default c = no_choice c.args.state.now.values c.args.pair c.args.choices.now c.get.result c.get.ensures c.in_default.is

pub returns-in-Faulty : goal.returns-in-Faulty
returns-in-Faulty c =
    faulty_choice c.args.state.now.values c.args.pair c.args.choices.now c.get.result c.in-Some.choice c.get.ensures c.in-Some.is
    c.in-Faulty.bad c.in-Faulty.is

pub returns-in_ok-step_along-in-Some-get : goal.returns-in_ok-step_along-in-Some-get
returns-in_ok-step_along-in-Some-get c =
    taken_branch c.args.state.now.values c.args.pair c.args.choices.now c.get.result c.in-Some.choice c.get.ensures c.in-Some.is
    c.in-Good.branches c.in-Good.is c.get-2.result c.get-2.ensures c.in-Some-get.branch c.in-Some-get.is c.zero.result c.zero.ensures c.ne.result c.ne.ensures
    c.if-ne.true c.in_ok-step_along-in-Some-get.field-0 c.in_ok-step_along-in-Some-get.ensures

pub returns-in_default-get : goal.returns-in_default-get
returns-in_default-get c =
    let s = c.args.state.now.values in
    elim c.in_default-get.branch [
      | in_default-get-via-in-Some-get+else-ne w ↦
          idle_branch s c.args.pair c.args.choices.now c.get.result c.in-Some.choice c.get.ensures c.in-Some.is c.in-Good.branches c.in-Good.is c.get-2.result c.get-2.ensures
          w.in-Some-get.branch w.in-Some-get.is w.zero.result w.zero.ensures w.ne.result w.ne.ensures w.if-ne.false
      | in_default-get-via-in_default-get w ↦
          no_branch s c.args.pair c.args.choices.now c.get.result c.in-Some.choice c.get.ensures c.in-Some.is c.in-Good.branches c.in-Good.is c.get-2.result c.get-2.ensures
          w.in_default-get.is
    ]
