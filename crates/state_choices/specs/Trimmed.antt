-- Commands and edges over unbounded numbers, trimmed to what a program computes of them: of a value that is wide only that it is so, and of
-- a command whose guard is false no update. The choices follow from that all the same, and so does what passes a bound.
use Rattle.std.specs.Prelude.{◌≡◌, List, [], map, false, not, ◌&&◌, Option, Some, None, Result, Ok, Err, if◌then◌else◌}
use Rattle.frac_core.specs.Fraction.{Fraction}
use Rattle.op_trees.specs.Seen.{Seen}
use Rattle.op_trees.specs.Meaning.{answered}
use Rattle.op_trees.specs.declared.tree.Value.{Value}
use Rattle.op_trees.specs.declared.tree.EvalFail.{EvalFail}
use Rattle.process_core.specs.Ready.{Values, Write, Reward, Update, Ready, Sum, Combination}
use Rattle.process_core.specs.Choices.{is_false, is_true, choices}
use Rattle.process_core.specs.Bounds.{Item, summed, excess}
use Rattle.process_core.specs.Answers.{Answers}
use Rattle.process_core.specs.Seen.{seen_choice}
use Rattle.process_core.specs.declared.data.StepFail.{StepFail}
use Rattle.process_core.specs.declared.data.Choice as code
use Rattle.state_choices.specs.Views.{seen_of, sum_of}
use Rattle.state_choices.specs.Groups.{Group, of_groups}

-- as an evaluation answers it
abbrev pub computed : Seen → Result Value EvalFail
computed s = answered s.wide s.value

abbrev pub computed_number : Option Fraction → Result Fraction EvalFail
computed_number None = Err EvalFail.Undef
computed_number (Some x) = Ok x

abbrev pub computed_sum : Sum → Result Fraction EvalFail
computed_sum m = if m.wide then Err EvalFail.Wide else computed_number m.value

-- the same, as data
abbrev pub trimmed_seen : Seen → Seen
trimmed_seen s = record { value = if s.wide then None else s.value; wide = s.wide }

abbrev pub trimmed_sum : Sum → Sum
trimmed_sum m = record { value = if m.wide then None else m.value; wide = m.wide }

abbrev pub trimmed_write : Write → Write
trimmed_write w = record { column = w.column; value = trimmed_seen w.value; fits = not w.value.wide && w.fits }

abbrev pub trimmed_reward : Reward → Reward
trimmed_reward r = record { structure = r.structure; value = trimmed_seen r.value }

abbrev pub trimmed_update : Update → Update
trimmed_update u = record { weight = trimmed_seen u.weight; writes = map trimmed_write u.writes; rewards = map trimmed_reward u.rewards }

abbrev pub trimmed : Ready → Ready
trimmed r = record {
  action = None;
  guard = trimmed_seen r.guard;
  updates = if not r.guard.wide && is_false r.guard.value then [] else map trimmed_update r.updates;
}

abbrev pub trimmed_combination : Combination → Combination
trimmed_combination c = record { label = c.label; rewards = map trimmed_sum c.rewards; participants = map trimmed c.participants }

abbrev pub trimmed_group : Group → Group
trimmed_group g = record { label = g.label; rewards = map trimmed_sum g.rewards; lists = map (map trimmed) g.lists }

-- the value of an item whose guard isn't true isn't asked for
abbrev pub trimmed_item : Item → Item
trimmed_item i = record {
  guard = trimmed_seen i.guard;
  value = if not i.guard.wide && is_true i.guard.value then trimmed_seen i.value else record { value = None; wide = false };
}

-- what evaluations answer is seen trimmed, and sums of items are those of trimmed items
pub record ComputedLaws : Type 0 where
  pub values : (s : Seen) → seen_of (computed s) ≡ trimmed_seen s
  pub sums : (m : Sum) → sum_of (computed_sum m) ≡ trimmed_sum m
  -- the test on which a program leaves the updates of a command out
  pub guards : (s : Seen) → is_false (seen_of (computed s)).value ≡ (not s.wide && is_false s.value)
  pub items : (is : List Item) → computed_sum (summed (map trimmed_item is)) ≡ computed_sum (summed is)

-- an answer by what is trimmed is an answer
abbrev pub TrimmingLaw : Type 0
TrimmingLaw = (s : Values) (gs : List Group) (r : Result (List code.Choice) StepFail) →
    Answers (excess (of_groups (map trimmed_group gs))) (λ cs. map seen_choice cs ≡ choices s (of_groups (map trimmed_group gs))) r →
    Answers (excess (of_groups gs)) (λ cs. map seen_choice cs ≡ choices s (of_groups gs)) r
