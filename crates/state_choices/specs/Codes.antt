-- How the logic stores what is seen of models: each as the pair of its parts. So equations between these have one proof at most.
-- (This project's own rule.)
use Rattle.std.specs.Prelude.{◌≡◌, ℕ, List, Bool, Option, Some, None, Result}
use Rattle.std.specs.Coded.{Coded, Coded-set, code_by, coded×, coded_ℕ, coded_bool, coded_list, coded_option, coded_result}
use Rattle.std.proofs.Common.{refl}
use Rattle.frac_core.specs.Fraction.{Fraction}
use Rattle.frac_core.specs.contracts.fraction.Frac as frac
use Rattle.op_trees.specs.Seen.{Seen}
use Rattle.op_trees.specs.declared.tree.Value.{Value}
use Rattle.op_trees.specs.contracts.tree.Value as value
use Rattle.op_trees.specs.declared.tree.EvalFail.{EvalFail}
use Rattle.op_trees.specs.contracts.tree.EvalFail as fail
use Rattle.process_core.specs.Ready.{Name, Write, Reward, Update, Ready, Sum}
use Rattle.process_core.specs.Instance.{Domain, Truths, Between, Column, Fault}
use Rattle.process_core.specs.declared.data.FaultKind.{FaultKind}
use Rattle.process_core.specs.contracts.data.FaultKind as kind
use Rattle.state_choices.specs.Groups.{Group}

abbrev pub value_code : Coded Value
value_code = value.the_row.coded

abbrev pub fraction_code : Coded Fraction
fraction_code = frac.the_row.coded

abbrev pub name_code : Coded Name
name_code = coded_list coded_ℕ

abbrev pub seen_code : Coded Seen
seen_code = code_by (Option Value × Bool) (coded× (coded_option value_code) coded_bool) (λ s. (s.value, s.wide)) (λ p. record { value = p.0; wide = p.1 }) (λ _. refl)

-- ---- columns
abbrev bounds : Domain → Option (Seen × Seen)
bounds Truths = None
bounds (Between l h) = Some (l, h)

abbrev domain_from : Option (Seen × Seen) → Domain
domain_from None = Truths
domain_from (Some p) = Between p.0 p.1

pub domain-bounds : (d : Domain) → domain_from (bounds d) ≡ d
domain-bounds Truths = refl
domain-bounds (Between l h) = refl

abbrev pub domain_code : Coded Domain
domain_code = code_by (Option (Seen × Seen)) (coded_option (coded× seen_code seen_code)) bounds domain_from domain-bounds

abbrev pub column_code : Coded Column
column_code =
    code_by (Name × (Domain × Option Seen)) (coded× name_code (coded× domain_code (coded_option seen_code))) (λ c. (c.name, (c.domain, c.first)))
    (λ p. record { name = p.0; domain = p.1.0; first = p.1.1 }) (λ _. refl)

-- ---- commands and edges
abbrev pub write_code : Coded Write
write_code =
    code_by (ℕ × (Seen × Bool)) (coded× coded_ℕ (coded× seen_code coded_bool)) (λ w. (w.column, (w.value, w.fits)))
    (λ p. record { column = p.0; value = p.1.0; fits = p.1.1 }) (λ _. refl)

abbrev pub reward_code : Coded Reward
reward_code = code_by (ℕ × Seen) (coded× coded_ℕ seen_code) (λ r. (r.structure, r.value)) (λ p. record { structure = p.0; value = p.1 }) (λ _. refl)

abbrev pub update_code : Coded Update
update_code =
    code_by (Seen × (List Write × List Reward)) (coded× seen_code (coded× (coded_list write_code) (coded_list reward_code))) (λ u. (u.weight, (u.writes, u.rewards)))
    (λ p. record { weight = p.0; writes = p.1.0; rewards = p.1.1 }) (λ _. refl)

abbrev pub ready_code : Coded Ready
ready_code =
    code_by (Option Name × (Seen × List Update)) (coded× (coded_option name_code) (coded× seen_code (coded_list update_code))) (λ r. (r.action, (r.guard, r.updates)))
    (λ p. record { action = p.0; guard = p.1.0; updates = p.1.1 }) (λ _. refl)

abbrev pub sum_code : Coded Sum
sum_code = code_by (Option Fraction × Bool) (coded× (coded_option fraction_code) coded_bool) (λ m. (m.value, m.wide)) (λ p. record { value = p.0; wide = p.1 }) (λ _. refl)

-- ---- groups
abbrev pub group_code : Coded Group
group_code =
    code_by (Option Name × (List Sum × List (List Ready))) (coded× (coded_option name_code) (coded× (coded_list sum_code) (coded_list (coded_list ready_code))))
    (λ g. (g.label, (g.rewards, g.lists))) (λ p. record { label = p.0; rewards = p.1.0; lists = p.1.1 }) (λ _. refl)

-- ---- faults
abbrev pub fault_code : Coded Fault
fault_code = code_by (FaultKind × ℕ) (coded× kind.the_row.coded coded_ℕ) (λ f. (f.kind, f.place)) (λ p. record { kind = p.0; place = p.1 }) (λ _. refl)

-- ---- equations that have one proof at most
pub one_answers : IsSet (List (Result Value EvalFail))
one_answers = Coded-set (coded_list (coded_result value_code fail.the_row.coded))

pub one_truth : IsSet Bool
one_truth = Coded-set coded_bool

pub one_number : IsSet ℕ
one_number = Coded-set coded_ℕ

pub one_names : IsSet (List Name)
one_names = Coded-set (coded_list name_code)

pub one_columns : IsSet (List Column)
one_columns = Coded-set (coded_list column_code)

pub one_groups : IsSet (List Group)
one_groups = Coded-set (coded_list group_code)

pub one_faults : IsSet (List Fault)
one_faults = Coded-set (coded_list fault_code)

pub one_sums : IsSet (List Sum)
one_sums = Coded-set (coded_list sum_code)

pub one_seens : IsSet (List Seen)
one_seens = Coded-set (coded_list seen_code)
