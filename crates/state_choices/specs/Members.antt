-- The groups of modules and of elements, from what these come out as at a state.
use Rattle.std.specs.Prelude.{◌≡◌, List, [], ◌∷◌, ◌++◌, map, Option, Some, None, is_some, unwrap_or, if◌then◌else◌, bytes_eq, Result}
use Rattle.std.specs.List.{filter, list_any, flat_map, AllZip}
use Rattle.frac_core.specs.Fraction.{Fraction}
use Rattle.op_trees.specs.declared.tree.EvalFail.{EvalFail}
use Rattle.basics.specs.Options.{if_some}
use Rattle.process_core.specs.Ready.{Name, Ready, Sum, has_action, actions_of, sharing, taking}
use Rattle.process_core.specs.Ready as core
use Rattle.state_choices.specs.declared.data.Command.{Command}
use Rattle.state_choices.specs.declared.data.Member.{Member}
use Rattle.state_choices.specs.declared.data.Part.{Part}
use Rattle.state_choices.specs.declared.data.Vector.{Vector}
use Rattle.state_choices.specs.declared.data.Action.{Action}
use Rattle.state_choices.specs.Views.{command_of, sum_of}
use Rattle.state_choices.specs.Groups.{Group, module_groups, element_groups}
use Rattle.state_choices.specs.Trimmed.{trimmed, trimmed_sum, trimmed_group}

-- the commands of the first part that has the action
abbrev pub commands_with : List Part → Name → Option (List Command)
commands_with [] a = None
commands_with (p ∷ ps) a = if bytes_eq p.action a then Some p.commands else commands_with ps a

abbrev pub shared_lists : Name → List Member → List (List Command)
shared_lists a ms = flat_map (λ m. if_some (commands_with m.parts a)) ms

abbrev pub vector_lists : List (Option Name) → List Member → List (List Command)
vector_lists [] ms = []
vector_lists (p ∷ ps) [] = []
vector_lists (None ∷ ps) (m ∷ ms) = vector_lists ps ms
vector_lists (Some a ∷ ps) (m ∷ ms) = unwrap_or (commands_with m.parts a) [] ∷ vector_lists ps ms

abbrev pub silent_of : List (Result Fraction EvalFail) → Member → Group
silent_of rewards m = record { label = None; rewards = map sum_of rewards; lists = map command_of m.silent ∷ [] }

abbrev pub of_action : List Member → Action → Group
of_action ms a = record { label = Some a.name.now; rewards = map sum_of a.rewards; lists = map (map command_of) (shared_lists a.name.now ms) }

abbrev pub of_vector : List (Result Fraction EvalFail) → List Member → Vector → Group
of_vector rewards ms v = record { label = v.result; rewards = map sum_of rewards; lists = map (map command_of) (vector_lists v.parts ms) }

-- The member has what a program has of these commands or edges: those of each action, which it has where they do.
pub record IsMemberOf (m : Member) (rs : List Ready) : Type 0 where
  pub silent : map command_of m.silent ≡ map trimmed (filter (has_action None) rs)
  pub named : (a : Name) → map command_of (unwrap_or (commands_with m.parts a) []) ≡ map trimmed (filter (has_action (Some a)) rs)
  pub has : (a : Name) → is_some (commands_with m.parts a) ≡ list_any (has_action (Some a)) rs

abbrev pub vector_of : Vector → core.Vector
vector_of v = record { parts = v.parts; result = v.result }

-- the action and its rewards
abbrev pub Names : (Option Name → List Sum) → Action → Name → Type 0
Names rewards n a = (n.name.now ≡ a) × (map sum_of n.rewards ≡ map trimmed_sum (rewards (Some a)))

-- the groups of such members are those of the modules or elements, trimmed
pub record MemberLaws : Type 0 where
  pub modules : (r : List (Result Fraction EvalFail)) (actions : List Action) (members : List Member) (rewards : Option Name → List Sum) (ms : List (List Ready)) →
      map sum_of r ≡ map trimmed_sum (rewards None) → AllZip (Names rewards) actions (actions_of ms) → AllZip IsMemberOf members ms →
      map (silent_of r) members ++ map (of_action members) actions ≡ map trimmed_group (module_groups rewards ms)
  pub elements : (r : List (Result Fraction EvalFail)) (vectors : List Vector) (members : List Member) (rewards : List Sum) (es : List (List Ready)) →
      map sum_of r ≡ map trimmed_sum rewards → AllZip IsMemberOf members es →
      map (silent_of r) members ++ map (of_vector r members) vectors ≡ map trimmed_group (element_groups rewards (map vector_of vectors) es)
