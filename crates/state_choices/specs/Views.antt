-- What the program's data stands for. A value that is wide is seen as wide and with no value, since a program knows no more of it.
use Rattle.std.specs.Prelude.{List, [], ◌∷◌, map, Some, None, Result, Ok, Err, true, false, option_copied}
use Rattle.std.specs.Borrow.{Bor}
use Rattle.frac_core.specs.Fraction.{Fraction}
use Rattle.op_trees.specs.Seen.{Seen}
use Rattle.op_trees.specs.declared.tree.Value.{Value}
use Rattle.op_trees.specs.declared.tree.EvalFail.{EvalFail}
use Rattle.op_trees.specs.declared.tree.EvalFail.TheVariants.{Undef, Wide}
use Rattle.process_core.specs.Ready as core
use Rattle.process_core.specs.Ready.{Ready, Sum}
use Rattle.state_choices.specs.declared.data.Write.{Write}
use Rattle.state_choices.specs.declared.data.Reward.{Reward}
use Rattle.state_choices.specs.declared.data.Update.{Update}
use Rattle.state_choices.specs.declared.data.Command.{Command}
use Rattle.state_choices.specs.declared.data.Item as code_item
use Rattle.process_core.specs.Bounds.{Item}
use Rattle.state_choices.specs.declared.data.Group as code_group
use Rattle.state_choices.specs.Groups.{Group}

abbrev pub seen_of : Result Value EvalFail → Seen
seen_of (Ok v) = record { value = Some v; wide = false }
seen_of (Err Undef) = record { value = None; wide = false }
seen_of (Err Wide) = record { value = None; wide = true }

abbrev pub sum_of : Result Fraction EvalFail → Sum
sum_of (Ok x) = record { value = Some x; wide = false }
sum_of (Err Undef) = record { value = None; wide = false }
sum_of (Err Wide) = record { value = None; wide = true }

abbrev pub write_of : Write → core.Write
write_of w = record { column = w.column; value = seen_of w.value; fits = w.fits }

abbrev pub reward_of : Reward → core.Reward
reward_of r = record { structure = r.structure; value = seen_of r.value }

abbrev pub update_of : Update → core.Update
update_of u = record { weight = seen_of u.weight; writes = map write_of u.writes; rewards = map reward_of u.rewards }

-- which action it has is that of the group in which it stands
abbrev pub command_of : Command → Ready
command_of c = record { action = None; guard = seen_of c.guard; updates = map update_of c.updates }

abbrev pub participants_of : List (Bor Command) → List Ready
participants_of rs = map (λ r. command_of r.now) rs

abbrev pub updates_of : List (Bor Update) → List core.Update
updates_of us = map (λ u. update_of u.now) us

abbrev pub group_of : code_group.Group → Group
group_of g = record { label = option_copied g.label; rewards = map sum_of g.rewards.now; lists = map (λ l. map command_of l.now) g.lists.items }

-- the combination of a group with these participants
abbrev pub combination_of : code_group.Group → List (Bor Command) → core.Combination
combination_of g rs = record { label = option_copied g.label; rewards = map sum_of g.rewards.now; participants = participants_of rs }

-- the combination of a group with this participant alone
abbrev pub alone_in : code_group.Group → Command → core.Combination
alone_in g r = record { label = option_copied g.label; rewards = map sum_of g.rewards.now; participants = command_of r ∷ [] }

abbrev pub item_of : code_item.Item → Item
item_of i = record { guard = seen_of i.guard; value = seen_of i.value }
