-- What a program computes of components is what they come out as, trimmed.
use Rattle.std.proofs.Common.{◌≡◌, ◌∙◌, ℕ, List, [], map, Option, Some, None, slice_get, not, ◌&&◌, if◌then◌else◌, refl, sym, ap}
use Rattle.std.specs.Prelude.{unwrap_or}
use Rattle.std.specs.Option.{option_map}
use Rattle.std.proofs.lemmas.Option.{slice_get-map}
use Rattle.basics.specs.Mapped.{mapped}
use Rattle.op_trees.specs.Meaning.{Meaning}
use Rattle.op_trees.specs.Seen.{Seen}
use Rattle.process_core.specs.Choices.{is_false}
use Rattle.process_core.specs.Instance.{Column}
use Rattle.process_core.specs.Ready.{Ready}
use Rattle.state_choices.specs.Trimmed.{trimmed, trimmed_reward, trimmed_seen, trimmed_update, trimmed_write}
use Rattle.state_choices.proofs.ComputedParts.{same_update}
use Rattle.instance_start.specs.Numbered.{by_number, with_value}
use Rattle.instance_start.proofs.Numbered.{by_seen}
use Rattle.expr_store.specs.declared.node.ExprId.{ExprId}
use Rattle.network.specs.Computed.{acting_seen, component_seen, edge_seen, located_seen, reward_seen, update_seen, write_seen}
use Rattle.network.specs.Views.{Member, Setting, acting_at, columns_of, component_at, edge_at, guard_as, located_at, location_in, look_at, part_at, part_of, reward_at, update_at, write_at}
use Rattle.network.specs.declared.data.Component.{Component}
use Rattle.network.specs.declared.data.Destination.{Destination}
use Rattle.network.specs.declared.data.Edge.{Edge}
use Rattle.network.specs.declared.data.Link.{Link}
use Rattle.network.specs.declared.data.Located.{Located}

abbrev pub trimmed_member : Member → Member
trimmed_member m = record { silent = map trimmed m.silent; parts = map (map trimmed) m.parts }

same_member : (s t : List Ready) (m n : List (List Ready)) → s ≡ t → m ≡ n → ◌≡◌ {A = Member} (record { silent = s; parts = m }) (record { silent = t; parts = n })
same_member s t m n e f = cc

module _ (cs : List Column) (look : ExprId → Seen) where
  update_kept : (d : Destination) → update_seen cs look d ≡ trimmed_update (update_at cs look d)
  update_kept d =
      same_update _ _ _ _ _ _ refl (sym (mapped (write_at cs look) trimmed_write (write_seen cs look) (λ w. refl) d.writes.items))
      (sym (mapped (reward_at cs look) trimmed_reward (reward_seen look) (λ r. refl) d.rewards.items))

  edge_kept : (e : Edge) → edge_seen cs look e ≡ trimmed (edge_at cs look e)
  edge_kept e =
      let guard = guard_as (option_map look e.guard) in
      ap {B = Ready} (λ us. record { action = None; guard = trimmed_seen guard; updates = if not guard.wide && is_false guard.value then [] else us })
      (sym (mapped (update_at cs look) trimmed_update (update_seen cs look) (λ d. sym (update_kept d)) e.destinations.items))

  located_kept : (o : Option Located) → located_seen cs look o ≡ trimmed_member (located_at cs look o)
  located_kept None = refl
  located_kept (Some l) =
      same_member _ _ _ _ (sym (mapped (edge_at cs look) trimmed (edge_seen cs look) (λ e. sym (edge_kept e)) l.silent.items))
      (ap (by_number l.actions) (sym (mapped (acting_at cs look) (with_value trimmed) (acting_seen cs look) (λ a. ap (λ e. record { number = a.action; value = e }) (sym (edge_kept a.edge))) l.acting.items))
      ∙ by_seen trimmed l.actions (map (acting_at cs look) l.acting.items))

pub component_kept : {O : Type 0} (m : Meaning O) (k : Setting O) (c : Component) → component_seen m k c ≡ trimmed_member (component_at (columns_of k) (look_at m k) k.values c)
component_kept m k c = located_kept (columns_of k) (look_at m k) (slice_get c.locations.items (location_in k.values c.column))

-- ---- parts of members
part_of_kept : (o : Option Member) (p : ℕ) → map trimmed (part_of o p) ≡ part_of (option_map trimmed_member o) p
part_of_kept None p = refl
part_of_kept (Some m) p = by_part (slice_get m.parts p) ∙ ap (λ o. unwrap_or o []) (sym (slice_get-map (map trimmed) m.parts p))
  where
    by_part : (o : Option (List Ready)) → map trimmed (unwrap_or o []) ≡ unwrap_or (option_map (map trimmed) o) []
    by_part None = refl
    by_part (Some l) = refl

pub part_kept : (ms : List Member) (l : Link) → map trimmed (part_at ms l) ≡ part_at (map trimmed_member ms) l
part_kept ms l = part_of_kept (slice_get ms l.component) l.part ∙ ap (λ o. part_of o l.part) (sym (slice_get-map trimmed_member ms l.component))
