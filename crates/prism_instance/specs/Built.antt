-- What is built of a file: each part of a network comes out as its own part of the file does, where names stand at these places.
-- (This project's own rule.)
use Rattle.std.specs.Prelude.{◌≡◌, ℕ, List, [], length, map, Option, None}
use Rattle.std.specs.Option.{option_map}
use Rattle.process_core.specs.Instance.{Column}
use Rattle.process_core.specs.Ready.{Name, Sum, Values}
use Rattle.instance_start.specs.Columns.{column_of}
use Rattle.instance_start.specs.Numbered.{with_value}
use Rattle.instance_start.specs.declared.data.Place.{Place}
use Rattle.expr_store.specs.Alike.{Alike}
use Rattle.expr_store.specs.Views.{nodes}
use Rattle.expr_store.specs.declared.node.Node.{Node}
use Rattle.prism_tree.specs.Operators.{prism_meaning}
use Rattle.prism_tree.specs.Syntax.{File}
use Rattle.prism_tree.specs.declared.operator.PrismOp.{PrismOp}
use Rattle.prism_names.specs.Names.{see}
use Rattle.prism_flat.specs.Moment.{condition_seen}
use Rattle.network.specs.Views.{component_at, earned_at, guard_as, sum_at, value_by}
use Rattle.network.specs.declared.network.Network.{Network}
use Rattle.prism_instance.specs.Shapes.{acting, bodies, earned_in_states, earnings, item_under, sum_under}
use Rattle.prism_instance.specs.Sites.{acts_of, linked_at, linked_under, links_among, member_under, sorted}
use Rattle.prism_instance.specs.declared.parts.ChoiceParts.{ChoiceParts}
use Rattle.prism_instance.specs.declared.parts.StateParts.{StateParts}
use Rattle.prism_instance.specs.declared.parts.Parts.{Parts}

-- what choices are made of, over these columns
pub record HasChoices (file : File) (places : Name → Option Place) (cs : List Column) (ns : List (Node PrismOp)) (c : ChoiceParts) : Type 0 where
  pub components : (s : Values) → Alike prism_meaning places ns
      (λ look. map (λ c. component_at cs look s c) c.components.items) (λ seen. map (λ k. member_under cs seen k) (map sorted (bodies file.modules)))
  pub vectors : (n : ℕ) (shared : List Sum) → Alike prism_meaning places ns
      (λ look. map (λ v. linked_at look n shared v) c.vectors.items)
      (λ seen. map (λ a. linked_under seen n file.rewards (λ x. links_among x (map acts_of (bodies file.modules))) a) (acting (bodies file.modules)))
  pub silent : Alike prism_meaning places ns (λ look. map (λ e. earned_at look e) c.silent.items) (λ seen. map (λ e. with_value (item_under seen) e) (earnings file.rewards None))

-- what states have
pub record HasMarks (file : File) (places : Name → Option Place) (ns : List (Node PrismOp)) (m : StateParts) : Type 0 where
  pub labelled : (s : Values) → Alike prism_meaning places ns (λ look. map (λ l. value_by look s l) m.labels.items) (λ seen. map (λ l. see l.body seen) file.labels)
  pub summed : Alike prism_meaning places ns (λ look. map (λ is. sum_at look is.items) m.sums.items) (λ seen. map (λ is. sum_under seen is) (earned_in_states file.rewards))
  pub condition : Alike prism_meaning places ns (λ look. guard_as (option_map look m.condition)) (λ seen. condition_seen seen file.init)

pub record AreParts (file : File) (places : Name → Option Place) (cs : List Column) (p : Parts) : Type 0 where
  pub choosing : HasChoices file places cs (nodes p.store) p.choosing
  pub marking : HasMarks file places (nodes p.store) p.marking

-- a whole network of such parts
pub record IsBuilt (file : File) (places : Name → Option Place) (n : Network PrismOp) : Type 0 where
  pub components : (s : Values) → Alike prism_meaning places (nodes n.store)
      (λ look. map (λ c. component_at (map column_of n.columns.items) look s c) n.components.items)
      (λ seen. map (λ k. member_under (map column_of n.columns.items) seen k) (map sorted (bodies file.modules)))
  pub vectors : (shared : List Sum) → Alike prism_meaning places (nodes n.store)
      (λ look. map (λ v. linked_at look n.rewards shared v) n.vectors.items)
      (λ seen. map (λ a. linked_under seen n.rewards file.rewards (λ x. links_among x (map acts_of (bodies file.modules))) a) (acting (bodies file.modules)))
  pub silent : Alike prism_meaning places (nodes n.store) (λ look. map (λ e. earned_at look e) n.silent.items)
      (λ seen. map (λ e. with_value (item_under seen) e) (earnings file.rewards None))
  pub summed : Alike prism_meaning places (nodes n.store) (λ look. map (λ is. sum_at look is.items) n.sums.items) (λ seen. map (λ is. sum_under seen is) (earned_in_states file.rewards))
  pub labelled : (s : Values) → Alike prism_meaning places (nodes n.store) (λ look. map (λ l. value_by look s l) n.labels.items) (λ seen. map (λ l. see l.body seen) file.labels)
  pub condition : Alike prism_meaning places (nodes n.store) (λ look. guard_as (option_map look n.condition)) (λ seen. condition_seen seen file.init)
  pub counted : n.rewards ≡ length file.rewards
  pub labels : length n.labels.items ≡ length file.labels
  pub structures : n.structures.items ≡ []
  pub starts : n.starts.items ≡ []
