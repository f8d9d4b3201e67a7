-- How a `List` holds its items, so that a type may hold lists of itself, as a tree whose node has a list of trees.
-- A list is seen as the plain list of its items; its one field is a vector, which says where they lie.
use mathlib.Core.Path.{◌≡◌, refl, sym}
use mathlib.Core.List.{List, []}
use mathlib.Core.Former.{Former, children, list, this, via}
use base.Stored.{code_map}
use denote.RattleType.{RattleType}
use denote.Hole.Carrier.{list-listed, listed}
use denote.Hole.Fix.{over}
use denote.HoleLaws.{Alike}
use denote.HolePlaces.{Recodes, laid, struct_places}
use denote.Model.Placed.{view_places}
use denote.Param.Weighed.{Weighed, w_list}
use Rattle.std.specs.contracts.alloc.Global as global
use Rattle.std.specs.contracts.impls.GlobalAllocator.TheImpl.{ghosts}
use Rattle.std.specs.declared.alloc.Global.{Global}
use Rattle.std.specs.formers.vec.Vec as vector
use Rattle.bridge_io.specs.contracts.list.List as outside
use Rattle.bridge_io.specs.contracts.list.List.TheInside as inside
use Rattle.bridge_io.specs.declared.list.List.TheInside.{Inside}
use Rattle.bridge_io.specs.declared.list.List.TheView.{invariant, view}

-- its values are plain lists, and a list weighs as its heaviest item
abbrev pub the_former : Former {0} → Former {0}
the_former item = list item

abbrev pub the_weighed : {item : Former {0}} → Weighed item → Weighed (the_former item)
the_weighed weighed = w_list weighed

pub the_empty : List ⊥
the_empty = []

abbrev pub the_items : (X : Type 0) → List X → List X
the_items X items = items

pub the_items_listed : (X : Type 0) (items : List X) → listed _ (children (the_former this) X items) ≡ the_items X items
the_items_listed X items = list-listed X items

-- the struct's own field, which holds the items as a vector does
abbrev in_vector : Former {0}
in_vector = via (vector.the_former this Global) Inside (λ X l. l.items) (λ X v. record { items = v }) (λ X l. refl) (λ X v. refl)

module _ (R S : RattleType) (h : R.Denot → S.Denot) where
  pub the_places : Alike R S h → Alike (outside.the_row R) (outside.the_row S) ((the_former this).map R.Denot S.Denot h)
  the_places alike =
      let fields = struct_places (inside.the_type R) (inside.the_type S) (vector.mapped h, tt) _ (λ d. refl) refl (laid _ _ _ (vector.the_places global.the_row ghosts R S h alike), tt) in
      view_places in_vector (list this) view (λ X Y f l. refl) (λ X l. refl) R.Denot S.Denot h (outside.the_row R).coded (outside.the_row S).coded
      (invariant R.Denot) (invariant S.Denot) (λ l p q. refl) (λ l p q. refl) (λ l e. tt) (λ l e. tt) (over (inside.the_row R)) (over (inside.the_row S)) fields

  pub the_codes_placed : Recodes R S h → Recodes (outside.the_row R) (outside.the_row S) ((the_former this).map R.Denot S.Denot h)
  the_codes_placed same items = sym (code_map R.coded.code S.coded.code h (λ x. sym (same x)) items)
