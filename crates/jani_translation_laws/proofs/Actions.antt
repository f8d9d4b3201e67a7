-- The action of each command of a file is among its actions.
use Rattle.std.specs.Prelude.{◌≡◌, List, [], ◌∷◌, ◌++◌, true, false, Option, Some, None, bytes_eq}
use Rattle.std.specs.List.{flat_map, list_any, AllByRecursion as Each}
use Rattle.std.proofs.Common.{◌∙◌}
use Rattle.std.proofs.lemmas.List.Folds.{list_any-append}
use Rattle.std.proofs.lemmas.Slice.Eq.{bytes_eq-Decides}
use Rattle.std.proofs.lemmas.Bool.{or_left, or_right}
use Rattle.basics.specs.Texts.{bytes_eq-self}
use Rattle.basics.specs.Each.{each_then}
use Rattle.bridge_io.specs.declared.reason.Named.{Named}
use Rattle.basics.specs.Options.{if_some, IfAny}
use Rattle.process_core.specs.Ready.{Name}
use Rattle.process_core.proofs.Targets.{any_firsts}
use Rattle.prism_tree.specs.Syntax.{Command, Body, File}
use Rattle.jani_translation.specs.Asks.{bodies, actions, action_of, called}

abbrev pub IsAction : File → Name → Type 0
IsAction file a = list_any (λ y. bytes_eq y a) (actions file) ≡ true

-- each member of a list is in it
pub each_among : (xs : List Name) → Each (λ a. list_any (λ y. bytes_eq y a) xs ≡ true) xs
each_among [] = tt
each_among (x ∷ xs) = (
  or_left (bytes_eq x x) (list_any (λ y. bytes_eq y x) xs) (bytes_eq-self x),
  each_then (λ a. list_any (λ y. bytes_eq y a) xs ≡ true) (λ a. list_any (λ y. bytes_eq y a) (x ∷ xs) ≡ true)
      (λ a h. or_right (bytes_eq x a) (list_any (λ y. bytes_eq y a) xs) h) xs (each_among xs),
)

pub actions_among : (file : File) → Each (IsAction file) (actions file)
actions_among file = each_among (actions file)

-- what is in a part of what is gone through is in the whole
abbrev pub Has : List Name → Name → Type 0
Has xs a = list_any (λ y. bytes_eq y a) xs ≡ true

pub front : (xs ys : List Name) (a : Name) → Has xs a → Has (xs ++ ys) a
front xs ys a h = list_any-append (λ y. bytes_eq y a) xs ys ∙ or_left (list_any (λ y. bytes_eq y a) xs) (list_any (λ y. bytes_eq y a) ys) h

pub back : (xs ys : List Name) (a : Name) → Has ys a → Has (xs ++ ys) a
back xs ys a h = list_any-append (λ y. bytes_eq y a) xs ys ∙ or_right (list_any (λ y. bytes_eq y a) xs) (list_any (λ y. bytes_eq y a) ys) h

abbrev ActionIn : List Name → Command → Type 0
ActionIn xs c = IfAny (Has xs) (action_of c)

one_in : (o : Option Name) → IfAny (Has (if_some o)) o
one_in None = tt
one_in (Some a) = or_left (bytes_eq a a) false (bytes_eq-self a)

more_in : (xs ys : List Name) → ((a : Name) → Has xs a → Has ys a) → (o : Option Name) → IfAny (Has xs) o → IfAny (Has ys) o
more_in xs ys f None h = tt
more_in xs ys f (Some a) h = f a h

abbrev of_commands : List Command → List Name
of_commands cs = flat_map (λ c. if_some (action_of c)) cs

abbrev of_bodies : List Body → List Name
of_bodies ms = flat_map (λ m. of_commands m.commands) ms

commands_in : (cs : List Command) → Each (ActionIn (of_commands cs)) cs
commands_in [] = tt
commands_in (c ∷ cs) = (
  more_in (if_some (action_of c)) (of_commands (c ∷ cs)) (front (if_some (action_of c)) (of_commands cs)) (action_of c) (one_in (action_of c)),
  each_then (ActionIn (of_commands cs)) (ActionIn (of_commands (c ∷ cs)))
      (λ d. more_in (of_commands cs) (of_commands (c ∷ cs)) (back (if_some (action_of c)) (of_commands cs)) (action_of d)) cs (commands_in cs),
)

abbrev BodyIn : List Name → Body → Type 0
BodyIn xs m = Each (ActionIn xs) m.commands

more_body : (xs ys : List Name) → ((a : Name) → Has xs a → Has ys a) → (m : Body) → BodyIn xs m → BodyIn ys m
more_body xs ys f m = each_then (ActionIn xs) (ActionIn ys) (λ c. more_in xs ys f (action_of c)) m.commands

bodies_in : (ms : List Body) → Each (BodyIn (of_bodies ms)) ms
bodies_in [] = tt
bodies_in (m ∷ ms) = (
  more_body (of_commands m.commands) (of_bodies (m ∷ ms)) (front (of_commands m.commands) (of_bodies ms)) m (commands_in m.commands),
  each_then (BodyIn (of_bodies ms)) (BodyIn (of_bodies (m ∷ ms))) (more_body (of_bodies ms) (of_bodies (m ∷ ms)) (back (of_commands m.commands) (of_bodies ms))) ms (bodies_in ms),
)

-- a command's action, if it has one
abbrev pub HasAction : File → Command → Type 0
HasAction file c = IfAny (λ a. IsAction file a.name) c.action

named_in : (file : File) (o : Option Named) → IfAny (Has (of_bodies (bodies file))) (called o) → IfAny (λ a. IsAction file a.name) o
named_in file None h = tt
named_in file (Some a) h = any_firsts bytes_eq bytes_eq-Decides (λ y. bytes_eq y a.name) (of_bodies (bodies file)) ∙ h

pub actions_of_commands : (file : File) → Each (λ m. Each (HasAction file) m.commands) (bodies file)
actions_of_commands file =
    each_then (BodyIn (of_bodies (bodies file))) (λ m. Each (HasAction file) m.commands)
    (λ m. each_then (ActionIn (of_bodies (bodies file))) (HasAction file) (λ c. named_in file c.action) m.commands) (bodies file) (bodies_in (bodies file))
