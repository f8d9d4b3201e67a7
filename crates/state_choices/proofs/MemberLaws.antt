-- Groups of members, and of modules or elements.
use Rattle.std.proofs.Common.{◌≡◌, ℕ, ◌+◌, ◌<◌, length, get_or, drop, append_assoc, List, [], ◌∷◌, ◌++◌, map, Option, Some, None, is_some, unwrap_or, cond, Result, refl, sym, ap, ap₂, ◌∙◌}
use Rattle.std.specs.List.{filter, list_any, AllZip}
use Rattle.std.proofs.lemmas.List.{map-append}
use Rattle.basics.specs.Lists.{drop_item}
use Rattle.frac_core.specs.Fraction.{Fraction}
use Rattle.op_trees.specs.declared.tree.EvalFail.{EvalFail}
use Rattle.basics.specs.Options.{if_some}
use Rattle.process_core.specs.Ready.{Name, Ready, Sum, has_action, actions_of, sharing, taking}
use Rattle.process_core.specs.Ready as core
use Rattle.state_choices.specs.declared.data.Command.{Command}
use Rattle.state_choices.specs.declared.data.Member.{Member}
use Rattle.state_choices.specs.declared.data.Vector.{Vector}
use Rattle.state_choices.specs.declared.data.Action.{Action}
use Rattle.state_choices.specs.Views.{command_of, sum_of}
use Rattle.state_choices.specs.Groups.{Group, silent_group}
use Rattle.state_choices.specs.Trimmed.{trimmed, trimmed_sum, trimmed_group}
use Rattle.state_choices.specs.Members.{commands_with, shared_lists, vector_lists, silent_of, of_action, of_vector, IsMemberOf, vector_of, Names, MemberLaws}

pub same_group : (l k : Option Name) (r s : List Sum) (x y : List (List Ready)) → l ≡ k → r ≡ s → x ≡ y →
    ◌≡◌ {A = Group} (record { label = l; rewards = r; lists = x }) (record { label = k; rewards = s; lists = y })
same_group l k r s x y d e f = cc

silents : (r : List (Result Fraction EvalFail)) (rewards : List Sum) → map sum_of r ≡ map trimmed_sum rewards → (members : List Member) (ms : List (List Ready)) → AllZip IsMemberOf members ms →
    map (silent_of r) members ≡ map trimmed_group (map (silent_group rewards) ms)
silents r rewards e [] [] h = refl
silents r rewards e [] (m ∷ ms) h = absurd h
silents r rewards e (n ∷ members) [] h = absurd h
silents r rewards e (n ∷ members) (m ∷ ms) h =
    ap₂ (λ a b. a ∷ b) (same_group None None _ _ _ _ refl e (ap (λ l. l ∷ []) h.0.silent)) (silents r rewards e members ms h.1)

-- a member has an action where its commands do
one_shared : (a : Name) (o : Option (List Command)) (m : List Ready) → map command_of (unwrap_or o []) ≡ map trimmed (filter (has_action (Some a)) m) → is_some o ≡ list_any (has_action (Some a)) m →
    (rest : List (List Command)) (more : List (List Ready)) → map (map command_of) rest ≡ map (map trimmed) (map (filter (has_action (Some a))) more) →
    map (map command_of) (if_some o ++ rest) ≡ map (map trimmed) (map (filter (has_action (Some a))) (cond (list_any (has_action (Some a)) m) (m ∷ more) more))
one_shared a None m e h rest more ih = ih ∙ ap (λ b. map (map trimmed) (map (filter (has_action (Some a))) (cond b (m ∷ more) more))) h
one_shared a (Some l) m e h rest more ih = ap₂ (λ x y. x ∷ y) e ih ∙ ap (λ b. map (map trimmed) (map (filter (has_action (Some a))) (cond b (m ∷ more) more))) h

shared : (a : Name) (members : List Member) (ms : List (List Ready)) → AllZip IsMemberOf members ms → map (map command_of) (shared_lists a members) ≡ map (map trimmed) (sharing a ms)
shared a [] [] h = refl
shared a [] (m ∷ ms) h = absurd h
shared a (n ∷ members) [] h = absurd h
shared a (n ∷ members) (m ∷ ms) h =
    one_shared a (commands_with n.parts a) m (h.0.named a) (h.0.has a) (shared_lists a members) (filter (list_any (has_action (Some a))) ms) (shared a members ms h.1)

taken : (parts : List (Option Name)) (members : List Member) (es : List (List Ready)) → AllZip IsMemberOf members es → map (map command_of) (vector_lists parts members) ≡ map (map trimmed) (taking parts es)
taken [] members es h = refl
taken (p ∷ parts) [] [] h = refl
taken (p ∷ parts) [] (e ∷ es) h = absurd h
taken (p ∷ parts) (n ∷ members) [] h = absurd h
taken (None ∷ parts) (n ∷ members) (e ∷ es) h = taken parts members es h.1
taken (Some a ∷ parts) (n ∷ members) (e ∷ es) h = ap₂ (λ x y. x ∷ y) (h.0.named a) (taken parts members es h.1)

by_action : (rewards : Option Name → List Sum) (members : List Member) (ms : List (List Ready)) → AllZip IsMemberOf members ms → (actions : List Action) (names : List Name) → AllZip (Names rewards) actions names →
    map (of_action members) actions ≡ map trimmed_group (map (λ a. record { label = Some a; rewards = rewards (Some a); lists = sharing a ms }) names)
by_action rewards members ms h [] [] k = refl
by_action rewards members ms h [] (a ∷ names) k = absurd k
by_action rewards members ms h (n ∷ actions) [] k = absurd k
by_action rewards members ms h (n ∷ actions) (a ∷ names) k =
    ap₂ (λ x y. x ∷ y)
    (same_group _ _ _ _ _ _ (ap Some k.0.0) k.0.1 (ap (λ b. map (map command_of) (shared_lists b members)) k.0.0 ∙ shared a members ms h))
    (by_action rewards members ms h actions names k.1)

by_vector : (r : List (Result Fraction EvalFail)) (rewards : List Sum) → map sum_of r ≡ map trimmed_sum rewards → (members : List Member) (es : List (List Ready)) → AllZip IsMemberOf members es → (vectors : List Vector) →
    map (of_vector r members) vectors ≡ map trimmed_group (map (λ v. record { label = v.result; rewards = rewards; lists = taking v.parts es }) (map vector_of vectors))
by_vector r rewards e members es h [] = refl
by_vector r rewards e members es h (v ∷ vectors) =
    ap₂ (λ x y. x ∷ y) (same_group v.result v.result _ _ _ _ refl e (taken v.parts members es h)) (by_vector r rewards e members es h vectors)

pub member_laws : MemberLaws
member_laws = record {
  modules = λ r actions members rewards ms e k h.
      ap₂ (λ a b. a ++ b) (silents r (rewards None) e members ms h) (by_action rewards members ms h actions (actions_of ms) k)
      ∙ sym (map-append trimmed_group (map (silent_group (rewards None)) ms) (map (λ a. record { label = Some a; rewards = rewards (Some a); lists = sharing a ms }) (actions_of ms)));
  elements = λ r vectors members rewards es e h.
      ap₂ (λ a b. a ++ b) (silents r rewards e members es h) (by_vector r rewards e members es h vectors)
      ∙ sym (map-append trimmed_group (map (silent_group rewards) es) (map (λ (v : core.Vector). record { label = v.result; rewards = rewards; lists = taking v.parts es }) (map vector_of vectors)));
}

-- ---- the next part of a vector
vector_next : (parts : List (Option Name)) (members : List Member) (i : ℕ) (p : Option Name) (m : Member) → i < length parts → p ≡ get_or parts i p → i < length members → m ≡ get_or members i m →
    vector_lists (drop i parts) (drop i members) ≡ vector_lists (p ∷ drop (i + 1) parts) (m ∷ drop (i + 1) members)
vector_next parts members i p m h e k f = ap₂ vector_lists (drop_item parts i p h e) (drop_item members i m k f)

pub vector_none : (parts : List (Option Name)) (members : List Member) (i : ℕ) (p : Option Name) (m : Member) (so_far whole : List (List Command)) → i < length parts → p ≡ get_or parts i p → i < length members → m ≡ get_or members i m →
    p ≡ None → so_far ++ vector_lists (drop i parts) (drop i members) ≡ whole → so_far ++ vector_lists (drop (i + 1) parts) (drop (i + 1) members) ≡ whole
vector_none parts members i p m so_far whole h e k f is w =
    ap (λ l. so_far ++ l) (sym (vector_next parts members i p m h e k f ∙ ap (λ p. vector_lists (p ∷ drop (i + 1) parts) (m ∷ drop (i + 1) members)) is)) ∙ w

pub vector_some : (parts : List (Option Name)) (members : List Member) (i : ℕ) (p : Option Name) (m : Member) (a : Name) (so_far whole : List (List Command)) → i < length parts → p ≡ get_or parts i p → i < length members →
    m ≡ get_or members i m → p ≡ Some a → so_far ++ vector_lists (drop i parts) (drop i members) ≡ whole →
    (so_far ++ unwrap_or (commands_with m.parts a) [] ∷ []) ++ vector_lists (drop (i + 1) parts) (drop (i + 1) members) ≡ whole
vector_some parts members i p m a so_far whole h e k f is w =
    append_assoc so_far (unwrap_or (commands_with m.parts a) [] ∷ []) (vector_lists (drop (i + 1) parts) (drop (i + 1) members))
    ∙ ap (λ l. so_far ++ l) (sym (vector_next parts members i p m h e k f ∙ ap (λ p. vector_lists (p ∷ drop (i + 1) parts) (m ∷ drop (i + 1) members)) is)) ∙ w
