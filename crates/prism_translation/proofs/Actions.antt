-- The actions of a translated file's commands are the names of its targets, each once; and the old name of an action is that of
-- its target.
use Rattle.std.specs.Prelude.{◌≡◌, List, [], ◌∷◌, map, Bool, true, false, ◌&&◌, ◌||◌, cond, Option, Some, None, if◌then◌else◌, bytes_eq, get_or}
use Rattle.std.specs.List.{flat_map, filter, find, list_any, All}
use Rattle.std.proofs.Common.{refl, sym, ap, ap₂, ◌∙◌}
use Rattle.std.proofs.lemmas.Slice.Eq.{bytes_eq-Decides}
use Rattle.std.proofs.lemmas.List.Elements.{All-nil, All-cons, All-weaker, All-filter}
use Rattle.std.proofs.lemmas.List.Folds.{list_any-append}
use Rattle.std.proofs.Math.Bool.{or-false}
use Rattle.basics.specs.Texts.{bytes_eq_comm}
use Rattle.basics.specs.Members.{any-map, All-unmap, any_agree, any_two}
use Rattle.process_core.specs.Process.{EquallyOften}
use Rattle.basics.specs.Options.{if_some}
use Rattle.process_core.specs.Ready.{Name, Ready, same_label, has_action, actions_of}
use Rattle.process_core.proofs.Targets.{Distinct, firsts_distinct, any_firsts}
use Rattle.choice_laws.proofs.Members.{same_members}
use Rattle.choice_laws.proofs.Walks.{any-flat_map, any_agree_in, filter_none, any-filter, any_exchange, any_and, filter_all}
use Rattle.choice_laws.proofs.Truths.{and_or}
use Rattle.process_core.specs.Instance.{only_if}
use Rattle.jani_tree.specs.Syntax.{File}
use Rattle.prism_translation.specs.Elements.{Element, elements, Placed, placed_edges}
use Rattle.prism_translation.specs.Targets.{Target, serves, serves_silently, is_blocked, old_name}
use Rattle.prism_translation.specs.Modules.{Action}
use Rattle.prism_translation.specs.StateLaws.{old_name_of, old_label_by}
use Rattle.prism_translation.proofs.CommandsAlike.{Evaluation, module_ready, commands_at, AreCommands, IsAlone, joins}

-- ---- names that stand once
abbrev pub AreDistinct : List Action → Type 0
AreDistinct ts = Distinct bytes_eq bytes_eq-Decides (map (λ t. t.name) ts)

-- an action among others
abbrev pub IsAloneIn : List Action → Action → Type 0
IsAloneIn ts t = (q : Action → Bool) → filter (λ u. bytes_eq t.name u.name) (filter q ts) ≡ only_if (q t) t

kept_one : (f : Action → Bool) (b : Bool) (t : Action) (F : List Action) → f t ≡ true → filter f F ≡ [] → filter f (cond b (t ∷ F) F) ≡ only_if b t
kept_one f true t F h e = ap₂ (λ (c : Bool) (l : List Action). cond c (t ∷ l) l) h e
kept_one f false t F h e = e

kept_none : (f : Action → Bool) (b : Bool) (t : Action) (F : List Action) → f t ≡ false → filter f (cond b (t ∷ F) F) ≡ filter f F
kept_none f true t F h = ap (λ (c : Bool). cond c (t ∷ filter f F) (filter f F)) h
kept_none f false t F h = refl

pub alone_in : (ts : List Action) → AreDistinct ts → All (IsAloneIn ts) ts
alone_in [] h = All-nil (IsAloneIn [])
alone_in (t ∷ ts) h =
    let others = All-unmap (λ y. bytes_eq t.name y ≡ false) (λ (u : Action). u.name) ts h.0 in
    All-cons (IsAloneIn (t ∷ ts)) t ts
    (λ q. kept_one (λ u. bytes_eq t.name u.name) (q t) t (filter q ts) ((bytes_eq-Decides t.name t.name).1 refl)
    (filter_none (λ u. bytes_eq t.name u.name) (filter q ts) (All-filter q (λ u. bytes_eq t.name u.name ≡ false) ts others)))
    (λ k d l q.
    let u = get_or ts k d in
    kept_none (λ w. bytes_eq u.name w.name) (q t) t (filter q ts) (bytes_eq_comm u.name t.name ∙ others k d l) ∙ alone_in ts h.1 k d l q)

-- ---- the old name of an action
found_first : (p : Action → Bool) (t : Action) (ts : List Action) → filter p ts ≡ t ∷ [] → find p ts ≡ Some t
found_first p t [] h = absurd cc
found_first p t (u ∷ ts) h = by_test (p u) h (found_first p t ts)
  where
    by_test : (b : Bool) → cond b (u ∷ filter p ts) (filter p ts) ≡ t ∷ [] → (filter p ts ≡ t ∷ [] → find p ts ≡ Some t) → (if b then Some u else find p ts) ≡ Some t
    by_test true h ih = let e : u ≡ t = cc in ap Some e
    by_test false h ih = ih h

pub old_labels : (ts : List Action) → AreDistinct ts → All (λ t. old_label_by ts (Some t.name) ≡ old_name t.target) ts
old_labels ts h k d l =
    let t = get_or ts k d in
    ap old_name_of (found_first (λ u. bytes_eq t.name u.name) t ts (ap (filter (λ u. bytes_eq t.name u.name)) (sym (filter_all ts)) ∙ alone_in ts h k d l (λ u. true)))

-- ---- the actions of commands
module _ (file : File) (acts : List Action) (seen : Evaluation) where
  pub are_alone : AreDistinct acts → All (IsAlone file acts seen) acts
  are_alone h = alone_in acts h

  abbrev here : Element → List Ready
  here el = module_ready file acts seen el

  abbrev joined : Target → Element → Bool
  joined t el = joins file acts seen t el

  module _ (are : AreCommands file acts seen) where
    named : (x : Name) (p : Placed) → list_any (has_action (Some x)) (commands_at file acts seen p) ≡ list_any (λ t. serves file t.target p && bytes_eq x t.name) acts
    named x p =
        list_any-append (has_action (Some x)) (map (λ t. seen.command p (Some t.name)) (filter (λ t. serves file t.target p) acts)) (only_if (serves_silently file p) (seen.command p None))
        ∙ ap₂ (λ a b. a || b)
        (any-map (has_action (Some x)) (λ t. seen.command p (Some t.name)) (filter (λ t. serves file t.target p) acts)
        ∙ any_agree (λ t. has_action (Some x) (seen.command p (Some t.name))) (λ t. bytes_eq x t.name) (λ t. ap (same_label (Some x)) (are.command p (Some t.name))) (filter (λ t. serves file t.target p) acts)
        ∙ any-filter (λ t. bytes_eq x t.name) (λ t. serves file t.target p) acts)
        (by_test (serves_silently file p))
        ∙ or-false (list_any (λ t. serves file t.target p && bytes_eq x t.name) acts)
      where
        by_test : (b : Bool) → list_any (has_action (Some x)) (only_if b (seen.command p None)) ≡ false
        by_test true = ap (λ a. same_label (Some x) a || false) (are.command p None)
        by_test false = refl

    named_here : (x : Name) (el : Element) → list_any (has_action (Some x)) (here el) ≡ list_any (λ t. joined t.target el && bytes_eq x t.name) acts
    named_here x el =
        list_any-append (has_action (Some x)) (flat_map (commands_at file acts seen) (placed_edges el)) (map (λ t. seen.block t.name) (filter (λ t. is_blocked file el t.target) acts))
        ∙ ap₂ (λ a b. a || b)
        (any-flat_map (has_action (Some x)) (commands_at file acts seen) (placed_edges el)
        ∙ any_agree _ _ (named x) (placed_edges el)
        ∙ any_exchange (λ p t. serves file t.target p && bytes_eq x t.name) (placed_edges el) acts
        ∙ any_agree _ _ (λ t. any_and (serves file t.target) (bytes_eq x t.name) (placed_edges el)) acts)
        (any-map (has_action (Some x)) (λ t. seen.block t.name) (filter (λ t. is_blocked file el t.target) acts)
        ∙ any_agree (λ t. has_action (Some x) (seen.block t.name)) (λ t. bytes_eq x t.name) (λ t. ap (same_label (Some x)) (are.block t.name)) (filter (λ t. is_blocked file el t.target) acts)
        ∙ any-filter (λ t. bytes_eq x t.name) (λ t. is_blocked file el t.target) acts)
        ∙ sym (any_two (λ t. list_any (serves file t.target) (placed_edges el) && bytes_eq x t.name) (λ t. is_blocked file el t.target && bytes_eq x t.name) acts)
        ∙ any_agree _ _ (λ t. and_or (list_any (serves file t.target) (placed_edges el)) (is_blocked file el t.target) (bytes_eq x t.name)) acts

    abbrev pub IsJoined : Action → Type 0
    IsJoined t = list_any (joined t.target) (elements file) ≡ true

    same_name : (x : Name) (a : Option Name) → list_any (bytes_eq x) (if_some a) ≡ same_label (Some x) a
    same_name x None = refl
    same_name x (Some y) = or-false (bytes_eq x y)

    names_alike : All IsJoined acts → (x : Name) → list_any (bytes_eq x) (actions_of (map here (elements file))) ≡ list_any (bytes_eq x) (map (λ t. t.name) acts)
    names_alike h x =
        any_firsts bytes_eq bytes_eq-Decides (bytes_eq x) (flat_map (λ m. flat_map (λ r. if_some r.action) m) (map here (elements file)))
        ∙ any-flat_map (bytes_eq x) (λ m. flat_map (λ r. if_some r.action) m) (map here (elements file))
        ∙ any-map (λ m. list_any (bytes_eq x) (flat_map (λ r. if_some r.action) m)) here (elements file)
        ∙ any_agree _ _
        (λ el. any-flat_map (bytes_eq x) (λ r. if_some r.action) (here el) ∙ any_agree _ _ (λ r. same_name x r.action) (here el) ∙ named_here x el) (elements file)
        ∙ any_exchange (λ el t. joined t.target el && bytes_eq x t.name) (elements file) acts
        ∙ any_agree_in _ (λ t. bytes_eq x t.name) acts
        (All-weaker IsJoined (λ t. list_any (λ el. joined t.target el && bytes_eq x t.name) (elements file) ≡ bytes_eq x t.name)
        (λ t e. any_and (joined t.target) (bytes_eq x t.name) (elements file) ∙ ap (λ b. b && bytes_eq x t.name) e) acts h)
        ∙ sym (any-map (bytes_eq x) (λ t. t.name) acts)

    -- Each name of a target is the action of a command, and they are the actions of commands.
    pub actions_are_names : AreDistinct acts → All IsJoined acts → EquallyOften (actions_of (map here (elements file))) (map (λ t. t.name) acts)
    actions_are_names d h =
        same_members bytes_eq bytes_eq-Decides (actions_of (map here (elements file))) (map (λ t. t.name) acts)
        (firsts_distinct bytes_eq bytes_eq-Decides (flat_map (λ m. flat_map (λ r. if_some r.action) m) (map here (elements file)))) d (names_alike h)
