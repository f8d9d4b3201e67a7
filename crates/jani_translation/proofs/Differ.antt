-- New names of constants, variables and actions differ, and no action becomes zz_silent.
use Rattle.std.specs.Prelude.{◌≡◌, ℕ, zero, suc, ◌+◌, ◌<◌, ◌≤◌, List, [], ◌∷◌, map, length, drop, Bool, true, false, Some, slice_get, get_or, bytes_eq, if◌then◌else◌}
use Rattle.std.specs.List.{IsDistinct, zip}
use Rattle.std.proofs.Common.{refl, sym, ap, ap₂, ◌∙◌, arith, length-drop}
use Rattle.std.proofs.lemmas.Slice.Eq.{bytes_eq-Decides}
use Rattle.std.proofs.lemmas.List.Elements.{recursion_from_All}
use Rattle.basics.specs.Texts.{bytes_eq-self, bytes_eq-true}
use Rattle.process_core.specs.Ready.{Name}
use Rattle.process_core.proofs.Targets.{Distinct, firsts_distinct}
use Rattle.prism_tree.specs.Syntax as prism
use Rattle.name_table.specs.declared.class.NameClass.{NameClass}
use Rattle.name_table.specs.declared.class.NameClass.TheVariants.{Action}
use Rattle.name_table.specs.declared.class.Target.TheVariants.{Jani}
use Rattle.name_table.specs.declared.entry.Entry.{Entry}
use Rattle.name_table.specs.Rule.{made_name}
use Rattle.name_table.proofs.Parts.{not_named, action_at, action_class, actions_apart}
use Rattle.name_table.specs.Asks.{actions, variables, asks, entries, actions_at, new_name, value_names, new_names}
use Rattle.jani_translation.specs.Parts.{constant}
use Rattle.jani_translation.specs.Automata.{zz_silent}
use Rattle.jani_translation.specs.NameLaws.{ValuesDiffer, ConstantNames, ActionsDiffer, ActionsAreNotSilent}
use Rattle.jani_translation.proofs.Each.{n_entries}
use Rattle.jani_translation.proofs.Fresh.{Agrees, agrees, fresh_from, no_empty, values_agree, agrees_front, Takes, takes_from}
use Rattle.jani_translation.proofs.SameSeen.{zip-take}

-- a new name that is that of an old name comes of it
comes_of : (x y z w : Name) (ys : List Name) (es : List Entry) (k : ℕ) → k < length ys → get_or ys k x ≡ x → Agrees x z ys es → Agrees y w ys es → w ≡ z → y ≡ x
comes_of x y z w [] es k l g a b e = absurd (omega arith)
comes_of x y z w (u ∷ ys) [] k l g a b e = absurd a
comes_of x y z w (u ∷ ys) (c ∷ es) zero l g a b e =
    let p : bytes_eq c.name z ≡ true = a.0 ∙ ap (λ n. bytes_eq n x) g ∙ bytes_eq-self x in
    let q : bytes_eq u y ≡ true = sym b.0 ∙ ap (bytes_eq c.name) e ∙ p in
    sym (bytes_eq-true u y q) ∙ g
comes_of x y z w (u ∷ ys) (c ∷ es) (suc k) l g a b e = comes_of x y z w ys es k (omega arith) g a.1 b.1 e

pub values_differ : (file : prism.File) → ValuesDiffer file
values_differ file d x y c e =
    comes_of x y ((new_names file).value x) ((new_names file).value y) (value_names file) (entries file) c.0 c.1 c.2 (values_agree file d x) (values_agree file d y) e

constant_names : (new : Name → Name) (cs : List prism.Const) (es : List Entry) → Takes new (map (λ c. c.name.name) cs) es →
    map (λ c. c.name.name) (map (λ p. constant new p.0 p.1) (zip cs es)) ≡ map (λ c. new c.name.name) cs
constant_names new [] es t = refl
constant_names new (c ∷ cs) [] t = absurd t
constant_names new (c ∷ cs) (e ∷ es) t = ap₂ (λ x r. x ∷ r) t.0 (constant_names new cs es t.1)

pub names_of_constants : (file : prism.File) → ConstantNames file
names_of_constants file d =
    let new = (new_names file).value in
    let old = map (λ c. c.name.name) file.constants in
    ap (λ ps. map (λ c. c.name.name) (map (λ p. constant new p.0 p.1) ps)) (zip-take file.constants (entries file))
    ∙ constant_names new file.constants (entries file)
    (takes_from new old (entries file) (λ x. agrees_front x (new x) old (map (λ y. y.name.name) (variables file)) (entries file) (values_agree file d x)))

-- ---- actions stand each once
distinct : (xs : List Name) → Distinct bytes_eq bytes_eq-Decides xs → IsDistinct bytes_eq xs
unfolding IsDistinct
distinct [] h = tt
distinct (x ∷ xs) h = (recursion_from_All (λ y. bytes_eq x y ≡ false) xs h.0, distinct xs h.1)

pub actions_distinct : (file : prism.File) → IsDistinct bytes_eq (actions file)
actions_distinct file = distinct (actions file) (firsts_distinct bytes_eq bytes_eq-Decides _)

-- ---- the entries of actions
module _ (file : prism.File) where
  enough : length (actions file) ≤ length (drop (actions_at file (entries file)) (entries file))
  enough = let n = n_entries file in let d = length-drop (actions_at file (entries file)) (entries file) in omega arith

  actions_agree : (x : Name) → Agrees x ((new_names file).action x) (actions file) (drop (actions_at file (entries file)) (entries file))
  actions_agree x =
      agrees x (actions file) (drop (actions_at file (entries file)) (entries file)) (actions_distinct file)
      (fresh_from (actions file) (drop (actions_at file (entries file)) (entries file)) enough
      (λ i e g. no_empty file (actions_at file (entries file) + i) e (action_at file i e g)) (λ i j e u l k. actions_apart file i j e u))

pub actions_differ : (file : prism.File) → ActionsDiffer file
actions_differ file a b c e =
    comes_of a b ((new_names file).action a) ((new_names file).action b) (actions file) _ c.0 c.1 c.2 (actions_agree file a) (actions_agree file b) e

-- ---- no action is zz_silent
new_has : (P : Name → Type 0) → P [] → (ys : List Name) (es : List Entry) (x : Name) → ((i : ℕ) (e : Entry) → slice_get es i ≡ Some e → P e.name) → P (new_name ys es x)
new_has P n [] es x h = n
new_has P n (y ∷ ys) [] x h = n
new_has P n (y ∷ ys) (e ∷ es) x h = by_answer (bytes_eq y x) (h 0 e refl) (new_has P n ys es x (λ i u g. h (suc i) u g))
  where
    by_answer : (b : Bool) → P e.name → P (new_name ys es x) → P (if b then e.name else new_name ys es x)
    by_answer true p q = p
    by_answer false p q = q

made_other : (c : NameClass) (n : ℕ) → c ≡ Action → made_name c n ≡ zz_silent.name → ⊥
made_other c n e h =
    let q : made_name Action n ≡ zz_silent.name = ap (λ d. made_name d n) (sym e) ∙ h in
    let r : ◌≡◌ {A = ℕ} 97 115 = ap (λ l. get_or l 3 0) q in
    omega arith

pub actions_are_not_silent : (file : prism.File) → ActionsAreNotSilent file
actions_are_not_silent file a =
    new_has (λ n. n ≡ zz_silent.name → ⊥) (λ e. absurd cc) (actions file) (drop (actions_at file (entries file)) (entries file)) a
    (λ i e g.
    let h = action_at file i e g in
    not_named Jani (asks file) (actions_at file (entries file) + i) e zz_silent.name h refl (λ n q. made_other e.class n (action_class file i e h) q))
