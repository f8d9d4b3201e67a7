-- The elements of a translated file are its automata: no two have one name, and each has one location and no variables.
use Rattle.std.specs.Prelude.{◌≡◌, ℕ, suc, ◌+◌, List, [], ◌∷◌, ◌++◌, map, length, Bool, true, false, cond, Some, unwrap_or, slice_get, get_or, bytes_eq}
use Rattle.std.specs.List.{find, AllByRecursion}
use Rattle.std.proofs.Common.{refl, sym, ap, ap₂, ◌∙◌, arith}
use Rattle.basics.specs.Texts.{bytes_ne, bytes_eq-self}
use Rattle.bridge_io.specs.declared.reason.Named.{Named}
use Rattle.prism_tree.specs.Syntax as prism
use Rattle.process_core.specs.Instance.{only_if}
use Rattle.jani_tree.specs.Syntax.{Automaton, Write, plain_element}
use Rattle.op_trees.specs.Names.{is_called}
use Rattle.jani_meaning.specs.Elements.{nothing_called, elements}
use Rattle.name_table.specs.declared.class.NameClass.{NameClass}
use Rattle.name_table.specs.declared.class.NameClass.TheVariants.{Module as OfModule}
use Rattle.name_table.specs.declared.class.Target.TheVariants.{Jani}
use Rattle.name_table.specs.declared.entry.Entry.{Entry}
use Rattle.name_table.specs.Rule.{made_name}
use Rattle.name_table.proofs.Parts.{get_part, not_named, module_class, modules_apart}
use Rattle.name_table.specs.Asks.{bodies, asks, entries, modules_at, NewNames, new_names}
use Rattle.jani_translation.specs.Automata.{zz_monitor, automaton, module_automaton, module_automata, monitor, monitor_edges, earns_silently, has_monitor, location_values}
use Rattle.jani_translation.specs.Translated.{translated}
use Rattle.jani_meaning.specs.LoopLaws.{elements_plain}
use Rattle.jani_translation.proofs.Counts.{elements_named}

-- ---- automata of different names are found by their names
abbrev pub IsOther : Automaton → Automaton → Type 0
IsOther a b = bytes_eq a.name.name b.name.name ≡ false

abbrev pub AreLone : List Automaton → Type 0
AreLone [] = Unit {0}
AreLone (a ∷ as_) = AllByRecursion (IsOther a) as_ × AreLone as_

called_in : List Automaton → Named → Automaton
called_in as_ n = unwrap_or (find (λ a. is_called n.name a.name) as_) (nothing_called n)

found_by : (b : Bool) (a : Automaton) (as_ : List Automaton) (n : Named) → b ≡ false →
    unwrap_or (cond b (Some a) (find (λ a. is_called n.name a.name) as_)) (nothing_called n) ≡ unwrap_or (find (λ a. is_called n.name a.name) as_) (nothing_called n)
found_by true a as_ n h = absurd cc
found_by false a as_ n h = refl

found_first : (b : Bool) (a : Automaton) (as_ : List Automaton) (n : Named) → b ≡ true →
    unwrap_or (cond b (Some a) (find (λ a. is_called n.name a.name) as_)) (nothing_called n) ≡ a
found_first true a as_ n h = refl
found_first false a as_ n h = absurd cc

passed : (a : Automaton) (as_ bs : List Automaton) → AllByRecursion (IsOther a) bs → map (called_in (a ∷ as_)) (map (λ b. b.name) bs) ≡ map (called_in as_) (map (λ b. b.name) bs)
unfolding called_in
passed a as_ [] h = refl
passed a as_ (b ∷ bs) h = ap₂ (λ x r. x ∷ r) (found_by (bytes_eq a.name.name b.name.name) a as_ b.name h.0) (passed a as_ bs h.1)

all_called : (as_ : List Automaton) → AreLone as_ → map (called_in as_) (map (λ b. b.name) as_) ≡ as_
unfolding called_in
all_called [] h = refl
all_called (a ∷ as_) h =
    ap₂ (λ x r. x ∷ r) (found_first (bytes_eq a.name.name a.name.name) a as_ a.name (bytes_eq-self a.name.name)) (passed a as_ as_ h.0 ∙ all_called as_ h.1)

-- ---- no module is called as the monitor is
made_other : (c : NameClass) (n : ℕ) → c ≡ OfModule → made_name c n ≡ zz_monitor.name → ⊥
made_other c n e h =
    let q : made_name OfModule n ≡ zz_monitor.name = ap (λ d. made_name d n) (sym e) ∙ h in
    let r : ◌≡◌ {A = ℕ} 95 111 = ap (λ l. get_or l 4 0) q in
    omega arith

module_no_monitor : (file : prism.File) (i : ℕ) (e : Entry) → slice_get (new_names file).modules i ≡ Some e → bytes_eq e.name zz_monitor.name ≡ false
module_no_monitor file i e h =
    let at = modules_at file (entries file) in
    let a = get_part at (length file.modules) i (entries file) e h in
    bytes_ne e.name zz_monitor.name (not_named Jani (asks file) (at + i) e zz_monitor.name a.1 refl (λ n q. made_other e.class n (module_class file i e a.0 a.1) q))

-- ---- automata by their names
module _ (names : NewNames) (silently : Bool) where
  others : (a : Automaton) (ws : List Write) (ms : List prism.Body) (es : List Entry) (rest : List Automaton) →
      ((i : ℕ) (e : Entry) → slice_get es i ≡ Some e → bytes_eq a.name.name e.name ≡ false) → AllByRecursion (IsOther a) rest →
      AllByRecursion (IsOther a) (module_automata names silently ws ms es ++ rest)
  others a ws [] es rest h k = k
  others a ws (m ∷ ms) [] rest h k = k
  others a ws (m ∷ ms) (e ∷ es) rest h k = (h 0 e refl, others a [] ms es rest (λ i u g. h (suc i) u g) k)

  lone : (ws : List Write) (ms : List prism.Body) (es : List Entry) (rest : List Automaton) →
      ((i j : ℕ) (e u : Entry) → (i ≡ j → ⊥) → slice_get es i ≡ Some e → slice_get es j ≡ Some u → bytes_eq e.name u.name ≡ false) →
      ((i : ℕ) (e : Entry) (a : Automaton) → slice_get es i ≡ Some e → a.name.name ≡ e.name → AllByRecursion (IsOther a) rest) → AreLone rest →
      AreLone (module_automata names silently ws ms es ++ rest)
  lone ws [] es rest h k l = l
  lone ws (m ∷ ms) [] rest h k l = l
  lone ws (m ∷ ms) (e ∷ es) rest h k l = (
    others (module_automaton names silently ws m e) [] ms es rest (λ i u g. h 0 (suc i) e u (λ q. absurd (omega arith)) refl g) (k 0 e (module_automaton names silently ws m e) refl refl),
    lone [] ms es rest (λ i j x y d p q. h (suc i) (suc j) x y (λ r. d (omega arith)) p q) (λ i u a g q. k (suc i) u a g q) l,
  )

other_monitor : (b : Bool) (m a : Automaton) (x : List ℕ) → a.name.name ≡ x → bytes_eq x m.name.name ≡ false → AllByRecursion (IsOther a) (only_if b m)
other_monitor true m a x e h = (ap (λ n. bytes_eq n m.name.name) e ∙ h, tt)
other_monitor false m a x e h = tt

lone_one : (b : Bool) (a : Automaton) → AreLone (only_if b a)
lone_one true a = (tt, tt)
lone_one false a = tt

pub automata_lone : (file : prism.File) → AreLone (translated file).automata
automata_lone file =
    let names = new_names file in
    lone names (earns_silently file) (location_values names file) (bodies file) names.modules (monitor names file) (modules_apart file)
    (λ i e a g q. other_monitor (has_monitor file) (automaton names zz_monitor [] (monitor_edges names file)) a e.name q (module_no_monitor file i e g))
    (lone_one (has_monitor file) (automaton names zz_monitor [] (monitor_edges names file)))

pub elements_are : (file : prism.File) → elements (translated file) ≡ (translated file).automata
unfolding called_in
elements_are file =
    let as_ = (translated file).automata in
    elements_plain (translated file) (plain as_) ∙ ap (map (called_in as_)) (elements_named file) ∙ all_called as_ (automata_lone file)
  where
    plain : (as_ : List Automaton) → AllByRecursion (λ e. e.enable ≡ []) (map (λ a. plain_element a.name) as_)
    plain [] = tt
    plain (a ∷ as_) = (refl, plain as_)

-- ---- each has the one location
abbrev pub IsOne : NewNames → Automaton → Type 0
IsOne names a = (ws : List Write) × (a ≡ automaton names a.name ws a.edges)

modules_one : (names : NewNames) (silently : Bool) (ws : List Write) (ms : List prism.Body) (es : List Entry) (rest : List Automaton) →
    AllByRecursion (IsOne names) rest → AllByRecursion (IsOne names) (module_automata names silently ws ms es ++ rest)
modules_one names silently ws [] es rest h = h
modules_one names silently ws (m ∷ ms) [] rest h = h
modules_one names silently ws (m ∷ ms) (e ∷ es) rest h = ((ws, refl), modules_one names silently [] ms es rest h)

monitor_one : (names : NewNames) (b : Bool) (a : Automaton) → IsOne names a → AllByRecursion (IsOne names) (only_if b a)
monitor_one names true a h = (h, tt)
monitor_one names false a h = tt

pub automata_one : (file : prism.File) → AllByRecursion (IsOne (new_names file)) (translated file).automata
automata_one file =
    let names = new_names file in
    modules_one names (earns_silently file) (location_values names file) (bodies file) names.modules (monitor names file)
    (monitor_one names (has_monitor file) (automaton names zz_monitor [] (monitor_edges names file)) ([], refl))
