-- New names differ where old ones do.
use Rattle.std.specs.Prelude.{◌≡◌, ℕ, zero, suc, ◌+◌, ◌<◌, ◌≤◌, List, [], ◌∷◌, ◌++◌, map, length, drop, Bool, true, false, Some, slice_get, bytes_eq, if◌then◌else◌, get_or}
use Rattle.std.specs.List.{AllByRecursion, IsDistinct}
use Rattle.std.proofs.Common.{refl, sym, ap, ◌∙◌, arith, length-append}
use Rattle.std.proofs.lemmas.List.{length-map}
use Rattle.basics.specs.Texts.{bytes_ne, bytes_eq-self, bytes_eq-true, bytes_eq_comm}
use Rattle.process_core.specs.Ready.{Name}
use Rattle.prism_tree.specs.Syntax as prism
use Rattle.name_table.specs.declared.class.NameClass.{NameClass}
use Rattle.name_table.specs.declared.class.NameClass.TheVariants.{Constant, Variable, Location, Module, Action, Label, Reward, Property}
use Rattle.name_table.specs.declared.class.Target.TheVariants.{Jani}
use Rattle.name_table.specs.declared.entry.Entry.{Entry}
use Rattle.name_table.specs.Rule.{is_valid, made_name}
use Rattle.name_table.specs.Entries.{Ask, count_of}
use Rattle.name_table.proofs.EntryLemmas.{Comes, was_kept, was_made, placed}
use Rattle.name_table.proofs.Parts.{values_apart}
use Rattle.name_table.specs.Asks.{variables, asks, entries, new_name, value_names, new_names}
use Rattle.jani_translation.proofs.Each.{n_entries}

-- ---- entries with different names, for as many names as there are
abbrev pub Apart : Entry → List Name → List Entry → Type 0
Apart e [] es = Unit {0}
Apart e (y ∷ ys) [] = ⊥
Apart e (y ∷ ys) (u ∷ us) = (bytes_eq e.name u.name ≡ false) × Apart e ys us

abbrev pub Fresh : List Name → List Entry → Type 0
Fresh [] es = Unit {0}
Fresh (y ∷ ys) [] = ⊥
Fresh (y ∷ ys) (e ∷ es) = (e.name ≡ [] → ⊥) × Apart e ys es × Fresh ys es

-- a new name is this one exactly where the old name is that one
abbrev pub Agrees : Name → Name → List Name → List Entry → Type 0
Agrees x z [] es = Unit {0}
Agrees x z (y ∷ ys) [] = ⊥
Agrees x z (y ∷ ys) (e ∷ es) = (bytes_eq e.name z ≡ bytes_eq y x) × Agrees x z ys es

not_among : (e : Entry) (ys : List Name) (es : List Entry) (x : Name) → (e.name ≡ [] → ⊥) → Apart e ys es → bytes_eq e.name (new_name ys es x) ≡ false
not_among e [] es x some a = bytes_ne e.name [] some
not_among e (y ∷ ys) [] x some a = absurd a
not_among e (y ∷ ys) (u ∷ us) x some a = by_answer (bytes_eq y x) (not_among e ys us x some a.1)
  where
    by_answer : (b : Bool) → bytes_eq e.name (new_name ys us x) ≡ false → bytes_eq e.name (if b then u.name else new_name ys us x) ≡ false
    by_answer true r = a.0
    by_answer false r = r

none_agree : (e : Entry) (y x : Name) (ys : List Name) (es : List Entry) → y ≡ x → AllByRecursion (λ u. bytes_eq y u ≡ false) ys → Apart e ys es → Agrees x e.name ys es
none_agree e y x [] es h d a = tt
none_agree e y x (z ∷ ys) [] h d a = absurd a
none_agree e y x (z ∷ ys) (u ∷ us) h d a =
    ((bytes_eq_comm u.name e.name ∙ a.0) ∙ sym (bytes_eq_comm z x ∙ ap (λ n. bytes_eq n z) (sym h) ∙ d.0), none_agree e y x ys us h d.1 a.1)

agrees_by : (e : Entry) (y x : Name) (ys : List Name) (es : List Entry) (b : Bool) → bytes_eq y x ≡ b → AllByRecursion (λ u. bytes_eq y u ≡ false) ys →
    (e.name ≡ [] → ⊥) → Apart e ys es → Agrees x (new_name ys es x) ys es → Agrees x (if b then e.name else new_name ys es x) (y ∷ ys) (e ∷ es)
agrees_by e y x ys es true h d some a r = (bytes_eq-self e.name ∙ sym h, none_agree e y x ys es (bytes_eq-true y x h) d a)
agrees_by e y x ys es false h d some a r = (not_among e ys es x some a ∙ sym h, r)

pub agrees : (x : Name) (ys : List Name) (es : List Entry) → IsDistinct bytes_eq ys → Fresh ys es → Agrees x (new_name ys es x) ys es
unfolding IsDistinct
agrees x [] es d f = tt
agrees x (y ∷ ys) [] d f = absurd f
agrees x (y ∷ ys) (e ∷ es) d f = agrees_by e y x ys es (bytes_eq y x) refl d.0 f.0 f.1 (agrees x ys es d.1 f.2)

-- ---- the entries of constants and variables are such
abbrev pub OneApart : List Name → List Entry → Type 0
OneApart ys es = (i j : ℕ) (e u : Entry) → i < length ys → j < length ys → (i ≡ j → ⊥) → slice_get es i ≡ Some e → slice_get es j ≡ Some u → bytes_eq e.name u.name ≡ false

apart_from : (e : Entry) (ys : List Name) (es : List Entry) → length ys ≤ length es →
    ((j : ℕ) (u : Entry) → j < length ys → slice_get es j ≡ Some u → bytes_eq e.name u.name ≡ false) → Apart e ys es
apart_from e [] es l h = tt
apart_from e (y ∷ ys) [] l h = absurd (omega arith)
apart_from e (y ∷ ys) (u ∷ us) l h = (h 0 u (omega arith) refl, apart_from e ys us (omega arith) (λ j w k g. h (suc j) w (omega arith) g))

pub fresh_from : (ys : List Name) (es : List Entry) → length ys ≤ length es →
    ((i : ℕ) (e : Entry) → slice_get es i ≡ Some e → e.name ≡ [] → ⊥) → OneApart ys es → Fresh ys es
fresh_from [] es l some h = tt
fresh_from (y ∷ ys) [] l some h = absurd (omega arith)
fresh_from (y ∷ ys) (e ∷ es) l some h = (
  some 0 e refl,
  apart_from e ys es (omega arith) (λ j u k g. h 0 (suc j) e u (omega arith) (omega arith) (λ q. absurd (omega arith)) refl g),
  fresh_from ys es (omega arith) (λ i u g. some (suc i) u g)
      (λ i j a b p q d g k. h (suc i) (suc j) a b (omega arith) (omega arith) (λ q. d (omega arith)) g k),
)

-- no name is empty
begins : (c : NameClass) (n : ℕ) → made_name c n ≡ [] → ⊥
begins Constant n h = absurd cc
begins Variable n h = absurd cc
begins Location n h = absurd cc
begins Module n h = absurd cc
begins Action n h = absurd cc
begins Label n h = absurd cc
begins Reward n h = absurd cc
begins Property n h = absurd cc

not_valid : (c : NameClass) (x : Name) → is_valid Jani c x ≡ true → x ≡ [] → ⊥
not_valid c [] h e = absurd cc
not_valid c (b ∷ x) h e = absurd cc

has_bytes : (es : List Entry) (c : NameClass) (a : Ask) (e : Entry) → Comes Jani es a.0 a.1 e → e.name ≡ [] → ⊥
has_bytes es c a e (was_kept x p k h) q = not_valid a.0 x k.valid (sym (ap (λ (u : Entry). u.name) h) ∙ q)
has_bytes es c a e (was_made h) q = begins a.0 (count_of a.0 es) (sym (ap (λ (u : Entry). u.name) h) ∙ q)

module _ (file : prism.File) where
  pub no_empty : (i : ℕ) (e : Entry) → slice_get (entries file) i ≡ Some e → e.name ≡ [] → ⊥
  no_empty i e h =
      let p = placed Jani (asks file) i e h in
      has_bytes _ e.class p.asked e p.comes

  n_values : length (value_names file) ≡ length file.constants + length (variables file)
  n_values =
      let a = length-append (map (λ c. c.name.name) file.constants) (map (λ x. x.name.name) (variables file)) in
      let b = length-map file.constants (λ c. c.name.name) in
      let c = length-map (variables file) (λ x. x.name.name) in
      omega arith

  entries_apart : OneApart (value_names file) (entries file)
  entries_apart i j e u l k d g h = let n = n_values in values_apart file i j e u (omega arith) (omega arith) d g h

  pub enough : length (value_names file) ≤ length (entries file)
  enough = let n = n_values in let m = n_entries file in omega arith

  -- so the new name of a name is that of an entry exactly where it is the old name of the entry
  pub values_agree : IsDistinct bytes_eq (value_names file) → (x : Name) → Agrees x ((new_names file).value x) (value_names file) (entries file)
  values_agree d x = agrees x (value_names file) (entries file) d (fresh_from (value_names file) (entries file) enough no_empty entries_apart)

-- ---- parts of the list
pub agrees_front : (x z : Name) (as_ bs : List Name) (es : List Entry) → Agrees x z (as_ ++ bs) es → Agrees x z as_ es
agrees_front x z [] bs es h = tt
agrees_front x z (a ∷ as_) bs [] h = absurd h
agrees_front x z (a ∷ as_) bs (e ∷ es) h = (h.0, agrees_front x z as_ bs es h.1)

pub agrees_back : {X : Type 0} (f : X → Name) (x z : Name) (as_ : List X) (bs : List Name) (es : List Entry) → Agrees x z (map f as_ ++ bs) es → Agrees x z bs (drop (length as_) es)
agrees_back f x z [] bs es h = h
agrees_back f x z (a ∷ as_) bs [] h = absurd h
agrees_back f x z (a ∷ as_) bs (e ∷ es) h = agrees_back f x z as_ bs es h.1

-- the name of each entry is the new name of its old one
abbrev pub Takes : (Name → Name) → List Name → List Entry → Type 0
Takes new [] es = Unit {0}
Takes new (y ∷ ys) [] = ⊥
Takes new (y ∷ ys) (e ∷ es) = (e.name ≡ new y) × Takes new ys es

pub takes_from : (new : Name → Name) (ys : List Name) (es : List Entry) → ((x : Name) → Agrees x (new x) ys es) → Takes new ys es
takes_from new [] es h = tt
takes_from new (y ∷ ys) [] h = absurd (h [])
takes_from new (y ∷ ys) (e ∷ es) h = (bytes_eq-true e.name (new y) ((h y).0 ∙ bytes_eq-self y), takes_from new ys es (λ x. (h x).1))

-- ---- the entry of a declared name
pub record IsEntryOf (x z : Name) (es : List Entry) (k : ℕ) : Type 0 where
  pub entry : Entry
  pub at : slice_get es k ≡ Some entry
  pub name : entry.name ≡ z

pub entry_of : (x z : Name) (ys : List Name) (es : List Entry) (k : ℕ) → k < length ys → get_or ys k x ≡ x → Agrees x z ys es → IsEntryOf x z es k
entry_of x z [] es k l g a = absurd (omega arith)
entry_of x z (y ∷ ys) [] k l g a = absurd a
entry_of x z (y ∷ ys) (e ∷ es) zero l g a =
    record { entry = e; at = refl; name = bytes_eq-true e.name z (a.0 ∙ ap (λ n. bytes_eq n x) g ∙ bytes_eq-self x) }
entry_of x z (y ∷ ys) (e ∷ es) (suc k) l g a =
    let r = entry_of x z ys es k (omega arith) g a.1 in
    record { entry = r.entry; at = r.at; name = r.name }
