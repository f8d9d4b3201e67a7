-- The different actions of a file, collected in a set.
use Rattle.std.specs.Prelude.{ℕ, ◌+◌, ◌*◌, ◌<◌, nat_lt, List, [], ◌∷◌, ◌++◌, map, length, take, Bool, true, false, ◌||◌, Option, Some, None, is_some, bytes_eq, if◌then◌else◌}
use Rattle.std.specs.List.{flat_map, list_any, sum_by}
use Rattle.std.specs.Option.{option_map}
use Rattle.std.specs.Borrow.{Bor}
use Rattle.std.proofs.Common.{◌≡◌, refl, sym, ap, ap₂, ◌∙◌, get_or, arith}
use Rattle.std.proofs.Math.Path.{fun_ext}
use Rattle.std.specs.BTreeMap.{BTreeMap, get_by, btree_map_len, is_at}
use Rattle.std.specs.Cmp.Lexicographic.{slice_cmp}
use Rattle.std.specs.Map.{lookup, update}
use Rattle.std.specs.Ordering.{nat_cmp}
use Rattle.std.proofs.lemmas.List.{append-nil, length-append, length-map, map-append, take_more}
use Rattle.std.proofs.lemmas.List.Concat.{flat_map-append}
use Rattle.std.proofs.lemmas.List.Folds.{flat_map-map, list_any-append}
use Rattle.std.proofs.lemmas.Slice.Eq.{bytes_eq-Decides}
use Rattle.basics.specs.Texts.{bytes_eq_comm}
use Rattle.op_trees.specs.Tree.{capped}
use Rattle.process_core.specs.Equal.{IsEquality}
use Rattle.process_core.specs.Often.{sum_by-map}
use Rattle.basics.specs.Options.{if_some}
use Rattle.process_core.specs.Ready.{Name, firsts}
use Rattle.process_core.proofs.Targets.{any_firsts, firsts_more}
use Rattle.prism_tree.specs.declared.syntax.NamePair.{NamePair}
use Rattle.prism_tree.specs.declared.syntax.PrismFile.{PrismFile}
use Rattle.prism_tree.specs.declared.syntax.PrismModule.{PrismModule}
use Rattle.prism_tree.specs.Syntax.{Module, plain, copied, File, file_of, module_of}
use Rattle.prism_flat.specs.Names.{renaming, module_called, copy_of, part_of}
use Rattle.prism_check.specs.SizeFaults.{part_actions, command_count, has_many_vectors}
use Rattle.prism_check.specs.Tables.{pair_for, commands_in}
use Rattle.prism_check.specs.Counted.{actions_by, commands_by, renamed_action, HasEach}
use Rattle.prism_check.proofs.Declared.{renaming_is}

-- ---- a set of names
same_names : IsEquality bytes_eq
same_names x y = bytes_eq-Decides x y

-- one name more
pub one_more : (old new : BTreeMap (Bor (List ℕ)) (Unit {0})) (k : Name) (o : Option (Unit {0})) → ((x : Name) → get_by (λ j. slice_cmp nat_cmp x j.now) new ≡ update bytes_eq (λ y. get_by (λ j. slice_cmp nat_cmp y j.now) old) k (Some tt) x) →
    o ≡ get_by (λ j. slice_cmp nat_cmp k j.now) old → btree_map_len new ≡ btree_map_len old + (if is_some o then 0 else 1) → (ns : List Name) → HasEach old ns → HasEach new (ns ++ k ∷ [])
one_more old new k o found stood counts ns h = record {
  has = λ x. ap is_some (found x) ∙ by_test x (bytes_eq k x) refl ∙ sym (list_any-append (bytes_eq x) ns (k ∷ []));
  count = counts ∙ ap₂ (λ a b. a + (if b then 0 else 1)) h.count (ap is_some stood ∙ h.has k ∙ sym (any_firsts bytes_eq same_names (bytes_eq k) ns)) ∙ longer (list_any (bytes_eq k) (firsts bytes_eq ns)) ∙ sym (ap length (firsts_more bytes_eq same_names ns k));
}
  where
    at_last : (x : Name) (b : Bool) → bytes_eq x k ≡ b → (list_any (bytes_eq x) ns || (b || false)) ≡ (list_any (bytes_eq x) ns || list_any (bytes_eq x) (k ∷ []))
    at_last x b e = ap (λ c. list_any (bytes_eq x) ns || (c || false)) (sym e)

    or_true : (b : Bool) → true ≡ (b || (true || false))
    or_true true = refl
    or_true false = refl

    or_false : (b : Bool) → b ≡ (b || (false || false))
    or_false true = refl
    or_false false = refl

    by_test : (x : Name) (b : Bool) → bytes_eq k x ≡ b → is_some (if b then Some tt else get_by (λ j. slice_cmp nat_cmp x j.now) old) ≡ (list_any (bytes_eq x) ns || list_any (bytes_eq x) (k ∷ []))
    by_test x true e = or_true (list_any (bytes_eq x) ns) ∙ at_last x true (bytes_eq_comm x k ∙ e)
    by_test x false e = h.has x ∙ or_false (list_any (bytes_eq x) ns) ∙ at_last x false (bytes_eq_comm x k ∙ e)

    longer : (b : Bool) → length (firsts bytes_eq ns) + (if b then 0 else 1) ≡ length (if b then firsts bytes_eq ns else firsts bytes_eq ns ++ k ∷ [])
    longer true = omega arith
    longer false = sym (length-append (firsts bytes_eq ns) (k ∷ []))

pub none_yet : (set : BTreeMap (Bor (List ℕ)) (Unit {0})) → set.entries ≡ [] → HasEach set []
none_yet set e = record { has = λ x. ap (λ es. is_some (lookup (is_at (λ k. slice_cmp nat_cmp x k.now)) es)) e; count = ap length e }

-- ---- the names of one thing more
pub names_more : {A B : Type 0} (f : B → List Name) (view : A → B) (xs : List A) (i : ℕ) (x : A) → i < length xs → x ≡ get_or xs i x →
    flat_map f (map view (take (i + 1) xs)) ≡ flat_map f (map view (take i xs)) ++ f (view x)
names_more f view xs i x h e =
    ap (λ l. flat_map f (map view l)) (take_more xs i x h ∙ ap (λ w. take i xs ++ w ∷ []) (sym e)) ∙ ap (flat_map f) (map-append view (take i xs) (x ∷ []))
    ∙ flat_map-append f (map view (take i xs)) (view x ∷ []) ∙ ap (λ l. flat_map f (map view (take i xs)) ++ l) (append-nil (f (view x)))

-- ---- the actions of a module
copy_actions : (ps : List NamePair) (o : Option Module) → flat_map (renamed_action (pair_for ps)) (commands_in o) ≡ part_actions (copy_of (renaming ps) o)
copy_actions ps None = refl
copy_actions ps (Some (plain m)) =
    ap (λ (r : Name → Name). flat_map (λ c. if_some (option_map (λ a. r a.name) c.action)) m.commands) (fun_ext (λ x. sym (renaming_is ps x)))
copy_actions ps (Some (copied m)) = refl

module_actions : (file : File) (m : Module) → actions_by (module_called file) m ≡ part_actions (part_of file m)
module_actions file (plain m) = refl
module_actions file (copied m) = copy_actions m.pairs (module_called file m.from.name)

pub actions_are : (file : File) (ms : List Module) → flat_map (actions_by (module_called file)) ms ≡ flat_map part_actions (map (part_of file) ms)
actions_are file ms = ap (λ f. flat_map f ms) (fun_ext (module_actions file)) ∙ sym (flat_map-map part_actions (part_of file) ms)

-- ---- the commands of a module
copy_commands : (rename : Name → Name) (o : Option Module) → commands_in o ≡ (copy_of rename o).commands
copy_commands rename None = refl
copy_commands rename (Some (plain m)) = refl
copy_commands rename (Some (copied m)) = refl

module_commands : (file : File) (m : Module) → length (commands_by (module_called file) m) ≡ length (part_of file m).commands
module_commands file (plain m) = refl
module_commands file (copied m) = ap length (copy_commands (renaming m.pairs) (module_called file m.from.name))

pub commands_are : (file : PrismFile) → sum_by (λ m. length (commands_by (module_called (file_of file)) (module_of m))) file.modules ≡ command_count (file_of file)
commands_are file =
    ap (λ (f : Module → ℕ). sum_by (λ m. f (module_of m)) file.modules) (fun_ext (module_commands (file_of file)))
    ∙ sym (sum_by-map (λ m. length (part_of (file_of file) m).commands) module_of file.modules)
    ∙ sym (sum_by-map (λ p. length p.commands) (part_of (file_of file)) (map module_of file.modules))

pub counted_commands : (file : PrismFile) (called : Name → Option Module) (all : List PrismModule) (k : ℕ) →
    k ≡ capped (sum_by (λ m. length (commands_by called (module_of m))) all) → called ≡ module_called (file_of file) → all ≡ file.modules →
    k ≡ capped (command_count (file_of file))
counted_commands file called all k e c a =
    e ∙ ap₂ (λ (f : Name → Option Module) (ms : List PrismModule). capped (sum_by (λ m. length (commands_by f (module_of m))) ms)) c a
    ∙ ap capped (commands_are file)

pub counted_vectors : (file : PrismFile) (called : Name → Option Module) (all : List PrismModule) (b : Bool) (modules actions : ℕ) →
    b ≡ nat_lt 4000000 ((modules + 1) * (modules + actions)) → modules ≡ length file.modules →
    actions ≡ length (firsts bytes_eq (flat_map (actions_by called) (map module_of all))) → called ≡ module_called (file_of file) → all ≡ file.modules →
    b ≡ has_many_vectors (file_of file)
counted_vectors file called all b modules actions e m n c a =
    e ∙ ap₂ (λ x y. nat_lt 4000000 ((x + 1) * (x + y))) (m ∙ sym (length-map file.modules module_of))
    (n ∙ ap₂ (λ (f : Name → Option Module) (ms : List PrismModule). length (firsts bytes_eq (flat_map (actions_by f) (map module_of ms)))) c a
    ∙ ap (λ xs. length (firsts bytes_eq xs)) (actions_are (file_of file) (map module_of file.modules)))
