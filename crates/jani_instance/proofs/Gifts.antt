-- Lists of what locations give, of one element more.
use Rattle.std.proofs.Common.{◌≡◌, ℕ, zero, suc, ◌+◌, ◌<◌, ◌≤◌, List, [], ◌∷◌, ◌++◌, map, length, take, get_or, Bool, true, false, nat_eq, refl, sym, ap, ap₂, ◌∙◌, append-nil, append_assoc, arith, length-append}
use Rattle.std.specs.Prelude.{if◌then◌else◌}
use Rattle.std.proofs.lemmas.List.{length-map, length-take-le, map-append}
use Rattle.gathering.proofs.Lists.{apart_first, first_apart, next_same}
use Rattle.gathering.proofs.Loops.{taken}
use Rattle.gathering.specs.Lists.{list_under}
use Rattle.gathering.specs.declared.name_lists.NameLists.{NameLists}
use Rattle.process_core.specs.Instance.{numbered}
use Rattle.process_core.specs.Ready.{Name}
use Rattle.jani_tree.specs.Syntax.{Automaton}
use Rattle.jani_instance.specs.Parts.{automaton_at}
use Rattle.jani_instance.specs.Shapes.{Lent, giver_at}
use Rattle.jani_instance.specs.Transients.{gifts_at, gifts_by, own_list}
use Rattle.jani_instance.specs.declared.data.Giver.{Giver}
use Rattle.jani_instance.specs.declared.parts.Part.{Part}

abbrev Table : Type 0
Table = NameLists (Giver Lent)

pub longer : {X : Type 0} (old new : List X) (x : X) (n : ℕ) → new ≡ old ++ x ∷ [] → length old ≡ n → length new ≡ n + 1
longer old new x n e f = ap length e ∙ length-append old (x ∷ []) ∙ ap (λ m. m + 1) f

pub no_own : (ts : List Table) (k : ℕ) (x : Name) → ts ≡ [] → map giver_at (own_list ts k x) ≡ []
no_own ts k x e = ap (λ l. map giver_at (own_list l k x)) e

numbered-append : {X Y : Type 0} (f : ℕ → X → List Y) (i : ℕ) (xs : List X) (x : X) → numbered f i (xs ++ x ∷ []) ≡ numbered f i xs ++ f (i + length xs) x
numbered-append f i [] x = append-nil (f i x) ∙ ap (λ n. f n x) (let d : i ≡ i + 0 = omega arith in d)
numbered-append f i (y ∷ ys) x =
    ap (λ l. f i y ++ l) (numbered-append f (i + 1) ys x ∙ ap (λ n. numbered f (i + 1) ys ++ f n x) (let d : i + 1 + length ys ≡ i + suc (length ys) = omega arith in d))
    ∙ sym (append_assoc (f i y) (numbered f (i + 1) ys) (f (i + suc (length ys)) x))

-- a table more behind the others
own_behind : (ts : List Table) (t : Table) (k : ℕ) (x : Name) → own_list (ts ++ t ∷ []) k x ≡ own_list ts k x ++ (if nat_eq (length ts) k then list_under t x else [])
own_behind [] t zero x = refl
own_behind [] t (suc k) x = ap (λ (b : Bool). if b then list_under t x else []) (sym (first_apart k))
own_behind (u ∷ us) t zero x = sym (append-nil (list_under u x)) ∙ ap (λ (b : Bool). list_under u x ++ (if b then list_under t x else [])) (sym (apart_first (length us)))
own_behind (u ∷ us) t (suc k) x = own_behind us t k x ∙ ap (λ (b : Bool). own_list us k x ++ (if b then list_under t x else [])) (sym (next_same (length us) k))

seen_if : (b : Bool) (l : List (Giver Lent)) → map giver_at (if b then l else []) ≡ (if b then map giver_at l else [])
seen_if true l = refl
seen_if false l = refl

pub own_more : (parts : List Part) (i : ℕ) (p : Part) (k : ℕ) (x : Name) (old new : List Table) (t : Table) → i < length parts → p ≡ get_or parts i p → new ≡ old ++ t ∷ [] → length old ≡ i →
    map giver_at (own_list old k x) ≡ gifts_at k x (map automaton_at (take i parts)) → map giver_at (list_under t x) ≡ gifts_by x i (automaton_at p) →
    map giver_at (own_list new k x) ≡ gifts_at k x (map automaton_at (take (i + 1) parts))
own_more parts i p k x old new t h e pushed count so_far these =
    let f = λ (n : ℕ) (a : Automaton). if nat_eq n k then gifts_by x n a else [] in
    let before = map automaton_at (take i parts) in
    ap (λ l. map giver_at (own_list l k x)) pushed
    ∙ ap (map giver_at) (own_behind old t k x)
    ∙ map-append giver_at (own_list old k x) (if nat_eq (length old) k then list_under t x else [])
    ∙ ap₂ (λ a b. a ++ b) so_far
    (seen_if (nat_eq (length old) k) (list_under t x)
    ∙ ap₂ (λ (n : ℕ) l. if nat_eq n k then l else []) count these
    ∙ ap (λ n. f n (automaton_at p)) (let d : i ≡ 0 + i = omega arith in d ∙ ap (λ n. 0 + n) (sym (length-map (take i parts) automaton_at ∙ size))))
    ∙ sym (numbered-append f 0 before (automaton_at p))
    ∙ ap (numbered f 0) (sym (ap (map automaton_at) (taken parts i p h e) ∙ map-append automaton_at (take i parts) (p ∷ [])))
  where
    size : length (take i parts) ≡ i
    size = length-take-le i parts (let d : i ≤ length parts = omega (arith, h) in d)
