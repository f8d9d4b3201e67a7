-- Tables of how many declarations of each name are not placed.
use Rattle.std.specs.Prelude.{ℕ, suc, ◌+◌, ◌<◌, ◌≤◌, List, [], ◌∷◌, map, length, drop, get_or, Option, Some, Bool, true, false, bytes_eq, unwrap_or, if◌then◌else◌}
use Rattle.std.proofs.Common.{◌≡◌, refl, sym, ap, ◌∙◌, arith}
use Rattle.std.proofs.lemmas.List.{at_drop_more}
use Rattle.std.proofs.lemmas.Slice.Eq.{bytes_eq-Decides}
use Rattle.std.proofs.lemmas.List.{length-map}
use Rattle.name_rules.specs.Names.{Name}
use Rattle.op_trees.specs.Names.{is_called}
use Rattle.name_rules.specs.declared.declarations.Declaration.{Declaration}
use Rattle.name_rules.specs.Circles.{Declared}
use Rattle.name_rules.specs.Circles.{declared_by}
use Rattle.name_rules.specs.Rounds.{one_if, waiting}

pub count_or : (b : Bool) (n : ℕ) (o : Option ℕ) → unwrap_or (if b then Some n else o) 0 ≡ (if b then n else unwrap_or o 0)
count_or true n o = refl
count_or false n o = refl

pub waiting_most : (ds : List Declared) (x : Name) → waiting ds [] x ≤ length ds
waiting_most [] x = omega arith
waiting_most (d ∷ ds) x = by_test (is_called x d.name) (waiting_most ds x)
  where
    by_test : (b : Bool) → waiting ds [] x ≤ length ds → one_if b + waiting ds [] x ≤ suc (length ds)
    by_test true h = omega (arith, h)
    by_test false h = omega (arith, h)

-- one declaration of a list
pub waiting_more : (ds : List Declaration) (i : ℕ) (d : Declaration) (x : Name) → i < length ds → d ≡ get_or ds i d →
    waiting (map declared_by (drop i ds)) [] x ≡ one_if (bytes_eq d.name.now x) + waiting (map declared_by (drop (i + 1) ds)) [] x
waiting_more ds i d x h is =
    at_drop_more (λ ys. waiting (map declared_by ys) [] x) ds i d h
    ∙ ap (λ e. one_if (bytes_eq e.name.now x) + waiting (map declared_by (drop (i + 1) ds)) [] x) (sym is)

pub counted_more : (ds : List Declaration) (i : ℕ) (d : Declaration) (old new : Name → ℕ) → i < length ds → d ≡ get_or ds i d →
    ((x : Name) → new x ≡ (if bytes_eq d.name.now x then old d.name.now + 1 else old x)) →
    ((x : Name) → old x + waiting (map declared_by (drop i ds)) [] x ≡ waiting (map declared_by ds) [] x) →
    (x : Name) → new x + waiting (map declared_by (drop (i + 1) ds)) [] x ≡ waiting (map declared_by ds) [] x
counted_more ds i d old new h is put so_far x =
    ap (λ n. n + waiting (map declared_by (drop (i + 1) ds)) [] x) (put x)
    ∙ by_test (bytes_eq d.name.now x) refl (waiting_more ds i d x h is)
    ∙ so_far x
  where
    by_test : (b : Bool) → bytes_eq d.name.now x ≡ b →
        waiting (map declared_by (drop i ds)) [] x ≡ one_if (bytes_eq d.name.now x) + waiting (map declared_by (drop (i + 1) ds)) [] x →
        (if b then old d.name.now + 1 else old x) + waiting (map declared_by (drop (i + 1) ds)) [] x ≡ old x + waiting (map declared_by (drop i ds)) [] x
    by_test true e w =
        let same = ap old ((bytes_eq-Decides d.name.now x).0 e) in
        let one = w ∙ ap (λ c. one_if c + waiting (map declared_by (drop (i + 1) ds)) [] x) e in
        omega (arith, same, one)
    by_test false e w =
        let none = w ∙ ap (λ c. one_if c + waiting (map declared_by (drop (i + 1) ds)) [] x) e in
        omega (arith, none)

-- no table counts more than there are
pub count_fits : (ds : List Declaration) (i : ℕ) (d : Declaration) (old : Name → ℕ) → i < length ds → d ≡ get_or ds i d →
    ((x : Name) → old x + waiting (map declared_by (drop i ds)) [] x ≡ waiting (map declared_by ds) [] x) → old d.name.now + 1 ≤ length ds
count_fits ds i d old h is so_far =
    let one = waiting_more ds i d d.name.now h is ∙ ap (λ c. one_if c + waiting (map declared_by (drop (i + 1) ds)) [] d.name.now) ((bytes_eq-Decides d.name.now d.name.now).1 refl) in
    let all = so_far d.name.now in
    let most = waiting_most (map declared_by ds) d.name.now in
    let size = length-map ds declared_by in
    omega (arith, one, all, most, size)
