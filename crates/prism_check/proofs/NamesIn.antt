-- What holds of each name of an expression: where its names are listed, tested, replaced by bodies and read through a map.
use Rattle.std.specs.Prelude.{ℕ, zero, suc, ◌++◌, map, Option, Some, None}
use Rattle.std.specs.Option.{option_map}
use Rattle.basics.specs.Each.{each_join, each_parts, any_map}
use Rattle.op_trees.specs.Tree.{Tree, Truth, Number, Name as At, One, Two, Three, AllNames, replaced, written_out}
use Rattle.op_trees.specs.SeenLaws.{names_then}
use Rattle.op_trees.specs.Names.{names_of}
use Rattle.process_core.specs.Ready.{Name}
use Rattle.prism_flat.specs.WrittenOut.{names-substituted}
use Rattle.std.specs.List.{AllByRecursion as Each}
use Rattle.basics.specs.Options.{IfAny}

-- ---- names as they are listed
pub listed_names : {O : Type 0} (P : Name → Type 0) (t : Tree O) → Each (λ n. P n.name) (names_of t) → AllNames P t
listed_names P (Truth at b) h = tt
listed_names P (Number at d) h = tt
listed_names P (At at x) h = h.0
listed_names P (One at o a) h = listed_names P a h
listed_names P (Two at o a b) h =
    let r = each_parts (λ n. P n.name) (names_of a) (names_of b) h in
    (listed_names P a r.0, listed_names P b r.1)
listed_names P (Three at o a b c) h =
    let r = each_parts (λ n. P n.name) (names_of a) (names_of b ++ names_of c) h in
    let s = each_parts (λ n. P n.name) (names_of b) (names_of c) r.1 in
    (listed_names P a r.0, listed_names P b s.0, listed_names P c s.1)

pub names_listed : {O : Type 0} (P : Name → Type 0) (t : Tree O) → AllNames P t → Each (λ n. P n.name) (names_of t)
names_listed P (Truth at b) h = tt
names_listed P (Number at d) h = tt
names_listed P (At at x) h = (h, tt)
names_listed P (One at o a) h = names_listed P a h
names_listed P (Two at o a b) h = each_join (λ n. P n.name) (names_of a) (names_of b) (names_listed P a h.0) (names_listed P b h.1)
names_listed P (Three at o a b c) h =
    each_join (λ n. P n.name) (names_of a) (names_of b ++ names_of c) (names_listed P a h.0)
    (each_join (λ n. P n.name) (names_of b) (names_of c) (names_listed P b h.1) (names_listed P c h.2))

-- ---- bodies written out
-- where what holds of a name holds of the names in its body, it holds of all names that come out
pub names_written_out : {O : Type 0} (P : Name → Type 0) (bodies : Name → Option (Tree O)) → ((x : Name) → P x → IfAny (AllNames P) (bodies x)) →
    (n : ℕ) (t : Tree O) → AllNames P t → AllNames P (written_out bodies n t)
names_written_out P bodies h zero t p = p
names_written_out {O = O} P bodies h (suc n) t p =
    names-substituted P (λ x. option_map (written_out bodies n) (bodies x)) t
    (names_then P (λ x. (at : ℕ) → AllNames P (replaced (At at x) (option_map (written_out bodies n) (bodies x))))
    (λ x q at. at_name x at q (option_map (written_out bodies n) (bodies x)) (any_map (AllNames P) (AllNames P) (written_out bodies n) (names_written_out P bodies h n) (bodies x) (h x q))) t p)
  where
    at_name : (x : Name) (at : ℕ) → P x → (o : Option (Tree O)) → IfAny (AllNames P) o → AllNames P (replaced (At at x) o)
    at_name x at q None r = q
    at_name x at q (Some b) r = r
