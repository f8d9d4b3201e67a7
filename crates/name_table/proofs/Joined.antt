-- Asks, one list after another.
use Rattle.std.proofs.Common.{◌≡◌, List, map, Option, refl, sym, ◌++◌, ap, ap₂, ◌∙◌}
use Rattle.basics.specs.Lists.{map_agree}
use Rattle.process_core.specs.Product.{map-map}
use Rattle.process_core.specs.Ready.{Name}
use Rattle.name_table.specs.declared.class.NameClass.{NameClass}
use Rattle.name_table.specs.declared.class.Target.{Target}
use Rattle.name_table.specs.Entries.{Ask, Table, no_entries, entries_of}
use Rattle.name_table.specs.Gathered.{told}
use Rattle.name_table.proofs.Gathering.{told_twice}

-- told of these, then of those
pub joined : (t0 t1 t2 : Table) (xs ys us vs : List Ask) → t1 ≡ told t0 xs → t2 ≡ told t1 ys → xs ≡ us → ys ≡ vs → t2 ≡ told t0 (us ++ vs)
joined t0 t1 t2 xs ys us vs h k a b =
    k
    ∙ ap (λ (t : Table). told t ys) h
    ∙ told_twice t0 xs ys
    ∙ ap (told t0) (ap₂ (λ (l m : List Ask). l ++ m) a b)

-- things of one class were asked for
pub asked : {A B : Type 0} (c : NameClass) (name : A → Option Name) (f : B → Ask) (view : A → B) (old new : Table) (xs : List A) (zs : List B) →
    new ≡ told old (map (λ o. (c, o)) (map name xs)) → map view xs ≡ zs → ((x : A) → ◌≡◌ {A = Ask} (c, name x) (f (view x))) → new ≡ told old (map f zs)
asked c name f view old new xs zs h e k =
    h
    ∙ ap (told old)
    (map-map (λ o. (c, o)) name xs ∙ map_agree (λ x. (c, name x)) (λ x. f (view x)) k xs ∙ sym (map-map f view xs) ∙ ap (map f) e)

-- six lists
pub six : (t0 t1 t2 t3 t4 t5 t6 : Table) (a b c d e f : List Ask) → t1 ≡ told t0 a → t2 ≡ told t1 b → t3 ≡ told t2 c → t4 ≡ told t3 d → t5 ≡ told t4 e → t6 ≡ told t5 f →
    t6 ≡ told t0 (a ++ (b ++ (c ++ (d ++ (e ++ f)))))
six t0 t1 t2 t3 t4 t5 t6 a b c d e f ha hb hc hd he hf =
    let from4 : t6 ≡ told t4 (e ++ f) = joined t4 t5 t6 e f e f he hf refl refl in
    let from3 : t6 ≡ told t3 (d ++ (e ++ f)) = joined t3 t4 t6 d (e ++ f) d (e ++ f) hd from4 refl refl in
    let from2 : t6 ≡ told t2 (c ++ (d ++ (e ++ f))) = joined t2 t3 t6 c (d ++ (e ++ f)) c (d ++ (e ++ f)) hc from3 refl refl in
    let from1 : t6 ≡ told t1 (b ++ (c ++ (d ++ (e ++ f)))) = joined t1 t2 t6 b (c ++ (d ++ (e ++ f))) b (c ++ (d ++ (e ++ f))) hb from2 refl refl in
    joined t0 t1 t6 a (b ++ (c ++ (d ++ (e ++ f)))) a (b ++ (c ++ (d ++ (e ++ f)))) ha from1 refl refl

-- a table that had no entries
pub from_none : (k : Target) (t0 t : Table) (xs : List Ask) → t0 ≡ no_entries k → t ≡ told t0 xs → (t.target ≡ k) × (t.entries ≡ entries_of k xs)
from_none k t0 t xs e h =
    let is : t ≡ told (no_entries k) xs = h ∙ ap (λ (u : Table). told u xs) e in
    (ap (λ (u : Table). u.target) is, ap (λ (u : Table). u.entries) is)
