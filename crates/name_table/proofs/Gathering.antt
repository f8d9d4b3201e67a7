-- Names that loops ask for, one more.
use Rattle.std.proofs.Common.{◌≡◌, ℕ, ◌+◌, ◌<◌, List, [], ◌∷◌, ◌++◌, map, length, get_or, take, sym, ap, ◌∙◌}
use Rattle.std.specs.Prelude.{Option}
use Rattle.std.proofs.lemmas.List.{map-append}
use Rattle.process_core.specs.Ready.{Name}
use Rattle.name_table.specs.declared.class.NameClass.{NameClass}
use Rattle.name_table.specs.Entries.{Ask, Table, with_next}
use Rattle.name_table.specs.Gathered.{told}
use Rattle.name_table.proofs.EntryLemmas.{after_append}
use Rattle.gathering.proofs.Loops.{taken}

-- ---- asks
pub told_more : {A B : Type 0} (f : B → Ask) (source : A → B) (xs : List A) (i : ℕ) (x : A) (start old new : Table) (c : NameClass) (o : Option Name) →
    i < length xs → x ≡ get_or xs i x → old ≡ told start (map f (map source (take i xs))) → new ≡ with_next old c o → f (source x) ≡ (c, o) →
    new ≡ told start (map f (map source (take (i + 1) xs)))
told_more f source xs i x start old new c o h e so_far next asked =
    next
    ∙ ap (λ t. with_next t c o) so_far
    ∙ ap (λ (l : List _). record { target = start.target; entries = l }) (sym (after_append start.target start.entries (map f (map source (take i xs))) ((c, o) ∷ [])))
    ∙ ap (told start)
    (ap (λ a. map f (map source (take i xs)) ++ a ∷ []) (sym asked)
    ∙ sym (map-append f (map source (take i xs)) (source x ∷ []))
    ∙ ap (map f) (sym (map-append source (take i xs) (x ∷ [])) ∙ ap (map source) (sym (taken xs i x h e))))

pub told_twice : (t : Table) (xs ys : List Ask) → told (told t xs) ys ≡ told t (xs ++ ys)
told_twice t xs ys = ap (λ (l : List _). record { target = t.target; entries = l }) (sym (after_append t.target t.entries xs ys))
