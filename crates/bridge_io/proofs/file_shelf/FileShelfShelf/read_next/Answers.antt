use Rattle.std.proofs.Common.{arith, ◌≡◌, ◌∙◌, ℕ, List, Some, get_or, le_of_eq, refl, ap, sym}
use Rattle.std.specs.Prelude.{Contains, slice_get}
use Rattle.std.proofs.lemmas.Option.{slice_get_within, slice_get-get_or}
use Rattle.bridge_io.specs.Outside.{next_count}
use Rattle.bridge_io.specs.FileShelf.{words_of, faults_of}
use Rattle.bridge_io.proofs.file_shelf.FileShelfShelf.read_next.Goals.{in_default-via-in-None-1, in_default-via-in-Some+in-Err-1}
use Rattle.bridge_io.proofs.file_shelf.FileShelfShelf.read_next.Goals as goal

-- What is found at a place is contained.
found_there : (words : List (List ℕ)) (number : ℕ) (name : List ℕ) → slice_get words number ≡ Some name → Contains words name
found_there words number name found =
    let within = slice_get_within words number name found in
    let same : Some (get_or words number name) ≡ Some name = sym (slice_get-get_or words number name within) ∙ found in
    (number, within, cc)

pub returns : goal.returns
returns g c = record {
  bound = c.in-Ok.ensures.bound;
  taken = tt;
  held = tt;
  end = λ _. tt;
  same = tt;
  count = le_of_eq refl;
  cause = tt;
  not_steady = tt;
  word = found_there _ _ _ c.in-Some.ensures.found;
  words = refl;
  no_fault = refl;
  fault = tt;
}

pub returns-2 : goal.returns-2
returns-2 g c =
    let faults : c.in_default.self.faults ≡ c.args.self.now.faults = elim c.in_default.branch [ in_default-via-in-None-1 w ↦ ap faults_of w.self-is | in_default-via-in-Some+in-Err-1 w ↦ ap faults_of w.self-is ] in
    let counted : c.saturating_add-self.result ≡ next_count c.args.self.now.faults = c.saturating_add-self.ensures ∙ ap next_count faults in
    record {
      bound = tt;
      taken = tt;
      held = tt;
      end = tt;
      same = refl;
      count = omega (arith, counted);
      cause = le_of_eq (sym counted);
      not_steady = λ held. held;
      word = tt;
      words = elim c.in_default.branch [ in_default-via-in-None-1 w ↦ ap words_of w.self-is | in_default-via-in-Some+in-Err-1 w ↦ ap words_of w.self-is ];
      no_fault = tt;
      fault = counted;
    }
