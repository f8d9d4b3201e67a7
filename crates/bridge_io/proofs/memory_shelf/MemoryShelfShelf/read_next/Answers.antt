use Rattle.std.proofs.Common.{◌≡◌, ◌∙◌, Some, min, length, unwrap_or, [], le_of_eq, refl, inl, inr, true≢false, ap, sym}
use Rattle.std.specs.BTreeMap.{get_by_text}
use Rattle.std.proofs.lemmas.Map.Text.{btree_map_updates_text}
use Rattle.bridge_io.specs.Tally.{Counts, with_fault}
use Rattle.bridge_io.proofs.Shelves.{some_there, none_there, some_not_none, none_not_some, neither, calm_kept, still_there, ChangedAt, changed_there, still_on, takes_front, none_left, read_within, no_calm, faults_kept}
use Rattle.bridge_io.proofs.memory_shelf.MemoryShelfShelf.read_next.Goals as goal

pub returns-then-next_fails : goal.returns-then-next_fails
returns-then-next_fails c =
    let failing = c.next_fails.ensures.fails.0 c.if-next_fails.true in
    record {
      many = tt;
      bound = tt;
      taken = tt;
      held = tt;
      end = tt;
      same = refl;
      fails = (λ _. inl failing, λ _. refl);
      counts = tt;
      fault = c.fault.ensures.faults ∙ ap with_fault c.next_fails.ensures.calls;
      count = faults_kept c.args.self.now.tally c.next_fails.new.self c.fault.new.self c.next_fails.ensures.calls c.fault.ensures.count;
      not_steady = λ was. no_calm c.args.self.now.tally failing was.1;
      steady = λ other was. absurd (no_calm c.args.self.now.tally failing was.1);
    }

pub returns-in_default : goal.returns-in_default
returns-in_default c =
    let files : get_by_text c.get_mut.follows.lender-at-none ≡ get_by_text c.args.self.now.files = ap (λ files. get_by_text files) c.get_mut.follows.holds-at-none in
    record {
      many = tt;
      bound = tt;
      taken = tt;
      held = tt;
      end = tt;
      same = files;
      fails = (λ _. inr (none_there _ c.in_default.ensures.value), λ _. refl);
      counts = tt;
      fault = c.fault-in_default.ensures.faults ∙ ap with_fault c.next_fails.ensures.calls;
      count = faults_kept c.args.self.now.tally c.next_fails.new.self c.fault-in_default.new.self c.next_fails.ensures.calls c.fault-in_default.ensures.count;
      not_steady = λ was. none_not_some _ c.in_default.ensures.value was.0;
      steady = λ other was. (still_there _ _ other files was.0, calm_kept _ _ c.fault-in_default.ensures.faults (c.next_fails.ensures.calm was.1));
    }

pub returns : goal.returns
returns c =
    let was : get_by_text c.args.self.now.files c.args.name.now ≡ Some c.in-Some.stored.now = sym c.in-Some.ensures.value in
    let changed : ChangedAt (get_by_text c.args.self.now.files) (get_by_text (c.get_mut.follows.lender c.read.new.self)) c.args.name.now c.read.new.self =
    btree_map_updates_text c.args.name.now c.args.self.now.files (c.get_mut.follows.lender c.read.new.self) (Some c.read.new.self) ((c.get_mut.follows.holds c.read.new.self).3 (some_there _ _ c.in-Some.ensures.value)) in
    let now = changed_there _ _ _ _ changed in
    let many = c.read.ensures.many in
    record {
      many = many ∙ ap (λ o. min (length c.args.piece.now) (length (unwrap_or o []))) (sym was);
      bound = read_within _ _ _ many;
      taken = takes_front _ _ _ _ _ _ was changed c.read.ensures.taken;
      held = some_there _ _ (sym now);
      end = λ none. now ∙ ap Some (none_left _ _ _ _ _ c.requires many c.read.ensures.taken none);
      same = tt;
      fails = (λ ok. absurd (true≢false (sym ok)), λ failed. absurd (neither (λ failing. true≢false (sym (c.next_fails.ensures.fails.1 failing) ∙ c.if-next_fails.false)) (some_not_none _ _ c.in-Some.ensures.value) failed));
      counts = c.next_fails.ensures.calls;
      fault = tt;
      count = le_of_eq (ap (λ (t : Counts). t.faults) (sym c.next_fails.ensures.calls));
      not_steady = tt;
      steady = λ other on. (still_on _ _ _ _ changed other on.0, c.next_fails.ensures.calm on.1);
    }
