use Rattle.prism_lex.proofs.Once.{next_one, end_next}
use Rattle.prism_lex.proofs.Readers.{one_reading, one_faults, some_faults, clean_is_faultless}
use Rattle.prism_lex.proofs.Readers as readers
use Rattle.prism_lex.proofs.laws.one_list.Goals as goal

pub returns : goal.returns
returns c = record {
  next = next_one;
  end = end_next;
  reading = one_reading;
  list = readers.one_list;
  faults = one_faults;
  some = some_faults;
  clean = clean_is_faultless;
}
