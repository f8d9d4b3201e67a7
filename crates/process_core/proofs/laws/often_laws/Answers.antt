use Rattle.process_core.specs.Often.{often_IsPermutation, often_count, often-map, often-filter, often-append, often_turned, often-flat_map, often_exchange, often-one_of_each, often_split, often_parts}
use Rattle.process_core.proofs.laws.often_laws.Goals as goal

pub returns : goal.returns
returns g c = record {
  reordered = often_IsPermutation;
  counted = λ xs ys. often_count;
  mapped = λ f xs ys. often-map f;
  filtered = λ p xs ys. often-filter p;
  appended = λ xs ys us vs. often-append;
  turned = often_turned;
  walked = λ f k xs ys. often-flat_map f k;
  exchanged = often_exchange;
  multiplied = λ before xs ys rest. often-one_of_each before rest;
  split = often_split;
  parted = often_parts;
}
