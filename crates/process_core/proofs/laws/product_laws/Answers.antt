use Rattle.process_core.specs.Product.{one_of_each-map, one_of_each-append, one_of_each_none, one_of_each_single, one_of_each_last, length-one_of_each, extended_all}
use Rattle.process_core.proofs.laws.product_laws.Goals as goal

pub returns : goal.returns
returns g c = record {
  map_through = one_of_each-map;
  joined = one_of_each-append;
  none = one_of_each_none;
  first_one = one_of_each_single;
  last_one = one_of_each_last;
  count = length-one_of_each;
  from_front = extended_all;
}
