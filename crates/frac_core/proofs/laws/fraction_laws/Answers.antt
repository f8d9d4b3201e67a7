use Rattle.frac_core.specs.Laws.{plus_comm, plus_assoc, plus_nought, plus_negated, difference-plus, times_comm, times_assoc, times_unit, times-plus, times-over, plus-whole, times-whole, times-quotient, times_den, unit_not-nought}
use Rattle.frac_core.specs.Order.{AtMost_refl, AtMost_antisym, AtMost_trans, AtMost_total, Below_not-AtMost, Below_from_not-AtMost, plus_AtMost, times_AtMost, AtMost-whole, Below-whole, compare_ranks, compare_is}
use Rattle.frac_core.specs.Rounding.{floor_AtMost, Below_floor, AtMost_ceil, ceil_Below, whole_floor, is_whole-plus, is_whole-difference, is_whole-times, remainder_some, remainder_none}
use Rattle.frac_core.specs.Sums.{total-append, product-append, total-times}
use Rattle.frac_core.proofs.laws.fraction_laws.Goals as goal

pub returns-clause-field : goal.returns-clause-field
returns-clause-field c = record {
  plus_comm = plus_comm;
  plus_assoc = plus_assoc;
  plus_nought = plus_nought;
  plus_negated = plus_negated;
  difference-plus = difference-plus;
  times_comm = times_comm;
  times_assoc = times_assoc;
  times_unit = times_unit;
  unit_not-nought = unit_not-nought;
  times-plus = times-plus;
  times-over = times-over;
  plus-whole = plus-whole;
  times-whole = times-whole;
  times-quotient = times-quotient;
  times_den = times_den;
}

pub returns-clause-order : goal.returns-clause-order
returns-clause-order c = record {
  AtMost_refl = AtMost_refl;
  AtMost_antisym = AtMost_antisym;
  AtMost_trans = AtMost_trans;
  AtMost_total = AtMost_total;
  Below_iff = λ x y. (Below_not-AtMost x y, Below_from_not-AtMost x y);
  plus_AtMost = plus_AtMost;
  times_AtMost = times_AtMost;
  AtMost-whole = AtMost-whole;
  Below-whole = Below-whole;
  compare_ranks = compare_ranks;
  compare_is = compare_is;
}

pub returns-clause-rounding : goal.returns-clause-rounding
returns-clause-rounding c = record {
  floor_AtMost = floor_AtMost;
  Below_floor = Below_floor;
  AtMost_ceil = AtMost_ceil;
  ceil_Below = ceil_Below;
  whole_floor = whole_floor;
  is_whole-plus = is_whole-plus;
  is_whole-difference = is_whole-difference;
  is_whole-times = is_whole-times;
  remainder_some = remainder_some;
  remainder_none = remainder_none;
}

pub returns-clause-lists : goal.returns-clause-lists
returns-clause-lists c = record {
  total-append = total-append;
  product-append = product-append;
  total-times = total-times;
}
