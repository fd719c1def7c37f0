-- The cases, each by computing.
use Rattle.std.proofs.Common.{refl}
use native.Mathlib.Decide.{dec_le, dec_lt, ℕ_discrete}
use Rattle.cases.specs.Cases.{Cases}

pub computed : Cases
unfolding dec_le dec_lt ℕ_discrete
computed = record {
  dozen = refl;
  no_line = refl;
  line_of_0 = refl;
  endless = refl;
  over_top = refl;
  unused = refl;
  half_fails = refl;
  caught_twice = refl;
  no_frames = refl;
  no_fuel = refl;
  fuel_short = refl;
  fuel_enough = refl;
  frames_short = refl;
  frames_enough = refl;
  ifz_binds = refl;
  pair_made = refl;
  ap_binds = refl;
  spent_first = refl;
  next = refl;
  sum = refl;
  sum_over_top = refl;
  difference = refl;
  difference_stops = refl;
  product = refl;
  product_over_top = refl;
  spaced = refl;
  quantity = refl;
  its_price = refl;
  no_price = refl;
  price_of_all = refl;
  first_half = refl;
  second_half = refl;
  both_halves = refl;
  name_of_name = refl;
  twice = refl;
  sum_to_3 = refl;
  drops_s = refl;
  drops_get = refl;
  drops_fst = refl;
  drops_snd = refl;
  drops_ifz = refl;
  drops_ap = refl;
  drops_first = refl;
  drops_second = refl;
  drops_pair_first = refl;
  drops_pair_second = refl;
  passed = refl;
  caught = refl;
  caught_inside = refl;
}
