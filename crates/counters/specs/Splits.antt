-- What two tables mean when they are joined at a point.
use Rattle.std.specs.Prelude.{ℕ, ◌-◌, cond, None, nat_le, nat_lt}
use Rattle.rows.specs.Limits.{top}
use Rattle.counters.specs.Tables.{Table}

-- Below the point by the first table; others up to top by the second, at the distance from the point.
abbrev pub split_table : ℕ → Table → Table → Table
split_table point first second question =
    cond (nat_lt question point) (first question) (cond (nat_le question top) (second (question - point)) None)
