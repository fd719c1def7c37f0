-- What lines mean as a basket, and when they are refused.
use Rattle.std.specs.Prelude.{ℕ, ◌+◌, Bool, cond, ◌&&◌, List, [], ◌∷◌, length, Some, None, sum_by, count_by, ◌==◌, nat_le, nat_lt}
use Rattle.counters.specs.declared.line.Line.{Line}
use Rattle.counters.specs.Limits.{most_lines, largest_field}
use Rattle.counters.specs.Tables.{Table}
use Rattle.counters.specs.Refusals.{Outcome, earlier}

-- Whether a line is one of an article.
abbrev pub is_of : ℕ → Line → Bool
is_of article line = line.article == article

-- What a line adds to the quantity of an article.
abbrev pub adds : ℕ → Line → ℕ
adds article line = cond (is_of article line) line.quantity 0

-- The sum over the article's lines; nothing where no line has the article.
abbrev pub basket_table : List Line → Table
basket_table lines article = cond (nat_lt 0 (count_by (is_of article) lines)) (Some (sum_by (adds article) lines)) None

-- Whether both fields of a line are at most 9,999.
abbrev pub is_small : Line → Bool
is_small line = nat_le line.article largest_field && nat_le line.quantity largest_field

-- 32 at place i for a line with a field above 9,999.
abbrev pub line_fault : Line → ℕ → Outcome
line_fault line i = cond (is_small line) None (Some (32, i))

-- The first fault of these lines, of which the first has place i.
abbrev pub first_large : List Line → ℕ → Outcome
first_large [] i = None
first_large (line ∷ lines) i = earlier (line_fault line i) (first_large lines (i + 1))

-- 31 above 200 lines, and then 32 at the first line with a field above 9,999.
abbrev pub basket_outcome : List Line → Outcome
basket_outcome lines = cond (nat_lt most_lines (length lines)) (Some (31, most_lines)) (first_large lines 0)
