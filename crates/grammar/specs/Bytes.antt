-- The classes of bytes, and the longest run of a class at the front of a text.
use Rattle.std.specs.Prelude.{ℕ, suc, ◌+◌, ◌-◌, ◌*◌, Bool, false, cond, List, [], ◌∷◌, ◌==◌, nat_le}
use Rattle.grammar.specs.declared.bytes.Class.{Class}
use Rattle.grammar.specs.declared.bytes.Class.TheVariants.{Space, Open, Close, Hash, Digit, Letter, Other}

-- a ≤ b ≤ c
abbrev pub between : ℕ → ℕ → ℕ → Bool
between a b c = cond (nat_le a b) (nat_le b c) false

abbrev pub class : ℕ → Class
class b = cond (b == 32) Space (cond (b == 40) Open (cond (b == 41) Close (cond (b == 35) Hash (cond (between 48 b 57) Digit (cond (between 97 b 122) Letter Other)))))

abbrev pub number : Class → ℕ
number Space = 0
number Open = 1
number Close = 2
number Hash = 3
number Digit = 4
number Letter = 5
number Other = 6

abbrev pub alike : Class → Class → Bool
alike a b = number a == number b

-- how many bytes at the front are of class k
abbrev pub run : Class → List ℕ → ℕ
run k [] = 0
run k (b ∷ bs) = cond (alike (class b) k) (suc (run k bs)) 0

-- the number that digits write, after those that make `so`
abbrev pub value : List ℕ → ℕ → ℕ
value [] so = so
value (b ∷ bs) so = value bs (so * 10 + (b - 48))
