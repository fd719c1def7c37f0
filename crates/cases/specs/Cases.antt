-- Rules tried at the till: each text, with the basket, the limits, and the halt that it comes to. Above each
-- stands how its numbers come of the machine's rules, counted by hand.
use Rattle.std.specs.Prelude.{◌≡◌, List, [], ◌∷◌, Some}
use Prim.Native.String.{String}
use Rattle.counters.specs.declared.line.Line.{Line}
use Rattle.counters.specs.declared.price.PriceRow.{PriceRow}
use Rattle.runs.specs.Standings.{Limits, limits, number, failed, spent, tall, full}
use Rattle.cases.specs.Till.{line, price, Halt, outcome}

-- The limits where none are named.
abbrev pub wide : Limits
wide = limits 1000 64 256

-- A roll is article 7 and costs 40.
abbrev pub prices : List PriceRow
prices = price 7 40 ∷ price 9 180 ∷ []

-- Twelve rolls on two lines, with a line of another article between.
abbrev pub a_dozen : List Line
a_dozen = line 7 5 ∷ line 9 1 ∷ line 7 7 ∷ []

-- No line of rolls.
abbrev pub nothing : List Line
nothing = []

-- One line of no rolls.
abbrev pub a_line_of_0 : List Line
a_line_of_0 = line 7 0 ∷ []

-- Forty a roll, thirty-five from a dozen on.
abbrev pub rolls : String
rolls = "(ifz (sub 12 (get 7)) (mul (get 7) 35) (mul (get 7) 40))"

-- The text, read and run over these lines and the prices, halts so.
abbrev pub Ends : List Line → Limits → String → Halt → Type 0
Ends lines L text h = outcome lines prices L text ≡ Some h

-- Each comes out as it is stated.
pub record Cases : Type 0 where
  -- The rolls. Up to the answer of get 7: ifz opens, sub opens, 12, on to sub's second part, get opens, 7, the
  -- answer (a move). That is 7 steps and 1 move. Then 12 - 12 = 0 (a move), ifz takes its first branch (a move), mul
  -- opens, get opens, 7, the answer (a move), on to the second part, 35, and 12 * 35 = 420 (a move): 16 steps and 5
  -- moves in all.
  pub dozen : Ends a_dozen wide rolls (number 420, 16, 5, 0)
  -- There is no answer: the failure drops sub and ifz, a move each: 9 steps and 3 moves in all.
  pub no_line : Ends nothing wide rolls (failed, 9, 3, 0)
  -- Then 12 - 0 = 12 (a move), ifz takes its second branch (a move and a cell), and as above 0 * 40 = 0.
  pub line_of_0 : Ends a_line_of_0 wide rolls (number 0, 16, 5, 1)
  -- Each step unrolls the fix once more, with a move and a cell; the fourth would make a cell beyond the limit.
  pub endless : Ends nothing (limits 1000 64 3) "(fix nat #0)" (full, 3, 3, 3)
  -- s opens, the number, and one more than top is a failure (a move).
  pub over_top : Ends nothing wide "(s 999999999)" (failed, 3, 1, 0)
  -- ap opens, lam, the body is entered with the fail for its name (a move and a cell), 5. The fail is never run.
  pub unused : Ends nothing wide "(ap (lam (to nat nat) 5) (fail nat))" (number 5, 4, 1, 1)
  -- fst opens, pair opens, 1, on to the second part, fail, and the failure drops pair and fst (2 moves).
  pub half_fails : Ends nothing wide "(fst (pair (both nat nat) 1 (fail nat)))" (failed, 7, 2, 0)
  -- Both catches open, fail, the inner catch goes to its second part (a move), fail, the outer one too (a move), 3.
  pub caught_twice : Ends nothing wide "(catch (catch (fail nat) (fail nat)) 3)" (number 3, 7, 2, 0)
  -- The first step would add a frame.
  pub no_frames : Ends nothing (limits 1000 0 256) "(s 1)" (tall, 0, 0, 0)
  -- No step is allowed.
  pub no_fuel : Ends nothing (limits 0 64 256) "7" (spent, 0, 0, 0)
  -- Limits, met exactly and missed by one.
  -- After 15 of the 16 steps only the last move is missing. With a fuel of 16 the run has ended, and is not spent.
  pub fuel_short : Ends a_dozen (limits 15 64 256) rolls (spent, 15, 4, 0)
  pub fuel_enough : Ends a_dozen (limits 16 64 256) rolls (number 420, 16, 5, 0)
  -- get opens in sub in ifz: three frames. With two the run halts after ifz opens, sub opens, 12 and on to the
  -- second part.
  pub frames_short : Ends a_dozen (limits 1000 2 256) rolls (tall, 4, 0, 0)
  pub frames_enough : Ends a_dozen (limits 1000 3 256) rolls (number 420, 16, 5, 0)
  -- ifz would bind its name in step 9, after the answer and the difference.
  pub ifz_binds : Ends a_line_of_0 (limits 1000 64 0) rolls (full, 8, 2, 0)
  -- The pair would be made in step 6: fst opens, pair opens, 1, on to the second part, 2.
  pub pair_made : Ends nothing (limits 1000 64 0) "(fst (pair (both nat nat) 1 2))" (full, 5, 0, 0)
  -- ap would bind its name in step 3: ap opens, lam.
  pub ap_binds : Ends nothing (limits 1000 64 0) "(ap (lam (to nat nat) #0) 5)" (full, 2, 0, 0)
  -- Of several limits fuel is told first.
  pub spent_first : Ends nothing (limits 3 64 3) "(fix nat #0)" (spent, 3, 3, 3)
  -- Numbers. Each opens, runs its parts with one step between them, and makes one move.
  pub next : Ends nothing wide "(s 999999998)" (number 999999999, 3, 1, 0)
  pub sum : Ends nothing wide "(add 2 3)" (number 5, 5, 1, 0)
  pub sum_over_top : Ends nothing wide "(add 999999999 1)" (failed, 5, 1, 0)
  pub difference : Ends nothing wide "(sub 5 3)" (number 2, 5, 1, 0)
  pub difference_stops : Ends nothing wide "(sub 3 5)" (number 0, 5, 1, 0)
  pub product : Ends nothing wide "(mul 6 7)" (number 42, 5, 1, 0)
  pub product_over_top : Ends nothing wide "(mul 100000 10000)" (failed, 5, 1, 0)
  -- Spaces around tokens are no part of the rule.
  pub spaced : Ends nothing wide " ( add  2 3 )" (number 5, 5, 1, 0)
  -- Questions: below 10,000 to the basket, from there on to the price list.
  -- get opens, the question, the answer (a move).
  pub quantity : Ends a_dozen wide "(get 7)" (number 12, 3, 1, 0)
  pub its_price : Ends nothing wide "(get 10007)" (number 40, 3, 1, 0)
  pub no_price : Ends a_dozen wide "(get 10008)" (failed, 3, 1, 0)
  -- mul opens, 3 steps to 12, on to the second part, 3 steps to 40, 480: 9 steps, with 3 moves.
  pub price_of_all : Ends a_dozen wide "(mul (get 7) (get 10007))" (number 480, 9, 3, 0)
  -- Pairs. fst or snd opens, pair opens, 1, on to the second part, 2, the pair (a cell), its half (a move).
  pub first_half : Ends nothing wide "(fst (pair (both nat nat) 1 2))" (number 1, 7, 1, 1)
  pub second_half : Ends nothing wide "(snd (pair (both nat nat) 1 2))" (number 2, 7, 1, 1)
  -- The pair goes in unrun and is made twice: 3 steps to enter the body (a move, a cell), add opens, 7 steps to 3 (a
  -- move, a cell), on to the second part, 7 steps to 4 (a move, a cell), 7 (a move). 3 + 1 + 7 + 1 + 7 + 1 steps.
  pub both_halves :
      Ends nothing wide
      "(ap (lam (to (both nat nat) nat) (add (fst #0) (snd #0))) (pair (both nat nat) 3 4))"
      (number 7, 20, 4, 3)
  -- Functions.
  -- 3 steps enter the outer body (a move, a cell), where the inner function has the outer name for its argument; 3
  -- steps enter the inner one (a move, a cell), and 5 is returned: looking a name up is no step.
  pub name_of_name : Ends nothing wide "(ap (lam (to nat nat) (ap (lam (to nat nat) #0) #0)) 5)" (number 5, 7, 2, 2)
  -- A function applied twice. Both ap open, lam, entered, lam, entered: 6 steps, 2 moves, 2 cells. Then ap opens,
  -- lam, entered, s opens: 4 steps, a move, a cell; the same again; 5, and two sums of 1 more, with 2 moves: 6 + 4 +
  -- 4 + 3 steps.
  pub twice :
      Ends nothing wide
      "(ap (ap (lam (to (to nat nat) (to nat nat)) (lam (to nat nat) (ap #1 (ap #1 #0)))) (lam (to nat nat) (s #0))) 5)"
      (number 7, 17, 6, 4)
  -- The sum of the numbers up to 3. A call opens ap, unrolls the fix (a move, a cell), lam, is entered (a move, a
  -- cell), opens ifz and returns its number n: 6 steps, 2 moves, 2 cells. At 0: ifz (a move) and 0, 8 steps, 3 moves
  -- and 2 cells in all. Above: ifz (a move, a cell), add opens, n, on to the second part, the call for n - 1, the
  -- sum (a move): 11 steps, 4 moves, 3 cells and those of that call. 3 * 11 + 8 steps, 3 * 4 + 3 moves, 3 * 3 + 2
  -- cells.
  pub sum_to_3 :
      Ends nothing wide
      "(ap (fix (to nat nat) (lam (to nat nat) (ifz #0 0 (add #1 (ap #2 #0))))) 3)"
      (number 6, 41, 15, 11)
  -- A failure drops each kind of frame with one move. Where the first part fails: the form opens, fail, dropped.
  pub drops_s : Ends nothing wide "(s (fail nat))" (failed, 3, 1, 0)
  pub drops_get : Ends a_dozen wide "(get (fail nat))" (failed, 3, 1, 0)
  pub drops_fst : Ends nothing wide "(fst (fail (both nat nat)))" (failed, 3, 1, 0)
  pub drops_snd : Ends nothing wide "(snd (fail (both nat nat)))" (failed, 3, 1, 0)
  pub drops_ifz : Ends nothing wide "(ifz (fail nat) 1 2)" (failed, 3, 1, 0)
  pub drops_ap : Ends nothing wide "(ap (fail (to nat nat)) 1)" (failed, 3, 1, 0)
  pub drops_first : Ends nothing wide "(sub (fail nat) 1)" (failed, 3, 1, 0)
  -- Where the second part fails: the form opens, 1, on to the second part, fail, dropped.
  pub drops_second : Ends nothing wide "(mul 1 (fail nat))" (failed, 5, 1, 0)
  -- Inside a snd: that opens before, and is dropped after.
  pub drops_pair_first : Ends nothing wide "(snd (pair (both nat nat) (fail nat) 1))" (failed, 5, 2, 0)
  pub drops_pair_second : Ends nothing wide "(snd (pair (both nat nat) 1 (fail nat)))" (failed, 7, 2, 0)
  -- catch.
  -- It opens, 4, and passes it on (a move).
  pub passed : Ends nothing wide "(catch 4 9)" (number 4, 3, 1, 0)
  -- It opens, fail, and goes to its second part (a move), 9.
  pub caught : Ends nothing wide "(catch (fail nat) 9)" (number 9, 4, 1, 0)
  -- The frames below it stay: add opens, 1, on to the second part, catch opens, s opens, fail, s is dropped (a
  -- move), catch goes to its second part (a move), 2, and 1 + 2 (a move).
  pub caught_inside : Ends nothing wide "(add 1 (catch (s (fail nat)) 2))" (number 3, 10, 3, 0)
