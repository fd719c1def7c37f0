-- The numbers of a text that renders a term are at most the highest amount.
use Rattle.std.proofs.Common.{ℕ, ◌≤◌, List, [], ◌∷◌, ◌++◌, map, subst, arith}
use Rattle.grammar.specs.Tokens.{Tok, lpar, rpar, word, number, name as hash}
use Rattle.theory.specs.Syntax.{Term}
use Rattle.rows.specs.Limits.{top}
use Rattle.theory.specs.Lists.{All}
use Rattle.theory.specs.Folds.{most, numbers_in, largest}
use Rattle.grammar.specs.TermTokens.{joined, toks_type, term_tokens, toks}
use Rattle.grammar.specs.Renders.{Fits, Written, end, space, token, Renders}
use Rattle.theory.specs.Induction.{by_forms, fold_built}

abbrev Small : Tok → Type 0
Small lpar = Unit {0}
Small rpar = Unit {0}
Small (word w) = Unit {0}
Small (number n) = n ≤ top
Small (hash n) = n ≤ top

small_token : (t : Tok) (bs : List ℕ) → Fits t bs → Small t
small_token lpar bs f = tt
small_token rpar bs f = tt
small_token (word w) bs f = tt
small_token (number n) bs f = f.0
small_token (hash n) bs f = f.0

small_tokens : {bs : List ℕ} {ts : List Tok} → Written bs ts → All Small ts
small_tokens end = tt
small_tokens (space h) = small_tokens h
small_tokens (token {cs = cs} {t = t} e f h) = (small_token t cs f, small_tokens h)

front : (xs ys : List Tok) → All Small (xs ++ ys) → All Small xs
front [] ys h = tt
front (x ∷ xs) ys h = (h.0, front xs ys h.1)

rest : (xs ys : List Tok) → All Small (xs ++ ys) → All Small ys
rest [] ys h = h
rest (x ∷ xs) ys h = rest xs ys h.1

abbrev Numbered : Term → Type 0
Numbered e = All Small (toks e) → largest e ≤ top

all_numbered : (es : List Term) → All Numbered es → All Small (joined (map toks es)) → most (map largest es) ≤ top
all_numbered [] q h = omega arith
all_numbered (e ∷ es) q h =
    let a = q.0 (front (toks e) (joined (map toks es)) h) in
    let b = all_numbered es q.1 (rest (toks e) (joined (map toks es)) h) in
    omega arith

numbered : (e : Term) → Numbered e
numbered = by_forms Numbered (λ n h. h.0) (λ n h. h.0)
    (λ f Ts es d e q h.
    let is = fold_built numbers_in f Ts es d e in
    let all = subst (All Small) (fold_built term_tokens f Ts es d e) h in
    let parts = front (joined (map toks es)) (rpar ∷ []) (rest (joined (map toks_type Ts)) (joined (map toks es) ++ rpar ∷ []) all.1.1) in
    let k = all_numbered es q parts in
    omega arith)

pub renders_small : {bs : List ℕ} (e : Term) → Renders bs e → largest e ≤ top
renders_small e h = numbered e (small_tokens h)
