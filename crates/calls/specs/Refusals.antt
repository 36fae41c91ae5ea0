-- FORMAT.md, "Refusals": a call's tests, in their order.
use Rattle.std.specs.Prelude.{ℕ, List, [], ◌∷◌, Bool, cond, eqb}

-- the number where the test fails, else 0
abbrev pub test : ℕ → Bool → ℕ
test number holds = cond holds 0 number

-- the first number that is not 0
unfoldable pub verdict : List ℕ → ℕ
verdict [] = 0
verdict (n ∷ ns) = cond (eqb n 0) (verdict ns) n
