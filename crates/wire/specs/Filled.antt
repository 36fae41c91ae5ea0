-- A list in an array that is longer: behind it the array is 0.
use Rattle.std.specs.Prelude.{◌≡◌, ℕ, ◌-◌, ◌≤◌, List, ◌++◌, length, take, replicate}

-- xs, filled up with zeros to n
abbrev pub filled : ℕ → List ℕ → List ℕ
filled n xs = xs ++ replicate (n - length xs) 0

-- xs is an array of n, whose first k are a list that it holds
pub record Filled (n k : ℕ) (xs : List ℕ) : Type 0 where
  pub most : k ≤ n
  pub within : k ≤ length xs
  pub is : filled n (take k xs) ≡ xs
