-- A part of a list, and bytes laid over a list from a place on. Assumes nothing.
use Rattle.std.specs.Prelude.{ℕ, ◌+◌, List, ◌++◌, length, take, drop}

-- the n elements from `at` on
abbrev pub part : ℕ → ℕ → List ℕ → List ℕ
part at n xs = take n (drop at xs)

-- xs, with the elements of ds in the places from `at` on
unfoldable pub splice : ℕ → List ℕ → List ℕ → List ℕ
splice at ds xs = take at xs ++ (ds ++ drop (at + length ds) xs)
