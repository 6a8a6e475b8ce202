-- Which numbers a word stands for. Assumes nothing.
use Rattle.std.specs.Prelude.{◌≡◌, ℕ, zero, suc, ◌+◌, ◌/◌, ◌%◌, ◌^◌, ◌<◌, min, not, ◌&&◌, Option, MatchOption, Bool, true, false, cond, ◌==◌, nat_le}
use Rattle.std.specs.List.{position, range_with_len}

-- whether n is a member of the set that the word w stands for: bit n of w is 1
unfoldable pub member : ℕ → ℕ → Bool
member w n = w / 2 ^ n % 2 == 1

-- no number is a member of w
abbrev pub Empty : ℕ → Type 0
Empty w = (k : ℕ) → member w k ≡ false

-- every member of v is one of w
abbrev pub Subset : ℕ → ℕ → Type 0
Subset v w = (k : ℕ) → member v k ≡ true → member w k ≡ true

-- m is the least member of w
abbrev pub Least : ℕ → ℕ → Type 0
Least w m = (member w m ≡ true) × ((k : ℕ) → k < m → member w k ≡ false)

-- how many numbers below n are members of w
unfoldable pub members_below : ℕ → ℕ → ℕ
members_below w zero = 0
members_below w (suc n) = cond (member w n) 1 0 + members_below w n

-- how many numbers a set can hold: those below its limit that a word of 64 bits has a bit for
abbrev pub width_of : ℕ → ℕ
width_of limit = min limit 64

-- a step through a set of numbers below width: the least member comes and is taken out, or none where none is left
abbrev pub TakesLeast : ℕ → ℕ → Option ℕ → ℕ → Type 0
TakesLeast width from taken rest =
    MatchOption taken (Empty from × (rest ≡ from))
    (λ m. Least from m × (m < width) × ((k : ℕ) → member rest k ≡ (member from k && not (k == m))))

-- the least member of w at or past n, of the numbers below width
abbrev pub least_from : ℕ → ℕ → ℕ → Option ℕ
least_from width w n = position (λ p. member w p && nat_le n p) (range_with_len 0 width)
